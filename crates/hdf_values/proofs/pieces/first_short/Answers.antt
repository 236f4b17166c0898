-- What is left behind the last whole number.
use Rattle.std.proofs.Common.{◌≤◌, ◌%◌, length, refl, arith}
use Rattle.hdf_types.specs.Reading.{int_size}
use Rattle.hdf_values.proofs.EncodedLemmas.{all_bytes}
use Rattle.hdf_values.proofs.PieceLemmas.{whole_ints, short_int}
use Rattle.hdf_values.proofs.pieces.first_short.Goals as goal

pub returns-then-bytes-size-eq0-clause-none : goal.returns-then-bytes-size-eq0-clause-none
returns-then-bytes-size-eq0-clause-none c =
    let bytes = c.args.bytes.now in
    (λ none. whole_ints c.args.int.now bytes c.requires (all_bytes bytes c.type_inv.bytes) c.if-bytes-size-eq0.true, λ all. refl)

pub returns-else-bytes-size-eq0-clause-first : goal.returns-else-bytes-size-eq0-clause-first
returns-else-bytes-size-eq0-clause-first c =
    let bytes = c.args.bytes.now in
    let some : 1 ≤ length c.args.bytes.now % int_size c.args.int.now.bits = omega (arith, c.if-bytes-size-eq0.false) in
    short_int c.args.int.now bytes c.requires (all_bytes bytes c.type_inv.bytes) some
