-- The order of the bytes, and how many there are.
use Rattle.std.proofs.Common.{◌≡◌, ap, sym, ◌∙◌, arith}
use Rattle.hdf_values.specs.Integers.{number_of, in_order}
use Rattle.hdf_values.proofs.EncodedLemmas.{all_bytes}
use Rattle.hdf_values.proofs.IntegerLemmas.{number_within, width_again}
use Rattle.hdf_values.proofs.integers.plain_number.Goals as goal

pub high_first-requires : goal.high_first-requires
high_first-requires c = width_again c.args.int.now.bits _ c.requires.width c.requires.room

pub low_first-requires : goal.low_first-requires
low_first-requires c = width_again c.args.int.now.bits _ c.requires.width c.requires.room

pub returns-then-int : goal.returns-then-int
returns-then-int c =
    let t = c.args.int.now in
    let bytes = c.args.bytes.now in
    let value : c.high_first.result ≡ number_of (in_order c.args.int.now.big c.args.bytes.now) = c.high_first.ensures ∙ ap (λ o. number_of (in_order o bytes)) (sym c.if-int.true) in
    record { value = value; within = omega (arith, value, number_within t bytes c.requires.width (all_bytes bytes c.type_inv.bytes) c.requires.room) }

pub returns-else-int : goal.returns-else-int
returns-else-int c =
    let t = c.args.int.now in
    let bytes = c.args.bytes.now in
    let value : c.low_first.result ≡ number_of (in_order c.args.int.now.big c.args.bytes.now) = c.low_first.ensures ∙ ap (λ o. number_of (in_order o bytes)) (sym c.if-int.false) in
    record { value = value; within = omega (arith, value, number_within t bytes c.requires.width (all_bytes bytes c.type_inv.bytes) c.requires.room) }
