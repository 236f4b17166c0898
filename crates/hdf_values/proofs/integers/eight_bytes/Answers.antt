-- Two's complement, and the order of the bytes.
use Rattle.std.proofs.Common.{◌≡◌, ◌<◌, ◌^◌, ap, ◌∙◌, true, false, refl, take, arith}
use Rattle.std.specs.Int.{w128}
use Rattle.std.proofs.lemmas.Int.{ints, to_z-of_z}
use Rattle.hdf_types.specs.Reading.{int_size}
use Rattle.hdf_values.specs.Integers.{twos as twos_of}
use Rattle.hdf_values.proofs.ByteLemmas.{low_front, high_front}
use Rattle.hdf_values.proofs.IntegerLemmas.{width_told, bytes_told, twos_within}
use Rattle.hdf_values.proofs.integers.eight_bytes.Goals as goal

pub twos-number-requires-clause-not_below : goal.twos-number-requires-clause-not_below
twos-number-requires-clause-not_below c =
    let within = width_told c.args.int.now c.args.value c.requires.width c.requires.fits in
    omega (arith, ints, within.0)

pub twos-number-requires-clause-not_above : goal.twos-number-requires-clause-not_above
twos-number-requires-clause-not_above c =
    let within = width_told c.args.int.now c.args.value c.requires.width c.requires.fits in
    omega (arith, ints, within.1)

pub returns-then-int : goal.returns-then-int
returns-then-int c =
    let bits = c.args.int.now.bits in
    let number : c.twos-number.result ≡ twos_of c.args.int.now.bits c.args.value = c.twos-number.ensures ∙ ap (twos_of c.args.int.now.bits) (to_z-of_z w128 c.args.value c.ranges.value) in
    let low : c.twos-number.result < 2 ^ c.args.int.now.bits = omega (arith, number, twos_within c.args.int.now c.args.value c.requires.width c.requires.fits) in
    ap (take (int_size bits)) c.to_be_bytes.ensures ∙ high_front bits c.twos-number.result c.requires.width low
    ∙ bytes_told c.args.int.now c.args.value true (int_size bits) c.twos-number.result c.if-int.true refl number

pub returns-else-int : goal.returns-else-int
returns-else-int c =
    let bits = c.args.int.now.bits in
    let number : c.twos-number.result ≡ twos_of c.args.int.now.bits c.args.value = c.twos-number.ensures ∙ ap (twos_of c.args.int.now.bits) (to_z-of_z w128 c.args.value c.ranges.value) in
    ap (take (int_size bits)) c.to_le_bytes.ensures ∙ low_front bits c.twos-number.result c.requires.width
    ∙ bytes_told c.args.int.now c.args.value false (int_size bits) c.twos-number.result c.if-int.false refl number
