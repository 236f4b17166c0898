-- Piece by piece.
use Rattle.std.proofs.Common.{◌≡◌, suc, ◌-◌, ◌*◌, length, drop, arith}
use Rattle.std.proofs.lemmas.List.{length-drop}
use Rattle.hdf_types.specs.Elems.{int}
use Rattle.hdf_types.specs.Reading.{int_size}
use Rattle.hdf_values.specs.Elements.{decoded}
use Rattle.hdf_values.proofs.PrintLemmas.{underway_piece, underway_closed}
use Rattle.hdf_values.proofs.printing.numbers.write_ints.Goals as goal

pub split_at-requires : goal.split_at-requires
split_at-requires c =
    let here = c.loop.invariant (suc (c.args.count - c.loop.counter - 1)) (omega arith) in
    omega (arith, here.0)

pub loop-preserved : goal.loop-preserved
loop-preserved c rest q =
    let size = int_size c.args.int.now.bits in
    let left = c.loop.left.now in
    let here = c.loop.invariant (suc rest) (omega arith) in
    let behind : length (drop (int_size c.args.int.now.bits) c.loop.left.now) ≡ rest * int_size c.args.int.now.bits = omega (arith, here.0, length-drop size left) in
    rw c.split_at.ensures.back (behind, underway_piece (decoded (int c.args.int.now)) _ _ rest size _ left _ _ c.split_at.ensures.front here.1 c.in_ok-write_int.ensures)

pub returns : goal.returns
returns c =
    let here = c.loop.invariant 0 (omega arith) in
    underway_closed _ _ _ _ _ here.1 c.end_array.ensures
