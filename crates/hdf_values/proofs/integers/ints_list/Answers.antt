-- Piece by piece.
use Rattle.std.proofs.Common.{◌≡◌, suc, ◌-◌, ◌*◌, length, map, drop, sym, ap, ◌∙◌, arith}
use Rattle.std.proofs.lemmas.List.{append-nil, length-drop}
use Rattle.serde_json.specs.View.{view}
use Rattle.hdf_types.specs.Elems.{int}
use Rattle.hdf_types.specs.Reading.{int_size}
use Rattle.hdf_values.specs.Elements.{decoded}
use Rattle.hdf_values.proofs.WriteLemmas.{tree_pushed}
use Rattle.hdf_values.proofs.integers.ints_list.Goals as goal

pub split_at-requires : goal.split_at-requires
split_at-requires c =
    let here = c.loop.invariant (suc (c.args.count - c.loop.counter - 1)) (omega arith) in
    omega (arith, here.0)

pub loop-preserved : goal.loop-preserved
loop-preserved c rest q =
    let size = int_size c.args.int.now.bits in
    let left = c.loop.left.now in
    let here = c.loop.invariant (suc rest) (omega arith) in
    let shown = c.decode_int.ensures ∙ ap (decoded (int c.args.int.now)) c.split_at.ensures.front in
    let behind : length (drop (int_size c.args.int.now.bits) c.loop.left.now) ≡ rest * int_size c.args.int.now.bits = omega (arith, here.0, length-drop size left) in
    rw (c.split_at.ensures.back, c.in_ok-push.ensures.items) (behind, tree_pushed (decoded (int c.args.int.now)) c.loop.list.items c.decode_int.result rest size left _ shown here.1)

pub returns : goal.returns
returns c =
    let here = c.loop.invariant 0 (omega arith) in
    sym (append-nil (map view c.loop.list.items)) ∙ here.1
