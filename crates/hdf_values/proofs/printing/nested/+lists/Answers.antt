-- Piece by piece.
use Rattle.std.proofs.Common.{suc, ◌*◌, ◌/◌, ◌-◌, length, take, drop, ap, ◌∙◌, arith}
use Rattle.std.proofs.lemmas.List.{length-drop, take_all}
use Rattle.hdf_types.specs.Reading.{size_of}
use Rattle.hdf_types.specs.Views.{elem}
use Rattle.shapes.specs.RowMajor.{cell_count}
use Rattle.hdf_values.specs.Nested.{nested_decoded}
use Rattle.hdf_values.proofs.WriteLemmas.{piece_size, piece_within, piece_encoded}
use Rattle.hdf_values.proofs.PieceLemmas.{some_left}
use Rattle.hdf_values.proofs.PrintLemmas.{list_opened, underway_piece, underway_closed}
use Rattle.hdf_values.proofs.printing.nested.+lists.Goals as goal

pub write_axes-returns : goal.write_axes-returns
write_axes-returns t c =
    let dims = c.args.extents.now in
    let rest = take (length dims - 1) (drop 1 dims) in
    let some = some_left dims c.if-is_empty.ensures in
    let behind = take_all (length dims - 1) (drop 1 dims) (omega (arith, length-drop 1 dims)) in
    list_opened c.write_members.result (elem c.args.kind.now) dims rest c.args.bytes.now c.args.writer.now c.begin_array.new.self c.write_members.new.writer some behind c.in_ok-begin_array.ensures.ok c.begin_array.ensures.room.0 c.write_members.ensures

pub write_members-split_at-requires : goal.write_members-split_at-requires
write_members-split_at-requires t c =
    let cells = cell_count c.args.extents.now in
    let size = size_of (elem c.args.kind.now) in
    let m = c.args.count - c.loop.counter - 1 in
    let here = c.loop.invariant (suc (c.args.count - c.loop.counter - 1)) (omega arith) in
    let step = ap (λ n. length c.args.bytes.now / n) c.max.ensures ∙ piece_size c.args.count cells size (length c.args.bytes.now) (omega arith) c.requires.encoded.whole in
    rw step (piece_within m cells size (length c.loop.left.now) here.0.whole)

pub write_members-write_axes-requires : goal.write_members-write_axes-requires
write_members-write_axes-requires t c =
    let cells = cell_count c.args.extents.now in
    let size = size_of (elem c.args.kind.now) in
    let m = c.args.count - c.loop.counter - 1 in
    let here = c.loop.invariant (suc (c.args.count - c.loop.counter - 1)) (omega arith) in
    let step = ap (λ n. length c.args.bytes.now / n) c.max.ensures ∙ piece_size c.args.count cells size (length c.args.bytes.now) (omega arith) c.requires.encoded.whole in
    let front = c.split_at.ensures.front ∙ ap (λ n. take n c.loop.left.now) step in
    (omega arith, (c.requires.sound, rw front (piece_encoded (elem c.args.kind.now) cells m c.loop.left.now here.0).0))

pub write_members-loop-preserved : goal.write_members-loop-preserved
write_members-loop-preserved t c rest q =
    let e = elem c.args.kind.now in
    let cells = cell_count c.args.extents.now in
    let k = cells * size_of e in
    let left = c.loop.left.now in
    let here = c.loop.invariant (suc rest) (omega arith) in
    let step = ap (λ n. length c.args.bytes.now / n) c.max.ensures ∙ piece_size c.args.count cells (size_of e) (length c.args.bytes.now) (omega arith) c.requires.encoded.whole in
    let front = c.split_at.ensures.front ∙ ap (λ n. take n left) step in
    let back = c.split_at.ensures.back ∙ ap (λ n. drop n left) step in
    rw back ((piece_encoded e cells rest left here.0).1, underway_piece (nested_decoded e c.args.extents.now) _ _ rest k _ left _ _ front here.1 c.in_ok-write_axes.ensures)

pub write_members-returns : goal.write_members-returns
write_members-returns t c =
    let here = c.loop.invariant 0 (omega arith) in
    underway_closed _ _ _ _ _ here.1 c.end_array.ensures
