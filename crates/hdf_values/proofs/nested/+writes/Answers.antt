-- Piece by piece.
use Rattle.std.proofs.Common.{suc, ◌*◌, ◌/◌, ◌-◌, length, map, take, drop, sym, ap, ◌∙◌, arith}
use Rattle.std.proofs.lemmas.List.{append-nil, length-drop, take_all}
use Rattle.serde_json.specs.View.{view}
use Rattle.serde_json.proofs.Views.{view-Array}
use Rattle.hdf_types.specs.Reading.{size_of}
use Rattle.hdf_types.specs.Views.{elem}
use Rattle.shapes.specs.RowMajor.{cell_count}
use Rattle.hdf_values.specs.Nested.{nested_decoded}
use Rattle.hdf_values.proofs.WriteLemmas.{piece_size, piece_within, piece_encoded, tree_pushed, list_decoded}
use Rattle.hdf_values.proofs.nested.+writes.Goals as goal
use Rattle.hdf_values.proofs.PieceLemmas.{some_left}

pub axes_tree-returns : goal.axes_tree-returns
axes_tree-returns t c =
    let dims = c.args.extents.now in
    let rest = take (length dims - 1) (drop 1 dims) in
    let some = some_left dims c.if-is_empty.ensures in
    let behind = take_all (length dims - 1) (drop 1 dims) (omega (arith, length-drop 1 dims)) in
    view-Array c.in_ok-list.list ∙ list_decoded (elem c.args.kind.now) dims rest c.args.bytes.now (map view c.in_ok-list.list.items) some behind c.in_ok-list.ensures

pub members_list-split_at-requires : goal.members_list-split_at-requires
members_list-split_at-requires t c =
    let cells = cell_count c.args.extents.now in
    let size = size_of (elem c.args.kind.now) in
    let m = c.args.count - c.loop.counter - 1 in
    let here = c.loop.invariant (suc (c.args.count - c.loop.counter - 1)) (omega arith) in
    let step = ap (λ n. length c.args.bytes.now / n) c.max.ensures ∙ piece_size c.args.count cells size (length c.args.bytes.now) (omega arith) c.requires.encoded.whole in
    rw step (piece_within m cells size (length c.loop.left.now) here.0.whole)

pub members_list-axes_tree-requires : goal.members_list-axes_tree-requires
members_list-axes_tree-requires t c =
    let cells = cell_count c.args.extents.now in
    let size = size_of (elem c.args.kind.now) in
    let m = c.args.count - c.loop.counter - 1 in
    let here = c.loop.invariant (suc (c.args.count - c.loop.counter - 1)) (omega arith) in
    let step = ap (λ n. length c.args.bytes.now / n) c.max.ensures ∙ piece_size c.args.count cells size (length c.args.bytes.now) (omega arith) c.requires.encoded.whole in
    let front = c.split_at.ensures.front ∙ ap (λ n. take n c.loop.left.now) step in
    (omega arith, (c.requires.sound, rw front (piece_encoded (elem c.args.kind.now) cells m c.loop.left.now here.0).0))

pub members_list-loop-preserved : goal.members_list-loop-preserved
members_list-loop-preserved t c rest q =
    let e = elem c.args.kind.now in
    let cells = cell_count c.args.extents.now in
    let k = cells * size_of e in
    let dec = nested_decoded e c.args.extents.now in
    let left = c.loop.left.now in
    let here = c.loop.invariant (suc rest) (omega arith) in
    let step = ap (λ n. length c.args.bytes.now / n) c.max.ensures ∙ piece_size c.args.count cells (size_of e) (length c.args.bytes.now) (omega arith) c.requires.encoded.whole in
    let front = c.split_at.ensures.front ∙ ap (λ n. take n left) step in
    let back = c.split_at.ensures.back ∙ ap (λ n. drop n left) step in
    let shown = c.in_ok-axes_tree.ensures ∙ ap dec front in
    rw (back, c.in_ok-push.ensures.items) ((piece_encoded e cells rest left here.0).1, tree_pushed dec c.loop.list.items c.in_ok-axes_tree.field-0 rest k left _ shown here.1)

pub members_list-returns : goal.members_list-returns
members_list-returns t c =
    let here = c.loop.invariant 0 (omega arith) in
    sym (append-nil (map view c.loop.list.items)) ∙ here.1
