-- Piece by piece.
use Rattle.std.proofs.Common.{◌≡◌, suc, ◌-◌, ◌*◌, length, map, drop, sym, ap, ◌∙◌, arith}
use Rattle.std.proofs.lemmas.List.{append-nil, length-drop}
use Rattle.serde_json.specs.View.{view}
use Rattle.hdf_types.specs.Elems.{text}
use Rattle.hdf_values.specs.Elements.{decoded}
use Rattle.hdf_values.proofs.WriteLemmas.{tree_pushed}
use Rattle.hdf_values.proofs.texts.texts_list.Goals as goal

pub split_at-requires : goal.split_at-requires
split_at-requires c =
    let here = c.loop.invariant (suc (c.args.count - c.loop.counter - 1)) (omega arith) in
    omega (arith, here.0.whole)

pub decode_text-requires : goal.decode_text-requires
decode_text-requires c =
    let here = c.loop.invariant (suc (c.args.count - c.loop.counter - 1)) (omega arith) in
    rw c.split_at.ensures.front here.0.each.0

pub loop-preserved : goal.loop-preserved
loop-preserved c rest q =
    let t = c.args.kind.now in
    let left = c.loop.left.now in
    let here = c.loop.invariant (suc rest) (omega arith) in
    let shown = c.in_ok-decode_text.ensures ∙ ap (decoded (text t)) c.split_at.ensures.front in
    let behind : length (drop c.args.kind.now.len c.loop.left.now) ≡ rest * c.args.kind.now.len = omega (arith, here.0.whole, length-drop t.len left) in
    rw (c.split_at.ensures.back, c.in_ok-push.ensures.items) (record { whole = behind; each = here.0.each.1 }, tree_pushed (decoded (text t)) c.loop.list.items c.in_ok-decode_text.field-0 rest t.len left _ shown here.1)

pub returns : goal.returns
returns c =
    let here = c.loop.invariant 0 (omega arith) in
    sym (append-nil (map view c.loop.list.items)) ∙ here.1
