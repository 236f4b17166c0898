-- Where there are as many numbers as dims, all are kept.
use Rattle.std.proofs.Common.{◌≡◌, ◌≤◌, length, map, sym, ◌∙◌, arith}
use Rattle.std.proofs.lemmas.List.{length-map}
use Rattle.serde_json.specs.View.{view}
use Rattle.shapes.specs.declared.TheConstants.{MAX_RANK}
use Rattle.chunk_layout.proofs.LayoutLemmas.{counted_same, counted_other, not_equal}
use Rattle.chunk_layout.proofs.reading.counted.Goals as goal

pub returns-then-items-len : goal.returns-then-items-len
returns-then-items-len c =
    let few : length c.args.dims.now ≤ MAX_RANK = c.len.ensures.bounded in
    let same : length (map view c.args.items.now) ≡ length c.args.dims.now = length-map c.args.items.now view ∙ omega arith in
    c.sized.ensures ∙ counted_same c.args.dims.now c.args.size (map view c.args.items.now) c.in-Some.kept same few (sym c.in-Some.ensures)

pub returns-else-items-len : goal.returns-else-items-len
returns-else-items-len c =
    counted_other c.args.dims.now c.args.size (map view c.args.items.now) c.in-Some.kept (not_equal (length (map view c.args.items.now)) (length c.args.dims.now) (λ e. c.if-items-len.false (sym (length-map c.args.items.now view) ∙ e ∙ sym c.len.ensures.count))) (sym c.in-Some.ensures)
