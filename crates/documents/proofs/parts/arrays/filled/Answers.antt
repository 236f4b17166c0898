use Rattle.std.proofs.Common.{◌∙◌, Ok, ap, sym}
use Rattle.serde_json.specs.View.{view}
use Rattle.json_trees.specs.Shown.{shown}
use Rattle.hdf_types.specs.Views.{elem}
use Rattle.object_ops.specs.Creation.Creations.{shown_creation}
use Rattle.documents.specs.Parts.Arrays.{filled_at}
use Rattle.documents.proofs.OfParts.ArrayLemmas.{filled_told}
use Rattle.documents.proofs.parts.arrays.filled.Goals as goal

pub returns : goal.returns
returns c =
    let at = filled_at c.args.path.now (elem c.args.kind) c.args.shape.now (shown_creation c.args.creation) in
    ap (λ t. at (shown t)) c.in-Some.is
    ∙ filled_told c.args.path.now (elem c.args.kind) c.args.shape.now (shown_creation c.args.creation) (view c.in-Some.tree.now) c.as_slice.result.now c.in_ok-array.array.grid _
    (c.in_ok-bytes.ensures.exact ∙ ap Ok (sym c.as_slice.ensures.value)) c.in_ok-array.ensures.made c.in_ok-with_cells.ensures.written
    ∙ ap Ok (sym c.new-3.ensures)
