use Rattle.std.proofs.Common.{◌∙◌, Ok, ap, sym}
use Rattle.hdf_types.specs.Views.{elem}
use Rattle.object_ops.specs.Creation.Creations.{shown_creation}
use Rattle.documents.proofs.OfParts.ArrayLemmas.{filled_told}
use Rattle.documents.proofs.parts.arrays.filled_with.Goals as goal

pub returns : goal.returns
returns c =
    filled_told c.args.path.now (elem c.args.kind) c.args.shape.now (shown_creation c.args.creation) c.args.value.now c.as_slice.result.now c.in_ok-array.array.grid _
    (c.in_ok-bytes.ensures.exact ∙ ap Ok (sym c.as_slice.ensures.value)) c.in_ok-array.ensures.made c.in_ok-with_cells.ensures.written
    ∙ ap Ok (sym c.new-2.ensures)
