-- The bytes of a selection's cells, counted by its extents.
use Rattle.std.proofs.Common.{◌≡◌, ℕ, List, length, ap, subst, sym, ◌∙◌}
use Rattle.hdf_types.specs.Elems.{Elem}
use Rattle.hdf_values.specs.Nested.{AreEncoded}
use Rattle.shapes.specs.RowMajor.{cell_count}
use Rattle.shapes.specs.declared.Shape.{Shape}
use Rattle.hyperslab.specs.declared.Slab.{Slab}
use Rattle.hyperslab.specs.Selected.{IsSlab, SlabIn, extents, slab_cells}
use Rattle.hyperslab.proofs.CellLemmas.{cells_counted}

pub encoded_by_extents : (s : Slab) (shape : Shape) (e : Elem) (dims bs : List ℕ) → IsSlab s → SlabIn s shape → dims ≡ extents s → AreEncoded e (length (slab_cells s shape)) bs → AreEncoded e (cell_count dims) bs
encoded_by_extents s shape e dims bs slab inside divided encoded =
    let P : ℕ → Type 0 = λ n. AreEncoded e n bs in
    subst P (cells_counted s shape slab inside ∙ ap cell_count (sym divided)) encoded
