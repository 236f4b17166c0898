-- The linear index's coordinates among the extents are the steps taken on each axis.
use Rattle.std.proofs.Common.{◌≡◌, List, ℕ, ap, sym, subst, ◌∙◌}
use Rattle.shapes.specs.RowMajor.{IsInside, digits_by, linear_index}
use Rattle.shapes.specs.Shapes.{LiesIn}
use Rattle.shapes.proofs.CellLemmas.{digits_in}
use Rattle.shapes.proofs.RowMajorLemmas.{index_once}
use Rattle.hyperslab.specs.Selected.{axes_of, extents, is_at, point, cell_at}
use Rattle.hyperslab.proofs.SelectLemmas.{lies_inside}
use Rattle.hyperslab.proofs.CellLemmas.{cell_listed, cell_selected, cells_listed, cells_inside}
use Rattle.hyperslab.proofs.Slab.coords.Goals as goal

pub stepped-requires-clause-inside : goal.stepped-requires-clause-inside
stepped-requires-clause-inside c =
    let P = λ (ns : List ℕ). IsInside c.coords_at.result ns in
    subst P (c.grid.ensures.dims ∙ c.extents.ensures.divided) (lies_inside c.coords_at.result c.grid.result c.coords_at.ensures.inside)

pub returns : goal.returns
returns c =
    let s = c.args.self.now in
    let k = c.args.k in
    let P = λ (ns : List ℕ). IsInside c.coords_at.result ns in
    let same = c.grid.ensures.dims ∙ c.extents.ensures.divided in
    let inside = subst P same (lies_inside c.coords_at.result c.grid.result c.coords_at.ensures.inside) in
    let here : linear_index c.coords_at.result (extents s) ≡ k = sym (ap (linear_index c.coords_at.result) same) ∙ c.coords_at.ensures.index in
    let lies = digits_in (extents s) k c.requires.below in
    let digits = index_once c.coords_at.result (digits_by (extents s) k) (extents s) inside lies.0 (here ∙ sym lies.1) in
    let found : c.stepped.result ≡ cell_at s k = c.stepped.ensures ∙ ap (λ ks. point ks (axes_of s)) digits in
    record {
      stepped = found;
      selected = ap (is_at (axes_of s)) found ∙ cell_selected s k c.requires.slab c.requires.below;
      listed = λ dims fits. cell_listed s dims k c.requires.slab fits c.requires.below ∙ sym found;
      cell = λ shape within. cells_listed s shape k c.requires.slab within c.requires.below ∙ sym found;
      inside = λ shape within.
          (let Q = λ (at : List ℕ). LiesIn at shape in
          subst Q (sym found) (cells_inside s shape k c.requires.slab within c.requires.below));
    }
