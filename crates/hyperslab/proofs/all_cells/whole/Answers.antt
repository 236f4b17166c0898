-- Every number of each axis is selected, so the extents are the dims.
use Rattle.std.proofs.Common.{ap, subst, sym, ◌∙◌, arith}
use Rattle.std.specs.Prelude.{◌≡◌, Result, IfOk}
use Rattle.shapes.specs.RowMajor.{room_of}
use Rattle.shapes.specs.Shapes.{IsSoundGrid, cells_of}
use Rattle.hyperslab.specs.declared.Slab.{Slab}
use Rattle.hyperslab.specs.declared.SlabFault.{SlabFault}
use Rattle.hyperslab.specs.Selected.{extents, slab_cells, SlabIn}
use Rattle.hyperslab.specs.Judged.{bounded, whole_of}
use Rattle.hyperslab.proofs.AxisLemmas.{axes_all, extents_all}
use Rattle.hyperslab.proofs.WholeLemmas.{whole_cells, whole_extents}
use Rattle.hyperslab.proofs.WithinLemmas.{whole_within}
use Rattle.hyperslab.proofs.all_cells.whole.Goals as goal

pub bounded-requires-clause-axes : goal.bounded-requires-clause-axes
bounded-requires-clause-axes c =
    let sound : IsSoundGrid c.in-Simple.dims c.in-Simple.maxdims = rw c.in-Simple.is at c.requires in
    rw c.all_of_dims.ensures (axes_all c.in-Simple.dims sound.small_dims)

pub bounded-requires-clause-room : goal.bounded-requires-clause-room
bounded-requires-clause-room c =
    let sound : IsSoundGrid c.in-Simple.dims c.in-Simple.maxdims = rw c.in-Simple.is at c.requires in
    omega (arith, ap (λ s. room_of (extents s)) c.all_of_dims.ensures, ap room_of (extents_all c.in-Simple.dims), sound.fitting.room)

pub returns-in-Simple-clause-within : goal.returns-in-Simple-clause-within
returns-in-Simple-clause-within c =
    let P = λ (r : Result Slab SlabFault). IfOk r (λ s. SlabIn s c.args.shape.now) in
    subst P (ap whole_of c.in-Simple.is ∙ sym (c.bounded.ensures.first ∙ ap bounded c.all_of_dims.ensures)) (whole_within c.args.shape.now)

pub returns-in-Simple-clause-all : goal.returns-in-Simple-clause-all
returns-in-Simple-clause-all c =
    let P = λ (r : Result Slab SlabFault). IfOk r (λ s. slab_cells s c.args.shape.now ≡ cells_of c.args.shape.now) in
    subst P (ap whole_of c.in-Simple.is ∙ sym (c.bounded.ensures.first ∙ ap bounded c.all_of_dims.ensures)) (whole_cells c.args.shape.now c.requires)

pub returns-in-Simple-clause-extents : goal.returns-in-Simple-clause-extents
returns-in-Simple-clause-extents c = λ dims limits e.
    (let P = λ (r : Result Slab SlabFault). IfOk r (λ s. extents s ≡ dims) in
    subst P (ap whole_of c.in-Simple.is ∙ sym (c.bounded.ensures.first ∙ ap bounded c.all_of_dims.ensures)) (whole_extents c.args.shape.now dims limits e))
