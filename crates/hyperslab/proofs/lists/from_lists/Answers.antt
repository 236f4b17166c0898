-- What is judged of a shape lies in it.
use Rattle.std.proofs.Common.{subst, sym, ◌∙◌}
use Rattle.std.specs.Prelude.{◌<◌, ◌^◌, All, Result, IfOk}
use Rattle.hyperslab.specs.declared.Slab.{Slab}
use Rattle.hyperslab.specs.declared.SlabFault.{SlabFault}
use Rattle.hyperslab.specs.Selected.{SlabIn}
use Rattle.hyperslab.proofs.ShortSteps.{given_short}
use Rattle.hyperslab.proofs.WithinLemmas.{judged_within}
use Rattle.hyperslab.proofs.lists.from_lists.Goals as goal

pub returns-in-Some-clause-within : goal.returns-in-Some-clause-within
returns-in-Some-clause-within c =
    let P = λ (r : Result Slab SlabFault). IfOk r (λ s. SlabIn s c.args.shape.now) in
    subst P (sym c.judged.ensures.first) (judged_within c.args.shape.now c.in-Some.slab)

pub returns-in-Some-clause-steps : goal.returns-in-Some-clause-steps
returns-in-Some-clause-steps c =
    let P = λ (r : Result Slab SlabFault). IfOk r (λ s. All (λ n. n < 10 ^ 10) s.step) in
    let made = sym c.lists.ensures ∙ c.in-Some.is in
    subst P (sym c.judged.ensures.first) (given_short c.args.shape.now c.dims.result c.args.start.now c.args.stop.now c.args.step.now c.in-Some.slab c.dims.ensures made)
