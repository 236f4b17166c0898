-- The reading follows the grammar.
use Rattle.std.proofs.Common.{inl, inr, subst, sym, ◌∙◌}
use Rattle.std.specs.Prelude.{◌<◌, ◌^◌, All, Result, IfOk}
use Rattle.hyperslab.specs.declared.Slab.{Slab}
use Rattle.hyperslab.specs.declared.SlabFault.{SlabFault}
use Rattle.hyperslab.specs.Selected.{SlabIn}
use Rattle.hyperslab.proofs.ShortSteps.{text_short}
use Rattle.hyperslab.proofs.TextLemmas.{text_spelled, text_told, text_bad}
use Rattle.hyperslab.proofs.WithinLemmas.{text_within}
use Rattle.hyperslab.proofs.reading.read_select.Goals as goal

pub returns-clause-spelled : goal.returns-clause-spelled
returns-clause-spelled c = λ parts h. c.first_of.ensures.first ∙ text_spelled c.args.text.now c.args.shape.now parts h

pub returns-clause-bad : goal.returns-clause-bad
returns-clause-bad c = λ byte h. c.first_of.ensures.first ∙ text_bad c.args.text.now c.args.shape.now byte h

pub returns-clause-one_of : goal.returns-clause-one_of
returns-clause-one_of c = elim (text_told c.args.text.now c.args.shape.now) [ inl h ↦ inl h | inr h ↦ inr (h.byte, h.first) ]

pub returns-clause-within : goal.returns-clause-within
returns-clause-within c =
    let P = λ (r : Result Slab SlabFault). IfOk r (λ s. SlabIn s c.args.shape.now) in
    subst P (sym c.first_of.ensures.first) (text_within c.args.text.now c.args.shape.now)

pub returns-clause-steps : goal.returns-clause-steps
returns-clause-steps c =
    let P = λ (r : Result Slab SlabFault). IfOk r (λ s. All (λ n. n < 10 ^ 10) s.step) in
    subst P (sym c.first_of.ensures.first) (text_short c.args.text.now c.args.shape.now)
