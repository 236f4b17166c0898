use Rattle.std.proofs.Common.{◌∙◌, ap, sym, add-one}
use Rattle.samples.specs.Values.Samples.{next_state, state}
use Rattle.samples.proofs.values.elements.Elements.next.Goals as goal

pub returns-clause-state : goal.returns-clause-state
unfolding state
returns-clause-state c n k h = c.following-self-inside.ensures ∙ (ap next_state (c.self.view_is ∙ h) ∙ ap (state n) (sym (add-one k)))
