-- The tests in order agree with the relation.
use Rattle.std.proofs.Common.{sym, ◌∙◌}
use Rattle.shapes.specs.Shapes.{IsSound}
use Rattle.shapes.proofs.ShapeLemmas.{shape_told, shape_read, shape_sound, IfOk-from}
use Rattle.shapes.proofs.reading.read_shape.Goals as goal

pub returns-clause-spelled : goal.returns-clause-spelled
returns-clause-spelled c = IfOk-from c.first_of.result _ (λ s e. shape_told _ _ s (sym c.first_of.ensures ∙ e))

pub returns-clause-only : goal.returns-clause-only
returns-clause-only c = λ s h. c.first_of.ensures ∙ shape_read _ _ s h

pub returns-clause-sound : goal.returns-clause-sound
returns-clause-sound c = IfOk-from c.first_of.result IsSound (λ s e. shape_sound _ _ s (shape_told _ _ s (sym c.first_of.ensures ∙ e)))
