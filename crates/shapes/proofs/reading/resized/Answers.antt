-- The tests in order agree with the relation.
use Rattle.std.proofs.Common.{sym, ◌∙◌}
use Rattle.shapes.specs.Shapes.{IsSound}
use Rattle.shapes.proofs.ShapeLemmas.{resized_told, resized_read, resized_sound, IfOk-from}
use Rattle.shapes.proofs.reading.resized.Goals as goal

pub returns-clause-resized : goal.returns-clause-resized
returns-clause-resized c = IfOk-from c.first_resized.result _ (λ t e. resized_told c.args.shape.now c.args.dims.now t (sym c.first_resized.ensures ∙ e))

pub returns-clause-only : goal.returns-clause-only
returns-clause-only c = λ t h. c.first_resized.ensures ∙ resized_read c.args.shape.now c.args.dims.now t h

pub returns-clause-sound : goal.returns-clause-sound
returns-clause-sound c = λ sound small.
    IfOk-from c.first_resized.result IsSound (λ t e. resized_sound c.args.shape.now c.args.dims.now t sound small (resized_told c.args.shape.now c.args.dims.now t (sym c.first_resized.ensures ∙ e)))
