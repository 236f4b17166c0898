-- The tests are those of the definition.
use Rattle.std.proofs.Common.{sym, ap, ◌∙◌}
use Rattle.shapes.specs.Shapes.{lies_in}
use Rattle.shapes.proofs.InsideLemmas.{test_told, none_inside}
use Rattle.shapes.proofs.Shape.contains.Goals as goal

pub returns-in-Simple-clause-inside : goal.returns-in-Simple-clause-inside
returns-in-Simple-clause-inside c = test_told c.args.at.now c.args.self.now c.is_below.result (c.is_below.ensures ∙ ap (lies_in c.args.at.now) (sym c.in-Simple.is))

pub returns-in-Scalar-clause-inside : goal.returns-in-Scalar-clause-inside
returns-in-Scalar-clause-inside c =
    test_told c.args.at.now c.args.self.now c.is_empty.result (none_inside c.args.at.now c.is_empty.result c.is_empty.ensures ∙ ap (lies_in c.args.at.now) (sym c.in-Scalar.is))

pub returns-in-Scalar-clause-tested : goal.returns-in-Scalar-clause-tested
returns-in-Scalar-clause-tested c = none_inside c.args.at.now c.is_empty.result c.is_empty.ensures ∙ ap (lies_in c.args.at.now) (sym c.in-Scalar.is)
