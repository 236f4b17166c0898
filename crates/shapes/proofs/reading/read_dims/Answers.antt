-- The tests agree with the relation.
use Rattle.std.proofs.Common.{◌≤◌, sym, ◌∙◌, All}
use Rattle.serde_json.specs.View.{view}
use Rattle.shapes.specs.declared.TheConstants.{MAX_EXTENT}
use Rattle.shapes.specs.Shapes.{IsDims}
use Rattle.shapes.proofs.ShapeLemmas.{dims_alone_told, dims_alone_read, small_dims, IfSome-from}
use Rattle.shapes.proofs.reading.read_dims.Goals as goal

pub returns-clause-spelled : goal.returns-clause-spelled
returns-clause-spelled c = IfSome-from c.few_dims.result (IsDims (view c.args.tree.now)) (λ ns e. dims_alone_told (view c.args.tree.now) ns (sym c.few_dims.ensures ∙ e))

pub returns-clause-only : goal.returns-clause-only
returns-clause-only c = λ ns h. c.few_dims.ensures ∙ dims_alone_read (view c.args.tree.now) ns h

pub returns-clause-small : goal.returns-clause-small
returns-clause-small c =
    IfSome-from c.few_dims.result (All (λ n. n ≤ MAX_EXTENT)) (λ ns e. small_dims (view c.args.tree.now) ns (dims_alone_told (view c.args.tree.now) ns (sym c.few_dims.ensures ∙ e)).0)
