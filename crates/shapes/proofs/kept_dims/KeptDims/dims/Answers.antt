-- The tests agree with the relation.
use Rattle.std.proofs.Common.{◌≡◌, ◌≤◌, sym, ◌∙◌, All}
use Rattle.shapes.specs.declared.TheConstants.{MAX_EXTENT}
use Rattle.shapes.specs.Shapes.{IsDims}
use Rattle.shapes.proofs.ShapeLemmas.{dims_alone_told, dims_alone_read, small_dims, IfSome-from}
use Rattle.shapes.proofs.kept_dims.KeptDims.dims.Goals as goal

pub returns-clause-spelled : goal.returns-clause-spelled
returns-clause-spelled c = IfSome-from c.spelled.result (IsDims c.args.self.now) (λ ns e. dims_alone_told c.args.self.now ns (sym c.spelled.ensures ∙ e))

pub returns-clause-only : goal.returns-clause-only
returns-clause-only c = λ ns h. c.spelled.ensures ∙ dims_alone_read c.args.self.now ns h

pub returns-clause-small : goal.returns-clause-small
returns-clause-small c =
    IfSome-from c.spelled.result (All (λ n. n ≤ MAX_EXTENT)) (λ ns e. small_dims c.args.self.now ns (dims_alone_told c.args.self.now ns (sym c.spelled.ensures ∙ e)).0)
