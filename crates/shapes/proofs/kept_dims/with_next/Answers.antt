use Rattle.std.proofs.Common.{Some, sym, ap, ◌∙◌}
use Rattle.json_trees.proofs.OfKept.PassLemmas.{is_value}
use Rattle.shapes.specs.Extents.{extent_in}
use Rattle.shapes.specs.Spelled.{dims_with}
use Rattle.shapes.proofs.kept_dims.with_next.Goals as goal

pub returns-in_ok-next_extent-in-Some-clause-told : goal.returns-in_ok-next_extent-in-Some-clause-told
returns-in_ok-next_extent-in-Some-clause-told c tree rest h =
    let found = c.in_ok-next_extent-in-Some.ensures.told tree rest h in
    (found.0, c.longer.ensures ∙ ap (dims_with (Some c.in-Some.dims)) found.1 ∙ ap (λ ns. dims_with ns (extent_in tree)) (sym c.in-Some.is))

pub returns-in_ok-pass_value-in-None-clause-told : goal.returns-in_ok-pass_value-in-None-clause-told
returns-in_ok-pass_value-in-None-clause-told c tree rest h =
    (c.in_ok-pass_value-in-None.ensures.passed rest (is_value _ rest tree h), ap (λ ns. dims_with ns (extent_in tree)) (sym c.in-None.is))
