use Rattle.std.proofs.Common.{◌∙◌, ap, sym, subst, List, ℕ}
use Rattle.std.specs.Prelude.{◌≡◌, Some}
use Rattle.object_ids.specs.Paths.{parent_of, path_of}
use Rattle.object_ids.proofs.PathLemmas.{path_of-parent_of}
use Rattle.object_ids.proofs.paths.DomainPath.parent.Goals as goal

pub invariant_of-result : goal.invariant_of-result
invariant_of-result c =
    let e = c.in_ok-from_str.ensures.ok ∙ c.parent_text.ensures ∙ ap parent_of c.as_str.ensures.value in
    subst (λ (q : List ℕ). path_of q ≡ Some q) (sym e) (path_of-parent_of _ c.self.invariant)
