use Rattle.std.proofs.Common.{◌∙◌, ap, subst, List, ℕ}
use Rattle.std.specs.Prelude.{◌≡◌, Some}
use Rattle.object_ids.specs.Paths.{parent_of, path_of}
use Rattle.object_ids.proofs.PathLemmas.{path_of-parent_of, parent_of-joined, parent_of-shorter}
use Rattle.object_ids.proofs.paths.DomainPath.parent_text.Goals as goal

pub returns-clause-canonical : goal.returns-clause-canonical
returns-clause-canonical c = path_of-parent_of c.args.self.now (subst (λ (q : List ℕ). path_of q ≡ Some q) c.self.view_is c.self.invariant)

pub returns-clause-shorter : goal.returns-clause-shorter
returns-clause-shorter c = parent_of-shorter c.args.self.now (subst (λ (q : List ℕ). path_of q ≡ Some q) c.self.view_is c.self.invariant)

pub returns-clause-before_last_slash : goal.returns-clause-before_last_slash
returns-clause-before_last_slash c =
    λ front part e none. c.parent_text.ensures ∙ ap parent_of (c.as_str.ensures.value ∙ c.self.view_is ∙ e) ∙ parent_of-joined front part (λ i h. none i 0 h)
