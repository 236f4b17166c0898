use Rattle.std.proofs.Common.{sym, subst, List, ℕ}
use Rattle.std.specs.Prelude.{◌≡◌, Some}
use Rattle.object_ids.specs.Paths.{path_of}
use Rattle.object_ids.proofs.PathLemmas.{path_of-canonical}
use Rattle.object_ids.proofs.paths.read_path.Goals as goal

pub invariant_of-result : goal.invariant_of-result
invariant_of-result c =
    subst (λ (q : List ℕ). path_of q ≡ Some q) (sym c.in_ok-from_str-in-Some.ensures.ok)
    (path_of-canonical c.args.text.now c.in-Some.path.now (sym c.in-Some.ensures))
