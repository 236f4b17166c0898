use Rattle.std.proofs.Common.{List, ℕ, subst}
use Rattle.domains.specs.Contents.{Contents, IsFree}
use Rattle.domains.proofs.Puts.{next_is_free}
use Rattle.domains.proofs.catalogue.Catalogue.next_number.Goals as goal

pub returns-clause-free : goal.returns-clause-free
returns-clause-free c =
    let Free : Contents → Type 0 = λ k. (path : List ℕ) → IsFree k path c.self.inside.next in
    subst Free c.self.view_is (next_is_free (record { nodes = c.self.inside.nodes; next = c.self.inside.next }) c.self.invariant)
