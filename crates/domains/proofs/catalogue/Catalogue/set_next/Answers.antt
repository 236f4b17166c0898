use Rattle.std.proofs.Common.{ℕ, ◌<◌, List, sym, subst}
use Rattle.object_ids.specs.IdValues.{Id}
use Rattle.domains.specs.Contents.{Contents, IsDomainAt}
use Rattle.domains.proofs.Removals.{next-valid}
use Rattle.domains.proofs.catalogue.Catalogue.set_next.Goals as goal

pub invariant_of-self : goal.invariant_of-self
invariant_of-self c =
    let Above : Contents → Type 0 = λ k. (path : List ℕ) (number : ℕ) (root : Id) → IsDomainAt k path number root → number < c.args.next in
    next-valid (record { nodes = c.self.inside.nodes; next = c.self.inside.next }) c.args.next (subst Above (sym c.self.view_is) c.requires.above) c.requires.fits c.self.invariant
