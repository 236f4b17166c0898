-- What holds of every access list.
use Rattle.std.specs.Prelude.{◌≡◌, ◌≤◌, ℕ, List, Some, true, length}
use Rattle.std.specs.FinMap.{get, len}
use Rattle.object_ids.specs.Names.{is_name}
use Rattle.access_lists.specs.declared.rights.Rights.{Rights}
use Rattle.access_lists.specs.InForce.{Entries, most_entries}

-- there are at most so many entries, and each stands under a name
pub record IsList (list : Entries) : Type 0 where
  pub few : len list ≤ most_entries
  pub names : (name : List ℕ) (entry : Rights) → get list name ≡ Some entry → is_name (length name) name ≡ true
