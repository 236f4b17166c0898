use Rattle.std.proofs.Common.{◌≡◌, ℕ, cond, List, [], ◌∷◌, ◌++◌, take, bytes_eq}
use Rattle.std.specs.List.{list_any}
use Rattle.std.specs.FinMap.{contains_key}
use Rattle.configuration.specs.People.{names_at}
use Rattle.configuration.proofs.people.add_group.Given as goal

abbrev pub invariant-users : goal.invariant-users
invariant-users l =
    ((q : List ℕ) → contains_key l.known q ≡ list_any (bytes_eq q) (take l.user-index l.users))
    × ((q : List ℕ) → names_at l.memberships q ≡ names_at l.initial.memberships q ++ cond (list_any (bytes_eq q) (take l.user-index l.users)) (l.group ∷ []) [])
