use Rattle.std.proofs.Common.{◌≡◌, ℕ, List, ◌++◌, option_map}
use Rattle.configuration.specs.People.{group_of, groups_with, names_at}
use Rattle.configuration.specs.Tables.{all_of}
use Rattle.configuration.proofs.TableLemmas.{rest_of}
use Rattle.configuration.proofs.people.read_groups.Given as goal

abbrev pub invariant-groups : goal.invariant-groups
invariant-groups l =
    (q : List ℕ) → option_map (λ gs. names_at l.memberships q ++ groups_with gs q) (all_of group_of (rest_of l.key-iterator))
    ≡ option_map (λ gs. groups_with gs q) (all_of group_of (rest_of l.table.entries))
