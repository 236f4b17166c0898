use Rattle.std.proofs.Common.{◌≡◌, ◌++◌, drop, map, option_map}
use Rattle.toml.specs.View.{view}
use Rattle.configuration.specs.People.{user_of}
use Rattle.configuration.specs.Tables.{all_of}
use Rattle.configuration.proofs.people.users_in.Given as goal

abbrev pub invariant-users : goal.invariant-users
invariant-users l = option_map (λ us. l.users.items ++ us) (all_of user_of (map view (drop l.value-index l.values))) ≡ all_of user_of (map view l.values)
