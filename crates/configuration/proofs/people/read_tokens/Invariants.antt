use Rattle.std.proofs.Common.{◌≡◌, option_map}
use Rattle.configuration.specs.People.{names_at, token_of}
use Rattle.configuration.specs.Tables.{all_of}
use Rattle.configuration.proofs.TableLemmas.{rest_of}
use Rattle.configuration.proofs.people.read_tokens.Given as goal
use Rattle.containers.specs.TextMaps.Keyed.{with_entries, map_of}

abbrev pub invariant-tokens : goal.invariant-tokens
invariant-tokens l =
    option_map (with_entries l.tokens) (all_of (token_of (names_at l.memberships)) (rest_of l.key-iterator))
    ≡ option_map map_of (all_of (token_of (names_at l.memberships)) (rest_of l.table.entries))
