use Rattle.std.proofs.Common.{◌≡◌, ◌∙◌, ap, option_map, List, rules}
use Rattle.std.specs.FinMap.{FinMap}
use Rattle.containers.specs.TextMaps.Keyed.{text_order, with_entries}
use Rattle.access_lists.specs.declared.people.Caller.{Caller}
use Rattle.configuration.specs.People.{names_at, token_of}
use Rattle.configuration.specs.Tables.{all_of}
use Rattle.configuration.proofs.TableLemmas.{Entry, rest_of}
use Rattle.configuration.proofs.people.read_tokens.Goals as goal

pub tokens-init : goal.tokens-init
tokens-init c =
    let start : c.into_iter-key-iterator.result ≡ c.args.table.now.entries = search rules in
    let read = token_of (names_at c.args.memberships.now) in
    ap (λ (es : List Entry). option_map (with_entries c.new-tokens.result) (all_of read (rest_of es))) start
    ∙ ap (λ (m : FinMap text_order Caller). option_map (with_entries m) (all_of read (rest_of c.args.table.now.entries))) c.new-tokens.ensures
