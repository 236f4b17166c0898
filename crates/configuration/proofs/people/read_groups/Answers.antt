use Rattle.std.proofs.Common.{◌≡◌, ◌∙◌, ◌++◌, [], sym, ap, option_map, List, ℕ, rules}
use Rattle.std.specs.Prelude.{Option}
use Rattle.std.specs.Option.{unwrap_or}
use Rattle.std.specs.FinMap.{FinMap, get-empty}
use Rattle.std.specs.Map.Iter.{deref_pair}
use Rattle.std.proofs.lemmas.Map.Iter.{rest_more, rest_all}
use Rattle.containers.specs.TextMaps.Keyed.{text_order}
use Rattle.toml.specs.View.{view}
use Rattle.configuration.specs.People.{group_of, groups_with, names_at}
use Rattle.configuration.specs.Tables.{all_of}
use Rattle.configuration.proofs.PeopleLemmas.{groups_step, groups_end}
use Rattle.configuration.proofs.TableLemmas.{Entry, rest_of, walk_none, none_before, passed_on}
use Rattle.configuration.proofs.people.read_groups.Goals as goal

pub groups-init : goal.groups-init
groups-init c = λ q.
    let start : c.into_iter-key-iterator.result ≡ c.args.table.now.entries = search rules in
    ap (λ (es : List Entry). option_map (λ gs. names_at c.new-memberships.result q ++ groups_with gs q) (all_of group_of (rest_of es))) start
    ∙ ap (λ (f : List (List ℕ)). option_map (λ gs. f ++ groups_with gs q) (all_of group_of (rest_of c.args.table.now.entries)))
    (ap (λ (m : FinMap text_order (List (List ℕ))). names_at m q) c.new-memberships.ensures ∙ ap (λ (o : Option (List (List ℕ))). unwrap_or o []) (get-empty text_order q))

pub returns-in_err-read_group-clause-bad : goal.returns-in_err-read_group-clause-bad
returns-in_err-read_group-clause-bad c =
    let is = rest_more deref_pair c.groups.key-iterator c.next.new.self c.next.result (c.in-Some.key, c.in-Some.value) c.in-Some.is c.next.ensures.steps in
    λ err.
    let failed = c.in_err-read_group.ensures.bad (passed_on c.from_residual.result c.in_err-read_group.field-0.0 _ c.from_residual.ensures.1 err) in
    none_before (λ gs. groups_with gs []) _
    (sym (c.groups.invariant [])
    ∙ walk_none (λ gs. names_at c.groups.memberships [] ++ groups_with gs []) group_of (rest_of c.groups.key-iterator) (rest_of c.next.new.self) _ (ap rest_of is)
    (ap (λ (k : List ℕ). group_of (k, view c.in-Some.value.now)) (sym c.as_str.ensures.value) ∙ failed))

pub groups-preserved : goal.groups-preserved
groups-preserved c =
    let is = rest_more deref_pair c.groups.key-iterator c.next.new.self c.next.result (c.in-Some.key, c.in-Some.value) c.in-Some.is c.next.ensures.steps in
    let fact = c.in_ok-read_group.ensures.ok in
    λ q.
    groups_step (names_at c.groups.memberships) (names_at c.read_group.new.memberships) (rest_of c.groups.key-iterator) (rest_of c.next.new.self) _ fact.0
    (ap rest_of is) (ap (λ (k : List ℕ). group_of (k, view c.in-Some.value.now)) (sym c.as_str.ensures.value) ∙ fact.1) fact.2 q
    ∙ c.groups.invariant q

pub returns-clause-ok : goal.returns-clause-ok
returns-clause-ok c =
    let is = rest_all deref_pair c.groups.key-iterator c.next.new.self c.next.result c.in-None.is c.next.ensures.steps in
    groups_end (names_at c.groups.memberships) (all_of group_of (rest_of c.args.table.now.entries))
    (λ q. ap (λ (es : List Entry). option_map (λ gs. names_at c.groups.memberships q ++ groups_with gs q) (all_of group_of (rest_of es))) (sym is) ∙ c.groups.invariant q)
