use Rattle.std.proofs.Common.{◌≡◌, ◌∙◌, sym, ap, option_map, List, ℕ, arith, length, rules}
use Rattle.std.specs.FinMap.{FinMap, len, len-empty}
use Rattle.std.specs.Map.Iter.{deref_pair}
use Rattle.std.proofs.lemmas.Bool.{cond-true, cond-false, le-leb, lt-leb}
use Rattle.std.proofs.lemmas.Map.Iter.{rest_more, rest_all}
use Rattle.containers.specs.TextMaps.Keyed.{text_order, with_entries}
use Rattle.access_lists.specs.declared.rights.Rights.{Rights}
use Rattle.toml.specs.View.{view}
use Rattle.configuration.specs.Settings.{entry_of}
use Rattle.configuration.specs.Tables.{all_of}
use Rattle.configuration.proofs.TableLemmas.{Entry, rest_of, length-rest_of, len-insert-le, walk_step}
use Rattle.configuration.proofs.rights.read_list.Goals as goal

pub returns-then-len-gt-MAX_ENTRIES-clause-bad : goal.returns-then-len-gt-MAX_ENTRIES-clause-bad
returns-then-len-gt-MAX_ENTRIES-clause-bad c = λ _. cond-false _ _ _ (lt-leb (length (rest_of c.args.table.now.entries)) 1024 (omega (arith, length-rest_of c.args.table.now.entries)))

pub entries-init : goal.entries-init
entries-init c =
    let start : c.into_iter-key-iterator.result ≡ c.args.table.now.entries = search rules in (
      ap (λ (es : List Entry). option_map (with_entries c.new-list.result) (all_of entry_of (rest_of es))) start
          ∙ ap (λ (m : FinMap text_order Rights). option_map (with_entries m) (all_of entry_of (rest_of c.args.table.now.entries))) c.new-list.ensures,
      (let none : len c.new-list.result ≡ 0 = ap len c.new-list.ensures ∙ len-empty text_order Rights in omega (arith, ap length start)),
    )

pub entries-preserved : goal.entries-preserved
entries-preserved c =
    let is = rest_more deref_pair c.entries.key-iterator c.next.new.self c.next.result (c.in-Some.key, c.in-Some.value) c.in-Some.is c.next.ensures.steps in
    let put = c.in_ok-put_entry.ensures.ok in (
      ap (λ (m : FinMap text_order Rights). option_map (with_entries m) (all_of entry_of (rest_of c.next.new.self))) put
          ∙ walk_step entry_of c.entries.list (rest_of c.entries.key-iterator) (rest_of c.next.new.self) _ (c.in_ok-name.name, c.in_ok-name.rights) (ap rest_of is)
          (ap (λ (k : List ℕ). entry_of (k, view c.in-Some.value.now)) (sym c.as_str.ensures.value) ∙ c.in_ok-name.ensures.ok)
          ∙ c.entries.invariant.0,
      omega (arith, ap length is, ap len put, len-insert-le c.entries.list c.in_ok-name.name c.in_ok-name.rights, c.entries.invariant.1),
    )

pub returns-clause-ok : goal.returns-clause-ok
returns-clause-ok c =
    let is = rest_all deref_pair c.entries.key-iterator c.next.new.self c.next.result c.in-None.is c.next.ensures.steps in
    cond-true _ _ _ (le-leb (length (rest_of c.args.table.now.entries)) 1024 (omega (arith, length-rest_of c.args.table.now.entries)))
    ∙ sym c.entries.invariant.0 ∙ ap (λ (es : List Entry). option_map (with_entries c.entries.list) (all_of entry_of (rest_of es))) is
