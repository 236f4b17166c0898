use Rattle.std.proofs.Common.{◌≡◌, ◌∙◌, sym, ap, option_map, List, ℕ, length}
use Rattle.std.specs.Prelude.{Some}
use Rattle.std.specs.FinMap.{FinMap}
use Rattle.std.specs.Map.Iter.{deref_pair}
use Rattle.std.proofs.lemmas.Bool.{cond-true, cond-false, eq-eqb, ne_eqb}
use Rattle.std.proofs.lemmas.Map.Iter.{rest_more, rest_all}
use Rattle.containers.specs.TextMaps.Keyed.{text_order, with_entries}
use Rattle.toml.specs.View.{view}
use Rattle.object_ids.proofs.PathLemmas.{path_of-canonical}
use Rattle.configuration.specs.Settings.{setting_of}
use Rattle.configuration.specs.Tables.{all_of}
use Rattle.configuration.specs.declared.setting.Setting.{Setting}
use Rattle.configuration.proofs.SettingLemmas.{settings_end}
use Rattle.configuration.proofs.TableLemmas.{Entry, rest_of, length-rest_of, length-all_of, both-some, walk_step}
use Rattle.configuration.proofs.settings.read_settings.Goals as goal

pub put-requires : goal.put-requires
put-requires c = path_of-canonical c.as_str.result.now c.in-Some-path_text.path.now (sym c.in-Some-path_text.ensures)

pub returns-then-len-clause-bad : goal.returns-then-len-clause-bad
returns-then-len-clause-bad c =
    let is = rest_all deref_pair c.settings.key-iterator c.next.new.self c.next.result c.in-None.is c.next.ensures.steps in
    let entries = c.args.table.now.entries in
    λ err.
    settings_end (all_of setting_of (rest_of entries)) c.settings.settings (length entries)
    (ap (λ (es : List Entry). option_map (with_entries c.settings.settings) (all_of setting_of (rest_of es))) (sym is) ∙ c.settings.invariant)
    (λ es h. length-all_of setting_of (rest_of entries) es h ∙ length-rest_of entries)
    ∙ cond-false _ _ _ (ne_eqb _ _ (λ e. c.if-len.true (c.len.ensures.value ∙ e ∙ sym c.len-2.ensures.len)))

pub returns-clause-ok : goal.returns-clause-ok
returns-clause-ok c =
    let is = rest_all deref_pair c.settings.key-iterator c.next.new.self c.next.result c.in-None.is c.next.ensures.steps in
    let entries = c.args.table.now.entries in
    settings_end (all_of setting_of (rest_of entries)) c.settings.settings (length entries)
    (ap (λ (es : List Entry). option_map (with_entries c.settings.settings) (all_of setting_of (rest_of es))) (sym is) ∙ c.settings.invariant)
    (λ es h. length-all_of setting_of (rest_of entries) es h ∙ length-rest_of entries)
    ∙ cond-true _ _ _ (eq-eqb _ _ (sym c.len.ensures.value ∙ c.if-len.false ∙ c.len-2.ensures.len))

pub settings-preserved : goal.settings-preserved
settings-preserved c =
    let is = rest_more deref_pair c.settings.key-iterator c.next.new.self c.next.result (c.in-Some.key, c.in-Some.value) c.in-Some.is c.next.ensures.steps in
    let found : setting_of (c.as_str.result.now, view c.in-Some.value.now) ≡ Some (c.in-Some-path_text.path.now, c.in_ok-setting.setting) =
    both-some _ _ _ _ (sym c.in-Some-path_text.ensures) c.in_ok-setting.ensures.ok in
    ap (λ (m : FinMap text_order Setting). option_map (with_entries m) (all_of setting_of (rest_of c.next.new.self))) c.in_ok-put.ensures
    ∙ walk_step setting_of c.settings.settings (rest_of c.settings.key-iterator) (rest_of c.next.new.self) _ (c.in-Some-path_text.path.now, c.in_ok-setting.setting) (ap rest_of is)
    (ap (λ (k : List ℕ). setting_of (k, view c.in-Some.value.now)) (sym c.as_str.ensures.value) ∙ found)
    ∙ c.settings.invariant
