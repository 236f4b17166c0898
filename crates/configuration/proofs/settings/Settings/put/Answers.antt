use Rattle.std.proofs.Common.{◌≡◌, ◌∙◌, ap, sym, subst, String, Global, Some, string_bytes, List, ℕ}
use Rattle.std.specs.FinMap.{FinMap, insert}
use Rattle.containers.proofs.TextMaps.KeyedMaps.{insert-keyed}
use Rattle.containers.specs.TextMaps.Keyed.{text_order, keyed}
use Rattle.object_ids.specs.Paths.{path_of}
use Rattle.configuration.specs.Catalogues.{ArePaths}
use Rattle.configuration.proofs.SettingLemmas.{ArePaths-insert}
use Rattle.configuration.specs.declared.setting.Setting.{Setting}
use Rattle.configuration.proofs.settings.Settings.put.Goals as goal

pub returns : goal.returns
returns c =
    insert-keyed string_bytes c.self.inside.entries c.insert.new.self (string_bytes c.in_ok-key.key) c.args.setting c.in_ok-insert.ensures.updates
    ∙ ap (λ (m : FinMap text_order Setting). insert m (string_bytes c.in_ok-key.key) c.args.setting) c.self.view_is
    ∙ ap (λ (k : List ℕ). insert c.args.self.now k c.args.setting) c.in_ok-key.ensures.ok

pub invariant_of-self-2 : goal.invariant_of-self-2
invariant_of-self-2 c =
    let path : path_of (string_bytes c.in_ok-key.key) ≡ Some (string_bytes c.in_ok-key.key) = subst (λ (q : List ℕ). path_of q ≡ Some q) (sym c.in_ok-key.ensures.ok) c.requires in
    subst (λ (es : List (String Global × Setting)). ArePaths (keyed string_bytes es)) (sym c.in_ok-insert.ensures.entries)
    (ArePaths-insert c.in_ok-key.key c.args.setting c.self.inside.entries.entries path c.self.invariant)
