use Rattle.std.proofs.Common.{◌∙◌, ap, sym, subst, String, Global, List, string_bytes}
use Rattle.std.specs.FinMap.{FinMap, get, remove}
use Rattle.containers.proofs.TextMaps.KeyedMaps.{get-keyed, remove-keyed}
use Rattle.containers.specs.TextMaps.Keyed.{text_order, keyed}
use Rattle.object_ids.specs.Paths.{root_path}
use Rattle.configuration.specs.Catalogues.{ArePaths}
use Rattle.configuration.specs.declared.setting.Setting.{Setting}
use Rattle.configuration.proofs.SettingLemmas.{ArePaths-remove}
use Rattle.configuration.proofs.settings.Settings.take_root.Goals as goal

pub invariant_of-self : goal.invariant_of-self
invariant_of-self c =
    subst (λ (es : List (String Global × Setting)). ArePaths (keyed string_bytes es)) (sym c.remove.ensures.entries)
    (ArePaths-remove _ c.self.inside.entries.entries c.self.invariant)

pub returns-clause-value : goal.returns-clause-value
returns-clause-value c =
    c.remove.ensures.value ∙ sym (get-keyed string_bytes c.self.inside.entries.entries root_path) ∙ ap (λ (m : FinMap text_order Setting). get m root_path) c.self.view_is

pub returns-clause-rest : goal.returns-clause-rest
returns-clause-rest c =
    remove-keyed string_bytes c.self.inside.entries c.remove.new.self root_path c.remove.ensures.updates ∙ ap (λ (m : FinMap text_order Setting). remove m root_path) c.self.view_is
