use Rattle.std.proofs.Common.{◌∙◌, ap, sym, is_some, string_bytes}
use Rattle.std.specs.FinMap.{FinMap, contains_key}
use Rattle.containers.proofs.TextMaps.KeyedMaps.{get-keyed}
use Rattle.containers.specs.TextMaps.Keyed.{text_order}
use Rattle.configuration.specs.declared.setting.Setting.{Setting}
use Rattle.configuration.proofs.settings.Settings.contains.Goals as goal

pub returns : goal.returns
returns c =
    c.contains_key.ensures ∙ ap is_some (sym (get-keyed string_bytes c.self.inside.entries.entries c.args.path.now))
    ∙ ap (λ (m : FinMap text_order Setting). contains_key m c.args.path.now) c.self.view_is
