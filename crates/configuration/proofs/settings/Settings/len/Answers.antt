use Rattle.std.proofs.Common.{◌∙◌, sym, ap, string_bytes}
use Rattle.std.specs.FinMap.{len}
use Rattle.containers.proofs.TextMaps.KeyedMaps.{len-keyed}
use Rattle.configuration.proofs.settings.Settings.len.Goals as goal

pub returns-clause-value : goal.returns-clause-value
returns-clause-value c = c.len.ensures.len ∙ sym (len-keyed string_bytes c.self.inside.entries.entries c.len.ensures.ordered) ∙ ap len c.self.view_is
