use Rattle.std.proofs.Common.{◌∙◌, ap, sym, string_bytes}
use Rattle.std.specs.FinMap.{entries}
use Rattle.containers.proofs.TextMaps.KeyedMaps.{entries-keyed}
use Rattle.configuration.proofs.settings.Settings.into_entries.Goals as goal

pub returns-clause-entries : goal.returns-clause-entries
returns-clause-entries c = sym (ap entries (sym c.self.view_is) ∙ entries-keyed string_bytes c.self.inside.entries.entries c.len-ordered.ensures.ordered)
