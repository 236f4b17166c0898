use Rattle.std.proofs.Common.{◌∙◌, ap, sym, string_bytes}
use Rattle.std.specs.List.{list_all}
use Rattle.std.specs.FinMap.{entries}
use Rattle.configuration.specs.Catalogues.{has_parent}
use Rattle.containers.proofs.TextMaps.KeyedMaps.{entries-keyed}
use Rattle.configuration.proofs.catalogue.have_parents.Goals as goal

pub returns : goal.returns
returns c =
    c.entries_have_parents.ensures
    ∙ ap (list_all (λ e. has_parent c.args.folders.now e.0)) (sym (ap entries (sym c.settings.view_is) ∙ entries-keyed string_bytes c.settings.inside.entries.entries c.len-ordered.ensures.ordered))
