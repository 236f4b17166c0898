use Rattle.std.proofs.Common.{◌∙◌, ap, not, sym, string_bytes}
use Rattle.std.specs.List.{list_all}
use Rattle.std.specs.FinMap.{contains_key, entries}
use Rattle.containers.proofs.TextMaps.KeyedMaps.{entries-keyed}
use Rattle.configuration.proofs.catalogue.are_apart.Goals as goal

pub returns : goal.returns
returns c =
    c.are_new.ensures
    ∙ ap (list_all (λ e. not (contains_key c.args.folders.now e.0))) (sym (ap entries (sym c.domains.view_is) ∙ entries-keyed string_bytes c.domains.inside.entries.entries c.len-ordered.ensures.ordered))
