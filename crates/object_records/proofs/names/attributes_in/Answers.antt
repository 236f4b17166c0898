use Rattle.std.proofs.Common.{◌∙◌, Some, sym, ap}
use Rattle.json_trees.specs.Shown.{shown}
use Rattle.containers.specs.TextMaps.Keyed.{with_values}
use Rattle.hdf_values.specs.Attributes.{content}
use Rattle.object_records.specs.Lists.{attributes_in}
use Rattle.object_records.proofs.ReadLemmas.{none_valued}
use Rattle.object_records.proofs.names.attributes_in.Goals as goal

pub returns-in_default : goal.returns-in_default
returns-in_default c = ap (λ t. attributes_in (shown t)) c.in_default.is ∙ ap Some (sym (ap (with_values content) c.new.ensures ∙ none_valued content))
