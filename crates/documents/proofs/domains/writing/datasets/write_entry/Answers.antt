use Rattle.std.proofs.Common.{true, ap, ◌∙◌}
use Rattle.serde_json.specs.Written.{has_float}
use Rattle.shapes.specs.declared.printing.Form.TheVariants.{Document}
use Rattle.object_acts.proofs.OfExact.Floats.{attributes_exact}
use Rattle.documents.proofs.domains.writing.datasets.write_entry.Goals as goal

pub write_dataset-requires : goal.write_dataset-requires
write_dataset-requires g c = ap has_float c.in_ok-attributes-in-Dataset.ensures ∙ attributes_exact c.args.object.now.attributes Document true
