use Rattle.std.proofs.Common.{refl, true}
use Rattle.hdf_values.proofs.AttributeLemmas.{printed_back}
use Rattle.attributes.specs.AttributeTrees.{attribute_tree}
use Rattle.attributes.proofs.laws.named_attributes_read_back.Goals as goal

pub returns-clause-same : goal.returns-clause-same
returns-clause-same c = λ name a form sound. printed_back (attribute_tree name a form true) a form sound refl refl refl
