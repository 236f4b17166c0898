-- What the tests give is what the tree spells.
use Rattle.std.proofs.Common.{Result, subst}
use Rattle.serde_json.specs.View.{view}
use Rattle.hdf_values.specs.declared.attributes.AttributeFault.{AttributeFault}
use Rattle.json_trees.specs.Faults.{Fails, Gives}
use Rattle.hdf_values.specs.declared.attributes.AttributeFault.TheVariants.{NoMemory}
use Rattle.hdf_values.specs.Attributes.{Content, content}
use Rattle.hdf_values.proofs.AttributeLemmas.{attribute_read}
use Rattle.hdf_values.proofs.attributes.read_attribute.Goals as goal

pub returns-clause-only : goal.returns-clause-only
returns-clause-only c = λ a h.
    let P = λ (r : Result Content AttributeFault). Gives (Fails NoMemory) content c.first_of.result r in
    subst P (attribute_read (view c.args.tree.now) a h) c.first_of.ensures.gives
