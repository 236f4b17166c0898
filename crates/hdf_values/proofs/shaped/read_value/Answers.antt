-- A value is read as its bytes.
use Rattle.std.proofs.Common.{ℕ, List, Result, subst}
use Rattle.serde_json.specs.View.{view}
use Rattle.hdf_types.specs.Views.{elem}
use Rattle.hdf_values.specs.declared.faults.ValueFault.{ValueFault}
use Rattle.json_trees.specs.Faults.{Fails, Gives}
use Rattle.hdf_values.specs.declared.faults.ValueFault.TheVariants.{NoMemory}
use Rattle.hdf_values.proofs.ShapedLemmas.{value_read}
use Rattle.hdf_values.proofs.shaped.read_value.Goals as goal

pub returns-clause-only : goal.returns-clause-only
returns-clause-only c = λ bs h.
    let P = λ (r : Result (List ℕ) ValueFault). Gives (Fails NoMemory) (λ v. v.items) c.value_bytes.result r in
    subst P (value_read (elem c.args.kind.now) c.args.shape.now (view c.args.tree.now) bs h) c.value_bytes.ensures.gives
