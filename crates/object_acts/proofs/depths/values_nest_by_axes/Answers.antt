use Rattle.hdf_values.proofs.OfKept.TreeLemmas.{element_deep, nested_deep}
use Rattle.object_acts.proofs.OfDepths.Depths.{value_deep}
use Rattle.object_acts.proofs.depths.values_nest_by_axes.Goals as goal

pub returns : goal.returns
returns c = record { element = element_deep; nested = nested_deep; value = value_deep }
