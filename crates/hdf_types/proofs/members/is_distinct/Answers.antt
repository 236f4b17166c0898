-- No name stands again exactly where each stands once.
use Rattle.hdf_types.specs.Views.{field_names}
use Rattle.hdf_types.proofs.NameLemmas.{distinct_found}
use Rattle.hdf_types.proofs.members.is_distinct.Goals as goal

pub returns : goal.returns
returns c = distinct_found c.first_again.result c.is_none.result (field_names c.args.fields.now) c.first_again.ensures c.is_none.ensures
