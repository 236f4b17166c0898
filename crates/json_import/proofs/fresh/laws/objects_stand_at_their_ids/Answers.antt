use Rattle.json_import.proofs.OfFresh.LawLemmas.{datasets_stand, datatypes_stand, groups_stand, others_stay, root_stands}
use Rattle.json_import.proofs.fresh.laws.objects_stand_at_their_ids.Goals as goal

pub returns-clause-root : goal.returns-clause-root
returns-clause-root c = root_stands

pub returns-clause-groups : goal.returns-clause-groups
returns-clause-groups c = groups_stand

pub returns-clause-datasets : goal.returns-clause-datasets
returns-clause-datasets c = datasets_stand

pub returns-clause-datatypes : goal.returns-clause-datatypes
returns-clause-datatypes c = datatypes_stand

pub returns-clause-others : goal.returns-clause-others
returns-clause-others c = others_stay
