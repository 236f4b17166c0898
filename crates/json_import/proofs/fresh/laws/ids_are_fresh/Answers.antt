use Rattle.json_import.proofs.OfFresh.LawLemmas.{ids_distinct, ids_fresh, ids_there, nothing_else, root_first, serials_rise, serials_run}
use Rattle.json_import.proofs.fresh.laws.ids_are_fresh.Goals as goal

pub returns-clause-fresh : goal.returns-clause-fresh
returns-clause-fresh c = ids_fresh

pub returns-clause-distinct : goal.returns-clause-distinct
returns-clause-distinct c = ids_distinct

pub returns-clause-serials : goal.returns-clause-serials
returns-clause-serials c = serials_run

pub returns-clause-only : goal.returns-clause-only
returns-clause-only c = nothing_else

pub returns-clause-objects : goal.returns-clause-objects
returns-clause-objects c = ids_there

pub returns-clause-order : goal.returns-clause-order
returns-clause-order c = serials_rise

pub returns-clause-root : goal.returns-clause-root
returns-clause-root c = root_first
