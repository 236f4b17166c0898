-- The first name that stands twice is the fault.
use Rattle.std.proofs.Common.{Ok, ap, sym, ◌∙◌}
use Rattle.hdf_types.proofs.FieldLemmas.{distinct_some, distinct_none}
use Rattle.hdf_types.proofs.members.distinct.Goals as goal

pub returns-in-Some : goal.returns-in-Some
returns-in-Some c = rw c.refused.ensures (distinct_some c.args.path.now c.args.list.items c.as_slice.result.now c.in-Some.index c.as_slice.ensures.value (sym c.in-Some.is ∙ c.first_again.ensures))

pub returns-in-None : goal.returns-in-None
returns-in-None c = distinct_none c.args.path.now c.args.list.items c.as_slice.result.now c.as_slice.ensures.value (sym c.in-None.is ∙ c.first_again.ensures) ∙ ap Ok (sym c.from_list.ensures)
