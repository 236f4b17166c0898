use Rattle.object_acts.proofs.LawLemmas.{change_kept, link_kept}
use Rattle.object_acts.proofs.laws.refusals_leave_the_object.Goals as goal

pub returns : goal.returns
returns c = record { change = change_kept c.refusals_leave_the_array.ensures.value c.refusals_leave_the_array.ensures.dims; link = link_kept }
