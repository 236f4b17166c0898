use Rattle.service_histories.proofs.CallLemmas.{cuts_leave, decisions_answer, drops_act, drops_find_memory, drops_reply, steps_act}
use Rattle.service_histories.proofs.laws.calls_are_events.Goals as goal

pub returns : goal.returns
returns c = record { decision = decisions_answer; cut = cuts_leave; step = steps_act; drop = drops_act; reply = drops_reply; memory = drops_find_memory }
