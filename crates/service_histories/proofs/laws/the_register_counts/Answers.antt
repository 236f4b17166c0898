use Rattle.service_histories.proofs.CountLemmas.{fresh_registers_have_room, installs_are_fresh, registers_count}
use Rattle.service_histories.proofs.laws.the_register_counts.Goals as goal

pub returns : goal.returns
returns c =
    let keep = c.decisions_keep.ensures in
    let counts = registers_count keep.place keep.granted c.decisions_continue.ensures.issues in
    record { counts = counts; room = λ lanes. fresh_registers_have_room lanes (counts lanes); fresh = installs_are_fresh }
