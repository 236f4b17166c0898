use Rattle.std.proofs.Common.{sym, ◌∙◌}
use Rattle.lane_tests.proofs.PassLemmas.{first_name, names_still}
use Rattle.lane_tests.proofs.halls.rows.told_over.Goals as goal

pub ask_rows-told-requires : goal.ask_rows-told-requires
ask_rows-told-requires g c = let b = c.in_ok-hall.ensures in record { of_this_hall = b.1.pass }

pub close-world-requires-clause-whole : goal.close-world-requires-clause-whole
close-world-requires-clause-whole g c =
    let b = c.in_ok-hall.ensures in
    names_still c.in_ok-hall.pass c.ask_rows-told.new.pass c.ask_rows-told.ensures.same
    ∙ first_name c.in_ok-hall.hall c.in_ok-hall.pass b.0 b.1 ∙ sym b.1.passes_are
