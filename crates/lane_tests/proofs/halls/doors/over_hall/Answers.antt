use Rattle.std.proofs.Common.{sym, ◌∙◌}
use Rattle.lane_tests.proofs.PassLemmas.{first_giver}
use Rattle.lane_tests.proofs.halls.doors.over_hall.Goals as goal

pub serve_both-posts-requires-clause-giver : goal.serve_both-posts-requires-clause-giver
serve_both-posts-requires-clause-giver g c κs within =
    let b = c.requires.begun in
    first_giver c.args.hall c.args.pass b.0 2 b.1

pub close-world-requires-clause-whole : goal.close-world-requires-clause-whole
close-world-requires-clause-whole g c = c.serve_both-posts.ensures.names ∙ sym c.requires.begun.1.passes_are
