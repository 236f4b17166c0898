use Rattle.service_histories.proofs.DoneLemmas.{all_done_exactly}
use Rattle.service_histories.proofs.EntryLemmas.{entries_are_steps, histories_are_replays, replays_are_steps}
use Rattle.service_histories.proofs.laws.whole_histories_are_plain.Goals as goal

pub returns : goal.returns
returns c =
    let issues = c.decisions_keep.ensures.granted in
    let alike = c.places_and_tickets_tell_nothing.ensures.step in
    let plain = c.whole_histories_are_plain.ensures in
    record {
      world = plain.world;
      answers = plain.answers;
      entry = entries_are_steps issues;
      replay = λ lanes. replays_are_steps issues lanes alike;
      history = λ lanes. histories_are_replays issues alike lanes (plain.world lanes) (plain.answers lanes);
      done = all_done_exactly;
    }
