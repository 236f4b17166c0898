-- A note that is to be written where the right went before.
use Rattle.std.specs.Prelude.{[], ◌∷◌}
use Rattle.lane_histories.specs.Histories.{History}
use Rattle.lane_histories.specs.declared.items.RegisterItem.TheVariants.{Entered}
use Rattle.lane_tests.specs.declared.examples.requests.Request.TheVariants.{Writes, Revokes}
use Rattle.lane_tests.specs.declared.examples.requests.Verdict.{Verdict}
use Rattle.lane_tests.specs.declared.examples.requests.Verdict.TheVariants.{Answered}
use Rattle.lane_tests.specs.Examples.Notes.{notes}

abbrev pub revoked_first : Verdict → History notes
revoked_first verdict = record {
  register =
      Entered (record { place = 0; by = 0; asked = Revokes; verdict = Answered })
      ∷ Entered (record { place = 1; by = 0; asked = Writes 5; verdict = verdict }) ∷ [];
  lane = λ l. [];
  keepings = [];
}
