-- Lanes of notes that know whether they changed since their last cut.
use Rattle.std.specs.Prelude.{◌≡◌, ℕ, Bool, false, List}
use Rattle.lane_histories.specs.Since.{Marking}
use Rattle.lane_tests.specs.Examples.Notes.{contents, notes}

pub record MarkedNotes : Type 0 where
  pub written : List ℕ
  pub changed : Bool

abbrev pub marking : Marking notes contents
marking = record {
  Marked = MarkedNotes;
  objects = λ lane. lane.written;
  Says = λ held l lane. lane.changed ≡ false → held.written l ≡ lane.written;
  IsStill = λ lane. lane.changed ≡ false;
}
