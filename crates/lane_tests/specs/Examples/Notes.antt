-- A small service: notes in two lanes, and one right to write them.
use Rattle.std.specs.Prelude.{◌≡◌, ℕ, Bool, true, false, List, ◌∷◌, length, refl}
use Rattle.lane_histories.specs.Services.{Service, Turns, no_turn, one_turn}
use Rattle.lane_histories.specs.JournalContents.{JournalContents}
use Rattle.lane_tests.specs.declared.examples.requests.Request.{Request}
use Rattle.lane_tests.specs.declared.examples.requests.Request.TheVariants.{Looks, Writes, Revokes}
use Rattle.lane_tests.specs.declared.examples.requests.Verdict.{Verdict}
use Rattle.lane_tests.specs.declared.examples.requests.Verdict.TheVariants.{Answered, Denied, Granted}

-- the register knows whether notes may be written
abbrev pub verdict_of : Bool → Request → Verdict
verdict_of right Looks = Answered
verdict_of true (Writes note) = Granted note
verdict_of false (Writes note) = Denied
verdict_of right Revokes = Answered

abbrev pub right_after : Bool → Request → Bool
right_after right Looks = right
right_after right (Writes note) = right
right_after right Revokes = false

-- a note goes into the lane 0
abbrev pub turns_of : Verdict → Turns ℕ
turns_of Answered = no_turn
turns_of Denied = no_turn
turns_of (Granted note) = one_turn 0 note

abbrev pub notes : Service
notes = record {
  Register = Bool;
  Asked = Request;
  Verdict = Verdict;
  Task = ℕ;
  Objects = List ℕ;
  Reply = ℕ;
  Catalogue = Bool;
  lanes = 2;
  MayAnswer = λ right request verdict. verdict ≡ verdict_of right request;
  decided = λ right request verdict. right_after right request;
  turns = λ request verdict. turns_of verdict;
  drawn = λ right. right;
  recorded = λ found right. right;
  acted = λ note written. (length written, note ∷ written);
  went_well = λ reply. true;
  MayBeShort = λ note. Unit {0};
  catalogue = λ right. right;
  catalogue_drawn = λ right. refl;
  catalogue_recorded = λ found right. refl;
  Alike = λ right one other. one ≡ other;
  alike_itself = λ right one. refl;
}

-- a journal holds the right, and the notes of each lane
pub record Held : Type 0 where
  pub right : Bool
  pub written : ℕ → List ℕ

abbrev pub contents : JournalContents notes
contents = record {
  Content = Held;
  TellsCatalogue = λ held right. held.right ≡ right;
  TellsLane = λ held l written. held.written l ≡ written;
}
