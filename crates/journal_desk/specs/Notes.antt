-- What notes say.
--     NoteOf N                   what notes say of the service over one number of lanes
--     at_lanes notes lanes       over this number
--     AreAlike note one other    two notes say the same
use Rattle.std.specs.Prelude.{◌≡◌, ℕ}
use Rattle.lane_histories.specs.Services.{World}
use Rattle.lane_histories.specs.Histories.{History}
use Rattle.journal_desk.specs.KeptServices.{KeptService}
use Rattle.journal_desk.specs.declared.note.Note.{Ghosts}

pub record NoteOf (N : Type 0) : Type 1 where
  pub kept : KeptService
  pub start : N → World kept.service
  pub history : N → History kept.service
  pub was : N → ℕ → kept.marking.Marked

abbrev pub at_lanes : {N : Type 0} → Ghosts N → ℕ → NoteOf N
at_lanes notes lanes = record {
  kept = notes.kept lanes;
  start = notes.start lanes;
  history = notes.history lanes;
  was = notes.was lanes;
}

pub record AreAlike {N : Type 0} (note : NoteOf N) (one other : N) : Type 0 where
  pub start : note.start one ≡ note.start other
  pub history : note.history one ≡ note.history other
  pub was : note.was one ≡ note.was other
