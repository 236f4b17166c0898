-- A desk, as contracts see it.
use Rattle.std.specs.Prelude.{ℕ, List, Option}
use Rattle.edge_traits.specs.declared.disk.Disk.{Ghosts}
use Rattle.flush_journal.specs.Records.{Record}
use Rattle.flush_journal.specs.Standing.{disk_of, end_of, pending_of}
use Rattle.flush_journal.specs.declared.journal.Journal.{Journal}
use Rattle.lane_histories.specs.declared.items.Reach.{Reach}

-- how many lanes there are; the disk; the end of the journal's file and the batch that is pending; what was cut and not appended yet; how
-- far the last cuts reach, and how far what the disk holds; the disk as it was when that was reached, and the note as it was when that was cut;
-- and the note
pub record Standing (D N : Type 0) : Type 0 where
  pub lanes : ℕ
  pub disk : D
  pub end : ℕ
  pub pending : Option (List Record)
  pub building : List Record
  pub cut : Reach
  pub kept : Reach
  pub at : D
  pub since : N
  pub note : N

abbrev pub standing_of : {D N : Type 0} {met : Ghosts D} → ℕ → Journal D met → List Record → Reach → Reach → D → N → N → Standing D N
standing_of lanes j building cut kept at since note = record {
  lanes = lanes;
  disk = disk_of j;
  end = end_of j;
  pending = pending_of j;
  building = building;
  cut = cut;
  kept = kept;
  at = at;
  since = since;
  note = note;
}
