-- What a reader has of its disk, and what its calls leave as it was.
use Rattle.std.specs.Prelude.{◌≡◌, ℕ, ◌+◌, ◌≤◌, List, length}
use Rattle.edge_traits.specs.declared.disk.Disk.{Ghosts}
use Rattle.flush_journal.specs.Reading.{MayRefuseReading}
use Rattle.flush_journal.specs.Unchanged.{SameDisk, SameBytes}
use Rattle.flush_journal.specs.declared.reader.Reader.{Reader}
use Rattle.flush_journal.specs.declared.why.Why.{Why}

abbrev pub disk_in : {D : Type 0} {met : Ghosts D} → Reader D met → D
disk_in r = r.disk

abbrev pub file_of : {D : Type 0} {met : Ghosts D} → Reader D met → List ℕ
file_of {met = met} r = met.reads r.disk

abbrev pub end_of_file : {D : Type 0} {met : Ghosts D} → Reader D met → ℕ
end_of_file r = r.end

-- the reader has so many bytes at this place
abbrev pub Has : {D : Type 0} {met : Ghosts D} → Reader D met → (at size : ℕ) → Type 0
Has r at size = (r.from ≤ at) × (at + size ≤ r.from + length r.bytes.items)

-- a call leaves the file as it was
pub record GoesOn {D : Type 0} {met : Ghosts D} (old new : Reader D met) : Type 0 where
  pub end : end_of_file new ≡ end_of_file old
  pub same : SameDisk met (disk_in old) (disk_in new)
  pub bytes : met.honest → SameBytes met (disk_in old) (disk_in new)

-- why a call may be refused
abbrev pub MayFail : {D : Type 0} {met : Ghosts D} → Reader D met → Reader D met → Why → Type 0
MayFail {met = met} old new why = MayRefuseReading met.honest (file_of old) (met.faults (disk_in old)) (met.faults (disk_in new)) why
