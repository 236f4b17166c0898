-- How a journal stands with its disk.
use Rattle.std.specs.Prelude.{◌≡◌, ◌≢◌, ◌⊎◌, ℕ, List, [], ◌∷◌, ◌++◌, length, Option, Some, None, option_map, Ok}
use Rattle.edge_traits.specs.declared.disk.Disk.{Ghosts}
use Rattle.edge_traits.specs.Disks.{Only}
use Rattle.flush_journal.specs.Records.{Record, Held, encoded_all}
use Rattle.flush_journal.specs.Frames.{frame_of}
use Rattle.flush_journal.specs.Markers.{Either}
use Rattle.flush_journal.specs.Files.{Content, content, held, grown}
use Rattle.flush_journal.specs.Batches.{records}
use Rattle.flush_journal.specs.declared.journal.Journal.{Journal}
use Rattle.flush_journal.specs.declared.report.Report.{Report}

abbrev pub disk_of : {D : Type 0} {met : Ghosts D} → Journal D met → D
disk_of j = j.disk

-- the journal's numbers
abbrev pub numbers_of : {D : Type 0} {met : Ghosts D} → Journal D met → Report
numbers_of j = j.numbers

-- the place of the closed marker
abbrev pub end_of : {D : Type 0} {met : Ghosts D} → Journal D met → ℕ
end_of j = j.numbers.end

-- the records of the batch that is pending
abbrev pub pending_of : {D : Type 0} {met : Ghosts D} → Journal D met → Option (List Record)
pending_of j = option_map records j.pending

-- the content with the batch of these records, where there are some
abbrev pub with_batch : Content → List Record → Content
with_batch c [] = c
with_batch c (r ∷ rs) = grown c (length (encoded_all (r ∷ rs))) (r ∷ rs)

-- the numbers that the journal has are those of the content
pub record Numbers {D : Type 0} {met : Ghosts D} (j : Journal D met) (c : Content) : Type 0 where
  pub version : (numbers_of j).version ≡ c.version
  pub lanes : (numbers_of j).lanes ≡ c.lanes
  pub batches : (numbers_of j).batches ≡ c.batches
  pub end : (numbers_of j).end ≡ c.end

-- nothing is pending, and the file has this content, all of it on the disk
pub record IsSettled {D : Type 0} {met : Ghosts D} (j : Journal D met) (c : Content) : Type 0 where
  pub idle : pending_of j ≡ None
  pub numbers : Numbers j c
  pub file : content (met.reads (disk_of j)) ≡ Ok c
  pub only : Only (met.reads (disk_of j)) (met.images (disk_of j))

-- a file has the one content or the other
abbrev pub HasEither : Content → Content → List ℕ → Type 0
HasEither c d bytes = (content bytes ≡ Ok c) ⊎ (content bytes ≡ Ok d)

-- a file holds the one map or the other
abbrev pub HoldsEither : Held → Held → List ℕ → Type 0
HoldsEither m n bytes = (held bytes ≡ Some m) ⊎ (held bytes ≡ Some n)

-- what reads give, and each image, goes on behind one front: with a closed marker, or with the whole batch
pub record IsResumable (reads : List ℕ) (images : List ℕ → Type 0) (c : Content) (rs : List Record) : Type 0 where
  pub front : List ℕ
  pub closed : content (front ++ 0 ∷ []) ≡ Ok c
  pub place : length front ≡ c.end
  pub now : Either front (frame_of rs) reads
  pub each : (i : List ℕ) → images i → Either front (frame_of rs) i

-- These records are pending. What reads give, and each image, has the content of before, or that with the batch of the records; `resumable`
-- is what the next try goes on from.
pub record IsOwed {D : Type 0} {met : Ghosts D} (j : Journal D met) (c : Content) (rs : List Record) : Type 0 where
  pub pending : pending_of j ≡ Some rs
  pub some : rs ≢ []
  pub numbers : Numbers j c
  pub now : HasEither c (with_batch c rs) (met.reads (disk_of j))
  pub each : (i : List ℕ) → met.images (disk_of j) i → HasEither c (with_batch c rs) i
  pub resumable : IsResumable (met.reads (disk_of j)) (met.images (disk_of j)) c rs
