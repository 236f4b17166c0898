-- A disk that may not have been opened. Where it was, each word is that disk's; a missing one holds nothing, as one of room 0.
use Rattle.std.specs.Prelude.{◌≡◌, ℕ, ◌≤◌, List, [], length, Option, Some, None, refl}
use Rattle.std.proofs.Common.{arith}
use Rattle.hsds_cli.specs.declared.opened_disk.OpenedDisk.{OpenedDisk}
use Rattle.hsds_cli.specs.declared.opened_disk.OpenedDisk.TheVariants.{Opened, Missing}

-- the disk, where one was opened
abbrev pub opened : {D : Type 0} → Option D → OpenedDisk D
opened (Some disk) = Opened disk
opened None = Missing 0

abbrev pub reads_of : {D : Type 0} → (D → List ℕ) → OpenedDisk D → List ℕ
reads_of reads (Opened disk) = reads disk
reads_of reads (Missing count) = []

abbrev pub image_of : {D : Type 0} → (D → List ℕ → Type 0) → OpenedDisk D → List ℕ → Type 0
image_of images (Opened disk) c = images disk c
image_of images (Missing count) c = c ≡ []

abbrev pub moment_of : {D : Type 0} → (D → ℕ) → OpenedDisk D → ℕ
moment_of moment (Opened disk) = moment disk
moment_of moment (Missing count) = 0

abbrev pub left_of : {D : Type 0} → (D → ℕ → List ℕ → Type 0) → OpenedDisk D → ℕ → List ℕ → Type 0
left_of left (Opened disk) t c = left disk t c
left_of left (Missing count) t c = c ≡ []

abbrev pub faults_of : {D : Type 0} → (D → ℕ) → OpenedDisk D → ℕ
faults_of faults (Opened disk) = faults disk
faults_of faults (Missing count) = count

abbrev pub most_of : {D : Type 0} → (D → ℕ) → OpenedDisk D → ℕ
most_of most (Opened disk) = most disk
most_of most (Missing count) = 0

-- what stands beside the disk; beside a missing one nothing does
abbrev pub beside_of : {D O : Type 0} → (D → O) → OpenedDisk D → Option O
beside_of beside (Opened disk) = Some (beside disk)
beside_of beside (Missing count) = None

abbrev pub around_of : {D O : Type 0} → (D → ℕ → O → Type 0) → OpenedDisk D → ℕ → Option O → Type 0
around_of around (Opened disk) t (Some others) = around disk t others
around_of around (Opened disk) t None = ⊥
around_of around (Missing count) t others = others ≡ None

-- the sync of a missing disk always fails
abbrev pub has_stopped : {D : Type 0} → (D → Type 0) → OpenedDisk D → Type 0
has_stopped stopped (Opened disk) = stopped disk
has_stopped stopped (Missing count) = Unit {0}

-- none was opened
abbrev pub IsMissing : {D : Type 0} → OpenedDisk D → Type 0
IsMissing (Opened disk) = ⊥
IsMissing (Missing count) = Unit {0}

-- ---- the rules of a disk, where they hold of the one that was opened

pub it_fits : {D : Type 0} (reads : D → List ℕ) (most : D → ℕ) → ((disk : D) → length (reads disk) ≤ most disk)
    → (d : OpenedDisk D) → length (reads_of reads d) ≤ most_of most d
it_fits reads most rule (Opened disk) = rule disk
it_fits reads most rule (Missing count) = omega arith

pub reads_are_left : {D : Type 0} (reads : D → List ℕ) (images : D → List ℕ → Type 0) → ((disk : D) → images disk (reads disk))
    → (d : OpenedDisk D) → image_of images d (reads_of reads d)
reads_are_left reads images rule (Opened disk) = rule disk
reads_are_left reads images rule (Missing count) = refl

pub now_counts : {D : Type 0} (moment : D → ℕ) (images : D → List ℕ → Type 0) (left : D → ℕ → List ℕ → Type 0)
    → ((disk : D) (t : ℕ) (c : List ℕ) → t ≤ moment disk → images disk c → left disk t c)
    → (d : OpenedDisk D) (t : ℕ) (c : List ℕ) → t ≤ moment_of moment d → image_of images d c → left_of left d t c
now_counts moment images left rule (Opened disk) t c le image = rule disk t c le image
now_counts moment images left rule (Missing count) t c le image = image

pub now_is_all : {D : Type 0} (moment : D → ℕ) (images : D → List ℕ → Type 0) (left : D → ℕ → List ℕ → Type 0)
    → ((disk : D) (c : List ℕ) → left disk (moment disk) c → images disk c)
    → (d : OpenedDisk D) (c : List ℕ) → left_of left d (moment_of moment d) c → image_of images d c
now_is_all moment images left rule (Opened disk) c past = rule disk c past
now_is_all moment images left rule (Missing count) c past = past
