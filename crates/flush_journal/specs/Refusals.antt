-- When a journal may refuse.
use Rattle.std.specs.Prelude.{◌≡◌, ◌≢◌, ℕ, ◌+◌, ◌<◌, List, [], ◌∷◌, ◌++◌, take, Result, Ok, Err}
use Rattle.edge_traits.specs.Causes.{Rose}
use Rattle.flush_journal.specs.Files.{magic}
use Rattle.flush_journal.specs.Frames.{frame_size}
use Rattle.flush_journal.specs.Records.{Record}
use Rattle.flush_journal.specs.declared.why.Why.{Why}
use Rattle.flush_journal.specs.declared.why.Why.TheVariants.{DiskFault, NotAJournal, JournalFull, Exists, NoMemory}

-- A write of `need` bytes behind `end` may be refused so, where the disk's count was `before` and is `now`: by a fault only where
-- the count rose, and for want of room only where there is too little, with these numbers.
abbrev pub MayRefuse : (end need room before now : ℕ) → Why → Type 0
MayRefuse end need room before now DiskFault = Rose before now
MayRefuse end need room before now (JournalFull e n r) = (e ≡ end) × (n ≡ need) × (r ≡ room) × (room < end + need)
MayRefuse end need room before now (NotAJournal at) = ⊥
MayRefuse end need room before now Exists = ⊥
MayRefuse end need room before now NoMemory = ⊥

-- Every answer of a write says why
abbrev pub IsWriteAnswer : (end need room before now : ℕ) → Result (Unit {0}) Why → Type 0
IsWriteAnswer end need room before now (Ok _) = Unit {0}
IsWriteAnswer end need room before now (Err why) = MayRefuse end need room before now why

-- that a disk which tells its bytes has no journal's first bytes
abbrev pub NoMagic : Type 0 → List ℕ → Type 0
NoMagic told file = told → take 8 file ≢ magic

-- Making a journal may be refused so: where one stands, else where there is no room for so many bytes behind a place, with these
-- numbers, and by a fault only where the count rose.
abbrev pub MayRefuseNew : (end need : ℕ) → Type 0 → List ℕ → (room before now : ℕ) → Why → Type 0
MayRefuseNew end need told file room before now DiskFault = Rose before now
MayRefuseNew end need told file room before now Exists = told → take 8 file ≡ magic
MayRefuseNew end need told file room before now (JournalFull e n r) = (e ≡ end) × (n ≡ need) × (r ≡ room) × (room < end + need) × NoMagic told file
MayRefuseNew end need told file room before now (NotAJournal at) = ⊥
MayRefuseNew end need told file room before now NoMemory = ⊥

-- without a batch: the header and the marker behind it
abbrev pub MayRefuseCreate : Type 0 → List ℕ → (room before now : ℕ) → Why → Type 0
MayRefuseCreate = MayRefuseNew 0 17

-- with a first batch: the batch and the marker before it, behind the header
abbrev pub MayRefuseFirst : List Record → Type 0 → List ℕ → (room before now : ℕ) → Why → Type 0
MayRefuseFirst rs = MayRefuseNew 16 (1 + frame_size rs)

-- a new journal's bytes
abbrev pub new_file : ℕ → List ℕ
new_file lanes = magic ++ (0 ∷ 0 ∷ 0 ∷ lanes ∷ 0 ∷ 0 ∷ 0 ∷ 0 ∷ 0 ∷ [])
