-- Lanes of which records were walked over; for private clauses.
use Rattle.std.specs.Prelude.{◌≡◌, ◌⊎◌, ℕ, suc, ◌<◌, Bool, true, false, List, [], ◌∷◌, length, get_or, slice_set, Option, Some, None}
use Rattle.std.specs.FinMap.{empty, remove}
use Rattle.containers.specs.TextMaps.Fronts.{IsLeast}
use Rattle.flush_journal.specs.Records.{Held, Record}
use Rattle.object_records.specs.Keys.Keys.{Subject}
use Rattle.chunk_owner.specs.Installs.Records.{IsFault, IsOfLane, IsOther}
use Rattle.chunk_owner.specs.Installs.Walks.{Installs, IsRefused, IsWalk}
use Rattle.chunk_owner.specs.Lanes.{IsSameLane, Lane}

-- ---- lanes in order

-- an owner for each lane from a number on, of so many, without objects
abbrev pub AreNew : ℕ → ℕ → List Lane → Type 0
AreNew many k [] = Unit {0}
AreNew many k (l ∷ ls) = (l ≡ record { lane = k; lanes = many; objects = empty; slots = empty }) × AreNew many (suc k) ls

-- the lanes from a number on, of so many
abbrev pub AreNumbered : ℕ → ℕ → List Lane → Type 0
AreNumbered many k [] = Unit {0}
AreNumbered many k (l ∷ ls) = (l.lane ≡ k) × (l.lanes ≡ many) × AreNumbered many (suc k) ls

-- ---- one record

-- the lane at a place is that of the subject
abbrev pub HasLane : List Lane → ℕ → Subject → Type 0
HasLane lanes i s = (l : Lane) → get_or lanes i l ≡ l → IsOfLane l.lanes l.lane s

-- what a record tells is installed in the lane at a place, and all others stay
pub record InstallsIn (run next : ℕ) (s : Subject) (body : List ℕ) (i : ℕ) (old new : List Lane) : Type 0 where
  pub was : Lane
  pub left : Lane
  pub here : get_or old i was ≡ was
  pub set : new ≡ slice_set old i left
  pub same : IsSameLane was left
  pub installs : Installs run next s body was.slots left.slots

-- it can't stand there
pub record IsRefusedIn (run next : ℕ) (s : Subject) (body : List ℕ) (i : ℕ) (old : List Lane) : Type 0 where
  pub was : Lane
  pub here : get_or old i was ≡ was
  pub refused : IsRefused run next s body was.slots

-- the record of a key is taken out, where it is one of a lane
abbrev pub TakesOut : List ℕ → Held → Held → Type 0
TakesOut key old new = (IsOther key × (new ≡ old)) ⊎ ((IsOther key → ⊥) × (new ≡ remove old key))

-- ---- a walk

-- of each lane from a number on the records before the rest are installed
abbrev pub AreWalks : ℕ → ℕ → ℕ → Held → List Record → ℕ → List Lane → Type 0
AreWalks many run next held rest k [] = Unit {0}
AreWalks many run next held rest k (l ∷ ls) = IsWalk many k run next held rest l.slots × AreWalks many run next held rest (suc k) ls

-- all lanes stay; or the key is the least at fault of the first one that is left out
abbrev pub IsJudged : ℕ → ℕ → ℕ → Held → List ℕ → Bool → ℕ → ℕ → Type 0
IsJudged many run next held key true old new = new ≡ old
IsJudged many run next held key false old new = (new < old) × IsLeast (IsFault many new run next held) key

-- of so many lanes these first ones are there: all, or those in front of the one with this least key at fault
abbrev pub IsCutOff : ℕ → ℕ → ℕ → Held → ℕ → Option (List ℕ) → Type 0
IsCutOff many run next held count None = count ≡ many
IsCutOff many run next held count (Some key) = (count < many) × IsLeast (IsFault many count run next held) key

-- all records were walked over
pub record IsWalked (many run next : ℕ) (held : Held) (lanes : List Lane) (bad : Option (List ℕ)) : Type 0 where
  pub numbered : AreNumbered many 0 lanes
  pub walks : AreWalks many run next held [] 0 lanes
  pub rest : IsCutOff many run next held (length lanes) bad
