-- What a cut adds to a batch.
use Rattle.std.specs.Prelude.{◌≡◌, ◌≢◌, ◌⊎◌, ℕ, List, [], ◌∷◌, ◌++◌}
use Rattle.std.specs.List.{AllByRecursion}
use Rattle.flush_journal.specs.Records.{Record, Held, put_all}

-- one record more
abbrev pub AddsRecord : Record → List Record → List Record → Type 0
AddsRecord r old new = new ≡ old ++ r ∷ []

-- no record has this key
abbrev pub IsWithout : List ℕ → List Record → Type 0
IsWithout key records = AllByRecursion (λ r. r.0 ≢ key) records

-- no two records have one key
abbrev pub AreOnce : List Record → Type 0
AreOnce [] = Unit {0}
AreOnce (r ∷ rs) = IsWithout r.0 rs × AreOnce rs

-- no key has both properties
abbrev pub AreApart : (List ℕ → Type 0) → (List ℕ → Type 0) → Type 0
AreApart P Q = (key : List ℕ) → P key → Q key → ⊥

abbrev pub IsEither : (List ℕ → Type 0) → (List ℕ → Type 0) → List ℕ → Type 0
IsEither P Q key = P key ⊎ Q key

-- records were added, each of a key that is marked and no two of one key, and with them what was held is as `later` says
pub record IsCut (marked : List ℕ → Type 0) (base : Held) (old new : List Record) (later : Held → Type 0) : Type 0 where
  pub added : List Record
  pub appended : new ≡ old ++ added
  pub changed : AllByRecursion (λ r. marked r.0) added
  pub once : AreOnce added
  pub stands : later (put_all added base)

-- records were added, each of which has a property
pub record AppendsEach (P : Record → Type 0) (old new : List Record) : Type 0 where
  pub added : List Record
  pub appended : new ≡ old ++ added
  pub each : AllByRecursion P added

-- so they were, and no two of one key
pub record AppendsOnce (P : Record → Type 0) (old new : List Record) : Type 0 where
  pub added : List Record
  pub appended : new ≡ old ++ added
  pub each : AllByRecursion P added
  pub once : AreOnce added
