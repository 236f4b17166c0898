-- Records that are of no part of a world.
use Rattle.std.specs.Prelude.{◌≡◌, ◌≢◌, ◌⊎◌, ℕ, List, false, Some}
use Rattle.std.specs.FinMap.{get}
use Rattle.object_ids.specs.IdValues.{Id}
use Rattle.object_ids.specs.Ids.{InRange}
use Rattle.flush_journal.specs.Records.{Held}
use Rattle.object_records.specs.Keys.Keys.{IsChunk, IsSubject, Subject, chunk_key, key_of, next_key, object_key, run_key}
use Rattle.register.specs.Installed.Registers.{is_node_key}

-- nothing has a record of this key; what begins as the key of a node is never one, in whatever form its path is
pub record IsStrayKey (key : List ℕ) : Type 0 where
  pub no_node : is_node_key key ≡ false
  pub no_subject : (s : Subject) → IsSubject s → key_of s ≢ key

-- what is held has a record of such a key
pub record IsStray (held : Held) (key : List ℕ) : Type 0 where
  pub stray : IsStrayKey key
  pub body : List ℕ
  pub here : get held key ≡ Some body

abbrev pub HasNoStrays : Held → Type 0
HasNoStrays held = (key : List ℕ) → IsStray held key → ⊥

-- ---- for private clauses

abbrev pub IsNumberKey : List ℕ → Type 0
IsNumberKey key = (run_key ≡ key) ⊎ (next_key ≡ key)

abbrev pub IsKeyOfObject : List ℕ → Type 0
IsKeyOfObject key = (id : Id) × InRange id × (object_key id ≡ key)

abbrev pub IsKeyOfChunk : List ℕ → Type 0
IsKeyOfChunk key = (id : Id) × (index : List ℕ) × IsChunk id index × (chunk_key id index ≡ key)

abbrev pub IsObjectKey : List ℕ → Type 0
IsObjectKey key = IsKeyOfObject key ⊎ IsKeyOfChunk key
