-- What the marks of a register tell of what is held.
--     StillSays old new      what is held tells the one, but for what is marked, where it told the other so
--     IsSince last d      each change since the last cut is marked
--     TellsRegister held run c      what is held tells the whole of a register
--     IsRegisterKey key      the key of a record of a register
use Rattle.std.specs.Prelude.{◌≡◌, ℕ, List, Some}
use Rattle.std.specs.FinMap.{get}
use Rattle.flush_journal.specs.Records.{Held}
use Rattle.domains.specs.Contents.{Contents}
use Rattle.object_records.specs.Keys.Keys.{next_key, node_key, run_key}
use Rattle.object_records.specs.Keys.Numbers.{next_bytes, run_bytes}
use Rattle.register.specs.Decided.{RegisterState}
use Rattle.register.specs.Kept.{IsHeldNode, RegisterSays, all_kept}

-- what was changed is marked
abbrev pub StillSays : RegisterState → RegisterState → Type 0
StillSays old new = (held : Held) → RegisterSays old held → RegisterSays new held

-- the run, the next domain's number, each node, and no other
pub record TellsRegister (held : Held) (run : ℕ) (c : Contents) : Type 0 where
  pub kept : get held run_key ≡ Some (run_bytes run)
  pub next : get held next_key ≡ Some (next_bytes c.next)
  pub nodes : (path : List ℕ) → IsHeldNode (get c.nodes path) (get held (node_key path))

-- at the last cut the register was `last`: what told the whole of that tells the register as it stands, but for what is marked
abbrev pub IsSince : RegisterState → RegisterState → Type 0
IsSince last d = (held : Held) → TellsRegister held last.run last.catalogue → RegisterSays d held

-- a cut makes of what was held before something that tells the register, in which nothing is marked then
abbrev pub CutsRegister : RegisterState → Held → Held → Type 0
CutsRegister d before after = RegisterSays d before → RegisterSays (all_kept d) after

pub data IsRegisterKey (key : List ℕ) : Type 0 where
  of_run : key ≡ run_key → IsRegisterKey key
  of_next : key ≡ next_key → IsRegisterKey key
  of_node : (path : List ℕ) → key ≡ node_key path → IsRegisterKey key

-- the records of a register are the same
abbrev pub HaveSameRegister : Held → Held → Type 0
HaveSameRegister old new = (key : List ℕ) → IsRegisterKey key → get new key ≡ get old key
