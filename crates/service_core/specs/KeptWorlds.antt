-- What a journal keeps of the world.
--     TellsWorld held w      what is held describes the world in its run
--     KeepsWorld k s l t result      a keeping of the world
--     HoldsWorld w file      a file holds it
use Rattle.std.specs.Prelude.{◌≡◌, ℕ, List, [], Some, Result, OnErr, OnOk, IfOk}
use Rattle.edge_traits.specs.declared.disk.Disk.{Ghosts}
use Rattle.flush_journal.specs.Batches.{records}
use Rattle.flush_journal.specs.Files.{held}
use Rattle.flush_journal.specs.Records.{Held, Record}
use Rattle.flush_journal.specs.Standing.{numbers_of, pending_of}
use Rattle.flush_journal.specs.declared.why.Why.{Why}
use Rattle.flush_journal.specs.Keepings.Keepings.{Builds, Keeps}
use Rattle.flush_journal.specs.declared.keepings.keeping.Keeping.{Keeping}
use Rattle.service_core.specs.Records.{DescribesWorld, IsCutRecord, WorldSays, as_kept}
use Rattle.service_core.specs.Steps.{World}
use Rattle.service_core.specs.Worlds.{State}

-- what is held describes a world in its run
abbrev pub TellsWorld : Held → World → Type 0
TellsWorld held w = DescribesWorld held w.register.run w

-- a keeping of the world: the world stays, whatever of it is to be written; after Ok it is kept with all its places, and nothing is to be
-- written. What it writes, and what it leaves to be written, is what was, and records that were to be written.
pub record KeepsWorld {D : Type 0} {met : Ghosts D} (k : Keeping D met) (s : State) (l : Keeping D met) (t : State) (result : Result ℕ Why) : Type 0 where
  pub keeps : Keeps TellsWorld k.journal l.journal (records k.building) (records l.building) (WorldSays s) (WorldSays t) (as_kept t) result
  pub same : as_kept t ≡ as_kept s
  pub number : IfOk result (λ n. n ≡ t.register.places)
  pub kept : IfOk result (λ n. l.kept ≡ n)
  pub refused : OnErr result (l.kept ≡ k.kept)
  pub batch : Builds (IsCutRecord s) (numbers_of k.journal) (pending_of k.journal) (records k.building) (numbers_of l.journal) (pending_of l.journal) (records l.building)
  pub done : OnOk result (records l.building ≡ [])
  pub none : OnOk result ((r : Record) → IsCutRecord t r → ⊥)

-- a file holds a world
abbrev pub HoldsWorld : World → List ℕ → Type 0
HoldsWorld w file = (m : Held) × (held file ≡ Some m) × TellsWorld m w
