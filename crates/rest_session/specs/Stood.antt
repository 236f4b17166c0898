-- What a crash leaves while a link is served.
--     IsBackedBy s worlds      all that changed is kept, and a crash leaves one of these worlds
--     StoodSince s t taken sent kept w      a world that stood between two messages, and no earlier than at the last keeping
--     IsBackedByStood s t taken sent      what a crash leaves is one of them
--     IsOfStood s t taken sent kept r      a record of such a world
--     AreOfStood s t taken sent      what waits to be written, and what is building, is such records
--     HoldsStood s t taken sent kept file      a file holds one of them
--     IsStretch s t taken sent u v      u and then v stood between two messages
use Rattle.std.specs.Prelude.{◌≡◌, ℕ, ◌≤◌, List, ◌++◌, Some}
use Rattle.std.specs.List.{AllByRecursion}
use Rattle.edge_traits.specs.declared.disk.Disk.{Ghosts}
use Rattle.flush_journal.specs.Batches.{records}
use Rattle.flush_journal.specs.Records.{Record}
use Rattle.flush_journal.specs.Standing.{pending_of}
use Rattle.http_wire.specs.Messages.{RequestMessage}
use Rattle.flush_journal.specs.Keepings.Keepings.{IsBacked}
use Rattle.rest_session.specs.Links.Links.{AreWritten, IsFront, Replays, spellings}
use Rattle.service_core.specs.Records.{IsWorldRecord, WorldSays, as_kept}
use Rattle.service_core.specs.Steps.{World}
use Rattle.rest_session.specs.Sessions.{IsServed, Served}
use Rattle.service_core.specs.KeptWorlds.{HoldsWorld, TellsWorld}

abbrev pub IsBackedBy : {D : Type 0} {met : Ghosts D} → Served met → List World → Type 0
IsBackedBy s worlds = IsBacked TellsWorld s.keeping.journal (records s.keeping.building) (WorldSays s.world) worlds

-- Of the messages that stand in front of the bytes taken, which were answered with the bytes that were written, it stood behind some first ones,
-- once at least `kept` requests were decided.
pub record StoodSince {D : Type 0} {met : Ghosts D} (s t : Served met) (taken sent : List ℕ) (kept : ℕ) (w : World) : Type 0 where
  pub at : Served met
  pub before : List RequestMessage
  pub after : List RequestMessage
  pub read : IsFront (spellings (before ++ after)) taken
  pub answers : List ℕ
  pub later_answers : List ℕ
  pub written : AreWritten (answers ++ later_answers) sent
  pub reaches : Replays IsServed s before answers at
  pub follows : Replays IsServed at after later_answers t
  pub shown : w ≡ as_kept at.world
  pub late : kept ≤ at.world.register.places

pub record IsBackedByStood {D : Type 0} {met : Ghosts D} (s t : Served met) (taken sent : List ℕ) : Type 0 where
  pub worlds : List World
  pub backed : IsBackedBy t worlds
  pub each : AllByRecursion (StoodSince s t taken sent t.keeping.kept) worlds
  pub within : t.keeping.kept ≤ t.world.register.places
  pub now : (kept : ℕ) → kept ≤ t.world.register.places → StoodSince s t taken sent kept (as_kept t.world)

-- ---- what waits to be written

-- a record of a world that stood so
abbrev pub IsOfStood : {D : Type 0} {met : Ghosts D} → Served met → Served met → List ℕ → List ℕ → ℕ → Record → Type 0
IsOfStood s t taken sent kept r = (w : World) × StoodSince s t taken sent kept w × IsWorldRecord w r

-- since the last keeping, of what waits and of what is building
pub record AreOfStood {D : Type 0} {met : Ghosts D} (s t : Served met) (taken sent : List ℕ) : Type 0 where
  pub waiting : (rs : List Record) → pending_of t.keeping.journal ≡ Some rs → AllByRecursion (IsOfStood s t taken sent t.keeping.kept) rs
  pub building : AllByRecursion (IsOfStood s t taken sent t.keeping.kept) (records t.keeping.building)
  pub now : StoodSince s t taken sent t.keeping.kept (as_kept t.world)

-- ---- what a file holds

-- one that stood while a link was served, once at least `kept` requests were decided
abbrev pub HoldsStood : {D : Type 0} {met : Ghosts D} → Served met → Served met → List ℕ → List ℕ → ℕ → List ℕ → Type 0
HoldsStood s t taken sent kept file = (w : World) × HoldsWorld w file × StoodSince s t taken sent kept w

-- ---- within a link

-- of the messages that stand in front of the bytes taken, answered with those written, u stood behind some first ones, and v behind some more
pub record IsStretch {D : Type 0} {met : Ghosts D} (s t : Served met) (taken sent : List ℕ) (u v : Served met) : Type 0 where
  pub before : List RequestMessage
  pub between : List RequestMessage
  pub after : List RequestMessage
  pub read : IsFront (spellings (before ++ between ++ after)) taken
  pub first_answers : List ℕ
  pub answers : List ℕ
  pub later_answers : List ℕ
  pub written : AreWritten (first_answers ++ answers ++ later_answers) sent
  pub reaches : Replays IsServed s before first_answers u
  pub passes : Replays IsServed u between answers v
  pub follows : Replays IsServed v after later_answers t
