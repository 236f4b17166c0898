-- What a session over a disk does.
--     IsServedFrom c first      a session begins with it, and with nothing to be written
--     IsLinkKept first after ..      a link was served from a world on, and what changed was kept
--     IsEnded before after .. outcome      what a session came to
use Rattle.std.specs.Prelude.{◌≡◌, ◌⊎◌, ℕ, List, Option, Some, Result, Err, OnOk}
use Rattle.std.specs.Io.KnownBytes.{Appends, Consumes}
use Rattle.std.specs.List.{AllByRecursion}
use Rattle.access_lists.specs.Tokens.Bearer.{TokenTable}
use Rattle.edge_traits.specs.declared.disk.Disk.{Ghosts}
use Rattle.flush_journal.specs.Files.{Content, held}
use Rattle.flush_journal.specs.Moments.{CrashLeaves, CrashLeavesSince}
use Rattle.flush_journal.specs.Keepings.Keepings.{IsNewKeeping}
use Rattle.flush_journal.specs.Records.{Held, Record}
use Rattle.flush_journal.specs.Standing.{disk_of, pending_of}
use Rattle.flush_journal.specs.Unchanged.{SameBytes}
use Rattle.flush_journal.specs.declared.why.Why.{Why}
use Rattle.flush_journal.specs.declared.why.Why.TheVariants as why
use Rattle.flush_journal.specs.declared.keepings.keeping.Keeping.{Keeping}
use Rattle.service_core.specs.Journals.Opening.{IsOf, MayRefuseOpening}
use Rattle.service_core.specs.Journals.Begun.{IsBegun, IsUnbegun}
use Rattle.service_core.specs.declared.journals.beginning.BeginFault.{BeginFault}
use Rattle.service_core.specs.declared.journals.beginning.BeginFault.TheVariants as begin
use Rattle.service_core.specs.declared.journals.faults.OpenFault.TheVariants as fault
use Rattle.rest_session.specs.Links.Links.{HasCauses, IsTranscript}
use Rattle.service_core.specs.Records.{as_kept}
use Rattle.service_core.specs.Worlds.{State}
use Rattle.rest_session.specs.Sessions.{IsServed, Served}
use Rattle.service_core.specs.KeptWorlds.{KeepsWorld, HoldsWorld}
use Rattle.rest_session.specs.Stood.{HoldsStood, IsOfStood, IsStretch}
use Rattle.rest_session.specs.declared.kept.outcome.Closed.{Closed}
use Rattle.rest_session.specs.declared.kept.outcome.Outcome.{Outcome}
use Rattle.rest_session.specs.declared.kept.outcome.Outcome.TheVariants.{Unopened, Unbegun}
use Rattle.rest_session.specs.declared.kept.outcome.Outcome.TheVariants as outcome

-- ---- the world at the begin of a session

-- the world that a file's content holds is served, all of it is kept, and the journal is settled, with the record of its run
abbrev pub IsServedFrom : {D : Type 0} {met : Ghosts D} → Content → Served met → Type 0
IsServedFrom c first = IsBegun first.keeping.journal first.world c

-- ---- what a crash leaves

-- a file holds what was held, or a world that stood while a link was served
abbrev pub HoldsHeld : {D : Type 0} {met : Ghosts D} → Held → Served met → Served met → List ℕ → List ℕ → List ℕ → Type 0
HoldsHeld m first final taken sent file = (held file ≡ Some m) ⊎ HoldsStood first final taken sent 0 file

-- ---- a link that was served

-- The transcript from the first world on, and the keeping after its end. On a disk that keeps its rule, whatever a crash leaves then is a
-- world that stood, and no earlier than at the last keeping that was answered Ok; where that is the one after the end, it is the last world.
-- So it is with a crash at any moment between two messages u and v, and between u and the end. What waits to be written then is records
-- of worlds that stood, and no earlier than at that keeping.
pub record IsLinkKept {D : Type 0} {met : Ghosts D} (first : Served met) (after : D) (left_before left_after held_before held_after : Option (List ℕ)) (closed : Closed)
    (last : Result ℕ Why) : Type 0 where
  pub begins : IsNewKeeping first.keeping
  pub final : Served met
  pub keeping : Keeping D met
  pub world : State
  pub taken : List ℕ
  pub sent : List ℕ
  pub consumed : Consumes left_before left_after taken
  pub appended : Appends held_before held_after sent
  pub transcript : IsTranscript IsServed first taken sent left_after final closed.end
  pub last_keeping : KeepsWorld final.keeping final.world keeping world last
  pub disk : after ≡ disk_of keeping.journal
  pub front : closed.front ≡ final.world.register.places
  pub kept : closed.kept ≡ keeping.kept
  pub all : OnOk last (closed.kept ≡ closed.front)
  pub waits : (rs : List Record) → pending_of keeping.journal ≡ Some rs → AllByRecursion (IsOfStood first final taken sent closed.kept) rs
  pub stretch : IsStretch first final taken sent first final
  pub crash : met.honest → (u v : Served met) → IsStretch first final taken sent u v → CrashLeaves met (disk_of u.keeping.journal) (disk_of v.keeping.journal) (HoldsStood first v taken sent u.keeping.kept)
  pub last_crash : met.honest → (u : Served met) → IsStretch first final taken sent u final → CrashLeaves met (disk_of u.keeping.journal) after (HoldsStood first final taken sent u.keeping.kept)
  pub images : met.honest → (image : List ℕ) → met.images after image → HoldsStood first final taken sent closed.kept image
  pub whole : met.honest → OnOk last ((image : List ℕ) → met.images after image → HoldsWorld (as_kept final.world) image)

-- ---- what a session came to

-- The link was as it was, or it was served from the world on that the disk kept; then whatever a crash left since holds that, or a world that
-- stood, but for an image of before.
abbrev pub IsEnded : {D : Type 0} (met : Ghosts D) → D → D → TokenTable → Option (List ℕ) → Option (List ℕ) → Option (List ℕ) → Option (List ℕ) → Outcome → Type 0
IsEnded met before after tokens lb la hb ha (Unopened why) =
    MayRefuseOpening met.honest (met.reads before) (met.faults before) (met.faults after) why × (met.honest → SameBytes met before after) × (la ≡ lb) × (ha ≡ hb)
IsEnded met before after tokens lb la hb ha (Unbegun why) = IsUnbegun met before after why × (la ≡ lb) × (ha ≡ hb)
IsEnded met before after tokens lb la hb ha (outcome.Served closed last) =
    (first : Served met) × (first.tokens ≡ tokens) × (met.honest → IsOf (met.reads before) (λ c. IsServedFrom c first))
    × (kept : IsLinkKept first after lb la hb ha closed last) × (met.honest → IsOf (met.reads before) (λ c. CrashLeavesSince met before after (HoldsHeld c.held first kept.final kept.taken kept.sent)))

-- no count of the link fell, and each fault was counted
abbrev pub HasCausesOf : ℕ → ℕ → ℕ → ℕ → Outcome → Type 0
HasCausesOf read_before read_now write_before write_now (Unopened why) = (read_now ≡ read_before) × (write_now ≡ write_before)
HasCausesOf read_before read_now write_before write_now (Unbegun why) = (read_now ≡ read_before) × (write_now ≡ write_before)
HasCausesOf read_before read_now write_before write_now (outcome.Served closed last) = HasCauses read_before read_now write_before write_now closed.end

-- the disk had a fault
abbrev pub IsSessionDiskFault : Outcome → Type 0
IsSessionDiskFault (Unopened refusal) = refusal ≡ fault.DiskFault
IsSessionDiskFault (Unbegun refusal) = refusal ≡ why.DiskFault
IsSessionDiskFault (outcome.Served closed last) = last ≡ Err why.DiskFault

-- ---- a run that was not begun

abbrev pub of_begin : BeginFault → Outcome
of_begin (begin.Unopened why) = Unopened why
of_begin (begin.Unbegun why) = Unbegun why
