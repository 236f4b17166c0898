-- How a session begins.
use Rattle.std.proofs.Common.{◌≡◌, ◌⊎◌, inl, inr, ℕ, List, [], ◌∷◌, ◌++◌, Option, Result, refl, sym, subst, append_assoc, arith}
use Rattle.access_lists.specs.Tokens.Bearer.{TokenTable}
use Rattle.edge_traits.specs.declared.disk.Disk.{Ghosts}
use Rattle.flush_journal.specs.Batches.{records}
use Rattle.flush_journal.specs.Files.{Content}
use Rattle.flush_journal.specs.Keepings.Keepings.{IsBacked, settled}
use Rattle.flush_journal.specs.Moments.{CrashLeaves, CrashLeavesSince}
use Rattle.flush_journal.specs.Records.{Record, put_record}
use Rattle.flush_journal.specs.Standing.{HoldsEither, disk_of, with_batch}
use Rattle.flush_journal.specs.declared.journal.Journal.{Journal}
use Rattle.flush_journal.specs.declared.keepings.keeping.Keeping.{Keeping}
use Rattle.flush_journal.specs.declared.why.Why.{Why}
use Rattle.flush_journal.proofs.Moments.{joined, weaker}
use Rattle.http_wire.specs.Messages.{RequestMessage}
use Rattle.service_core.specs.Journals.Begun.{IsBegun, IsBegunSince, IsOfDisk, IsUnstarted}
use Rattle.service_core.specs.Journals.Opening.{IsOf}
use Rattle.service_core.specs.KeptWorlds.{TellsWorld}
use Rattle.service_core.specs.Records.{WorldSays, as_kept, run_record}
use Rattle.service_core.specs.Worlds.{State}
use Rattle.service_core.specs.declared.journals.beginning.BeginFault.{BeginFault}
use Rattle.service_core.specs.declared.journals.beginning.BeginFault.TheVariants as begin
use Rattle.rest_session.specs.Links.Links.{AreWritten, IsFront, spellings}
use Rattle.rest_session.specs.Sessions.{IsServed, Served}
use Rattle.rest_session.specs.Stood.{HoldsStood, IsStretch, StoodSince}
use Rattle.rest_session.specs.Kept.Sessions.{HasCausesOf, HoldsHeld, IsEnded, IsLinkKept, IsSessionDiskFault, of_begin}
use Rattle.rest_session.specs.declared.kept.outcome.Closed.{Closed}
use Rattle.rest_session.specs.declared.kept.outcome.Outcome.TheVariants as outcome
use Rattle.rest_session.proofs.OfLinks.Progress.{replays_joined}

-- the first world stood while a link was served
stood_first : {D : Type 0} {met : Ghosts D} (first final : Served met) (taken sent : List ℕ) → IsStretch first final taken sent first final → StoodSince first final taken sent 0 (as_kept first.world)
stood_first first final taken sent whole = record {
  at = first;
  before = whole.before;
  after = whole.between ++ whole.after;
  read = subst (λ (ms : List RequestMessage). IsFront (spellings ms) taken) (append_assoc whole.before whole.between whole.after) whole.read;
  answers = whole.first_answers;
  later_answers = whole.answers ++ whole.later_answers;
  written = subst (λ (xs : List ℕ). AreWritten xs sent) (append_assoc whole.first_answers whole.answers whole.later_answers) whole.written;
  reaches = whole.reaches;
  follows = replays_joined IsServed first final final whole.between whole.after whole.answers whole.later_answers whole.passes whole.follows;
  shown = refl;
  late = omega arith;
}

-- the journal of a run that was begun, and its world
module _ {D : Type 0} {met : Ghosts D} (j : Journal D met) (v : State) (c : Content) (b : IsBegun j v c) where
  pub told_first : TellsWorld (put_record (run_record v.register) c.held) (as_kept v)
  told_first = let d = b.describes in record { register = d.register; objects = d.objects; given = d.given; strays = d.strays }

  -- a keeping with that journal
  pub backed_first : (k : Keeping D met) → k.journal ≡ j → records k.building ≡ [] → IsBacked TellsWorld k.journal (records k.building) (WorldSays v) (as_kept v ∷ [])
  backed_first k same none =
      subst (λ (x : Journal D met). IsBacked TellsWorld x (records k.building) (WorldSays v) (as_kept v ∷ [])) (sym same)
      (subst (λ (rs : List Record). IsBacked TellsWorld j rs (WorldSays v) (as_kept v ∷ [])) (sym none)
      (settled (with_batch c (run_record v.register ∷ [])) b.settled (inl told_first) b.says))

-- a keeping with the journal of a run that was begun, and its world
module _ {D : Type 0} (met : Ghosts D) (before : D) (j : Journal D met) (v : State) (k : Keeping D met) (same : k.journal ≡ j) where
  module _ (tokens : TokenTable) where
    abbrev pub first : Served met
    first = record { tokens = tokens; world = v; keeping = k }

    module _ (final : Served met) (taken sent : List ℕ) (whole : IsStretch first final taken sent first final) (c : Content) (b : IsBegunSince met before j v c) where
      abbrev IsLeft : List ℕ → Type 0
      IsLeft file = met.images before file ⊎ HoldsHeld c.held first final taken sent file

      of_begun : (file : List ℕ) → met.images before file ⊎ HoldsEither c.held (put_record (run_record v.register) c.held) file → IsLeft file
      of_begun file (inl old) = inl old
      of_begun file (inr (inl was)) = inr (inl was)
      of_begun file (inr (inr now)) = inr (inr (as_kept v, (put_record (run_record v.register) c.held, now, told_first j v c b.begun), stood_first first final taken sent whole))

      -- since the disk as it was, up to the end of the link that was served
      left_since : (after : D) → k.kept ≡ 0 → CrashLeaves met (disk_of k.journal) after (HoldsStood first final taken sent k.kept) → CrashLeavesSince met before after (HoldsHeld c.held first final taken sent)
      left_since after none later = joined met before (disk_of j) after IsLeft
          (weaker met before (disk_of j) (λ file. met.images before file ⊎ HoldsEither c.held (put_record (run_record v.register) c.held) file) IsLeft of_begun b.crash)
          (subst (λ (x : Journal D met). CrashLeaves met (disk_of x) after IsLeft) same
          (weaker met (disk_of k.journal) after (HoldsStood first final taken sent k.kept) IsLeft
          (λ file holds. inr (inr (subst (λ (n : ℕ). HoldsStood first final taken sent n file) none holds))) later))

    pub served_since : (after : D) (lb la hb ha : Option (List ℕ)) (closed : Closed) (last : Result ℕ Why) → (met.honest → IsOf (met.reads before) (IsBegunSince met before j v)) → k.kept ≡ 0
        → IsLinkKept first after lb la hb ha closed last → IsEnded met before after tokens lb la hb ha (outcome.Served closed last)
    served_since after lb la hb ha closed last on none link = (
      first,
      refl,
      (λ honest. let o = on honest in (o.0, o.1, subst (λ (x : Journal D met). IsBegun x v o.0) (sym same) o.2.begun)),
      link,
      λ honest. let o = on honest in (o.0, o.1, left_since link.final link.taken link.sent link.stretch o.0 o.2 after none (link.last_crash honest first link.stretch)),
    )

-- a session of which no run was begun
pub not_served : {D : Type 0} (met : Ghosts D) (before after : D) (tokens : TokenTable) (left held : Option (List ℕ)) (why : BeginFault) → IsUnstarted met before after why
    → IsEnded met before after tokens left left held held (of_begin why)
not_served met before after tokens left held (begin.Unopened refusal) h = (h.0, h.1, refl, refl)
not_served met before after tokens left held (begin.Unbegun refusal) h = (h, refl, refl)

pub causes_unserved : (read written : ℕ) (why : BeginFault) → HasCausesOf read read written written (of_begin why)
causes_unserved read written (begin.Unopened refusal) = (refl, refl)
causes_unserved read written (begin.Unbegun refusal) = (refl, refl)

pub fault_unserved : (why : BeginFault) → IsSessionDiskFault (of_begin why) → IsOfDisk why
fault_unserved (begin.Unopened refusal) h = h
fault_unserved (begin.Unbegun refusal) h = h
