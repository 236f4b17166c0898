-- A run of an opened world begins, or is refused.
use Rattle.std.proofs.Common.{◌≡◌, inl, inr, ⊎_elim, ℕ, ◌≤◌, List, [], ◌∷◌, Some, None, Result, Ok, Err, refl, sym, ap, subst, ◌∙◌, arith}
use Rattle.service_core.specs.Described.Told.{AreWhole}
use Rattle.edge_traits.specs.declared.disk.Disk.{Ghosts}
use Rattle.flush_journal.specs.Files.{Content, content, held}
use Rattle.flush_journal.specs.Frames.{need_of}
use Rattle.flush_journal.specs.Records.{Held, Record, put_record}
use Rattle.flush_journal.specs.Refusals.{MayRefuse}
use Rattle.flush_journal.specs.Standing.{HasEither, HoldsEither, IsSettled, disk_of, end_of, pending_of, with_batch}
use Rattle.flush_journal.specs.Tries.{Tries, Writes}
use Rattle.flush_journal.specs.Unchanged.{SameBytes, SameDisk}
use Rattle.flush_journal.specs.declared.journal.Journal.{Journal}
use Rattle.flush_journal.specs.declared.why.Why.{Why}
use Rattle.flush_journal.specs.declared.why.Why.TheVariants as why
use Rattle.flush_journal.proofs.ContentLemmas.{held-content}
use Rattle.flush_journal.proofs.JournalLemmas.{either_held}
use Rattle.flush_journal.proofs.Moments.{no_call, weaker}
use Rattle.register.specs.Decided.{RegisterState}
use Rattle.register.specs.Kept.{all_kept, run_kept}
use Rattle.service_core.specs.Records.{DescribesWorld, IsKept, IsWorldOf, OrNoMemory, WorldSays, run_record}
use Rattle.service_core.specs.Steps.{World}
use Rattle.service_core.specs.Worlds.{State, seen}
use Rattle.flush_journal.specs.Moments.{CrashLeaves, CrashLeavesSince}
use Rattle.edge_traits.proofs.CauseLemmas.{rose_since}
use Rattle.service_core.specs.Journals.Begun.{IsBegun, IsOpened, IsRecovered, IsRunRefusal, IsRunRefused, IsUnbegun, IsUnstarted, IsUnwritten, MayRefuseRun, begun}
use Rattle.service_core.specs.declared.journals.beginning.BeginFault.{BeginFault}
use Rattle.service_core.specs.declared.journals.beginning.BeginFault.TheVariants.{Unopened, Unbegun}

-- nothing of the world is to be written in its run
kept_then : {D : Type 0} {met : Ghosts D} (j : Journal D met) (w : State) (c : Content) → IsOpened j w c → IsKept (begun w)
kept_then j w c is = record {
  register = subst (λ (d : RegisterState). run_kept d ≡ all_kept (run_kept d)) (sym is.world.register.begins) refl;
  lanes = is.still;
}

-- the record of the run waits no more
pub run_idle : {D : Type 0} {met : Ghosts D} (old new : Journal D met) (rs : List Record) → OrNoMemory (Ok tt) (new ≡ old) (Tries old new rs (Ok tt)) → pending_of new ≡ None
run_idle old new rs (inl h) = let no : ◌≡◌ {A = Result (Unit {0}) Why} (Ok tt) (Err why.NoMemory) = h.0 in absurd (cc)
run_idle old new rs (inr h) = h.done

-- why a run isn't begun
refused_by : (w : World) (end room before now : ℕ) (e : Why) → MayRefuse end (need_of (run_record w.register ∷ [])) room before now e → MayRefuseRun w end room before now e
refused_by w end room before now why.DiskFault h = h
refused_by w end room before now (why.JournalFull e n r) h = h
refused_by w end room before now (why.NotAJournal at) h = absurd h
refused_by w end room before now why.Exists h = absurd h
refused_by w end room before now why.NoMemory h = tt

module _ {D : Type 0} {met : Ghosts D} (old new : Journal D met) (w : State) (e : Why) where
  pub run_refused : OrNoMemory (Err e) (new ≡ old) (Tries old new (run_record w.register ∷ []) (Err e))
      → MayRefuseRun (seen w) (end_of old) (met.most (disk_of old)) (met.faults (disk_of old)) (met.faults (disk_of new)) e
  run_refused (inl h) = let same : e ≡ why.NoMemory = cc in subst (MayRefuseRun (seen w) (end_of old) (met.most (disk_of old)) (met.faults (disk_of old)) (met.faults (disk_of new))) (sym same) tt
  run_refused (inr h) = refused_by (seen w) (end_of old) (met.most (disk_of old)) (met.faults (disk_of old)) (met.faults (disk_of new)) e h.cause

  -- where nothing was written, the disk is as it was
  run_untouched : OrNoMemory (Err e) (new ≡ old) (Tries old new (run_record w.register ∷ []) (Err e)) → IsUnwritten e → disk_of new ≡ disk_of old
  run_untouched (inl h) nothing = ap (λ (j : Journal D met). disk_of j) h.1
  run_untouched (inr h) nothing = by e nothing h.cause where
    by : (x : Why) → IsUnwritten x → MayRefuse (end_of old) (need_of (run_record w.register ∷ [])) (met.most (disk_of old)) (met.faults (disk_of old)) (met.faults (disk_of new)) x → disk_of new ≡ disk_of old
    by why.DiskFault nothing cause = absurd nothing
    by (why.JournalFull end need room) nothing cause = h.untouched cause.3
    by (why.NotAJournal at) nothing cause = absurd nothing
    by why.Exists nothing cause = absurd nothing
    by why.NoMemory nothing cause = absurd cause

  content_still : (c : Content) → IsSettled old c → (image : List ℕ) → met.images (disk_of old) image → content image ≡ Ok c
  content_still c s image left = ap content (s.only image left) ∙ s.file

  held_still : (c : Content) → IsSettled old c → (image : List ℕ) → met.images (disk_of old) image → held image ≡ Some c.held
  held_still c s image left = held-content image c (content_still c s image left)

  pub run_unwritten : OrNoMemory (Err e) (new ≡ old) (Tries old new (run_record w.register ∷ []) (Err e)) → IsUnwritten e → (c : Content) → IsSettled old c → (image : List ℕ) → met.images (disk_of new) image
      → content image ≡ Ok c
  run_unwritten tries nothing c s image left = content_still c s image (subst (λ (d : D). met.images d image) (run_untouched tries nothing) left)

  pub run_images : (c : Content) → IsSettled old c → OrNoMemory (Err e) (new ≡ old) (Writes old new c (run_record w.register ∷ []) (Err e)) → (image : List ℕ) → met.images (disk_of new) image
      → HoldsEither c.held (put_record (run_record w.register) c.held) image
  run_images c s (inl h) image left = inl (held_still c s image (subst (λ (j : Journal D met). met.images (disk_of j) image) h.1 left))
  run_images c s (inr h) image left = either_held c (run_record w.register ∷ []) image (h.err.each image left)

  pub run_crash : ((disk : D) (file : List ℕ) → met.honest → met.left_since disk (met.moment disk) file → met.images disk file) → met.honest → (c : Content) → IsSettled old c
      → OrNoMemory (Err e) (new ≡ old) (Writes old new c (run_record w.register ∷ []) (Err e)) → CrashLeaves met (disk_of old) (disk_of new) (HoldsEither c.held (put_record (run_record w.register) c.held))
  run_crash only_now honest c s (inl h) = subst (λ (j : Journal D met). CrashLeaves met (disk_of old) (disk_of j) (HoldsEither c.held (put_record (run_record w.register) c.held))) (sym h.1)
      (no_call met (disk_of old) (HoldsEither c.held (put_record (run_record w.register) c.held))
      (λ file left. inl (held_still c s file (only_now (disk_of old) file honest left))))
  run_crash only_now honest c s (inr h) = weaker met (disk_of old) (disk_of new) (HasEither c (with_batch c (run_record w.register ∷ []))) (HoldsEither c.held (put_record (run_record w.register) c.held))
      (λ file has. either_held c (run_record w.register ∷ []) file has) h.moments

-- a refusal after a call of before, in which no count fell
later_refusal : (w : World) (end room first before now : ℕ) (e : Why) → first ≤ before → MayRefuseRun w end room before now e → MayRefuseRun w end room first now e
later_refusal w end room first before now why.DiskFault le h = rose_since first before now le h
later_refusal w end room first before now (why.JournalFull e n r) le h = h
later_refusal w end room first before now (why.NotAJournal at) le h = h
later_refusal w end room first before now why.Exists le h = h
later_refusal w end room first before now why.NoMemory le h = tt

-- the world of an opened journal, and that world in its run
pub recovered : (held : Held) (lanes : ℕ) (w : State) → IsWorldOf held lanes w → AreWhole (seen w).objects → IsRecovered held (seen w)
recovered held lanes w is whole = record {
  kept = is.register.kept;
  described = is.describes;
  run = ap (λ (d : RegisterState). d.run) is.register.begins;
  serial = ap (λ (d : RegisterState). d.serial) is.register.begins;
  places = ap (λ (d : RegisterState). d.places) is.register.begins;
  whole = whole;
}

recovered_begun : (held : Held) (w : State) → IsRecovered held (seen w) → IsRecovered held (seen (begun w))
recovered_begun held w r = record {
  kept = r.kept;
  described = record { register = r.described.register; objects = r.described.objects; given = r.described.given; strays = r.described.strays };
  run = r.run;
  serial = r.serial;
  places = r.places;
  whole = r.whole;
}

-- a run of calls behind one that changed no byte
pub since_before : {D : Type 0} (met : Ghosts D) (before mid after : D) (P : List ℕ → Type 0) → ((disk : D) (file : List ℕ) → met.honest → met.left_since disk (met.moment disk) file → met.images disk file)
    → met.honest → SameBytes met before mid → CrashLeaves met mid after P → CrashLeavesSince met before after P
since_before met before mid after P only_now honest same l = record {
  later = omega (arith, same.later, l.later);
  each = λ file left. ⊎_elim (λ was. inl (only_now before file honest (same.since (met.moment before) (omega arith) file was))) (λ p. inr p) (l.before (met.moment before) file same.later left);
  before = λ t file le left. ⊎_elim (λ was. inl (same.since t le file was)) (λ p. inr (inr p)) (l.before t file (omega (arith, le, same.later)) left);
}

-- the world of an opened journal, in its run
module _ {D : Type 0} {met : Ghosts D} (old new : Journal D met) (w s : State) (c : Content) (is : IsOpened old w c) (same : s ≡ begun w)
    (wrote : OrNoMemory (Ok tt) (new ≡ old) (Writes old new c (run_record w.register ∷ []) (Ok tt))) where
  same_record : run_record s.register ≡ run_record w.register
  same_record = ap (λ (x : State). run_record x.register) same

  writes : Writes old new c (run_record w.register ∷ []) (Ok tt)
  writes = by wrote where
    by : OrNoMemory (Ok tt) (new ≡ old) (Writes old new c (run_record w.register ∷ []) (Ok tt)) → Writes old new c (run_record w.register ∷ []) (Ok tt)
    by (inl h) = let wrong : ◌≡◌ {A = Result (Unit {0}) Why} (Ok tt) (Err why.NoMemory) = h.0 in absurd (cc)
    by (inr h) = h

  pub is_begun : ((m : Held) → WorldSays w m → WorldSays s (put_record (run_record w.register) m))
      → (IsKept s → (m : Held) → WorldSays s m → DescribesWorld m s.register.run (seen s)) → IsBegun new s c
  is_begun says described =
      let said : WorldSays s (put_record (run_record s.register) c.held) = subst (λ (r : Record). WorldSays s (put_record r c.held)) (sym same_record) (says c.held is.says) in
      let kept : IsKept s = subst IsKept (sym same) (kept_then old w c is) in
      record {
        recovered = subst (λ (x : State). IsRecovered c.held (seen x)) (sym same) (recovered_begun c.held w (recovered c.held c.lanes w is.world is.whole));
        kept = kept;
        settled = subst (λ (r : Record). IsSettled new (with_batch c (r ∷ []))) (sym same_record) writes.ok;
        says = said;
        describes = described kept (put_record (run_record s.register) c.held) said;
      }

  pub begun_crash : CrashLeaves met (disk_of old) (disk_of new) (HoldsEither c.held (put_record (run_record s.register) c.held))
  begun_crash = weaker met (disk_of old) (disk_of new) (HasEither c (with_batch c (run_record w.register ∷ []))) (HoldsEither c.held (put_record (run_record s.register) c.held))
      (λ file has. subst (λ (r : Record). HoldsEither c.held (put_record r c.held) file) (sym same_record) (either_held c (run_record w.register ∷ []) file has)) writes.moments

-- the run of an opened world was refused
module _ {D : Type 0} (met : Ghosts D) (before : D) (j : Journal D met) (w : State) (after : D) (opened : met.honest → (c : Content) × (content (met.reads before) ≡ Ok c) × IsOpened j w c)
    (same : SameDisk met before (disk_of j)) (only_now : (disk : D) (file : List ℕ) → met.honest → met.left_since disk (met.moment disk) file → met.images disk file)
    (bytes : met.honest → SameBytes met before (disk_of j)) where
  unbegun_from : (why : Why) → IsRunRefused j w after why → IsUnbegun met before after why
  unbegun_from why h = record {
    world = seen w;
    recovered = λ honest. let o = opened honest in (o.0, o.1, recovered o.0.held o.0.lanes w o.2.world o.2.whole);
    end = end_of j;
    behind = λ honest. let o = opened honest in (o.0, o.1, o.2.settled.numbers.end);
    cause = later_refusal (seen w) (end_of j) (met.most before) (met.faults before) (met.faults (disk_of j)) (met.faults after) why same.faults
        (subst (λ (room : ℕ). MayRefuseRun (seen w) (end_of j) room (met.faults (disk_of j)) (met.faults after) why) same.most h.cause);
    images = λ honest image left. let o = opened honest in (o.0, o.1, h.images honest image left o.0 o.2.settled);
    unwritten = λ honest nothing image left. let o = opened honest in (o.0, o.1, h.unwritten honest nothing image left o.0 o.2.settled);
    crash = λ honest. let o = opened honest in (
      o.0,
      o.1,
      since_before met before (disk_of j) after (HoldsEither o.0.held (put_record (run_record w.register) o.0.held)) only_now honest (bytes honest)
          (h.crash honest o.0 o.2.settled),
    );
  }

  pub unstarted_from : (why : BeginFault) → IsRunRefusal j w after why → IsUnstarted met before after why
  unstarted_from (Unopened refusal) h = absurd h
  unstarted_from (Unbegun refusal) h = unbegun_from refusal h
