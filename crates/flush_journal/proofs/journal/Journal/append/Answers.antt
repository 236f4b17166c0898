use Rattle.std.proofs.Common.{◌≡◌, ℕ, ◌+◌, List, length, Err, inl, refl, sym, ◌∙◌, ap, subst, arith}
use Rattle.flush_journal.specs.declared.why.Why.TheVariants.{JournalFull}
use Rattle.flush_journal.specs.Batches.{records}
use Rattle.flush_journal.specs.Frames.{frame_of, need_of}
use Rattle.flush_journal.specs.Markers.{HasClosedMarker, HasOpenMarker, Either, AllHave, OnlyHas, EndsInClosedMarker, MarkerStands}
use Rattle.flush_journal.specs.Moments.{CrashLeaves}
use Rattle.flush_journal.specs.Refusals.{MayRefuse}
use Rattle.flush_journal.proofs.MarkerLemmas.{all_have}
use Rattle.flush_journal.proofs.JournalLemmas.{start_of, frame_ends, need_of-size}
use Rattle.flush_journal.proofs.JournalStates.{is_false, are_batch, none_owed, some_batch, owed_by, settled_by, leaves_either}
use Rattle.flush_journal.proofs.Moments.{no_call}
use Rattle.flush_journal.proofs.journal.Journal.append.Goals as goal

pub returns-in-Err-clause-writes : goal.returns-in-Err-clause-writes
returns-in-Err-clause-writes g c = λ h c' s.
    let rs = records c.args.batch in
    let disk = c.args.self.now.disk in
    let some = is_false _ c.is_empty.ensures c.if-is_empty.false in
    let are = are_batch _ _ some c.frame.ensures.bytes c.frame.ensures.length c.frame.ensures.read in
    let start = start_of _ _ c' s.file s.only in
    record {
      ok = tt;
      err = owed_by _ c' rs start.front start.is_front are refl
          (record { version = s.numbers.version; lanes = s.numbers.lanes; batches = s.numbers.batches; end = s.numbers.end })
          (all_have (HasClosedMarker start.front) (Either start.front (frame_of rs)) _ _ (λ b shut. inl shut) start.has);
      moments = leaves_either c.args.self.now c' rs start.front start.is_front are disk disk
          (no_call g.D.Disk disk (Either start.front (frame_of rs))
          (λ i left. inl (subst (HasClosedMarker start.front) (sym (start.has.only i (g.met.D.Disk.only_now disk i h left))) start.has.now)));
    }

pub returns-in-Err-clause-tries : goal.returns-in-Err-clause-tries
returns-in-Err-clause-tries g c = λ some.
    let rs = records c.args.batch in
    let old = c.args.self.now in
    let need = need_of-size rs c.frame.result.now some c.frame.ensures.bytes in
    record {
      done = tt;
      counted = tt;
      pending = refl;
      numbers = refl;
      cause = subst (MayRefuse old.numbers.end (need_of rs) (g.D.Disk.most old.disk) (g.D.Disk.faults old.disk) (g.D.Disk.faults old.disk)) (sym c.in-Err.ensures.full)
          (refl, need, c.room.ensures, omega (arith, c.in-Err.ensures.err, c.room.ensures, need));
      refused = λ lt. ap Err (c.in-Err.ensures.full ∙ (λ i. JournalFull old.numbers.end (need i) (c.room.ensures i)));
      untouched = λ lt. refl;
    }

pub invariant_of-self-in-Err-write_frame : goal.invariant_of-self-in-Err-write_frame
invariant_of-self-in-Err-write_frame g c =
    let some = is_false _ c.is_empty.ensures c.if-is_empty.false in
    record {
      version1 = c.args.self.now.version1;
      marker = λ h. subst (λ (l : List ℕ). MarkerStands c.args.self.now.numbers.end (length l) (g.D.Disk.reads c.write_frame.new.disk)) c.frame-2.ensures.bytes
          (c.write_frame.ensures.stands h (subst EndsInClosedMarker (sym c.frame-2.ensures.bytes) (frame_ends (records c.args.batch) some)));
      some = some_batch (records c.args.batch) some;
    }

pub returns-in-Err-write_frame-clause-writes : goal.returns-in-Err-write_frame-clause-writes
returns-in-Err-write_frame-clause-writes g c = λ h c' s.
    let rs = records c.args.batch in
    let old = c.args.self.now.disk in
    let new = c.write_frame.new.disk in
    let some = is_false _ c.is_empty.ensures c.if-is_empty.false in
    let are = are_batch _ _ some c.frame.ensures.bytes c.frame.ensures.length c.frame.ensures.read in
    let start = start_of _ _ c' s.file s.only in
    let place = start.is_front.place ∙ sym s.numbers.end in
    record {
      ok = tt;
      err = owed_by _ c' rs start.front start.is_front are refl
          (record { version = s.numbers.version; lanes = s.numbers.lanes; batches = s.numbers.batches; end = s.numbers.end })
          (subst (λ (l : List ℕ). AllHave (Either start.front l) (g.D.Disk.reads new) (g.D.Disk.images new)) c.frame-2.ensures.bytes
          (c.write_frame.ensures.kept h start.front place start.has));
      moments = leaves_either c.args.self.now c' rs start.front start.is_front are old new
          (subst (λ (l : List ℕ). CrashLeaves g.D.Disk old new (Either start.front l)) c.frame-2.ensures.bytes
          (c.write_frame.ensures.moments h start.front place start.has));
    }

pub returns-in-Err-write_frame-clause-tries : goal.returns-in-Err-write_frame-clause-tries
returns-in-Err-write_frame-clause-tries g c = λ some.
    let need = need_of-size (records c.args.batch) c.frame.result.now some c.frame.ensures.bytes in
    record {
      done = tt;
      counted = tt;
      pending = refl;
      numbers = refl;
      cause = c.in-Err-write_frame.ensures.cause.cause;
      refused = λ lt. absurd (omega (arith, lt, c.in_default.ensures.ok, c.room.ensures, need));
      untouched = λ lt. absurd (omega (arith, lt, c.in_default.ensures.ok, c.room.ensures, need));
    }

pub invariant_of-self-2 : goal.invariant_of-self-2
invariant_of-self-2 g c =
    let old = c.args.self.now in
    let rs = records c.args.batch in
    let some = is_false _ c.is_empty.ensures c.if-is_empty.false in
    let size : length c.frame-2.result.now ≡ length c.frame.result.now = ap length (c.frame-2.ensures.bytes ∙ sym c.frame.ensures.bytes) in
    let reads = g.D.Disk.reads c.write_frame.new.disk in
    record {
      version1 = record {
        version = old.version1.version;
        some_lane = old.version1.some_lane;
        few_lanes = old.version1.few_lanes;
        counted = omega (arith, old.version1.counted, need_of-size rs c.frame.result.now some c.frame.ensures.bytes);
      };
      marker = λ h. subst (λ (n : ℕ). MarkerStands (old.numbers.end + length c.frame.result.now) n reads) (sym (none_owed old.pending c.requires.idle))
          (subst (λ (n : ℕ). MarkerStands (old.numbers.end + n) 0 reads) size
          (c.in_default-write_frame.ensures.moved h (subst EndsInClosedMarker (sym c.frame-2.ensures.bytes) (frame_ends rs some))));
      some = old.some;
    }

pub returns-clause-writes : goal.returns-clause-writes
returns-clause-writes g c = λ h c' s.
    let rs = records c.args.batch in
    let old = c.args.self.now.disk in
    let new = c.write_frame.new.disk in
    let some = is_false _ c.is_empty.ensures c.if-is_empty.false in
    let are = are_batch _ _ some c.frame.ensures.bytes c.frame.ensures.length c.frame.ensures.read in
    let start = start_of _ _ c' s.file s.only in
    let place = start.is_front.place ∙ sym s.numbers.end in
    record {
      ok = settled_by _ c' rs start.front start.is_front are c.requires.idle
          s.numbers.version s.numbers.lanes
          (ap (λ (n : ℕ). n + 1) s.numbers.batches)
          (λ i. s.numbers.end i + length (c.frame.ensures.bytes i))
          (subst (λ (l : List ℕ). OnlyHas (HasOpenMarker start.front l) (g.D.Disk.reads new) (g.D.Disk.images new)) c.frame-2.ensures.bytes
          (c.in_default-write_frame.ensures.ok h start.front place start.has));
      err = tt;
      moments = leaves_either c.args.self.now c' rs start.front start.is_front are old new
          (subst (λ (l : List ℕ). CrashLeaves g.D.Disk old new (Either start.front l)) c.frame-2.ensures.bytes
          (c.write_frame.ensures.moments h start.front place start.has));
    }

pub returns-clause-tries : goal.returns-clause-tries
returns-clause-tries g c = λ some.
    let old = c.args.self.now.numbers in
    let need = need_of-size (records c.args.batch) c.frame.result.now some c.frame.ensures.bytes in
    record {
      done = c.requires.idle;
      counted = λ i. record { version = old.version; lanes = old.lanes; batches = old.batches + 1; end = old.end + length (c.frame.ensures.bytes i) };
      pending = tt;
      numbers = tt;
      cause = tt;
      refused = λ lt. absurd (omega (arith, lt, c.in_default.ensures.ok, c.room.ensures, need));
      untouched = λ lt. absurd (omega (arith, lt, c.in_default.ensures.ok, c.room.ensures, need));
    }
