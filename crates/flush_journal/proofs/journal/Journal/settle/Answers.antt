use Rattle.std.proofs.Common.{◌≡◌, ◌≢◌, ℕ, ◌+◌, List, [], length, Some, Err, refl, sym, ◌∙◌, ap, subst, arith}
use Rattle.std.specs.Prelude.{option_map}
use Rattle.std.proofs.Math.Bridge.{le_prop}
use Rattle.std.proofs.Math.Nat.{ℕ_set}
use Rattle.flush_journal.specs.declared.why.Why.TheVariants.{JournalFull}
use Rattle.flush_journal.specs.Batches.{records, owed_size}
use Rattle.flush_journal.specs.Frames.{frame_of, need_of}
use Rattle.flush_journal.specs.Markers.{HasOpenMarker, Either, AllHave, OnlyHas, EndsInClosedMarker, MarkerStands}
use Rattle.flush_journal.specs.Moments.{CrashLeaves}
use Rattle.flush_journal.specs.Reports.{IsVersion1}
use Rattle.flush_journal.specs.Refusals.{MayRefuse}
use Rattle.flush_journal.proofs.ContentLemmas.{front_closed}
use Rattle.flush_journal.proofs.JournalLemmas.{frame_ends, need_of-size, AreBatch}
use Rattle.flush_journal.proofs.JournalStates.{are_batch, some_pending, pending_records, owed_by, settled_by, leaves_either}
use Rattle.flush_journal.proofs.journal.Journal.settle.Goals as goal

pub returns-in_default-clause-untouched : goal.returns-in_default-clause-untouched
returns-in_default-clause-untouched g c = λ none i.
    let version1_prop : IsProp (IsVersion1 c.args.self.now.numbers) = hlevel (le_prop, ℕ_set) in
    let marker_prop : IsProp (g.D.Disk.honest → MarkerStands c.args.self.now.numbers.end (owed_size c.args.self.now.pending) (g.D.Disk.reads c.args.self.now.disk)) = hlevel (le_prop) in
    let some_prop : IsProp (option_map records c.args.self.now.pending ≢ Some []) = hlevel (le_prop) in
    record {
      disk = c.args.self.now.disk;
      numbers = c.args.self.now.numbers;
      pending = c.args.self.now.pending;
      version1 = version1_prop c.self-in_default-1.given.0 c.args.self.now.version1 i;
      marker = marker_prop c.self-in_default-1.given.1.0 c.args.self.now.marker i;
      some = some_prop c.self-in_default-1.given.1.1.0 c.args.self.now.some i;
    }

pub returns-in-Err-clause-tries : goal.returns-in-Err-clause-tries
returns-in-Err-clause-tries g c = λ rs is.
    let old = c.args.self.now in
    let some : records c.in-Some.batch ≢ [] = some_pending old.pending c.in-Some.batch old.some c.in-Some.is in
    let need = need_of-size (records c.in-Some.batch) c.frame.result.now some c.frame.ensures.bytes ∙ ap need_of (pending_records old.pending c.in-Some.batch rs c.in-Some.is is) in
    record {
      done = tt;
      counted = tt;
      pending = is;
      numbers = refl;
      cause = subst (MayRefuse old.numbers.end (need_of rs) (g.D.Disk.most old.disk) (g.D.Disk.faults old.disk) (g.D.Disk.faults old.disk)) (sym c.in-Err.ensures.full)
          (refl, need, c.room.ensures, omega (arith, c.in-Err.ensures.err, c.room.ensures, need));
      refused = λ lt. ap Err (c.in-Err.ensures.full ∙ (λ i. JournalFull old.numbers.end (need i) (c.room.ensures i)));
      untouched = λ lt. refl;
    }

pub invariant_of-self-in-Err-write_again : goal.invariant_of-self-in-Err-write_again
invariant_of-self-in-Err-write_again g c =
    let old = c.args.self.now in
    let some : records c.in-Some.batch ≢ [] = some_pending old.pending c.in-Some.batch old.some c.in-Some.is in
    record {
      version1 = old.version1;
      marker = λ h. subst (λ (n : ℕ). MarkerStands old.numbers.end n (g.D.Disk.reads c.write_again.new.disk)) (ap length c.frame-2.ensures.bytes ∙ ap owed_size (sym c.in-Some.is))
          (c.write_again.ensures.stands h (subst EndsInClosedMarker (sym c.frame-2.ensures.bytes) (frame_ends (records c.in-Some.batch) some)));
      some = old.some;
    }

pub returns-in-Err-write_again-clause-writes : goal.returns-in-Err-write_again-clause-writes
returns-in-Err-write_again-clause-writes g c = λ h c' rs s.
    let old = c.args.self.now in
    let new = c.write_again.new.disk in
    let some : records c.in-Some.batch ≢ [] = some_pending old.pending c.in-Some.batch old.some c.in-Some.is in
    let eq = pending_records old.pending c.in-Some.batch rs c.in-Some.is s.pending in
    let are = subst AreBatch eq (are_batch (records c.in-Some.batch) c.frame.result.now some c.frame.ensures.bytes c.frame.ensures.length c.frame.ensures.read) in
    let is = front_closed s.resumable.front c' s.resumable.closed s.resumable.place in
    let bytes = c.frame-2.ensures.bytes ∙ ap frame_of eq in
    let has : AllHave (Either s.resumable.front c.frame-2.result.now) (g.D.Disk.reads old.disk) (g.D.Disk.images old.disk) =
    subst (λ (l : List ℕ). AllHave (Either s.resumable.front l) (g.D.Disk.reads old.disk) (g.D.Disk.images old.disk)) (sym bytes) (record { now = s.resumable.now; each = s.resumable.each }) in
    let place = s.resumable.place ∙ sym s.numbers.end in
    record {
      ok = tt;
      err = owed_by _ c' rs s.resumable.front is are s.pending
          (record { version = s.numbers.version; lanes = s.numbers.lanes; batches = s.numbers.batches; end = s.numbers.end })
          (subst (λ (l : List ℕ). AllHave (Either s.resumable.front l) (g.D.Disk.reads new) (g.D.Disk.images new)) bytes
          (c.write_again.ensures.kept h s.resumable.front place has));
      moments = leaves_either old c' rs s.resumable.front is are old.disk new
          (subst (λ (l : List ℕ). CrashLeaves g.D.Disk old.disk new (Either s.resumable.front l)) bytes
          (c.write_again.ensures.moments h s.resumable.front place has));
    }

pub returns-in-Err-write_again-clause-tries : goal.returns-in-Err-write_again-clause-tries
returns-in-Err-write_again-clause-tries g c = λ rs is.
    let old = c.args.self.now in
    let some : records c.in-Some.batch ≢ [] = some_pending old.pending c.in-Some.batch old.some c.in-Some.is in
    let need = need_of-size (records c.in-Some.batch) c.frame.result.now some c.frame.ensures.bytes ∙ ap need_of (pending_records old.pending c.in-Some.batch rs c.in-Some.is is) in
    record {
      done = tt;
      counted = tt;
      pending = is;
      numbers = refl;
      cause = c.in-Err-write_again.ensures.cause.cause;
      refused = λ lt. absurd (omega (arith, lt, c.in_default-check_room.ensures.ok, c.room.ensures, need));
      untouched = λ lt. absurd (omega (arith, lt, c.in_default-check_room.ensures.ok, c.room.ensures, need));
    }

pub invariant_of-self-2 : goal.invariant_of-self-2
invariant_of-self-2 g c =
    let old = c.args.self.now in
    let some : records c.in-Some.batch ≢ [] = some_pending old.pending c.in-Some.batch old.some c.in-Some.is in
    let size : length c.frame-2.result.now ≡ length c.frame.result.now = ap length (c.frame-2.ensures.bytes ∙ sym c.frame.ensures.bytes) in
    record {
      version1 = record {
        version = old.version1.version;
        some_lane = old.version1.some_lane;
        few_lanes = old.version1.few_lanes;
        counted = omega (arith, old.version1.counted, need_of-size (records c.in-Some.batch) c.frame.result.now some c.frame.ensures.bytes);
      };
      marker = λ h. subst (λ (n : ℕ). MarkerStands (old.numbers.end + n) 0 (g.D.Disk.reads c.write_again.new.disk)) size
          (c.in_default-write_again.ensures.moved h (subst EndsInClosedMarker (sym c.frame-2.ensures.bytes) (frame_ends (records c.in-Some.batch) some)));
      some = λ is. absurd (cc);
    }

pub returns-clause-writes : goal.returns-clause-writes
returns-clause-writes g c = λ h c' rs s.
    let old = c.args.self.now in
    let new = c.write_again.new.disk in
    let some : records c.in-Some.batch ≢ [] = some_pending old.pending c.in-Some.batch old.some c.in-Some.is in
    let eq = pending_records old.pending c.in-Some.batch rs c.in-Some.is s.pending in
    let are = subst AreBatch eq (are_batch (records c.in-Some.batch) c.frame.result.now some c.frame.ensures.bytes c.frame.ensures.length c.frame.ensures.read) in
    let is = front_closed s.resumable.front c' s.resumable.closed s.resumable.place in
    let bytes = c.frame-2.ensures.bytes ∙ ap frame_of eq in
    let has : AllHave (Either s.resumable.front c.frame-2.result.now) (g.D.Disk.reads old.disk) (g.D.Disk.images old.disk) =
    subst (λ (l : List ℕ). AllHave (Either s.resumable.front l) (g.D.Disk.reads old.disk) (g.D.Disk.images old.disk)) (sym bytes) (record { now = s.resumable.now; each = s.resumable.each }) in
    let place = s.resumable.place ∙ sym s.numbers.end in
    let size : length c.frame.result.now ≡ length (frame_of rs) = ap length (c.frame.ensures.bytes ∙ ap frame_of eq) in
    record {
      ok = settled_by _ c' rs s.resumable.front is are refl
          s.numbers.version s.numbers.lanes
          (ap (λ (n : ℕ). n + 1) s.numbers.batches)
          (λ i. s.numbers.end i + size i)
          (subst (λ (l : List ℕ). OnlyHas (HasOpenMarker s.resumable.front l) (g.D.Disk.reads new) (g.D.Disk.images new)) bytes
          (c.in_default-write_again.ensures.ok h s.resumable.front place has));
      err = tt;
      moments = leaves_either old c' rs s.resumable.front is are old.disk new
          (subst (λ (l : List ℕ). CrashLeaves g.D.Disk old.disk new (Either s.resumable.front l)) bytes
          (c.write_again.ensures.moments h s.resumable.front place has));
    }

pub returns-clause-tries : goal.returns-clause-tries
returns-clause-tries g c = λ rs is.
    let old = c.args.self.now in
    let some : records c.in-Some.batch ≢ [] = some_pending old.pending c.in-Some.batch old.some c.in-Some.is in
    let eq = pending_records old.pending c.in-Some.batch rs c.in-Some.is is in
    let need = need_of-size (records c.in-Some.batch) c.frame.result.now some c.frame.ensures.bytes ∙ ap need_of eq in
    let bytes = c.frame.ensures.bytes ∙ ap frame_of eq in
    record {
      done = refl;
      counted = λ i. record { version = old.numbers.version; lanes = old.numbers.lanes; batches = old.numbers.batches + 1; end = old.numbers.end + length (bytes i) };
      pending = tt;
      numbers = tt;
      cause = tt;
      refused = λ lt. absurd (omega (arith, lt, c.in_default-check_room.ensures.ok, c.room.ensures, need));
      untouched = λ lt. absurd (omega (arith, lt, c.in_default-check_room.ensures.ok, c.room.ensures, need));
    }
