use Rattle.std.proofs.Common.{◌≡◌, ◌≤◌, ◌∙◌, sym, subst, refl, arith, length, drop}
use Rattle.edge_traits.specs.MemDisks.{Memory, IsImage}
use Rattle.edge_traits.specs.DiskCalls.{holding}
use Rattle.edge_traits.specs.DiskLaws.{done_is_torn}
use Rattle.edge_traits.specs.DiskMemory.{memory_of}
use Rattle.edge_traits.specs.declared.mem_disk.Call.TheVariants.{Synced}
use Rattle.edge_traits.proofs.MemDiskLemmas.{elapses_push, holding_synced, replays_synced, done_synced, unsynced_none}
use Rattle.edge_traits.proofs.mem_disk.MemDiskDisk.sync.Goals as goal

pub invariant_of-self-2 : goal.invariant_of-self-2
invariant_of-self-2 c =
    let old = c.args.self.now in
    let later = c.record_sync.new.calls.items in
    let base = c.record_sync.new.base.items in
    let all : length later ≤ c.len-self.result = omega (arith, c.len-self.ensures) in
    let same : base ≡ old.bytes.items = c.in_default.ensures.base ∙ c.as_slice.ensures.value in
    record {
      within = old.within;
      place = omega (arith, c.len-self.ensures);
      replays = replays_synced old.bytes.items base later c.len-self.result all same old.first.items old.calls.items (memory_of old) c.in_default.ensures.calls old.replays refl;
      done = done_synced old.bytes.items base later c.len-self.result all same;
      unsynced = unsynced_none base old.bytes.items c.len-self.result later all same;
    }

pub returns-clause-images : goal.returns-clause-images
returns-clause-images c = λ image left.
    let old = c.args.self.now in
    let all : length c.record_sync.new.calls.items ≤ c.len-self.result = omega (arith, c.len-self.ensures) in
    let same : c.record_sync.new.base.items ≡ old.bytes.items = c.in_default.ensures.base ∙ c.as_slice.ensures.value in
    let is : image ≡ old.bytes.items = subst (λ (m : Memory). IsImage m image) (holding_synced old.bytes.items c.record_sync.new.base.items c.record_sync.new.calls.items c.len-self.result all same) left in
    subst (IsImage (memory_of old)) (sym is) (done_is_torn (length old.bytes.items) (drop old.synced old.calls.items) old.base.items old.bytes.items old.done old.unsynced)

pub returns-clause-time : goal.returns-clause-time
returns-clause-time c =
    let old = c.args.self.now in
    let later = c.record_sync.new.calls.items in
    let base = c.record_sync.new.base.items in
    let all : length later ≤ c.len-self.result = omega (arith, c.len-self.ensures) in
    let same : base ≡ old.bytes.items = c.in_default.ensures.base ∙ c.as_slice.ensures.value in
    elapses_push old.first.items old.calls.items later Synced (holding old.bytes.items base (drop c.len-self.result later)) c.in_default.ensures.calls
    (replays_synced old.bytes.items base later c.len-self.result all same old.first.items old.calls.items (memory_of old) c.in_default.ensures.calls old.replays refl)
