use Rattle.std.proofs.Common.{◌≡◌, ◌∙◌, sym, ap, arith, max, ◌+◌, [], ◌∷◌, List, ℕ, length, length-append, drop}
use Rattle.edge_traits.specs.MemDisks.{Write, Memory, written}
use Rattle.edge_traits.specs.DiskCalls.{holding}
use Rattle.edge_traits.specs.DiskMemory.{memory_of}
use Rattle.edge_traits.specs.declared.mem_disk.Call.TheVariants.{Wrote}
use Rattle.edge_traits.proofs.MemDiskLemmas.{elapses_written, holding_written, replays_written, done_written, images_torn, images_follow, images_stay, unsynced_push}
use Rattle.edge_traits.proofs.mem_disk.MemDiskDisk.write_at.Goals as goal

pub invariant_of-self-in_default : goal.invariant_of-self-in_default
invariant_of-self-in_default c =
    let old = c.args.self.now in
    let call = c.in_default.ensures.calls in
    let later = c.record_write.new.calls.items in
    let image = c.record_write.new.image.items in
    let grown : length image ≡ max (length old.bytes.items) (c.args.at + length call.0.items) =
    c.in_default.ensures.len ∙ ap (λ (l : List ℕ). max (length old.bytes.items) (c.args.at + length l)) (sym call.1) in
    record {
      within = omega (arith, c.in_default.ensures.len, c.requires.room, old.within);
      place = omega (arith, old.place, ap length call.2, length-append old.calls.items (Wrote c.args.at call.0 ∷ []));
      replays = replays_written old.bytes.items image c.args.bytes.now old.base.items old.calls.items later c.args.at old.synced call.0 call.2 call.1 old.place
          c.in_default.ensures.bytes old.first.items old.replays;
      done = done_written old.bytes.items image c.args.bytes.now old.base.items old.calls.items later c.args.at old.synced call.0 call.2 call.1 old.place
          c.in_default.ensures.bytes old.done;
      unsynced = unsynced_push (length old.base.items) (length old.bytes.items) (length image) old.synced c.args.at call.0
          old.calls.items later call.2 old.place c.requires.inside grown old.unsynced;
    }

abbrev this : goal.After-self-in_default-1 → Write
this c = record { at = c.args.at; bytes = c.args.bytes.now }

abbrev now : goal.After-self-in_default-1 → Memory
now c = holding c.record_write.new.image.items c.args.self.now.base.items (drop c.args.self.now.synced c.record_write.new.calls.items)

wrote : (c : goal.After-self-in_default-1) → now c ≡ written (this c) (memory_of c.args.self.now)
wrote c =
    let old = c.args.self.now in
    let call = c.in_default.ensures.calls in
    holding_written old.bytes.items c.record_write.new.image.items c.args.bytes.now old.base.items old.calls.items c.record_write.new.calls.items
    c.args.at old.synced call.0 call.2 call.1 old.place c.in_default.ensures.bytes

pub returns-clause-images : goal.returns-clause-images
returns-clause-images c = images_follow (memory_of c.args.self.now) (now c) (this c) (wrote c)

pub returns-clause-time : goal.returns-clause-time
returns-clause-time c =
    let old = c.args.self.now in
    let call = c.in_default.ensures.calls in
    let later = c.record_write.new.calls.items in
    elapses_written old.first.items old.calls.items later (Wrote c.args.at call.0) (now c) call.2
    (replays_written old.bytes.items c.record_write.new.image.items c.args.bytes.now old.base.items old.calls.items later c.args.at old.synced call.0 call.2 call.1 old.place
    c.in_default.ensures.bytes old.first.items old.replays)
    (memory_of old) (this c) (wrote c)

pub returns-clause-wrote : goal.returns-clause-wrote
returns-clause-wrote c = wrote c

pub returns-clause-torn : goal.returns-clause-torn
returns-clause-torn c = images_torn (memory_of c.args.self.now) (now c) (this c) (wrote c)

pub returns-clause-stays : goal.returns-clause-stays
returns-clause-stays c = images_stay (memory_of c.args.self.now) (now c) (this c) (wrote c)
