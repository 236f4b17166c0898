use Rattle.std.proofs.Common.{◌≡◌, ◌∙◌, ◌-◌, sym, ap, subst, List, length, length-drop, drop, refl, arith, rules}
use Rattle.std.proofs.lemmas.List.{take_all}
use Rattle.edge_traits.specs.MemDisks.{TornBy, torn_writes}
use Rattle.edge_traits.specs.DiskCalls.{writes_of}
use Rattle.edge_traits.specs.declared.mem_disk.Call.{Call}
use Rattle.edge_traits.specs.declared.mem_disk.MemDisk.{MemDisk}
use Rattle.edge_traits.proofs.MemDiskLemmas.{writes_torn, if_ok_has}
use Rattle.edge_traits.proofs.mem_disk.MemDisk.crash.Goals as goal

copied : (c : goal.After-new-2) → c.in_ok-image.image.items ≡ c.args.self.now.base.items
copied c = search rules

-- the calls since the last sync, as a slice
since : (c : goal.After-new-2) → c.tear.new.image.items ≡ torn_writes c.args.kept (writes_of (drop c.args.self.now.synced c.args.self.now.calls.items)) c.args.self.now.base.items
since c = c.in_ok-tear.ensures.torn
    ∙ ap (λ (l : List Call). torn_writes c.args.kept (writes_of l) c.in_ok-image.image.items)
    (take_all (length c.deref.result.now - c.args.self.now.synced) (drop c.args.self.now.synced c.deref.result.now) (omega (arith, length-drop c.args.self.now.synced c.deref.result.now))
    ∙ ap (drop c.args.self.now.synced) c.deref.ensures.value)
    ∙ ap (torn_writes c.args.kept (writes_of (drop c.args.self.now.synced c.args.self.now.calls.items))) (copied c)

pub returns-clause-image : goal.returns-clause-image
returns-clause-image c =
    let old = c.args.self.now in
    if_ok_has c.new-2.result (λ (d : MemDisk). d.bytes.items) c.tear.new.image.items (TornBy (writes_of (drop old.synced old.calls.items)) old.base.items)
    (subst (TornBy (writes_of (drop old.synced old.calls.items)) old.base.items) (sym (since c))
    (writes_torn c.args.kept (length old.base.items) (drop old.synced old.calls.items) old.base.items refl old.unsynced.fit)) c.new-2.ensures.reads
