use Rattle.std.proofs.Common.{sym}
use Rattle.chunk_owner.proofs.OfInstalls.Records.{chunk_slots, chunk_still}
use Rattle.chunk_owner.proofs.OfInstalls.Taking.{chunk_put}
use Rattle.chunk_owner.proofs.installs.chunks.install_chunk.Goals as goal

pub returns-in-Some-clause-done : goal.returns-in-Some-clause-done
returns-in-Some-clause-done c =
    chunk_put c.install_slot.result c.args.slots.now c.args.dataset.now c.args.index.now c.args.body.items c.in-Some.slot.now c.install_slot.new.slot (sym c.in-Some.ensures.value) c.install_slot.ensures.done

pub returns-in-Some-clause-own : goal.returns-in-Some-clause-own
returns-in-Some-clause-own c = chunk_slots c.args.slots.now c.args.dataset.now c.in-Some.slot.now c.install_slot.new.slot (sym c.in-Some.ensures.value) c.install_slot.ensures.keeps

pub returns-in-Some-clause-still : goal.returns-in-Some-clause-still
returns-in-Some-clause-still c = chunk_still c.args.slots.now c.args.dataset.now c.in-Some.slot.now c.install_slot.new.slot (sym c.in-Some.ensures.value) c.install_slot.ensures.keeps
