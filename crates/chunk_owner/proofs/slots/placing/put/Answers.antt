use Rattle.chunk_owner.proofs.OfSlots.Marks.{put_alone}
use Rattle.chunk_owner.proofs.OfSlots.Placed.{free_there, put_elsewhere, put_kinds, put_says, put_there}
use Rattle.chunk_owner.proofs.slots.placing.put.Goals as goal

pub returns-then-has_chunks-clause-free : goal.returns-then-has_chunks-clause-free
returns-then-has_chunks-clause-free c = λ other. absurd (other (c.has_chunks.ensures.dataset c.if-has_chunks.true))

pub returns-clause-there : goal.returns-clause-there
returns-clause-there c =
    put_there c.args.slots.now c.args.id c.args.object (c.has_chunks.ensures.free c.if-has_chunks.false) c.requires.kind c.requires.fresh c.put.new.self c.put.result
    c.put.ensures.ok

pub returns-clause-others : goal.returns-clause-others
returns-clause-others c =
    put_elsewhere c.args.slots.now c.args.id c.args.object (c.has_chunks.ensures.free c.if-has_chunks.false) c.requires.kind c.requires.fresh c.put.new.self c.put.result
    c.put.ensures.ok c.put.ensures.err

pub returns-clause-says : goal.returns-clause-says
returns-clause-says c =
    put_says c.args.slots.now c.args.id c.args.object (c.has_chunks.ensures.free c.if-has_chunks.false) c.requires.kind c.requires.fresh c.put.new.self c.put.result
    c.put.ensures.ok c.put.ensures.err

pub returns-clause-kinds : goal.returns-clause-kinds
returns-clause-kinds c =
    put_kinds c.args.slots.now c.args.id c.args.object (c.has_chunks.ensures.free c.if-has_chunks.false) c.requires.kind c.requires.fresh c.put.new.self c.put.result
    c.put.ensures.ok c.put.ensures.err c.requires.kinds

pub returns-clause-alone : goal.returns-clause-alone
returns-clause-alone c = put_alone c.args.slots.now c.put.new.self c.args.id c.args.object c.put.result c.put.ensures.ok c.put.ensures.err

pub returns-clause-free : goal.returns-clause-free
returns-clause-free c = free_there c.args.slots.now c.args.id c.put.result c.put.ensures.absent
