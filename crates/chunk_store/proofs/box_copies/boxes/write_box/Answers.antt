use Rattle.chunk_store.proofs.BoxCopies.BoxLemmas.{selection_fits, box_fits, box_distinct, all_written}
use Rattle.chunk_store.proofs.box_copies.boxes.write_box.Goals as goal

pub copy_runs-requires-clause-distinct : goal.copy_runs-requires-clause-distinct
copy_runs-requires-clause-distinct c = box_distinct c.args.slab.now c.args.origin.now c.args.chunk.now c.runs_in.result c.requires.inside.slab c.runs_in.ensures.boxed c.runs_in.ensures.runs c.runs_in.ensures.once

pub copy_runs-requires-clause-out : goal.copy_runs-requires-clause-out
copy_runs-requires-clause-out c = box_fits c.args.slab.now c.args.origin.now c.args.chunk.now c.runs_in.result c.args.size _ c.runs_in.ensures.boxed c.requires.buffer

pub copy_runs-requires-clause-from : goal.copy_runs-requires-clause-from
copy_runs-requires-clause-from c = selection_fits c.args.slab.now c.args.origin.now c.args.chunk.now c.runs_in.result c.args.size _ c.runs_in.ensures.boxed c.requires.bytes

pub returns-clause-written : goal.returns-clause-written
returns-clause-written c = all_written c.args.slab.now c.args.origin.now c.args.chunk.now c.runs_in.result c.args.size c.args.bytes.now c.args.buffer.now c.copy_runs.new.out c.runs_in.ensures.boxed c.runs_in.ensures.all c.copy_runs.ensures.moved
