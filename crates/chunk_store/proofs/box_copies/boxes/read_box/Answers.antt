use Rattle.chunk_store.proofs.BoxCopies.BoxLemmas.{selection_fits, box_fits, selection_distinct, all_read}
use Rattle.chunk_store.proofs.box_copies.boxes.read_box.Goals as goal

pub copy_runs-requires-clause-distinct : goal.copy_runs-requires-clause-distinct
copy_runs-requires-clause-distinct c = selection_distinct c.runs_in.result c.runs_in.ensures.once

pub copy_runs-requires-clause-out : goal.copy_runs-requires-clause-out
copy_runs-requires-clause-out c = selection_fits c.args.slab.now c.args.origin.now c.args.chunk.now c.runs_in.result c.args.size _ c.runs_in.ensures.boxed c.requires.out

pub copy_runs-requires-clause-from : goal.copy_runs-requires-clause-from
copy_runs-requires-clause-from c = box_fits c.args.slab.now c.args.origin.now c.args.chunk.now c.runs_in.result c.args.size _ c.runs_in.ensures.boxed c.requires.buffer

pub returns-clause-read : goal.returns-clause-read
returns-clause-read c = all_read c.args.slab.now c.args.origin.now c.args.chunk.now c.runs_in.result c.args.size c.args.buffer.now c.args.out.now c.copy_runs.new.out c.runs_in.ensures.boxed c.runs_in.ensures.all c.copy_runs.ensures.moved
