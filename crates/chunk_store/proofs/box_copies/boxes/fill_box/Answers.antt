use Rattle.chunk_store.proofs.BoxCopies.BoxLemmas.{selection_fits, element_fits, selection_distinct, all_filled}
use Rattle.chunk_store.proofs.box_copies.boxes.fill_box.Goals as goal

pub copy_runs-requires-clause-distinct : goal.copy_runs-requires-clause-distinct
copy_runs-requires-clause-distinct c = selection_distinct c.runs_in.result c.runs_in.ensures.once

pub copy_runs-requires-clause-out : goal.copy_runs-requires-clause-out
copy_runs-requires-clause-out c = selection_fits c.args.slab.now c.args.origin.now c.args.chunk.now c.runs_in.result c.args.size _ c.runs_in.ensures.boxed c.requires.out

pub copy_runs-requires-clause-from : goal.copy_runs-requires-clause-from
copy_runs-requires-clause-from c = element_fits c.runs_in.result c.args.size _ c.requires.blank

pub returns-clause-filled : goal.returns-clause-filled
returns-clause-filled c = all_filled c.args.slab.now c.args.origin.now c.args.chunk.now c.runs_in.result c.args.size c.args.blank.now c.args.out.now c.copy_runs.new.out c.runs_in.ensures.boxed c.runs_in.ensures.all c.requires.blank c.copy_runs.ensures.moved
