use Rattle.hyperslab.proofs.BoxRunLemmas.{all_runs, all_boxed, all_in, all_once}
use Rattle.hyperslab.proofs.Slab.runs_in.Goals as goal

pub returns-clause-runs : goal.returns-clause-runs
returns-clause-runs c = all_runs c.new-runs.result c.new-runs.ensures.runs

pub returns-clause-boxed : goal.returns-clause-boxed
returns-clause-boxed c =
    let e = c.new-runs.ensures in
    rw (← e.slab, ← e.origin, ← e.chunk) (all_boxed c.new-runs.result e.runs)

pub returns-clause-all : goal.returns-clause-all
returns-clause-all c =
    let e = c.new-runs.ensures in
    rw (← e.slab, ← e.origin, ← e.chunk) (all_in c.new-runs.result e.runs)

pub returns-clause-once : goal.returns-clause-once
returns-clause-once c = all_once c.new-runs.result c.new-runs.ensures.runs
