use Rattle.std.specs.Option.{option_copied}
use Rattle.flush_journal.specs.Batches.{records}
use Rattle.register.proofs.PathWalks.{walk_end, walk_fails, walk_more}
use Rattle.register.proofs.cuts.append_paths.Goals as goal
use Rattle.containers.proofs.Plain.{on_err}

pub returns-in_err-append_wanted-clause-err : goal.returns-in_err-append_wanted-clause-err
returns-in_err-append_wanted-clause-err g c =
    on_err c.from_residual.result
    (walk_fails c.args.catalogue.now c.args.keys.now c.args.missing (records c.args.into.now) (records c.loop-path.into) (records c.append_wanted.new.into) (option_copied c.loop-path.last)
    c.in_err-append_wanted.ensures.err c.loop-path.invariant)

pub loop-path-preserved : goal.loop-path-preserved
loop-path-preserved g c =
    walk_more c.args.catalogue.now c.args.keys.now c.args.missing (option_copied c.loop-path.last) c.in-Some.path.now c.in-Some.ensures.least (records c.args.into.now) (records c.loop-path.into)
    (records c.append_wanted.new.into) c.in_ok-append_wanted.ensures.ok c.loop-path.invariant

pub returns-clause-ok : goal.returns-clause-ok
returns-clause-ok g c =
    walk_end c.args.catalogue.now c.args.keys.now c.args.missing (records c.args.into.now) (records c.loop-path.into) (option_copied c.loop-path.last) c.in_default.ensures.least c.loop-path.invariant
