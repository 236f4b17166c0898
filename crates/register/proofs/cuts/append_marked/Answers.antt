use Rattle.std.proofs.Common.{true, false}
use Rattle.std.proofs.lemmas.Result.{on_err_weaker, on_ok_weaker}
use Rattle.flush_journal.specs.Batches.{records}
use Rattle.register.specs.Cutting.{is_key_wanted, is_of_paths}
use Rattle.register.proofs.PathWalks.{as_due, paths_due}
use Rattle.register.proofs.cuts.append_marked.Goals as goal

pub returns-clause-ok : goal.returns-clause-ok
returns-clause-ok c =
    on_ok_weaker c.append_paths.result
    (as_due c.args.catalogue.now (is_key_wanted c.args.catalogue.now c.paths.result.now c.has_all.result) (is_of_paths c.args.catalogue.now c.args.marks.now) true (records c.args.into.now) (records c.append_paths.new.into)
    (paths_due c.args.catalogue.now c.args.marks.now c.paths.result.now c.has_all.result c.has_all.ensures c.paths.ensures.value)) c.append_paths.ensures.ok

pub returns-clause-err : goal.returns-clause-err
returns-clause-err c =
    on_err_weaker c.append_paths.result
    (as_due c.args.catalogue.now (is_key_wanted c.args.catalogue.now c.paths.result.now c.has_all.result) (is_of_paths c.args.catalogue.now c.args.marks.now) false (records c.args.into.now) (records c.append_paths.new.into)
    (paths_due c.args.catalogue.now c.args.marks.now c.paths.result.now c.has_all.result c.has_all.ensures c.paths.ensures.value)) c.append_paths.ensures.err
