use Rattle.std.proofs.Common.{true, false, sym, ◌∙◌}
use Rattle.std.proofs.lemmas.Result.{on_err_weaker, on_ok_weaker}
use Rattle.flush_journal.specs.Batches.{records}
use Rattle.register.specs.Cutting.{is_key_wanted, is_of_all}
use Rattle.register.proofs.PathWalks.{all_due, as_due, catalogue_paths}
use Rattle.register.proofs.cuts.append_all.Goals as goal

pub append_paths-requires : goal.append_paths-requires
append_paths-requires c = catalogue_paths c.args.catalogue.now c.as_map.ensures.valid c.as_map.result.now c.as_map.ensures.value

pub returns-clause-ok : goal.returns-clause-ok
returns-clause-ok c =
    on_ok_weaker c.append_paths.result
    (as_due c.args.catalogue.now (is_key_wanted c.args.catalogue.now c.as_map.result.now false) (is_of_all c.args.catalogue.now c.args.marks.now) true (records c.args.into.now) (records c.append_paths.new.into)
    (all_due c.args.catalogue.now c.args.marks.now c.as_map.result.now (sym c.has_all.ensures ∙ c.if-not-has_all.false) c.as_map.ensures.value)) c.append_paths.ensures.ok

pub returns-clause-err : goal.returns-clause-err
returns-clause-err c =
    on_err_weaker c.append_paths.result
    (as_due c.args.catalogue.now (is_key_wanted c.args.catalogue.now c.as_map.result.now false) (is_of_all c.args.catalogue.now c.args.marks.now) false (records c.args.into.now) (records c.append_paths.new.into)
    (all_due c.args.catalogue.now c.args.marks.now c.as_map.result.now (sym c.has_all.ensures ∙ c.if-not-has_all.false) c.as_map.ensures.value)) c.append_paths.ensures.err
