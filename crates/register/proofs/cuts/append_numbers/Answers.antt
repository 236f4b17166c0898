use Rattle.std.proofs.Common.{true, false, ap, ◌∙◌}
use Rattle.std.proofs.lemmas.Result.{on_err_weaker, on_ok_weaker}
use Rattle.object_records.specs.Keys.Keys.{next_key, run_key}
use Rattle.object_records.specs.Keys.Numbers.{next_bytes, run_bytes}
use Rattle.register.specs.Cutting.{IsDueOne, IsRightOne}
use Rattle.register.proofs.Keeping.{numbers_apart}
use Rattle.register.proofs.Parts.{in_turn, numbers_in_turn, one_as}
use Rattle.register.proofs.cuts.append_numbers.Goals as goal

pub returns-clause-ok : goal.returns-clause-ok
returns-clause-ok c =
    on_ok_weaker c.append_one-2.result (λ second. in_turn (IsRightOne c.args.marks.now.run run_key (run_bytes c.args.run)) (IsRightOne c.args.marks.now.next next_key (next_bytes c.args.catalogue.now.next))
    (IsDueOne c.args.marks.now.run run_key) (IsDueOne c.args.marks.now.next next_key) (numbers_apart c.args.catalogue.now c.args.marks.now c.args.run) true _ _ _
    (one_as true _ _ c.has_run.ensures c.run_key.ensures c.run_body.ensures c.in_ok-append_one.ensures.ok)
    (one_as true _ _ c.has_next.ensures c.next_key.ensures (c.next_body.ensures ∙ ap next_bytes c.next_number.ensures.value) second)) c.append_one-2.ensures.ok

pub returns-clause-err : goal.returns-clause-err
returns-clause-err c =
    on_err_weaker c.append_one-2.result (λ second. in_turn (IsRightOne c.args.marks.now.run run_key (run_bytes c.args.run)) (IsRightOne c.args.marks.now.next next_key (next_bytes c.args.catalogue.now.next))
    (IsDueOne c.args.marks.now.run run_key) (IsDueOne c.args.marks.now.next next_key) (numbers_apart c.args.catalogue.now c.args.marks.now c.args.run) false _ _ _
    (one_as true _ _ c.has_run.ensures c.run_key.ensures c.run_body.ensures c.in_ok-append_one.ensures.ok)
    (one_as false _ _ c.has_next.ensures c.next_key.ensures (c.next_body.ensures ∙ ap next_bytes c.next_number.ensures.value) second)) c.append_one-2.ensures.err

pub returns-clause-order : goal.returns-clause-order
returns-clause-order c =
    on_ok_weaker c.append_one-2.result (λ second. numbers_in_turn c.args.run c.args.catalogue.now c.args.marks.now _ _ _
    (one_as true _ _ c.has_run.ensures c.run_key.ensures c.run_body.ensures c.in_ok-append_one.ensures.ok)
    (one_as true _ _ c.has_next.ensures c.next_key.ensures (c.next_body.ensures ∙ ap next_bytes c.next_number.ensures.value) second)) c.append_one-2.ensures.ok
