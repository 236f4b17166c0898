use Rattle.std.proofs.Common.{true, false}
use Rattle.std.proofs.lemmas.Result.{on_err_weaker, on_ok_weaker}
use Rattle.flush_journal.specs.Batches.{records}
use Rattle.object_records.specs.Keys.Keys.{next_key, run_key}
use Rattle.object_records.specs.Keys.Numbers.{next_bytes, run_bytes}
use Rattle.register.specs.Cutting.{IsDueNode, IsDueOne, IsRightNode, IsRightOne, OfEither, is_of_all, is_of_paths}
use Rattle.register.proofs.Keeping.{parts_apart}
use Rattle.register.proofs.Parts.{in_turn, records_in_turn}
use Rattle.register.proofs.cuts.append_records.Goals as goal

pub returns-clause-ok : goal.returns-clause-ok
returns-clause-ok c =
    let k = c.args.catalogue.now in
    let m = c.args.marks.now in
    on_ok_weaker c.append_nodes.result (λ second. in_turn (OfEither (IsRightOne m.run run_key (run_bytes c.args.run)) (IsRightOne m.next next_key (next_bytes k.next))) (OfEither (IsRightNode k (is_of_all k m)) (IsRightNode k (is_of_paths k m)))
    (OfEither (IsDueOne m.run run_key) (IsDueOne m.next next_key)) (OfEither (IsDueNode (is_of_all k m)) (IsDueNode (is_of_paths k m))) (parts_apart c.args.run k m) true
    (records c.args.into.now) (records c.append_numbers.new.into) (records c.append_nodes.new.into) c.in_ok-append_numbers.ensures.ok second) c.append_nodes.ensures.ok

pub returns-clause-err : goal.returns-clause-err
returns-clause-err c =
    let k = c.args.catalogue.now in
    let m = c.args.marks.now in
    on_err_weaker c.append_nodes.result (λ second. in_turn (OfEither (IsRightOne m.run run_key (run_bytes c.args.run)) (IsRightOne m.next next_key (next_bytes k.next))) (OfEither (IsRightNode k (is_of_all k m)) (IsRightNode k (is_of_paths k m)))
    (OfEither (IsDueOne m.run run_key) (IsDueOne m.next next_key)) (OfEither (IsDueNode (is_of_all k m)) (IsDueNode (is_of_paths k m))) (parts_apart c.args.run k m) false
    (records c.args.into.now) (records c.append_numbers.new.into) (records c.append_nodes.new.into) c.in_ok-append_numbers.ensures.ok second) c.append_nodes.ensures.err

pub returns-clause-order : goal.returns-clause-order
returns-clause-order c =
    on_ok_weaker c.append_nodes.result (λ second. records_in_turn c.args.run c.args.catalogue.now c.args.marks.now _ _ _
    c.in_ok-append_numbers.ensures.order second) c.append_nodes.ensures.ok
