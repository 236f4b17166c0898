use Rattle.std.proofs.Common.{true, false}
use Rattle.std.proofs.lemmas.Result.{on_err_weaker, on_ok_weaker}
use Rattle.flush_journal.specs.Batches.{records}
use Rattle.register.specs.Cutting.{IsDueNode, IsRightNode, is_of_all, is_of_paths}
use Rattle.register.proofs.Keeping.{nodes_apart}
use Rattle.register.proofs.Parts.{first_alone, in_turn}
use Rattle.register.proofs.cuts.append_nodes.Goals as goal
use Rattle.containers.proofs.Plain.{on_err}

pub returns-clause-ok : goal.returns-clause-ok
returns-clause-ok c =
    let k = c.args.catalogue.now in
    let m = c.args.marks.now in
    on_ok_weaker c.append_marked.result (λ second. in_turn (IsRightNode k (is_of_all k m)) (IsRightNode k (is_of_paths k m)) (IsDueNode (is_of_all k m)) (IsDueNode (is_of_paths k m)) (nodes_apart k m) true
    (records c.args.into.now) (records c.append_all.new.into) (records c.append_marked.new.into) c.in_ok-append_all.ensures.ok second) c.append_marked.ensures.ok

pub returns-clause-err : goal.returns-clause-err
returns-clause-err c =
    let k = c.args.catalogue.now in
    let m = c.args.marks.now in
    on_err_weaker c.append_marked.result (λ second. in_turn (IsRightNode k (is_of_all k m)) (IsRightNode k (is_of_paths k m)) (IsDueNode (is_of_all k m)) (IsDueNode (is_of_paths k m)) (nodes_apart k m) false
    (records c.args.into.now) (records c.append_all.new.into) (records c.append_marked.new.into) c.in_ok-append_all.ensures.ok second) c.append_marked.ensures.err

pub returns-in_err-append_all-clause-err : goal.returns-in_err-append_all-clause-err
returns-in_err-append_all-clause-err c =
    let k = c.args.catalogue.now in
    let m = c.args.marks.now in
    on_err c.from_residual.result (first_alone (IsRightNode k (is_of_all k m)) (IsRightNode k (is_of_paths k m)) (IsDueNode (is_of_all k m)) (IsDueNode (is_of_paths k m))
    (records c.args.into.now) (records c.append_all.new.into) c.in_err-append_all.ensures.err)
