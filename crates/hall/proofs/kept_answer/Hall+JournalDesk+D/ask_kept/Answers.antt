use Rattle.std.proofs.Common.{Option, subst, ◌∙◌}
use Rattle.hall.specs.ArrayMachines.{lanes_in}
use Rattle.hall.specs.KeptAnswers.{HasKeptFor}
use Rattle.hall.specs.Passes.{opening, view_of}
use Rattle.hall.specs.declared.journal.DeskWork.{DeskWork}
use Rattle.hall.proofs.DenialLemmas.{denied_where}
use Rattle.hall.proofs.KeptAnswerLemmas.{change_past, flush_past, still_answered, still_gone}
use Rattle.hall.proofs.MemoryLemmas.{wanting_where}
use Rattle.hall.proofs.kept_answer.Hall+JournalDesk+D.ask_kept.Goals as goal

pub returns : goal.returns
returns g c =
    let start = opening c.args.self.now in
    let lanes = lanes_in start in
    let replies = c.replies_are_replays.ensures in
    let mid = c.ask-answer.new.pass in
    let asked = c.ask-answer.ensures in
    let last = c.keep_first-kept.new.pass in
    let kept = c.keep_first-kept.result in
    let turn = subst (λ (work : Option DeskWork). HasKeptFor g.D.Disk work start kept (view_of mid) (view_of last)) c.work_for-work.ensures
    c.keep_first-kept.ensures.kept in
    let answered = still_answered g.D.Disk start kept (view_of mid) (view_of last) _ turn (replies.stay lanes) _ _ _ (view_of c.args.pass.now)
    c.args.pass.now.live asked.answered in record {
      of_this_hall = c.keep_first-kept.ensures.of_this_hall;
      same = c.keep_first-kept.ensures.same.0 ∙ asked.same;
      answered = answered;
      denied = denied_where start (c.histories_are_legal.ensures.verdicts lanes) (replies.entry lanes) c.verdicts_come_exactly.ensures.denied _ _ _ _ _
          answered;
      wanting = wanting_where start (replies.entry lanes) (replies.outcome lanes) _ _ _ _ _ answered;
      above = asked.above;
      front = c.keep_first-kept.ensures.same.1 ∙ asked.front;
      gates = still_gone g.D.Disk start kept (view_of mid) (view_of last) _ turn _ _ _ _ asked.gates;
      kept = record { mid = view_of mid; answered = asked.answered; kept = turn };
      flushed = λ work done. flush_past g.D.Disk start (view_of mid) (view_of last) _ _ asked.front mid.counted _ kept turn done work;
      changed = λ work done. change_past g.D.Disk start (view_of mid) (view_of last) _ _ asked.front mid.counted _ kept turn done work;
    }
