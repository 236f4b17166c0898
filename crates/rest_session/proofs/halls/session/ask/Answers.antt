use Rattle.std.proofs.Common.{◌≡◌, ◌≤◌, ◌+◌, ℕ, List, None, Some, Ok, refl, sym, ap, ◌∙◌, subst}
use Rattle.service_core.specs.AnswerTrees.Exact.{IsExact}
use Rattle.hall.specs.ArrayMachines.{lanes_in}
use Rattle.hall.specs.KeptAnswers.{work_for}
use Rattle.hall.specs.Passes.{opening, view_of}
use Rattle.hall.specs.declared.journal.DeskWork.TheVariants.{FlushPast, KeepRegister}
use Rattle.rest_session.specs.Halls.Accounts.{AllAnswered, told_by}
use Rattle.rest_session.specs.Halls.Asking.{IsKeptPast}
use Rattle.rest_session.specs.Responses.{IsKeptAnswer}
use Rattle.rest_session.specs.Links.Replies.{reply_bytes}
use Rattle.rest_session.proofs.OfHalls.Accounts.{answered_more, entry_of, told_asked}
use Rattle.rest_session.proofs.OfHalls.Gates.{gone_asked}
use Rattle.rest_session.proofs.OfHalls.Exact.{answer_exact}
use Rattle.rest_session.proofs.OfHalls.Keepings.{kept_cause, kept_free, keepings_asked}
use Rattle.rest_session.proofs.halls.session.ask.Goals as goal

pub kept_reply-requires : goal.kept_reply-requires
kept_reply-requires g c =
    let n = lanes_in (opening c.args.hall.now) in
    let a = c.ask_kept-answer.ensures.answered in
    subst IsExact (sym a.told)
    (answer_exact n _ _ a.asked.legal c.replies_have_no_floats.ensures.acted c.ask_kept-answer.result.answer.place a.what_is (c.histories_are_legal.ensures.verdicts n)
    c.replies_have_no_floats.ensures.decided a.asked.replied)

pub returns-clause-ready : goal.returns-clause-ready
returns-clause-ready g c =
    let n = lanes_in (opening c.args.hall.now) in
    let r = c.requires.ready in
    let told = told_asked (opening c.args.hall.now) (view_of c.args.pass.now) (view_of c.ask_kept-answer.new.pass) c.args.caller.now c.args.request.now c.ask_kept-answer.result.answer
    (c.replies_are_replays.ensures.stay n) r.answered c.ask_kept-answer.ensures.answered in record {
      of_this_hall = c.ask_kept-answer.ensures.of_this_hall;
      answered = subst AllAnswered (sym told) (answered_more (told_by n (view_of c.args.pass.now).number (view_of c.args.pass.now).seen) _ r.answered (refl, tt));
    }

pub returns-clause-asked : goal.returns-clause-asked
returns-clause-asked g c = λ tokens close.
    let n = lanes_in (opening c.args.hall.now) in
    let a = c.ask_kept-answer.ensures.answered in
    let k = c.ask_kept-answer.ensures.kept in record {
      entry = entry_of (opening c.args.hall.now) (view_of c.args.pass.now) (view_of c.ask_kept-answer.new.pass) c.args.caller.now c.args.request.now c.ask_kept-answer.result.answer a;
      what = c.ask_kept-answer.result.answer.what;
      asked = refl;
      above = subst (λ (p : ℕ). c.args.pass.now.front ≤ p) a.asked.place_is c.ask_kept-answer.ensures.above;
      told = told_asked (opening c.args.hall.now) (view_of c.args.pass.now) (view_of c.ask_kept-answer.new.pass) c.args.caller.now c.args.request.now c.ask_kept-answer.result.answer
          (c.replies_are_replays.ensures.stay n) c.requires.ready.answered a;
      front = c.ask_kept-answer.ensures.front ∙ ap (λ (p : ℕ). p + 1) a.asked.place_is;
      longer = keepings_asked (opening c.args.hall.now) (view_of c.args.pass.now) (view_of c.ask_kept-answer.new.pass) c.args.caller.now c.args.request.now c.ask_kept-answer.result.answer a;
      kept = c.ask_kept-answer.result.kept;
      free = subst (λ (p : ℕ). work_for c.args.request.now.op p c.ask_kept-answer.result.answer.what ≡ None → c.ask_kept-answer.result.kept ≡ Ok tt) a.asked.place_is
          (kept_free g.D.Disk (opening c.args.hall.now) k.mid (view_of c.ask_kept-answer.new.pass)
          (work_for c.args.request.now.op c.ask_kept-answer.result.answer.place c.ask_kept-answer.result.answer.what) c.ask_kept-answer.result.kept k.kept);
      flushed = subst (λ (p : ℕ). work_for c.args.request.now.op p c.ask_kept-answer.result.answer.what ≡ Some (FlushPast p) → c.ask_kept-answer.result.kept ≡ Ok tt
          → IsKeptPast (λ r. r.c) (view_of c.ask_kept-answer.new.pass).seen.keepings p) a.asked.place_is c.ask_kept-answer.ensures.flushed;
      changed = subst (λ (p : ℕ). work_for c.args.request.now.op p c.ask_kept-answer.result.answer.what ≡ Some KeepRegister → c.ask_kept-answer.result.kept ≡ Ok tt
          → IsKeptPast (λ r. r.p) (view_of c.ask_kept-answer.new.pass).seen.keepings p) a.asked.place_is c.ask_kept-answer.ensures.changed;
      cause = kept_cause g.D.Disk (opening c.args.hall.now) k.mid (view_of c.ask_kept-answer.new.pass) (view_of c.args.pass.now).seen.keepings
          (keepings_asked (opening c.args.hall.now) (view_of c.args.pass.now) k.mid c.args.caller.now c.args.request.now c.ask_kept-answer.result.answer k.answered)
          (work_for c.args.request.now.op c.ask_kept-answer.result.answer.place c.ask_kept-answer.result.answer.what) c.ask_kept-answer.result.kept k.kept;
      response = subst (λ (path : List ℕ). IsKeptAnswer path c.ask_kept-answer.result.answer.what close c.ask_kept-answer.result.kept (reply_bytes c.kept_reply.result close)) c.on_text.ensures (c.kept_reply.ensures close);
    }

pub returns-clause-gates : goal.returns-clause-gates
returns-clause-gates g c = λ tokens.
    let start = opening c.args.hall.now in
    let n = lanes_in start in
    gone_asked g.G.Gate.goes start (view_of c.args.pass.now) (view_of c.ask_kept-answer.new.pass) c.args.caller.now c.args.request.now c.ask_kept-answer.result.answer
    (c.replies_are_replays.ensures.entry n) c.ask_kept-answer.ensures.answered c.args.gate.now c.ask_kept-answer.new.gate c.ask_kept-answer.ensures.gates
    (c.replies_are_replays.ensures.stay n) c.requires.ready.answered _ _ refl refl
