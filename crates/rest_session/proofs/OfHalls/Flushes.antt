-- A pass that asks nothing, while others go on.
use Rattle.std.proofs.Common.{◌≡◌, List, [], refl, sym, ap, ◌∙◌, subst, append-nil}
use Rattle.access_lists.specs.Tokens.Bearer.{TokenTable}
use Rattle.lane_histories.specs.Histories.{StartsWith}
use Rattle.lane_histories.specs.Laws.{RepliesStay}
use Rattle.lane_histories.specs.declared.items.Keeping.{Keeping}
use Rattle.hall_rule.specs.WholeTurns.{HasKept}
use Rattle.hall_rule.specs.declared.queue.Claim.{Claim}
use Rattle.service_histories.specs.ArrayServices.{array_service}
use Rattle.hall.specs.Answers.{ArrayView}
use Rattle.hall.specs.ArrayMachines.{lanes_in, machines}
use Rattle.hall.specs.Passes.{IsPassOf, opening, view_of}
use Rattle.hall.specs.declared.desk.AtDesk.{Ghosts}
use Rattle.hall.specs.declared.hall.Hall.{Hall}
use Rattle.hall.specs.declared.pass.Pass.{Pass}
use Rattle.rest_session.specs.Halls.Accounts.{Account, AllAnswered, HasAskedNothing, IsReady, account, told_by}
use Rattle.rest_session.proofs.OfHalls.Accounts.{told_still}
use Rattle.rest_session.proofs.OfHalls.Shares.{grows_on, number_named, starts_on}

pub nothing_none : (s : Account) → HasAskedNothing s s
nothing_none s = record { tokens = refl; told = refl; front = refl; longer = ([], sym (append-nil s.keepings)) }

pub nothing_more : (r s t : Account) → HasAskedNothing r s → HasAskedNothing s t → HasAskedNothing r t
nothing_more r s t a b = record {
  tokens = b.tokens ∙ a.tokens;
  told = b.told ∙ a.told;
  front = b.front ∙ a.front;
  longer = starts_on t.keepings s.keepings r.keepings b.longer a.longer;
}

module _ {D K : Type 0} {g : Ghosts D K} (h : Hall D K) (p q : Pass D K g) where
  -- ---- a pass that knows the same

  pub still_ready : view_of q ≡ view_of p → IsPassOf h q → IsReady h p → IsReady h q
  still_ready same of ready = record {
    of_this_hall = of;
    answered = subst (λ (v : ArrayView K). AllAnswered (told_by (lanes_in (opening h)) v.number v.seen)) (sym same) ready.answered;
  }

  pub still_nothing : (tokens : TokenTable) → view_of q ≡ view_of p → q.front ≡ p.front → HasAskedNothing (account tokens h p) (account tokens h q)
  still_nothing tokens same front = record {
    tokens = refl;
    told = ap (λ (v : ArrayView K). told_by (lanes_in (opening h)) v.number v.seen) same;
    front = front;
    longer = ([], ap (λ (v : ArrayView K). v.seen.keepings) same ∙ sym (append-nil (view_of p).seen.keepings));
  }

  -- ---- a turn of the desk

  module _ (stay : RepliesStay (array_service (lanes_in (opening h)))) (k : Keeping) (others : List Claim) (ready : IsReady h p)
      (turn : HasKept (machines (lanes_in (opening h))) (opening h) k others (view_of p) (view_of q)) where
    told_kept : told_by (lanes_in (opening h)) (view_of q).number (view_of q).seen ≡ told_by (lanes_in (opening h)) (view_of p).number (view_of p).seen
    told_kept =
        let n = lanes_in (opening h) in
        let v = view_of p in
        ap (λ (u : ArrayView K). told_by n u.number u.seen) turn.is
        ∙ told_still n stay turn.seen v.seen (grows_on turn.seen turn.before v.seen turn.longer turn.begins) v.number (turn.own_same v.number (number_named v p.live)) ready.answered

    pub flushed_ready : IsPassOf h q → IsReady h q
    flushed_ready of = record { of_this_hall = of; answered = subst AllAnswered (sym told_kept) ready.answered }

    pub flushed_nothing : (tokens : TokenTable) → q.front ≡ p.front → HasAskedNothing (account tokens h p) (account tokens h q)
    flushed_nothing tokens front = record {
      tokens = refl;
      told = told_kept;
      front = front;
      longer = subst (λ (l : List Keeping). StartsWith l (view_of p).seen.keepings) (sym (ap (λ (u : ArrayView K). u.seen.keepings) turn.is))
          (grows_on turn.seen turn.before (view_of p).seen turn.longer turn.begins).keepings;
    }
