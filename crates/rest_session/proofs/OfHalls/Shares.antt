-- What a pass has when others were joined into it.
use Rattle.std.proofs.Common.{◌≡◌, ℕ, ◌+◌, ◌<◌, List, [], ◌∷◌, ◌++◌, length, cond, Bool, true, eq-eqb, refl, sym, ap, ◌∙◌, subst, arith, append_assoc, append-nil}
use Rattle.lane_histories.specs.Histories.{StartsWith}
use Rattle.hall_rule.specs.Rule.{names}
use Rattle.hall_rule.specs.Seen.{GrowsFrom}
use Rattle.hall_rule.specs.Sums.{times}
use Rattle.hall.specs.Answers.{ArrayView}
use Rattle.hall.specs.Passes.{TookIn}
use Rattle.rest_session.specs.Halls.Accounts.{Lists}
use Rattle.rest_session.specs.Halls.Staff.{IsAlone}

-- ---- lists

pub starts_on : {X : Type 0} (a b c : List X) → StartsWith a b → StartsWith b c → StartsWith a c
starts_on a b c p q = (q.0 ++ p.0, p.1 ∙ ap (λ l. l ++ p.0) q.1 ∙ append_assoc c q.0 p.0)

grows_itself : (h : Lists) → GrowsFrom h h
grows_itself h = record {
  sized = refl;
  register = ([], sym (append-nil h.register));
  lanes = λ l. ([], sym (append-nil _));
  keepings = ([], sym (append-nil h.keepings));
}

pub grows_on : (a b c : Lists) → GrowsFrom a b → GrowsFrom b c → GrowsFrom a c
grows_on a b c p q = record {
  sized = p.sized ∙ q.sized;
  register = starts_on a.register b.register c.register p.register q.register;
  lanes = λ l. starts_on _ _ _ (p.lanes l) (q.lanes l);
  keepings = starts_on a.keepings b.keepings c.keepings p.keepings q.keepings;
}

-- ---- names

times_here : (x : ℕ) (xs : List ℕ) → times x (x ∷ xs) ≡ times x xs + 1
times_here x xs = ap (λ (b : Bool). cond b 1 0 + times x xs) (eq-eqb x x refl) ∙ omega arith

module _ {K : Type 0} where
  pub number_named : (v : ArrayView K) → v.live ≡ true → 0 < times v.number (names v)
  number_named v live = subst (λ (b : Bool). 0 < times v.number (cond b (v.number ∷ (v.spare ++ v.joined)) [])) (sym live)
      (let here = times_here v.number (v.spare ++ v.joined) in omega (arith, here))

  pub one_name : (w : ArrayView K) → w.live ≡ true → IsAlone w → length (names w) ≡ 1
  one_name w live alone = (λ i. length (cond (live i) (w.number ∷ (alone.spare i ++ alone.joined i)) []))

  -- ---- passes that were taken in

  pub took_itself : (v : ArrayView K) → TookIn v v
  took_itself v = record { longer = grows_itself v.seen; has_names = λ x named. named; no_more = λ x named. refl }

  -- what a pass had taken in is taken in with it
  pub took_on : (u v w : ArrayView K) → TookIn u v → TookIn v w → TookIn u w
  took_on u v w p q = record {
    longer = grows_on u.seen v.seen w.seen p.longer q.longer;
    has_names = λ x named. p.has_names x (q.has_names x named);
    no_more = λ x named. p.no_more x (q.has_names x named) ∙ q.no_more x named;
  }
