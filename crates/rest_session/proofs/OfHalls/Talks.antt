-- Visits, link after link.
use Rattle.std.proofs.Common.{◌≡◌, inl, inr, ℕ, ◌+◌, ◌≤◌, List, [], ◌∷◌, ◌++◌, length, map, true, false, refl, sym, ap, ◌∙◌, subst, arith, append_assoc, append-nil, length-append}
use Rattle.std.proofs.lemmas.List.{map-append, length-map}
use Rattle.edge_traits.specs.Causes.{Rose}
use Rattle.edge_traits.specs.Told.{KeepsTold, LosesFirst, GainsLast, IsToldEmpty}
use Rattle.rest_session.specs.declared.links.end.LinkEnd.{LinkEnd}
use Rattle.rest_session.specs.Halls.Accounts.{Account}
use Rattle.rest_session.specs.Halls.Visits.{AreServed, Attends, GainsBack, IsVisit, LosesFront, Telling, Visit, Works}
use Rattle.rest_session.proofs.OfHalls.Tellings.{loses_none, loses_one, loses_more, loses_all, gains_none, gains_one, gains_more}

module _ {F L : Type 0} (tells : Telling F L) where
  served_more : (vs ws : List (Visit L)) (r s t : Account) → AreServed tells vs r s → AreServed tells ws s t → AreServed tells (vs ++ ws) r t
  served_more [] ws r s t a b = subst (λ (x : Account). AreServed tells ws x t) a b
  served_more (v ∷ vs) ws r s t a b = (a.0, a.1, served_more vs ws v.now s t a.2 b)

  -- a call of the door that gives no link
  pub attends_none : (door now : F) (ends : List LinkEnd) (s : Account) → KeepsTold (tells.left door) (tells.left now) → KeepsTold (tells.ended door) (tells.ended now)
      → tells.out now ≡ tells.out door → tells.faults door ≤ tells.faults now → Attends tells [] door now ends ends s s
  attends_none door now ends s l e o f = record {
    taken = loses_none (tells.left door) (tells.left now) l;
    given_back = gains_none (tells.ended door) (tells.ended now) e;
    none_out = o;
    one_end_each = sym (append-nil ends);
    served = refl;
    later = f;
  }

  -- a link that is taken, served and given back
  pub attends_one : (a b c : F) (v : Visit L) (ends ends_now : List LinkEnd)
      → LosesFirst (tells.left a) (tells.left b) v.link → KeepsTold (tells.left b) (tells.left c) → KeepsTold (tells.ended a) (tells.ended b) → GainsLast (tells.ended b) (tells.ended c) v.after
      → tells.out b ≡ tells.out a + 1 → tells.out c + 1 ≡ tells.out b → tells.faults a ≤ tells.faults b → tells.faults c ≡ tells.faults b
      → ends_now ≡ ends ++ v.end ∷ [] → IsVisit tells v → Attends tells (v ∷ []) a c ends ends_now v.begin v.now
  attends_one a b c v ends ends_now first stays same last given back later same_faults one visit = record {
    taken = loses_more (tells.left a) (tells.left b) (tells.left c) (v.link ∷ []) [] (loses_one (tells.left a) (tells.left b) v.link first) (loses_none (tells.left b) (tells.left c) stays);
    given_back = gains_more (tells.ended a) (tells.ended b) (tells.ended c) [] (v.after ∷ []) (gains_none (tells.ended a) (tells.ended b) same) (gains_one (tells.ended b) (tells.ended c) v.after last);
    none_out = omega arith;
    one_end_each = one;
    served = (refl, visit, refl);
    later = omega arith;
  }

  pub attends_more : (vs ws : List (Visit L)) (a b c : F) (e₀ e₁ e₂ : List LinkEnd) (r s t : Account) → Attends tells vs a b e₀ e₁ r s → Attends tells ws b c e₁ e₂ s t
      → Attends tells (vs ++ ws) a c e₀ e₂ r t
  attends_more vs ws a b c e₀ e₁ e₂ r s t h k = record {
    taken = subst (LosesFront (tells.left a) (tells.left c)) (sym (map-append (λ (v : Visit L). v.link) vs ws)) (loses_more (tells.left a) (tells.left b) (tells.left c) _ _ h.taken k.taken);
    given_back = subst (GainsBack (tells.ended a) (tells.ended c)) (sym (map-append (λ (v : Visit L). v.after) vs ws)) (gains_more (tells.ended a) (tells.ended b) (tells.ended c) _ _ h.given_back k.given_back);
    none_out = k.none_out ∙ h.none_out;
    one_end_each = k.one_end_each ∙ ap (λ l. l ++ map (λ (v : Visit L). v.end) ws) h.one_end_each ∙ append_assoc e₀ (map (λ (v : Visit L). v.end) vs) (map (λ (v : Visit L). v.end) ws)
        ∙ ap (λ l. e₀ ++ l) (sym (map-append (λ (v : Visit L). v.end) vs ws));
    served = served_more vs ws r s t h.served k.served;
    later = let x = h.later in let y = k.later in omega arith;
  }

  -- each visit has one end
  pub ends_more : (vs : List (Visit L)) (a b : F) (e₀ e₁ : List LinkEnd) (s t : Account) → Attends tells vs a b e₀ e₁ s t → length e₁ ≡ length e₀ + length vs
  ends_more vs a b e₀ e₁ s t h = ap length h.one_end_each ∙ length-append e₀ (map (λ (v : Visit L). v.end) vs) ∙ ap (λ n. length e₀ + n) (length-map vs (λ (v : Visit L). v.end))

  -- where the door is asked once more and has none left, all its links were given
  pub works_to_the_end : (links : ℕ) (vs : List (Visit L)) (a b c : F) (e : List LinkEnd) (s t : Account) → length vs ≤ links
      → LosesFront (tells.left a) (tells.left b) (map (λ v. v.link) vs) → Attends tells (vs ++ []) a c [] e s t → IsToldEmpty (tells.left b)
      → Works tells links a c e s t false
  works_to_the_end links vs a b c e s t few taken h none = record {
    visits = vs;
    attends = subst (λ ws. Attends tells ws a c [] e s t) (append-nil vs) h;
    few = few;
    asked = inr (loses_all (tells.left a) (tells.left b) (map (λ (v : Visit L). v.link) vs) taken none);
    cause = tt;
  }

  pub works_to_a_fault : (links : ℕ) (vs : List (Visit L)) (a c : F) (e : List LinkEnd) (s t : Account) → length vs ≤ links → Attends tells (vs ++ []) a c [] e s t
      → Rose (tells.faults a) (tells.faults c) → Works tells links a c e s t true
  works_to_a_fault links vs a c e s t few h rose = record {
    visits = vs;
    attends = subst (λ ws. Attends tells ws a c [] e s t) (append-nil vs) h;
    few = few;
    asked = tt;
    cause = rose;
  }

  pub works_all : (links : ℕ) (vs : List (Visit L)) (a c : F) (e : List LinkEnd) (s t : Account) → length vs ≡ links → Attends tells vs a c [] e s t
      → Works tells links a c e s t false
  works_all links vs a c e s t all h = record { visits = vs; attends = h; few = omega arith; asked = inl (length-map vs (λ (v : Visit L). v.link) ∙ all); cause = tt }
