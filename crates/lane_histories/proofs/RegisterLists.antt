-- A register's list, and how it grows by one item.
use Rattle.std.proofs.Common.{◌≡◌, ◌⊎◌, inl, inr, ⊎_elim, ℕ, suc, ◌+◌, ◌≤◌, Bool, true, false, cond, [], ◌∷◌, ◌++◌, Option, Some, None, refl, ap, sym, ◌∙◌, subst, arith}
use Rattle.std.specs.Prelude.{◌==◌, nat_lt}
use Rattle.lane_histories.specs.Services.{Service, Turns, no_turn, one_turn, two_turns, each_lane}
use Rattle.lane_histories.specs.Histories.{RegisterItem, Entered, DrawnCut, RegisterCut, Part, Only, First, Second, Ticket, part_of, cut_of, IsIn, places, drawn, register_step, register_after, register_at, tickets_for, tickets_of, issued, RegisterList}
use Rattle.lane_histories.specs.Legal.{IsLegalRegisterItem, IsLegalRegister, cuts_on, places_on}
use Rattle.lane_histories.specs.Cuts.{cut_step, last_cut}
use Rattle.lane_histories.proofs.Lists.{in_either, nothing_more}
use Rattle.lane_histories.proofs.Prefixes.{issued_both}

module _ (s : Service) where
  pub register_after_push : (d : s.Register) (xs : RegisterList s) (i : RegisterItem s.Asked s.Verdict)
      → register_after s d (xs ++ i ∷ []) ≡ register_step s (register_after s d xs) i
  register_after_push d [] i = refl
  register_after_push d (x ∷ xs) i = register_after_push (register_step s d x) xs i

  pub places_more : (p : ℕ) (x : RegisterItem s.Asked s.Verdict) (xs : RegisterList s) → p + places (x ∷ xs) ≡ places_on p x + places xs
  places_more p (Entered e) xs = omega arith
  places_more p (DrawnCut number at) xs = refl
  places_more p (RegisterCut at found) xs = refl

  drawn_more : (n : ℕ) (x : RegisterItem s.Asked s.Verdict) (xs : RegisterList s) → n + drawn (x ∷ xs) ≡ cuts_on n x + drawn xs
  drawn_more n (Entered e) xs = refl
  drawn_more n (DrawnCut number at) xs = omega arith
  drawn_more n (RegisterCut at found) xs = refl

  register_push_at : (d : s.Register) (p n there cuts : ℕ) (xs : RegisterList s) (i : RegisterItem s.Asked s.Verdict)
      → IsLegalRegister s d p n xs → there ≡ p + places xs → cuts ≡ n + drawn xs
      → IsLegalRegisterItem s (register_after s d xs) there cuts i → IsLegalRegister s d p n (xs ++ i ∷ [])
  register_push_at d p n there cuts [] i legal are have may =
      let same : there ≡ p = omega arith in
      let alike : cuts ≡ n = omega arith in
      (subst (λ (x : ℕ × ℕ). IsLegalRegisterItem s d x.0 x.1 i) (λ k. (same k, alike k)) may, tt)
  register_push_at d p n there cuts (x ∷ xs) i legal are have may =
      (legal.0, register_push_at (register_step s d x) (places_on p x) (cuts_on n x) there cuts xs i legal.1 (are ∙ places_more p x xs) (have ∙ drawn_more n x xs) may)

  pub register_push : (d : s.Register) (xs : RegisterList s) (i : RegisterItem s.Asked s.Verdict) → IsLegalRegister s d 0 0 xs
      → IsLegalRegisterItem s (register_after s d xs) (places xs) (drawn xs) i → IsLegalRegister s d 0 0 (xs ++ i ∷ [])
  register_push d xs i legal may = register_push_at d 0 0 (places xs) (drawn xs) xs i legal (omega arith) (omega arith) may

  pub at_end : (d : s.Register) (xs : RegisterList s) → register_at s (places xs) d xs ≡ register_after s d xs
  at_end d [] = refl
  at_end d (Entered e ∷ xs) = at_end (s.decided d e.asked e.verdict) xs
  at_end d (DrawnCut number at ∷ xs) = at_end (s.drawn d) xs
  at_end d (RegisterCut at found ∷ xs) = at_end (s.recorded found d) xs

  -- ---- the last of the cuts

  pub last_cut_push : (last : Option ℕ) (xs : RegisterList s) (i : RegisterItem s.Asked s.Verdict)
      → last_cut last (xs ++ i ∷ []) ≡ cut_step (last_cut last xs) i
  last_cut_push last [] i = refl
  last_cut_push last (x ∷ xs) i = last_cut_push (cut_step last x) xs i

  -- where a list follows so many places, its last cut is at no fewer
  last_is_late : (last : Option ℕ) (d : s.Register) (p n q : ℕ) (xs : RegisterList s) → IsLegalRegister s d p n xs
      → last_cut last xs ≡ Some q → (last ≡ Some q) ⊎ (p ≤ q)
  last_is_late last d p n q [] legal is = inl is
  last_is_late last d p n q (Entered e ∷ xs) legal is =
      ⊎_elim (λ same. inl same) (λ (le : suc p ≤ q). inr (omega arith)) (last_is_late last (register_step s d (Entered e)) (suc p) n q xs legal.1 is)
  last_is_late last d p n q (DrawnCut number at ∷ xs) legal is =
      ⊎_elim (λ (never : None ≡ Some q). absurd (cc)) (λ le. inr le) (last_is_late None (s.drawn d) p (suc n) q xs legal.1 is)
  last_is_late last d p n q (RegisterCut at true ∷ xs) legal is =
      let there : at ≡ p = legal.0 in
      ⊎_elim (λ (same : Some at ≡ Some q). let e : at ≡ q = cc in inr (omega arith)) (λ le. inr le) (last_is_late (Some at) (s.recorded true d) p n q xs legal.1 is)
  last_is_late last d p n q (RegisterCut at false ∷ xs) legal is =
      ⊎_elim (λ (never : None ≡ Some q). absurd (cc)) (λ le. inr le) (last_is_late None (s.recorded false d) p n q xs legal.1 is)

  -- no cut is at more places than a cut that is the last
  abbrev IsCutAt : ℕ → RegisterItem s.Asked s.Verdict → Type 0
  IsCutAt a (Entered e) = ⊥
  IsCutAt a (DrawnCut number at) = at ≡ a
  IsCutAt a (RegisterCut at found) = at ≡ a

  here_is_earlier : (last : Option ℕ) (d : s.Register) (p n q a : ℕ) (x : RegisterItem s.Asked s.Verdict) (xs : RegisterList s)
      → IsLegalRegister s d p n (x ∷ xs) → last_cut last (x ∷ xs) ≡ Some q → IsCutAt a x → a ≤ q
  here_is_earlier last d p n q a (Entered e) xs legal is cut = absurd cut
  here_is_earlier last d p n q a (DrawnCut number at) xs legal is cut =
      let there : at ≡ p = legal.0.1 in
      ⊎_elim (λ (never : None ≡ Some q). absurd (cc)) (λ le. omega arith) (last_is_late None (s.drawn d) p (suc n) q xs legal.1 is)
  here_is_earlier last d p n q a (RegisterCut at true) xs legal is cut =
      let there : at ≡ p = legal.0 in
      ⊎_elim (λ (same : Some at ≡ Some q). let e : at ≡ q = cc in omega arith) (λ le. omega arith) (last_is_late (Some at) (s.recorded true d) p n q xs legal.1 is)
  here_is_earlier last d p n q a (RegisterCut at false) xs legal is cut =
      let there : at ≡ p = legal.0 in
      ⊎_elim (λ (never : None ≡ Some q). absurd (cc)) (λ le. omega arith) (last_is_late None (s.recorded false d) p n q xs legal.1 is)

  here_at_most : (d : s.Register) (p n a : ℕ) (x : RegisterItem s.Asked s.Verdict) (xs : RegisterList s)
      → IsLegalRegisterItem s d p n x → IsCutAt a x → a ≤ p + places (x ∷ xs)
  here_at_most d p n a (Entered e) xs legal cut = absurd cut
  here_at_most d p n a (DrawnCut number at) xs legal cut = let there : at ≡ p = legal.1 in omega arith
  here_at_most d p n a (RegisterCut at found) xs legal cut = let there : at ≡ p = legal in omega arith

  cut_is_earlier : (last : Option ℕ) (d : s.Register) (p n q a : ℕ) (x : RegisterItem s.Asked s.Verdict) (xs : RegisterList s)
      → IsLegalRegister s d p n xs → last_cut last xs ≡ Some q → IsIn xs x → IsCutAt a x → a ≤ q
  cut_is_earlier last d p n q a x [] legal is here cut = absurd here
  cut_is_earlier last d p n q a x (y ∷ xs) legal is here cut = ⊎_elim
      (λ same. here_is_earlier last d p n q a y xs legal is (subst (IsCutAt a) (sym same) cut))
      (λ later. cut_is_earlier (cut_step last y) (register_step s d y) (places_on p y) (cuts_on n y) q a x xs legal.1 is later cut)
      here

  pub drawn_is_earlier : (d : s.Register) (q number c : ℕ) (xs : RegisterList s) → IsLegalRegister s d 0 0 xs
      → last_cut None xs ≡ Some q → IsIn xs (DrawnCut number c) → c ≤ q
  drawn_is_earlier d q number c xs legal is here = cut_is_earlier None d 0 0 q c (DrawnCut number c) xs legal is here refl

  pub register_is_earlier : (d : s.Register) (q p : ℕ) (found : Bool) (xs : RegisterList s) → IsLegalRegister s d 0 0 xs
      → last_cut None xs ≡ Some q → IsIn xs (RegisterCut p found) → p ≤ q
  register_is_earlier d q p found xs legal is here = cut_is_earlier None d 0 0 q p (RegisterCut p found) xs legal is here refl

  -- no cut is at more places than were given
  cut_at_most : (d : s.Register) (p n a : ℕ) (x : RegisterItem s.Asked s.Verdict) (xs : RegisterList s) → IsLegalRegister s d p n xs
      → IsIn xs x → IsCutAt a x → a ≤ p + places xs
  cut_at_most d p n a x [] legal here cut = absurd here
  cut_at_most d p n a x (y ∷ xs) legal here cut = ⊎_elim
      (λ same. here_at_most d p n a y xs legal.0 (subst (IsCutAt a) (sym same) cut))
      (λ later. let more = cut_at_most (register_step s d y) (places_on p y) (cuts_on n y) a x xs legal.1 later cut in subst (λ (m : ℕ). a ≤ m) (sym (places_more p y xs)) more)
      here

  pub register_at_most : (d : s.Register) (p : ℕ) (found : Bool) (xs : RegisterList s) → IsLegalRegister s d 0 0 xs
      → IsIn xs (RegisterCut p found) → p ≤ places xs
  register_at_most d p found xs legal here = let most = cut_at_most d 0 0 p (RegisterCut p found) xs legal here refl in omega arith

  pub drawn_at_most : (d : s.Register) (number c : ℕ) (xs : RegisterList s) → IsLegalRegister s d 0 0 xs
      → IsIn xs (DrawnCut number c) → c ≤ places xs
  drawn_at_most d number c xs legal here = let most = cut_at_most d 0 0 c (DrawnCut number c) xs legal here refl in omega arith

  -- the last cut stands in the list
  pub last_is_in : (last : Option ℕ) (q : ℕ) (xs : RegisterList s) → last_cut last xs ≡ Some q
      → (last ≡ Some q) ⊎ IsIn xs (RegisterCut q true)
  last_is_in last q [] is = inl is
  last_is_in last q (Entered e ∷ xs) is = ⊎_elim (λ same. inl same) (λ later. inr (inr later)) (last_is_in last q xs is)
  last_is_in last q (DrawnCut number at ∷ xs) is = ⊎_elim (λ (never : None ≡ Some q). absurd (cc)) (λ later. inr (inr later)) (last_is_in None q xs is)
  last_is_in last q (RegisterCut at true ∷ xs) is =
      ⊎_elim (λ (same : Some at ≡ Some q). let e : at ≡ q = cc in inr (inl (ap (λ (x : ℕ). RegisterCut x true) e))) (λ later. inr (inr later)) (last_is_in (Some at) q xs is)
  last_is_in last q (RegisterCut at false ∷ xs) is = ⊎_elim (λ (never : None ≡ Some q). absurd (cc)) (λ later. inr (inr later)) (last_is_in None q xs is)

  -- ---- tickets

  pub issued_push : (l : ℕ) (xs : RegisterList s) (i : RegisterItem s.Asked s.Verdict)
      → issued s l (xs ++ i ∷ []) ≡ issued s l xs ++ tickets_of s l i
  issued_push l xs i = issued_both s l xs (i ∷ []) ∙ ap (λ t. issued s l xs ++ t) (nothing_more (tickets_of s l i))

  not_a_cut : (l number c p a : ℕ) (part : Part) (task : s.Task) (here : Bool) → IsIn {X = Ticket s.Task} (cond here (part_of p part task ∷ []) []) (cut_of number c) → ⊥
  not_a_cut l number c p a part task true here = ⊎_elim (λ same. absurd (cc)) (λ none. none) here
  not_a_cut l number c p a part task false here = here

  no_cut_for : (l number c p : ℕ) (turns : Turns s.Task) → IsIn (tickets_for s l p turns) (cut_of number c) → ⊥
  no_cut_for l number c p no_turn here = here
  no_cut_for l number c p (one_turn at task) here = not_a_cut l number c p at Only task (at == l) here
  no_cut_for l number c p (two_turns at task after next) here =
      ⊎_elim (not_a_cut l number c p at First task (at == l)) (not_a_cut l number c p at (Second at) next (after == l)) (in_either _ _ _ here)
  no_cut_for l number c p (each_lane task) here = not_a_cut l number c p 0 Only task (nat_lt l s.lanes) here

  that_cut : (l other at number c : ℕ) (here : Bool) → IsIn {X = Ticket s.Task} (cond here (cut_of other at ∷ []) []) (cut_of number c) → ◌≡◌ {A = RegisterItem s.Asked s.Verdict} (DrawnCut other at) (DrawnCut number c)
  that_cut l other at number c true here = ⊎_elim (λ same. let e : other ≡ number = cc in let f : at ≡ c = cc in (λ i. DrawnCut (e i) (f i))) (λ none. absurd none) here
  that_cut l other at number c false here = absurd here

  -- a cut's ticket is of a drawn cut
  pub cut_was_drawn : (l number c : ℕ) (xs : RegisterList s) → IsIn (issued s l xs) (cut_of number c) → IsIn xs (DrawnCut number c)
  cut_was_drawn l number c [] here = absurd here
  cut_was_drawn l number c (Entered e ∷ xs) here =
      ⊎_elim (λ never. absurd (no_cut_for l number c e.place (s.turns e.asked e.verdict) never)) (λ later. inr (cut_was_drawn l number c xs later)) (in_either _ (issued s l xs) _ here)
  cut_was_drawn l number c (DrawnCut other at ∷ xs) here =
      ⊎_elim (λ cut. inl (that_cut l other at number c (nat_lt l s.lanes) cut)) (λ later. inr (cut_was_drawn l number c xs later)) (in_either _ (issued s l xs) _ here)
  cut_was_drawn l number c (RegisterCut at found ∷ xs) here = inr (cut_was_drawn l number c xs here)
