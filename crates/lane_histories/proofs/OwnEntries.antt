-- The entries of one pass.
use Rattle.std.proofs.Common.{◌≡◌, ℕ, suc, ◌+◌, ◌<◌, ◌≤◌, Bool, true, false, cond, List, [], ◌∷◌, ◌++◌, refl, ap, sym, ◌∙◌, subst, arith}
use Rattle.std.specs.Prelude.{◌==◌}
use Rattle.std.specs.List.{AllByRecursion}
use Rattle.std.proofs.lemmas.List.{append_cancel_left}
use Rattle.lane_histories.specs.Services.{Service}
use Rattle.lane_histories.specs.Histories.{Entry, Entered, DrawnCut, RegisterCut, IsIn, RegisterList, own, places}
use Rattle.lane_histories.specs.Laws.{OwnEntriesAreInOrder, OwnEntriesAreLater, OwnEntriesGrow, OwnEntriesStay}
use Rattle.lane_histories.specs.Legal.{IsLegalRegister}
use Rattle.lane_histories.proofs.Lists.{all_at, all_weaker, head_is, tail_is}

module _ (s : Service) where
  abbrev Entries : Type 0
  Entries = List (Entry s.Asked s.Verdict)

  more_or : (b : Bool) (e : Entry s.Asked s.Verdict) (xs ys zs : Entries) → xs ≡ ys ++ zs → cond b (e ∷ xs) xs ≡ cond b (e ∷ ys) ys ++ zs
  more_or true e xs ys zs is = ap (λ (l : Entries). e ∷ l) is
  more_or false e xs ys zs is = is

  own_both : (by : ℕ) (xs ys : RegisterList s) → own by (xs ++ ys) ≡ own by xs ++ own by ys
  own_both by [] ys = refl
  own_both by (Entered e ∷ xs) ys = more_or (e.by == by) e (own by (xs ++ ys)) (own by xs) (own by ys) (own_both by xs ys)
  own_both by (DrawnCut number c ∷ xs) ys = own_both by xs ys
  own_both by (RegisterCut p found ∷ xs) ys = own_both by xs ys

  pub own_entries_stay : OwnEntriesStay s
  own_entries_stay h g by prefix = let more = prefix.register in (own by more.0, ap (own by) more.1 ∙ own_both by h.register more.0)

  pub own_entries_grow : OwnEntriesGrow s
  own_entries_grow h e by = own_both by h.register (Entered e ∷ [])

  -- ---- places

  abbrev AreFrom : ℕ → Entries → Type 0
  AreFrom p = AllByRecursion (λ e. p ≤ e.place)

  from_or : (b : Bool) (p : ℕ) (e : Entry s.Asked s.Verdict) (es : Entries) → p ≤ e.place → AreFrom p es → AreFrom p (cond b (e ∷ es) es)
  from_or true p e es first rest = (first, rest)
  from_or false p e es first rest = rest

  -- those of a list that begins behind so many places
  own_from : (by : ℕ) (d : s.Register) (p cuts : ℕ) (xs : RegisterList s) → IsLegalRegister s d p cuts xs → AreFrom p (own by xs)
  own_from by d p cuts [] legal = tt
  own_from by d p cuts (Entered e ∷ xs) legal =
      let place : e.place ≡ p = legal.0.0 in
      from_or (e.by == by) p e (own by xs) (omega (arith, place)) (all_weaker _ _ (own by xs) (λ f later. omega (arith, later)) (own_from by (s.decided d e.asked e.verdict) (suc p) cuts xs legal.1))
  own_from by d p cuts (DrawnCut number c ∷ xs) legal = own_from by (s.drawn d) p (suc cuts) xs legal.1
  own_from by d p cuts (RegisterCut q found ∷ xs) legal = own_from by (s.recorded found d) p cuts xs legal.1

  abbrev AreSorted : Entries → Type 0
  AreSorted [] = Unit {0}
  AreSorted (e ∷ es) = AllByRecursion (λ f. e.place < f.place) es × AreSorted es

  sorted_or : (b : Bool) (p : ℕ) (e : Entry s.Asked s.Verdict) (es : Entries) → e.place ≡ p → AreFrom (suc p) es → AreSorted es → AreSorted (cond b (e ∷ es) es)
  sorted_or true p e es place later sorted = (all_weaker _ _ es (λ f from. omega (arith, from, place)) later, sorted)
  sorted_or false p e es place later sorted = sorted

  own_sorted : (by : ℕ) (d : s.Register) (p cuts : ℕ) (xs : RegisterList s) → IsLegalRegister s d p cuts xs → AreSorted (own by xs)
  own_sorted by d p cuts [] legal = tt
  own_sorted by d p cuts (Entered e ∷ xs) legal =
      sorted_or (e.by == by) p e (own by xs) legal.0.0 (own_from by (s.decided d e.asked e.verdict) (suc p) cuts xs legal.1) (own_sorted by (s.decided d e.asked e.verdict) (suc p) cuts xs legal.1)
  own_sorted by d p cuts (DrawnCut number c ∷ xs) legal = own_sorted by (s.drawn d) p (suc cuts) xs legal.1
  own_sorted by d p cuts (RegisterCut q found ∷ xs) legal = own_sorted by (s.recorded found d) p cuts xs legal.1

  later_of : (es front back : Entries) (e f : Entry s.Asked s.Verdict) → AreSorted es → es ≡ front ++ e ∷ back → IsIn back f → e.place < f.place
  later_of [] [] back e f sorted is here = absurd (cc)
  later_of [] (x ∷ front) back e f sorted is here = absurd (cc)
  later_of (y ∷ es) [] back e f sorted is here =
      let first : e ≡ y = head_is y e es back is in
      let rest : es ≡ back = tail_is y e es back is in
      subst (λ (x : Entry s.Asked s.Verdict). x.place < f.place) (sym first)
      (all_at (λ f. y.place < f.place) es f sorted.0 (subst (λ (l : Entries). IsIn l f) (sym rest) here))
  later_of (y ∷ es) (x ∷ front) back e f sorted is here = later_of es front back e f sorted.1 (tail_is y x es (front ++ e ∷ back) is) here

  pub own_entries_are_in_order : OwnEntriesAreInOrder s
  own_entries_are_in_order start h legal by front back e f is here = later_of (own by h.register) front back e f (own_sorted by start.register 0 0 h.register legal.register) is here

  -- ---- those that come later

  behind_from : (by : ℕ) (d : s.Register) (p cuts : ℕ) (xs ys : RegisterList s) → IsLegalRegister s d p cuts (xs ++ ys) → AreFrom (p + places xs) (own by ys)
  behind_from by d p cuts [] ys legal = all_weaker _ _ (own by ys) (λ e from. omega (arith, from)) (own_from by d p cuts ys legal)
  behind_from by d p cuts (Entered e ∷ xs) ys legal = all_weaker _ _ (own by ys) (λ f from. omega (arith, from)) (behind_from by (s.decided d e.asked e.verdict) (suc p) cuts xs ys legal.1)
  behind_from by d p cuts (DrawnCut number c ∷ xs) ys legal = behind_from by (s.drawn d) p (suc cuts) xs ys legal.1
  behind_from by d p cuts (RegisterCut q found ∷ xs) ys legal = behind_from by (s.recorded found d) p cuts xs ys legal.1

  pub own_entries_are_later : OwnEntriesAreLater s
  own_entries_are_later start h g legal prefix by more e is here =
      let rest = prefix.register in
      let legal_both = subst (λ (xs : RegisterList s). IsLegalRegister s start.register 0 0 xs) rest.1 legal.register in
      let both = ap (own by) rest.1 ∙ own_both by h.register rest.0 in
      let same : own by rest.0 ≡ more = append_cancel_left (own by h.register) _ _ (sym both ∙ is) in
      let from = all_at (λ f. 0 + places h.register ≤ f.place) (own by rest.0) e (behind_from by start.register 0 0 h.register rest.0 legal_both)
      (subst (λ (l : Entries). IsIn l e) (sym same) here) in
      omega (arith, from)
