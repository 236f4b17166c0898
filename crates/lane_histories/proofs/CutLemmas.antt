-- How far was cut, as lists grow.
use Rattle.std.proofs.Common.{◌≡◌, ◌⊎◌, inl, inr, ⊎_elim, ℕ, ◌≤◌, true, false, [], ◌∷◌, ◌++◌, Option, Some, None, refl, ap, sym, arith}
use Rattle.std.specs.List.{AllByRecursion}
use Rattle.lane_histories.specs.Services.{Service}
use Rattle.lane_histories.specs.Histories.{IsIn, objects_step, objects_after, places, RegisterItem, Entered, DrawnCut, RegisterCut, Passed, WasCut, RegisterList, LaneList}
use Rattle.lane_histories.specs.Legal.{IsLegalRegister}
use Rattle.lane_histories.specs.declared.items.Outcome.{Outcome}
use Rattle.lane_histories.specs.declared.items.Part.{Part}
use Rattle.lane_histories.specs.Cuts.{behind_cut_from, last_cut, objects_cut, register_cut, register_cut_from, IsEntry, IsNoCut}
use Rattle.lane_histories.proofs.RegisterLists.{register_at_most}

module _ (s : Service) where
  -- ---- a lane

  pub objects_cut_stays : (cut now : s.Objects) (xs ys : LaneList s) → AllByRecursion IsNoCut ys
      → objects_cut s cut now (xs ++ ys) ≡ objects_cut s cut now xs
  objects_cut_stays cut now [] [] none = refl
  objects_cut_stays cut now [] (Passed place part task y ∷ ys) none = objects_cut_stays cut (objects_step s now (Passed place part task y)) [] ys none.1
  objects_cut_stays cut now [] (WasCut number c true ∷ ys) none = absurd none.0
  objects_cut_stays cut now [] (WasCut number c false ∷ ys) none = objects_cut_stays cut now [] ys none.1
  objects_cut_stays cut now (Passed place part task y ∷ xs) ys none = objects_cut_stays cut (objects_step s now (Passed place part task y)) xs ys none
  objects_cut_stays cut now (WasCut number c true ∷ xs) ys none = objects_cut_stays now now xs ys none
  objects_cut_stays cut now (WasCut number c false ∷ xs) ys none = objects_cut_stays cut now xs ys none

  pub objects_cut_now : (cut now : s.Objects) (xs : LaneList s) (number c : ℕ)
      → objects_cut s cut now (xs ++ WasCut number c true ∷ []) ≡ objects_after s now xs
  objects_cut_now cut now [] number c = refl
  objects_cut_now cut now (Passed place part task y ∷ xs) number c = objects_cut_now cut (objects_step s now (Passed place part task y)) xs number c
  objects_cut_now cut now (WasCut earlier e true ∷ xs) number c = objects_cut_now now now xs number c
  objects_cut_now cut now (WasCut earlier e false ∷ xs) number c = objects_cut_now cut now xs number c

  -- what is behind the last cut, with one item more
  pub behind_passed : (since xs : LaneList s) (place : ℕ) (part : Part) (task : s.Task) (y : Outcome s.Reply)
      → behind_cut_from since (xs ++ Passed place part task y ∷ []) ≡ behind_cut_from since xs ++ Passed place part task y ∷ []
  behind_passed since [] place part task y = refl
  behind_passed since (Passed p q t z ∷ xs) place part task y = behind_passed (since ++ Passed p q t z ∷ []) xs place part task y
  behind_passed since (WasCut number c true ∷ xs) place part task y = behind_passed [] xs place part task y
  behind_passed since (WasCut number c false ∷ xs) place part task y = behind_passed (since ++ WasCut number c false ∷ []) xs place part task y

  pub behind_short : (since xs : LaneList s) (number c : ℕ)
      → behind_cut_from since (xs ++ WasCut number c false ∷ []) ≡ behind_cut_from since xs ++ WasCut number c false ∷ []
  behind_short since [] number c = refl
  behind_short since (Passed p q t z ∷ xs) number c = behind_short (since ++ Passed p q t z ∷ []) xs number c
  behind_short since (WasCut earlier e true ∷ xs) number c = behind_short [] xs number c
  behind_short since (WasCut earlier e false ∷ xs) number c = behind_short (since ++ WasCut earlier e false ∷ []) xs number c

  pub behind_found : (since xs : LaneList s) (number c : ℕ) → behind_cut_from since (xs ++ WasCut number c true ∷ []) ≡ []
  behind_found since [] number c = refl
  behind_found since (Passed p q t z ∷ xs) number c = behind_found (since ++ Passed p q t z ∷ []) xs number c
  behind_found since (WasCut earlier e true ∷ xs) number c = behind_found [] xs number c
  behind_found since (WasCut earlier e false ∷ xs) number c = behind_found (since ++ WasCut earlier e false ∷ []) xs number c

  -- ---- the register

  pub register_cut_stays : (p : ℕ) (xs ys : RegisterList s) → AllByRecursion IsEntry ys
      → register_cut_from p (xs ++ ys) ≡ register_cut_from p xs
  register_cut_stays p [] [] entries = refl
  register_cut_stays p [] (Entered e ∷ ys) entries = register_cut_stays p [] ys entries.1
  register_cut_stays p [] (DrawnCut number c ∷ ys) entries = absurd entries.0
  register_cut_stays p [] (RegisterCut q found ∷ ys) entries = absurd entries.0
  register_cut_stays p (Entered e ∷ xs) ys entries = register_cut_stays p xs ys entries
  register_cut_stays p (DrawnCut number c ∷ xs) ys entries = register_cut_stays p xs ys entries
  register_cut_stays p (RegisterCut q true ∷ xs) ys entries = register_cut_stays q xs ys entries
  register_cut_stays p (RegisterCut q false ∷ xs) ys entries = register_cut_stays p xs ys entries

  pub register_cut_push : (p : ℕ) (xs : RegisterList s) (i : RegisterItem s.Asked s.Verdict)
      → register_cut_from p (xs ++ i ∷ []) ≡ register_cut_from (register_cut_from p xs) (i ∷ [])
  register_cut_push p [] i = refl
  register_cut_push p (Entered e ∷ xs) i = register_cut_push p xs i
  register_cut_push p (DrawnCut number c ∷ xs) i = register_cut_push p xs i
  register_cut_push p (RegisterCut q true ∷ xs) i = register_cut_push q xs i
  register_cut_push p (RegisterCut q false ∷ xs) i = register_cut_push p xs i

  register_is_in : (p : ℕ) (xs : RegisterList s) → (register_cut_from p xs ≡ p) ⊎ IsIn xs (RegisterCut (register_cut_from p xs) true)
  register_is_in p [] = inl refl
  register_is_in p (Entered e ∷ xs) = ⊎_elim (λ same. inl same) (λ later. inr (inr later)) (register_is_in p xs)
  register_is_in p (DrawnCut number c ∷ xs) = ⊎_elim (λ same. inl same) (λ later. inr (inr later)) (register_is_in p xs)
  register_is_in p (RegisterCut q true ∷ xs) = ⊎_elim (λ (same : register_cut_from q xs ≡ q). inr (inl (ap (λ (x : ℕ). RegisterCut x true) (sym same)))) (λ later. inr (inr later)) (register_is_in q xs)
  register_is_in p (RegisterCut q false ∷ xs) = ⊎_elim (λ same. inl same) (λ later. inr (inr later)) (register_is_in p xs)

  -- it was cut at no more places than were given
  pub register_cut_few : (d : s.Register) (xs : RegisterList s) → IsLegalRegister s d 0 0 xs → register_cut xs ≤ places xs
  register_cut_few d xs legal = ⊎_elim (λ (none : register_cut xs ≡ 0). omega arith) (λ here. register_at_most s d (register_cut xs) true xs legal here) (register_is_in 0 xs)

  -- where the last of all cuts is one of the register that found memory, it is the register's last
  pub last_is_register : (last : Option ℕ) (p q : ℕ) (xs : RegisterList s) → (last ≡ Some q → p ≡ q) → last_cut last xs ≡ Some q
      → register_cut_from p xs ≡ q
  last_is_register last p q [] same is = same is
  last_is_register last p q (Entered e ∷ xs) same is = last_is_register last p q xs same is
  last_is_register last p q (DrawnCut number c ∷ xs) same is = last_is_register None p q xs (λ (never : None ≡ Some q). absurd (cc)) is
  last_is_register last p q (RegisterCut a true ∷ xs) same is = last_is_register (Some a) a q xs (λ (e : Some a ≡ Some q). let f : a ≡ q = cc in f) is
  last_is_register last p q (RegisterCut a false ∷ xs) same is = last_is_register None p q xs (λ (never : None ≡ Some q). absurd (cc)) is
