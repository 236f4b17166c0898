-- What was cut tells the same as entries and turns come, as long as no cut comes.
use Rattle.std.proofs.Common.{◌≡◌, inl, inr, ⊎_elim, ℕ, ◌≤◌, Bool, true, false, [], ◌∷◌, ◌++◌, length-append, take, Option, Some, None, refl, ap, sym, ◌∙◌, subst, arith}
use Rattle.std.specs.List.{AllByRecursion}
use Rattle.lane_histories.specs.Services.{Service, World}
use Rattle.lane_histories.specs.Histories.{Entered, DrawnCut, RegisterCut, WasCut, History, StartsWith, places, register_at, RegisterList, LaneList}
use Rattle.lane_histories.specs.Legal.{IsPrefix, IsLegal}
use Rattle.lane_histories.specs.Cuts.{last_cut, IsEntry, IsNoCut}
use Rattle.lane_histories.specs.JournalContents.{JournalContents}
use Rattle.lane_histories.proofs.Lists.{all_at, in_either, in_longer, take_front}
use Rattle.lane_histories.proofs.Growth.{at_longer}
use Rattle.lane_histories.proofs.RegisterLists.{last_is_in, register_at_most}
use Rattle.lane_histories.proofs.Sound.{Backing, BuiltLane}

module _ (s : Service) (j : JournalContents s) (start : World s) where
  last_stays : (last : Option ℕ) (xs ys : RegisterList s) → AllByRecursion IsEntry ys → last_cut last (xs ++ ys) ≡ last_cut last xs
  last_stays last [] [] entries = refl
  last_stays last [] (Entered e ∷ ys) entries = last_stays last [] ys entries.1
  last_stays last [] (DrawnCut number c ∷ ys) entries = absurd entries.0
  last_stays last [] (RegisterCut p found ∷ ys) entries = absurd entries.0
  last_stays last (Entered e ∷ xs) ys entries = last_stays last xs ys entries
  last_stays last (DrawnCut number c ∷ xs) ys entries = last_stays None xs ys entries
  last_stays last (RegisterCut p true ∷ xs) ys entries = last_stays (Some p) xs ys entries
  last_stays last (RegisterCut p false ∷ xs) ys entries = last_stays None xs ys entries

  lane_longer : (list more : RegisterList s) (built : j.Content) (l : ℕ) (items later : LaneList s) (torn : Bool)
      → StartsWith more list → AllByRecursion IsNoCut later
      → BuiltLane s j start list built l items torn → BuiltLane s j start more built l (items ++ later) torn
  lane_longer list more built l items later torn starts no_cut b =
      let front : take b.k (items ++ later) ≡ take b.k items = take_front b.k items later b.few in
      let few = b.few in
      let long = length-append items later in
      record {
        k = b.k;
        few = omega arith;
        told = λ below whole. rw front (b.told below whole);
        cuts = λ number c here. rw front (⊎_elim (λ old. b.cuts number c old) (λ new. absurd (all_at _ later (WasCut number c true) no_cut new)) (in_either items later _ here));
        below = rw front (⊎_elim (λ none. inl none) (λ cut. inr (cut.0, cut.1, in_longer more list _ starts cut.2, cut.3)) b.below);
      }

  module _ (h g : History s) (legal : IsLegal s start h) (prefix : IsPrefix h g) (entries : AllByRecursion IsEntry prefix.register.0)
      (turns : (l : ℕ) → AllByRecursion IsNoCut (prefix.lane l).0)
      (built : j.Content) (torn : ℕ → Bool) (b : Backing s j start h built torn) where
    same_last : (q : ℕ) → last_cut None g.register ≡ Some q → last_cut None h.register ≡ Some q
    same_last q is = sym (last_stays None h.register prefix.register.0 entries) ∙ sym (ap (last_cut None) prefix.register.1) ∙ is

    never : (q : ℕ) → None ≡ Some q → ⊥
    never q e = cc

    few : (q : ℕ) → last_cut None h.register ≡ Some q → q ≤ places h.register
    few q is = ⊎_elim (λ none. absurd (never q none)) (λ here. register_at_most s start.register q true h.register legal.register here) (last_is_in s None q h.register is)

    pub backing_longer : Backing s j start g built torn
    backing_longer = record {
      lanes = λ l.
          let more = prefix.lane l in
          subst (λ (items : LaneList s). BuiltLane s j start g.register built l items (torn l)) (sym more.1) (lane_longer h.register g.register built l (h.lane l) more.0 (torn l) prefix.register (turns l) (b.lanes l));
      register = λ q is.
          let old = same_last q is in
          let same : s.catalogue (register_at s q start.register h.register) ≡ s.catalogue (register_at s q start.register g.register) =
          sym (ap (λ (items : RegisterList s). s.catalogue (register_at s q start.register items)) prefix.register.1 ∙ at_longer s q start.register h.register prefix.register.0 (few q old)) in
          subst (j.TellsCatalogue built) same (b.register q old);
    }
