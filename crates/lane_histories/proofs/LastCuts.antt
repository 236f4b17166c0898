-- The objects and the catalogue at the last cuts that found memory, as the lists grow.
use Rattle.std.proofs.Common.{◌≡◌, ℕ, true, [], ◌∷◌, ◌++◌, ap, ◌∙◌, arith}
use Rattle.lane_histories.specs.Services.{Service, World}
use Rattle.lane_histories.specs.Histories.{History, RegisterItem, RegisterCut, RegisterList, register_after, register_at, places}
use Rattle.lane_histories.specs.Legal.{IsLegalRegister}
use Rattle.lane_histories.specs.Cuts.{objects_at_cut, register_cut, register_cut_from, GoesOn}
use Rattle.lane_histories.proofs.CutLemmas.{objects_cut_stays, register_cut_few, register_cut_push, register_cut_stays}
use Rattle.lane_histories.proofs.Growth.{at_longer}
use Rattle.lane_histories.proofs.RegisterLists.{at_end}

module _ (s : Service) (start : World s) where
  abbrev pub catalogue_at_cut : RegisterList s → s.Catalogue
  catalogue_at_cut items = s.catalogue (register_at s (register_cut items) start.register items)

  -- ---- no cut came that found memory

  pub objects_go_on : (h g : History s) (l : ℕ) → GoesOn h g
      → objects_at_cut s (start.objects l) (g.lane l) ≡ objects_at_cut s (start.objects l) (h.lane l)
  objects_go_on h g l on =
      let more = on.longer.lane l in
      ap (objects_at_cut s (start.objects l)) more.1 ∙ objects_cut_stays s (start.objects l) (start.objects l) (h.lane l) more.0 (on.turns l)

  module _ (xs more : RegisterList s) (legal : IsLegalRegister s start.register 0 0 xs) where
    catalogue_longer : register_cut (xs ++ more) ≡ register_cut xs → catalogue_at_cut (xs ++ more) ≡ catalogue_at_cut xs
    catalogue_longer same =
        ap (λ (q : ℕ). s.catalogue (register_at s q start.register (xs ++ more))) same
        ∙ at_longer s (register_cut xs) start.register xs more (register_cut_few s start.register xs legal)

  pub catalogue_goes_on : (h g : History s) → IsLegalRegister s start.register 0 0 h.register → GoesOn h g
      → catalogue_at_cut g.register ≡ catalogue_at_cut h.register
  catalogue_goes_on h g legal on =
      let more = on.longer.register in
      ap catalogue_at_cut more.1 ∙ catalogue_longer h.register more.0 legal (register_cut_stays s 0 h.register more.0 on.entries)

  -- an item of the register that isn't a register cut with memory
  pub catalogue_at_item : (xs : RegisterList s) (i : RegisterItem s.Asked s.Verdict) → IsLegalRegister s start.register 0 0 xs
      → register_cut_from (register_cut xs) (i ∷ []) ≡ register_cut xs → catalogue_at_cut (xs ++ i ∷ []) ≡ catalogue_at_cut xs
  catalogue_at_item xs i legal same = catalogue_longer xs (i ∷ []) legal (register_cut_push s 0 xs i ∙ same)

  -- ---- a cut of the register

  pub catalogue_now : (xs : RegisterList s) → catalogue_at_cut (xs ++ RegisterCut (places xs) true ∷ []) ≡ s.catalogue (register_after s start.register xs)
  catalogue_now xs =
      let i : RegisterItem s.Asked s.Verdict = RegisterCut (places xs) true in
      ap (λ (q : ℕ). s.catalogue (register_at s q start.register (xs ++ i ∷ []))) (register_cut_push s 0 xs i)
      ∙ at_longer s (places xs) start.register xs (i ∷ []) (omega arith) ∙ ap s.catalogue (at_end s start.register xs)
