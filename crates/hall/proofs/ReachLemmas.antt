-- No cut reaches past the places that were given.
use Rattle.std.proofs.Common.{◌≡◌, inl, inr, ℕ, suc, ◌+◌, ◌≤◌, [], ◌∷◌, arith}
use Rattle.lane_histories.specs.Cuts.{IsOfCuts}
use Rattle.lane_histories.specs.Histories.{History, IsIn, RegisterList, places}
use Rattle.lane_histories.specs.Legal.{IsLegal, IsLegalRegister}
use Rattle.lane_histories.specs.Services.{Service, World}
use Rattle.lane_histories.specs.declared.items.Reach.{Reach}
use Rattle.lane_histories.specs.declared.items.RegisterItem.TheVariants.{Entered, DrawnCut, RegisterCut}

module _ (s : Service) where
  drawn_few : (items : RegisterList s) (d : s.Register) (p n number c : ℕ) → IsLegalRegister s d p n items → IsIn items (DrawnCut number c) → c ≤ p + places items
  drawn_few [] d p n number c legal here = absurd here
  drawn_few (Entered e ∷ items) d p n number c legal (inl is) = absurd (let no : Entered e ≡ DrawnCut number c = is in cc)
  drawn_few (DrawnCut m at ∷ items) d p n number c legal (inl is) =
      let same : at ≡ c = cc in
      let its = legal.0.1 in
      omega (arith, same, its)
  drawn_few (RegisterCut at found ∷ items) d p n number c legal (inl is) = absurd (let no : RegisterCut at found ≡ DrawnCut number c = is in cc)
  drawn_few (Entered e ∷ items) d p n number c legal (inr there) =
      let later = drawn_few items _ (suc p) n number c legal.1 there in
      omega (arith, later)
  drawn_few (DrawnCut m at ∷ items) d p n number c legal (inr there) = drawn_few items _ p (suc n) number c legal.1 there
  drawn_few (RegisterCut at found ∷ items) d p n number c legal (inr there) = drawn_few items _ p n number c legal.1 there

  pub cuts_few : (start : World s) (h : History s) (reach : Reach) → IsLegal s start h → IsOfCuts s h reach → reach.c ≤ places h.register
  cuts_few start h reach legal cuts = elim cuts.c [
    | inl none ↦ omega (arith, none)
    | inr cut ↦ (let few = drawn_few h.register start.register 0 0 cut.0 reach.c legal.register cut.1.drawn in omega (arith, few))
  ]
