-- What is decided at a place.
use Rattle.std.proofs.Common.{◌≡◌, ℕ, suc, ◌+◌, Bool, cond, [], ◌∷◌, ◌++◌, Some, refl, ap, sym, ◌∙◌, subst, arith, eq-eqb, ne_eqb}
use Rattle.lane_histories.specs.Services.{Service}
use Rattle.lane_histories.specs.Histories.{Entry, RegisterList, Entered, DrawnCut, RegisterCut, places, register_step, register_after, register_at}
use Rattle.lane_histories.specs.Legal.{IsLegalRegister, cuts_on, places_on}
use Rattle.lane_histories.specs.Replies.{entry_at}
use Rattle.lane_histories.specs.Laws.{CataloguesStay, EntriesAreFound, VerdictsAreOfTheirPlaces}
use Rattle.lane_histories.proofs.Lists.{in_split}
use Rattle.lane_histories.proofs.Prefixes.{register_front}
use Rattle.lane_histories.proofs.Growth.{at_longer, places_both}
use Rattle.lane_histories.proofs.RegisterLists.{places_more}

module _ (s : Service) where
  -- at the place of an entry the register is that behind all items before it
  pub at_behind : (d : s.Register) (front back : RegisterList s) (e : Entry s.Asked s.Verdict)
      → register_at s (places front) d (front ++ Entered e ∷ back) ≡ register_after s d front
  at_behind d [] back e = refl
  at_behind d (Entered x ∷ front) back e = at_behind (s.decided d x.asked x.verdict) front back e
  at_behind d (DrawnCut number c ∷ front) back e = at_behind (s.drawn d) front back e
  at_behind d (RegisterCut p found ∷ front) back e = at_behind (s.recorded found d) front back e

  legal_behind : (d : s.Register) (p n : ℕ) (front back : RegisterList s) (e : Entry s.Asked s.Verdict)
      → IsLegalRegister s d p n (front ++ Entered e ∷ back)
      → (e.place ≡ p + places front) × s.MayAnswer (register_after s d front) e.asked e.verdict
  legal_behind d p n [] back e legal = let there = legal.0.0 in (omega arith, legal.0.1)
  legal_behind d p n (x ∷ front) back e legal =
      let more = legal_behind (register_step s d x) (places_on p x) (cuts_on n x) front back e legal.1 in
      (more.0 ∙ sym (places_more s p x front), more.1)

  pub verdicts_are_of_their_places : VerdictsAreOfTheirPlaces s
  verdicts_are_of_their_places start h e legal here =
      let split = in_split h.register (Entered e) here in
      let front = split.0 in
      let back = split.1 in
      let both = legal_behind start.register 0 0 front back e (subst (IsLegalRegister s start.register 0 0) split.2 legal.register) in
      let place : e.place ≡ places front = (let sum = both.0 in omega arith) in
      let many : places h.register ≡ places front + suc (places back) = ap places split.2 ∙ places_both s front (Entered e ∷ back) in
      let there : register_at s e.place start.register h.register ≡ register_after s start.register front =
      ap (λ (n : ℕ). register_at s n start.register h.register) place ∙ ap (register_at s (places front) start.register) split.2 ∙ at_behind start.register front back e in
      (omega arith, subst (λ (d : s.Register). s.MayAnswer d e.asked e.verdict) (sym there) both.1)

  pub catalogues_stay : CataloguesStay s
  catalogues_stay start h g p prefix few =
      let more = prefix.register in
      ap (λ (items : RegisterList s). s.catalogue (register_at s p start.register items)) more.1 ∙ at_longer s p start.register h.register more.0 few

  -- ---- an entry is found at its place

  found_behind : (d : s.Register) (p n : ℕ) (front back : RegisterList s) (e : Entry s.Asked s.Verdict)
      → IsLegalRegister s d p n front → e.place ≡ p + places front → entry_at e.place (front ++ Entered e ∷ back) ≡ Some e
  found_behind d p n [] back e legal is = ap (λ (b : Bool). cond b (Some e) (entry_at e.place back)) (eq-eqb e.place e.place refl)
  found_behind d p n (Entered x ∷ front) back e legal is =
      let here = legal.0.0 in
      ap (λ (b : Bool). cond b (Some x) (entry_at e.place (front ++ Entered e ∷ back))) (ne_eqb x.place e.place (λ same. absurd (omega (arith, same))))
      ∙ found_behind (s.decided d x.asked x.verdict) (suc p) n front back e legal.1 (omega arith)
  found_behind d p n (DrawnCut number c ∷ front) back e legal is = found_behind (s.drawn d) p (suc n) front back e legal.1 is
  found_behind d p n (RegisterCut q found ∷ front) back e legal is = found_behind (s.recorded found d) p n front back e legal.1 is

  pub entries_are_found : EntriesAreFound s
  entries_are_found start h e legal here =
      let split = in_split h.register (Entered e) here in
      let whole = subst (IsLegalRegister s start.register 0 0) split.2 legal.register in
      let both = legal_behind start.register 0 0 split.0 split.1 e whole in
      ap (entry_at e.place) split.2 ∙ found_behind start.register 0 0 split.0 split.1 e (register_front s split.0 (Entered e ∷ split.1) start.register 0 0 whole) both.0
