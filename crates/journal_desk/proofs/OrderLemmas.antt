-- How often was cut, as lists grow.
use Rattle.std.proofs.Common.{◌≡◌, ◌≢◌, ℕ, ◌<◌, ◌≤◌, Bool, true, false, ◌&&◌, List, [], ◌∷◌, ◌++◌, refl, ap, sym, ◌∙◌, subst, append-nil, append_assoc, arith, ⊎_elim}
use Rattle.std.specs.List.{AllByRecursion}
use Rattle.std.proofs.lemmas.Bool.Decides.{eqb_tells}
use Rattle.flush_journal.specs.Records.{Record}
use Rattle.lane_histories.specs.Services.{Service, World}
use Rattle.lane_histories.specs.Histories.{History, LaneList, RegisterList}
use Rattle.lane_histories.specs.declared.items.LaneItem.{LaneItem}
use Rattle.lane_histories.specs.declared.items.LaneItem.TheVariants.{Passed, WasCut}
use Rattle.lane_histories.specs.declared.items.RegisterItem.{RegisterItem}
use Rattle.lane_histories.specs.declared.items.RegisterItem.TheVariants.{DrawnCut, Entered, RegisterCut}
use Rattle.lane_histories.specs.Legal.{with_lane_item, with_register_item}
use Rattle.lane_histories.specs.Cuts.{GoesOn, IsEntry, IsNoCut}
use Rattle.lane_histories.specs.declared.items.Reach.{Reach}
use Rattle.lane_histories.proofs.LaneLists.{at_each}
use Rattle.journal_desk.specs.Standing.{Standing}
use Rattle.journal_desk.specs.declared.note.Note.{Ghosts as Notes}
use Rattle.journal_desk.specs.KeptServices.{KeptService}
use Rattle.journal_desk.specs.Cuts.{Adds, CutsAll, CutsLanes, CutsRegister, DrawsCut, TakesCut, TakesRegisterCut, cuts_of_lane, cuts_of_register}

module _ {Q V : Type 0} where
  register_both : (xs ys : List (RegisterItem Q V)) → cuts_of_register (xs ++ ys) ≡ cuts_of_register xs ++ cuts_of_register ys
  register_both [] ys = refl
  register_both (Entered e ∷ xs) ys = register_both xs ys
  register_both (DrawnCut number c ∷ xs) ys = ap (λ (zs : List (RegisterItem Q V)). DrawnCut number c ∷ zs) (register_both xs ys)
  register_both (RegisterCut p found ∷ xs) ys = ap (λ (zs : List (RegisterItem Q V)). RegisterCut p found ∷ zs) (register_both xs ys)

  entries_only : (xs : List (RegisterItem Q V)) → AllByRecursion IsEntry xs → cuts_of_register xs ≡ []
  entries_only [] all = refl
  entries_only (Entered e ∷ xs) all = entries_only xs all.1
  entries_only (DrawnCut number c ∷ xs) all = absurd all.0
  entries_only (RegisterCut p found ∷ xs) all = absurd all.0

module _ {T R : Type 0} where
  lane_both : (xs ys : List (LaneItem T R)) → cuts_of_lane (xs ++ ys) ≡ cuts_of_lane xs ++ cuts_of_lane ys
  lane_both [] ys = refl
  lane_both (Passed place part task y ∷ xs) ys = lane_both xs ys
  lane_both (WasCut number c true ∷ xs) ys = ap (λ (zs : List (LaneItem T R)). WasCut number c true ∷ zs) (lane_both xs ys)
  lane_both (WasCut number c false ∷ xs) ys = lane_both xs ys

  turns_only : (xs : List (LaneItem T R)) → AllByRecursion IsNoCut xs → cuts_of_lane xs ≡ []
  turns_only [] all = refl
  turns_only (Passed place part task y ∷ xs) all = turns_only xs all.1
  turns_only (WasCut number c true ∷ xs) all = absurd all.0
  turns_only (WasCut number c false ∷ xs) all = turns_only xs all.1

module _ (s : Service) where
  -- others cut nothing
  pub register_same : (h g : History s) → GoesOn h g → cuts_of_register g.register ≡ cuts_of_register h.register
  register_same h g on =
      let more = on.longer.register in
      ap cuts_of_register more.1 ∙ register_both h.register more.0
      ∙ ap (λ (zs : RegisterList s). cuts_of_register h.register ++ zs) (entries_only more.0 on.entries) ∙ append-nil (cuts_of_register h.register)

  pub lane_same : (h g : History s) (l : ℕ) → GoesOn h g → cuts_of_lane (g.lane l) ≡ cuts_of_lane (h.lane l)
  lane_same h g l on =
      let more = on.longer.lane l in
      ap cuts_of_lane more.1 ∙ lane_both (h.lane l) more.0
      ∙ ap (λ (zs : LaneList s). cuts_of_lane (h.lane l) ++ zs) (turns_only more.0 (on.turns l)) ∙ append-nil (cuts_of_lane (h.lane l))

  module _ (start : World s) where
    -- an item of the register
    module _ (h g : History s) (i : RegisterItem s.Asked s.Verdict) (step : Adds s start h g (λ m. with_register_item m i)) where
      pub register_more : cuts_of_register g.register ≡ cuts_of_register h.register ++ cuts_of_register (i ∷ [])
      register_more = ap (λ (m : History s). cuts_of_register m.register) step.added ∙ register_both step.mid.register (i ∷ [])
          ∙ ap (λ (zs : RegisterList s). zs ++ cuts_of_register (i ∷ [])) (register_same h step.mid step.others)

      pub lanes_same : (l : ℕ) → cuts_of_lane (g.lane l) ≡ cuts_of_lane (h.lane l)
      lanes_same l = ap (λ (m : History s). cuts_of_lane (m.lane l)) step.added ∙ lane_same h step.mid l step.others

    -- an item of a lane
    module _ (h g : History s) (lane : ℕ) (i : LaneItem s.Task s.Reply) (step : Adds s start h g (λ m. with_lane_item m lane i)) where
      pub register_stays : cuts_of_register g.register ≡ cuts_of_register h.register
      register_stays = ap (λ (m : History s). cuts_of_register m.register) step.added ∙ register_same h step.mid step.others

      here_or_there : (l : ℕ) → (l ≡ lane → cuts_of_lane ((with_lane_item step.mid lane i).lane l) ≡ cuts_of_lane (step.mid.lane lane) ++ cuts_of_lane (i ∷ []))
          × (l ≢ lane → cuts_of_lane ((with_lane_item step.mid lane i).lane l) ≡ cuts_of_lane (step.mid.lane l))
      here_or_there = at_each lane (step.mid.lane lane ++ i ∷ []) step.mid.lane
          (λ l (v : LaneList s). (l ≡ lane → cuts_of_lane v ≡ cuts_of_lane (step.mid.lane lane) ++ cuts_of_lane (i ∷ []))
          × (l ≢ lane → cuts_of_lane v ≡ cuts_of_lane (step.mid.lane l)))
          (λ same. lane_both (step.mid.lane lane) (i ∷ []), λ other. absurd (other refl))
          (λ l other. (λ same. absurd (other same), λ apart. refl))

      pub lane_more : cuts_of_lane (g.lane lane) ≡ cuts_of_lane (h.lane lane) ++ cuts_of_lane (i ∷ [])
      lane_more = ap (λ (m : History s). cuts_of_lane (m.lane lane)) step.added ∙ (here_or_there lane).0 refl
          ∙ ap (λ (zs : LaneList s). zs ++ cuts_of_lane (i ∷ [])) (lane_same h step.mid lane step.others)

      pub other_same : (l : ℕ) → l ≢ lane → cuts_of_lane (g.lane l) ≡ cuts_of_lane (h.lane l)
      other_same l apart = ap (λ (m : History s). cuts_of_lane (m.lane l)) step.added ∙ (here_or_there l).1 apart ∙ lane_same h step.mid l step.others

  -- ---- one after another

  pub all_cut : (h m g : History s) (number c p : ℕ) → CutsLanes s h m number c → CutsRegister s m g p → CutsAll s h g number c p
  all_cut h m g number c p first more = record {
    register = more.register ∙ ap (λ (zs : RegisterList s). zs ++ RegisterCut p true ∷ []) first.register
        ∙ append_assoc (cuts_of_register h.register) (DrawnCut number c ∷ []) (RegisterCut p true ∷ []);
    lanes = λ l few. more.lanes l ∙ first.lanes l few;
  }

-- ---- a turn

module _ {D N : Type 0} (family : Notes N) (old mid cut reg new : Standing D N) (still : mid.note ≡ old.note) (lanes : mid.lanes ≡ old.lanes) where
  pub order_all : (number : ℕ) → cut.lanes ≡ mid.lanes → new.note ≡ reg.note → new.cut ≡ reg.cut → reg.cut.c ≡ cut.cut.c
      → CutsLanes (family.kept mid.lanes).service (family.history mid.lanes mid.note) (family.history mid.lanes cut.note) number cut.cut.c
      → CutsRegister (family.kept cut.lanes).service (family.history cut.lanes cut.note) (family.history cut.lanes reg.note) reg.cut.p
      → CutsAll (family.kept old.lanes).service (family.history old.lanes old.note) (family.history old.lanes new.note) number new.cut.c new.cut.p
  order_all number cut_lanes noted reached same_c first more =
      let many = cut_lanes ∙ lanes in
      let f = subst (λ (x : ℕ × N). CutsLanes (family.kept x.0).service (family.history x.0 x.1) (family.history x.0 cut.note) number cut.cut.c)
      (λ i. (lanes i, still i)) first in
      let m = subst (λ (x : ℕ). CutsRegister (family.kept x).service (family.history x cut.note) (family.history x reg.note) reg.cut.p) many more in
      let s = (family.kept old.lanes).service in
      subst (λ (x : N × Reach). CutsAll s (family.history old.lanes old.note) (family.history old.lanes x.0) number x.1.c x.1.p) (λ i. (sym noted i, sym reached i))
      (subst (λ (n : ℕ). CutsAll s (family.history old.lanes old.note) (family.history old.lanes reg.note) number n reg.cut.p) (sym same_c)
      (all_cut s (family.history old.lanes old.note) (family.history old.lanes cut.note) (family.history old.lanes reg.note) number cut.cut.c reg.cut.p f m))

  pub order_register : new.note ≡ reg.note → new.cut ≡ reg.cut
      → CutsRegister (family.kept mid.lanes).service (family.history mid.lanes mid.note) (family.history mid.lanes reg.note) reg.cut.p
      → CutsRegister (family.kept old.lanes).service (family.history old.lanes old.note) (family.history old.lanes new.note) new.cut.p
  order_register noted reached more =
      subst (λ (x : N × Reach). CutsRegister (family.kept old.lanes).service (family.history old.lanes old.note) (family.history old.lanes x.0) x.1.p)
      (λ i. (sym noted i, sym reached i))
      (subst (λ (x : ℕ × N). CutsRegister (family.kept x.0).service (family.history x.0 x.1) (family.history x.0 reg.note) reg.cut.p)
      (λ i. (lanes i, still i)) more)
