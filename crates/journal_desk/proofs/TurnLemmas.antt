-- A desk after the steps of the callers' side.
use Rattle.std.proofs.Common.{◌≡◌, inl, inr, ⊎_elim, ℕ, ◌≤◌, Bool, true, false, List, [], ◌∷◌, ◌++◌, Some, None, refl, ap, sym, ◌∙◌, subst, arith}
use Rattle.std.specs.List.{AllByRecursion}
use Rattle.edge_traits.specs.declared.disk.Disk.{Ghosts}
use Rattle.flush_journal.specs.Moments.{CrashLeaves}
use Rattle.flush_journal.specs.Records.{Record}
use Rattle.flush_journal.specs.Standing.{disk_of, pending_of}
use Rattle.flush_journal.specs.declared.journal.Journal.{Journal}
use Rattle.flush_journal.proofs.Moments.{no_call}
use Rattle.flush_journal.proofs.Unchanged.{same_here}
use Rattle.lane_histories.specs.Services.{World}
use Rattle.lane_histories.specs.Histories.{History, IsIn, LaneList, places}
use Rattle.lane_histories.specs.declared.items.LaneItem.TheVariants.{WasCut}
use Rattle.lane_histories.specs.declared.items.RegisterItem.TheVariants.{DrawnCut, RegisterCut}
use Rattle.lane_histories.specs.declared.items.Reach.{Reach}
use Rattle.lane_histories.specs.Legal.{IsLegal, IsPrefix}
use Rattle.lane_histories.specs.Cuts.{IsOfCuts, IsWholeCut, last_cut, register_cut}
use Rattle.lane_histories.specs.KeptContents.{IsAsFar}
use Rattle.lane_histories.proofs.Lists.{in_longer}
use Rattle.lane_histories.proofs.RegisterLists.{register_is_earlier}
use Rattle.lane_histories.proofs.SaidCuts.{cuts_stay_said}
use Rattle.lane_histories.proofs.Sound.{cuts_longer}
use Rattle.journal_desk.specs.KeptServices.{contents}
use Rattle.journal_desk.specs.Notes.{AreAlike, NoteOf, at_lanes}
use Rattle.journal_desk.specs.Standing.{standing_of}
use Rattle.journal_desk.specs.Desks.{IsDesk, HoldsAsFar}
use Rattle.journal_desk.specs.Cuts.{Advances, CutsEach, CutsLanes, CutsRegister, DrawsCut, Resumes, TakesRegisterCut, cuts_of_lane, cuts_of_register}
use Rattle.journal_desk.specs.Keepings.{Continues}
use Rattle.journal_desk.specs.Owed.{OwesCuts}
use Rattle.journal_desk.specs.declared.note.Note.{Ghosts as Notes}
use Rattle.journal_desk.proofs.ImageLemmas.{as_far, image_kept, longer_image}
use Rattle.journal_desk.proofs.ContinueLemmas.{continues_by}
use Rattle.journal_desk.proofs.OwedLemmas.{owes_cut, owes_on}
use Rattle.journal_desk.proofs.DeskLemmas.{grown_desk}
use Rattle.journal_desk.proofs.OrderLemmas.{lanes_same, register_more}
use Rattle.journal_desk.proofs.StepLemmas.{advances_both, draws_advance, draws_it, draws_register, drawn_cut_before, drawn_earlier, drawn_last}
use Rattle.journal_desk.proofs.StepLemmas.{not_both, places_at, register_before, register_in, register_last, register_now, register_same}
use Rattle.journal_desk.proofs.StepLemmas.{registers_advance, registers_whole, whole_before}

-- what is true of the desk and its note after the lanes' cuts
pub record AreLanesCut {D N : Type 0} {met : Ghosts D} (notes : NoteOf N) (j : Journal D met) (building built : List Record) (cut kept : Reach)
    (before after : N) (whole : Bool) (c : ℕ) : Type 0 where
  pub start : notes.start after ≡ notes.start before
  pub legal : IsLegal notes.kept.service (notes.start before) (notes.history after)
  pub longer : IsPrefix (notes.history before) (notes.history after)
  pub keepings : (notes.history after).keepings ≡ (notes.history before).keepings
  pub places_are : places (notes.history before).register ≤ c
  pub owes : (since : N) → OwesCuts notes.kept (notes.start before) (notes.history since) (notes.was since) (notes.history before) (notes.was before)
      (pending_of j) building kept
      → OwesCuts notes.kept (notes.start after) (notes.history since) (notes.was since) (notes.history after) (notes.was after) (pending_of j) built kept
  pub short : whole ≡ false → IsDesk notes.kept (notes.start after) (notes.history after) (notes.was after) j built cut kept
  pub order : whole ≡ true → (number : ℕ) × CutsLanes notes.kept.service (notes.history before) (notes.history after) number c
  pub well : whole ≡ true → IsDesk notes.kept (notes.start after) (notes.history after) (notes.was after) j built (record cut { c = c }) kept

-- and after the register's
pub record IsRegisterCut {D N : Type 0} {met : Ghosts D} (notes : NoteOf N) (j : Journal D met) (building built : List Record) (cut kept : Reach)
    (before after : N) (found : Bool) (p : ℕ) : Type 0 where
  pub start : notes.start after ≡ notes.start before
  pub legal : IsLegal notes.kept.service (notes.start before) (notes.history after)
  pub longer : IsPrefix (notes.history before) (notes.history after)
  pub keepings : (notes.history after).keepings ≡ (notes.history before).keepings
  pub places_are : places (notes.history before).register ≤ p
  pub owes : (since : N) → OwesCuts notes.kept (notes.start before) (notes.history since) (notes.was since) (notes.history before) (notes.was before)
      (pending_of j) building kept
      → OwesCuts notes.kept (notes.start after) (notes.history since) (notes.was since) (notes.history after) (notes.was after) (pending_of j) built kept
  pub short : found ≡ false → IsDesk notes.kept (notes.start after) (notes.history after) (notes.was after) j built cut kept
  pub well : found ≡ true → IsDesk notes.kept (notes.start after) (notes.history after) (notes.was after) j built (record cut { p = p }) kept
  pub order : found ≡ true → CutsRegister notes.kept.service (notes.history before) (notes.history after) p
  pub last : found ≡ true → last_cut None (notes.history after).register ≡ Some p

module _ {D N : Type 0} {met : Ghosts D} (notes : NoteOf N) (j : Journal D met) (building : List Record) (cut kept : Reach) (before : N)
    (inv : IsDesk notes.kept (notes.start before) (notes.history before) (notes.was before) j building cut kept) where
  -- no call of the disk, and longer lists in the note
  pub continues_grown : (after : N) → notes.start after ≡ notes.start before → IsLegal notes.kept.service (notes.start before) (notes.history after)
      → IsPrefix (notes.history before) (notes.history after)
      → (met.honest → (c : List ℕ) → met.left_since (disk_of j) (met.moment (disk_of j)) c → met.images (disk_of j) c)
      → (lanes : ℕ) (at : D) (since : N) (built : List Record) (now : Reach)
      → Continues met notes (standing_of lanes j building cut kept at since before) (standing_of lanes j built now kept at since after)
  continues_grown after start legal prefix only_now lanes at since built now =
      continues_by met notes (standing_of lanes j building cut kept at since before) (standing_of lanes j built now kept at since after) refl start legal prefix
      (same_here met (disk_of j)) (as_far kept) (λ honest. omega arith) leaves
    where
      leaves : met.honest → CrashLeaves met (disk_of j) (disk_of j) (HoldsAsFar notes.kept (notes.start before) (notes.history after) kept)
      leaves honest = no_call met (disk_of j) (HoldsAsFar notes.kept (notes.start before) (notes.history after) kept)
          (λ c left. longer_image notes.kept (notes.start before) (notes.history before) (notes.history after) kept c legal prefix
          (image_kept notes.kept (notes.start before) (notes.history before) (notes.was before) j building cut kept (inv.on_disk honest) c (only_now honest c left)))

  -- others asked and took turns since the desk's last turn
  pub resumed : (after : N) → notes.start after ≡ notes.start before → notes.was after ≡ notes.was before
      → IsLegal notes.kept.service (notes.start after) (notes.history after) → Resumes (notes.history before) (notes.history after) kept
      → IsDesk notes.kept (notes.start after) (notes.history after) (notes.was after) j building cut kept
  resumed after start was legal more =
      let here : IsLegal notes.kept.service (notes.start before) (notes.history after) =
      subst (λ (w : World notes.kept.service). IsLegal notes.kept.service w (notes.history after)) start legal in
      subst (λ (x : World notes.kept.service × (ℕ → notes.kept.marking.Marked)). IsDesk notes.kept x.0 (notes.history after) x.1 j building cut kept)
      (λ i. (sym start i, sym was i))
      (grown_desk notes.kept (notes.start before) (notes.history before) (notes.history after) (notes.was before) (notes.was before) here more.others.longer
      j building building cut cut kept inv more.keepings
      (λ x b. cuts_stay_said notes.kept.marking (notes.start before) (notes.history before) (notes.history after) _ (notes.was before) inv.legal more.others b)
      (cuts_longer notes.kept.service (contents notes.kept) (notes.start before) (notes.history before) (notes.history after) here more.others.longer cut inv.cut_cuts)
      (λ number e whole. inv.last_lanes number e (whole_before notes.kept.service (notes.history before) (notes.history after) number e more.others whole))
      (inv.last_register ∙ sym (register_before notes.kept.service (notes.history before) (notes.history after) more.others)) inv.far (inl refl))

  -- and what is owed stays
  pub resumed_owes : (since after : N) → notes.start after ≡ notes.start before → notes.was after ≡ notes.was before
      → Resumes (notes.history before) (notes.history after) kept
      → OwesCuts notes.kept (notes.start before) (notes.history since) (notes.was since) (notes.history before) (notes.was before) (pending_of j) building kept
      → OwesCuts notes.kept (notes.start after) (notes.history since) (notes.was since) (notes.history after) (notes.was after) (pending_of j) building kept
  resumed_owes since after start was more owes =
      subst (λ (x : World notes.kept.service × (ℕ → notes.kept.marking.Marked)). OwesCuts notes.kept x.0 (notes.history since) (notes.was since)
      (notes.history after) x.1 (pending_of j) building kept) (λ i. (sym start i, sym was i))
      (owes_on notes.kept (notes.start before) (notes.history since) (notes.was since) (notes.history before) (notes.history after) (notes.was before)
      (pending_of j) building kept more.others owes)

  module _ (idle : pending_of j ≡ None) where
    -- the callers' side advanced, and the cuts may reach farther
    advanced : (g : History notes.kept.service) (later : ℕ → notes.kept.marking.Marked) (built : List Record) (now : Reach) (after : N)
        → Advances notes.kept (notes.start before) (notes.history before) g (notes.was before) later building built
        → IsOfCuts notes.kept.service g now → ((number e : ℕ) → IsWholeCut notes.kept.service g number e → e ≤ now.c) → now.p ≡ register_cut g.register
        → IsAsFar kept now → notes.start after ≡ notes.start before → notes.history after ≡ g → notes.was after ≡ later
        → IsDesk notes.kept (notes.start after) (notes.history after) (notes.was after) j built now kept
    advanced g later built now after adv cuts lanes register far start same alike =
        subst (λ (x : World notes.kept.service × History notes.kept.service × (ℕ → notes.kept.marking.Marked)). IsDesk notes.kept x.0 x.1 x.2 j built now kept)
        (λ i. (sym start i, sym same i, sym alike i))
        (grown_desk notes.kept (notes.start before) (notes.history before) g (notes.was before) later adv.legal adv.longer j building built cut now kept inv
        (subst (AllByRecursion (λ i. IsAsFar i.own kept)) (sym adv.keepings) inv.keepings) adv.built cuts lanes register far (inr idle))

    -- and what they cut is owed
    advanced_owes : (g : History notes.kept.service) (later : ℕ → notes.kept.marking.Marked) (built : List Record) (since after : N)
        → Advances notes.kept (notes.start before) (notes.history before) g (notes.was before) later building built
        → notes.start after ≡ notes.start before → notes.history after ≡ g → notes.was after ≡ later
        → OwesCuts notes.kept (notes.start before) (notes.history since) (notes.was since) (notes.history before) (notes.was before) (pending_of j) building kept
        → OwesCuts notes.kept (notes.start after) (notes.history since) (notes.was since) (notes.history after) (notes.was after) (pending_of j) built kept
    advanced_owes g later built since after adv start same alike owes =
        subst (λ (x : World notes.kept.service × History notes.kept.service × (ℕ → notes.kept.marking.Marked)). OwesCuts notes.kept x.0
        (notes.history since) (notes.was since) x.1 x.2 (pending_of j) built kept) (λ i. (sym start i, sym same i, sym alike i))
        (owes_cut notes.kept (notes.start before) (notes.history since) (notes.was since) (notes.history before) g (notes.was before) later
        (pending_of j) building built kept idle adv owes)

    -- ---- the lanes' cuts

    module _ (built : List Record) (whole : Bool) (number c : ℕ) (n0 n1 n2 after : N) (at : AreAlike notes before n0)
        (draws : DrawsCut notes.kept.service (notes.start n0) (notes.history n0) (notes.history n1) number c)
        (first : notes.start n1 ≡ notes.start n0) (first_was : notes.was n1 ≡ notes.was n0)
        (each : CutsEach notes.kept (notes.start n1) (notes.history n1) (notes.history n2) (notes.was n1) (notes.was n2) number c
        notes.kept.service.lanes whole building built)
        (second : notes.start n2 ≡ notes.start n1) (noted : AreAlike notes after n2) where
      same_start : notes.start after ≡ notes.start before
      same_start = noted.start ∙ second ∙ first ∙ sym at.start

      same_was : notes.was n1 ≡ notes.was before
      same_was = first_was ∙ sym at.was

      drawn_here : DrawsCut notes.kept.service (notes.start before) (notes.history before) (notes.history n1) number c
      drawn_here = subst (λ (x : World notes.kept.service × History notes.kept.service). DrawsCut notes.kept.service x.0 x.1 (notes.history n1) number c)
          (λ i. (sym at.start i, sym at.history i)) draws

      each_here : CutsEach notes.kept (notes.start before) (notes.history n1) (notes.history n2) (notes.was n1) (notes.was n2) number c
          notes.kept.service.lanes whole building built
      each_here = subst (λ (w : World notes.kept.service). CutsEach notes.kept w (notes.history n1) (notes.history n2) (notes.was n1) (notes.was n2) number c
          notes.kept.service.lanes whole building built) (first ∙ sym at.start) each

      both : Advances notes.kept (notes.start before) (notes.history before) (notes.history n2) (notes.was before) (notes.was n2) building built
      both = advances_both notes.kept (notes.start before) (notes.history before) (notes.history n1) (notes.history n2)
          (notes.was before) (notes.was n1) (notes.was n2) building building built
          (draws_advance notes.kept (notes.start before) (notes.history before) (notes.history n1) (notes.was before) (notes.was n1) number c building inv.legal same_was drawn_here)
          each_here.advances

      longer_cuts : (reach : Reach) → IsOfCuts notes.kept.service (notes.history before) reach → IsOfCuts notes.kept.service (notes.history n2) reach
      longer_cuts reach cuts =
          cuts_longer notes.kept.service (contents notes.kept) (notes.start before) (notes.history before) (notes.history n2) both.legal both.longer reach cuts

      -- no cut of all lanes came with one that is short
      still_whole : whole ≡ false → (n e : ℕ) → IsWholeCut notes.kept.service (notes.history n2) n e → IsWholeCut notes.kept.service (notes.history before) n e
      still_whole is n e all = ⊎_elim
          (λ same. let short = each_here.short is in
          absurd (not_both notes.kept.service (notes.start before) (notes.history n2) short.0 n e c both.legal (all.everywhere short.0 short.1)
          (subst (λ (m : ℕ). IsIn ((notes.history n2).lane short.0) (WasCut m c false)) (sym same) short.2)))
          (λ earlier. record {
            drawn = earlier.1;
            everywhere = λ l few. drawn_cut_before notes.kept.service (notes.start before) (notes.history before) (notes.history n1) number c drawn_here l n e
                (⊎_elim (λ old. old) (λ (same : n ≡ number). absurd (let less = earlier.0 in omega arith)) (each_here.before l n e (all.everywhere l few)));
          })
          (drawn_earlier notes.kept.service (notes.start before) (notes.history before) (notes.history n1) number c drawn_here n e (each_here.drawn n e all.drawn))

      same_register : register_cut (notes.history n2).register ≡ register_cut (notes.history before).register
      same_register = each_here.register ∙ draws_register notes.kept.service (notes.start before) (notes.history before) (notes.history n1) number c drawn_here

      short_desk : whole ≡ false → IsDesk notes.kept (notes.start after) (notes.history after) (notes.was after) j built cut kept
      short_desk is = advanced (notes.history n2) (notes.was n2) built cut after both (longer_cuts cut inv.cut_cuts)
          (λ n e all. inv.last_lanes n e (still_whole is n e all)) (inv.last_register ∙ sym same_register) inv.far same_start noted.history noted.was

      whole_cut : whole ≡ true → IsWholeCut notes.kept.service (notes.history n2) number c
      whole_cut is = record {
        drawn = in_longer _ _ _ each_here.advances.longer.register
            (draws_it notes.kept.service (notes.start before) (notes.history before) (notes.history n1) number c drawn_here);
        everywhere = each_here.cut is;
      }

      -- what is kept reaches no farther than the cut that was drawn last
      kept_below : kept.c ≤ c
      kept_below = ⊎_elim (λ (none : kept.c ≡ 0). omega arith)
          (λ some. drawn_last notes.kept.service (notes.start before) (notes.history before) (notes.history n1) number c drawn_here some.0 kept.c
          (each_here.drawn some.0 kept.c some.1.drawn))
          (longer_cuts kept inv.kept_cuts).c

      whole_desk : whole ≡ true → IsDesk notes.kept (notes.start after) (notes.history after) (notes.was after) j built (record cut { c = c }) kept
      whole_desk is = let far = inv.far.p in advanced (notes.history n2) (notes.was n2) built (record cut { c = c }) after both
          (record { c = inr (number, whole_cut is); p = (longer_cuts cut inv.cut_cuts).p })
          (λ n e all. drawn_last notes.kept.service (notes.start before) (notes.history before) (notes.history n1) number c drawn_here n e (each_here.drawn n e all.drawn))
          (inv.last_register ∙ sym same_register) (record { c = kept_below; p = far }) same_start noted.history noted.was

      lanes_legal : IsLegal notes.kept.service (notes.start before) (notes.history after)
      lanes_legal = subst (IsLegal notes.kept.service (notes.start before)) (sym noted.history) both.legal

      lanes_longer : IsPrefix (notes.history before) (notes.history after)
      lanes_longer = subst (IsPrefix (notes.history before)) (sym noted.history) both.longer

      lanes_places : places (notes.history before).register ≤ c
      lanes_places =
          let few = places_at notes.kept.service (notes.start before) (notes.history before) (notes.history n1) _ drawn_here.step in
          let is = drawn_here.c_is in omega arith

      lanes_keepings : (notes.history after).keepings ≡ (notes.history before).keepings
      lanes_keepings = ap (λ (h : History notes.kept.service). h.keepings) noted.history ∙ both.keepings

      lanes_order : whole ≡ true → CutsLanes notes.kept.service (notes.history before) (notes.history after) number c
      lanes_order is = record {
        register = ap (λ (h : History notes.kept.service). cuts_of_register h.register) noted.history ∙ each_here.uncut
            ∙ register_more notes.kept.service (notes.start before) (notes.history before) (notes.history n1) (DrawnCut number c) drawn_here.step;
        lanes = λ l few. ap (λ (h : History notes.kept.service). cuts_of_lane (h.lane l)) noted.history ∙ each_here.once is l few
            ∙ ap (λ (zs : LaneList notes.kept.service). zs ++ WasCut number c true ∷ [])
            (lanes_same notes.kept.service (notes.start before) (notes.history before) (notes.history n1) (DrawnCut number c) drawn_here.step l);
      }

      pub lanes_are_cut : AreLanesCut notes j building built cut kept before after whole c
      lanes_are_cut = record {
        start = same_start;
        legal = lanes_legal;
        longer = lanes_longer;
        keepings = lanes_keepings;
        places_are = lanes_places;
        owes = λ since owes. advanced_owes (notes.history n2) (notes.was n2) built since after both same_start noted.history noted.was owes;
        short = short_desk;
        order = λ is. (number, lanes_order is);
        well = whole_desk;
      }

    -- ---- the register's cut

    module _ (built : List Record) (found : Bool) (p : ℕ) (n0 n1 after : N) (at : AreAlike notes before n0)
        (cuts : TakesRegisterCut notes.kept (notes.start n0) (notes.history n0) (notes.history n1) p found building built)
        (first : notes.start n1 ≡ notes.start n0) (first_was : notes.was n1 ≡ notes.was n0) (noted : AreAlike notes after n1) where
      register_start : notes.start after ≡ notes.start before
      register_start = noted.start ∙ first ∙ sym at.start

      cuts_here : TakesRegisterCut notes.kept (notes.start before) (notes.history before) (notes.history n1) p found building built
      cuts_here = subst (λ (x : World notes.kept.service × History notes.kept.service). TakesRegisterCut notes.kept x.0 x.1 (notes.history n1) p found building built)
          (λ i. (sym at.start i, sym at.history i)) cuts

      advance : Advances notes.kept (notes.start before) (notes.history before) (notes.history n1) (notes.was before) (notes.was n1) building built
      advance = registers_advance notes.kept (notes.start before) (notes.history before) (notes.history n1) (notes.was before) (notes.was n1) p found building built
          inv.legal (first_was ∙ sym at.was) cuts_here

      more_cuts : (reach : Reach) → IsOfCuts notes.kept.service (notes.history before) reach → IsOfCuts notes.kept.service (notes.history n1) reach
      more_cuts reach of_cuts =
          cuts_longer notes.kept.service (contents notes.kept) (notes.start before) (notes.history before) (notes.history n1) advance.legal advance.longer reach of_cuts

      last_before : (n e : ℕ) → IsWholeCut notes.kept.service (notes.history n1) n e → e ≤ cut.c
      last_before n e all =
          inv.last_lanes n e (registers_whole notes.kept (notes.start before) (notes.history before) (notes.history n1) p building built n e found cuts_here all)

      uncut_desk : found ≡ false → IsDesk notes.kept (notes.start after) (notes.history after) (notes.was after) j built cut kept
      uncut_desk is = advanced (notes.history n1) (notes.was n1) built cut after advance (more_cuts cut inv.cut_cuts) last_before
          (inv.last_register ∙ sym (register_same notes.kept (notes.start before) (notes.history before) (notes.history n1) p building built
          (subst (λ (b : Bool). TakesRegisterCut notes.kept (notes.start before) (notes.history before) (notes.history n1) p b building built) is cuts_here)))
          inv.far register_start noted.history noted.was

      found_here : found ≡ true → TakesRegisterCut notes.kept (notes.start before) (notes.history before) (notes.history n1) p true building built
      found_here is =
          subst (λ (b : Bool). TakesRegisterCut notes.kept (notes.start before) (notes.history before) (notes.history n1) p b building built) is cuts_here

      last_seen : found ≡ true → last_cut None (notes.history n1).register ≡ Some p
      last_seen is = register_last notes.kept (notes.start before) (notes.history before) (notes.history n1) p building built (found_here is)

      last_is : found ≡ true → last_cut None (notes.history after).register ≡ Some p
      last_is is = ap (λ (h : History notes.kept.service). last_cut None h.register) noted.history ∙ last_seen is

      kept_before : found ≡ true → kept.p ≤ p
      kept_before is = ⊎_elim (λ (none : kept.p ≡ 0). omega arith)
          (λ here. register_is_earlier notes.kept.service (notes.start before).register p kept.p true (notes.history n1).register advance.legal.register (last_seen is) here)
          (more_cuts kept inv.kept_cuts).p

      recut_desk : found ≡ true → IsDesk notes.kept (notes.start after) (notes.history after) (notes.was after) j built (record cut { p = p }) kept
      recut_desk is = let far = inv.far.c in advanced (notes.history n1) (notes.was n1) built (record cut { p = p }) after advance
          (record {
            c = (more_cuts cut inv.cut_cuts).c;
            p = inr (register_in notes.kept (notes.start before) (notes.history before) (notes.history n1) p building built (found_here is));
          })
          last_before (sym (register_now notes.kept (notes.start before) (notes.history before) (notes.history n1) p building built (found_here is)))
          (record { c = far; p = kept_before is }) register_start noted.history noted.was

      register_legal : IsLegal notes.kept.service (notes.start before) (notes.history after)
      register_legal = subst (IsLegal notes.kept.service (notes.start before)) (sym noted.history) advance.legal

      register_longer : IsPrefix (notes.history before) (notes.history after)
      register_longer = subst (IsPrefix (notes.history before)) (sym noted.history) advance.longer

      register_places : places (notes.history before).register ≤ p
      register_places =
          let few = places_at notes.kept.service (notes.start before) (notes.history before) (notes.history n1) _ cuts_here.step in
          let is = cuts_here.p_is in omega arith

      register_keepings : (notes.history after).keepings ≡ (notes.history before).keepings
      register_keepings = ap (λ (h : History notes.kept.service). h.keepings) noted.history ∙ advance.keepings

      register_order : found ≡ true → CutsRegister notes.kept.service (notes.history before) (notes.history after) p
      register_order is = let step = (found_here is).step in record {
        register = ap (λ (h : History notes.kept.service). cuts_of_register h.register) noted.history
            ∙ register_more notes.kept.service (notes.start before) (notes.history before) (notes.history n1) (RegisterCut p true) step;
        lanes = λ l. ap (λ (h : History notes.kept.service). cuts_of_lane (h.lane l)) noted.history
            ∙ lanes_same notes.kept.service (notes.start before) (notes.history before) (notes.history n1) (RegisterCut p true) step l;
      }

      pub register_is_cut : IsRegisterCut notes j building built cut kept before after found p
      register_is_cut = record {
        start = register_start;
        legal = register_legal;
        longer = register_longer;
        keepings = register_keepings;
        places_are = register_places;
        owes = λ since owes. advanced_owes (notes.history n1) (notes.was n1) built since after advance register_start noted.history noted.was owes;
        short = uncut_desk;
        order = register_order;
        well = recut_desk;
        last = last_is;
      }

-- ---- over as many lanes as the desk has, which each step of the callers' side leaves

module _ {D N : Type 0} {met : Ghosts D} (family : Notes N) (lanes : ℕ) (j : Journal D met) (building : List Record) (cut kept : Reach) (before : N)
    (inv : IsDesk (family.kept lanes) (family.start lanes before) (family.history lanes before) (family.was lanes before) j building cut kept)
    (idle : pending_of j ≡ None) where
  pub lanes_are_cut_over : (built : List Record) (whole : Bool) (number c : ℕ) (n0 n1 n2 after : N) (l l1 l2 : ℕ)
      → l ≡ lanes → l1 ≡ l → l2 ≡ l1 → AreAlike (at_lanes family lanes) before n0
      → DrawsCut (family.kept l).service (family.start l n0) (family.history l n0) (family.history l n1) number c
      → family.start l n1 ≡ family.start l n0 → family.was l n1 ≡ family.was l n0
      → CutsEach (family.kept l1) (family.start l1 n1) (family.history l1 n1) (family.history l1 n2) (family.was l1 n1) (family.was l1 n2) number c
      (family.kept l1).service.lanes whole building built
      → family.start l1 n2 ≡ family.start l1 n1 → AreAlike (at_lanes family l2) after n2
      → AreLanesCut (at_lanes family lanes) j building built cut kept before after whole c
  lanes_are_cut_over built whole number c n0 n1 n2 after l l1 l2 e e1 e2 at draws first first_was each second noted =
      let f1 : l1 ≡ lanes = e1 ∙ e in
      let f2 : l2 ≡ lanes = e2 ∙ f1 in
      lanes_are_cut (at_lanes family lanes) j building cut kept before inv idle built whole number c n0 n1 n2 after at
      (subst (λ (m : ℕ). DrawsCut (family.kept m).service (family.start m n0) (family.history m n0) (family.history m n1) number c) e draws)
      (subst (λ (m : ℕ). family.start m n1 ≡ family.start m n0) e first) (subst (λ (m : ℕ). family.was m n1 ≡ family.was m n0) e first_was)
      (subst (λ (m : ℕ). CutsEach (family.kept m) (family.start m n1) (family.history m n1) (family.history m n2) (family.was m n1) (family.was m n2)
      number c (family.kept m).service.lanes whole building built) f1 each)
      (subst (λ (m : ℕ). family.start m n2 ≡ family.start m n1) f1 second) (subst (λ (m : ℕ). AreAlike (at_lanes family m) after n2) f2 noted)

  pub register_is_cut_over : (built : List Record) (found : Bool) (p : ℕ) (n0 n1 after : N) (l l1 : ℕ)
      → l ≡ lanes → l1 ≡ l → AreAlike (at_lanes family lanes) before n0
      → TakesRegisterCut (family.kept l) (family.start l n0) (family.history l n0) (family.history l n1) p found building built
      → family.start l n1 ≡ family.start l n0 → family.was l n1 ≡ family.was l n0 → AreAlike (at_lanes family l1) after n1
      → IsRegisterCut (at_lanes family lanes) j building built cut kept before after found p
  register_is_cut_over built found p n0 n1 after l l1 e e1 at cuts first first_was noted =
      let f1 : l1 ≡ lanes = e1 ∙ e in
      register_is_cut (at_lanes family lanes) j building cut kept before inv idle built found p n0 n1 after at
      (subst (λ (m : ℕ). TakesRegisterCut (family.kept m) (family.start m n0) (family.history m n0) (family.history m n1) p found building built) e cuts)
      (subst (λ (m : ℕ). family.start m n1 ≡ family.start m n0) e first) (subst (λ (m : ℕ). family.was m n1 ≡ family.was m n0) e first_was)
      (subst (λ (m : ℕ). AreAlike (at_lanes family m) after n1) f1 noted)
