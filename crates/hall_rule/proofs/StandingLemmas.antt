-- A machine that stands for its list stands for it still as the lists grow.
use Rattle.std.proofs.Common.{◌≡◌, inl, inr, ⊎_elim, ℕ, ◌<◌, true, false, [], ◌∷◌, ◌++◌, refl, replicate, set, sym, ap, ◌∙◌, subst, arith}
use Rattle.std.specs.List.{AllByRecursion}
use Rattle.std.specs.Prelude.{length}
use mathlib.Core.Option.{some}
use lib.ListN.{get_elem?}
use Rattle.lane_histories.specs.Services.{Service}
use Rattle.lane_histories.specs.Histories.{IsIn, LaneList, RegisterList, drawn, objects_after, objects_step, places, register_after}
use Rattle.lane_histories.specs.Histories.{register_at, register_step}
use Rattle.lane_histories.specs.Legal.{IsPrefix, IsLegalRegister, IsLegalRegisterItem}
use Rattle.lane_histories.specs.Cuts.{GoesOn, IsEntry, IsNoCut, behind_cut, register_cut}
use Rattle.lane_histories.specs.KeptContents.{IsAsFar}
use Rattle.lane_histories.specs.declared.items.Answer.TheVariants.{Kept}
use Rattle.lane_histories.specs.declared.items.Keeping.{Keeping}
use Rattle.lane_histories.specs.declared.items.LaneItem.{LaneItem}
use Rattle.lane_histories.specs.declared.items.LaneItem.TheVariants.{Passed, WasCut}
use Rattle.lane_histories.specs.declared.items.RegisterItem.{RegisterItem}
use Rattle.lane_histories.specs.declared.items.RegisterItem.TheVariants.{Entered, DrawnCut, RegisterCut}
use Rattle.lane_histories.proofs.CutLemmas.{behind_found, behind_passed, behind_short, objects_cut_now, objects_cut_stays, register_cut_few, register_cut_push}
use Rattle.lane_histories.proofs.Growth.{at_longer}
use Rattle.lane_histories.proofs.LaneLists.{objects_push}
use Rattle.lane_histories.proofs.Lists.{all_both, all_weaker, in_last}
use Rattle.lane_histories.proofs.RegisterLists.{at_end, register_after_push}
use Rattle.hall_rule.specs.declared.queue.Queue.{Queue}
use Rattle.hall_rule.specs.declared.queue.Queue.TheVariants.{OfRegister, OfDesk, OfLane}
use Rattle.hall_rule.specs.declared.slot.Slot.TheVariants.{Away, AtRegister, AtDesk, AtLane}
use Rattle.hall_rule.specs.declared.view.Start.{Start}
use Rattle.hall_rule.specs.Seen.{GrowsFrom, GrowsUncut, IsNoLaneCut, IsNoRegisterCut, SameList, SeenLists, at_desk, history_of, nothing}
use Rattle.hall_rule.specs.Seen.{at_lane, lane_of, pushed}
use Rattle.hall_rule.specs.Machines.{Machines, objects_in}
use Rattle.hall_rule.specs.Standing.{HallSlot, IsDeskOf, IsItsKeeping, IsOwnerOf, IsRegisterOf, MarksLane, MarksRegister, StandsFor}
use Rattle.hall_rule.specs.Standing.{IsFresh, IsFreshDesk, catalogue_cut, lane_cut}
use Rattle.atomic_table.proofs.Lists.{set_here}
use Rattle.hall_rule.proofs.SeenLemmas.{goes_pushed, goes_refl, goes_trans, lane_nothing, lane_set_same, there_below}

-- ---- lists that go on, as histories

no_cut_is_entry : {Q V : Type 0} (i : RegisterItem Q V) → IsNoRegisterCut i → IsEntry i
no_cut_is_entry (Entered e) none = tt
no_cut_is_entry (DrawnCut number c) none = absurd (cc)
no_cut_is_entry (RegisterCut p found) none = absurd (cc)

no_cut_is_turn : {T R : Type 0} (i : LaneItem T R) → IsNoLaneCut i → IsNoCut i
no_cut_is_turn (Passed place part task y) none = tt
no_cut_is_turn (WasCut number c found) none = absurd (cc)

pub longer_history : (service : Service) {N : Type 0} (h g : SeenLists service N) → GrowsFrom h g → IsPrefix (history_of service g) (history_of service h)
longer_history service h g longer = record { register = longer.register; lane = longer.lanes; keepings = longer.keepings }

pub goes_on : (service : Service) {N : Type 0} (h g : SeenLists service N) → GrowsUncut h g → GoesOn (history_of service g) (history_of service h)
goes_on service h g uncut = record {
  longer = record {
    register = (uncut.register.0, uncut.register.1);
    lane = λ l. let more = uncut.lanes l in (more.0, more.1);
    keepings = uncut.longer.keepings;
  };
  entries = all_weaker _ _ uncut.register.0 no_cut_is_entry uncut.register.2;
  turns = λ l. all_weaker _ _ (uncut.lanes l).0 no_cut_is_turn (uncut.lanes l).2;
}

module _ {service : Service} {M N P E : Type 0} (m : Machines service M N P E) (start : Start M N E) where
  -- ---- the register, with one item more

  cut_before : (items : RegisterList service) (i : RegisterItem service.Asked service.Verdict)
      → IsLegalRegister service (m.register start.register) 0 0 items → register_cut (items ++ i ∷ []) ≡ register_cut items
      → catalogue_cut m start (items ++ i ∷ []) ≡ catalogue_cut m start items
  cut_before items i legal same =
      let d = m.register start.register in
      ap (λ (n : ℕ). service.catalogue (register_at service n d (items ++ i ∷ []))) same
      ∙ at_longer service (register_cut items) d items (i ∷ []) (register_cut_few service d items legal)

  cut_now : (items : RegisterList service) (p : ℕ) → p ≡ places items
      → catalogue_cut m start (items ++ RegisterCut p true ∷ [])
      ≡ service.catalogue (register_after service (m.register start.register) items)
  cut_now items p is =
      let d = m.register start.register in
      let i : RegisterItem service.Asked service.Verdict = RegisterCut p true in
      ap (λ (n : ℕ). service.catalogue (register_at service n d (items ++ i ∷ []))) (register_cut_push service 0 items i ∙ is)
      ∙ at_longer service (places items) d items (i ∷ []) (omega arith) ∙ ap service.catalogue (at_end service d items)

  still_since : (items : RegisterList service) (old new : M) (i : RegisterItem service.Asked service.Verdict)
      → IsRegisterOf m start items old → IsLegalRegister service (m.register start.register) 0 0 items
      → IsLegalRegisterItem service (register_after service (m.register start.register) items) (places items) (drawn items) i
      → MarksRegister m i old new → m.RegisterIsSince new (catalogue_cut m start (items ++ i ∷ []))
  still_since items old new (Entered e) is legal may marks =
      subst (m.RegisterIsSince new) (sym (cut_before items (Entered e) legal (register_cut_push service 0 items (Entered e))))
      (marks (catalogue_cut m start items) is.since)
  still_since items old new (DrawnCut number c) is legal may marks =
      subst (m.RegisterIsSince new) (sym (cut_before items (DrawnCut number c) legal
      (register_cut_push service 0 items (DrawnCut number c))))
      (marks (catalogue_cut m start items) is.since)
  still_since items old new (RegisterCut p true) is legal may marks =
      subst (m.RegisterIsSince new) (ap service.catalogue is.now ∙ sym (cut_now items p may)) marks
  still_since items old new (RegisterCut p false) is legal may marks =
      subst (m.RegisterIsSince new) (sym (cut_before items (RegisterCut p false) legal
      (register_cut_push service 0 items (RegisterCut p false))))
      (marks (catalogue_cut m start items) is.since)

  pub register_pushed_on : (items : RegisterList service) (old new : M) (i : RegisterItem service.Asked service.Verdict)
      → IsRegisterOf m start items old → IsLegalRegister service (m.register start.register) 0 0 items
      → IsLegalRegisterItem service (register_after service (m.register start.register) items) (places items) (drawn items) i
      → m.register new ≡ register_step service (m.register old) i → MarksRegister m i old new
      → IsRegisterOf m start (items ++ i ∷ []) new
  register_pushed_on items old new i is legal may went marks = record {
    now = went ∙ ap (λ (x : service.Register). register_step service x i) is.now
        ∙ sym (register_after_push service (m.register start.register) items i);
    since = still_since items old new i is legal may marks;
  }

  -- ---- an owner, with one item more of its lane

  module _ (h : SeenLists service N) (lane : ℕ) (old new : N) (there : lane < length h.lanes) (is : IsOwnerOf m start h lane old) where
    abbrev items : LaneList service
    items = lane_of h.lanes lane

    longer : (i : LaneItem service.Task service.Reply) → lane_of (set h.lanes lane (items ++ i ∷ [])) lane ≡ items ++ i ∷ []
    longer i = lane_set_same h.lanes lane (items ++ i ∷ []) there

    now_with : (i : LaneItem service.Task service.Reply) → m.owner new ≡ objects_step service (m.owner old) i
        → m.owner new ≡ objects_after service (objects_in m start.owners lane) (lane_of (set h.lanes lane (items ++ i ∷ [])) lane)
    now_with i went = went ∙ ap (λ (o : service.Objects). objects_step service o i) is.now
        ∙ sym (objects_push service (objects_in m start.owners lane) items i)
        ∙ sym (ap (objects_after service (objects_in m start.owners lane)) (longer i))

    -- its last cut stays
    had_with : (i : LaneItem service.Task service.Reply) → AllByRecursion IsNoCut (i ∷ [])
        → m.owner is.was ≡ lane_cut m start lane (lane_of (set h.lanes lane (items ++ i ∷ [])) lane)
    had_with i none =
        let o = objects_in m start.owners lane in
        is.had ∙ sym (objects_cut_stays service o o items (i ∷ []) none) ∙ sym (ap (lane_cut m start lane) (longer i))

    pub owner_pushed_on : (i : LaneItem service.Task service.Reply) → m.owner new ≡ objects_step service (m.owner old) i
        → MarksLane m lane i old new → IsOwnerOf m start (pushed h (at_lane lane i new)) lane new
    owner_pushed_on (Passed place part task y) went marks = record {
      now = now_with (Passed place part task y) went;
      was = is.was;
      was_is = is.was_is;
      had = had_with (Passed place part task y) (tt, tt);
      since = subst (λ (xs : LaneList service). m.OwnerIsSince new lane xs is.was)
          (sym (ap behind_cut (longer (Passed place part task y)) ∙ behind_passed service [] items place part task y))
          (marks (behind_cut items) is.was is.since);
    }
    owner_pushed_on (WasCut number c true) went marks =
        let o = objects_in m start.owners lane in record {
          now = now_with (WasCut number c true) went;
          was = new;
          was_is = set_here h.was lane new (there_below h.was lane is.was is.was_is);
          had = went ∙ is.now ∙ sym (objects_cut_now service o o items number c)
              ∙ sym (ap (lane_cut m start lane) (longer (WasCut number c true)));
          since = subst (λ (xs : LaneList service). m.OwnerIsSince new lane xs new)
              (sym (ap behind_cut (longer (WasCut number c true)) ∙ behind_found service [] items number c)) marks;
        }
    owner_pushed_on (WasCut number c false) went marks = record {
      now = now_with (WasCut number c false) went;
      was = is.was;
      was_is = is.was_is;
      had = had_with (WasCut number c false) (tt, tt);
      since = subst (λ (xs : LaneList service). m.OwnerIsSince new lane xs is.was)
          (sym (ap behind_cut (longer (WasCut number c false)) ∙ behind_short service [] items number c))
          (marks (behind_cut items) is.was is.since);
    }

  -- ---- the desk

  -- others asked and took turns
  pub desk_on : (h g : SeenLists service N) (d : P) → GrowsUncut h g → h.keepings ≡ g.keepings → IsDeskOf m start g d → IsDeskOf m start h d
  desk_on h g d goes same is = record {
    since = is.since;
    register = is.register;
    owners = is.owners;
    uncut = goes_trans h g (m.note d) goes is.uncut;
    far = subst (λ ks. AllByRecursion (λ k. IsAsFar k.own (m.reach d)) ks) (sym same) is.far;
    told = subst (m.HasTold d start.desk) (sym same) is.told;
    kept = λ k here. is.kept k (subst (λ ks. IsIn ks k) same here);
  }

  -- its note was brought up in its turn, which is passed with this item; it reaches no less far
  pub desk_pushed_on : (h g : SeenLists service N) (old new : P) (k : Keeping) → IsDeskOf m start g old → h.keepings ≡ g.keepings
      → ((first : E) → m.DeskIsSince old first → m.DeskIsSince new first) → m.noted_register new ≡ m.noted_register old → m.noted_owners new ≡ m.noted_owners old → GrowsUncut h (m.note new) → (m.note new).keepings ≡ h.keepings
      → IsAsFar (m.reach old) (m.reach new) → IsAsFar k.own (m.reach new)
      → (m.HasTold old start.desk g.keepings → m.HasTold new start.desk (g.keepings ++ k ∷ []))
      → (k.answer ≡ Kept → (k.own ≡ m.reach new) × (k.moment ≡ m.moment new)) → IsDeskOf m start (pushed h (at_desk k)) new
  desk_pushed_on h g old new k is same since register owners goes noted far near tells own = record {
    since = since start.desk is.since;
    register = register ∙ is.register;
    owners = owners ∙ is.owners;
    uncut = goes_trans (pushed h (at_desk k)) h (m.note new) (goes_pushed h (at_desk k) tt refl) goes;
    far = all_both _ h.keepings (k ∷ [])
        (subst (λ ks. AllByRecursion (λ i. IsAsFar i.own (m.reach new)) ks) (sym same)
        (all_weaker _ _ g.keepings (λ (i : Keeping) (near : IsAsFar i.own (m.reach old)).
        let a = near.c in let b = near.p in let c = far.c in let d = far.p in record { c = omega arith; p = omega arith }) is.far))
        (near, tt);
    told = subst (λ ks. m.HasTold new start.desk (ks ++ k ∷ [])) (sym same) (tells is.told);
    kept = λ x here ok. ⊎_elim
        (λ before. inl (subst (λ ks. IsIn ks x) (sym noted) before))
        (λ (it : k ≡ x). subst (IsItsKeeping m start new) it (inr (own (ap (λ (y : Keeping). y.answer) it ∙ ok))))
        (in_last h.keepings k x here);
  }

  -- ---- before anything was done

  pub owner_begun : IsFresh m start → (lane : ℕ) (o : N) → get_elem? start.owners lane ≡ some o
      → m.owner o ≡ objects_in m start.owners lane → IsOwnerOf m start (nothing start.owners) lane o
  owner_begun fresh lane o there same =
      let none : lane_of (replicate (length start.owners) []) lane ≡ (let empty : LaneList service = [] in empty) =
      lane_nothing (length start.owners) lane in record {
        now = same ∙ sym (ap (objects_after service (objects_in m start.owners lane)) none);
        was = o;
        was_is = there;
        had = same ∙ sym (ap (lane_cut m start lane) none);
        since = subst (λ (xs : LaneList service). m.OwnerIsSince o lane xs o) (sym (ap behind_cut none)) (fresh.owners lane o there);
      }

  pub desk_begun : (desk : P) → IsFreshDesk m start desk → IsDeskOf m start (nothing start.owners) desk
  desk_begun desk fresh = record {
    since = fresh.known_by;
    register = fresh.register;
    owners = fresh.owners;
    uncut = subst (GrowsUncut (nothing start.owners)) (sym fresh.note) (goes_refl (nothing start.owners));
    far = tt;
    told = fresh.told;
    kept = λ k here _. absurd here;
  }

  -- ---- whichever

  -- a machine at home stands for its list, whatever joins the other lists; the desk, as long as nobody cuts
  pub stands_on : (q : Queue) (s : HallSlot service M N P) (h h' : SeenLists service N) → SameList q h h' → (q ≡ OfDesk → GrowsUncut h' h)
      → StandsFor m q s start h → StandsFor m q s start h'
  stands_on OfRegister Away h h' same goes ok = absurd ok
  stands_on OfRegister (AtRegister d) h h' same goes ok = subst (λ items. IsRegisterOf m start items d.register) same ok
  stands_on OfRegister (AtDesk d) h h' same goes ok = absurd ok
  stands_on OfRegister (AtLane d) h h' same goes ok = absurd ok
  stands_on OfDesk Away h h' same goes ok = absurd ok
  stands_on OfDesk (AtRegister d) h h' same goes ok = absurd ok
  stands_on OfDesk (AtDesk d) h h' same goes ok = desk_on h' h d (goes refl) (sym same) ok
  stands_on OfDesk (AtLane d) h h' same goes ok = absurd ok
  stands_on (OfLane l) Away h h' same goes ok = absurd ok
  stands_on (OfLane l) (AtRegister d) h h' same goes ok = absurd ok
  stands_on (OfLane l) (AtDesk d) h h' same goes ok = absurd ok
  stands_on (OfLane l) (AtLane d) h h' same goes ok = record {
    now = ok.now ∙ ap (objects_after service (objects_in m start.owners l)) same.0;
    was = ok.was;
    was_is = sym same.1 ∙ ok.was_is;
    had = ok.had ∙ ap (lane_cut m start l) same.0;
    since = subst (λ (xs : LaneList service). m.OwnerIsSince d.owner l (behind_cut xs) ok.was) same.0 ok.since;
  }
