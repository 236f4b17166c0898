-- What was cut tells the lists' last cuts, as the lists grow.
use Rattle.std.proofs.Common.{◌≡◌, ◌≢◌, inl, inr, ⊎_elim, ℕ, ◌<◌, true, false, [], ◌∷◌, ◌++◌, length, take, Some, None, refl, ap, sym, ◌∙◌, subst, arith, append_assoc, length-append}
use Rattle.std.specs.List.{AllByRecursion}
use Rattle.lane_histories.specs.Services.{Service, World}
use Rattle.lane_histories.specs.Histories.{History, IsIn, cut_of, register_after, register_at, objects_after, places, tickets, RegisterItem, DrawnCut, RegisterCut, LaneItem, Passed, WasCut, RegisterList, LaneList, TicketList}
use Rattle.lane_histories.specs.Legal.{IsLegal, with_register_item, with_lane_item}
use Rattle.lane_histories.specs.Kept.{IsBelow}
use Rattle.lane_histories.specs.Cuts.{objects_at_cut, register_cut, register_cut_from, GoesOn, IsNoCut}
use Rattle.lane_histories.specs.JournalContents.{JournalContents, KeepsCatalogue, KeepsLane, TellsCuts}
use Rattle.lane_histories.specs.Laws.{CutPairsAreKept, CutsStayTold}
use Rattle.lane_histories.proofs.Growth.{below_cut}
use Rattle.lane_histories.proofs.Orders.{in_tickets}
use Rattle.lane_histories.proofs.Lists.{all_at, all_both, all_in, in_either, in_front, take_all, take_front}
use Rattle.lane_histories.proofs.Orders.{InOrder, behind, lane_ordered}
use Rattle.lane_histories.proofs.RegisterLists.{cut_was_drawn}
use Rattle.lane_histories.proofs.LaneLists.{at_each, objects_push}
use Rattle.lane_histories.proofs.Sound.{Backing, BuiltLane}
use Rattle.lane_histories.proofs.Batches.{built_tells}
use Rattle.lane_histories.proofs.CutLemmas.{last_is_register, objects_cut_now, objects_cut_stays}
use Rattle.lane_histories.proofs.LastCuts.{catalogue_at_item, catalogue_goes_on, catalogue_now, objects_go_on}

module _ (s : Service) (j : JournalContents s) (start : World s) where
  -- ---- as the history grows

  pub told_goes_on : (h g : History s) (x : j.Content) → IsLegal s start h → GoesOn h g → TellsCuts s j start h x → TellsCuts s j start g x
  told_goes_on h g x legal on b = record {
    lanes = λ l few. subst (j.TellsLane x l) (sym (objects_go_on s start h g l on)) (b.lanes l few);
    catalogue = subst (j.TellsCatalogue x) (sym (catalogue_goes_on s start h g legal.register on)) b.catalogue;
  }

  module _ (h : History s) (legal : IsLegal s start h) where
    -- an item of the register that isn't a register cut with memory
    pub told_at_register : (i : RegisterItem s.Asked s.Verdict) (x : j.Content)
        → register_cut_from (register_cut h.register) (i ∷ []) ≡ register_cut h.register → TellsCuts s j start h x
        → TellsCuts s j start (with_register_item h i) x
    told_at_register i x same b =
        record { lanes = b.lanes; catalogue = subst (j.TellsCatalogue x) (sym (catalogue_at_item s start h.register i legal.register same)) b.catalogue }

    pub told_with_register : (x y : j.Content) → ((l : ℕ) → KeepsLane j l x y)
        → j.TellsCatalogue y (s.catalogue (register_after s start.register h.register)) → TellsCuts s j start h x
        → TellsCuts s j start (with_register_item h (RegisterCut (places h.register) true)) y
    told_with_register x y keeps own b =
        record { lanes = λ l few. keeps l _ (b.lanes l few); catalogue = subst (j.TellsCatalogue y) (sym (catalogue_now s start h.register)) own }

    pub told_with_lane : (l number c : ℕ) (x y : j.Content)
        → (l < s.lanes → j.TellsLane y l (objects_after s (start.objects l) (h.lane l))) → ((m : ℕ) → m ≢ l → KeepsLane j m x y)
        → KeepsCatalogue j x y
        → TellsCuts s j start h x → TellsCuts s j start (with_lane_item h l (WasCut number c true)) y
    told_with_lane l number c x y own others catalogue b =
        let item : LaneItem s.Task s.Reply = WasCut number c true in
        record {
          lanes = at_each l (h.lane l ++ item ∷ []) h.lane (λ m items. m < s.lanes → j.TellsLane y m (objects_at_cut s (start.objects m) items))
              (λ few. subst (j.TellsLane y l) (sym (objects_cut_now s (start.objects l) (start.objects l) (h.lane l) number c)) (own few))
              (λ m other few. others m other _ (b.lanes m few));
          catalogue = catalogue _ b.catalogue;
        }

    pub told_with_short : (l number c : ℕ) (x : j.Content) → TellsCuts s j start h x
        → TellsCuts s j start (with_lane_item h l (WasCut number c false)) x
    told_with_short l number c x b =
        let item : LaneItem s.Task s.Reply = WasCut number c false in
        record {
          lanes = at_each l (h.lane l ++ item ∷ []) h.lane (λ m items. m < s.lanes → j.TellsLane x m (objects_at_cut s (start.objects m) items))
              (λ few. subst (j.TellsLane x l) (sym (objects_cut_stays s (start.objects l) (start.objects l) (h.lane l) (item ∷ []) (tt, tt))) (b.lanes l few))
              (λ m other few. b.lanes m few);
          catalogue = b.catalogue;
        }

  -- ---- what was cut backs a batch

  -- no item is a cut that found memory; or one is the last that is
  data LastCut (items : LaneList s) : Type 0 where
    none_found : AllByRecursion IsNoCut items → LastCut items
    found_at : (front back : LaneList s) (number c : ℕ) → items ≡ front ++ WasCut number c true ∷ back → AllByRecursion IsNoCut back
        → LastCut items

  behind_item : (i : LaneItem s.Task s.Reply) (items : LaneList s) → LastCut items → LastCut (i ∷ items)
  behind_item i items (found_at front back number c is all) = found_at (i ∷ front) back number c (ap (λ l. i ∷ l) is) all
  behind_item (Passed place part task y) items (none_found all) = none_found (tt, all)
  behind_item (WasCut number c true) items (none_found all) = found_at [] items number c refl all
  behind_item (WasCut number c false) items (none_found all) = none_found (tt, all)

  last_cut_in : (items : LaneList s) → LastCut items
  last_cut_in [] = none_found tt
  last_cut_in (i ∷ items) = behind_item i items (last_cut_in items)

  module _ (list : RegisterList s) (x : j.Content) (l : ℕ) where
    lane_by : (items : LaneList s) → InOrder (tickets items)
        → ((number c : ℕ) → IsIn items (WasCut number c true) → IsIn list (DrawnCut number c))
        → (l < s.lanes → j.TellsLane x l (objects_at_cut s (start.objects l) items)) → LastCut items
        → BuiltLane s j start list x l items false
    lane_by items order were_drawn told (none_found all) = record {
      k = 0;
      few = omega arith;
      told = λ few whole. subst (j.TellsLane x l) (objects_cut_stays s (start.objects l) (start.objects l) [] items all) (told few);
      cuts = λ number c here. absurd (all_at _ items (WasCut number c true) all here);
      below = inl refl;
    }
    lane_by items order were_drawn told (found_at front back number c is all) =
        subst (λ (ys : LaneList s). BuiltLane s j start list x l ys false) (sym split) built where
          item : LaneItem s.Task s.Reply
          item = WasCut number c true

          whole : LaneList s
          whole = front ++ item ∷ []

          split : items ≡ whole ++ back
          split = is ∙ sym (append_assoc front (item ∷ []) back)

          first : take (length whole) (whole ++ back) ≡ whole
          first = take_front (length whole) whole back (omega arith) ∙ take_all whole

          as_cut : objects_at_cut s (start.objects l) items ≡ objects_after s (start.objects l) whole
          as_cut = ap (objects_at_cut s (start.objects l)) split ∙ objects_cut_stays s (start.objects l) (start.objects l) whole back all ∙ objects_cut_now s (start.objects l) (start.objects l) front number c
              ∙ sym (objects_push s (start.objects l) front item)

          its_order : InOrder (tickets (front ++ item ∷ back))
          its_order = subst (λ (ys : LaneList s). InOrder (tickets ys)) is order

          all_below : AllByRecursion (IsBelow c) whole
          all_below = all_both _ front (item ∷ []) (all_in _ front (λ y here. below_cut s number c y (behind s front (item ∷ back) y its_order here).0)) (tt, tt)

          here : IsIn items (WasCut number c true)
          here = subst (λ (ys : LaneList s). IsIn ys item) (sym split) (in_front whole back item (in_last_place front))
            where
              in_last_place : (ys : LaneList s) → IsIn (ys ++ item ∷ []) item
              in_last_place [] = inl refl
              in_last_place (y ∷ ys) = inr (in_last_place ys)

          built : BuiltLane s j start list x l (whole ++ back) false
          built = let long = length-append whole back in record {
            k = length whole;
            few = omega arith;
            told = λ few torn. rw first (subst (j.TellsLane x l) as_cut (told few));
            cuts = λ n e there. rw first (⊎_elim (λ in_whole. in_whole) (λ in_back. absurd (all_at _ back (WasCut n e true) all in_back)) (in_either whole back (WasCut n e true) there));
            below = inr (number, c, were_drawn number c here, rw first all_below);
          }

  pub backing_of : (h : History s) (x : j.Content) → IsLegal s start h → TellsCuts s j start h x → Backing s j start h x (λ l. false)
  backing_of h x legal b = record {
    lanes = λ l. lane_by h.register x l (h.lane l) (lane_ordered s start h l legal) (were_drawn l) (b.lanes l) (last_cut_in (h.lane l));
    register = λ q is. subst (λ (p : ℕ). j.TellsCatalogue x (s.catalogue (register_at s p start.register h.register))) (last_is_register s None 0 q h.register (λ never. absurd (no q never)) is) b.catalogue;
  }
    where
      no : (q : ℕ) → None ≡ Some q → ⊥
      no q e = cc

      were_drawn : (l number c : ℕ) → IsIn (h.lane l) (WasCut number c true) → IsIn h.register (DrawnCut number c)
      were_drawn l number c here =
          let starts = legal.in_order l in
          cut_was_drawn s l number c h.register (subst (λ (ts : TicketList s). IsIn ts (cut_of number c)) (sym starts.1) (in_front (tickets (h.lane l)) starts.0 (cut_of number c) (in_tickets s (h.lane l) (WasCut number c true) here)))

pub cut_pairs_are_kept : (s : Service) (j : JournalContents s) → CutPairsAreKept s j
cut_pairs_are_kept s j start h x reach legal told cut register =
    built_tells s j start h legal x (λ l. false) (backing_of s j start h x legal told) reach cut register (λ l few. refl)

pub cuts_stay_told : (s : Service) (j : JournalContents s) → CutsStayTold s j
cuts_stay_told s j start h g x legal on told = told_goes_on s j start h g x legal on told
