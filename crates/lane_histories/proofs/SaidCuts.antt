-- What was cut says each lane as it was at its last cut, as the lists grow.
use Rattle.std.proofs.Common.{◌≡◌, ◌≢◌, ℕ, ◌<◌, true, false, [], ◌∷◌, ◌++◌, sym, ◌∙◌, subst}
use Rattle.lane_histories.specs.Services.{Service, World}
use Rattle.lane_histories.specs.Histories.{History, RegisterItem, RegisterCut, LaneItem, LaneList, WasCut, changed_at, register_after, objects_after, places}
use Rattle.lane_histories.specs.Legal.{IsLegal, with_register_item, with_lane_item}
use Rattle.lane_histories.specs.Cuts.{objects_at_cut, register_cut, register_cut_from}
use Rattle.lane_histories.specs.JournalContents.{JournalContents, KeepsCatalogue}
use Rattle.lane_histories.specs.Since.{CutsStaySaid, KeepsSaid, Marking, SaidCutsTell, SaysCuts}
use Rattle.lane_histories.proofs.CutLemmas.{objects_cut_now, objects_cut_stays}
use Rattle.lane_histories.proofs.LaneLists.{at_both, at_each}
use Rattle.lane_histories.proofs.LastCuts.{catalogue_at_item, catalogue_goes_on, catalogue_now, objects_go_on}

module _ {s : Service} {j : JournalContents s} (m : Marking s j) where
  pub said_cuts_tell : SaidCutsTell m
  said_cuts_tell all start h x was b = record {
    lanes = λ l few. subst (j.TellsLane x l) (b.objects l few) (all x l (was l) (b.still l few) (b.says l few));
    catalogue = b.catalogue;
  }

  pub cuts_stay_said : CutsStaySaid m
  cuts_stay_said start h g x was legal on b = record {
    says = b.says;
    still = b.still;
    objects = λ l few. b.objects l few ∙ sym (objects_go_on s start h g l on);
    catalogue = subst (j.TellsCatalogue x) (sym (catalogue_goes_on s start h g legal.register on)) b.catalogue;
  }

  module _ (start : World s) (h : History s) (legal : IsLegal s start h) (was : ℕ → m.Marked) where
    -- an item of the register that isn't a register cut with memory
    pub said_at_register : (i : RegisterItem s.Asked s.Verdict) (x : j.Content)
        → register_cut_from (register_cut h.register) (i ∷ []) ≡ register_cut h.register → SaysCuts m start h x was
        → SaysCuts m start (with_register_item h i) x was
    said_at_register i x same b = record {
      says = b.says;
      still = b.still;
      objects = b.objects;
      catalogue = subst (j.TellsCatalogue x) (sym (catalogue_at_item s start h.register i legal.register same)) b.catalogue;
    }

    pub said_with_register : (x y : j.Content) → ((l : ℕ) → KeepsSaid m l x y)
        → j.TellsCatalogue y (s.catalogue (register_after s start.register h.register)) → SaysCuts m start h x was
        → SaysCuts m start (with_register_item h (RegisterCut (places h.register) true)) y was
    said_with_register x y keeps own b = record {
      says = λ l few. keeps l (was l) (b.still l few) (b.says l few);
      still = b.still;
      objects = b.objects;
      catalogue = subst (j.TellsCatalogue y) (sym (catalogue_now s start h.register)) own;
    }

    pub said_with_lane : (l number c : ℕ) (now : m.Marked) (x y : j.Content) → m.IsStill now
        → m.objects now ≡ objects_after s (start.objects l) (h.lane l) → (l < s.lanes → m.Says y l now)
        → ((k : ℕ) → k ≢ l → KeepsSaid m k x y) → KeepsCatalogue j x y → SaysCuts m start h x was
        → SaysCuts m start (with_lane_item h l (WasCut number c true)) y (changed_at l now was)
    said_with_lane l number c now x y still objects own others catalogue b =
        let item : LaneItem s.Task s.Reply = WasCut number c true in
        record {
          says = at_each l now was (λ k marked. k < s.lanes → m.Says y k marked) own (λ k other few. others k other (was k) (b.still k few) (b.says k few));
          still = at_each l now was (λ k marked. k < s.lanes → m.IsStill marked) (λ few. still) (λ k other few. b.still k few);
          objects = at_both l now was (h.lane l ++ item ∷ []) h.lane
              (λ k (marked : m.Marked) (items : LaneList s). k < s.lanes → m.objects marked ≡ objects_at_cut s (start.objects k) items)
              (λ few. objects ∙ sym (objects_cut_now s (start.objects l) (start.objects l) (h.lane l) number c)) (λ k other few. b.objects k few);
          catalogue = catalogue _ b.catalogue;
        }

    pub said_with_short : (l number c : ℕ) (x : j.Content) → SaysCuts m start h x was
        → SaysCuts m start (with_lane_item h l (WasCut number c false)) x was
    said_with_short l number c x b =
        let item : LaneItem s.Task s.Reply = WasCut number c false in
        record {
          says = b.says;
          still = b.still;
          objects = at_each l (h.lane l ++ item ∷ []) h.lane (λ k (items : LaneList s). k < s.lanes → m.objects (was k) ≡ objects_at_cut s (start.objects k) items)
              (λ few. b.objects l few ∙ sym (objects_cut_stays s (start.objects l) (start.objects l) (h.lane l) (item ∷ []) (tt, tt))) (λ k other few. b.objects k few);
          catalogue = b.catalogue;
        }
