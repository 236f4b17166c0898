-- The turns of a lane keep all sound.
use Rattle.std.proofs.Common.{◌≡◌, ◌≢◌, inl, inr, ℕ, Bool, true, false, [], ◌∷◌, ◌++◌, length, take, refl, ap, sym, ◌∙◌, subst, arith}
use Rattle.std.specs.List.{AllByRecursion}
use Rattle.lane_histories.specs.Services.{Service, World}
use Rattle.lane_histories.specs.Histories.{cut_of, Outcome, LaneItem, Passed, WasCut, ticket_of, IsIn, tickets, issued, objects_left, objects_step, objects_after, LaneList, TicketList}
use Rattle.lane_histories.specs.Legal.{IsReachedBy, IsNext, IsLegalLaneItem}
use Rattle.lane_histories.specs.Kept.{IsBelow}
use Rattle.lane_histories.specs.JournalContents.{JournalContents, KeepsCatalogue, KeepsLane}
use Rattle.lane_histories.specs.Core.{Core, CutsLaneShort, CutsLaneWell, TakesTurn, history, with_built, with_lane}
use Rattle.lane_histories.proofs.Growth.{below_cut}
use Rattle.lane_histories.proofs.Lists.{all_both, all_in, in_back, take_all}
use Rattle.lane_histories.proofs.RegisterLists.{cut_was_drawn}
use Rattle.lane_histories.proofs.LaneLists.{at_both, objects_push}
use Rattle.lane_histories.proofs.Pushes.{earlier, lane_longer, lane_pushed, seconds_pushed}
use Rattle.lane_histories.proofs.Sound.{BuiltLane, IsSound, desk_longer, desk_rebuilt, lane_still_built}

module _ (s : Service) (j : JournalContents s) (start : World s) (core : Core s j) (sound : IsSound s j start core) (l : ℕ) where
  module _ (item : LaneItem s.Task s.Reply) (next : IsNext s (history core) l (ticket_of item))
      (reached : IsReachedBy s (history core) item) (objects : s.Objects) (torn : Bool)
      (may : IsLegalLaneItem s (core.objects l) item) (step : objects ≡ objects_step s (core.objects l) item) where
    item_sound : (built : j.Content) → BuiltLane s j start core.list built l (core.items l ++ item ∷ []) torn
        → ((m : ℕ) → m ≢ l → KeepsLane j m core.desk.built built) → KeepsCatalogue j core.desk.built built
        → IsSound s j start (with_built (with_lane core l item objects torn) built)
    item_sound built lane_built others catalogue =
        let after = with_lane core l item objects torn in
        let legal = lane_pushed s start (history core) sound.legal l item next sound.seconds reached (subst (λ (o : s.Objects). IsLegalLaneItem s o item) (sound.objects l) may) in
        record {
          legal = legal;
          seconds = seconds_pushed s start (history core) sound.legal l item next sound.seconds reached;
          register = sound.register;
          objects = at_both l objects core.objects (core.items l ++ item ∷ []) core.items (λ m o items. o ≡ objects_after s (start.objects m) items)
              (step ∙ ap (λ (o : s.Objects). objects_step s o item) (sound.objects l) ∙ sym (objects_push s (start.objects l) (core.items l) item))
              (λ m other. sound.objects m);
          backing = record {
            lanes = at_both l (core.items l ++ item ∷ []) core.items torn core.torn (λ m items t. BuiltLane s j start core.list built m items t) lane_built
                (λ m other. let b = sound.backing.lanes m in record { k = b.k; few = b.few; told = λ below whole. others m other _ (b.told below whole); cuts = b.cuts; below = b.below });
            register = λ q is. catalogue _ (sound.backing.register q is);
          };
          desk = desk_rebuilt s j start (history after) core.desk built (desk_longer s j start (history core) (history after) legal (lane_longer s start (history core) sound.legal l item next) core.desk sound.desk.keepings sound.desk);
        }

  -- ---- the events

  pub turn_sound : (y : Outcome s.Reply) (new : Core s j) → TakesTurn l y core new → IsSound s j start new
  turn_sound y new turn =
      let item : LaneItem s.Task s.Reply = Passed turn.place turn.part turn.task y in
      let no_cut : (number c : ℕ) → item ≡ WasCut number c true → ⊥ = λ number c same. cc in
      let objects = objects_left s turn.task y (core.objects l) in
      let built = core.desk.built in
      let lane_built = lane_still_built s j start core.list built built l (core.items l) item (core.torn l) (core.torn l) no_cut (λ whole. whole) (λ whole o told. told) (sound.backing.lanes l) in
      subst (IsSound s j start) (sym turn.new_is)
      (item_sound item turn.next turn.reached objects (core.torn l) turn.legal refl built lane_built (λ m other o told. told) (λ catalogue told. told))

  pub cut_sound : (new : Core s j) → CutsLaneWell l core new → IsSound s j start new
  cut_sound new cut =
      let mine = core.items l in
      let item : LaneItem s.Task s.Reply = WasCut cut.number cut.c true in
      let whole : LaneList s = mine ++ item ∷ [] in
      let all : take (length whole) whole ≡ whole = take_all whole in
      let as_it_stands : core.objects l ≡ objects_after s (start.objects l) whole = sound.objects l ∙ sym (objects_push s (start.objects l) mine item) in
      let here : IsIn (issued s l core.list) (cut_of cut.number cut.c) = subst (λ (ts : TicketList s). IsIn ts (cut_of cut.number cut.c)) (sym cut.next.1) (in_back (tickets mine) _ _ (inl refl)) in
      let below : AllByRecursion (IsBelow cut.c) whole =
      all_both _ mine (item ∷ []) (all_in _ mine (λ x is. below_cut s cut.number cut.c x (earlier s start (history core) sound.legal l item cut.next x is))) (tt, tt) in
      let lane_built : BuiltLane s j start core.list cut.built l whole false = record {
        k = length whole;
        few = omega arith;
        told = λ few is. rw all (subst (j.TellsLane cut.built l) as_it_stands cut.cuts.own);
        cuts = λ number c is. rw all is;
        below = inr (cut.number, cut.c, cut_was_drawn s l cut.number cut.c core.list here, rw all below);
      } in
      subst (IsSound s j start) (sym cut.new_is) (item_sound item cut.next tt (core.objects l) false tt refl cut.built lane_built cut.cuts.others cut.cuts.catalogue)

  pub short_cut_sound : (new : Core s j) → CutsLaneShort l core new → IsSound s j start new
  short_cut_sound new cut =
      let item : LaneItem s.Task s.Reply = WasCut cut.number cut.c false in
      let no_cut : (number c : ℕ) → item ≡ WasCut number c true → ⊥ = λ number c same. differ same in
      let lane_built = lane_still_built s j start core.list core.desk.built cut.built l (core.items l) item (core.torn l) cut.torn no_cut cut.stays cut.tears.own (sound.backing.lanes l) in
      subst (IsSound s j start) (sym cut.new_is) (item_sound item cut.next tt (core.objects l) cut.torn tt refl cut.built lane_built cut.tears.others cut.tears.catalogue)
    where
      differ : {a b c d : ℕ} → ◌≡◌ {A = LaneItem s.Task s.Reply} (WasCut a b false) (WasCut c d true) → ⊥
      differ e = let parts : false ≡ true = cc in cc
