-- Turns of a lane: a request's part, and the lane's part of a drawn cut.
use Rattle.std.proofs.Common.{◌≡◌, inl, ℕ, ◌<◌, List, [], ◌∷◌, ◌++◌, set, length, Bool, true, false}
use Rattle.std.proofs.Common.{true≢false, Some, refl, sym, ap, ◌∙◌, subst, arith}
use Rattle.std.specs.Prelude.{Option, slice_get}
use Rattle.lane_histories.specs.Services.{Service}
use Rattle.lane_histories.specs.Histories.{Ticket, part_of, issued}
use Rattle.lane_histories.specs.Histories.{objects_step}
use Rattle.lane_histories.specs.declared.items.RegisterItem.{RegisterItem}
use Rattle.lane_histories.specs.declared.items.Part.{Part}
use Rattle.lane_histories.specs.declared.items.Outcome.{Outcome}
use Rattle.lane_histories.specs.declared.items.LaneItem.{LaneItem}
use Rattle.lane_histories.specs.declared.items.Part.TheVariants.{Only, First, Second}
use Rattle.lane_histories.specs.declared.items.LaneItem.TheVariants.{Passed}
use Rattle.lane_histories.specs.Legal.{IsReached}
use Rattle.hall_rule.specs.declared.queue.Queue.TheVariants.{OfDesk, OfLane}
use Rattle.hall_rule.specs.declared.queue.Claim.{Claim}
use Rattle.hall_rule.specs.declared.view.Start.{Start}
use Rattle.hall_rule.specs.declared.slot.Slot.TheVariants.{AtLane}
use Rattle.hall_rule.specs.Sums.{total}
use Rattle.hall_rule.specs.Queues.{slot_of}
use Rattle.hall_rule.specs.Seen.{GrowsFrom, Item, SeenLists, history_of, lane_of, at_lane}
use Rattle.hall_rule.specs.Seen.{pushed}
use Rattle.hall_rule.specs.Machines.{Machines}
use Rattle.hall_rule.specs.Claims.{claim, holds}
use Rattle.hall_rule.specs.Standing.{HallSlot}
use Rattle.hall_rule.specs.Rule.{HallView, HallHand, seeing}
use Rattle.hall_rule.specs.Steps.{HasTaken, HasPassed, others_of}
use Rattle.lane_histories.specs.Legal.{IsReachedBy}
use Rattle.hall_rule.specs.WholeTurns.{IsReadyToPass}
use Rattle.hall_rule.proofs.SeenLemmas.{lane_set_same, begins_trans, begins_pushed}
use Rattle.std.specs.Prelude.{option_map}
use Rattle.std.specs.declared.snapshot.Snapshot.{Snapshot}
use Rattle.hall_rule.specs.declared.slot.LaneSlot.{LaneSlot}
use Rattle.hall_rule.specs.declared.slot.LaneNews.{LaneNews}
use Rattle.hall_rule.specs.declared.slot.LaneNews.TheVariants.{Acts}
use Rattle.hall_rule.specs.TurnLaws.{SlotsTell}
use Rattle.lane_histories.specs.declared.items.Outcome.TheVariants.{Done, Short, Skipped}
use Rattle.hall_rule.specs.Steps.{lane_item, plain_outcome, and_then}
use Rattle.hall_rule.specs.WholeTurns.{HasTurned, IsToSkip, MayAct, HasActed}
use Rattle.lane_histories.specs.Histories.{IsIn}
use Rattle.lane_histories.specs.Legal.{is_skipped, IsLegalOutcome}
use Rattle.lane_histories.proofs.Lists.{in_longer, in_back}
use Rattle.lane_histories.proofs.Tickets.{next_by_number, ticket_stays}
use Rattle.lane_histories.specs.Legal.{IsNext}
use Rattle.lane_histories.specs.Legal.{IsLegalLaneItem}
use Rattle.lane_histories.specs.Histories.{cut_of, ticket_of}
use Rattle.lane_histories.specs.declared.items.LaneItem.TheVariants.{WasCut}
use Rattle.hall_rule.specs.Standing.{IsOwnerOf, MarksLane}
use Rattle.hall_rule.specs.WholeTurns.{HasCutLane, MayCutLane}
use Rattle.hall_rule.specs.declared.slot.LaneNews.TheVariants.{Cuts as CutsLane}
use Rattle.hall_rule.proofs.StandingLemmas.{owner_pushed_on}
use Rattle.hall_rule.proofs.TurnLemmas.{lane_stands, turned}
use Rattle.lane_histories.specs.Histories.{LaneList}
use Rattle.hall_rule.specs.Seen.{is_cut_of_lane}
use Rattle.hall_rule.specs.WholeTurns.{IsPass}

-- what lies beside an owner is the item of the ticket in hand
with_ticket : {T R U : Type 0} (f : LaneItem T R → U) (news : LaneNews R) (found : Option (Ticket T)) (ticket : Ticket T) → found ≡ Some ticket
    → option_map f (lane_item found news) ≡ option_map f (lane_item (Some ticket) news)
with_ticket f news found ticket is = ap (λ t. option_map f (lane_item t news)) is

pub slots_tell : {service : Service} {M N P E : Type 0} (m : Machines service M N P E) (seen : SeenLists service N) (by lane n : ℕ) (owner : N)
    → SlotsTell m seen by lane n owner
slots_tell {service} {N = N} m seen by lane n owner =
    let found : Option (Ticket service.Task) = slice_get (issued service lane seen.register) n in
    let f : LaneItem service.Task service.Reply → Item service.Asked service.Verdict service.Task service.Reply N =
    λ i. at_lane lane i owner in
    record {
      done = λ place part task reply ticket. with_ticket f (Acts (Done reply)) found (part_of place part task) ticket;
      short = λ place part task ticket. with_ticket f (Acts Short) found (part_of place part task) ticket;
      skipped = λ place part task ticket. with_ticket f (Acts Skipped) found (part_of place part task) ticket;
      cut = λ number place found_some ticket. with_ticket f (CutsLane found_some) found (cut_of number place) ticket;
    }

module _ {service : Service} {M N P E : Type 0} (m : Machines service M N P E) (start : Start M N E) where
  -- whether it is to be skipped is known from the lists as they are when the turn comes
  reached_as_told : (h seen : SeenLists service N) (place : ℕ) (part : Part) (skip : Bool) (y : Outcome service.Reply) → GrowsFrom h seen
      → IsToSkip service (history_of service seen) place part skip → is_skipped y ≡ skip
      → IsReached service (history_of service h) place part y
  reached_as_told h seen place Only skip y on told same = tt
  reached_as_told h seen place First skip y on told same = tt
  reached_as_told h seen place (Second a) skip y on told same = (
    told.0,
    told.1,
    in_longer (lane_of h.lanes a) (lane_of seen.lanes a) (Passed place First told.0 told.1) (on.lanes a) told.2,
    same
        ∙ told.3,
  )

  ticket_on : (h seen : SeenLists service N) (lane n : ℕ) (ticket : Ticket service.Task) → GrowsFrom h seen
      → slice_get (issued service lane seen.register) n ≡ Some ticket → slice_get (issued service lane h.register) n ≡ Some ticket
  ticket_on h seen lane n ticket on is = ap (λ (register : List (RegisterItem service.Asked service.Verdict)). slice_get
      (issued service lane register) n) on.register.1 ∙ ticket_stays service lane n ticket seen.register on.register.0 is

  -- the ticket in hand is the lane's next when its turn has come
  pub is_next : (lane n place : ℕ) (part : Part) (task : service.Task) (skip : Bool) (first taken : HallHand service M N P E)
      → MayAct service start lane n place part task skip first.0
      → (t : HasTaken m start (claim (OfLane lane) n false) (others_of first.0.claims) first taken)
      → IsNext service (history_of service t.seen) lane (part_of place part task)
  is_next lane n place part task skip first taken may t =
      let ticket = ticket_on t.seen first.0.seen lane n (part_of place part task) t.grown.begins may.ticket in
      next_by_number service (history_of service t.seen) lane (part_of place part task) (t.grown.legal.in_order lane)
      (subst (λ (k : ℕ). slice_get (issued service lane t.seen.register) k ≡ Some (part_of place part task)) t.shown ticket)

  -- the owner has acted in its turn
  lane_ready : (me : HallHand service M N P E) (v : HallView service M N E) (h : SeenLists service N) (lane n : ℕ) (others : List Claim)
      (more : List (ℕ × HallSlot service M N P)) (d d' : LaneSlot N service.Reply) (i : LaneItem service.Task service.Reply)
      → me ≡ (seeing v (claim (OfLane lane) n true ∷ others) h, (slot_of (OfLane lane), AtLane d') ∷ more) → IsPass start v
      → and_then d'.news (lane_item (slice_get (issued service lane h.register) n)) ≡ Some i
      → lane < length start.owners → length h.lanes ≡ length start.owners → IsOwnerOf m start h lane d.owner
      → slice_get (issued service lane h.register) n ≡ Some (ticket_of i) → IsReachedBy service (history_of service h) i
      → IsLegalLaneItem service (m.owner d.owner) i → (is_cut_of_lane i ≡ true → 0 < total (holds OfDesk) others)
      → m.owner d'.owner ≡ objects_step service (m.owner d.owner) i → MarksLane m lane i d.owner d'.owner
      → IsReadyToPass m start (at_lane lane i d'.owner) me
  lane_ready me v h lane n others more d d' i is pass news there count stands ticket reached may cuts went marks =
      subst (IsReadyToPass m start (at_lane lane i d'.owner)) (sym is) record {
        number = n;
        others = others;
        slot = AtLane d';
        more = more;
        live = pass.live;
        begun = pass.begun;
        no_guests = refl;
        there = there;
        is_claim = refl;
        is_slot = refl;
        news = ap (option_map (λ x. at_lane lane x d'.owner)) news;
        by = record { of_others = λ x ne h'. refl };
        next = (ticket, reached, subst (λ (o : service.Objects). IsLegalLaneItem service o i) stands.now may);
        stands = owner_pushed_on m start h lane d.owner d'.owner (omega arith) stands i went marks;
        cuts = cuts;
      }

  -- what is true of a turn of a lane, from the ticket on
  module _ (lane n : ℕ) (first taken back : HallHand service M N P E) (d d' : LaneSlot N service.Reply)
      (t : HasTaken m start (claim (OfLane lane) n false) (others_of first.0.claims) first taken) (here : t.slot ≡ AtLane d)
      (mine : back ≡ (
        seeing first.0 (claim (OfLane lane) n true ∷ others_of first.0.claims) t.seen,
        (slot_of (OfLane lane), AtLane d') ∷ first.1,
      ))
    where
      -- the owner did a request's part, or it was skipped
      pub lane_done : (place : ℕ) (part : Part) (task : service.Task) (skip : Bool) (outcome : Outcome (Snapshot service.Reply))
          → MayAct service start lane n place part task skip first.0 → d'.news ≡ Some (Acts outcome)
          → IsLegalOutcome service (m.owner d.owner) part task (plain_outcome outcome)
          → m.owner d'.owner ≡ objects_step service (m.owner d.owner) (Passed place part task (plain_outcome outcome))
          → is_skipped (plain_outcome outcome) ≡ skip
          → ((since : LaneList service) (was : N) → m.OwnerIsSince d.owner lane since was
          → m.OwnerIsSince d'.owner lane (since ++ Passed place part task (plain_outcome outcome) ∷ []) was)
          → IsReadyToPass m start (at_lane lane (Passed place part task (plain_outcome outcome)) d'.owner) back
      lane_done place part task skip outcome may news answered went skips marks =
          let ticket = ticket_on t.seen first.0.seen lane n (part_of place part task) t.grown.begins may.ticket in
          lane_ready back first.0 t.seen lane n (others_of first.0.claims) first.1 d d' (Passed place part task (plain_outcome outcome))
          mine
          may.pass (λ k. and_then (news k) (lane_item (ticket k))) may.there t.sized
          (lane_stands m start lane n (others_of first.0.claims) first taken d t here) ticket
          (reached_as_told t.seen first.0.seen place part skip (plain_outcome outcome) t.grown.begins may.to_skip skips) answered
          (λ cut. absurd (true≢false (sym cut))) went marks

      -- the owner was cut, for who holds the desk's turn
      pub lane_cut_done : (cut place : ℕ) (found : Bool) → MayCutLane service start lane n cut place first.0
          → d'.news ≡ Some (CutsLane found) → m.owner d'.owner ≡ m.owner d.owner
          → MarksLane m lane (WasCut cut place found) d.owner d'.owner
          → IsReadyToPass m start (at_lane lane (WasCut cut place found) d'.owner) back
      lane_cut_done cut place found may news went marks =
          let ticket = ticket_on t.seen first.0.seen lane n (cut_of cut place) t.grown.begins may.ticket in
          lane_ready back first.0 t.seen lane n (others_of first.0.claims) first.1 d d' (WasCut cut place found) mine may.pass
          (λ k. and_then (news k) (lane_item (ticket k))) may.there t.sized
          (lane_stands m start lane n (others_of first.0.claims) first taken d t here) ticket tt tt (λ _. may.desk) went marks

  -- the item of a turn lies in the lane's list
  module _ (lane n : ℕ) (item : LaneItem service.Task service.Reply) (owner : N) (first taken back : HallHand service M N P E)
      (w : HallView service M N E)
      (pass : IsPass start first.0) (there : lane < length start.owners)
      (t : HasTaken m start (claim (OfLane lane) n false) (others_of first.0.claims) first taken)
      (mine : back.0 ≡ seeing first.0 (claim (OfLane lane) n true ∷ others_of first.0.claims) t.seen)
      (p : HasPassed m start (at_lane lane item owner) back.0 w) where
    whole : (tu : HasTurned m start (at_lane lane item owner) (others_of first.0.claims) first.0 w) × (tu.before ≡ t.seen)
    whole = turned m start (at_lane lane item owner) n (others_of first.0.claims) first taken back w pass.no_guests t mine p

    in_list : IsIn (lane_of w.seen.lanes lane) item
    in_list =
        let count = t.sized in
        let tu = whole in
        let before : LaneList service = lane_of t.seen.lanes lane in
        let list : lane_of w.seen.lanes lane ≡ before ++ item ∷ [] =
        ap (λ (x : HallView service M N E). lane_of x.seen.lanes lane) tu.0.is ∙ sym tu.0.same.0
        ∙ ap (λ (h : SeenLists service N). lane_of (set h.lanes lane (lane_of h.lanes lane ++ item ∷ [])) lane) tu.1
        ∙ lane_set_same t.seen.lanes lane (before ++ item ∷ []) (omega arith) in
        subst (λ (l : LaneList service). IsIn l item) (sym list) (in_back before (item ∷ []) item (inl refl))

    grew : GrowsFrom w.seen first.0.seen
    grew =
        let count = t.sized in
        let tu = whole in
        subst (λ (h : SeenLists service N). GrowsFrom h first.0.seen) (sym (ap (λ (x : HallView service M N E). x.seen) tu.0.is))
        (begins_trans tu.0.seen (pushed tu.0.before (at_lane lane item owner)) first.0.seen tu.0.longer
        (subst (λ (h : SeenLists service N). GrowsFrom (pushed h (at_lane lane item owner)) first.0.seen) (sym tu.1)
        (begins_trans (pushed t.seen (at_lane lane item owner)) t.seen first.0.seen (begins_pushed t.seen (at_lane lane item owner) (omega arith))
        t.grown.begins)))

  pub lane_acted : (lane n place : ℕ) (part : Part) (task : service.Task) (skip : Bool) (outcome : Outcome service.Reply) (owner : N)
      (first taken back : HallHand service M N P E) (w : HallView service M N E) → MayAct service start lane n place part task skip first.0
      → (t : HasTaken m start (claim (OfLane lane) n false) (others_of first.0.claims) first taken)
      → back.0 ≡ seeing first.0 (claim (OfLane lane) n true ∷ others_of first.0.claims) t.seen
      → HasPassed m start (at_lane lane (Passed place part task outcome) owner) back.0 w
      → (k : HasActed m start lane place part task outcome first.0 w) × (k.turned.before ≡ t.seen)
  lane_acted lane n place part task skip outcome owner first taken back w may t mine p =
      let item : LaneItem service.Task service.Reply = Passed place part task outcome in (
        record {
          owner = owner;
          turned = (whole lane n item owner first taken back w may.pass may.there t mine p).0;
          longer = grew lane n item owner first taken back w may.pass may.there t mine p;
          here = in_list lane n item owner first taken back w may.pass may.there t mine p;
        },
        (whole lane n item owner first taken back w may.pass may.there t mine p).1,
      )

  pub lane_was_cut : (lane n cut place : ℕ) (found : Bool) (owner : N) (first taken back : HallHand service M N P E) (w : HallView service M N E)
      → MayCutLane service start lane n cut place first.0
      → (t : HasTaken m start (claim (OfLane lane) n false) (others_of first.0.claims) first taken)
      → back.0 ≡ seeing first.0 (claim (OfLane lane) n true ∷ others_of first.0.claims) t.seen
      → HasPassed m start (at_lane lane (WasCut cut place found) owner) back.0 w
      → (k : HasCutLane m start lane cut place found owner first.0 w) × (k.turned.before ≡ t.seen)
  lane_was_cut lane n cut place found owner first taken back w may t mine p =
      let item : LaneItem service.Task service.Reply = WasCut cut place found in (
        record {
          turned = (whole lane n item owner first taken back w may.pass may.there t mine p).0;
          longer = grew lane n item owner first taken back w may.pass may.there t mine p;
          here = in_list lane n item owner first taken back w may.pass may.there t mine p;
        },
        (whole lane n item owner first taken back w may.pass may.there t mine p).1,
      )
