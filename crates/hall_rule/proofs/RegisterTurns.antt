-- Turns of the register: a request, a drawn cut, and the register's own cut.
use Rattle.std.proofs.Common.{◌≡◌, ◌^◌, ◌≢◌, ℕ, ◌<◌, ◌≤◌, List, [], ◌∷◌, ◌++◌, length, cond, Bool, true, false}
use Rattle.std.proofs.Common.{true≢false, ne_eqb, Some, refl, sym, ap, ◌∙◌, subst, arith}
use Rattle.std.specs.List.{AllByRecursion}
use Rattle.lane_histories.specs.Services.{Service}
use Rattle.lane_histories.specs.Histories.{own, places, drawn, register_step}
use Rattle.lane_histories.specs.declared.items.RegisterItem.{RegisterItem}
use Rattle.lane_histories.specs.declared.items.RegisterItem.TheVariants.{Entered, DrawnCut, RegisterCut}
use Rattle.lane_histories.specs.Legal.{IsLegalRegisterItem}
use Rattle.hall_rule.specs.declared.queue.Queue.TheVariants.{OfRegister, OfDesk}
use Rattle.hall_rule.specs.declared.queue.Claim.{Claim}
use Rattle.hall_rule.specs.declared.view.Start.{Start}
use Rattle.hall_rule.specs.declared.slot.Slot.TheVariants.{AtRegister}
use Rattle.hall_rule.specs.Sums.{total, upward}
use Rattle.hall_rule.specs.Queues.{slot_of}
use Rattle.hall_rule.specs.Seen.{SeenLists, history_of, lanes_of, lanes_issued, at_register}
use Rattle.hall_rule.specs.Machines.{Machines}
use Rattle.hall_rule.specs.Claims.{count_of, claim, holds}
use Rattle.hall_rule.specs.Standing.{HallSlot}
use Rattle.hall_rule.specs.Rule.{HallView, HallHand, seeing}
use Rattle.hall_rule.specs.Steps.{HasTaken, HasPassed}
use Rattle.hall_rule.specs.WholeTurns.{IsReadyToPass}
use Rattle.hall_rule.proofs.SeenLemmas.{own_push_none}
use Rattle.std.specs.Prelude.{option_map}
use Rattle.std.specs.declared.snapshot.Snapshot.{Snapshot}
use Rattle.hall_rule.specs.declared.slot.RegisterSlot.{RegisterSlot}
use Rattle.hall_rule.specs.declared.slot.RegisterNews.{RegisterNews}
use Rattle.hall_rule.specs.declared.slot.RegisterNews.TheVariants.{Asks, Draws, Cuts}
use Rattle.hall_rule.specs.Steps.{register_item}
use Rattle.hall_rule.specs.WholeTurns.{MayDraw, entry_behind, HasDecided}
use Rattle.lane_histories.specs.Legal.{IsLegal}
use Rattle.hall_rule.specs.Claims.{issued_by}
use Rattle.hall_rule.specs.Machines.{world_of}
use Rattle.hall_rule.specs.Standing.{IsRegisterOf, MarksRegister}
use Rattle.hall_rule.specs.WholeTurns.{HasCutRegister, HasDrawnCut}
use Rattle.hall_rule.proofs.StandingLemmas.{register_pushed_on}
use Rattle.hall_rule.proofs.TurnLemmas.{drawn_turn, register_stands}
use Rattle.hall_rule.specs.Seen.{is_cut_of_register}
use Rattle.hall_rule.specs.WholeTurns.{IsPass}
use Rattle.lane_histories.proofs.Tickets.{issued_few}

pub places_length : {Q V : Type 0} (xs : List (RegisterItem Q V)) → places xs ≤ length xs
places_length [] = omega arith
places_length (Entered e ∷ xs) = let more = places_length xs in omega arith
places_length (DrawnCut number c ∷ xs) = let more = places_length xs in omega arith
places_length (RegisterCut p found ∷ xs) = let more = places_length xs in omega arith

register_by : {Q V : Type 0} (register : List (RegisterItem Q V)) (number : ℕ) (w : RegisterNews Q V) (x : ℕ) → number ≢ x
    → own x (register_item register number w ∷ []) ≡ []
register_by register number (Asks asked verdict) x ne =
    ap (λ (b : Bool). cond b (entry_behind register number asked.value verdict.value ∷ []) []) (ne_eqb number x ne)
register_by register number Draws x ne = refl
register_by register number (Cuts found) x ne = refl

module _ {service : Service} {M N P E : Type 0} (m : Machines service M N P E) (start : Start M N E) where
  -- the register has acted in its turn
  register_ready : (me : HallHand service M N P E) (v : HallView service M N E) (h : SeenLists service N) (n : ℕ) (others : List Claim)
      (more : List (ℕ × HallSlot service M N P)) (d d' : RegisterSlot M service.Asked service.Verdict)
      (w : RegisterNews service.Asked service.Verdict)
      → me ≡ (seeing v (claim OfRegister n true ∷ others) h, (slot_of OfRegister, AtRegister d') ∷ more) → IsPass start v
      → d'.news ≡ Some w → IsLegal service (world_of m start) (history_of service h) → IsRegisterOf m start h.register d.register
      → IsLegalRegisterItem service (m.register d.register) (places h.register) (drawn h.register) (register_item h.register v.number w)
      → AllByRecursion (λ l. l < length start.owners) (lanes_issued service (register_item h.register v.number w))
      → (is_cut_of_register (register_item h.register v.number w) ≡ true → 0 < total (holds OfDesk) others)
      → m.register d'.register ≡ register_step service (m.register d.register) (register_item h.register v.number w)
      → MarksRegister m (register_item h.register v.number w) d.register d'.register
      → IsReadyToPass m start (at_register (register_item h.register v.number w)) me
  register_ready me v h n others more d d' w is pass news legal stands may there cuts went marks =
      let e : RegisterItem service.Asked service.Verdict = register_item h.register v.number w in
      let may_here = subst (λ (x : service.Register). IsLegalRegisterItem service x (places h.register) (drawn h.register) e) stands.now
      may in
      subst (IsReadyToPass m start (at_register e)) (sym is) record {
        number = n;
        others = others;
        slot = AtRegister d';
        more = more;
        live = pass.live;
        begun = pass.begun;
        no_guests = refl;
        there = tt;
        is_claim = refl;
        is_slot = refl;
        news = ap (option_map (λ x. at_register (register_item h.register v.number x))) news;
        by = record { of_others = λ x ne h'. own_push_none x h'.register e (register_by h.register v.number w x ne) };
        next = (may_here, there);
        stands = register_pushed_on m start h.register d.register d'.register e stands legal.register may_here went marks;
        cuts = cuts;
      }

  -- what is true of a turn of the register, from the number that was drawn on
  module _ (n : ℕ) (v : HallView service M N E) (first taken back : HallHand service M N P E)
      (d d' : RegisterSlot M service.Asked service.Verdict)
      (may : MayDraw start v) (is : first.0 ≡ record v { claims = claim OfRegister n false ∷ v.claims })
      (t : HasTaken m start (claim OfRegister n false) v.claims first taken) (here : t.slot ≡ AtRegister d)
      (mine : back ≡ (seeing first.0 (claim OfRegister n true ∷ v.claims) t.seen, (slot_of OfRegister, AtRegister d') ∷ first.1)) where
    back_is : back ≡ (seeing v (claim OfRegister n true ∷ v.claims) t.seen, (slot_of OfRegister, AtRegister d') ∷ first.1)
    back_is = mine ∙ (λ k. (seeing (is k) (claim OfRegister n true ∷ v.claims) t.seen, (slot_of OfRegister, AtRegister d') ∷ first.1))

    stood : IsRegisterOf m start t.seen.register d.register
    stood = register_stands m start n v.claims first taken d t here

    -- it decided a request
    pub register_done : (asked : Snapshot service.Asked) (verdict : Snapshot service.Verdict) → d'.news ≡ Some (Asks asked verdict)
        → service.MayAnswer (m.register d.register) asked.value verdict.value
        → AllByRecursion (λ l. l < length start.owners) (lanes_of service.lanes (service.turns asked.value verdict.value))
        → m.register d'.register ≡ service.decided (m.register d.register) asked.value verdict.value
        → ((c : service.Catalogue) → m.RegisterIsSince d.register c → m.RegisterIsSince d'.register c)
        → IsReadyToPass m start (at_register (Entered (entry_behind t.seen.register v.number asked.value verdict.value))) back
    register_done asked verdict news answered there went marks =
        register_ready back v t.seen n v.claims first.1 d d' (Asks asked verdict) back_is may.pass news t.grown.legal stood (refl, answered)
        there
        (λ cut. absurd (true≢false (sym cut))) went marks

    -- it drew a cut, for who holds the desk's turn
    pub drawn_cut_done : d'.news ≡ Some Draws → 0 < total (holds OfDesk) v.claims
        → AllByRecursion (λ l. l < length start.owners) (upward 0 service.lanes)
        → m.register d'.register ≡ service.drawn (m.register d.register)
        → ((c : service.Catalogue) → m.RegisterIsSince d.register c → m.RegisterIsSince d'.register c)
        → IsReadyToPass m start (at_register (DrawnCut (drawn t.seen.register) (places t.seen.register))) back
    drawn_cut_done news desk there went marks =
        register_ready back v t.seen n v.claims first.1 d d' Draws back_is may.pass news t.grown.legal stood (refl, refl) there (λ _. desk)
        went marks

    -- it was cut, for who holds the desk's turn
    pub register_cut_done : (found : Bool) → d'.news ≡ Some (Cuts found) → 0 < total (holds OfDesk) v.claims
        → m.register d'.register ≡ service.recorded found (m.register d.register)
        → MarksRegister m (RegisterCut (places t.seen.register) found) d.register d'.register
        → IsReadyToPass m start (at_register (RegisterCut (places t.seen.register) found)) back
    register_cut_done found news desk went marks =
        register_ready back v t.seen n v.claims first.1 d d' (Cuts found) back_is may.pass news t.grown.legal stood refl tt (λ _. desk) went
        marks

  -- the register's answer to a request, and where it stands in the list
  pub register_decided : (n place : ℕ) (v : HallView service M N E) (first taken back : HallHand service M N P E) (w : HallView service M N E)
      (d : RegisterSlot M service.Asked service.Verdict) (asked : service.Asked) (verdict : service.Verdict)
      → MayDraw start v → first.0 ≡ record v { claims = claim OfRegister n false ∷ v.claims }
      → (t : HasTaken m start (claim OfRegister n false) v.claims first taken) → t.slot ≡ AtRegister d
      → back.0 ≡ seeing first.0 (claim OfRegister n true ∷ v.claims) t.seen
      → HasPassed m start (at_register (Entered (entry_behind t.seen.register v.number asked verdict))) back.0 w
      → place ≡ places t.seen.register → service.MayAnswer (m.register d.register) asked verdict
      → (k : HasDecided m start place asked verdict v w) × (k.before ≡ t.seen)
  register_decided n place v first taken back w d asked verdict may is t here mine p placed answered =
      let tu = drawn_turn m start (at_register (Entered (entry_behind t.seen.register v.number asked verdict))) n v.claims v first taken
      back w
      may.pass.no_guests is t mine p in
      let le = places_length t.seen.register in
      let shown = t.shown in
      let early = t.early in (
        record {
          before = t.seen;
          turned = tu.0;
          before_is = tu.1;
          place_is = placed;
          early = omega arith;
          may = subst (λ (x : service.Register). service.MayAnswer x asked verdict)
              (register_stands m start n v.claims first taken d t here).now
              answered;
          legal = t.grown.legal;
        },
        refl,
      )

  -- the cut that was drawn, and its tickets
  pub has_drawn_cut : (n place : ℕ) (v : HallView service M N E) (first taken back : HallHand service M N P E) (w : HallView service M N E)
      → MayDraw start v → first.0 ≡ record v { claims = claim OfRegister n false ∷ v.claims }
      → (t : HasTaken m start (claim OfRegister n false) v.claims first taken)
      → back.0 ≡ seeing first.0 (claim OfRegister n true ∷ v.claims) t.seen
      → HasPassed m start (at_register (DrawnCut (drawn t.seen.register) (places t.seen.register))) back.0 w
      → place ≡ places t.seen.register → (k : HasDrawnCut m start place v w) × (k.before ≡ t.seen)
  has_drawn_cut n place v first taken back w may is t mine p placed =
      let item : RegisterItem service.Asked service.Verdict = DrawnCut (drawn t.seen.register) (places t.seen.register) in
      let tu = drawn_turn m start (at_register item) n v.claims v first taken back w may.pass.no_guests is t mine p in (
        record {
          before = t.seen;
          turned = tu.0;
          before_is = tu.1;
          place_is = placed;
          is_claims = ap (λ (x : HallView service M N E). x.claims) tu.0.is
              ∙ ap (λ (h : SeenLists service N). issued_by service h (at_register item) ++ v.claims) tu.1;
        },
        refl,
      )

  pub has_cut_register : (n place : ℕ) (found : Bool) (v : HallView service M N E) (first taken back : HallHand service M N P E)
      (w : HallView service M N E) → MayDraw start v → first.0 ≡ record v { claims = claim OfRegister n false ∷ v.claims }
      → (t : HasTaken m start (claim OfRegister n false) v.claims first taken)
      → back.0 ≡ seeing first.0 (claim OfRegister n true ∷ v.claims) t.seen
      → HasPassed m start (at_register (RegisterCut (places t.seen.register) found)) back.0 w
      → place ≡ places t.seen.register → (k : HasCutRegister m start place found v w) × (k.before ≡ t.seen)
  has_cut_register n place found v first taken back w may is t mine p placed =
      let tu = drawn_turn m start (at_register (RegisterCut (places t.seen.register) found)) n v.claims v first taken back w
      may.pass.no_guests is t mine p in (
        record {
          before = t.seen;
          turned = tu.0;
          before_is = tu.1;
          place_is = placed;
          is_claims = ap (λ (x : HallView service M N E). x.claims) tu.0.is;
        },
        refl,
      )

  -- so many places were given at most before it, and tickets of a lane
  pub room_left : (n : ℕ) (others : List Claim) (me me' : HallHand service M N P E)
      → (t : HasTaken m start (claim OfRegister n false) others me me') → (places t.seen.register < 2 ^ 61)
      × ((l : ℕ) → count_of service t.seen.register l < 2 ^ 62)
  room_left n others me me' t =
      let shown = t.shown in
      let early = t.early in
      let few = places_length t.seen.register in (
        omega arith,
        λ l. let most = issued_few service l t.seen.register in omega arith,
      )
