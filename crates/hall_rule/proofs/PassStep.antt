-- The step that passes a turn keeps the rule.
use Rattle.std.proofs.Common.{◌≡◌, ◌≢◌, inl, inr, ⊎_elim, ℕ, ◌+◌, ◌%◌, ◌^◌, ◌<◌, ◌≤◌, List, [], ◌∷◌, ◌++◌, set, get_or, length, length-set}
use Rattle.std.proofs.Common.{cond, Bool, true, false, Some, refl, sym, ap, ◌∙◌, subst, arith}
use mathlib.Core.Option.{some, none, some-ne-none, some-injective}
use mathlib.Core.Option as maybe
use lib.ListN.{get_elem?}
use Rattle.atomic_table.specs.Table.{step, gives, stepped, Allows, rest}
use Rattle.atomic_table.proofs.Lists.{set_here, set_else}
use Rattle.lane_histories.specs.Services.{Service}
use Rattle.lane_histories.specs.Histories.{own}
use Rattle.lane_histories.specs.declared.items.RegisterItem.{RegisterItem}
use Rattle.hall_rule.specs.declared.queue.Queue.{Queue}
use Rattle.hall_rule.specs.declared.queue.Queue.TheVariants.{OfRegister, OfDesk, OfLane}
use Rattle.hall_rule.specs.declared.queue.Claim.{Claim}
use Rattle.hall_rule.specs.declared.view.Lists.{Lists}
use Rattle.hall_rule.specs.declared.view.View.{View}
use Rattle.hall_rule.specs.declared.view.Start.{Start}
use Rattle.hall_rule.specs.Sums.{total, times, once_below}
use Rattle.hall_rule.specs.Queues.{limit_of, word_of, slot_of, IsQueue, same_queue}
use Rattle.hall_rule.specs.Seen.{len_of, SameList, SeenLists, lanes_issued, Item, at_register, at_desk, at_lane, queue_of, is_cut, pushed}
use Rattle.hall_rule.specs.Machines.{Machines, world_of}
use Rattle.hall_rule.specs.Claims.{claim, numbers, waits, holds_at, holds, busy, count_of, issued_by}
use Rattle.hall_rule.specs.Standing.{HallSlot, StandsFor}
use Rattle.hall_rule.specs.Rule.{next_of, claimed, AreClaimedOnce, IsHallHistory, AreAtHome, IsViewOf, FollowsRule, HallView}
use Rattle.hall_rule.specs.Rule.{HallHand, seeing}
use Rattle.hall_rule.specs.Steps.{HasPassed, others_of, head_news, PassesTurn}
use Rattle.hall_rule.specs.WholeTurns.{IsBy, MayJoinList, IsReadyToPass}
use Rattle.hall_rule.proofs.Sums.{total_two, total_append, once_le}
use Rattle.hall_rule.proofs.QueueLemmas.{limit_small, Apart, same_self, same_or_apart, slot_in}
use Rattle.hall_rule.proofs.SeenLemmas.{begins_trans, begins_pushed, begins_pushed_both, goes_pushed, goes_pushed_both, pushed_other, was_pushed}
use Rattle.hall_rule.proofs.SeenLemmas.{len_pushed, same_len, same_pushed, same_list_trans}
use Rattle.hall_rule.proofs.ClaimLemmas.{issued_hold, issued_hold_at, issued_busy, issued_register, issued_desk, issued_at_register}
use Rattle.hall_rule.proofs.ClaimLemmas.{issued_at_desk, issued_at_lane, count_pushed}
use Rattle.hall_rule.proofs.WordSteps.{words_pass}
use Rattle.hall_rule.proofs.ClaimSteps.{claimed_set, claimed_one, turn_mine, claims_pass}
use Rattle.hall_rule.proofs.LegalLemmas.{legal_pushed, seconds_pushed_by, may_come_on}
use Rattle.hall_rule.proofs.StandingLemmas.{stands_on}
use Rattle.hall_rule.proofs.FitLemmas.{spare_apart, names_stay, named_once, number_below, others_apart, views_set, view_on, view_seeing}

module _ {Q V T R N : Type 0} where
  len_with : (h : Lists Q V T R N) (item : Item Q V T R N) → IsQueue (length h.lanes) (queue_of item) → (q : Queue)
      → len_of (pushed h item) q ≡ len_of h q + cond (same_queue (queue_of item) q) 1 0
  len_with h item is q = ⊎_elim
      (λ (e : queue_of item ≡ q). subst (λ (x : Queue). len_of (pushed h item) x ≡ len_of h x + cond (same_queue (queue_of item) x) 1 0) e
      (len_pushed h item is ∙ ap (λ b. len_of h (queue_of item) + cond b 1 0) (sym (same_self (queue_of item)))))
      (λ (a : Apart (queue_of item) q). sym (same_len q h (pushed h item) (pushed_other h item q a))
      ∙ sym (ap (λ b. len_of h q + cond b 1 0) a.differ ∙ (let z : len_of h q + 0 ≡ len_of h q = omega arith in z)))
      (same_or_apart (queue_of item) q)

  -- what the pass has seen and the item have the same entries of a pass as the hall's list
  own_pushed : (h seen : Lists Q V T R N) (item : Item Q V T R N) (x : ℕ) → SameList (queue_of item) seen h
      → own x h.register ≡ own x seen.register → own x (pushed h item).register ≡ own x (pushed seen item).register
  own_pushed h seen (at_register e) x same old = ap (λ register. own x (register ++ e ∷ [])) (sym same)
  own_pushed h seen (at_desk k) x same old = old
  own_pushed h seen (at_lane lane i owner) x same old = old

module _ (service : Service) {N : Type 0} where
  -- the tickets that an item issues are those between the old and the new next numbers
  issued_next : (d k : ℕ) (h seen : SeenLists service N) (item : Item service.Asked service.Verdict service.Task service.Reply N)
      → SameList (queue_of item) seen h
      → (q : Queue) (n : ℕ) → total (waits q n) (issued_by service seen item) + once_below n (next_of service d k h q)
      ≡ once_below n (next_of service d k (pushed h item) q)
  issued_next d k h seen (at_register e) same OfRegister n =
      let z = issued_at_register n (count_of service seen.register) (lanes_issued service e) in omega arith
  issued_next d k h seen (at_register e) same OfDesk n =
      let z = issued_at_desk n (count_of service seen.register) (lanes_issued service e) in
      omega arith
  issued_next d k h seen (at_register e) same (OfLane l) n =
      let lanes : List ℕ = lanes_issued service e in
      let all = issued_at_lane l n (count_of service seen.register) lanes in
      let before : count_of service seen.register l ≡ count_of service h.register l =
      ap (λ (register : List (RegisterItem service.Asked service.Verdict)). count_of service register l) same in
      let a : once_below n (count_of service seen.register l) ≡ once_below n (count_of service h.register l) = ap (once_below n) before in
      let b : once_below n (count_of service seen.register l + times l lanes) ≡ once_below n (count_of service (h.register ++ e ∷ []) l) =
      ap (once_below n) (ap (λ (x : ℕ). x + times l lanes) before ∙ sym (count_pushed service l h.register e)) in
      omega arith
  issued_next d k h seen (at_desk w) same OfRegister n = omega arith
  issued_next d k h seen (at_desk w) same OfDesk n = omega arith
  issued_next d k h seen (at_desk w) same (OfLane l) n = omega arith
  issued_next d k h seen (at_lane lane i owner) same OfRegister n = omega arith
  issued_next d k h seen (at_lane lane i owner) same OfDesk n = omega arith
  issued_next d k h seen (at_lane lane i owner) same (OfLane l) n = omega arith

  module _ (seen : SeenLists service N) where
    new_hold : (item : Item service.Asked service.Verdict service.Task service.Reply N) (q : Queue)
        → total (holds q) (issued_by service seen item) ≡ 0
    new_hold (at_register e) q = issued_hold q (count_of service seen.register) (lanes_issued service e)
    new_hold (at_desk k) q = refl
    new_hold (at_lane lane i owner) q = refl

    new_hold_at : (item : Item service.Asked service.Verdict service.Task service.Reply N) (q : Queue) (n : ℕ)
        → total (holds_at q n) (issued_by service seen item) ≡ 0
    new_hold_at (at_register e) q n = issued_hold_at q n (count_of service seen.register) (lanes_issued service e)
    new_hold_at (at_desk k) q n = refl
    new_hold_at (at_lane lane i owner) q n = refl

    pub new_busy : (item : Item service.Asked service.Verdict service.Task service.Reply N) → total busy (issued_by service seen item) ≡ 0
    new_busy (at_register e) = issued_busy (count_of service seen.register) (lanes_issued service e)
    new_busy (at_desk k) = refl
    new_busy (at_lane lane i owner) = refl

    pub new_register : (item : Item service.Asked service.Verdict service.Task service.Reply N)
        → total (numbers OfRegister) (issued_by service seen item) ≡ 0
    new_register (at_register e) = issued_register (count_of service seen.register) (lanes_issued service e)
    new_register (at_desk k) = refl
    new_register (at_lane lane i owner) = refl

    pub new_desk : (item : Item service.Asked service.Verdict service.Task service.Reply N)
        → total (numbers OfDesk) (issued_by service seen item) ≡ 0
    new_desk (at_register e) = issued_desk (count_of service seen.register) (lanes_issued service e)
    new_desk (at_desk k) = refl
    new_desk (at_lane lane i owner) = refl

module _ {service : Service} {M N P E : Type 0} (m : Machines service M N P E) (passes : ℕ) (start : Start M N E) where
  history_pushed : (n : ℕ) (h : SeenLists service N) (number : ℕ) (item : Item service.Asked service.Verdict service.Task service.Reply N)
      → IsQueue (length h.lanes) (queue_of item) → IsBy number item → number < passes → n ≡ len_of h (queue_of item)
      → n < limit_of (queue_of item)
      → MayJoinList service (world_of m start) (length start.owners) n h item → IsHallHistory m passes start h
      → IsHallHistory m passes start (pushed h item)
  history_pushed n h number item is by below here early may ok = record {
    count = (begins_pushed h item is).sized ∙ ok.count;
    was_count = was_pushed h item ∙ ok.was_count;
    legal = legal_pushed service (world_of m start) (length start.owners) n h item is here may ok.legal ok.seconds;
    seconds = seconds_pushed_by service (world_of m start) (length start.owners) n h item is here may ok.legal ok.seconds;
    short = λ q. ⊎_elim
        (λ (e : queue_of item ≡ q). subst (λ (x : Queue). len_of (pushed h item) x ≤ limit_of x) e
        (let a = len_pushed h item is in omega arith))
        (λ (a : Apart (queue_of item) q). let b = same_len q h (pushed h item) (pushed_other h item q a) in let c = ok.short q in
        omega arith)
        (same_or_apart (queue_of item) q);
    strangers = λ x far. by.of_others x (λ same. absurd (omega (arith, same))) h ∙ ok.strangers x far;
  }

no_cut : (b : Bool) → (b ≡ true → ⊥) → b ≡ false
no_cut true never = absurd (never refl)
no_cut false never = refl

-- a turn is held once at most
pub one_holder : {Q V T R N X : Type 0} (next len : Queue → ℕ) (views : List (View Q V T R N X)) → AreClaimedOnce next len views → (q : Queue)
    → claimed (holds q) views ≤ 1
one_holder next len views ok q = let a = ok.turns q in let b = ok.once q (len q) in let c = once_le (len q) (next q) in omega arith

-- the desk's own item is no cut
desk_uncut : {Q V T R N : Type 0} (item : Item Q V T R N) → queue_of item ≡ OfDesk → is_cut item ≡ false
desk_uncut (at_register e) is = absurd (cc)
desk_uncut (at_desk k) is = refl
desk_uncut (at_lane lane i owner) is = absurd (cc)

module _ {service : Service} {M N P E : Type 0} (m : Machines service M N P E) (passes : ℕ) (start : Start M N E) where
  -- the slot is at home again, and its machine stands for the list with the item
  homes_back : (h : SeenLists service N) (item : Item service.Asked service.Verdict service.Task service.Reply N)
      (views : List (HallView service M N E)) (homes : List (maybe.Option (HallSlot service M N P))) (id : ℕ) (v w : HallView service M N E)
      (n : ℕ) (seen : SeenLists service N) (others : List Claim) (sl : HallSlot service M N P)
      → get_elem? views id ≡ some v → v.claims ≡ claim (queue_of item) n true ∷ others → w.claims ≡ issued_by service seen item ++ others
      → (is_cut item ≡ true → 0 < total (holds OfDesk) others) → IsQueue (length h.lanes) (queue_of item)
      → IsQueue (length start.owners) (queue_of item)
      → StandsFor m (queue_of item) sl start (pushed h item) → AreAtHome m start h views homes
      → AreAtHome m start (pushed h item) (set views id w) (set homes (slot_of (queue_of item)) (some sl))
  homes_back h item views homes id v w n seen others sl at mine after cuts is is_hall stands ok =
      let q : Queue = queue_of item in record {
        count = length-set homes (slot_of q) (some sl) ∙ ok.count;
        home = λ q' is' unheld. ⊎_elim
            (λ (e : q ≡ q'). subst (λ (x : Queue). (s : HallSlot service M N P)
            × (get_elem? (set homes (slot_of q) (some sl)) (slot_of x) ≡ some (some s)) × StandsFor m x s start (pushed h item)) e (
              sl,
              set_here homes (slot_of q) (some sl) (let a = ok.count in let b = slot_in (length start.owners) q is_hall in omega arith),
              stands,
            ))
            (λ (apart : Apart q q').
            let e = claimed_set (holds q') views id v w at in
            let f : total (holds q') v.claims ≡ cond (same_queue q q') 1 0 + total (holds q') others = ap (total (holds q')) mine in
            let g : total (holds q') w.claims ≡ total (holds q') (issued_by service seen item) + total (holds q') others =
            ap (total (holds q')) after ∙ total_append (holds q') (issued_by service seen item) others in
            let z : cond {A = ℕ} (same_queue q q') 1 0 ≡ 0 = ap (λ (b : Bool). cond {A = ℕ} b 1 0) apart.differ in
            let new_none = new_hold service seen item q' in
            let old = ok.home q' is' (omega arith) in (
              old.0,
              set_else homes (slot_of q) (slot_of q') (some sl) apart.slots ∙ old.1,
              stands_on m start q' old.0 h (pushed h item) (pushed_other h item q' apart)
                  (λ (desk : q' ≡ OfDesk). goes_pushed h item is (no_cut (is_cut item) (λ cut.
                  let c = cuts cut in
                  let one = claimed_one (holds q') views id v at in
                  let z : total (holds q') others ≡ 0 = omega arith in
                  let y : total (holds OfDesk) others ≡ 0 = subst (λ (x : Queue). total (holds x) others ≡ 0) desk z in omega arith)))
                  old.2,
            ))
            (same_or_apart q q');
      }

  pub passes_turn : (slots id : ℕ) (me : HallHand service M N P E) (item : Item service.Asked service.Verdict service.Task service.Reply N)
      → IsReadyToPass m start item me
      → Allows (FollowsRule m passes start) slots id me (word_of (queue_of item)) (λ n. (n + 1) % 2 ^ 64)
      (PassesTurn m (step slots (word_of (queue_of item)) 1 0 none) me)
  passes_turn slots id me item ready s r deep at views_are =
      let is_hall = ready.there in
      let n = ready.number in
      let others = ready.others in
      let sl = ready.slot in
      let live = ready.live in
      let no_guests = ready.no_guests in
      let mine = ready.is_claim in
      let carried = ready.is_slot in
      let news = ready.news in
      let by = ready.by in
      let next = ready.next in
      let stands = ready.stands in
      let h : SeenLists service N = r.history in
      let h' : SeenLists service N = pushed h item in
      let seen : SeenLists service N = me.0.seen in
      let q : Queue = queue_of item in
      let f = r.views_are id me.0 at in
      let is : IsQueue (length h.lanes) q = subst (λ k. IsQueue k q) (sym r.lists_are.count) is_hall in
      let turn = turn_mine (next_of service r.register_next r.desk_next h) (len_of h) s.views id me.0 q n others at mine r.claims_once in
      let here : n ≡ len_of h q = turn.0 in
      let held : total (holds q) me.0.claims ≡ 1 + total (holds q) others = ap (total (holds q)) mine
      ∙ ap (λ (b : Bool). cond {A = ℕ} b 1 0 + total (holds q) others) (same_self q) in
      let same : SameList q seen h = f.current q (omega arith) in
      let begun = f.begins live in
      let on = begins_pushed h item is in
      let seen_on = begins_pushed_both h seen item is begun same in
      let same' = same_pushed seen h item begun.sized is same in
      let desk_holds : q ≡ OfDesk → 0 < total (holds OfDesk) me.0.claims =
      λ desk. subst (λ (x : Queue). 0 < total (holds x) me.0.claims) desk (omega arith) in
      let stands' = stands_on m start q sl (pushed seen item) h' same'
      (λ desk. goes_pushed_both h seen item is (f.uncut (desk_holds desk)) same) stands in
      let may' = may_come_on service (world_of m start) (length start.owners) n h seen item begun same next in
      let legal' = legal_pushed service (world_of m start) (length start.owners) n h item is here may' r.lists_are.legal
      r.lists_are.seconds in
      let desk_mine : total (holds OfDesk) me.0.claims ≡ holds OfDesk (claim q n true) + total (holds OfDesk) others =
      ap (total (holds OfDesk)) mine in
      let new : List Claim = issued_by service seen item in
      let claims : List Claim = new ++ others in
      let w : HallView service M N E = seeing me.0 claims h' in
      let short = r.lists_are.short q in
      let early = turn.2 in
      let small = limit_small q in
      let register : total (numbers OfRegister) me.0.claims ≡ numbers OfRegister (claim q n true) + total (numbers OfRegister) others =
      ap (total (numbers OfRegister)) mine in
      let desk : total (numbers OfDesk) me.0.claims ≡ numbers OfDesk (claim q n true) + total (numbers OfDesk) others =
      ap (total (numbers OfDesk)) mine in
      let turns : total busy me.0.claims ≡ busy (claim q n true) + total busy others = ap (total busy) mine in
      let unmoved : (x : ℕ) → me.0.number ≢ x → own x h'.register ≡ own x h.register = λ x ne. by.of_others x ne h in
      let spare : (x : ℕ) → me.0.live ≡ true → 0 < times x me.0.spare
      → own x h'.register ≡ [] = λ x lives some_spare. unmoved x
      (spare_apart me.0 x lives (named_once passes s.views id me.0 x at r.names_once) some_spare) ∙ f.unused x lives some_spare in (
        w,
        gives,
        tt,
        subst (λ (cs : List (ℕ × HallSlot service M N P)). FollowsRule m passes start
            (stepped s (word_of q) ((get_or s.words (word_of q) 0 + 1) % 2 ^ 64) id cs w gives)) (sym carried)
            record {
              history = h';
              register_next = r.register_next;
              desk_next = r.desk_next;
              words_show = words_pass (length start.owners) r.register_next r.desk_next h s.words h' q is_hall (omega arith)
                  (len_pushed h item is) (λ q' a. sym (same_len q' h h' (pushed_other h item q' a))) r.words_show;
              claims_once = claims_pass (next_of service r.register_next r.desk_next h) (next_of service r.register_next r.desk_next h')
                  (len_of h) (len_of h') s.views id me.0 w q n others new at mine refl
                  (len_with h item is) (issued_next service r.register_next r.desk_next h seen item same) (new_hold service seen item)
                  (new_hold_at service seen item) (let z = new_register service seen item in omega arith)
                  (let z = new_desk service seen item in omega arith) r.claims_once;
              names_once = names_stay passes s.views id me.0 w at refl r.names_once;
              lists_are = history_pushed m passes start n h me.0.number item is by
                  (number_below passes s.views id me.0 at live r.names_once)
                  here early may' r.lists_are;
              homes_are = homes_back h item s.views s.homes id me.0 w n seen others sl at mine refl ready.cuts is is_hall stands'
                  r.homes_are;
              views_are = views_set (IsViewOf m start h') s.views id w
                  (λ j u other there. view_on m start h h' u on
                  (λ x named. unmoved x (others_apart passes s.views id j me.0 u x at other there live r.names_once named))
                  (λ q' held_there. ⊎_elim
                  (λ (e : q ≡ q').
                  let two = total_two (λ (v : HallView service M N E). total (holds q) v.claims) s.views j id u me.0 other there at in
                  let one = turn.1 in
                  let theirs : 0 < total (holds q) u.claims = subst (λ (x : Queue). 0 < total (holds x) u.claims) (sym e) held_there in
                  absurd (omega arith))
                  (λ (a : Apart q q'). pushed_other h item q' a)
                  (same_or_apart q q'))
                  (λ theirs. goes_pushed h item is (no_cut (is_cut item) (λ cut.
                  let c = ready.cuts cut in
                  let two = total_two (λ (v : HallView service M N E). total (holds OfDesk) v.claims) s.views j id u me.0 other there at in
                  let one = one_holder (next_of service r.register_next r.desk_next h) (len_of h) s.views r.claims_once OfDesk in
                  omega arith)))
                  (r.views_are j u there))
                  (view_seeing m start h h' me.0 claims live f legal' spare
                  (let a = total_append (numbers OfRegister) new others in let b = new_register service seen item in
                  let c = f.one_register in
                  omega arith)
                  (let a = total_append (numbers OfDesk) new others in let b = new_desk service seen item in let c = f.one_desk in
                  omega arith)
                  (let a = total_append busy new others in let b = new_busy service seen item in let c = f.one_turn in omega arith));
            },
        λ item' is_item.
            let both : Some item ≡ Some item' = sym news ∙ sym
            (ap (λ (x : List Claim × List (ℕ × HallSlot service M N P)). head_news m seen me.0.number x.0 x.1)
            (λ k. (mine k, carried k))) ∙ is_item in
            let it : item ≡ item' = cc in
            subst (λ (x : Item service.Asked service.Verdict service.Task service.Reply N). (start' : Start M N E) × (rest me.1 ≡ rest me.1)
            × HasPassed m start' x me.0 w) it (
              start,
              refl,
              record {
                seen = h';
                is = λ k. seeing me.0 (new ++ others_of (sym mine k)) h';
                same = same';
                grown = record {
                  start_is = f.start_is live;
                  legal = legal';
                  begins = seen_on;
                  owns = λ x named. ⊎_elim (λ guest. inl guest) (λ old. inr (own_pushed h seen item x same old)) (f.owns x named);
                  guest_begins = begins_trans h' h me.0.guest_seen on (f.guest_begins live);
                  guest_owns = λ x guest. let z : times x me.0.guests ≡ 0 = ap (times x) no_guests in absurd (omega arith);
                  unused = λ x some_spare. spare x live some_spare;
                };
                kept = λ q' held_too.
                    let rest_is : total (holds q') (others_of me.0.claims) ≡ total (holds q') others =
                    ap (λ cs. total (holds q') (others_of cs)) mine in
                    let all_is : total (holds q') me.0.claims ≡ holds q' (claim q n true) + total (holds q') others =
                    ap (total (holds q')) mine in
                    same_list_trans q' seen h h' (f.current q' (omega arith)) (⊎_elim
                    (λ (e : q ≡ q').
                    let here : 0 < total (holds q) others = subst (λ (x : Queue). 0 < total (holds x) others) (sym e) (omega arith) in
                    let most = claimed_one (holds q) s.views id me.0 at in let one = turn.1 in absurd (omega arith))
                    (λ (a : Apart q q'). pushed_other h item q' a)
                    (same_or_apart q q'));
                uncut = λ held_too.
                    let rest_is : total (holds OfDesk) (others_of me.0.claims) ≡ total (holds OfDesk) others =
                    ap (λ cs. total (holds OfDesk) (others_of cs)) mine in
                    f.uncut (omega arith);
                added = record { mid = h; begins = begun; legal = r.lists_are.legal; seen_is = refl };
                alone = same;
              },
            ),
      )
