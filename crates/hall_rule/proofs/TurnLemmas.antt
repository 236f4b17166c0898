-- A look and a pass make a whole turn, and what the calls have in hand between the two.
use Rattle.std.proofs.Common.{◌≡◌, ⊎_elim, ℕ, ◌+◌, ◌%◌, ◌^◌, ◌<◌, ◌≤◌, List, [], ◌∷◌, ◌++◌, length, cond, Bool, true, false}
use Rattle.std.proofs.Common.{Some, refl, sym, ap, ◌∙◌, subst, arith}
use mathlib.Core.Option.{none}
use Rattle.atomic_table.specs.Table.{step, Allows, rest}
use Rattle.lane_histories.specs.Services.{Service}
use Rattle.lane_histories.specs.Histories.{StartsWith, places}
use Rattle.lane_histories.specs.declared.items.RegisterItem.{RegisterItem}
use Rattle.lane_histories.specs.declared.items.Part.{Part}
use Rattle.lane_histories.specs.declared.items.RegisterItem.TheVariants.{Entered, DrawnCut, RegisterCut}
use Rattle.hall_rule.specs.declared.queue.Queue.{Queue}
use Rattle.hall_rule.specs.declared.queue.Queue.TheVariants.{OfRegister, OfDesk, OfLane}
use Rattle.hall_rule.specs.declared.queue.Claim.{Claim}
use Rattle.hall_rule.specs.declared.view.View.{View}
use Rattle.hall_rule.specs.declared.view.Start.{Start}
use Rattle.hall_rule.specs.declared.slot.Slot.TheVariants.{Away, AtRegister, AtDesk, AtLane}
use Rattle.hall_rule.specs.Sums.{total, times}
use Rattle.hall_rule.specs.Queues.{limit_of, word_of, IsQueue}
use Rattle.hall_rule.specs.Seen.{SeenLists, Item, queue_of}
use Rattle.hall_rule.specs.Machines.{Machines}
use Rattle.hall_rule.specs.Claims.{claim, is_desk, busy}
use Rattle.hall_rule.specs.Standing.{HallSlot, StandsFor}
use Rattle.hall_rule.specs.Rule.{FollowsRule, HallView, HallHand, seeing}
use Rattle.hall_rule.specs.Steps.{HasTaken, HasPassed, HasLookedAt, HasLooked, others_of, head_news, PassesTurn}
use Rattle.hall_rule.specs.WholeTurns.{IsReadyToPass}
use Rattle.hall_rule.specs.Joins.{HasJoined}
use Rattle.hall_rule.proofs.QueueLemmas.{word_in}
use Rattle.hall_rule.proofs.SeenLemmas.{begins_trans, same_list_trans}
use Rattle.hall_rule.proofs.LookStep.{looks}
use Rattle.hall_rule.proofs.PassStep.{passes_turn}
use Rattle.std.specs.Prelude.{max}
use Rattle.hall_rule.specs.declared.slot.RegisterSlot.{RegisterSlot}
use Rattle.hall_rule.specs.declared.slot.LaneSlot.{LaneSlot}
use Rattle.hall_rule.specs.WholeTurns.{MayDraw, MayLook, HasTurned, MayAct}
use Rattle.hall_rule.specs.Standing.{IsDeskOf, IsOwnerOf, IsRegisterOf}
use Rattle.hall_rule.specs.WholeTurns.{MayCutLane, MayDrawDesk}
use Rattle.hall_rule.proofs.SeenLemmas.{goes_trans}

-- the slot that was taken last was read, and then written
pub swapped : {Z V : Type 0} (me₁ me₂ me₃ : V × List (ℕ × Z)) (i j : ℕ) (x : V) (s old away new : Z) (more : List (ℕ × Z))
    → me₁ ≡ (x, (j, s) ∷ more) → i ≡ j
    → me₁.1 ≡ (i, old) ∷ rest me₁.1 → me₂ ≡ (me₁.0, (i, away) ∷ rest me₁.1) → me₃ ≡ (me₂.0, (i, new) ∷ rest me₂.1)
    → (me₃ ≡ (x, (j, new) ∷ more)) × (old ≡ s)
swapped {Z} {V} me₁ me₂ me₃ i j x s old away new more is same found out back =
    let both : (i, old) ∷ rest me₁.1 ≡ (j, s) ∷ more = sym found ∙ ap (λ (y : V × List (ℕ × Z)). y.1) is in
    let here : old ≡ s = head both in
    (back ∙ (λ k. ((out k).0, (same k, new) ∷ rest (out k).1)) ∙ (λ k. ((is k).0, (j, new) ∷ rest (is k).1)), here)
  where
    head : (i, old) ∷ rest me₁.1 ≡ (j, s) ∷ more → old ≡ s
    head e = let p : (let a : ℕ × Z = (i, old) in let b : ℕ × Z = (j, s) in a ≡ b) = cc in ap (λ (y : ℕ × Z). y.1) p

-- what was taken last is what an exchange may read
pub in_hand : {Z V : Type 0} (me : V × List (ℕ × Z)) (i j : ℕ) (x : V) (s : Z) (more : List (ℕ × Z)) → me ≡ (x, (j, s) ∷ more) → i ≡ j
    → (old : Z) × (me.1 ≡ (i, old) ∷ rest me.1)
in_hand {Z} {V} me i j x s more is same =
    let there : me.1 ≡ (j, s) ∷ more = ap (λ (y : V × List (ℕ × Z)). y.1) is in
    (s, there ∙ (λ k. (sym same k, s) ∷ rest (sym there k)))

-- what an exchange reads is what was taken last
pub read_here : {Z V : Type 0} (me : V × List (ℕ × Z)) (i j : ℕ) (x : V) (s old : Z) (more : List (ℕ × Z)) → me ≡ (x, (j, s) ∷ more) → i ≡ j
    → me.1 ≡ (i, old) ∷ rest me.1 → old ≡ s
read_here {Z} {V} me i j x s old more is same found = second (sym found ∙ ap (λ (y : V × List (ℕ × Z)). y.1) is)
  where
    second : (i, old) ∷ rest me.1 ≡ (j, s) ∷ more → old ≡ s
    second e = let p : (let a : ℕ × Z = (i, old) in let b : ℕ × Z = (j, s) in a ≡ b) = cc in ap (λ (y : ℕ × Z). y.1) p

module _ {service : Service} {M N P E : Type 0} (m : Machines service M N P E) (start : Start M N E) where
  pub register_slot : (s : HallSlot service M N P) (h : SeenLists service N) → StandsFor m OfRegister s start h
      → (d : RegisterSlot M service.Asked service.Verdict) × (s ≡ AtRegister d)
  register_slot Away h ok = absurd ok
  register_slot (AtRegister d) h ok = (d, refl)
  register_slot (AtDesk d) h ok = absurd ok
  register_slot (AtLane d) h ok = absurd ok

  pub desk_slot : (s : HallSlot service M N P) (h : SeenLists service N) → StandsFor m OfDesk s start h → (d : P) × (s ≡ AtDesk d)
  desk_slot Away h ok = absurd ok
  desk_slot (AtRegister d) h ok = absurd ok
  desk_slot (AtDesk d) h ok = (d, refl)
  desk_slot (AtLane d) h ok = absurd ok

  pub lane_slot : (lane : ℕ) (s : HallSlot service M N P) (h : SeenLists service N) → StandsFor m (OfLane lane) s start h
      → (d : LaneSlot N service.Reply) × (s ≡ AtLane d)
  lane_slot lane Away h ok = absurd ok
  lane_slot lane (AtRegister d) h ok = absurd ok
  lane_slot lane (AtDesk d) h ok = absurd ok
  lane_slot lane (AtLane d) h ok = (d, refl)

  -- a look and a pass make a whole turn
  pub turned : (item : Item service.Asked service.Verdict service.Task service.Reply N) (n : ℕ) (others : List Claim)
      (first taken back : HallHand service M N P E) (w : HallView service M N E) → first.0.guests ≡ []
      → (t : HasTaken m start (claim (queue_of item) n false) others first taken)
      → back.0 ≡ seeing first.0 (claim (queue_of item) n true ∷ others) t.seen → HasPassed m start item back.0 w
      → (tu : HasTurned m start item others first.0 w) × (tu.before ≡ t.seen)
  turned item n others first taken back w empty t is p =
      go (subst (λ x. HasPassed m start item x w) is p)
    where
      clear : (x : ℕ) → 0 < times x first.0.guests → ⊥
      clear x guest = let z : times x first.0.guests ≡ 0 = ap (times x) empty in omega arith

      go : HasPassed m start item (seeing first.0 (claim (queue_of item) n true ∷ others) t.seen) w
          → (tu : HasTurned m start item others first.0 w) × (tu.before ≡ t.seen)
      go q = (
        record {
          before = t.seen;
          seen = q.seen;
          is = q.is;
          begins = t.grown.begins;
          own_before = λ x named. ⊎_elim (λ guest. absurd (clear x guest)) (λ same. same) (t.grown.owns x named);
          same = q.same;
          longer = q.grown.begins;
          own_after = λ x named. ⊎_elim (λ guest. let z : 0 < 0 = guest in absurd (omega arith)) (λ same. same) (q.grown.owns x named);
          legal = q.grown.legal;
          unused = q.grown.unused;
          kept = λ x held. same_list_trans x first.0.seen t.seen q.seen (t.kept x held) (q.kept x held);
          added = record {
            mid = q.added.mid;
            begins = begins_trans q.added.mid t.seen first.0.seen q.added.begins t.grown.begins;
            legal = q.added.legal;
            seen_is = q.added.seen_is;
          };
          alone = q.alone;
          uncut = λ held. goes_trans q.added.mid t.seen first.0.seen (q.uncut held) (t.uncut held);
        },
        refl,
      )

  pub was_passed : (item : Item service.Asked service.Verdict service.Task service.Reply N) (k : ℕ) (me me' : HallHand service M N P E)
      → IsReadyToPass m start item me → PassesTurn m (step k k k k none) me k me' → (me'.1 ≡ rest me.1) × HasPassed m start item me.0 me'.0
  was_passed item k me me' ready told =
      let found : head_news m me.0.seen me.0.number me.0.claims me.1 ≡ Some item =
      ap (λ (x : List Claim × List (ℕ × HallSlot service M N P)). head_news m me.0.seen me.0.number x.0 x.1)
      (λ i. (ready.is_claim i, ready.is_slot i)) ∙ ready.news in
      let t = told item found in
      let starts : Some t.0 ≡ Some start = sym t.2.grown.start_is ∙ ready.begun in
      let is : t.0 ≡ start = cc in
      (t.1, subst (λ (x : Start M N E). HasPassed m x item me.0 me'.0) is t.2)

  pub took_register : (n : ℕ) (others : List Claim) (me me' : HallHand service M N P E)
      → (t : HasTaken m start (claim OfRegister n false) others me me') → (d : RegisterSlot M service.Asked service.Verdict)
      × (t.slot ≡ AtRegister d)
  took_register n others me me' t = register_slot t.slot t.seen t.stands

  pub took_lane : (lane n : ℕ) (others : List Claim) (me me' : HallHand service M N P E)
      → (t : HasTaken m start (claim (OfLane lane) n false) others me me') → (d : LaneSlot N service.Reply) × (t.slot ≡ AtLane d)
  took_lane lane n others me me' t = lane_slot lane t.slot t.seen t.stands

  pub took_desk : (n : ℕ) (others : List Claim) (me me' : HallHand service M N P E)
      → (t : HasTaken m start (claim OfDesk n false) others me me')
      → (d : P) × (t.slot ≡ AtDesk d)
  took_desk n others me me' t = desk_slot t.slot t.seen t.stands

  -- the machine that was taken stands for its list
  pub register_stands : (n : ℕ) (others : List Claim) (me me' : HallHand service M N P E) (d : RegisterSlot M service.Asked service.Verdict)
      → (t : HasTaken m start (claim OfRegister n false) others me me') → t.slot ≡ AtRegister d
      → IsRegisterOf m start t.seen.register d.register
  register_stands n others me me' d t here = subst (λ s. StandsFor m OfRegister s start t.seen) here t.stands

  pub lane_stands : (lane n : ℕ) (others : List Claim) (me me' : HallHand service M N P E) (d : LaneSlot N service.Reply)
      → (t : HasTaken m start (claim (OfLane lane) n false) others me me') → t.slot ≡ AtLane d
      → IsOwnerOf m start t.seen lane d.owner
  lane_stands lane n others me me' d t here = subst (λ s. StandsFor m (OfLane lane) s start t.seen) here t.stands

  pub desk_stands : (n : ℕ) (others : List Claim) (me me' : HallHand service M N P E) (d : P)
      → (t : HasTaken m start (claim OfDesk n false) others me me') → t.slot ≡ AtDesk d → IsDeskOf m start t.seen d
  desk_stands n others me me' d t here = subst (λ s. StandsFor m OfDesk s start t.seen) here t.stands

  -- a turn is the same, whatever was in hand when it was drawn
  undrawn : (item : Item service.Asked service.Verdict service.Task service.Reply N) (others claims : List Claim)
      (v w : HallView service M N E) (h : SeenLists service N) → (t : HasTurned m start item others (record v { claims = claims }) w)
      × (t.before ≡ h) → (t : HasTurned m start item others v w) × (t.before ≡ h)
  undrawn item others claims v w h t = (
    record {
      before = t.0.before;
      seen = t.0.seen;
      is = t.0.is;
      begins = t.0.begins;
      own_before = t.0.own_before;
      same = t.0.same;
      longer = t.0.longer;
      own_after = t.0.own_after;
      legal = t.0.legal;
      unused = t.0.unused;
      kept = t.0.kept;
      added = record {
        mid = t.0.added.mid;
        begins = t.0.added.begins;
        legal = t.0.added.legal;
        seen_is = t.0.added.seen_is;
      };
      alone = t.0.alone;
      uncut = t.0.uncut;
    },
    t.1,
  )

  -- what the turn of a drawn number does to the view that drew it
  pub drawn_turn : (item : Item service.Asked service.Verdict service.Task service.Reply N) (n : ℕ) (others : List Claim)
      (v : HallView service M N E) (first taken back : HallHand service M N P E) (w : HallView service M N E) → v.guests ≡ []
      → first.0 ≡ record v { claims = claim (queue_of item) n false ∷ others }
      → (t : HasTaken m start (claim (queue_of item) n false) others first taken)
      → back.0 ≡ seeing first.0 (claim (queue_of item) n true ∷ others) t.seen → HasPassed m start item back.0 w
      → (tu : HasTurned m start item others v w) × (tu.before ≡ t.seen)
  drawn_turn item n others v first taken back w empty is t mine p =
      undrawn item others (claim (queue_of item) n false ∷ others) v w t.seen
      (subst (λ (x : HallView service M N E). (tu : HasTurned m start item others x w) × (tu.before ≡ t.seen)) is
      (turned item n others first taken back w (ap (λ (x : HallView service M N E). x.guests) is ∙ empty) t mine p))

module _ {service : Service} {M N P E : Type 0} (m : Machines service M N P E) (passes : ℕ) (start : Start M N E) where
  -- the steps as the calls make them: at a word that a number names
  pub passes_at : (slots id : ℕ) (me : HallHand service M N P E) (item : Item service.Asked service.Verdict service.Task service.Reply N)
      (q : Queue) (i : ℕ) → i ≡ word_of q → queue_of item ≡ q → IsReadyToPass m start item me
      → Allows (FollowsRule m passes start) slots id me i (λ n. (n + 1) % 2 ^ 64) (PassesTurn m (step slots i 1 0 none) me)
  passes_at slots id me item q i there on ready =
      subst (λ (x : ℕ). Allows (FollowsRule m passes start) slots id me x (λ n. (n + 1) % 2 ^ 64) (PassesTurn m (step slots x 1 0 none) me))
      (ap word_of on ∙ sym there) (passes_turn m passes start slots id me item ready)

  pub looks_at : (slots id : ℕ) (me : HallHand service M N P E) (q : Queue) (n : ℕ) (others : List Claim) (i : ℕ) → i ≡ word_of q
      → me.0.live ≡ true → IsQueue (length start.owners) q → me.0.claims ≡ claim q n false ∷ others
      → cond (is_desk q) 0 1 + total busy others ≤ 1
      → Allows (FollowsRule m passes start) slots id me i (λ n. n) (HasLooked m (step slots i 0 0 none) me)
  looks_at slots id me q n others i there live is mine one =
      subst (λ (x : ℕ). Allows (FollowsRule m passes start) slots id me x (λ n. n) (HasLooked m (step slots x 0 0 none) me)) (sym there)
      (looks m passes start slots id me q n others live is mine one)

module _ {service : Service} {M N P E : Type 0} (m : Machines service M N P E) (start : Start M N E) where
  -- a look that shows the number takes the turn, whatever looks came before it
  pub looked_turn : (q : Queue) (n k : ℕ) (others : List Claim) (first me me' : HallHand service M N P E) → me ≡ first
      → first.0.start ≡ Some start → first.0.claims ≡ claim q n false ∷ others → HasLookedAt m me.0.claims me k me' → k ≡ n → n < limit_of q
      → HasTaken m start (claim q n false) others first me'
  looked_turn q n k others first me me' same begun mine looked_at shown early =
      let t = (subst (λ cs. HasLookedAt m cs me k me') (ap (λ (x : HallHand service M N P E). x.0.claims) same ∙ mine) looked_at).0 shown
      early in
      let starts : Some t.0 ≡ Some start = sym t.1.grown.start_is ∙ ap (λ (x : HallHand service M N P E). x.0.start) same ∙ begun in
      let is : t.0 ≡ start = cc in
      subst (λ (x : Start M N E × HallHand service M N P E). HasTaken m x.0 (claim q n false) others x.1 me') (λ i. (is i, same i)) t.1

pub word_there : (i n lanes words : ℕ) (q : Queue) → i ≡ word_of q → IsQueue n q → n ≡ lanes → words ≡ lanes + 4 → i < words
word_there i n lanes words q at is same count = let w = word_in n q is in omega arith

-- who drew a number may wait for its turn
pub may_look : {Q V T R M N E : Type 0} (start : Start M N E) (n : ℕ) (v w : View Q V T R N (Start M N E)) → MayDraw start v
    → w ≡ record v { claims = claim OfRegister n false ∷ v.claims } → MayLook start OfRegister n v.claims w
may_look start n v w may is = subst (MayLook start OfRegister n v.claims) (sym is) record {
  live = may.pass.live;
  begun = may.pass.begun;
  there = tt;
  is_claim = refl;
  one_turn = let none_held = may.no_turn in omega arith;
}

pub may_look_desk : {Q V T R M N E : Type 0} (start : Start M N E) (n : ℕ) (v w : View Q V T R N (Start M N E)) → MayDrawDesk start v
    → w ≡ record v { claims = claim OfDesk n false ∷ v.claims } → MayLook start OfDesk n v.claims w
may_look_desk start n v w may is = subst (MayLook start OfDesk n v.claims) (sym is) record {
  live = may.pass.live;
  begun = may.pass.begun;
  there = tt;
  is_claim = refl;
  one_turn = let none_held = may.no_turn in omega arith;
}

-- who has a ticket may wait for its turn
pub may_look_lane : (service : Service) {M N E : Type 0} (start : Start M N E) (lane n place : ℕ) (part : Part) (task : service.Task)
    (skip : Bool) (v : HallView service M N E) → MayAct service start lane n place part task skip v
    → MayLook start (OfLane lane) n (others_of v.claims) v
may_look_lane service start lane n place part task skip v may = record {
  live = may.pass.live;
  begun = may.pass.begun;
  there = may.there;
  is_claim = may.is_claim;
  one_turn = let none_held = may.no_turn in omega arith;
}

pub may_look_cut : (service : Service) {M N E : Type 0} (start : Start M N E) (lane n cut place : ℕ) (v : HallView service M N E)
    → MayCutLane service start lane n cut place v → MayLook start (OfLane lane) n (others_of v.claims) v
may_look_cut service start lane n cut place v may = record {
  live = may.pass.live;
  begun = may.pass.begun;
  there = may.there;
  is_claim = may.is_claim;
  one_turn = let none_held = may.no_turn in omega arith;
}

pub places_append : {Q V : Type 0} (xs ys : List (RegisterItem Q V)) → places (xs ++ ys) ≡ places xs + places ys
places_append [] ys = omega arith
places_append (Entered e ∷ xs) ys = let more = places_append xs ys in omega arith
places_append (DrawnCut number c ∷ xs) ys = places_append xs ys
places_append (RegisterCut p found ∷ xs) ys = places_append xs ys

pub places_begin : {Q V : Type 0} (a b : List (RegisterItem Q V)) → StartsWith a b → places b ≤ places a
places_begin a b s = let e = ap places s.1 ∙ places_append b s.0 in omega arith

module _ {service : Service} {M N P E : Type 0} (m : Machines service M N P E) (start : Start M N E) where
  -- the greater of the two fronts is at most what the pass has seen
  pub joined_front : (a b : ℕ) (v w u : HallView service M N E) → a ≤ places v.seen.register → b ≤ places w.seen.register
      → HasJoined m start v w u → max a b ≤ places u.seen.register
  joined_front a b v w u low high j =
      let x = places_begin j.seen.register v.seen.register j.mine_begin.register in
      let y = places_begin j.seen.register w.seen.register j.theirs_begin.register in
      let same : places u.seen.register ≡ places j.seen.register = ap (λ (z : HallView service M N E). places z.seen.register) j.is in
      omega arith
