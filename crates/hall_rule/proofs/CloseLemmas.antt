-- The machines that a hall gives back.
use Rattle.std.proofs.Common.{◌≡◌, ◌≢◌, ℕ, zero, suc, ◌+◌, ◌<◌, ◌≤◌, List, [], ◌∷◌, set, get_or, length, length-set, get_or-set_same}
use Rattle.std.proofs.Common.{get_or-set_other, Bool, true, false, sym, ap, ◌∙◌, subst, arith}
use mathlib.Core.Option.{some, some-ne-none, some-injective}
use mathlib.Core.Logic.{dite}
use native.Mathlib.Decide.{ℕ_discrete}
use lib.ListN.{get_elem?}
use Rattle.lane_histories.specs.Services.{Service}
use Rattle.lane_histories.specs.Histories.{IsIn, entries, issued, own, tickets}
use Rattle.lane_histories.specs.declared.items.Entry.{Entry}
use Rattle.lane_histories.specs.declared.items.RegisterItem.TheVariants.{Entered}
use Rattle.hall_rule.specs.declared.queue.Queue.{Queue}
use Rattle.hall_rule.specs.declared.queue.Queue.TheVariants.{OfRegister, OfDesk, OfLane}
use Rattle.hall_rule.specs.declared.view.Start.{Start}
use Rattle.hall_rule.specs.declared.slot.Slot.TheVariants.{AtRegister, AtDesk, AtLane}
use Rattle.hall_rule.specs.Queues.{slot_of, IsQueue}
use Rattle.hall_rule.specs.Seen.{SeenLists, lane_of}
use Rattle.hall_rule.specs.Sums.{times}
use Rattle.hall_rule.specs.Machines.{Machines}
use Rattle.hall_rule.specs.Standing.{HallSlot, StandsFor}
use Rattle.hall_rule.specs.Rule.{names, FollowsRule, HallView, HallState}
use Rattle.hall_rule.specs.Steps.{HasGrown}
use Rattle.hall_rule.proofs.ShareStep.{closes}
use Rattle.hall_rule.proofs.TurnLemmas.{register_slot, desk_slot, lane_slot}
use Rattle.hall_rule.specs.declared.slot.RegisterSlot.{RegisterSlot}
use Rattle.hall_rule.specs.declared.slot.LaneSlot.{LaneSlot}
use Rattle.hall_rule.specs.Closes.{HasClosed}

pub slot_is : {X : Type 0} (xs : List X) (k : ℕ) (a b : X) → get_elem? xs k ≡ some a → get_elem? xs k ≡ some b → a ≡ b
slot_is xs k a b x y = some-injective a b (sym x ∙ y)

in_list : {X : Type 0} (xs : List X) (k : ℕ) (a : X) → get_elem? xs k ≡ some a → k < length xs
in_list [] k a e = absurd (some-ne-none a (sym e))
in_list (x ∷ xs) zero a e = omega arith
in_list (x ∷ xs) (suc k) a e = let more = in_list xs k a e in omega arith

-- after the register's and the desk's slots were taken, those of the lanes are full
pub two_taken : (f g h : List Bool) (len n : ℕ) → g ≡ set f 0 false → h ≡ set g 1 false → length f ≡ len → len ≡ n + 2
    → ((k : ℕ) → 0 ≤ k → k < len → get_or f k false ≡ true) → ((k : ℕ) → 2 ≤ k → k < n + 2 → get_or h k false ≡ true)
    × ((k : ℕ) → k < 2 → get_or h k false ≡ false)
two_taken f g h len n one two long count full = (
  λ k lo hi. ap (λ l. get_or l k false) two ∙ get_or-set_other g 1 k false false (λ e. absurd (omega (arith, e)))
      ∙ ap (λ l. get_or l k false) one ∙ get_or-set_other f 0 k false false (λ e. absurd (omega (arith, e)))
      ∙ full k (omega arith) (omega arith),
  λ k lt. ap (λ l. get_or l k false) two ∙ dite (ℕ_discrete k 1)
      (λ e. subst (λ (x : ℕ). get_or (set g 1 false) x false ≡ false) (sym e)
      (get_or-set_same g 1 false false (let l = ap length one ∙ length-set f 0 false in omega arith)))
      (λ ne. get_or-set_other g 1 k false false ne ∙ ap (λ l. get_or l k false) one
      ∙ (let zero_now : 0 ≡ k = (let apart : k ≢ 1 = ne in omega arith) in
      subst (λ (x : ℕ). get_or (set f 0 false) x false ≡ false) zero_now (get_or-set_same f 0 false false (omega arith)))),
)

module _ {service : Service} {M N P E : Type 0} (m : Machines service M N P E) (start : Start M N E) where
  -- the slots at the end stand for one history
  pub record AtEnd (v : HallView service M N E) (xs : List (HallSlot service M N P)) : Type 0 where
    pub seen : SeenLists service N
    pub grown : HasGrown m start v seen
    pub all_seen : entries seen.register ≡ entries v.seen.register
    pub named : (e : Entry service.Asked service.Verdict) → IsIn seen.register (Entered e) → 0 < times e.by (names v)
    pub strangers : (x : ℕ) → length (names v) ≤ x → own x seen.register ≡ []
    pub all_passed : (lane : ℕ) → tickets (lane_of seen.lanes lane) ≡ issued service lane seen.register
    pub there : (q : Queue) → IsQueue (length start.owners) q → (s : HallSlot service M N P) × (get_elem? xs (slot_of q) ≡ some s)
        × StandsFor m q s start seen

  pub at_end : (passes : ℕ) (s : HallState service M N P E) (xs : List (HallSlot service M N P)) (id : ℕ) (v : HallView service M N E)
      → FollowsRule m passes start s → get_elem? s.views id ≡ some v
      → ((k : ℕ) (y : HallSlot service M N P) → get_elem? s.homes k ≡ some (some y) → get_elem? xs k ≡ some y)
      → v.live ≡ true → v.claims ≡ [] → v.guests ≡ [] → length (names v) ≡ passes → AtEnd v xs
  at_end passes s xs id v r at same live idle alone whole =
      let e = closes m passes start s r id v at whole live idle alone in record {
        seen = e.0;
        grown = e.1;
        all_seen = e.2;
        named = e.3;
        strangers = e.4;
        all_passed = e.5;
        there = λ q is. let h = e.6 q is in (h.0, same (slot_of q) h.0 h.1, h.2);
      }

  pub end_register : (v : HallView service M N E) (xs : List (HallSlot service M N P)) → AtEnd v xs
      → (d : RegisterSlot M service.Asked service.Verdict) × (get_elem? xs 0 ≡ some (AtRegister d))
  end_register v xs e = let h = e.there OfRegister tt in let d = register_slot m start h.0 e.seen h.2 in (d.0, h.1 ∙ ap some d.1)

  pub end_desk : (v : HallView service M N E) (xs : List (HallSlot service M N P)) → AtEnd v xs → (d : P)
      × (get_elem? xs 1 ≡ some (AtDesk d))
  end_desk v xs e = let h = e.there OfDesk tt in let d = desk_slot m start h.0 e.seen h.2 in (d.0, h.1 ∙ ap some d.1)

  pub end_lane : (v : HallView service M N E) (xs : List (HallSlot service M N P)) (lane : ℕ) → lane < length start.owners → AtEnd v xs
      → (d : LaneSlot N service.Reply) × (get_elem? xs (lane + 2) ≡ some (AtLane d))
  end_lane v xs lane is e = let h = e.there (OfLane lane) is in let d = lane_slot m start lane h.0 e.seen h.2 in (d.0, h.1 ∙ ap some d.1)

  pub has_closed : (v : HallView service M N E) (xs : List (HallSlot service M N P)) (d : RegisterSlot M service.Asked service.Verdict)
      (k : P) (owners : List N) → AtEnd v xs → get_elem? xs 0 ≡ some (AtRegister d) → get_elem? xs 1 ≡ some (AtDesk k)
      → length owners ≡ length start.owners
      → ((lane : ℕ) → lane < length start.owners → (s : LaneSlot N service.Reply) × (get_elem? xs (lane + 2) ≡ some (AtLane s))
      × (get_elem? owners lane ≡ some s.owner)) → HasClosed m start v d.register owners k
  has_closed v xs d k owners e register desk count lanes =
      let r = e.there OfRegister tt in
      let w = e.there OfDesk tt in record {
        seen = e.seen;
        grown = e.grown;
        all_seen = e.all_seen;
        named = e.named;
        strangers = e.strangers;
        all_passed = e.all_passed;
        register_is = (subst (λ s. StandsFor m OfRegister s start e.seen) (slot_is xs 0 r.0 (AtRegister d) r.1 register) r.2);
        desk_is = (subst (λ s. StandsFor m OfDesk s start e.seen) (slot_is xs 1 w.0 (AtDesk k) w.1 desk) w.2);
        count = count;
        owners_are = λ lane is.
            let h = e.there (OfLane lane) is in
            let o = lanes lane is in
            (o.0.owner, o.2, subst (λ s. StandsFor m (OfLane lane) s start e.seen) (slot_is xs (lane + 2) h.0 (AtLane o.0) h.1 o.1) h.2);
      }

  pub closed_with : (v : HallView service M N E) (xs : List (HallSlot service M N P)) → AtEnd v xs
      → (register : M) (desk : P) (owners : List N)
      → ((d : RegisterSlot M service.Asked service.Verdict) × (get_elem? xs 0 ≡ some (AtRegister d)) × (register ≡ d.register))
      → get_elem? xs 1 ≡ some (AtDesk desk) → length owners ≡ length start.owners
      → ((lane : ℕ) → lane < length start.owners → (d : LaneSlot N service.Reply) × (get_elem? xs (lane + 2) ≡ some (AtLane d))
      × (get_elem? owners lane ≡ some d.owner)) → HasClosed m start v register owners desk
  closed_with v xs e register desk owners r d count lanes =
      subst (λ (x : M). HasClosed m start v x owners desk) (sym r.2) (has_closed v xs r.0 desk owners e r.1 d count lanes)
