-- The desk's turn.
use Rattle.std.proofs.Common.{◌≡◌, ⊎_elim, ℕ, ◌<◌, List, [], ◌∷◌, ◌++◌, true, false}
use Rattle.std.proofs.Common.{true≢false, Some, refl, sym, ap, ◌∙◌, subst, arith}
use Rattle.lane_histories.specs.Services.{Service}
use Rattle.lane_histories.specs.Histories.{own}
use Rattle.hall_rule.specs.declared.queue.Queue.TheVariants.{OfDesk}
use Rattle.hall_rule.specs.declared.queue.Claim.{Claim}
use Rattle.hall_rule.specs.declared.view.Start.{Start}
use Rattle.hall_rule.specs.declared.slot.Slot.TheVariants.{AtDesk}
use Rattle.hall_rule.specs.Sums.{times}
use Rattle.hall_rule.specs.Queues.{slot_of}
use Rattle.hall_rule.specs.Seen.{GrowsFrom, SeenLists}
use Rattle.hall_rule.specs.Seen.{pushed}
use Rattle.hall_rule.specs.Machines.{Machines}
use Rattle.hall_rule.specs.Claims.{claim}
use Rattle.hall_rule.specs.Standing.{HallSlot}
use Rattle.hall_rule.specs.Rule.{HallView, HallHand, seeing}
use Rattle.hall_rule.specs.Steps.{HasTaken, HasPassed}
use Rattle.hall_rule.specs.WholeTurns.{IsReadyToPass}
use Rattle.hall_rule.proofs.SeenLemmas.{begins_trans, begins_pushed}
use Rattle.std.specs.Prelude.{option_map}
use Rattle.lane_histories.specs.declared.items.Keeping.{Keeping}
use Rattle.hall_rule.specs.Seen.{at_desk}
use Rattle.hall_rule.specs.Rule.{names}
use Rattle.hall_rule.specs.Standing.{IsDeskOf}
use Rattle.hall_rule.specs.WholeTurns.{HasKept, MayDrawDesk}
use Rattle.std.specs.Prelude.{◌⊎◌}
use Rattle.hall_rule.specs.WholeTurns.{IsPass}

module _ {service : Service} {M N P E : Type 0} (m : Machines service M N P E) (start : Start M N E) where
  -- the desk has acted in its turn
  pub desk_ready : (me : HallHand service M N P E) (n : ℕ) (others : List Claim) (more : List (ℕ × HallSlot service M N P)) (d : P)
      (k : Keeping) → IsPass start me.0 → me.0.claims ≡ claim OfDesk n true ∷ others → me.1 ≡ (slot_of OfDesk, AtDesk d) ∷ more
      → m.news d ≡ Some k → IsDeskOf m start (pushed me.0.seen (at_desk k)) d → IsReadyToPass m start (at_desk k) me
  desk_ready me n others more d k pass mine carried news stands = record {
    number = n;
    others = others;
    slot = AtDesk d;
    more = more;
    live = pass.live;
    begun = pass.begun;
    no_guests = pass.no_guests;
    there = tt;
    is_claim = mine;
    is_slot = carried;
    news = ap (option_map at_desk) news;
    by = record { of_others = λ x ne h'. refl };
    next = tt;
    stands = stands;
    cuts = λ cut. absurd (true≢false (sym cut));
  }

  -- The pass drew a number of the desk and took its turn; then it went on to the lists `back.0.seen`, with no entry of its own, and
  -- passed the turn with this item.
  pub has_kept : (n : ℕ) (k : Keeping) (v : HallView service M N E) (first taken back : HallHand service M N P E) (w : HallView service M N E)
      → MayDrawDesk start v → first.0 ≡ record v { claims = claim OfDesk n false ∷ v.claims }
      → (t : HasTaken m start (claim OfDesk n false) v.claims first taken)
      → back.0 ≡ seeing taken.0 taken.0.claims back.0.seen → GrowsFrom back.0.seen t.seen → back.0.seen.keepings ≡ t.seen.keepings
      → ((x : ℕ) → 0 < times x (names v) → own x back.0.seen.register ≡ own x t.seen.register)
      → HasPassed m start (at_desk k) back.0 w → (kept : HasKept m start k v.claims v w) × (kept.before ≡ t.seen)
  has_kept n k v first taken back w may drew t went longer same own_same p =
      let h : SeenLists service N = back.0.seen in
      let mine : back.0 ≡ seeing v (claim OfDesk n true ∷ v.claims) h =
      went ∙ (λ i. seeing (t.is i).0 (t.is i).0.claims h) ∙ (λ i. seeing (drew i) (claim OfDesk n true ∷ v.claims) h) in
      let began = subst (λ (x : HallView service M N E). GrowsFrom t.seen x.seen) drew t.grown.begins in
      let owned = subst (λ (x : HallView service M N E). (y : ℕ) → 0 < times y (names x) → (0 < times y x.guests)
      ⊎ (own y t.seen.register ≡ own y x.seen.register)) drew t.grown.owns in
      kept_from h mine began owned longer same own_same (subst (λ (x : HallView service M N E). HasPassed m start (at_desk k) x w) mine p)
    where
      clear : (x : ℕ) → 0 < times x v.guests → ⊥
      clear x guest = let z : times x v.guests ≡ 0 = ap (times x) may.pass.no_guests in omega arith

      kept_from : (h : SeenLists service N) → back.0 ≡ seeing v (claim OfDesk n true ∷ v.claims) h → GrowsFrom t.seen v.seen
          → ((y : ℕ) → 0 < times y (names v) → (0 < times y v.guests) ⊎ (own y t.seen.register ≡ own y v.seen.register))
          → GrowsFrom h t.seen → h.keepings ≡ t.seen.keepings
          → ((x : ℕ) → 0 < times x (names v) → own x h.register ≡ own x t.seen.register)
          → HasPassed m start (at_desk k) (seeing v (claim OfDesk n true ∷ v.claims) h) w → (kept : HasKept m start k v.claims v w)
          × (kept.before ≡ t.seen)
      kept_from h mine began owned longer same own_same q = (
        record {
          before = t.seen;
          seen = q.seen;
          is = q.is;
          begins = began;
          longer = begins_trans q.seen (pushed h (at_desk k)) t.seen q.grown.begins
              (begins_trans (pushed h (at_desk k)) h t.seen (begins_pushed h (at_desk k) tt) longer);
          keepings = sym q.same ∙ ap (λ ks. ks ++ k ∷ []) same;
          own_same = λ x named.
              ⊎_elim (λ guest. let z : 0 < 0 = guest in absurd (omega arith)) (λ e. e) (q.grown.owns x named) ∙ own_same x named
              ∙ ⊎_elim (λ guest. absurd (clear x guest)) (λ e. e) (owned x named);
          legal = q.grown.legal;
          unused = q.grown.unused;
        },
        refl,
      )
