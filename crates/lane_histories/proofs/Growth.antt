-- What is kept stays kept as the history grows.
use Rattle.std.proofs.Common.{◌≡◌, inl, inr, ⊎_elim, ℕ, zero, suc, ◌+◌, ◌<◌, ◌≤◌, Bool, [], ◌∷◌, ◌++◌, take, drop, refl, ap, sym, ◌∙◌, subst, arith, length-append}
use Rattle.std.specs.List.{AllByRecursion}
use Rattle.lane_histories.specs.Services.{Service, World}
use Rattle.lane_histories.specs.Histories.{Entered, DrawnCut, RegisterCut, LaneItem, Passed, WasCut, ticket_of, tickets, History, Reach, IsIn, places, register_at, cut_of, RegisterList, LaneList}
use Rattle.lane_histories.specs.TicketOrder.{Precedes}
use Rattle.lane_histories.specs.Legal.{IsPrefix, IsLegal}
use Rattle.lane_histories.specs.Kept.{HasCut, IsBelow, IsFrom, IsKept, IsKeptLane, IsKeptWith, ToldWorld}
use Rattle.lane_histories.specs.Laws.{StaysKept}
use Rattle.lane_histories.proofs.Lists.{all_always, all_both, all_weaker, drop_front, in_longer, in_take, take_front}
use Rattle.lane_histories.proofs.Orders.{InOrder, behind, lane_ordered}

module _ (s : Service) where
  at_zero : (d : s.Register) (xs : RegisterList s) → s.catalogue (register_at s 0 d xs) ≡ s.catalogue d
  at_zero d [] = refl
  at_zero d (DrawnCut number at ∷ xs) = at_zero (s.drawn d) xs ∙ s.catalogue_drawn d
  at_zero d (RegisterCut at found ∷ xs) = at_zero (s.recorded found d) xs ∙ s.catalogue_recorded found d
  at_zero d (Entered e ∷ xs) = refl

  -- the catalogue of a place is the same in a longer list
  pub at_longer : (n : ℕ) (d : s.Register) (xs ys : RegisterList s) → n ≤ places xs
      → s.catalogue (register_at s n d (xs ++ ys)) ≡ s.catalogue (register_at s n d xs)
  at_longer n d [] ys few = let none : n ≡ 0 = omega arith in rw none (at_zero d ys)
  at_longer n d (DrawnCut number at ∷ xs) ys few = at_longer n (s.drawn d) xs ys few
  at_longer n d (RegisterCut at found ∷ xs) ys few = at_longer n (s.recorded found d) xs ys few
  at_longer zero d (Entered e ∷ xs) ys few = refl
  at_longer (suc n) d (Entered e ∷ xs) ys few = at_longer n (s.decided d e.asked e.verdict) xs ys (omega arith)

  pub places_both : (xs ys : RegisterList s) → places (xs ++ ys) ≡ places xs + places ys
  places_both [] ys = omega arith
  places_both (Entered e ∷ xs) ys = let more = places_both xs ys in omega arith
  places_both (DrawnCut number at ∷ xs) ys = places_both xs ys
  places_both (RegisterCut at found ∷ xs) ys = places_both xs ys

  from_cut : (number c : ℕ) (i : LaneItem s.Task s.Reply) → Precedes {T = s.Task} (cut_of number c) (ticket_of i) → IsFrom c i
  from_cut number c (Passed place part task outcome) after = after
  from_cut number c (WasCut later at found) after = tt

  pub below_cut : (number c : ℕ) (i : LaneItem s.Task s.Reply) → Precedes {T = s.Task} (ticket_of i) (cut_of number c) → IsBelow c i
  below_cut number c (Passed place part task outcome) before = before
  below_cut number c (WasCut other at found) before = tt

  pub from_zero : (i : LaneItem s.Task s.Reply) → IsFrom 0 i
  from_zero (Passed place part task outcome) = omega arith
  from_zero (WasCut later at found) = tt

  -- behind a drawn cut at c places no item belongs to a place below c
  pub from_behind : (xs ys : LaneList s) (number c : ℕ) (found : Bool) → InOrder (tickets (xs ++ ys))
      → IsIn xs (WasCut number c found) → AllByRecursion (IsFrom c) ys
  from_behind xs ys number c found order here = all_weaker _ _ ys (from_cut number c) (behind s xs ys (WasCut number c found) order here)

  lane_stays : (catalogue : s.Catalogue) (o kept : s.Objects) (items more : LaneList s) (reach : Reach) (k : ℕ)
      → IsKeptLane s catalogue o kept items reach k → AllByRecursion (IsFrom reach.c) more
      → IsKeptLane s catalogue o kept (items ++ more) reach k
  lane_stays catalogue o kept items more reach k lane later =
      let front : take k (items ++ more) ≡ take k items = take_front k items more lane.few in
      let few = lane.few in
      let long = length-append items more in
      record {
        few = omega arith;
        objects = rw front lane.objects;
        below = rw front lane.below;
        all = rw (drop_front k items more few) (all_both _ (drop k items) more lane.all later);
      }

  module _ (start : World s) (h g : History s) (w : ToldWorld s) (reach : Reach) (kept : IsKept s start h w reach)
      (legal : IsLegal s start g) (prefix : IsPrefix h g) where
    -- nothing that comes later belongs to a place below c
    later_from : (l : ℕ) → l < s.lanes → AllByRecursion (IsFrom reach.c) (prefix.lane l).0
    later_from l below = ⊎_elim
        (λ (none : reach.c ≡ 0). subst (λ (c : ℕ). AllByRecursion (IsFrom {T = s.Task} {R = s.Reply} c) (prefix.lane l).0) (sym none) (all_always _ _ from_zero))
        (λ some.
        let more = prefix.lane l in
        let cut = some.2 l below in
        let order : InOrder (tickets (h.lane l ++ more.0)) = subst (λ (items : LaneList s). InOrder (tickets items)) more.1 (lane_ordered s start g l legal) in
        from_behind (h.lane l) more.0 some.0 reach.c cut.0 order (in_take (kept.k l) (h.lane l) _ cut.1))
        kept.cut

    same_front : (l : ℕ) → l < s.lanes → take (kept.k l) (g.lane l) ≡ take (kept.k l) (h.lane l)
    same_front l below = ap (take (kept.k l)) (prefix.lane l).1 ∙ take_front (kept.k l) (h.lane l) (prefix.lane l).0 (kept.kept.lanes l below).few

    stays_with : IsKeptWith s start g w reach kept.k
    stays_with = record {
      order = kept.kept.order;
      catalogue =
          let same = ap (λ (items : RegisterList s). s.catalogue (register_at s reach.p start.register items)) prefix.register.1 ∙ at_longer reach.p start.register h.register prefix.register.0 kept.few in
          kept.kept.catalogue ∙ sym same;
      lanes = λ l below.
          let more = prefix.lane l in
          let longer = lane_stays w.catalogue (start.objects l) (w.objects l) (h.lane l) more.0 reach (kept.k l) (kept.kept.lanes l below) (later_from l below) in
          subst (λ (items : LaneList s). IsKeptLane s w.catalogue (start.objects l) (w.objects l) items reach (kept.k l)) (sym more.1) longer;
    }

    stays_in : HasCut s g reach.c kept.k
    stays_in = ⊎_elim
        (λ none. inl none)
        (λ some. inr (some.0, in_longer _ _ _ prefix.register some.1, λ l below. let cut = some.2 l below in (cut.0, rw (same_front l below) cut.1)))
        kept.cut

    stays : IsKept s start g w reach
    stays =
        let few = kept.few in
        let more = ap places prefix.register.1 ∙ places_both h.register prefix.register.0 in
        record { k = kept.k; kept = stays_with; few = omega arith; cut = stays_in }

  pub stays_kept : StaysKept s
  stays_kept start h g w reach kept legal prefix = stays start h g w reach kept legal prefix
