-- What a batch of all that was cut leads to tells a world that is kept.
use Rattle.std.proofs.Common.{◌≡◌, ◌⊎◌, inl, inr, ⊎_elim, ℕ, ◌≤◌, ◌<◌, Bool, true, false, ◌++◌, take, drop, Some, None, refl, sym, subst, arith}
use Rattle.std.specs.List.{AllByRecursion}
use Rattle.lane_histories.specs.Services.{Service, World}
use Rattle.lane_histories.specs.Histories.{History, RegisterCut, LaneItem, Passed, WasCut, Reach, IsIn, tickets, register_at, objects_after}
use Rattle.lane_histories.specs.Legal.{IsLegal}
use Rattle.lane_histories.specs.Kept.{HasCut, IsBelow, IsFrom, ToldWorld}
use Rattle.lane_histories.specs.Cuts.{IsWholeCut, last_cut, IsOfCuts}
use Rattle.lane_histories.specs.JournalContents.{JournalContents}
use Rattle.lane_histories.specs.KeptContents.{IsAsFar, TellsKept, IsKeptBatch}
use Rattle.lane_histories.proofs.Lists.{all_always, all_weaker, take_drop}
use Rattle.lane_histories.proofs.Orders.{InOrder, lane_ordered}
use Rattle.lane_histories.proofs.Growth.{from_behind, from_zero}
use Rattle.lane_histories.proofs.RegisterLists.{drawn_is_earlier, last_is_in, register_at_most, register_is_earlier}
use Rattle.lane_histories.proofs.Sound.{Backing}

module _ (s : Service) (j : JournalContents s) (start : World s) where
  module _ (h : History s) (legal : IsLegal s start h) (built : j.Content) (torn : ℕ → Bool) (backing : Backing s j start h built torn)
      (reach : Reach) (cut : (reach.c ≡ 0) ⊎ ((number : ℕ) × IsWholeCut s h number reach.c)) (register : last_cut None h.register ≡ Some reach.p) (whole : (l : ℕ) → l < s.lanes → torn l ≡ false) where
    never_last : None ≡ Some reach.p → ⊥
    never_last e = cc

    register_in : IsIn h.register (RegisterCut reach.p true)
    register_in = ⊎_elim (λ none. absurd (never_last none)) (λ here. here) (last_is_in s None reach.p h.register register)

    abbrev ks : ℕ → ℕ
    ks l = (backing.lanes l).k

    abbrev told_world : ToldWorld s
    told_world = record { catalogue = s.catalogue (register_at s reach.p start.register h.register); objects = λ l. objects_after s (start.objects l) (take (ks l) (h.lane l)) }

    c_at_most_p : reach.c ≤ reach.p
    c_at_most_p = ⊎_elim
        (λ (none : reach.c ≡ 0). omega arith)
        (λ some. drawn_is_earlier s start.register reach.p some.0 reach.c h.register legal.register register some.1.drawn)
        cut

    is_below : (c : ℕ) (i : LaneItem s.Task s.Reply) → c ≤ reach.p → IsBelow c i → IsBelow reach.p i
    is_below c (Passed place part task y) few below = omega arith
    is_below c (WasCut number at found) few below = tt

    below : (l : ℕ) → AllByRecursion (IsBelow reach.p) (take (ks l) (h.lane l))
    below l = ⊎_elim
        (λ (none : ks l ≡ 0). subst (λ (k : ℕ). AllByRecursion (IsBelow {T = s.Task} {R = s.Reply} reach.p) (take k (h.lane l))) (sym none) tt)
        (λ some. all_weaker _ _ _ (λ i. is_below some.1 i (drawn_is_earlier s start.register reach.p some.0 some.1 h.register legal.register register some.2)) some.3)
        (backing.lanes l).below

    from : (l : ℕ) → l < s.lanes → AllByRecursion (IsFrom reach.c) (drop (ks l) (h.lane l))
    from l few = ⊎_elim
        (λ (none : reach.c ≡ 0). subst (λ (c : ℕ). AllByRecursion (IsFrom {T = s.Task} {R = s.Reply} c) (drop (ks l) (h.lane l))) (sym none) (all_always _ _ (from_zero s)))
        (λ some.
        let order : InOrder (tickets (take (ks l) (h.lane l) ++ drop (ks l) (h.lane l))) = rw (take_drop (ks l) (h.lane l)) (lane_ordered s start h l legal) in
        from_behind s (take (ks l) (h.lane l)) (drop (ks l) (h.lane l)) some.0 reach.c true order ((backing.lanes l).cuts some.0 reach.c (some.1.everywhere l few)))
        cut

    has_cut : HasCut s h reach.c ks
    has_cut = ⊎_elim (λ none. inl none) (λ some. inr (some.0, some.1.drawn, λ l few. (true, (backing.lanes l).cuts some.0 reach.c (some.1.everywhere l few)))) cut

    pub built_tells : TellsKept s j start h built reach
    built_tells = record {
      world = told_world;
      told = record { catalogue = backing.register reach.p register; lanes = λ l few. (backing.lanes l).told few (whole l few) };
      kept = record {
        k = ks;
        kept = record {
          order = c_at_most_p;
          catalogue = refl;
          lanes = λ l few. record { few = (backing.lanes l).few; objects = s.alike_itself _ _; below = below l; all = from l few };
        };
        few = register_at_most s start.register reach.p true h.register legal.register register_in;
        cut = has_cut;
      };
    }

    -- it reaches at least as far as the desk's own numbers
    pub built_batch : (own : Reach) → IsAsFar own reach → IsKeptBatch s j start h own built reach
    built_batch own far = record { tells = built_tells; cuts = record { c = cut; p = inr register_in }; far = far }

    -- those of earlier cuts are no greater
    pub farther_than_cuts : (own : Reach) → IsOfCuts s h own → ((number e : ℕ) → IsWholeCut s h number e → e ≤ reach.c) → IsAsFar own reach
    farther_than_cuts own of_cuts last = record {
      c = ⊎_elim (λ (none : own.c ≡ 0). omega arith) (λ some. last some.0 own.c some.1) of_cuts.c;
      p = ⊎_elim (λ (none : own.p ≡ 0). omega arith) (λ here. register_is_earlier s start.register reach.p own.p true h.register legal.register register here) of_cuts.p;
    }
