-- One item more keeps a history legal.
use Rattle.std.proofs.Common.{◌≡◌, ◌≢◌, ◌⊎◌, inl, inr, ⊎_elim, ℕ, ◌<◌, not, [], ◌∷◌, ◌++◌, refl, ap, sym, ◌∙◌, subst, arith, append_assoc}
use Rattle.lane_histories.specs.Services.{Service, World}
use Rattle.lane_histories.specs.Histories.{RegisterItem, Keeping, First, Second, part_of, Outcome, LaneItem, Passed, ticket_of, History, IsIn, StartsWith, changed_at, tickets, tickets_of, issued, places, drawn, register_after, objects_after, LaneList}
use Rattle.lane_histories.specs.TicketOrder.{Precedes}
use Rattle.lane_histories.specs.Legal.{IsLegalRegisterItem, IsNext, IsPrefix, IsReached, IsReachedBy, IsLegalLaneItem, IsLegalLane, IsLegal, PairsAgree, SecondsFollow, is_skipped, is_well, with_register_item, with_keeping, with_lane_item}
use Rattle.lane_histories.proofs.Lists.{in_front, in_last, starts_itself}
use Rattle.lane_histories.proofs.Orders.{InOrder, behind, issued_ordered, lane_ordered, order_front, same_first}
use Rattle.lane_histories.proofs.RegisterLists.{register_push, issued_push}
use Rattle.lane_histories.proofs.LaneLists.{at_case, at_each, lane_push, tickets_push}

module _ (s : Service) (start : World s) (h : History s) (legal : IsLegal s start h) where
  -- ---- the register's list

  module _ (i : RegisterItem s.Asked s.Verdict) where
    pub register_longer : IsPrefix h (with_register_item h i)
    register_longer = record { register = (i ∷ [], refl); lane = λ l. starts_itself (h.lane l); keepings = starts_itself h.keepings }

    pub register_pushed : IsLegalRegisterItem s (register_after s start.register h.register) (places h.register) (drawn h.register) i
        → IsLegal s start (with_register_item h i)
    register_pushed may = record {
      register = register_push s start.register h.register i legal.register may;
      lanes = legal.lanes;
      in_order = λ l.
          let starts = legal.in_order l in
          (starts.0 ++ tickets_of s l i, issued_push s l h.register i ∙ ap (λ ts. ts ++ tickets_of s l i) starts.1 ∙ append_assoc (tickets (h.lane l)) starts.0 (tickets_of s l i));
      pairs = legal.pairs;
    }

  -- ---- the keepings' list

  module _ (keeping : Keeping) where
    pub keepings_longer : IsPrefix h (with_keeping h keeping)
    keepings_longer = record { register = starts_itself h.register; lane = λ l. starts_itself (h.lane l); keepings = (keeping ∷ [], refl) }

    pub keeping_pushed : IsLegal s start (with_keeping h keeping)
    keeping_pushed = record { register = legal.register; lanes = legal.lanes; in_order = legal.in_order; pairs = legal.pairs }

  -- ---- a lane's list

  module _ (l : ℕ) (item : LaneItem s.Task s.Reply) (next : IsNext s h l (ticket_of item)) where
    now_issued : issued s l h.register ≡ tickets (h.lane l ++ item ∷ []) ++ next.0
    now_issued = next.1 ∙ sym (tickets_push s (h.lane l) item next.0)

    -- the list with the item is in order
    now_ordered : InOrder (tickets (h.lane l ++ item ∷ []))
    now_ordered = order_front s _ next.0 (subst InOrder now_issued (issued_ordered s l start.register 0 0 h.register legal.register).order)

    pub earlier : (x : LaneItem s.Task s.Reply) → IsIn (h.lane l) x → Precedes (ticket_of x) (ticket_of item)
    earlier x here = (behind s (h.lane l) (item ∷ []) x now_ordered here).0

    pub lanes_longer : (m : ℕ) → StartsWith ((with_lane_item h l item).lane m) (h.lane m)
    lanes_longer = at_each l (h.lane l ++ item ∷ []) h.lane (λ m v. StartsWith v (h.lane m)) (item ∷ [], refl) (λ m other. starts_itself (h.lane m))

    pub lane_longer : IsPrefix h (with_lane_item h l item)
    lane_longer = record { register = starts_itself h.register; lane = lanes_longer; keepings = starts_itself h.keepings }

    item_in : (m : ℕ) (x : LaneItem s.Task s.Reply) → IsIn ((with_lane_item h l item).lane m) x → IsIn (h.lane m) x ⊎ ((m ≡ l) × (item ≡ x))
    item_in m x here = ⊎_elim
        (λ (same : (m ≡ l) × (changed_at l (h.lane l ++ item ∷ []) h.lane m ≡ h.lane l ++ item ∷ [])).
        let there : IsIn (h.lane l ++ item ∷ []) x = subst (λ (v : LaneList s). IsIn v x) same.1 here in
        ⊎_elim (λ old. inl (subst (λ (n : ℕ). IsIn (h.lane n) x) (sym same.0) old)) (λ new. inr (same.0, new)) (in_last (h.lane l) item x there))
        (λ (other : (m ≢ l) × (changed_at l (h.lane l ++ item ∷ []) h.lane m ≡ h.lane m)). inl (subst (λ (v : LaneList s). IsIn v x) other.1 here))
        (at_case l (h.lane l ++ item ∷ []) h.lane m)

    stays_in : (m : ℕ) (x : LaneItem s.Task s.Reply) → IsIn (h.lane m) x → IsIn ((with_lane_item h l item).lane m) x
    stays_in m x here = let more = lanes_longer m in subst (λ (xs : LaneList s). IsIn xs x) (sym more.1) (in_front _ more.0 x here)

    module _ (seconds : SecondsFollow s h.lane) (reached : IsReachedBy s h item) where
      -- the new item is a second turn
      second_new : (a place : ℕ) (task other : s.Task) (x y : Outcome s.Reply) → item ≡ Passed place (Second a) other y
          → IsIn (h.lane a) (Passed place First task x) → is_skipped y ≡ not (is_well s x)
      second_new a place task other x y is here =
          let there : IsReached s h place (Second a) y = subst (IsReachedBy s h) is reached in
          let same = same_first s (h.lane a) place task there.0 x there.1 (lane_ordered s start h a legal) here there.2 in
          let alike : x ≡ there.1 = cc in
          there.3 ∙ ap (λ (z : Outcome s.Reply). not (is_well s z)) (sym alike)

      -- a first turn comes once
      first_once : (place : ℕ) (task other : s.Task) (x z : Outcome s.Reply) → item ≡ Passed place First task x
          → IsIn (h.lane l) (Passed place First other z) → ⊥
      first_once place task other x z is here = never (subst (λ (i : LaneItem s.Task s.Reply). Precedes {T = s.Task} (part_of place First other) (ticket_of i)) is (earlier (Passed place First other z) here))
        where
          never : (place < place) ⊎ ((place ≡ place) × ⊥) → ⊥
          never both = ⊎_elim (λ less. omega arith) (λ pair. pair.1) both

      first_new : (a b place : ℕ) (task other : s.Task) (x y : Outcome s.Reply) → a ≡ l → item ≡ Passed place First task x
          → IsIn (h.lane b) (Passed place (Second a) other y) → ⊥
      first_new a b place task other x y here is later =
          let one = seconds a b place other y later in
          first_once place task one.0 x one.1 is (subst (λ (m : ℕ). IsIn (h.lane m) (Passed place First one.0 one.1)) here one.2)

      pairs_agree : PairsAgree s (with_lane_item h l item).lane
      pairs_agree a b place task other x y is_first is_second = ⊎_elim
          (λ (old_first : IsIn (h.lane a) (Passed place First task x)). ⊎_elim
          (λ old_second. legal.pairs a b place task other x y old_first old_second)
          (λ (new_second : (b ≡ l) × (item ≡ Passed place (Second a) other y)). second_new a place task other x y new_second.1 old_first)
          (item_in b _ is_second))
          (λ (new_first : (a ≡ l) × (item ≡ Passed place First task x)). ⊎_elim
          (λ old_second. absurd (first_new a b place task other x y new_first.0 new_first.1 old_second))
          (λ (new_second : (b ≡ l) × (item ≡ Passed place (Second a) other y)).
          let both : ◌≡◌ {A = LaneItem s.Task s.Reply} (Passed place First task x) (Passed place (Second a) other y) = sym new_first.1 ∙ new_second.1 in absurd (cc))
          (item_in b _ is_second))
          (item_in a _ is_first)

      pub seconds_pushed : SecondsFollow s (with_lane_item h l item).lane
      seconds_pushed a b place other y here = ⊎_elim
          (λ old. let one = seconds a b place other y old in (one.0, one.1, stays_in a _ one.2))
          (λ (new : (b ≡ l) × (item ≡ Passed place (Second a) other y)).
          let one : IsReached s h place (Second a) y = subst (IsReachedBy s h) new.1 reached in
          (one.0, one.1, stays_in a _ one.2))
          (item_in b _ here)

      pub lane_pushed : IsLegalLaneItem s (objects_after s (start.objects l) (h.lane l)) item → IsLegal s start (with_lane_item h l item)
      lane_pushed may = record {
        register = legal.register;
        lanes = at_each l (h.lane l ++ item ∷ []) h.lane (λ m v. IsLegalLane s (start.objects m) v) (lane_push s (start.objects l) (h.lane l) item (legal.lanes l) may) (λ m other. legal.lanes m);
        in_order = at_each l (h.lane l ++ item ∷ []) h.lane (λ m v. StartsWith (issued s m h.register) (tickets v)) (next.0, now_issued) (λ m other. legal.in_order m);
        pairs = pairs_agree;
      }
