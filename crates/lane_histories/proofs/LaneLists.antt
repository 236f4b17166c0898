-- A lane's list, and how it grows by one item; and functions with another value at one lane.
use Rattle.std.proofs.Common.{◌≡◌, ◌≢◌, ◌⊎◌, inl, inr, ⊎_elim, ℕ, Bool, cond, [], ◌∷◌, ◌++◌, refl, ap, sym, ◌∙◌, subst, append_assoc}
use Rattle.std.proofs.lemmas.Bool.Decides.{eqb_tells}
use Rattle.lane_histories.specs.Services.{Service}
use Rattle.lane_histories.specs.Histories.{LaneItem, ticket_of, tickets, objects_step, objects_after, changed_at, LaneList, TicketList}
use Rattle.lane_histories.specs.Legal.{IsLegalLaneItem, IsLegalLane}
use Rattle.lane_histories.proofs.Prefixes.{tickets_both}

module _ (s : Service) where
  pub lane_push : (o : s.Objects) (xs : LaneList s) (i : LaneItem s.Task s.Reply) → IsLegalLane s o xs
      → IsLegalLaneItem s (objects_after s o xs) i → IsLegalLane s o (xs ++ i ∷ [])
  lane_push o [] i legal may = (may, tt)
  lane_push o (x ∷ xs) i legal may = (legal.0, lane_push (objects_step s o x) xs i legal.1 may)

  pub objects_push : (o : s.Objects) (xs : LaneList s) (i : LaneItem s.Task s.Reply)
      → objects_after s o (xs ++ i ∷ []) ≡ objects_step s (objects_after s o xs) i
  objects_push o [] i = refl
  objects_push o (x ∷ xs) i = objects_push (objects_step s o x) xs i

  -- the next ticket passed, the tickets are still those that were issued
  pub tickets_push : (xs : LaneList s) (i : LaneItem s.Task s.Reply) (rest : TicketList s)
      → tickets (xs ++ i ∷ []) ++ rest ≡ tickets xs ++ ticket_of i ∷ rest
  tickets_push xs i rest = ap (λ t. t ++ rest) (tickets_both s xs (i ∷ [])) ∙ append_assoc (tickets xs) (ticket_of i ∷ []) rest

module _ {X : Type 0} (l : ℕ) (x : X) (f : ℕ → X) where
  pub at_case : (m : ℕ) → ((m ≡ l) × (changed_at l x f m ≡ x)) ⊎ ((m ≢ l) × (changed_at l x f m ≡ f m))
  at_case m = ⊎_elim
      (λ same. inl (sym same.1, ap (λ (b : Bool). cond b x (f m)) same.0))
      (λ other. inr ((λ e. other.1 (sym e)), ap (λ (b : Bool). cond b x (f m)) other.0))
      (eqb_tells l m)

  pub at_each : (P : ℕ → X → Type 0) → P l x → ((m : ℕ) → m ≢ l → P m (f m)) → (m : ℕ) → P m (changed_at l x f m)
  at_each P mine others m = ⊎_elim
      (λ (same : (m ≡ l) × (changed_at l x f m ≡ x)). subst (λ (p : ℕ × X). P p.0 p.1) (λ i. (sym same.0 i, sym same.1 i)) mine)
      (λ (other : (m ≢ l) × (changed_at l x f m ≡ f m)). subst (P m) (sym other.1) (others m other.0))
      (at_case m)

pub at_both : {X Y : Type 0} (l : ℕ) (x : X) (f : ℕ → X) (y : Y) (g : ℕ → Y) (P : ℕ → X → Y → Type 0) → P l x y
    → ((m : ℕ) → m ≢ l → P m (f m) (g m)) → (m : ℕ) → P m (changed_at l x f m) (changed_at l y g m)
at_both {X} {Y} l x f y g P mine others m = ⊎_elim
    (λ (same : (m ≡ l) × (changed_at l x f m ≡ x)). ⊎_elim
    (λ (also : (m ≡ l) × (changed_at l y g m ≡ y)). subst (λ (p : ℕ × X × Y). P p.0 p.1 p.2) (λ i. (sym same.0 i, sym same.1 i, sym also.1 i)) mine)
    (λ (other : (m ≢ l) × (changed_at l y g m ≡ g m)). absurd (other.0 same.0))
    (at_case l y g m))
    (λ (other : (m ≢ l) × (changed_at l x f m ≡ f m)). ⊎_elim
    (λ (same : (m ≡ l) × (changed_at l y g m ≡ y)). absurd (other.0 same.0))
    (λ (also : (m ≢ l) × (changed_at l y g m ≡ g m)). subst (λ (p : X × Y). P m p.0 p.1) (λ i. (sym other.1 i, sym also.1 i)) (others m other.0))
    (at_case l y g m))
    (at_case l x f m)
