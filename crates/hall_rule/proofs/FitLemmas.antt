-- What the rule says of each view, after a step of its own or of another's.
use Rattle.std.proofs.Common.{◌≡◌, ◌≢◌, inl, inr, ⊎_elim, ℕ, zero, suc, ◌+◌, ◌<◌, ◌≤◌, List, [], ◌∷◌, ◌++◌, set, length, cond, Bool, true}
use Rattle.std.proofs.Common.{false, true≢false, refl, sym, ap, ◌∙◌, subst, arith}
use Rattle.std.specs.Prelude.{nat_lt}
use mathlib.Core.Option.{some, some-injective}
use Rattle.std.proofs.lemmas.Bool.{ltb-true}
use lib.ListN.{get_elem?}
use Rattle.atomic_table.proofs.Lists.{at_set}
use Rattle.lane_histories.specs.Services.{Service}
use Rattle.lane_histories.specs.Histories.{own}
use Rattle.lane_histories.specs.Legal.{IsLegal}
use Rattle.hall_rule.specs.declared.queue.Queue.{Queue}
use Rattle.hall_rule.specs.declared.queue.Queue.TheVariants.{OfRegister, OfDesk}
use Rattle.hall_rule.specs.declared.queue.Claim.{Claim}
use Rattle.hall_rule.specs.declared.view.View.{View}
use Rattle.hall_rule.specs.declared.view.Start.{Start}
use Rattle.hall_rule.specs.Sums.{total, times, once_below}
use Rattle.hall_rule.specs.Seen.{GrowsFrom, GrowsUncut, SameList, SeenLists, history_of}
use Rattle.hall_rule.specs.Machines.{Machines, world_of}
use Rattle.hall_rule.specs.Claims.{numbers, holds, busy}
use Rattle.hall_rule.specs.Rule.{names, claimed, alive, AreNamedOnce, IsViewOf, HallView, seeing}
use Rattle.hall_rule.specs.Steps.{HasGrown}
use Rattle.hall_rule.proofs.Sums.{total_set, total_one, total_two, total_le, times_append, times_here, once_le}
use Rattle.hall_rule.proofs.SeenLemmas.{begins_refl, begins_trans, goes_refl, goes_trans, same_list_refl, same_list_trans}

pub below_once : (x n : ℕ) → 1 ≤ once_below x n → x < n
below_once x n one = go (nat_lt x n) refl
  where
    go : (b : Bool) → nat_lt x n ≡ b → x < n
    go true e = ltb-true x n e
    go false e = let z : once_below x n ≡ 0 = ap (λ (c : Bool). cond {A = ℕ} c 1 0) e in absurd (omega arith)

module _ {Q V T R N X : Type 0} where
  pub number_named : (v : View Q V T R N X) → v.live ≡ true → 1 ≤ times v.number (names v)
  number_named v e = subst (λ b. 1 ≤ times v.number (cond b (v.number ∷ (v.spare ++ v.joined)) [])) (sym e)
      (let h = times_here v.number (v.spare ++ v.joined) in omega arith)

  pub spare_named : (v : View Q V T R N X) (x : ℕ) → v.live ≡ true → times x v.spare ≤ times x (names v)
  spare_named v x e = subst (λ b. times x v.spare ≤ times x (cond b (v.number ∷ (v.spare ++ v.joined)) [])) (sym e)
      (let h = times_append x v.spare v.joined in omega arith)

  pub spare_apart : (v : View Q V T R N X) (x : ℕ) → v.live ≡ true → times x (names v) ≤ 1 → 0 < times x v.spare → v.number ≢ x
  spare_apart v x e most some_spare same =
      let twice : times x v.spare + 1 ≤ times x (names v) =
      subst (λ b. times x v.spare + 1 ≤ times x (cond b (v.number ∷ (v.spare ++ v.joined)) [])) (sym e)
      (subst (λ y. times x v.spare + 1 ≤ times x (y ∷ (v.spare ++ v.joined))) (sym same)
      (let h = times_append x v.spare v.joined in let k = times_here x (v.spare ++ v.joined) in omega arith)) in
      omega arith

  pub alive_named : (v : View Q V T R N X) → alive v ≤ length (names v)
  alive_named v = go v.live
    where
      go : (b : Bool) → cond b 1 0 ≤ length (cond b (v.number ∷ (v.spare ++ v.joined)) [])
      go true = omega arith
      go false = omega arith

  -- names that stay are named as before
  pub names_stay : (passes : ℕ) (views : List (View Q V T R N X)) (id : ℕ) (v w : View Q V T R N X) → get_elem? views id ≡ some v
      → names w ≡ names v → AreNamedOnce passes views → AreNamedOnce passes (set views id w)
  names_stay passes views id v w at same ok = record {
    few = ok.few;
    named = λ x. let e = total_set (λ (u : View Q V T R N X). times x (names u)) views id v w at in let f = ok.named x in
        let g : times x (names w) ≡ times x (names v) = ap (times x) same in omega arith;
    all_names = let e = total_set (λ (u : View Q V T R N X). length (names u)) views id v w at in let f = ok.all_names in
        let g : length (names w) ≡ length (names v) = ap length same in omega arith;
  }

  -- a name stands once, and is below `passes`
  pub named_once : (passes : ℕ) (views : List (View Q V T R N X)) (id : ℕ) (v : View Q V T R N X) (x : ℕ) → get_elem? views id ≡ some v
      → AreNamedOnce passes views → times x (names v) ≤ 1
  named_once passes views id v x at ok = let a = total_one (λ (u : View Q V T R N X). times x (names u)) views id v at in
      let b = ok.named x in let c = once_le x passes in omega arith

  pub number_below : (passes : ℕ) (views : List (View Q V T R N X)) (id : ℕ) (v : View Q V T R N X) → get_elem? views id ≡ some v
      → v.live ≡ true → AreNamedOnce passes views → v.number < passes
  number_below passes views id v at live ok =
      let a = number_named v live in let b = total_one (λ (u : View Q V T R N X). times v.number (names u)) views id v at in
      let c = ok.named v.number in below_once v.number passes (omega arith)

  -- another view doesn't have this pass's number
  pub others_apart : (passes : ℕ) (views : List (View Q V T R N X)) (id j : ℕ) (v u : View Q V T R N X) (x : ℕ) → get_elem? views id ≡ some v
      → j ≢ id → get_elem? views j ≡ some u → v.live ≡ true → AreNamedOnce passes views → 0 < times x (names u) → v.number ≢ x
  others_apart passes views id j v u x at other there live ok named same =
      let a = total_two (λ (w : View Q V T R N X). times x (names w)) views j id u v other there at in let b = ok.named x in
      let c = once_le x passes in
      let d : 1 ≤ times x (names v) = subst (λ y. 1 ≤ times y (names v)) same (number_named v live) in omega arith

  -- no more register numbers are in hand than there are passes
  pub few_claims : (q : Queue) (passes : ℕ) (views : List (View Q V T R N X)) → AreNamedOnce passes views
      → ((i : ℕ) (v : View Q V T R N X) → get_elem? views i ≡ some v → total (numbers q) v.claims ≤ alive v)
      → claimed (numbers q) views ≤ passes
  few_claims q passes views ok one =
      let le = total_le (λ (v : View Q V T R N X). total (numbers q) v.claims) (λ (v : View Q V T R N X). length (names v)) views
      (λ i v at. let a = one i v at in let b = alive_named v in omega arith) in
      let all = ok.all_names in omega arith

  pub views_set : (F : View Q V T R N X → Type 0) (views : List (View Q V T R N X)) (id : ℕ) (w : View Q V T R N X)
      → ((j : ℕ) (u : View Q V T R N X) → j ≢ id → get_elem? views j ≡ some u → F u) → F w → (j : ℕ) (u : View Q V T R N X)
      → get_elem? (set views id w) j ≡ some u → F u
  views_set F views id w others mine j u e =
      ⊎_elim
      (λ (x : (j ≡ id) × (w ≡ u)). subst F x.1 mine)
      (λ (x : (j ≢ id) × (get_elem? views j ≡ some u)). others j u x.0 x.1)
      (at_set views id j w u e)

  pub same_views : (vs : List (View Q V T R N X)) (i : ℕ) (v : View Q V T R N X) → get_elem? vs i ≡ some v → set vs i v ≡ vs
  same_views [] i v e = refl
  same_views (x ∷ vs) zero v e = ap (λ l. l ∷ vs) (sym (some-injective x v e))
  same_views (x ∷ vs) (suc i) v e = ap (λ l. x ∷ l) (same_views vs i v e)

module _ {service : Service} {M N P E : Type 0} (m : Machines service M N P E) (start : Start M N E) where
  -- another's item doesn't change what the rule says of a view
  pub view_on : (h h' : SeenLists service N) (u : HallView service M N E) → GrowsFrom h' h
      → ((x : ℕ) → 0 < times x (names u) → own x h'.register ≡ own x h.register)
      → ((q : Queue) → 0 < total (holds q) u.claims → SameList q h h') → (0 < total (holds OfDesk) u.claims → GrowsUncut h' h)
      → IsViewOf m start h u → IsViewOf m start h' u
  view_on h h' u on mine lists goes f = record {
    start_is = f.start_is;
    begins = λ live. begins_trans h' h u.seen on (f.begins live);
    legal = f.legal;
    owns = λ x named. ⊎_elim (λ guest. inl guest) (λ same. inr (mine x named ∙ same)) (f.owns x named);
    guest_begins = λ live. begins_trans h' h u.guest_seen on (f.guest_begins live);
    guest_owns = λ x guest. mine x (let le = f.guest_names x in omega arith) ∙ f.guest_owns x guest;
    guest_names = f.guest_names;
    unused = λ x live spare. mine x (let le = spare_named u x live in omega arith) ∙ f.unused x live spare;
    current = λ q held. same_list_trans q u.seen h h' (f.current q held) (lists q held);
    uncut = λ held. goes_trans h' h u.seen (goes held) (f.uncut held);
    one_register = f.one_register;
    one_desk = f.one_desk;
    one_turn = f.one_turn;
    idle = f.idle;
  }

  -- a view that has seen the whole history
  pub view_seeing : (h h' : SeenLists service N) (v : HallView service M N E) (claims : List Claim) → v.live ≡ true → IsViewOf m start h v
      → IsLegal service (world_of m start) (history_of service h')
      → ((x : ℕ) → v.live ≡ true → 0 < times x v.spare → own x h'.register ≡ [])
      → total (numbers OfRegister) claims ≤ alive v → total (numbers OfDesk) claims ≤ alive v → total busy claims ≤ 1
      → IsViewOf m start h' (seeing v claims h')
  view_seeing h h' v claims live f legal spare register desk turn = record {
    start_is = f.start_is;
    begins = λ _. begins_refl h';
    legal = λ _. legal;
    owns = λ x _. inr refl;
    guest_begins = λ _. begins_refl h';
    guest_owns = λ x guest. let z : 0 < 0 = guest in absurd (omega arith);
    guest_names = λ x. omega arith;
    unused = spare;
    current = λ q _. same_list_refl q h';
    uncut = λ _. goes_refl h';
    one_register = register;
    one_desk = desk;
    one_turn = turn;
    idle = λ dead. absurd (true≢false (sym live ∙ dead));
  }

  -- what a look tells of the history
  pub grown : (h : SeenLists service N) (v : HallView service M N E) → v.live ≡ true
      → IsLegal service (world_of m start) (history_of service h) → IsViewOf m start h v → HasGrown m start v h
  grown h v live legal f = record {
    start_is = f.start_is live;
    legal = legal;
    begins = f.begins live;
    owns = f.owns;
    guest_begins = f.guest_begins live;
    guest_owns = f.guest_owns;
    unused = λ x spare. f.unused x live spare;
  }
