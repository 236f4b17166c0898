-- What a draw, a look and a pass do to the claims in hand.
use Rattle.std.proofs.Common.{◌≡◌, ◌≢◌, ◌⊎◌, inl, inr, ⊎_elim, ℕ, ◌+◌, ◌<◌, ◌≤◌, List, [], ◌∷◌, ◌++◌, set, cond, Bool, true, false}
use Rattle.std.proofs.Common.{ne_eqb, refl, sym, ap, ◌∙◌, subst, arith}
use mathlib.Core.Option.{some}
use mathlib.Core.Logic.{dite}
use native.Mathlib.Decide.{ℕ_discrete}
use lib.ListN.{get_elem?}
use Rattle.lane_histories.specs.Histories.{issued}
use Rattle.hall_rule.specs.declared.queue.Queue.{Queue}
use Rattle.hall_rule.specs.declared.queue.Queue.TheVariants.{OfRegister, OfDesk}
use Rattle.hall_rule.specs.declared.queue.Claim.{Claim}
use Rattle.hall_rule.specs.declared.view.View.{View}
use Rattle.hall_rule.specs.Sums.{total, once_below}
use Rattle.hall_rule.specs.Queues.{limit_of, same_queue}
use Rattle.hall_rule.specs.Claims.{same_number, claim, numbers, waits, holds_at, holds}
use Rattle.hall_rule.specs.Rule.{claimed, AreClaimedOnce}
use Rattle.hall_rule.proofs.Sums.{total_set, total_push, total_one, total_append, total_sum, total_up, once_le, once_step}
use Rattle.hall_rule.proofs.QueueLemmas.{Apart, same_self, same_or_apart}
use Rattle.hall_rule.proofs.ClaimLemmas.{two_held, held_le, number_self}

-- 1 where the claim that is on q under n is the one on q' under n'
abbrev match : Queue → ℕ → Queue → ℕ → ℕ
match q n q' n' = cond (same_queue q q') (same_number n n') 0

match_self : (q : Queue) (n : ℕ) → match q n q n ≡ 1
match_self q n = ap (λ b. cond b (same_number n n) 0) (same_self q) ∙ number_self n

module _ (q : Queue) (len len' : Queue → ℕ) (one_more : (q' : Queue) → len' q' ≡ len q' + cond (same_queue q q') 1 0) where
  -- the number that the list had is below its new length
  once_more : (n : ℕ) → n ≡ len q → (q' : Queue) (n' : ℕ) → once_below n' (len' q') ≡ once_below n' (len q') + match q n q' n'
  once_more n is q' n' = ap (once_below n') (one_more q') ∙ ⊎_elim
      (λ (e : q ≡ q'). subst (λ (x : Queue). once_below n' (len x + cond (same_queue q x) 1 0) ≡ once_below n' (len x) + match q n x n') e
      (let b = same_self q in ap (λ t. once_below n' (len q + cond t 1 0)) b ∙ once_step n' (len q)
      ∙ ap (λ (x : ℕ). once_below n' (len q) + same_number x n') (sym is)
      ∙ ap (λ t. once_below n' (len q) + cond t (same_number n n') 0) (sym b)))
      (λ (a : Apart q q'). ap (λ t. once_below n' (len q' + cond t 1 0)) a.differ
      ∙ ap (once_below n') (let z : len q' + 0 ≡ len q' = omega arith in z)
      ∙ sym (ap (λ t. once_below n' (len q') + cond t (same_number n n') 0) a.differ
      ∙ (let z : once_below n' (len q') + 0 ≡ once_below n' (len q') = omega arith in z)))
      (same_or_apart q q')

module _ {Q V T R N X : Type 0} where
  pub claimed_set : (f : Claim → ℕ) (views : List (View Q V T R N X)) (id : ℕ) (v w : View Q V T R N X) → get_elem? views id ≡ some v
      → claimed f (set views id w) + total f v.claims ≡ claimed f views + total f w.claims
  claimed_set f views id v w at = total_set (λ (u : View Q V T R N X). total f u.claims) views id v w at

  pub claimed_one : (f : Claim → ℕ) (views : List (View Q V T R N X)) (id : ℕ) (v : View Q V T R N X) → get_elem? views id ≡ some v
      → total f v.claims ≤ claimed f views
  claimed_one f views id v at = total_one (λ (u : View Q V T R N X). total f u.claims) views id v at

  claimed_up : (f g : Claim → ℕ) (views : List (View Q V T R N X)) → ((c : Claim) → f c ≤ g c) → claimed f views ≤ claimed g views
  claimed_up f g views le = total_up (λ (u : View Q V T R N X). total f u.claims) (λ (u : View Q V T R N X). total g u.claims) views
      (λ u. total_up f g u.claims le)

  claimed_two : (q : Queue) (a b : ℕ) (views : List (View Q V T R N X)) → a ≢ b
      → claimed (holds_at q a) views + claimed (holds_at q b) views ≤ claimed (holds q) views
  claimed_two q a b views ne =
      let both = total_sum (λ (u : View Q V T R N X). total (holds_at q a) u.claims) (λ (u : View Q V T R N X). total (holds_at q b) u.claims)
      views in
      let le = total_up (λ (u : View Q V T R N X). total (holds_at q a) u.claims + total (holds_at q b) u.claims)
      (λ (u : View Q V T R N X). total (holds q) u.claims) views
      (λ u. let one = total_sum (holds_at q a) (holds_at q b) u.claims in
      let two = total_up (λ (c : Claim). holds_at q a c + holds_at q b c) (holds q) u.claims (two_held q a b ne) in omega arith) in
      omega arith

  -- claims that stay count as before
  pub claims_stay : (next len : Queue → ℕ) (views : List (View Q V T R N X)) (id : ℕ) (v w : View Q V T R N X) → get_elem? views id ≡ some v
      → w.claims ≡ v.claims → AreClaimedOnce next len views → AreClaimedOnce next len (set views id w)
  claims_stay next len views id v w at same ok =
      let kept : (f : Claim → ℕ) → claimed f (set views id w) ≡ claimed f views = λ f. let e = claimed_set f views id v w at in
      let s : total f w.claims ≡ total f v.claims = ap (total f) same in omega arith in record {
        once = λ q n. let a = kept (waits q n) in let b = kept (holds_at q n) in let c = ok.once q n in omega arith;
        turns = λ q. kept (holds q) ∙ ok.turns q ∙ sym (kept (holds_at q (len q)));
        early = λ q n some_held. ok.early q n (let b = kept (holds_at q n) in omega arith);
        register_drawn = let a = kept (numbers OfRegister) in let b = ok.register_drawn in omega arith;
        desk_drawn = let a = kept (numbers OfDesk) in let b = ok.desk_drawn in omega arith;
      }

  pub claims_new_view : (next len : Queue → ℕ) (views : List (View Q V T R N X)) (w : View Q V T R N X) → w.claims ≡ []
      → AreClaimedOnce next len views → AreClaimedOnce next len (views ++ w ∷ [])
  claims_new_view next len views w empty ok =
      let kept : (f : Claim → ℕ) → claimed f (views ++ w ∷ []) ≡ claimed f views =
      λ f. let e = total_push (λ (u : View Q V T R N X). total f u.claims) views w in let s : total f w.claims ≡ 0 = ap (total f) empty in
      omega arith in record {
        once = λ q n. let a = kept (waits q n) in let b = kept (holds_at q n) in let c = ok.once q n in omega arith;
        turns = λ q. kept (holds q) ∙ ok.turns q ∙ sym (kept (holds_at q (len q)));
        early = λ q n some_held. ok.early q n (let b = kept (holds_at q n) in omega arith);
        register_drawn = let a = kept (numbers OfRegister) in let b = ok.register_drawn in omega arith;
        desk_drawn = let a = kept (numbers OfDesk) in let b = ok.desk_drawn in omega arith;
      }

  -- a list that has another function for its lengths or next numbers, with the same values
  pub claims_same : (next next' len len' : Queue → ℕ) (views : List (View Q V T R N X)) → ((q : Queue) → next' q ≡ next q)
      → ((q : Queue) → len' q ≡ len q) → AreClaimedOnce next len views → AreClaimedOnce next' len' views
  claims_same next next' len len' views n l ok = record {
    once = λ q k. let a : once_below k (next' q) ≡ once_below k (next q) = ap (once_below k) (n q) in
        let b : once_below k (len' q) ≡ once_below k (len q) = ap (once_below k) (l q) in let c = ok.once q k in omega arith;
    turns = λ q. ok.turns q ∙ ap (λ (k : ℕ). claimed (holds_at q k) views) (sym (l q));
    early = ok.early;
    register_drawn = let a = n OfRegister in let b = l OfRegister in let c = ok.register_drawn in omega arith;
    desk_drawn = let a = n OfDesk in let b = l OfDesk in let c = ok.desk_drawn in omega arith;
  }

  -- the next number comes into hand
  pub claims_draw : (next next' len : Queue → ℕ) (views : List (View Q V T R N X)) (id : ℕ) (v w : View Q V T R N X) (q : Queue)
      → get_elem? views id ≡ some v → w.claims ≡ claim q (next q) false ∷ v.claims
      → ((q' : Queue) → next' q' ≡ next q' + cond (same_queue q q') 1 0) → AreClaimedOnce next len views
      → AreClaimedOnce next' len (set views id w)
  claims_draw next next' len views id v w q at new more ok =
      let n : ℕ = next q in
      let now : (f : Claim → ℕ) → claimed f (set views id w) ≡ claimed f views + f (claim q n false) =
      λ f. let e = claimed_set f views id v w at in let s : total f w.claims ≡ f (claim q n false) + total f v.claims =
      ap (total f) new in omega arith in record {
        once = λ q' n'. let a = now (waits q' n') in let b = now (holds_at q' n') in let c = ok.once q' n' in
            let d = once_more q next next' more n refl q' n' in omega arith;
        turns = λ q'. let a = now (holds q') in let b = now (holds_at q' (len q')) in let c = ok.turns q' in omega arith;
        early = λ q' n' held. ok.early q' n' (let b = now (holds_at q' n') in omega arith);
        register_drawn = let a = now (numbers OfRegister) in let b = ok.register_drawn in let c = more OfRegister in omega arith;
        desk_drawn = let a = now (numbers OfDesk) in let b = ok.desk_drawn in let c = more OfDesk in omega arith;
      }

  -- a turn whose number waits in a view is held by nobody
  pub turn_free : (next len : Queue → ℕ) (views : List (View Q V T R N X)) (id : ℕ) (v : View Q V T R N X) (q : Queue) (n : ℕ)
      (others : List Claim) → get_elem? views id ≡ some v → v.claims ≡ claim q n false ∷ others → n ≡ len q → AreClaimedOnce next len views
      → claimed (holds q) views ≡ 0
  turn_free next len views id v q n others at mine is ok =
      let a = claimed_one (waits q n) views id v at in
      let b : total (waits q n) v.claims ≡ match q n q n + total (waits q n) others = ap (total (waits q n)) mine in
      let c = match_self q n in
      let d = ok.once q n in
      let e = once_le n (next q) in
      let f : claimed (holds_at q n) views ≡ claimed (holds_at q (len q)) views = ap (λ (k : ℕ). claimed (holds_at q k) views) is in
      let g = ok.turns q in omega arith

  -- the turn is taken
  pub claims_look : (next len : Queue → ℕ) (views : List (View Q V T R N X)) (id : ℕ) (v w : View Q V T R N X) (q : Queue) (n : ℕ)
      (others : List Claim) → get_elem? views id ≡ some v → v.claims ≡ claim q n false ∷ others → w.claims ≡ claim q n true ∷ others
      → n ≡ len q → n < limit_of q → AreClaimedOnce next len views → AreClaimedOnce next len (set views id w)
  claims_look next len views id v w q n others at mine new is early ok =
      let now : (f : Claim → ℕ) → claimed f (set views id w) + f (claim q n false) ≡ claimed f views + f (claim q n true) = λ f.
      let e = claimed_set f views id v w at in let s : total f v.claims ≡ f (claim q n false) + total f others = ap (total f) mine in
      let t : total f w.claims ≡ f (claim q n true) + total f others = ap (total f) new in omega arith in record {
        once = λ q' n'. let a = now (waits q' n') in let b = now (holds_at q' n') in let c = ok.once q' n' in omega arith;
        turns = λ q'. let a = now (holds q') in let b = now (holds_at q' (len q')) in let c = ok.turns q' in let d = at_turn q' in
            omega arith;
        early = λ q' n' held. ⊎_elim
            (λ (same : q ≡ q'). ⊎_elim
            (λ (e : match q n q' n' ≡ 0). ok.early q' n' (let b = now (holds_at q' n') in omega arith))
            (λ (e : n ≡ n'). subst (λ (x : Queue). n' < limit_of x) same (subst (λ (k : ℕ). k < limit_of q) e early))
            (which q' n'))
            (λ (apart : Apart q q'). ok.early q' n'
            (let z : match q n q' n' ≡ 0 = ap (λ (b : Bool). cond b (same_number n n') 0) apart.differ in
            let b = now (holds_at q' n') in omega arith))
            (same_or_apart q q');
        register_drawn = let a = now (numbers OfRegister) in let b = ok.register_drawn in omega arith;
        desk_drawn = let a = now (numbers OfDesk) in let b = ok.desk_drawn in omega arith;
      }
    where
      at_turn : (q' : Queue) → match q n q' (len q') ≡ cond (same_queue q q') 1 0
      at_turn q' = ⊎_elim
          (λ (e : q ≡ q'). subst (λ (x : Queue). match q n x (len x) ≡ cond (same_queue q x) 1 0) e
          (ap (λ b. cond b (same_number n (len q)) 0) (same_self q) ∙ ap (same_number n) (sym is) ∙ number_self n
          ∙ ap (λ b. cond {A = ℕ} b 1 0) (sym (same_self q))))
          (λ (a : Apart q q'). ap (λ b. cond b (same_number n (len q')) 0) a.differ ∙ ap (λ b. cond {A = ℕ} b 1 0) (sym a.differ))
          (same_or_apart q q')

      which : (q' : Queue) (n' : ℕ) → (match q n q' n' ≡ 0) ⊎ (n ≡ n')
      which q' n' = dite (ℕ_discrete n n') (λ e. inr e) (λ ne. inl (go ne (same_queue q q')))
        where
          go : n ≢ n' → (b : Bool) → cond b (same_number n n') 0 ≡ 0
          go ne true = ap (λ (t : Bool). cond {A = ℕ} t 1 0) (ne_eqb n n' ne)
          go ne false = refl

  -- the number of a held turn is the one shown, and nobody else holds the turn
  pub turn_mine : (next len : Queue → ℕ) (views : List (View Q V T R N X)) (id : ℕ) (v : View Q V T R N X) (q : Queue) (n : ℕ)
      (others : List Claim) → get_elem? views id ≡ some v → v.claims ≡ claim q n true ∷ others → AreClaimedOnce next len views → (n ≡ len q)
      × (claimed (holds q) views ≡ 1) × (n < limit_of q)
  turn_mine next len views id v q n others at mine ok =
      let held : 1 ≤ claimed (holds_at q n) views = let a = claimed_one (holds_at q n) views id v at in
      let b : total (holds_at q n) v.claims ≡ match q n q n + total (holds_at q n) others = ap (total (holds_at q n)) mine in
      let c = match_self q n in omega arith in
      let is : n ≡ len q = dite (ℕ_discrete n (len q))
      (λ e. e) (λ ne. let two = claimed_two q n (len q) views ne in let turns = ok.turns q in absurd (omega arith)) in
      let same : claimed (holds_at q n) views ≡ claimed (holds_at q (len q)) views = ap (λ (k : ℕ). claimed (holds_at q k) views) is in
      (is, (let a = ok.once q n in let b = once_le n (next q) in let c = ok.turns q in omega arith), ok.early q n (omega arith))

  -- the turn is passed, and the tickets that the item issues come into hand
  pub claims_pass : (next next' len len' : Queue → ℕ) (views : List (View Q V T R N X)) (id : ℕ) (v w : View Q V T R N X) (q : Queue) (n : ℕ)
      (others new : List Claim) → get_elem? views id ≡ some v → v.claims ≡ claim q n true ∷ others → w.claims ≡ new ++ others
      → ((q' : Queue) → len' q' ≡ len q' + cond (same_queue q q') 1 0)
      → ((q' : Queue) (n' : ℕ) → total (waits q' n') new + once_below n' (next q') ≡ once_below n' (next' q'))
      → ((q' : Queue) → total (holds q') new ≡ 0) → ((q' : Queue) (n' : ℕ) → total (holds_at q' n') new ≡ 0)
      → total (numbers OfRegister) new + next OfRegister ≡ next' OfRegister → total (numbers OfDesk) new + next OfDesk ≡ next' OfDesk
      → AreClaimedOnce next len views → AreClaimedOnce next' len' (set views id w)
  claims_pass next next' len len' views id v w q n others new at mine after more issued unheld unheld_at register desk ok =
      let now : (f : Claim → ℕ) → claimed f (set views id w) + f (claim q n true) ≡ claimed f views + total f new = λ f.
      let e = claimed_set f views id v w at in let s : total f v.claims ≡ f (claim q n true) + total f others = ap (total f) mine in
      let t : total f w.claims ≡ total f new + total f others = ap (total f) after ∙ total_append f new others in omega arith in
      let turn = turn_mine next len views id v q n others at mine ok in record {
        once = λ q' n'. let a = now (waits q' n') in let b = now (holds_at q' n') in let c = ok.once q' n' in let d = issued q' n' in
            let e = unheld_at q' n' in let f = once_more q len len' more n turn.0 q' n' in omega arith;
        turns = λ q'. ⊎_elim
            (λ (e : q ≡ q'). subst (λ (x : Queue). claimed (holds x) (set views id w) ≡ claimed (holds_at x (len' x)) (set views id w)) e
            (let a = now (holds q) in let b = unheld q in
            let c : cond {A = ℕ} (same_queue q q) 1 0 ≡ 1 = ap (λ (t : Bool). cond {A = ℕ} t 1 0) (same_self q) in let d = turn.1 in
            let le = claimed_up (holds_at q (len' q)) (holds q) (set views id w) (held_le q (len' q)) in omega arith))
            (λ (apart : Apart q q').
            let same : len' q' ≡ len q' = more q' ∙ ap (λ (t : Bool). len q' + cond t 1 0) apart.differ
            ∙ (let z : len q' + 0 ≡ len q' = omega arith in z) in
            let a = now (holds q') in let b = unheld q' in
            let c : cond {A = ℕ} (same_queue q q') 1 0 ≡ 0 = ap (λ (t : Bool). cond {A = ℕ} t 1 0) apart.differ in
            let d = now (holds_at q' (len' q')) in let e = unheld_at q' (len' q') in
            let f : match q n q' (len' q') ≡ 0 = ap (λ (t : Bool). cond t (same_number n (len' q')) 0) apart.differ in
            let g = ok.turns q' in let h : claimed (holds_at q' (len' q')) views ≡ claimed (holds_at q' (len q')) views =
            ap (λ (k : ℕ). claimed (holds_at q' k) views) same in omega arith)
            (same_or_apart q q');
        early = λ q' n' held. ok.early q' n' (let b = now (holds_at q' n') in let e = unheld_at q' n' in omega arith);
        register_drawn = let a = now (numbers OfRegister) in let b = ok.register_drawn in let c = more OfRegister in omega arith;
        desk_drawn = let a = now (numbers OfDesk) in let b = ok.desk_drawn in let c = more OfDesk in omega arith;
      }

  -- what a view that nobody's turn is with can't hold
  pub holds_none : (q : Queue) (views : List (View Q V T R N X)) (j : ℕ) (u : View Q V T R N X) → get_elem? views j ≡ some u
      → claimed (holds q) views ≡ 0 → total (holds q) u.claims ≡ 0
  holds_none q views j u at none_holds = let a = claimed_one (holds q) views j u at in omega arith
