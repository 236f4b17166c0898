-- Turns in order.
use Rattle.std.proofs.Common.{◌≡◌, ℕ, ◌<◌, List, [], ◌∷◌, ◌++◌, map, Bool, true, false, cond, IsSome, Option, Some, None, Ok, Err, refl, sym, ap, subst, ◌∙◌, append_assoc}
use Rattle.object_ops.specs.declared.ops.Op.{Op}
use Rattle.object_ops.specs.declared.grants.Grant.{Grant}
use Rattle.object_ops.specs.declared.grants.Step.{Step}
use Rattle.object_ops.specs.declared.replies.Reply.{Reply}
use Rattle.register.specs.declared.tickets.Turn.{Turn}
use Rattle.service_core.specs.Steps.{Takes, run_on, started, step_taken}
use Rattle.service_core.specs.Turns.{AreReady, IsReadyAt}
use Rattle.object_acts.specs.Objects.{Objects}
use Rattle.object_ops.specs.Replies.{was_done}

-- what was done of some turns, and what is left
pub record SoFar (g : Grant) (op : Op) (all : List Turn) (old : Objects) (reply : Reply) (m : Objects) (left : List Turn) : Type 0 where
  pub front : List Turn
  pub split : all ≡ front ++ left
  pub done : run_on g op (started old) front ≡ (reply, m)

module _ (g : Grant) (op : Op) where
  pub stopped : (p : Reply × Objects) (ts : List Turn) → was_done p.0 ≡ false → run_on g op p ts ≡ p
  stopped p [] e = refl
  stopped p (t ∷ ts) e = ap (λ b. cond b (run_on g op (step_taken g op t.step p.1) ts) p) e

  went : (p : Reply × Objects) (t : Turn) (ts : List Turn) → was_done p.0 ≡ true → run_on g op p (t ∷ ts) ≡ run_on g op (step_taken g op t.step p.1) ts
  went p t ts e = ap (λ b. cond b (run_on g op (step_taken g op t.step p.1) ts) p) e

  append_by : (p q : Reply × Objects) (xs ys : List Turn) (b : Bool) → was_done p.0 ≡ b → run_on g op q (xs ++ ys) ≡ run_on g op (run_on g op q xs) ys
      → cond b (run_on g op q (xs ++ ys)) p ≡ run_on g op (cond b (run_on g op q xs) p) ys
  append_by p q xs ys true e h = h
  append_by p q xs ys false e h = sym (stopped p ys e)

  run_on-append : (p : Reply × Objects) (xs ys : List Turn) → run_on g op p (xs ++ ys) ≡ run_on g op (run_on g op p xs) ys
  run_on-append p [] ys = refl
  run_on-append p (x ∷ xs) ys = append_by p (step_taken g op x.step p.1) xs ys (was_done p.0) refl (run_on-append (step_taken g op x.step p.1) xs ys)

  -- only the steps of turns matter
  abbrev pub run_steps : Reply × Objects → List (Option Step) → Reply × Objects
  run_steps p [] = p
  run_steps p (s ∷ ss) = cond (was_done p.0) (run_steps (step_taken g op s p.1) ss) p

  pub run_by_steps : (p : Reply × Objects) (ts : List Turn) → run_on g op p ts ≡ run_steps p (map (λ t. t.step) ts)
  run_by_steps p [] = refl
  run_by_steps p (t ∷ ts) = ap (λ (q : Reply × Objects). cond (was_done p.0) q p) (run_by_steps (step_taken g op t.step p.1) ts)

  taken : (E : Type 0) (o : Option Step) (m new : Objects) (r : Reply) → Takes {E = E} g op o m (Ok r) new → step_taken g op o m ≡ (r, new)
  taken E None m new r h = sym h
  taken E (Some step) m new r h = λ i. ((sym h.0) i, (sym h.1) i)

  module _ (all : List Turn) (old : Objects) where
    pub begun : SoFar g op all old (started old).0 old all
    begun = record { front = []; split = refl; done = refl }

    pub more_done : (E : Type 0) (reply r : Reply) (m new : Objects) (left : List Turn) (t : Turn) → was_done reply ≡ true → Takes {E = E} g op t.step m (Ok r) new
        → (s : SoFar g op all old reply m left) → run_on g op (started old) (s.front ++ t ∷ []) ≡ (r, new)
    more_done E reply r m new left t done h s =
        run_on-append (started old) s.front (t ∷ []) ∙ ap (λ p. run_on g op p (t ∷ [])) s.done ∙ went (reply, m) t [] done ∙ taken E t.step m new r h

    pub ended : (reply : Reply) (m : Objects) (left : List Turn) → run_on g op (reply, m) left ≡ (reply, m) → SoFar g op all old reply m left → (reply, m) ≡ run_on g op (started old) all
    ended reply m left here s =
        sym (ap (run_on g op (started old)) s.split ∙ run_on-append (started old) s.front left ∙ ap (λ p. run_on g op p left) s.done ∙ here)

    pub wants : {E : Type 0} (o : Option Step) (m new : Objects) (e : E) → Takes g op o m (Err e) new → IsSome o × (new ≡ m)
    wants None m new e h = absurd h
    wants (Some step) m new e h = (refl, h)

  module _ (n : ℕ) where
    -- what is ready first can be taken, and what comes next is ready then
    pub ready_now : (m : Objects) (left rest : List Turn) (t : Turn) → left ≡ t ∷ rest → AreReady n g op m left → (t.lane < n) × IsReadyAt n t.lane g op t.step m
    ready_now m left rest t is h = let all = subst (λ (ts : List Turn). AreReady n g op m ts) is h in (all.0, all.1)

    pub ready_next : (E : Type 0) (m new : Objects) (r : Reply) (left rest : List Turn) (t : Turn) → left ≡ t ∷ rest → AreReady n g op m left → Takes {E = E} g op t.step m (Ok r) new
        → was_done r ≡ true → AreReady n g op new rest
    ready_next E m new r left rest t is h said done =
        let all = subst (λ (ts : List Turn). AreReady n g op m ts) is h in
        let same = taken E t.step m new r said in
        subst (λ (x : Objects). AreReady n g op x rest) (ap (λ p. p.1) same) (all.2 (ap (λ p. was_done p.0) same ∙ done))
