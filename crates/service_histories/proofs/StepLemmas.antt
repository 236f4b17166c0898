-- What the turns of a request answer and leave, lane by lane, is what its steps answer and leave among all objects.
use Rattle.std.proofs.Common.{◌≡◌, ⊎_elim, ℕ, ◌<◌, ◌==◌, nat_lt, Bool, true, false, cond, Option, Some, None, option_map, refl, sym, ap, subst, ◌∙◌, eqb-true, lt-ltb}
use Rattle.std.specs.FinMap.{get}
use Rattle.std.specs.Ordering.{eq_by_cmp}
use Rattle.std.proofs.Math.Nat.{mod-lt}
use Rattle.std.proofs.lemmas.Bool.Decides.{eqb_tells}
use Rattle.std.proofs.lemmas.Option.{same_Some}
use Rattle.object_ids.specs.IdOrder.{id_order}
use Rattle.object_ids.specs.IdValues.{Id}
use Rattle.object_ids.specs.Ids.{lane_of}
use Rattle.object_ids.proofs.IdOrders.{tied_ids}
use Rattle.object_ops.specs.Parts.{id_of}
use Rattle.object_ops.specs.Replies.{was_done}
use Rattle.object_ops.specs.declared.grants.Grant.{Grant}
use Rattle.object_ops.specs.declared.grants.Step.{Step}
use Rattle.object_ops.specs.declared.grants.Step.TheVariants.{Only, Link, Make as Making}
use Rattle.object_ops.specs.declared.ops.LinkPlace.{LinkPlace}
use Rattle.object_ops.specs.declared.ops.Make.{Make}
use Rattle.object_ops.specs.declared.ops.Op.{Op}
use Rattle.object_ops.specs.declared.ops.Op.TheVariants.{MakeObject}
use Rattle.object_ops.specs.declared.replies.Reply.{Reply}
use Rattle.object_acts.specs.declared.objects.Object.{Object}
use Rattle.object_acts.specs.Objects.{Objects}
use Rattle.chunk_owner.specs.Acts.{IsMakeStep, IsStepOf, IsTouchedIn, act, on_touched, touched}
use Rattle.chunk_owner.specs.Lanes.{set_at}
use Rattle.register.specs.Grants.{IsAtHome}
use Rattle.service_core.specs.Steps.{step_taken, without_domain}
use Rattle.lane_histories.specs.Histories.{changed_at}
use Rattle.lane_histories.specs.PlainReplays.{second_done, second_reply}
use Rattle.service_histories.specs.ArrayServices.{array_service, done_by, task_of}
use Rattle.service_histories.proofs.IdMaps.{get_set, get_without, set_to}

module _ (lanes : ℕ) where
  -- each object stands in the lane of its id
  abbrev pub IsIn : (ℕ → Objects) → Objects → Type 0
  IsIn o m = (id : Id) → get m id ≡ get (o (lane_of lanes id)) id

  -- this is replied, and leaves what a request's steps leave
  pub record Turned (p : Reply × Objects) (r : Reply) (o : ℕ → Objects) : Type 0 where
    pub reply : r ≡ p.0
    pub objects : IsIn o p.1

  -- ---- one object

  module _ (F : Id → Option Object → Reply × Option Object) (l : ℕ) (o : ℕ → Objects) (m : Objects) (seen : IsIn o m) where
    -- the object of an id of the lane
    at_home : (id : Id) → lane_of lanes id ≡ l → get m id ≡ get (o l) id
    at_home id home = seen id ∙ ap (λ (k : ℕ). get (o k) id) home

    same_at : (tie : Bool) (r s p q : Option Object) → r ≡ s → p ≡ q → set_to tie r p ≡ set_to tie s q
    same_at true r s p q e h = e
    same_at false r s p q e h = h

    far_at : (tie : Bool) (r p q : Option Object) → (tie ≡ true → ⊥) → p ≡ q → set_to tie r p ≡ q
    far_at true r p q far e = absurd (far refl)
    far_at false r p q far e = e

    module _ (id : Id) (home : lane_of lanes id ≡ l) where
      told : F id (get m id) ≡ F id (get (o l) id)
      told = ap (F id) (at_home id home)

      put_in : (q : Id) (b : Bool) → (l == lane_of lanes q) ≡ b
          → get (set_at m id (F id (get m id)).1) q ≡ get (cond b (set_at (o l) id (F id (get (o l) id)).1) (o (lane_of lanes q))) q
      put_in q true is =
          get_set m id (F id (get m id)).1 q
          ∙ same_at (eq_by_cmp id_order q id) _ _ _ _ (ap (λ (p : Reply × Option Object). p.1) told) (at_home q (sym (eqb-true l (lane_of lanes q) is)))
          ∙ sym (get_set (o l) id (F id (get (o l) id)).1 q)
      put_in q false is =
          get_set m id (F id (get m id)).1 q
          ∙ far_at (eq_by_cmp id_order q id) _ _ _ (λ tie.
          let e : l ≡ lane_of lanes q = sym home ∙ ap (lane_of lanes) (sym (tied_ids q id tie)) in
          let never : true ≡ false = sym (itself l (lane_of lanes q) e) ∙ is in cc) (seen q)
        where
          itself : (a b : ℕ) → a ≡ b → (a == b) ≡ true
          itself a b e = ⊎_elim (λ same. same.0) (λ other. absurd (other.1 e)) (eqb_tells a b)

    pub on_one : (t : Option Id) → IsTouchedIn l lanes t → Turned (on_touched t F m) (on_touched t F (o l)).0 (changed_at l (on_touched t F (o l)).1 o)
    on_one None home = absurd home
    on_one (Some id) home = record {
      reply = ap (λ (p : Reply × Option Object). p.0) (sym (told id home));
      objects = λ q. put_in id home q (l == lane_of lanes q) refl;
    }

  -- ---- the objects of a domain

  below : (id : Id) → 0 < lanes → lane_of lanes id < lanes
  below id some = mod-lt id.serial some

  pub on_all : (number : ℕ) (o : ℕ → Objects) (m : Objects) → 0 < lanes → IsIn o m
      → IsIn (λ l. cond (nat_lt l lanes) (without_domain number (o l)) (o l)) (without_domain number m)
  on_all number o m some seen id =
      get_without number m id
      ∙ ap (cond (id.domain == number) None) (seen id)
      ∙ sym (get_without number (o (lane_of lanes id)) id)
      ∙ sym (ap (λ b. get (cond b (without_domain number (o (lane_of lanes id))) (o (lane_of lanes id))) id) (lt-ltb (lane_of lanes id) lanes (below id some)))

  -- ---- a step in its lane

  module _ (g : Grant) (op : Op) where
    mapped : (l : ℕ) (t : Option Id) → option_map (lane_of lanes) t ≡ Some l → IsTouchedIn l lanes t
    mapped l None e = let never : None ≡ Some l = e in cc
    mapped l (Some id) e = same_Some (lane_of lanes id) l e

    make_home : (l : ℕ) (make : Make) (place : Option LinkPlace) (s : Step) → IsMakeStep place s → IsAtHome lanes (MakeObject make place) g (Some s) l
        → IsTouchedIn l lanes (touched g (MakeObject make place) s)
    make_home l make None Only step home = mapped l g.fresh home
    make_home l make None Link step home = let never : Link ≡ Only = step in cc
    make_home l make None Making step home = mapped l g.fresh home
    make_home l make (Some place) Only step home = absurd step
    make_home l make (Some place) Link step home = home
    make_home l make (Some place) Making step home = mapped l g.fresh home

    pub is_home : (o : Op) (l : ℕ) (s : Step) → IsStepOf o s → IsAtHome lanes o g (Some s) l → IsTouchedIn l lanes (touched g o s)
    is_home (MakeObject make place) l s step home = make_home l make place s step home
    is_home o l s step home = mapped l (id_of o) home

    -- a turn takes its step in its lane
    pub one_turned : (o : ℕ → Objects) (m : Objects) (l : ℕ) (step : Option Step) (s : Step) → IsIn o m → step ≡ Some s → IsTouchedIn l lanes (touched g op s)
        → Turned (step_taken g op step m) (done_by (task_of g op step) (o l)).0 (changed_at l (done_by (task_of g op step) (o l)).1 o)
    one_turned o m l None s seen is home = absurd (let never : None ≡ Some s = is in cc)
    one_turned o m l (Some x) s seen is home =
        on_one (act g op x) l o m seen (touched g op x) (subst (λ (y : Step). IsTouchedIn l lanes (touched g op y)) (sym (same_Some x s is)) home)

    -- the second follows where the first went well
    then_second : (o : ℕ → Objects) (a b : ℕ) (one two : Option Step) (p : Reply × Objects) (r : Reply) (s : Step) (done : Bool) → was_done r ≡ done
        → two ≡ Some s → IsTouchedIn b lanes (touched g op s) → Turned p r o
        → Turned (cond (was_done p.0) (step_taken g op two p.1) p) (second_reply (array_service lanes) done b (task_of g op two) o r)
        (second_done (array_service lanes) done b (task_of g op two) o)
    then_second o a b one two p r s true is at home t =
        subst (λ (x : Bool). Turned (cond x (step_taken g op two p.1) p) (done_by (task_of g op two) (o b)).0 (changed_at b (done_by (task_of g op two) (o b)).1 o))
        (sym is ∙ ap was_done t.reply) (one_turned o p.1 b two s t.objects at home)
    then_second o a b one two p r s false is at home t =
        subst (λ (x : Bool). Turned (cond x (step_taken g op two p.1) p) r o) (sym is ∙ ap was_done t.reply) t

    pub two_turned : (o : ℕ → Objects) (m : Objects) (a b : ℕ) (one two : Option Step) (s z : Step) → IsIn o m → one ≡ Some s → IsTouchedIn a lanes (touched g op s)
        → two ≡ Some z → IsTouchedIn b lanes (touched g op z)
        → let first = done_by (task_of g op one) (o a) in
        Turned (cond (was_done (step_taken g op one m).0) (step_taken g op two (step_taken g op one m).1) (step_taken g op one m))
        (second_reply (array_service lanes) (was_done first.0) b (task_of g op two) (changed_at a first.1 o) first.0)
        (second_done (array_service lanes) (was_done first.0) b (task_of g op two) (changed_at a first.1 o))
    two_turned o m a b one two s z seen is home also there =
        let first = done_by (task_of g op one) (o a) in
        then_second (changed_at a first.1 o) a b one two (step_taken g op one m) first.0 z (was_done first.0) refl also there (one_turned o m a one s seen is home)
