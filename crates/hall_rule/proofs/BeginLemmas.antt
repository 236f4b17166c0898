-- A hall that has begun keeps the rule.
use Rattle.std.proofs.Common.{◌≡◌, ℕ, zero, suc, ◌+◌, ◌^◌, ◌<◌, ◌≤◌, List, [], ◌∷◌, map, replicate, get_or, length, Some, None, refl, sym}
use Rattle.std.proofs.Common.{ap, ◌∙◌, subst, arith}
use mathlib.Core.Option.{some, some-ne-none, some-injective}
use lib.ListN.{get_elem?}
use Rattle.atomic_table.specs.Table.{opening}
use Rattle.lane_histories.specs.Services.{Service}
use Rattle.hall_rule.specs.declared.queue.Queue.{Queue}
use Rattle.hall_rule.specs.declared.queue.Queue.TheVariants.{OfRegister, OfDesk, OfLane}
use Rattle.hall_rule.specs.declared.view.Start.{Start}
use Rattle.hall_rule.specs.declared.slot.Slot.TheVariants.{AtRegister, AtDesk, AtLane}
use Rattle.hall_rule.specs.Queues.{slot_of, IsQueue}
use Rattle.hall_rule.specs.Seen.{nothing}
use Rattle.hall_rule.specs.Machines.{Machines, objects_in}
use Rattle.hall_rule.specs.Standing.{HallSlot, StandsFor}
use Rattle.hall_rule.specs.Standing.{IsFresh, IsFreshDesk}
use Rattle.hall_rule.proofs.StandingLemmas.{desk_begun, owner_begun}
use Rattle.hall_rule.specs.Rule.{FollowsRule, first_view}
use Rattle.hall_rule.proofs.SeenLemmas.{length_replicate}
use Rattle.hall_rule.proofs.ShareStep.{opens}
use Rattle.std.specs.Prelude.{Result, Ok, Err, IfOk}
use Rattle.std.specs.Result.{result_ok}
use Rattle.hall_rule.specs.Homes.{lane_home}

at_map : {X Y : Type 0} (f : X → Y) (xs : List X) (i : ℕ) (x : X) → get_elem? xs i ≡ some x → get_elem? (map f xs) i ≡ some (f x)
at_map f [] i x e = absurd (some-ne-none x (sym e))
at_map f (y ∷ xs) zero x e = ap (λ z. some (f z)) (some-injective y x e)
at_map f (y ∷ xs) (suc i) x e = at_map f xs i x e

there : {X : Type 0} (xs : List X) (i : ℕ) → i < length xs → (x : X) × (get_elem? xs i ≡ some x)
there [] i lt = absurd (omega arith)
there (x ∷ xs) zero lt = (x, refl)
there (x ∷ xs) (suc i) lt = there xs i (omega arith)

pub length_map : {X Y : Type 0} (f : X → Y) (xs : List X) → length (map f xs) ≡ length xs
length_map f [] = refl
length_map f (x ∷ xs) = ap suc (length_map f xs)

pub zeros : (n i : ℕ) → (let none : List ℕ = replicate n 0 in get_or none i 0 ≡ 0)
zeros zero i = refl
zeros (suc n) zero = refl
zeros (suc n) (suc i) = zeros n i

module _ {service : Service} {M N P E : Type 0} (m : Machines service M N P E) where
  objects_at : (os : List N) (lane : ℕ) (o : N) → get_elem? os lane ≡ some o → m.owner o ≡ objects_in m os lane
  objects_at [] lane o e = absurd (some-ne-none o (sym e))
  objects_at (p ∷ os) zero o e = ap m.owner (sym (some-injective p o e))
  objects_at (p ∷ os) (suc lane) o e = objects_at os lane o e

module _ {service : Service} {M N P E : Type 0} (m : Machines service M N P E) (passes : ℕ) (start : Start M N E) where
  slots_of : P → List (HallSlot service M N P)
  slots_of desk = AtRegister (record { register = start.register; news = None }) ∷ (AtDesk desk ∷ map
      lane_home start.owners)

  -- the machines at home, before anything was done
  begun : (desk : P) → IsFresh m start → IsFreshDesk m start desk → (q : Queue) → IsQueue (length start.owners) q → (s : HallSlot service M N P)
      × (get_elem? (slots_of desk) (slot_of q) ≡ some s) × StandsFor m q s start (nothing start.owners)
  unfolding slots_of
  begun desk fresh noted OfRegister is = (
    AtRegister (record { register = start.register; news = None }),
    refl,
    record { now = refl; since = fresh.register },
  )
  begun desk fresh noted OfDesk is = (AtDesk desk, refl, desk_begun m start desk noted)
  begun desk fresh noted (OfLane lane) is =
      let o = there start.owners lane is in
      let behind : lane + 2 ≡ suc (suc lane) = omega arith in (
        AtLane (record { owner = o.0; news = None }),
        ap (get_elem? (slots_of desk)) behind ∙ at_map lane_home start.owners lane o.0 o.1,
        owner_begun m start fresh lane o.0 o.1 (objects_at m start.owners lane o.0 o.1),
      )

  pub begins : (desk : P) (words : List ℕ) (slots : List (HallSlot service M N P)) → IsFresh m start → IsFreshDesk m start desk → 1 ≤ passes
      → passes < 2 ^ 32 → words ≡ replicate (length start.owners + 4) 0
      → slots ≡ AtRegister (record { register = start.register; news = None }) ∷ (AtDesk desk ∷ map
      lane_home start.owners) → FollowsRule m passes start (opening words slots (first_view passes start.owners start))
  unfolding slots_of
  begins desk words slots fresh noted some_pass few are_zero are =
      let n : ℕ = length start.owners in
      subst (λ (x : List ℕ × List (HallSlot service M N P)). FollowsRule m passes start (opening x.0 x.1 (first_view passes start.owners start)))
      (λ i. (sym are_zero i, sym are i))
      (opens m passes start (replicate (n + 4) 0) (slots_of desk) some_pass few (length_replicate (n + 4) 0) (zeros (n + 4))
      (let l = length_map (lane_home {M = M} {N = N} {P = P} {Q = service.Asked} {V = service.Verdict} {R = service.Reply})
      start.owners in omega arith) (begun desk fresh noted))

-- what holds of the value of an `Ok` holds of what `ok` gives
pub ok_holds : {X E : Type 0} (r : Result X E) (F : X → Type 0) (x : X) → result_ok r ≡ Some x → IfOk r F → F x
ok_holds (Ok y) F x e h = let same : y ≡ x = cc in subst F same h
ok_holds (Err y) F x e h = absurd (clash e)
  where
    clash : None ≡ Some x → ⊥
    clash z = cc

pub two_more : {X Y : Type 0} (f : X → Y) (a b : Y) (xs : List X) (ys : List Y) → ys ≡ a ∷ (b ∷ map f xs) → length ys ≡ length xs + 2
two_more f a b xs ys is = let l = length_map f xs in let e = ap length is in omega arith
