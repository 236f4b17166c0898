-- Told lists that lose elements in front or gain some at the end, step after step.
use Rattle.std.proofs.Common.{List, [], ◌∷◌, ◌++◌, Option, Some, None, refl, sym, ap, ◌∙◌, append_assoc, append-nil}
use Rattle.edge_traits.specs.Told.{KeepsTold, LosesFirst, GainsLast, IsToldEmpty}
use Rattle.rest_session.specs.Halls.Visits.{LosesFront, GainsBack, IsAllOf}

module _ {A : Type 0} where
  pub loses_none : (x y : Option (List A)) → KeepsTold x y → LosesFront x y []
  loses_none None y h = tt
  loses_none (Some xs) None h = h
  loses_none (Some xs) (Some ys) h = sym h

  pub loses_one : (x y : Option (List A)) (a : A) → LosesFirst x y a → LosesFront x y (a ∷ [])
  loses_one None y a h = tt
  loses_one (Some xs) None a h = h
  loses_one (Some xs) (Some ys) a h = h

  pub loses_more : (x y z : Option (List A)) (ms ns : List A) → LosesFront x y ms → LosesFront y z ns → LosesFront x z (ms ++ ns)
  loses_more None y z ms ns h k = tt
  loses_more (Some xs) None z ms ns h k = absurd h
  loses_more (Some xs) (Some ys) None ms ns h k = k
  loses_more (Some xs) (Some ys) (Some zs) ms ns h k = h ∙ ap (λ l. ms ++ l) k ∙ sym (append_assoc ms ns zs)

  pub gains_none : (x y : Option (List A)) → KeepsTold x y → GainsBack x y []
  gains_none None y h = tt
  gains_none (Some xs) None h = h
  gains_none (Some xs) (Some ys) h = h ∙ sym (append-nil xs)

  pub gains_one : (x y : Option (List A)) (a : A) → GainsLast x y a → GainsBack x y (a ∷ [])
  gains_one None y a h = tt
  gains_one (Some xs) None a h = h
  gains_one (Some xs) (Some ys) a h = h

  pub gains_more : (x y z : Option (List A)) (ms ns : List A) → GainsBack x y ms → GainsBack y z ns → GainsBack x z (ms ++ ns)
  gains_more None y z ms ns h k = tt
  gains_more (Some xs) None z ms ns h k = absurd h
  gains_more (Some xs) (Some ys) None ms ns h k = k
  gains_more (Some xs) (Some ys) (Some zs) ms ns h k = k ∙ ap (λ l. l ++ ns) h ∙ append_assoc xs ms ns

  pub loses_all : (x y : Option (List A)) (ms : List A) → LosesFront x y ms → IsToldEmpty y → IsAllOf x ms
  loses_all None y ms h e = tt
  loses_all (Some xs) None ms h e = absurd h
  loses_all (Some xs) (Some ys) ms h e = h ∙ ap (λ l. ms ++ l) e ∙ append-nil ms

  pub keeps_same : (x : Option (List A)) → KeepsTold x x
  keeps_same None = tt
  keeps_same (Some xs) = refl
