-- The passes of many callers of one hall.
--     IsGiver h n p    a pass that has n numbers to give away, and took in no other pass
--     IsMember h p     a pass that has its own number alone
use Rattle.std.specs.Prelude.{◌≡◌, ℕ, [], length}
use Rattle.hall.specs.Passes.{IsPassOf, names_of, view_of}
use Rattle.hall.specs.declared.desk.AtDesk.{Ghosts}
use Rattle.hall.specs.declared.hall.Hall.{Hall}
use Rattle.hall.specs.declared.pass.Pass.{Pass}

pub record IsGiver {D K : Type 0} {g : Ghosts D K} (h : Hall D K) (n : ℕ) (p : Pass D K g) : Type 0 where
  pub of_this_hall : IsPassOf h p
  pub spare : length (view_of p).spare ≡ n
  pub joined : (view_of p).joined ≡ []

pub record IsMember {D K : Type 0} {g : Ghosts D K} (h : Hall D K) (p : Pass D K g) : Type 0 where
  pub of_this_hall : IsPassOf h p
  pub alone : length (names_of p) ≡ 1
