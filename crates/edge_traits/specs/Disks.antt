-- What the calls of a disk do to its bytes, and what a crash may leave of them.
use Rattle.std.specs.Prelude.{◌≡◌, ◌⊎◌, ℕ, ◌+◌, ◌≤◌, max, List, ◌++◌, length, take, drop}

-- old with these bytes at this place
abbrev pub overwritten : ℕ → List ℕ → List ℕ → List ℕ
overwritten at bytes old = take at old ++ bytes ++ drop (at + length bytes) old

abbrev pub Written : ℕ → List ℕ → List ℕ → List ℕ → Type 0
Written at bytes old new = new ≡ overwritten at bytes old

-- a write of n bytes that was torn: any bytes in its range and past the old end, the same elsewhere
pub record Torn (at n : ℕ) (old new : List ℕ) : Type 0 where
  pub before : take at new ≡ take at old
  pub after : drop (at + n) new ≡ drop (at + n) old
  pub no_shorter : length old ≤ length new
  pub no_longer : length new ≤ max (length old) (at + n)

-- the n bytes at the front of buf are as many of those from this place on as buf has room for
abbrev pub Fills : ℕ → List ℕ → ℕ → List ℕ → Type 0
Fills at bytes n buf = take n buf ≡ take (length buf) (drop at bytes)

-- a crash may leave no more than it could before
abbrev pub LeavesNoMore : (List ℕ → Type 0) → (List ℕ → Type 0) → Type 0
LeavesNoMore old new = (c : List ℕ) → new c → old c

-- a crash may leave all that it could before
abbrev pub LeavesAll : (List ℕ → Type 0) → (List ℕ → Type 0) → Type 0
LeavesAll old new = (c : List ℕ) → old c → new c

-- what a step makes of an image that a crash could leave before
abbrev pub After : (List ℕ → List ℕ → Type 0) → (List ℕ → Type 0) → List ℕ → Type 0
After step old c = (d : List ℕ) × old d × step d c

-- each image that a crash may leave is one that it could leave before, after a step
abbrev pub Follows : (List ℕ → List ℕ → Type 0) → (List ℕ → Type 0) → (List ℕ → Type 0) → Type 0
Follows step old new = LeavesNoMore (After step old) new

-- a crash leaves these bytes and nothing else
abbrev pub Only : List ℕ → (List ℕ → Type 0) → Type 0
Only bytes images = (c : List ℕ) → images c → c ≡ bytes

-- Time goes on: a crash since t might have left what it might have left before this call, or what it may leave after it.
pub record Elapses (before now : ℕ) (past since : ℕ → List ℕ → Type 0) (images : List ℕ → Type 0) : Type 0 where
  pub later : before ≤ now
  pub nothing_else : (t : ℕ) (c : List ℕ) → t ≤ before → since t c → past t c ⊎ images c
  pub keeps : (t : ℕ) (c : List ℕ) → t ≤ before → past t c → since t c

-- Time goes on over a call that takes this step, by one move or by many: a crash since t might have left what it might have left
-- before this call, or what the step makes of an image of before.
abbrev pub ElapsesBy : (List ℕ → List ℕ → Type 0) → ℕ → ℕ → (ℕ → List ℕ → Type 0) → (ℕ → List ℕ → Type 0) → (List ℕ → Type 0) → Type 0
ElapsesBy step before now past since old = Elapses before now past since (After step old)
