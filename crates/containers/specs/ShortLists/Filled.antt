-- How a short list lies in its room.
use Rattle.std.specs.Prelude.{◌≡◌, ℕ, ◌-◌, ◌≤◌, List, ◌++◌, length, take, drop, replicate}
use Rattle.std.proofs.Common.{sym, ap, ◌∙◌, arith}
use Rattle.std.proofs.lemmas.List.{length-take-le, take-append-drop}

-- the numbers, and zeros after them
abbrev pub filled : ℕ → List ℕ → List ℕ
filled cap ns = ns ++ replicate (cap - length ns) 0

-- `room` has `cap` places, of which those past `len` are zero
pub record IsFilled (cap len : ℕ) (room : List ℕ) : Type 0 where
  pub within : len ≤ cap
  pub whole : length room ≡ cap
  pub zeros : drop len room ≡ replicate (cap - len) 0

pub length-shown : (cap len : ℕ) (room : List ℕ) → IsFilled cap len room → length (take len room) ≡ len
length-shown cap len room h = length-take-le len room (omega arith)

pub filled-shown : (cap len : ℕ) (room : List ℕ) → IsFilled cap len room → take len room ++ replicate (cap - len) 0 ≡ room
filled-shown cap len room h = ap (λ rest. take len room ++ rest) (sym h.zeros) ∙ take-append-drop len room
