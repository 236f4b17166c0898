-- Names that differ, as a look-up tests them.
use Rattle.std.proofs.Common.{◌≡◌, ℕ, List, Bool, true, false, refl}
use Rattle.std.specs.Str.{bytes_eq}
use Rattle.std.proofs.lemmas.Slice.Eq.{bytes_eq-Decides}

differ : (xs ys : List ℕ) (b : Bool) → bytes_eq xs ys ≡ b → (xs ≡ ys → ⊥) → b ≡ false
differ xs ys true e other = absurd (other ((bytes_eq-Decides xs ys).0 e))
differ xs ys false e other = refl

pub differs : (xs ys : List ℕ) → (xs ≡ ys → ⊥) → bytes_eq xs ys ≡ false
differs xs ys other = differ xs ys _ refl other

pub same_bytes : (xs ys : List ℕ) → bytes_eq xs ys ≡ true → xs ≡ ys
same_bytes xs ys e = (bytes_eq-Decides xs ys).0 e

pub equal_bytes : (xs : List ℕ) → bytes_eq xs xs ≡ true
equal_bytes xs = (bytes_eq-Decides xs xs).1 refl
