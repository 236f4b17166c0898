-- Byte lists that are taken or given in pieces.
use Rattle.std.proofs.Common.{◌≡◌, ℕ, ◌+◌, ◌-◌, List, ◌++◌, length, take, drop, Option, sym, ap, ◌∙◌, subst, length-drop, arith}
use Rattle.std.proofs.Math.Seq.{take-add, take-append_seam}
use Rattle.std.proofs.lemmas.List.{take_all, drop-drop, take-append-drop}
use Rattle.std.proofs.KnownBytes.{Appends-trans}
use Rattle.std.specs.Io.KnownBytes.{Appends}

-- the rest of a list as a slice
pub rest_slice : (d : ℕ) (xs : List ℕ) → take (length xs - d) (drop d xs) ≡ drop d xs
rest_slice d xs = take_all (length xs - d) (drop d xs) (omega (arith, length-drop d xs))

-- the first d, and n of the rest
pub piece_more : (d n : ℕ) (xs : List ℕ) → take d xs ++ take n (take (length xs - d) (drop d xs)) ≡ take (d + n) xs
piece_more d n xs = ap (λ l. take d xs ++ take n l) (rest_slice d xs) ∙ sym (take-add d n xs)

-- a sink that took the first d took n more
pub appended_more : (a b c : Option (List ℕ)) (d n : ℕ) (xs : List ℕ) → Appends a b (take d xs)
    → Appends b c (take n (take (length xs - d) (drop d xs))) → Appends a c (take (d + n) xs)
appended_more a b c d n xs before more =
    subst (Appends a c) (piece_more d n xs) (Appends-trans a b c _ _ before more)

-- a piece that was copied from a place is the front of what was left there
pub piece_given : (at n : ℕ) (bytes copied tail : List ℕ) → length copied ≡ n → copied ≡ take n (drop at bytes)
    → drop at bytes ≡ take n (copied ++ tail) ++ drop (at + n) bytes
piece_given at n bytes copied tail size same =
    sym (take-append-drop n (drop at bytes))
    ∙ ap (λ l. l ++ drop n (drop at bytes)) (sym same ∙ sym (ap (λ k. take k (copied ++ tail)) (sym size) ∙ take-append_seam copied tail))
    ∙ ap (λ l. take n (copied ++ tail) ++ l) (drop-drop n at bytes)
