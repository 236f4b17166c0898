-- Numbers at the front of bytes.
use Rattle.std.proofs.Common.{◌≡◌, ℕ, ◌≤◌, ◌<◌, List, [], ◌∷◌, length, take, drop, get_or, Some, None, sym, ◌∙◌, ap, arith}
use Rattle.std.specs.Prelude.{option_and_then, ◌⊎◌, true, false, if◌then◌else◌}
use Rattle.std.proofs.Common.{inl, inr}
use Rattle.std.proofs.lemmas.Bool.{cond-true, cond-false}
use Rattle.std.proofs.lemmas.Bool.Decides.{nat_tests}
use Rattle.std.specs.Int.{w32, w64, from_be_bytes}
use Rattle.std.proofs.lemmas.List.{get_or-take}
use Rattle.flush_journal.specs.Records.{split_front, split_number_4, split_number_8, is_key_length, split_key}
use Rattle.flush_journal.proofs.RecordLemmas.{split_enough, split_short}

pub split_number_4-short : (bytes : List ℕ) → length bytes < 4 → split_number_4 bytes ≡ None
unfolding split_number_4
split_number_4-short bytes short = ap (option_and_then (λ (p : List ℕ × List ℕ). Some (from_be_bytes w32 p.0, p.1))) (split_short 4 bytes short)

pub split_number_8-short : (bytes : List ℕ) → length bytes < 8 → split_number_8 bytes ≡ None
unfolding split_number_8
split_number_8-short bytes short = ap (option_and_then (λ (p : List ℕ × List ℕ). Some (from_be_bytes w64 p.0, p.1))) (split_short 8 bytes short)

pub front_4 : (bytes : List ℕ) → from_be_bytes w32 (take 4 bytes) ≡ from_be_bytes w32 bytes
front_4 bytes =
    let e : (k : ℕ) → k < 4 → get_or (take 4 bytes) k 0 ≡ get_or bytes k 0 = λ k lt. get_or-take 4 bytes k 0 lt in
    λ i. from_be_bytes w32 (e 0 (omega arith) i ∷ e 1 (omega arith) i ∷ e 2 (omega arith) i ∷ e 3 (omega arith) i ∷ [])

pub front_8 : (bytes : List ℕ) → from_be_bytes w64 (take 8 bytes) ≡ from_be_bytes w64 bytes
front_8 bytes =
    let e : (k : ℕ) → k < 8 → get_or (take 8 bytes) k 0 ≡ get_or bytes k 0 = λ k lt. get_or-take 8 bytes k 0 lt in
    λ i. from_be_bytes w64 (e 0 (omega arith) i ∷ e 1 (omega arith) i ∷ e 2 (omega arith) i ∷ e 3 (omega arith) i ∷ e 4 (omega arith) i ∷ e 5 (omega arith) i ∷ e 6 (omega arith) i ∷ e 7 (omega arith) i ∷ [])

pub split_number_4-is : (bytes : List ℕ) → 4 ≤ length bytes → split_number_4 bytes ≡ Some (from_be_bytes w32 bytes, drop 4 bytes)
unfolding split_number_4
split_number_4-is bytes long =
    ap (option_and_then (λ (p : List ℕ × List ℕ). Some (from_be_bytes w32 p.0, p.1))) (split_enough 4 bytes long) ∙ ap (λ (n : ℕ). Some (n, drop 4 bytes)) (front_4 bytes)

pub split_number_8-is : (bytes : List ℕ) → 8 ≤ length bytes → split_number_8 bytes ≡ Some (from_be_bytes w64 bytes, drop 8 bytes)
unfolding split_number_8
split_number_8-is bytes long =
    ap (option_and_then (λ (p : List ℕ × List ℕ). Some (from_be_bytes w64 p.0, p.1))) (split_enough 8 bytes long) ∙ ap (λ (n : ℕ). Some (n, drop 8 bytes)) (front_8 bytes)

key_allowed : (n : ℕ) → 0 < n → n < 65536 → is_key_length n ≡ true
key_allowed n some short = grind (arith, nat_tests)

key_refused : (n : ℕ) → (n < 1) ⊎ (65535 < n) → is_key_length n ≡ false
key_refused n (inl none) = grind (arith, nat_tests)
key_refused n (inr long) = grind (arith, nat_tests)

pub split_key-refused : (bytes rest : List ℕ) (n : ℕ) → Some (n, rest) ≡ split_number_4 bytes → (n < 1) ⊎ (65535 < n) → None ≡ split_key bytes
unfolding split_key
split_key-refused bytes rest n is wrong =
    sym (cond-false (is_key_length n) (split_front n rest) None (key_refused n wrong)) ∙ ap (option_and_then (λ (p : ℕ × List ℕ). if is_key_length p.0 then split_front p.0 p.1 else None)) is

pub split_key-allowed : (bytes rest : List ℕ) (n : ℕ) → Some (n, rest) ≡ split_number_4 bytes → 0 < n → n < 65536 → split_front n rest ≡ split_key bytes
unfolding split_key
split_key-allowed bytes rest n is some short =
    sym (cond-true (is_key_length n) (split_front n rest) None (key_allowed n some short)) ∙ ap (option_and_then (λ (p : ℕ × List ℕ). if is_key_length p.0 then split_front p.0 p.1 else None)) is
