-- Pieces of bytes that were joined, and of bytes of which some were replaced.
use Rattle.std.proofs.Common.{◌≡◌, ◌⊎◌, ℕ, suc, ◌+◌, ◌-◌, ◌*◌, ◌<◌, ◌≤◌, List, [], ◌∷◌, ◌++◌, length, take, drop, get_or, inl, inr, refl, sym, ap, ◌∙◌, arith}
use Rattle.std.specs.List.{AllByRecursion, flat_map}
use Rattle.std.proofs.lemmas.Nat.{mul-le}
use Rattle.std.proofs.lemmas.List.{append_assoc, length-append, length-drop, length-take-le, take-append-le, drop-append-le, take-append-drop, drop-drop}
use Rattle.std.proofs.Math.Seq.{drop-append-add}
use Rattle.hdf_values.specs.Nested.{piece_at, with_pieces}
use Rattle.hdf_values.proofs.PieceLemmas.{piece-first, piece-later}
use Rattle.hdf_values.proofs.RowLemmas.{piece-flat_map}

pub joined_piece : {A : Type 0} (k i : ℕ) (f : A → List ℕ) (ats : List A) (d : A) → AllByRecursion (λ at. length (f at) ≡ k) ats → i < length ats → piece_at k i (flat_map f ats) ≡ f (get_or ats i d)
joined_piece k i f ats d h q = piece-flat_map (λ at. length (f at) ≡ k) f k (λ x s. s) ats i d q h

pub joined_whole : {A : Type 0} (k : ℕ) (f : A → List ℕ) (ats : List A) (d : A) (bs : List ℕ) → length bs ≡ length ats * k → ((i : ℕ) → i < length ats → piece_at k i bs ≡ f (get_or ats i d)) → bs ≡ flat_map f ats
joined_whole k f [] d [] len each = refl
joined_whole k f [] d (b ∷ bs) len each = absurd (omega (arith, len))
joined_whole k f (x ∷ ats) d bs len each =
    let first : take k bs ≡ f x = sym (piece-first k bs) ∙ each 0 (omega arith) in
    let later = joined_whole k f ats d (drop k bs) (omega (arith, len, length-drop k bs)) (λ i q. sym (piece-later k i bs) ∙ each (suc i) (omega (arith, q))) in
    sym (take-append-drop k bs) ∙ ap (λ xs. xs ++ drop k bs) first ∙ ap (λ xs. f x ++ xs) later

-- ---- pieces of two parts

piece_in_front : (k m j : ℕ) (front rest : List ℕ) → length front ≡ m * k → j < m → piece_at k j (front ++ rest) ≡ piece_at k j front
piece_in_front k m j front rest len q =
    let most : (j + 1) * k ≤ m * k = mul-le (j + 1) k m k (omega (arith, q)) (omega arith) in
    let start : j * k ≤ length front = omega (arith, most, len) in
    let room : k ≤ length (drop (j * k) front) = omega (arith, most, len, length-drop (j * k) front) in
    ap (take k) (drop-append-le (j * k) front rest start) ∙ take-append-le k (drop (j * k) front) rest room

piece_behind : (k i j : ℕ) (front rest : List ℕ) → length front ≡ i * k → piece_at k (i + j) (front ++ rest) ≡ piece_at k j rest
piece_behind k i j front rest len =
    let far : (i + j) * k ≡ length front + j * k = omega (arith, len) in
    ap (λ n. take k (drop n (front ++ rest))) far ∙ ap (take k) (drop-append-add front rest (j * k))

-- ---- some replaced

pub replaced_piece : (k i m j : ℕ) (xs bs : List ℕ) → length xs ≡ m * k → i * k ≤ length bs → j < m → piece_at k (i + j) (with_pieces k i xs bs) ≡ piece_at k j xs
replaced_piece k i m j xs bs len within q =
    let front = take (i * k) bs in
    let back = drop (i * k + length xs) bs in
    let start : length (take (i * k) bs) ≡ i * k = length-take-le (i * k) bs within in
    ap (piece_at k (i + j)) (append_assoc front xs back) ∙ piece_behind k i j front (xs ++ back) start ∙ piece_in_front k m j xs back len q

piece_before : (k i j : ℕ) (xs bs : List ℕ) → i * k ≤ length bs → j < i → piece_at k j (with_pieces k i xs bs) ≡ piece_at k j bs
piece_before k i j xs bs within q =
    let front = take (i * k) bs in
    let back = drop (i * k + length xs) bs in
    let start : length (take (i * k) bs) ≡ i * k = length-take-le (i * k) bs within in
    ap (piece_at k j) (append_assoc front xs back)
    ∙ piece_in_front k i j front (xs ++ back) start q
    ∙ sym (piece_in_front k i j front (drop (i * k) bs) start q)
    ∙ ap (piece_at k j) (take-append-drop (i * k) bs)

piece_after : (k i m j : ℕ) (xs bs : List ℕ) → length xs ≡ m * k → i * k ≤ length bs → piece_at k (i + m + j) (with_pieces k i xs bs) ≡ piece_at k (i + m + j) bs
piece_after k i m j xs bs len within =
    let front = take (i * k) bs in
    let from = i * k + length xs in
    let start : length (take (i * k) bs) ≡ i * k = length-take-le (i * k) bs within in
    let both : length (take (i * k) bs ++ xs) ≡ (i + m) * k = omega (arith, length-append front xs, start, len) in
    let far : i * k + length xs + j * k ≡ (i + m + j) * k = omega (arith, len) in
    piece_behind k (i + m) j (front ++ xs) (drop from bs) both ∙ ap (take k) (drop-drop (j * k) from bs) ∙ ap (λ n. take k (drop n bs)) far

pub kept_piece : (k i m j : ℕ) (xs bs : List ℕ) → length xs ≡ m * k → i * k ≤ length bs → (j < i) ⊎ (i + m ≤ j) → piece_at k j (with_pieces k i xs bs) ≡ piece_at k j bs
kept_piece k i m j xs bs len within (inl low) = piece_before k i j xs bs within low
kept_piece k i m j xs bs len within (inr high) =
    let same : i + m + (j - (i + m)) ≡ j = omega (arith, high) in
    rw same at (piece_after k i m (j - (i + m)) xs bs len within)

pub replaced_length : (k i : ℕ) (xs bs : List ℕ) → i * k + length xs ≤ length bs → length (with_pieces k i xs bs) ≡ length bs
replaced_length k i xs bs within =
    let front = take (i * k) bs in
    let back = drop (i * k + length xs) bs in
    omega (arith, within, length-take-le (i * k) bs (omega (arith, within)), length-append front xs, length-append (front ++ xs) back, length-drop (i * k + length xs) bs)
