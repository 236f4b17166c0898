-- Copies of elements a stride apart.
use Rattle.std.proofs.Common.{◌≡◌, ℕ, suc, ◌+◌, ◌*◌, ◌-◌, ◌<◌, ◌≤◌, List, length, take, drop, sym, ap, ◌∙◌, ◌⊎◌, inl, inr, arith}
use Rattle.std.proofs.lemmas.Nat.{mul-le}
use Rattle.std.proofs.lemmas.Bool.{cases_lt}
use Rattle.std.proofs.lemmas.List.{drop-take, drop-drop, take-take, length-drop, length-take-le}
use Rattle.hdf_values.specs.Nested.{piece_at, pieces_at, with_pieces}
use Rattle.hdf_values.proofs.JoinLemmas.{replaced_piece, kept_piece}
use Rattle.chunk_store.specs.StridedCopies.Strides.{nth, Fit, AreCopied, AreOthersKept}
use Rattle.chunk_store.specs.declared.strided_copies.copies.Strided.{Strided}

-- ---- elements that follow one another

-- one of `n` elements from the number `a` on
pub piece_of_subslice : (size a n i : ℕ) (bs : List ℕ) → i < n → piece_at size i (pieces_at size a n bs) ≡ piece_at size (a + i) bs
piece_of_subslice size a n i bs h =
    let room = mul-le (suc i) size n size (omega (arith, h)) (omega arith) in
    let split : n * size ≡ i * size + (n * size - i * size) = omega (arith, room) in
    let far : a * size + i * size ≡ (a + i) * size = omega arith in
    ap (λ m. take size (drop (i * size) (take m (drop (a * size) bs)))) split
    ∙ ap (take size) (drop-take (i * size) (n * size - i * size) (drop (a * size) bs))
    ∙ take-take size (n * size - i * size) (drop (i * size) (drop (a * size) bs)) (omega (arith, room))
    ∙ ap (take size) (drop-drop (i * size) (a * size) bs)
    ∙ ap (λ m. take size (drop m bs)) far

pub length-subslice : (size a n : ℕ) (bs : List ℕ) → (a + n) * size ≤ length bs → length (pieces_at size a n bs) ≡ n * size
length-subslice size a n bs h = length-take-le (n * size) (drop (a * size) bs) (omega (arith, length-drop (a * size) bs, h))

pub fit_together : (s : Strided) (many size bytes : ℕ) → s.stride ≡ 1 → 0 < many → Fit s many size bytes → (s.first + many) * size ≤ bytes
fit_together s many size bytes e some fit =
    let last = fit (many - 1) (omega arith) in
    let end : nth s (many - 1) + 1 ≡ s.first + many = ap (λ d. s.first + (many - 1) * d + 1) e ∙ omega arith in
    omega (arith, last, ap (λ n. n * size) end)

next_one : (s : Strided) (i : ℕ) → s.stride ≡ 1 → nth s i ≡ s.first + i
next_one s i e = ap (λ d. s.first + i * d) e ∙ omega arith

pub together_copied : (to at : Strided) (many size : ℕ) (from old : List ℕ) → to.stride ≡ 1 → at.stride ≡ 1 → (at.first + many) * size ≤ length from → (to.first + many) * size ≤ length old
    → AreCopied to at many size from (with_pieces size to.first (pieces_at size at.first many from) old)
together_copied to at many size from old e f inside room i h =
    let put = with_pieces size to.first (pieces_at size at.first many from) old in
    ap (λ n. piece_at size n put) (next_one to i e)
    ∙ replaced_piece size to.first many i (pieces_at size at.first many from) old (length-subslice size at.first many from inside) (omega (arith, room)) h
    ∙ piece_of_subslice size at.first many i from h
    ∙ ap (λ n. piece_at size n from) (sym (next_one at i f))

beside : (j k n : ℕ) → ((i : ℕ) → i < n → j ≡ k + i → ⊥) → (j < k) ⊎ (k + n ≤ j)
beside j k n h = elim (cases_lt j k) [
  | inl low ↦ inl low
  | inr high ↦ elim (cases_lt j (k + n)) [
    | inl within ↦ absurd (h (j - k) (omega arith) (omega arith))
    | inr past ↦ inr past
  ]
]

pub together_kept : (to : Strided) (many size : ℕ) (xs old : List ℕ) → to.stride ≡ 1 → length xs ≡ many * size → (to.first + many) * size ≤ length old → AreOthersKept to many size old (with_pieces size to.first xs old)
together_kept to many size xs old e len room j apart =
    kept_piece size to.first many j xs old len (omega (arith, room)) (beside j to.first many (λ i h same. apart i h (same ∙ sym (next_one to i e))))

-- ---- one element after another

-- a number is at most as large as the bytes before its element
pub number_small : (k size top : ℕ) → 1 ≤ size → (k + 1) * size ≤ top → k ≤ top
number_small k size top h l = omega (arith, l, mul-le k 1 k size (omega arith) h)

apart : (s : Strided) (j i : ℕ) → 1 ≤ s.stride → j < i → nth s j ≡ nth s i → ⊥
apart s j i h k e = absurd (omega (arith, e, mul-le (suc j) s.stride i s.stride k (omega arith)))

-- the element number `i` is put behind those before it
pub put_copied : (to at : Strided) (i size : ℕ) (from old xs : List ℕ) → 1 ≤ to.stride → AreCopied to at i size from old → xs ≡ pieces_at size (nth at i) 1 from
    → (nth at i + 1) * size ≤ length from → (nth to i + 1) * size ≤ length old → AreCopied to at (i + 1) size from (with_pieces size (nth to i) xs old)
put_copied to at i size from old xs h done e inside room j less =
    let len : length xs ≡ 1 * size = ap length e ∙ length-subslice size (nth at i) 1 from inside in
    let put = with_pieces size (nth to i) xs old in
    elim (cases_lt j i) [
      | inl low ↦ kept_piece size (nth to i) 1 (nth to j) xs old len (omega (arith, room)) (beside (nth to j) (nth to i) 1 (λ k few same. apart to j i h low (same ∙ omega (arith, few)))) ∙ done j low
      | inr high ↦
          let same : j ≡ i = omega (arith, less) in
          let here : piece_at size (nth to i + 0) put ≡ piece_at size 0 xs = replaced_piece size (nth to i) 1 0 xs old len (omega (arith, room)) (omega arith) in
          let there : piece_at size 0 (pieces_at size (nth at i) 1 from) ≡ piece_at size (nth at i + 0) from = piece_of_subslice size (nth at i) 1 0 from (omega arith) in
          let to_none : nth to i ≡ nth to i + 0 = omega arith in
          let at_none : nth at i + 0 ≡ nth at i = omega arith in
          ap (λ n. piece_at size (nth to n) put) same ∙ ap (λ n. piece_at size n put) to_none ∙ here
          ∙ ap (piece_at size 0) e ∙ there ∙ ap (λ n. piece_at size n from) at_none ∙ ap (λ n. piece_at size (nth at n) from) (sym same)
    ]

pub put_kept : (to : Strided) (i size : ℕ) (first old xs : List ℕ) → AreOthersKept to i size first old → length xs ≡ 1 * size → (nth to i + 1) * size ≤ length old → AreOthersKept to (i + 1) size first (with_pieces size (nth to i) xs old)
put_kept to i size first old xs done len room j out =
    kept_piece size (nth to i) 1 j xs old len (omega (arith, room)) (beside j (nth to i) 1 (λ k few same. out i (omega arith) (same ∙ omega (arith, few))))
    ∙ done j (λ k less. out k (omega (arith, less)))
