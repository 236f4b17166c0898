-- Cells of a chunk that follow one another on its last axis.
use Rattle.std.proofs.Common.{◌≡◌, ℕ, zero, suc, ◌+◌, ◌-◌, ◌*◌, ◌/◌, ◌%◌, ◌<◌, ◌≤◌, ◌⊎◌, min, true, false, cond, All, List, [], ◌∷◌, length, get_or, inl, inr, refl, sym, ap, ◌∙◌, arith}
use Rattle.std.proofs.lemmas.Bool.{cases_lt, false_from_ne_true}
use Rattle.std.proofs.lemmas.List.Elements.{All-head, All-tail}
use Rattle.std.proofs.lemmas.Nat.{mod_below}
use Rattle.hdf_values.specs.Nested.{piece_at}
use Rattle.shapes.specs.declared.Shape.{Shape}
use Rattle.shapes.specs.declared.Shape.TheVariants.{Null, Scalar, Simple}
use Rattle.shapes.specs.RowMajor.{cell_count, IsInside}
use Rattle.shapes.specs.Shapes.{lies_in, dims_of}
use Rattle.shapes.proofs.InsideLemmas.{inside_told, inside_read}
use Rattle.chunk_layout.specs.Chunks.{IsChunkDim, quotients, offset_of, cell_at, chunk_cells}
use Rattle.chunk_layout.proofs.CellLemmas.{cell_back, chunk_listed, offset_below}
use Rattle.chunk_store.specs.Rows.{IsRow, left_below, left_in}
use Rattle.chunk_store.specs.declared.buffers.Frame.{Frame}
use Rattle.chunk_store.specs.declared.rows.Row.{Row}
use Rattle.chunk_store.proofs.RowLemmas.{digits_of}
use Rattle.chunk_store.proofs.TruncationLemmas.{ArePartlyTruncated}
use Rattle.chunk_store.specs.Buffers.{chunk_bytes}

-- the cell `j` numbers behind on the last axis
abbrev ahead : List ℕ → ℕ → List ℕ
ahead [] j = []
ahead (x ∷ []) j = (x + j) ∷ []
ahead (x ∷ y ∷ ys) j = x ∷ ahead (y ∷ ys) j

record IsAhead (at chunk : List ℕ) (j : ℕ) : Type 0 where
  rank : length (ahead at j) ≡ length at
  index : quotients (ahead at j) chunk ≡ quotients at chunk
  offset : offset_of (ahead at j) chunk ≡ offset_of at chunk + j

last_ahead : (x n j : ℕ) → 1 ≤ n → j < n - x % n → IsAhead (x ∷ []) (n ∷ []) j
last_ahead x n j some low =
    let rest : x % n < n = mod_below x n some in
    let digits = digits_of x n j (omega (arith, rest, low)) in
    record { rank = refl; index = ap (λ q. q ∷ []) digits.0; offset = omega (arith, digits.1) }

all_ahead : (at chunk : List ℕ) (j : ℕ) → All IsChunkDim chunk → length at ≡ length chunk → j < left_in at chunk → IsAhead at chunk j
all_ahead [] chunk j ns e low = record { rank = refl; index = refl; offset = omega (arith, low) }
all_ahead (x ∷ at) [] j ns e low = absurd (omega (arith, e))
all_ahead (x ∷ []) (n ∷ []) j ns e low = last_ahead x n j (All-head IsChunkDim n [] ns).0 low
all_ahead (x ∷ []) (n ∷ m ∷ ms) j ns e low = absurd (omega (arith, e))
all_ahead (x ∷ y ∷ ys) (n ∷ ms) j ns e low =
    let h = all_ahead (y ∷ ys) ms j (All-tail IsChunkDim n ms ns) (omega (arith, e)) low in
    record {
      rank = ap suc h.rank;
      index = ap (λ q. x / n ∷ q) h.index;
      offset = ap (λ p. x % n * cell_count ms + p) h.offset ∙ omega arith;
    }

left_some : (at chunk : List ℕ) → All IsChunkDim chunk → 1 ≤ left_in at chunk
left_some [] chunk ns = omega arith
left_some (x ∷ []) [] ns = omega arith
left_some (x ∷ y ∷ ys) [] ns = omega arith
left_some (x ∷ []) (n ∷ ms) ns =
    let rest : x % n < n = mod_below x n (All-head IsChunkDim n ms ns).0 in
    omega (arith, rest)
left_some (x ∷ y ∷ ys) (n ∷ ms) ns = left_some (y ∷ ys) ms (All-tail IsChunkDim n ms ns)

-- ---- which of these lie in a grid

ahead_in : (at dims : List ℕ) (j : ℕ) → IsInside at dims → j < left_below at dims → IsInside (ahead at j) dims
ahead_in [] [] j on low = tt
ahead_in [] (d ∷ ds) j on low = absurd on
ahead_in (x ∷ at) [] j on low = absurd on
ahead_in (x ∷ []) (d ∷ []) j on low = (omega (arith, low, on.0), tt)
ahead_in (x ∷ []) (d ∷ e ∷ ds) j on low = absurd on.1
ahead_in (x ∷ y ∷ ys) (d ∷ ds) j on low = (on.0, ahead_in (y ∷ ys) ds j on.1 low)

ahead_out : (at dims : List ℕ) (j : ℕ) → (length at ≡ 0 → j < 1) → left_below at dims ≤ j → IsInside (ahead at j) dims → ⊥
ahead_out [] dims j one past on = omega (arith, one refl, past)
ahead_out (x ∷ []) [] j one past on = absurd on
ahead_out (x ∷ []) (d ∷ ds) j one past on = omega (arith, past, on.0)
ahead_out (x ∷ y ∷ ys) [] j one past on = absurd on
ahead_out (x ∷ y ∷ ys) (d ∷ ds) j one past on = ahead_out (y ∷ ys) ds j (λ e. absurd (omega (arith, e))) past on.1

back_in : (at dims : List ℕ) (j : ℕ) → IsInside (ahead at j) dims → IsInside at dims
back_in [] dims j on = on
back_in (x ∷ []) [] j on = absurd on
back_in (x ∷ []) (d ∷ ds) j on = (omega (arith, on.0), on.1)
back_in (x ∷ y ∷ ys) [] j on = absurd on
back_in (x ∷ y ∷ ys) (d ∷ ds) j on = (on.0, back_in (y ∷ ys) ds j on.1)

module _ (at : List ℕ) (j : ℕ) where
  lies_ahead : (s : Shape) → lies_in at s ≡ true → j < left_below at (dims_of s) → lies_in (ahead at j) s ≡ true
  lies_ahead Null on low = on
  lies_ahead Scalar on low = inside_read (ahead at j) [] (ahead_in at [] j (inside_told at [] on) low)
  lies_ahead (Simple dims limits) on low = inside_read (ahead at j) dims (ahead_in at dims j (inside_told at dims on) low)

  lies_past : (s : Shape) → (length at ≡ 0 → j < 1) → left_below at (dims_of s) ≤ j → lies_in (ahead at j) s ≡ false
  lies_past Null one past = refl
  lies_past Scalar one past = false_from_ne_true (lies_in (ahead at j) Scalar) (λ on. ahead_out at [] j one past (inside_told (ahead at j) [] on))
  lies_past (Simple dims limits) one past = false_from_ne_true (lies_in (ahead at j) (Simple dims limits)) (λ on. ahead_out at dims j one past (inside_told (ahead at j) dims on))

  lies_never : (s : Shape) → lies_in at s ≡ false → lies_in (ahead at j) s ≡ false
  lies_never Null off = refl
  lies_never Scalar off = false_from_ne_true (lies_in (ahead at j) Scalar) (λ on. let both : true ≡ false = sym (inside_read at [] (back_in at [] j (inside_told (ahead at j) [] on))) ∙ off in cc)
  lies_never (Simple dims limits) off =
      false_from_ne_true (lies_in (ahead at j) (Simple dims limits)) (λ on. let both : true ≡ false = sym (inside_read at dims (back_in at dims j (inside_told (ahead at j) dims on))) ∙ off in cc)

-- ---- the row

module _ (chunk i at : List ℕ) (o : ℕ) (dims : All IsChunkDim chunk) (rank : length at ≡ length chunk) (index : quotients at chunk ≡ i) (offset : offset_of at chunk ≡ o) where
  cell_ahead : (j : ℕ) → j < left_in at chunk → cell_at i (o + j) chunk ≡ ahead at j
  cell_ahead j low =
      let h = all_ahead at chunk j dims rank low in
      ap (λ x. cell_at x (o + j) chunk) (sym index ∙ sym h.index)
      ∙ ap (λ n. cell_at (quotients (ahead at j) chunk) n chunk) (ap (λ n. n + j) (sym offset) ∙ sym h.offset)
      ∙ cell_back chunk (ahead at j) dims (h.rank ∙ rank)

  row_room : o + left_in at chunk ≤ cell_count chunk
  row_room =
      let some = left_some at chunk dims in
      let j : ℕ = left_in at chunk - 1 in
      let h = all_ahead at chunk (left_in at chunk - 1) dims rank (omega (arith, some)) in
      omega (arith, some, h.offset, offset, offset_below (ahead at (left_in at chunk - 1)) chunk dims (h.rank ∙ rank))

  one_there : (j : ℕ) → j < left_in at chunk → length at ≡ 0 → j < 1
  one_there j low none = one_cell at low none
    where
      one_cell : (xs : List ℕ) → j < left_in xs chunk → length xs ≡ 0 → j < 1
      one_cell [] low none = low
      one_cell (x ∷ xs) low none = absurd (omega (arith, none))

  pub row_none : (s : Shape) (len : ℕ) → len ≡ left_in at chunk → lies_in at s ≡ false → IsRow chunk s i o (record { len = len; inside = 0 })
  row_none s len is off = record {
    some = omega (arith, is, left_some at chunk dims);
    room = omega (arith, is, row_room);
    few = omega arith;
    within = λ j low. absurd (omega (arith, low));
    outside = λ j past low. ap (λ x. lies_in x s) (cell_ahead j (omega (arith, low, is))) ∙ lies_never at j s off;
  }

  pub row_some : (s : Shape) (len inside : ℕ) → len ≡ left_in at chunk → inside ≡ min (left_below at (dims_of s)) len → lies_in at s ≡ true → IsRow chunk s i o (record { len = len; inside = inside })
  row_some s len inside is in_is on = record {
    some = omega (arith, is, left_some at chunk dims);
    room = omega (arith, is, row_room);
    few = omega (arith, in_is);
    within = λ j low. ap (λ x. lies_in x s) (cell_ahead j (omega (arith, low, is, in_is))) ∙ lies_ahead at j s on (omega (arith, low, in_is));
    outside = λ j past low.
        let within : j < left_in at chunk = omega (arith, low, is) in
        ap (λ x. lies_in x s) (cell_ahead j within) ∙ lies_past at j s (one_there j within) (omega (arith, past, low, in_is));
  }

-- the counts, by the numbers of the last axis
pub left_in_last : (at chunk : List ℕ) (k : ℕ) → length at ≡ suc k → length at ≡ length chunk → get_or chunk k 0 - get_or at k 0 % get_or chunk k 0 ≡ left_in at chunk
left_in_last [] chunk k e d = absurd (omega (arith, e))
left_in_last (x ∷ at) [] k e d = absurd (omega (arith, d))
left_in_last (x ∷ []) (n ∷ chunk) zero e d = refl
left_in_last (x ∷ []) (n ∷ chunk) (suc k) e d = absurd (omega (arith, e))
left_in_last (x ∷ y ∷ ys) (n ∷ chunk) zero e d = absurd (omega (arith, e))
left_in_last (x ∷ y ∷ ys) (n ∷ chunk) (suc k) e d = left_in_last (y ∷ ys) chunk k (omega (arith, e)) (omega (arith, d))

pub left_below_last : (at dims : List ℕ) (k : ℕ) → length at ≡ suc k → IsInside at dims → get_or dims k 0 - get_or at k 0 ≡ left_below at dims
left_below_last [] dims k e on = absurd (omega (arith, e))
left_below_last (x ∷ at) [] k e on = absurd on
left_below_last (x ∷ []) (d ∷ dims) zero e on = refl
left_below_last (x ∷ []) (d ∷ dims) (suc k) e on = absurd (omega (arith, e))
left_below_last (x ∷ y ∷ ys) (d ∷ dims) zero e on = absurd (omega (arith, e))
left_below_last (x ∷ y ∷ ys) (d ∷ dims) (suc k) e on = left_below_last (y ∷ ys) dims k (omega (arith, e)) on.1

pub left_in_read : (at chunk : List ℕ) (k x n : ℕ) → length at ≡ suc k → length at ≡ length chunk → x ≡ get_or at k 0 → n ≡ get_or chunk k 0 → n - x % n ≡ left_in at chunk
left_in_read at chunk k x n e d x_is n_is = ap (λ v. n - v % n) x_is ∙ ap (λ v. v - get_or at k 0 % v) n_is ∙ left_in_last at chunk k e d

pub left_below_read : (at dims : List ℕ) (k x d : ℕ) → length at ≡ suc k → IsInside at dims → x ≡ get_or at k 0 → d ≡ get_or dims k 0 → d - x ≡ left_below at dims
left_below_read at dims k x d e on x_is d_is = ap (λ v. d - v) x_is ∙ ap (λ v. v - get_or at k 0) d_is ∙ left_below_last at dims k e on

-- ---- walks over the rows of a chunk

-- one more row is truncated
pub truncated_row : (f : Frame) (s : Shape) (i old now new : List ℕ) (k first many : ℕ) (r : Row) → IsRow f.layout.chunk s i k r → first ≡ k + r.inside → many ≡ r.len - r.inside → ArePartlyTruncated f s i old now k → length new ≡ chunk_bytes f
    → ((j : ℕ) → j < many → piece_at f.size (first + j) new ≡ f.blank.items) → ((j : ℕ) → (j < first) ⊎ (first + many ≤ j) → piece_at f.size j new ≡ piece_at f.size j now) → ArePartlyTruncated f s i old new (k + r.len)
truncated_row f s i old now new k first many r row first_is many_is h full here others = record {
  full = full;
  before = λ j low. elim (cases_lt j k) [
    | inl less ↦ others j (inl (omega (arith, less, first_is))) ∙ h.before j less
    | inr past ↦
        let there : k + (j - k) ≡ j = omega (arith, past) in
        elim (cases_lt j first) [
          | inl on ↦
              let lies = row.within (j - k) (omega (arith, on, first_is, past)) in
              others j (inl on) ∙ h.behind j past
              ∙ sym (ap (λ b. cond b (piece_at f.size j old) f.blank.items) (ap (λ n. lies_in (cell_at i n f.layout.chunk) s) (sym there) ∙ lies))
          | inr off ↦
              let out = row.outside (j - k) (omega (arith, off, first_is, past)) (omega (arith, low, past)) in
              let at : first + (j - first) ≡ j = omega (arith, off) in
              ap (λ n. piece_at f.size n new) (sym at) ∙ here (j - first) (omega (arith, off, first_is, many_is, low, row.few))
              ∙ sym (ap (λ b. cond b (piece_at f.size j old) f.blank.items) (ap (λ n. lies_in (cell_at i n f.layout.chunk) s) (sym there) ∙ out))
        ]
  ];
  behind = λ j past. others j (inr (omega (arith, past, first_is, many_is, row.few))) ∙ h.behind j (omega (arith, past));
}

-- ---- rows of which the cells outside are looked at

module _ (s : Shape) (chunk i bs blank : List ℕ) (k first many : ℕ) (r : Row) (dims : All IsChunkDim chunk) (row : IsRow chunk s i k r) (first_is : first ≡ k + r.inside) (many_is : many ≡ r.len - r.inside) where
  -- one more row has the blank outside
  pub blank_row : ((j : ℕ) → j < many → piece_at (length blank) (first + j) bs ≡ blank) → ((j : ℕ) → j < k → lies_in (get_or (chunk_cells i chunk) j []) s ≡ false → piece_at (length blank) j bs ≡ blank)
      → (j : ℕ) → j < k + r.len → lies_in (get_or (chunk_cells i chunk) j []) s ≡ false → piece_at (length blank) j bs ≡ blank
  blank_row here before j low out = elim (cases_lt j k) [
    | inl less ↦ before j less out
    | inr past ↦
        let there : k + (j - k) ≡ j = omega (arith, past) in
        elim (cases_lt j first) [
          | inl on ↦
              let lies = row.within (j - k) (omega (arith, on, first_is, past)) in
              let cell = chunk_listed chunk i j dims (omega (arith, low, row.room)) in
              absurd (let both : true ≡ false = sym lies ∙ ap (λ n. lies_in (cell_at i n chunk) s) there ∙ ap (λ x. lies_in x s) (sym cell) ∙ out in cc)
          | inr off ↦
              let at : first + (j - first) ≡ j = omega (arith, off) in
              ap (λ n. piece_at (length blank) n bs) (sym at) ∙ here (j - first) (omega (arith, off, first_is, many_is, low, row.few))
        ]
  ]

  -- where all cells outside have the blank, those of the row do
  pub row_blank : ((j : ℕ) → j < cell_count chunk → lies_in (get_or (chunk_cells i chunk) j []) s ≡ false → piece_at (length blank) j bs ≡ blank) → (j : ℕ) → j < many → piece_at (length blank) (first + j) bs ≡ blank
  row_blank all j low =
      let below : first + j < cell_count chunk = omega (arith, low, first_is, many_is, row.few, row.room) in
      let there : k + (r.inside + j) ≡ first + j = omega (arith, first_is) in
      let out = row.outside (r.inside + j) (omega arith) (omega (arith, low, many_is, row.few)) in
      all (first + j) below (ap (λ x. lies_in x s) (chunk_listed chunk i (first + j) dims below) ∙ ap (λ n. lies_in (cell_at i n chunk) s) (sym there) ∙ out)
