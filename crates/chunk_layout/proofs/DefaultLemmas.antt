-- Dims halved again and again: they fall, stay dims of a chunk, and end at one chunk.
use Rattle.std.proofs.Common.{◌≡◌, ℕ, zero, suc, ◌+◌, ◌*◌, ◌/◌, ◌<◌, ◌≤◌, ◌⊎◌, max, Bool, true, false, cond, List, [], ◌∷◌, ◌++◌, length, drop, get_or, All, inl, inr, nat_eq, refl, sym, ap, subst, ◌∙◌, arith}
use Rattle.std.proofs.lemmas.Bool.{cases_lt, eqb-true}
use Rattle.std.proofs.lemmas.Bool.Decides.{nat_tests}
use Rattle.std.proofs.lemmas.Nat.{mul-le}
use Rattle.std.proofs.lemmas.List.{drop_more, append_assoc, length-map}
use Rattle.std.proofs.lemmas.List.Elements.{All-nil, All-cons, All-head, All-tail}
use Rattle.shapes.specs.declared.Shape.{Shape}
use Rattle.shapes.specs.declared.Shape.TheVariants.{Null, Scalar, Simple}
use Rattle.shapes.specs.declared.TheConstants.{MAX_EXTENT, MAX_CHUNK_BYTES}
use Rattle.shapes.specs.RowMajor.{cell_count}
use Rattle.shapes.specs.Shapes.{IsSound, dims_of}
use Rattle.chunk_layout.specs.declared.TheConstants.{DEFAULT_CHUNK_BYTES}
use Rattle.chunk_layout.specs.Chunks.{IsChunkDim, IsChunk}
use Rattle.chunk_layout.specs.Defaults.{at_least_one, largest, halve_first, halved, halved_times, IsLarge, IsHalvedDown, IsDefault}
use Rattle.chunk_layout.specs.Layouts.{Fits}
use Rattle.shapes.proofs.ShapeLemmas.{few_dims}

-- ---- one halving

abbrev pub total : List ℕ → ℕ
total [] = 0
total (n ∷ ns) = n + total ns

falls_at : (b : Bool) (m n : ℕ) (ns : List ℕ) → nat_eq n m ≡ b → 1 < m → max n (largest ns) ≡ m → (largest ns ≡ m → total (halve_first m ns) < total ns)
    → total (cond b ((n + 1) / 2 ∷ ns) (n ∷ halve_first m ns)) < n + total ns
falls_at true m n ns e h k rest =
    let same = eqb-true n m e in
    omega (arith, same)
falls_at false m n ns e h k rest =
    let later : largest ns ≡ m = grind (arith, nat_tests, e, k) in
    let less = rest later in
    omega (arith, less)

pub halve_falls : (m : ℕ) (ns : List ℕ) → 1 < m → largest ns ≡ m → total (halve_first m ns) < total ns
halve_falls m [] h e = absurd (omega (arith, e))
halve_falls m (n ∷ ns) h e = falls_at (nat_eq n m) m n ns refl h e (halve_falls m ns h)

length_at : (b : Bool) (m n : ℕ) (ns : List ℕ) → length (halve_first m ns) ≡ length ns → length (cond b ((n + 1) / 2 ∷ ns) (n ∷ halve_first m ns)) ≡ suc (length ns)
length_at true m n ns e = refl
length_at false m n ns e = ap suc e

length-halve : (m : ℕ) (ns : List ℕ) → length (halve_first m ns) ≡ length ns
length-halve m [] = refl
length-halve m (n ∷ ns) = length_at (nat_eq n m) m n ns (length-halve m ns)

half_dim : (n : ℕ) → IsChunkDim n → IsChunkDim ((n + 1) / 2)
half_dim n h =
    let low = h.0 in
    let high = h.1 in
    (omega (arith, low), omega (arith, low, high))

dims_at : (b : Bool) (m n : ℕ) (ns : List ℕ) → IsChunkDim n → All IsChunkDim ns → All IsChunkDim (halve_first m ns) → All IsChunkDim (cond b ((n + 1) / 2 ∷ ns) (n ∷ halve_first m ns))
dims_at true m n ns h k l = All-cons IsChunkDim ((n + 1) / 2) ns (half_dim n h) k
dims_at false m n ns h k l = All-cons IsChunkDim n (halve_first m ns) h l

dims-halve : (m : ℕ) (ns : List ℕ) → All IsChunkDim ns → All IsChunkDim (halve_first m ns)
dims-halve m [] h = h
dims-halve m (n ∷ ns) h =
    let tail = All-tail IsChunkDim n ns h in
    dims_at (nat_eq n m) m n ns (All-head IsChunkDim n ns h) tail (dims-halve m ns tail)

-- ---- the walk that halves the first of the largest

pub halve_other : (m i : ℕ) (ns done : List ℕ) → i < length ns → nat_eq (get_or ns i 0) m ≡ false
    → done ++ halve_first m (drop i ns) ≡ (done ++ get_or ns i 0 ∷ []) ++ halve_first m (drop (i + 1) ns)
halve_other m i ns done h e = rw (drop_more ns i 0 h, e) (sym (append_assoc done (get_or ns i 0 ∷ []) (halve_first m (drop (i + 1) ns))))

pub halve_here : (m i : ℕ) (ns done : List ℕ) → i < length ns → nat_eq (get_or ns i 0) m ≡ true
    → done ++ halve_first m (drop i ns) ≡ (done ++ (get_or ns i 0 + 1) / 2 ∷ []) ++ drop (i + 1) ns
halve_here m i ns done h e = rw (drop_more ns i 0 h, e) (sym (append_assoc done ((get_or ns i 0 + 1) / 2 ∷ []) (drop (i + 1) ns)))

pub kept_next : (i : ℕ) (ns done : List ℕ) → i < length ns → done ++ drop i ns ≡ (done ++ get_or ns i 0 ∷ []) ++ drop (i + 1) ns
kept_next i ns done h = rw (drop_more ns i 0 h) (sym (append_assoc done (get_or ns i 0 ∷ []) (drop (i + 1) ns)))

pub largest_next : (t i : ℕ) (ns : List ℕ) → i < length ns → max (max t (get_or ns i 0)) (largest (drop (i + 1) ns)) ≡ max t (largest (drop i ns))
largest_next t i ns h = rw (drop_more ns i 0 h) (omega arith)

pub ones_next : (i : ℕ) (ns done : List ℕ) → i < length ns → done ++ at_least_one (drop i ns) ≡ (done ++ max (get_or ns i 0) 1 ∷ []) ++ at_least_one (drop (i + 1) ns)
ones_next i ns done h = rw (drop_more ns i 0 h) (sym (append_assoc done (max (get_or ns i 0) 1 ∷ []) (at_least_one (drop (i + 1) ns))))

-- ---- many halvings

-- halved so far, each time for need
pub record IsOnWay (size : ℕ) (start chunk : List ℕ) : Type 0 where
  pub times : ℕ
  pub made : chunk ≡ halved_times times start
  pub needed : (k : ℕ) → k < times → IsLarge size (halved_times k start)

pub way_begins : (size : ℕ) (start : List ℕ) → IsOnWay size start start
way_begins size start = record { times = 0; made = refl; needed = λ k h. absurd (omega (arith, h)) }

pub way_goes : (size : ℕ) (start chunk : List ℕ) → IsOnWay size start chunk → IsLarge size chunk → IsOnWay size start (halved chunk)
way_goes size start chunk way large = record {
  times = suc way.times;
  made = ap halved way.made;
  needed = λ k h. elim (cases_lt k way.times) [
    | inl p ↦ way.needed k p
    | inr p ↦
        let P = λ (ns : List ℕ). IsLarge size ns in
        let same : way.times ≡ k = omega (arith, p, h) in
        let Q = λ (t : ℕ). IsLarge size (halved_times t start) in
        subst Q same (subst P way.made large)
  ];
}

pub way_ends : (size : ℕ) (start chunk : List ℕ) → IsOnWay size start chunk → (IsLarge size chunk → ⊥) → IsHalvedDown size start chunk
way_ends size start chunk way enough = record { times = way.times; made = way.made; needed = way.needed; enough = enough }

too_soon : (size : ℕ) (start xs ys : List ℕ) → (h : IsHalvedDown size start xs) → (k : IsHalvedDown size start ys) → h.times < k.times → ⊥
too_soon size start xs ys h k less =
    let P = λ (ns : List ℕ). IsLarge size ns in
    h.enough (subst P (sym h.made) (k.needed h.times less))

pub one_end : (size : ℕ) (start xs ys : List ℕ) → IsHalvedDown size start xs → IsHalvedDown size start ys → xs ≡ ys
one_end size start xs ys h k = elim (cases_lt h.times k.times) [
  | inl p ↦ absurd (too_soon size start xs ys h k p)
  | inr p ↦ elim (cases_lt k.times h.times) [
    | inl q ↦ absurd (too_soon size start ys xs k h q)
    | inr q ↦
        let same : h.times ≡ k.times = omega (arith, p, q) in
        h.made ∙ ap (λ t. halved_times t start) same ∙ sym k.made
  ]
]

length-times : (k : ℕ) (ns : List ℕ) → length (halved_times k ns) ≡ length ns
length-times zero ns = refl
length-times (suc k) ns = length-halve (largest (halved_times k ns)) (halved_times k ns) ∙ length-times k ns

dims-times : (k : ℕ) (ns : List ℕ) → All IsChunkDim ns → All IsChunkDim (halved_times k ns)
dims-times zero ns h = h
dims-times (suc k) ns h = dims-halve (largest (halved_times k ns)) (halved_times k ns) (dims-times k ns h)

-- ---- where halving ends

one_element : (ns : List ℕ) → All IsChunkDim ns → largest ns ≤ 1 → cell_count ns ≡ 1
one_element [] h k = refl
one_element (n ∷ ns) h k =
    let low = (All-head IsChunkDim n ns h).0 in
    let one : n ≡ 1 = omega (arith, low, k) in
    let rest = one_element ns (All-tail IsChunkDim n ns h) (omega (arith, k)) in
    rw (one, rest) refl

pub small_end : (size : ℕ) (chunk : List ℕ) → All IsChunkDim chunk → (IsLarge size chunk → ⊥) → (size * cell_count chunk ≤ DEFAULT_CHUNK_BYTES) ⊎ (cell_count chunk ≡ 1)
small_end size chunk h enough = elim (cases_lt DEFAULT_CHUNK_BYTES (size * cell_count chunk)) [
  | inl p ↦ elim (cases_lt 1 (largest chunk)) [
    | inl q ↦ absurd (enough (p, q))
    | inr q ↦ inr (one_element chunk h q)
  ]
  | inr p ↦ inl p
]

ones_dims : (ns : List ℕ) → All (λ n. n ≤ MAX_EXTENT) ns → All IsChunkDim (at_least_one ns)
ones_dims [] h = All-nil IsChunkDim
ones_dims (n ∷ ns) h =
    let low = All-head (λ n. n ≤ MAX_EXTENT) n ns h in
    All-cons IsChunkDim (max n 1) (at_least_one ns) (omega arith, omega (arith, low)) (ones_dims ns (All-tail (λ n. n ≤ MAX_EXTENT) n ns h))

pub start_dims : (shape : Shape) → IsSound shape → All IsChunkDim (at_least_one (dims_of shape))
start_dims Null h = All-nil IsChunkDim
start_dims Scalar h = All-nil IsChunkDim
start_dims (Simple dims limits) h = ones_dims dims h.small_dims

small_fits : (size cells : ℕ) → (size * cells ≤ DEFAULT_CHUNK_BYTES) ⊎ (cells ≡ 1) → (size * cells ≤ MAX_CHUNK_BYTES) ⊎ (cells ≡ 1)
small_fits size cells (inl h) = inl (omega (arith, h))
small_fits size cells (inr h) = inr h

dims-down : (size : ℕ) (start chunk : List ℕ) → All IsChunkDim start → IsHalvedDown size start chunk → All IsChunkDim chunk
dims-down size start chunk h down =
    let P = λ (ns : List ℕ). All IsChunkDim ns in
    subst P (sym down.made) (dims-times down.times start h)

pub down_small : (size : ℕ) (shape : Shape) (chunk : List ℕ) → IsSound shape → IsDefault size (dims_of shape) chunk → (size * cell_count chunk ≤ DEFAULT_CHUNK_BYTES) ⊎ (cell_count chunk ≡ 1)
down_small size shape chunk sound down = small_end size chunk (dims-down size (at_least_one (dims_of shape)) chunk (start_dims shape sound) down) down.enough

pub down_fits : (size : ℕ) (shape : Shape) (chunk : List ℕ) → IsSound shape → IsDefault size (dims_of shape) chunk → Fits size (dims_of shape) chunk
down_fits size shape chunk sound down = record {
  rank = ap length down.made ∙ length-times down.times (at_least_one (dims_of shape)) ∙ length-map (dims_of shape) (λ n. max n 1);
  each_dim = dims-down size (at_least_one (dims_of shape)) chunk (start_dims shape sound) down;
  bytes = small_fits size (cell_count chunk) (down_small size shape chunk sound down);
}

few_cells : (size cells : ℕ) → 1 ≤ size → (size * cells ≤ MAX_CHUNK_BYTES) ⊎ (cells ≡ 1) → cells ≤ MAX_CHUNK_BYTES
few_cells size cells some (inl h) =
    let more : 1 * cells ≤ size * cells = mul-le 1 cells size cells some (omega arith) in
    omega (arith, more, h)
few_cells size cells some (inr h) = omega (arith, h)

pub fits_chunk : (size : ℕ) (shape : Shape) (chunk : List ℕ) → IsSound shape → Fits size (dims_of shape) chunk → 1 ≤ size → IsChunk chunk
fits_chunk size shape chunk sound fits some =
    let few = few_dims shape sound in
    let rank = fits.rank in
    record {
      few_axes = omega (arith, few, rank);
      dims = fits.each_dim;
      cells = few_cells size (cell_count chunk) some fits.bytes;
    }
