-- Chunks of an array, and the map that keeps its cells.
use Rattle.std.proofs.Common.{◌≡◌, ℕ, zero, suc, ◌+◌, ◌*◌, ◌-◌, ◌/◌, ◌%◌, mod-lt, suc-mul, mul_comm, ◌<◌, ◌≤◌, ◌&&◌, ◌↔◌, Bool, IsTrue, true, false, cond, nat_eq, nat_lt, bytes_eq, eqb-true, eq-eqb, List, [], ◌∷◌, length, drop, get_or, All, Option, Result, Ok, Err, IfOk, refl, sym, ap, subst, ◌∙◌, ◌⊎◌, inl, inr, arith}
use Rattle.std.specs.List.{flat_map}
use Rattle.std.specs.Cmp.{both_ways}
use Rattle.std.specs.declared.vec.Vec.{Vec}
use Rattle.std.specs.declared.alloc.Global.{Global}
use Rattle.std.proofs.lemmas.Bool.{cases_Bool, cases_lt, and_parts}
use Rattle.std.proofs.lemmas.Bool.Decides.{nat_tests}
use Rattle.std.proofs.lemmas.List.{drop-drop, length-drop}
use Rattle.std.proofs.lemmas.List.Elements.{All-tail}
use Rattle.std.proofs.lemmas.Nat.{mod-mul-add, mul-le}
use Rattle.std.proofs.Math.Nat.{mul-div_cancel_left}
use Rattle.std.proofs.lemmas.Slice.Eq.{bytes_eq-Decides}
use Rattle.std.proofs.Math.Bool.{and-false}
use Rattle.hdf_types.specs.Elems.{Elem}
use Rattle.hdf_types.specs.Reading.{size_of}
use Rattle.hdf_types.specs.Types.{IsFormed}
use Rattle.hdf_values.specs.Elements.{IsEncoded}
use Rattle.hdf_values.specs.Nested.{AreEncoded, piece_at}
use Rattle.hdf_values.proofs.EncodedLemmas.{length-encoded}
use Rattle.hdf_values.proofs.PieceLemmas.{some_size, encoded_each}
use Rattle.shapes.specs.declared.Shape.{Shape}
use Rattle.shapes.specs.declared.Shape.TheVariants.{Null, Scalar, Simple}
use Rattle.shapes.specs.RowMajor.{IsInside, cell_count}
use Rattle.shapes.specs.Shapes.{LiesIn, lies_in, dims_of}
use Rattle.shapes.proofs.InsideLemmas.{inside_read, inside_told, lies_told, lies_read}
use Rattle.chunk_layout.specs.Chunks.{IsChunkDim, IsChunk, quotients, offset_of, corner, cell_at, chunk_cells}
use Rattle.chunk_layout.specs.Grids.{LiesInGrid}
use Rattle.chunk_layout.proofs.CellLemmas.{offset_below, one_cell_there, cell_back, chunk_listed}
use Rattle.shapes.proofs.ChunkDimLemmas.{one_cell}
use Rattle.chunk_layout.proofs.DefaultLemmas.{fits_chunk}
use Rattle.chunk_layout.proofs.GridLemmas.{grid_begun, begun_grid, in_grid_rank, small_index}
use Rattle.chunk_store.specs.Cells.{find_in, has, value_in, put}
use Rattle.chunk_store.specs.Grids.{Grid, IsWhole, tabulated, value_at, blank_of}
use Rattle.chunk_store.specs.Indexes.{IsIndex}
use Rattle.chunk_store.specs.Kept.{IsKept, given_fill}
use Rattle.chunk_store.specs.Marks.{in_grid, shown, content, body_of, body_value, IsChunkOf, with_chunk}
use Rattle.chunk_store.proofs.GridLemmas.{value-tabulated, tabulated_same}
use Rattle.chunk_store.proofs.KeptLemmas.{absent_blank, absent_value, given_blank, whole_view, Cells}
use Rattle.chunk_store.proofs.CutLemmas.{lies_rank, flat_same}
use Rattle.chunk_store.proofs.TrackLemmas.{rank_of, cell_of_chunk}
use Rattle.chunk_store.proofs.InstallLemmas.{cell_there}
use Rattle.chunk_store.proofs.TouchLemmas.{div_up}

-- ---- which chunks there are

pub grid_test : (s : Shape) (c i : List ℕ) (b : Bool) → All IsChunkDim c → length c ≡ length (dims_of s) → (IsTrue b ↔ LiesInGrid i c s) → b ≡ (nat_eq (length i) (length c) && lies_in (corner i c) s)
grid_test s c i b dims rank test =
    both_ways b (nat_eq (length i) (length c) && lies_in (corner i c) s)
    (λ said. rw (eq-eqb (length i) (length c) (in_grid_rank s c i rank (test.0 said))) (lies_read (corner i c) s (grid_begun s c i dims rank (test.0 said))))
    (λ said.
    let ranks = eqb-true (length i) (length c) (and_parts (nat_eq (length i) (length c)) (lies_in (corner i c) s) said).0 in
    test.1 (begun_grid s c i dims ranks (lies_told (corner i c) s (and_parts (nat_eq (length i) (length c)) (lies_in (corner i c) s) said).1)))

pub index_here : (h : Grid) (i : List ℕ) → IsWhole h → in_grid h i ≡ true → IsIndex h.chunk i
index_here h i w g =
    let ranks = rank_of h i g in
    let lies = lies_told (corner i h.chunk) h.shape (and_parts (nat_eq (length i) (length h.chunk)) (lies_in (corner i h.chunk) h.shape) g).1 in
    record { rank = ranks; small = small_index h.shape h.chunk i w.dims w.shape (begun_grid h.shape h.chunk i w.dims ranks lies) }

-- ---- walks over a chunk's cells

-- the bytes from a piece on hold that piece
pub piece_room : (n k size : ℕ) (bs rest : List ℕ) → rest ≡ drop (k * size) bs → length bs ≡ n * size → k < n → size ≤ length rest
piece_room n k size bs rest is whole low =
    let wide : suc k * size ≤ n * size = mul-le (suc k) size n size low (omega arith) in
    rw (is, length-drop (k * size) bs) (omega (arith, wide, whole))

pub piece_next : (k size : ℕ) (bs rest : List ℕ) → rest ≡ drop (k * size) bs → drop size rest ≡ drop ((k + 1) * size) bs
piece_next k size bs rest is =
    let more : (k + 1) * size ≡ size + k * size = omega arith in
    ap (drop size) is ∙ drop-drop size (k * size) bs ∙ ap (λ n. drop n bs) (omega (arith, more))

-- what holds of the members before an index, and of the one there
pub before_next : (P : List ℕ → Type 0) (xs : List (List ℕ)) (k : ℕ) (x : List ℕ) → get_or xs k [] ≡ x → ((j : ℕ) → j < k → P (get_or xs j [])) → P x → (j : ℕ) → j < k + 1 → P (get_or xs j [])
before_next P xs k x here before now j low = elim (cases_lt j k) [
  | inl less ↦ before j less
  | inr last ↦
      let same : j ≡ k = omega (arith, low, last) in
      subst (λ (n : ℕ). P (get_or xs n [])) (sym same) (subst P (sym here) now)
]

pub found_inside : (s : Shape) (at q : List ℕ) (old : Bool) → {had : Bool} → LiesIn at s → (had ≡ true → LiesIn q s ⊎ (old ≡ true)) → (at ≡ q) ⊎ (had ≡ true) → LiesIn q s ⊎ (old ≡ true)
found_inside s at q old {had} lies before step = elim step [
  | inl same ↦ inl (subst (λ (x : List ℕ). LiesIn x s) same lies)
  | inr there ↦ before there
]

pub blank_next : (s : Shape) (cells : List (List ℕ)) (bs blank : List ℕ) (k : ℕ) (at : List ℕ) → get_or cells k [] ≡ at → ((j : ℕ) → j < k → lies_in (get_or cells j []) s ≡ false → piece_at (length blank) j bs ≡ blank)
    → (lies_in at s ≡ false → piece_at (length blank) k bs ≡ blank) → (j : ℕ) → j < k + 1 → lies_in (get_or cells j []) s ≡ false → piece_at (length blank) j bs ≡ blank
blank_next s cells bs blank k at here before now j low = elim (cases_lt j k) [
  | inl less ↦ before j less
  | inr last ↦
      let same : j ≡ k = omega (arith, low, last) in
      subst (λ (n : ℕ). lies_in (get_or cells n []) s ≡ false → piece_at (length blank) n bs ≡ blank) (sym same) (λ off. now (sym (ap (λ x. lies_in x s) here) ∙ off))
]

-- where the last cell of a chunk is inside, each cell is
pub last_inside : (ns qs ds : List ℕ) (k : ℕ) → All IsChunkDim ns → k < cell_count ns → IsInside (cell_at qs (cell_count ns - 1) ns) ds → IsInside (cell_at qs k ns) ds
last_inside [] [] ds k a low h = h
last_inside [] (q ∷ qs) ds k a low h = h
last_inside (n ∷ ns) [] ds k a low h = h
last_inside (n ∷ ns) (q ∷ qs) [] k a low h = absurd h
last_inside (zero ∷ ns) (q ∷ qs) (d ∷ ds) k a low h = absurd (omega (arith, low))
last_inside (suc m ∷ ns) (q ∷ qs) (d ∷ ds) k a low h =
    let rest = All-tail IsChunkDim (suc m) ns a in
    let some : 0 < cell_count ns = one_cell ns rest in
    let whole : suc m * cell_count ns - 1 ≡ m * cell_count ns + (cell_count ns - 1) = omega (arith, suc-mul m (cell_count ns), some) in
    let last : (suc m * cell_count ns - 1) % cell_count ns ≡ cell_count ns - 1 = ap (λ x. x % cell_count ns) whole ∙ mod-mul-add m (cell_count ns) (cell_count ns - 1) (omega (arith, some)) in
    let axis = div_up k (suc m * cell_count ns - 1) (cell_count ns) some (omega (arith, low)) in
    (omega (arith, h.0, axis), last_inside ns qs ds (k % cell_count ns) rest (mod-lt k some) (subst (λ (j : ℕ). IsInside (cell_at qs j ns) ds) last h.1))

pub last_lies : (s : Shape) (chunk i at : List ℕ) → All IsChunkDim chunk → get_or (chunk_cells i chunk) (cell_count chunk - 1) [] ≡ at → lies_in at s ≡ true
    → (k : ℕ) → k < cell_count chunk → lies_in (get_or (chunk_cells i chunk) k []) s ≡ true
last_lies s chunk i at dims last lies k low =
    let some = one_cell chunk dims in
    let there = ap (λ x. lies_in x s) (sym (chunk_listed chunk i (cell_count chunk - 1) dims (omega (arith, some))) ∙ last) ∙ lies in
    ap (λ x. lies_in x s) (chunk_listed chunk i k dims low) ∙ each s there
  where
    each : (s : Shape) → lies_in (cell_at i (cell_count chunk - 1) chunk) s ≡ true → lies_in (cell_at i k chunk) s ≡ true
    each Null h = h
    each Scalar h = inside_read (cell_at i k chunk) [] (last_inside chunk i [] k dims low (inside_told (cell_at i (cell_count chunk - 1) chunk) [] h))
    each (Simple ds limits) h = inside_read (cell_at i k chunk) ds (last_inside chunk i ds k dims low (inside_told (cell_at i (cell_count chunk - 1) chunk) ds h))

-- the bytes of cells, where those of a chunk up to an offset are pieces of these
abbrev pub filled : List ℕ → List ℕ → ℕ → List ℕ → (List ℕ → List ℕ) → ℕ → List ℕ → List ℕ
filled chunk i size bs f k q = cond (bytes_eq (quotients q chunk) i && nat_lt (offset_of q chunk) k) (piece_at size (offset_of q chunk) bs) (f q)

lt_next : (o k : ℕ) → (o ≡ k → ⊥) → nat_lt o k ≡ nat_lt o (k + 1)
lt_next o k h = both_ways (nat_lt o k) (nat_lt o (k + 1)) (λ y. grind (arith, nat_tests)) (λ y. grind (arith, nat_tests))

filled_other : (b : Bool) (o k : ℕ) (x y : List ℕ) → (b ≡ true → o ≡ k → ⊥) → cond (b && nat_lt o k) x y ≡ cond (b && nat_lt o (k + 1)) x y
filled_other false o k x y h = refl
filled_other true o k x y h = ap (λ c. cond c x y) (lt_next o k (h refl))

lt_self : (k : ℕ) → nat_lt k (k + 1) ≡ true
lt_self k = grind (arith, nat_tests)

-- another cell than the one at the offset stays as it was
pub filled_apart : (chunk i at q : List ℕ) (size k : ℕ) (bs : List ℕ) (f : List ℕ → List ℕ) → All IsChunkDim chunk → length q ≡ length chunk → length at ≡ length chunk → quotients at chunk ≡ i → offset_of at chunk ≡ k
    → (at ≡ q → ⊥) → filled chunk i size bs f k q ≡ filled chunk i size bs f (k + 1) q
filled_apart chunk i at q size k bs f dims rank at_rank here there apart =
    filled_other (bytes_eq (quotients q chunk) i) (offset_of q chunk) k (piece_at size (offset_of q chunk) bs) (f q)
    (λ same o. apart (one_cell_there chunk at q dims at_rank rank (here ∙ sym ((bytes_eq-Decides (quotients q chunk) i).0 same)) (there ∙ sym o)))

-- the cell at the offset has its piece
pub filled_here : (chunk i at : List ℕ) (size k : ℕ) (bs : List ℕ) (f : List ℕ → List ℕ) → quotients at chunk ≡ i → offset_of at chunk ≡ k → filled chunk i size bs f (k + 1) at ≡ piece_at size k bs
filled_here chunk i at size k bs f here there =
    let same = (bytes_eq-Decides (quotients at chunk) i).1 here in
    ap (λ b. cond (b && nat_lt (offset_of at chunk) (k + 1)) (piece_at size (offset_of at chunk) bs) (f at)) same
    ∙ ap (λ o. cond (nat_lt o (k + 1)) (piece_at size o bs) (f at)) there
    ∙ ap (λ b. cond b (piece_at size k bs) (f at)) (lt_self k)

pub filled_next : (chunk i at q : List ℕ) (size k : ℕ) (bs piece : List ℕ) (f old new : List ℕ → List ℕ) → All IsChunkDim chunk → length q ≡ length chunk → length at ≡ length chunk → quotients at chunk ≡ i → offset_of at chunk ≡ k
    → piece ≡ piece_at size k bs → new q ≡ put old at piece q → old q ≡ filled chunk i size bs f k q → new q ≡ filled chunk i size bs f (k + 1) q
filled_next chunk i at q size k bs piece f old new dims rank at_rank here there is put_is before = put_is ∙ elim (cases_Bool (bytes_eq at q)) [
  | inl same ↦
      let e = (bytes_eq-Decides at q).0 same in
      ap (λ b. cond b piece (old q)) same ∙ is ∙ sym (filled_here chunk i at size k bs f here there) ∙ ap (filled chunk i size bs f (k + 1)) e
  | inr other ↦
      ap (λ b. cond b piece (old q)) other ∙ before
      ∙ filled_apart chunk i at q size k bs f dims rank at_rank here there (λ e. let both : true ≡ false = sym ((bytes_eq-Decides at q).1 e) ∙ other in cc)
]

lt_past : (o n k : ℕ) → o < n → n ≤ k → nat_lt o k ≡ true
lt_past o n k h l = grind (arith, nat_tests)

and_true : (a b : Bool) → b ≡ true → (a && b) ≡ a
and_true true b h = h
and_true false b h = refl

pub filled_end : (chunk i q : List ℕ) (size k : ℕ) (bs : List ℕ) (f : List ℕ → List ℕ) → All IsChunkDim chunk → length q ≡ length chunk → cell_count chunk ≤ k
    → filled chunk i size bs f k q ≡ cond (bytes_eq (quotients q chunk) i) (piece_at size (offset_of q chunk) bs) (f q)
filled_end chunk i q size k bs f dims rank past =
    ap (λ b. cond b (piece_at size (offset_of q chunk) bs) (f q))
    (and_true (bytes_eq (quotients q chunk) i) (nat_lt (offset_of q chunk) k) (lt_past (offset_of q chunk) (cell_count chunk) k (offset_below q chunk dims rank) past))

lt_zero : (o : ℕ) → nat_lt o 0 ≡ false
lt_zero o = grind (arith, nat_tests)

pub filled_first : (chunk i q : List ℕ) (size : ℕ) (bs : List ℕ) (f : List ℕ → List ℕ) → f q ≡ filled chunk i size bs f 0 q
filled_first chunk i q size bs f =
    sym (ap (λ b. cond b (piece_at size (offset_of q chunk) bs) (f q)) (ap (λ b. bytes_eq (quotients q chunk) i && b) (lt_zero (offset_of q chunk)) ∙ and-false (bytes_eq (quotients q chunk) i)))

pub body_some : (h : Grid) (bs at : List ℕ) → 1 ≤ length bs → body_value h bs at ≡ piece_at (size_of h.kind) (offset_of at h.chunk) bs
body_some h [] at some = absurd (omega (arith, some))
body_some h (b ∷ bs) at some = refl

pub bytes_there : (h : Grid) (bytes : List ℕ) → IsWhole h → AreEncoded h.kind (cell_count h.chunk) bytes → 1 ≤ length bytes
bytes_there h bytes w enc =
    let wide : 1 * 1 ≤ cell_count h.chunk * size_of h.kind = mul-le 1 1 (cell_count h.chunk) (size_of h.kind) (one_cell h.chunk w.dims) (some_size h.kind w.kind.formed) in
    omega (arith, wide, enc.whole)

pub fill_same : (e : Elem) (s : Shape) (c : List ℕ) (fill : Option (List ℕ)) (f g : List ℕ → List ℕ) (i bytes : List ℕ) → 1 ≤ length bytes
    → ((q : List ℕ) → LiesIn q s → g q ≡ cond (bytes_eq (quotients q c) i) (piece_at (size_of e) (offset_of q c) bytes) (f q)) → tabulated e s c fill g ≡ with_chunk (tabulated e s c fill f) i bytes
fill_same e s c fill f g i bytes some each =
    let h = tabulated e s c fill f in
    tabulated_same e s c fill g (λ at. cond (bytes_eq (quotients at c) i) (body_value (tabulated e s c fill f) bytes at) (value_at (tabulated e s c fill f) at)) (λ at lies.
    each at lies
    ∙ ap (λ x. cond (bytes_eq (quotients at c) i) x (f at)) (sym (body_some h bytes at some))
    ∙ ap (λ x. cond (bytes_eq (quotients at c) i) (body_value h bytes at) x) (sym (value-tabulated e s c fill f at lies)))

-- ---- a chunk by the map

module _ (e : Elem) (s : Shape) (c : List ℕ) (given : Bool) (blank : List ℕ) (size : ℕ) (m : Cells) (kept : IsKept e s c given blank size m) where
  abbrev pub grid : Grid
  grid = tabulated e s c (given_fill given blank) (value_in m blank)

  pub kept_chunk : IsChunk c
  kept_chunk = fits_chunk (size_of e) s c kept.shape kept.layout (some_size e kept.kind.formed)

  pub kept_rank : (at : List ℕ) → LiesIn at s → length at ≡ length c
  kept_rank at lies = lies_rank at s lies ∙ sym kept.layout.rank

  pub kept_index : (i : List ℕ) → in_grid grid i ≡ true → IsIndex c i
  kept_index i g = index_here grid i (whole_view grid e s c given blank size m kept refl) g

  pub kept_blank : length blank ≡ size
  kept_blank = length-encoded e blank kept.kind.formed kept.blank_encoded ∙ sym kept.sized

  shown_value : (at : List ℕ) → value_in m blank at ≡ shown grid at
  shown_value at = elim (cases_Bool (lies_in at s)) [
    | inl on ↦ sym (ap (λ b. cond b (value_at grid at) (blank_of e (given_fill given blank))) on ∙ value-tabulated e s c (given_fill given blank) (value_in m blank) at (lies_told at s on))
    | inr off ↦ absent_blank e s c given blank size m kept at off ∙ given_blank e given blank kept.unwritten ∙ sym (ap (λ b. cond b (value_at grid at) (blank_of e (given_fill given blank))) off)
  ]

  content_value : (i : List ℕ) → flat_map (value_in m blank) (chunk_cells i c) ≡ content grid i
  unfolding content
  content_value i = flat_same (value_in m blank) (shown grid) shown_value (chunk_cells i c)

  pub copy_view : (h : Grid) → grid ≡ h → (i : List ℕ) → in_grid h i ≡ true → flat_map (value_in m blank) (chunk_cells i c) ≡ body_of h i
  copy_view h is i g =
      let here : in_grid grid i ≡ true = ap (λ x. in_grid x i) is ∙ g in
      subst (λ (x : Grid). flat_map (value_in m blank) (chunk_cells i c) ≡ body_of x i) is (content_value i ∙ sym (ap (λ b. cond b (content grid i) []) here))

  -- a map with the bytes of a chunk written
  module _ (n : Cells) (i bytes : List ℕ) (enc : AreEncoded e (cell_count c) bytes) (keys : (q : List ℕ) → has n q ≡ has m q)
      (written : (q : List ℕ) → LiesIn q s → value_in n blank q ≡ cond (bytes_eq (quotients q c) i) (piece_at size (offset_of q c) bytes) (value_in m blank q)) where
    cond_encoded : (b : Bool) (x y : List ℕ) → IsEncoded e x → IsEncoded e y → IsEncoded e (cond b x y)
    cond_encoded true x y h k = h
    cond_encoded false x y h k = k

    piece_encoded : (q : List ℕ) → LiesIn q s → IsEncoded e (piece_at size (offset_of q c) bytes)
    piece_encoded q lies =
        subst (λ (k : ℕ). IsEncoded e (piece_at k (offset_of q c) bytes)) (sym kept.sized) (((encoded_each e (cell_count c) bytes).0 enc).1 (offset_of q c) (offset_below q c kept.layout.each_dim (kept_rank q lies)))

    pub kept_filled : IsKept e s c given blank size n
    kept_filled = record {
      kind = kept.kind;
      shape = kept.shape;
      layout = kept.layout;
      sized = kept.sized;
      unwritten = kept.unwritten;
      blank_encoded = kept.blank_encoded;
      encoded = λ q. elim (cases_Bool (lies_in q s)) [
        | inl on ↦
            let lies = lies_told q s on in
            subst (IsEncoded e) (sym (written q lies)) (cond_encoded (bytes_eq (quotients q c) i) (piece_at size (offset_of q c) bytes) (value_in m blank q) (piece_encoded q lies) (kept.encoded q))
        | inr off ↦
            let none : has n q ≡ true → ⊥ = λ there. let both : true ≡ false = sym (lies_read q s (kept.inside q (sym (keys q) ∙ there))) ∙ off in cc in
            subst (IsEncoded e) (sym (absent_value blank (find_in n q) none)) kept.blank_encoded
      ];
      inside = λ q there. kept.inside q (sym (keys q) ∙ there);
    }

    pub fill_view : (h : Grid) → grid ≡ h → tabulated e s c (given_fill given blank) (value_in n blank) ≡ with_chunk h i bytes
    fill_view h is =
        subst (λ (x : Grid). tabulated e s c (given_fill given blank) (value_in n blank) ≡ with_chunk x i bytes) is
        (fill_same e s c (given_fill given blank) (value_in m blank) (value_in n blank) i bytes (bytes_there grid bytes (whole_view grid e s c given blank size m kept refl) enc)
        (λ q lies. written q lies ∙ ap (λ k. cond (bytes_eq (quotients q c) i) (piece_at k (offset_of q c) bytes) (value_in m blank q)) kept.sized))

-- ---- the test of a chunk's bytes

pub as_many : (e : Elem) (n : ℕ) (bs : List ℕ) → IsFormed e → AreEncoded e n bs → length bs / size_of e ≡ n
as_many e n bs w enc = ap (λ k. k / size_of e) (enc.whole ∙ mul_comm n (size_of e)) ∙ mul-div_cancel_left n (some_size e w)

-- of the cells outside, by their offsets in the chunk
abbrev pub IsBlankOutside : Grid → List ℕ → List ℕ → Type 0
IsBlankOutside h i bytes = (k : ℕ) → k < cell_count h.chunk → lies_in (get_or (chunk_cells i h.chunk) k []) h.shape ≡ false → piece_at (size_of h.kind) k bytes ≡ blank_of h.kind h.fill

cell_again : (h : Grid) (i at : List ℕ) → IsWhole h → length at ≡ length h.chunk → quotients at h.chunk ≡ i → get_or (chunk_cells i h.chunk) (offset_of at h.chunk) [] ≡ at
cell_again h i at w rank here =
    chunk_listed h.chunk i (offset_of at h.chunk) w.dims (offset_below at h.chunk w.dims rank)
    ∙ ap (λ j. cell_at j (offset_of at h.chunk) h.chunk) (sym here) ∙ cell_back h.chunk at w.dims rank

pub chunk_told : (h : Grid) (i bytes : List ℕ) → IsWhole h → in_grid h i ≡ true → AreEncoded h.kind (cell_count h.chunk) bytes → IsBlankOutside h i bytes → IsChunkOf h i bytes
chunk_told h i bytes w g enc blank = record {
  inside = g;
  encoded = enc;
  outside = λ at rank here off.
      let low = offset_below at h.chunk w.dims rank in
      body_some h bytes at (bytes_there h bytes w enc)
      ∙ blank (offset_of at h.chunk) low (ap (λ x. lies_in x h.shape) (cell_again h i at w rank here) ∙ off);
}

pub chunk_read : (h : Grid) (i bytes : List ℕ) → IsWhole h → IsChunkOf h i bytes → IsBlankOutside h i bytes
chunk_read h i bytes w is = λ k low off.
    let cell = cell_of_chunk h.chunk i k w.dims (rank_of h i is.inside) low in
    let x = get_or (chunk_cells i h.chunk) k [] in
    let wide : 1 * 1 ≤ cell_count h.chunk * size_of h.kind = mul-le 1 1 (cell_count h.chunk) (size_of h.kind) (one_cell h.chunk w.dims) (some_size h.kind w.kind.formed) in
    let there : offset_of (get_or (chunk_cells i h.chunk) k []) h.chunk ≡ k = cell_there h.chunk i k w.dims (rank_of h i is.inside) low in
    sym (ap (λ j. piece_at (size_of h.kind) j bytes) there)
    ∙ sym (body_some h bytes x (omega (arith, wide, is.encoded.whole))) ∙ is.outside x cell.0 cell.1 off

-- the code's test
pub chunk_test : (h : Grid) → IsWhole h → (i bytes b : List ℕ) (r : Bool) → b ≡ blank_of h.kind h.fill → in_grid h i ≡ true → AreEncoded h.kind (cell_count h.chunk) bytes
    → (IsTrue r ↔ ((k : ℕ) → k < cell_count h.chunk → lies_in (get_or (chunk_cells i h.chunk) k []) h.shape ≡ false → piece_at (length b) k bytes ≡ b)) → IsTrue r ↔ IsChunkOf h i bytes
chunk_test h w i bytes b r same g enc test =
    let wide : length b ≡ size_of h.kind = ap length same ∙ length-encoded h.kind (blank_of h.kind h.fill) w.kind.formed w.blank in (
      λ said. chunk_told h i bytes w g enc (λ k low off. ap (λ n. piece_at n k bytes) (sym wide) ∙ test.0 said k low off ∙ same),
      λ is. test.1 (λ k low off. ap (λ n. piece_at n k bytes) wide ∙ chunk_read h i bytes w is k low off ∙ sym same),
    )

-- ---- at what the code has found

pub kept_ok : {E : Type 0} {xs ys : List ℕ} (r : Result (Vec ℕ Global) E) → xs ≡ ys → IfOk r (λ v. v.items ≡ xs) → IfOk r (λ v. v.items ≡ ys)
kept_ok (Ok v) same h = h ∙ same
kept_ok (Err e) same h = tt
