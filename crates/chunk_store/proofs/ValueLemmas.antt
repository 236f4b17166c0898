-- What each cell has after writes, other dims and installs.
use Rattle.std.proofs.Common.{◌≡◌, ◌≢◌, ℕ, zero, suc, ◌+◌, ◌*◌, ◌<◌, Bool, true, false, cond, bytes_eq, List, [], ◌∷◌, ◌++◌, length, take, drop, get_or, All, Option, Some, None, refl, sym, ap, subst, ◌∙◌, inl, inr, arith}
use Rattle.std.specs.List.{flat_map}
use Rattle.std.proofs.lemmas.Bool.{cases_Bool}
use Rattle.std.proofs.lemmas.List.{append_assoc, drop-drop, length-drop, length-map, length-take-le, take-append-drop, take_at, drop_at, nil_from_length}
use Rattle.std.proofs.lemmas.Slice.Eq.{bytes_eq-Decides}
use Rattle.hdf_types.specs.Elems.{Elem}
use Rattle.hdf_types.specs.Reading.{size_of}
use Rattle.hdf_values.specs.Elements.{IsEncoded}
use Rattle.hdf_values.specs.Nested.{AreEncoded, piece_at}
use Rattle.shapes.specs.declared.Shape.{Shape}
use Rattle.shapes.specs.declared.Shape.TheVariants.{Null, Scalar, Simple}
use Rattle.shapes.specs.Shapes.{LiesIn, lies_in, cells_of, count_of}
use Rattle.shapes.proofs.CellLemmas.{cells_length}
use Rattle.shapes.proofs.InsideLemmas.{lies_told, lies_read}
use Rattle.chunk_layout.specs.Chunks.{quotients, offset_of, chunk_cells}
use Rattle.chunk_layout.proofs.CellLemmas.{chunk_count}
use Rattle.chunk_store.specs.Cells.{put}
use Rattle.chunk_store.specs.Grids.{Grid, IsWhole, all_fill, blank_of, resized_to, reads, value_at, with_dims, writes, written}
use Rattle.chunk_store.specs.Listed.{IsLast, IsNowhere, IsOnce}
use Rattle.chunk_store.specs.Marks.{Stored, IsTracked, is_dirty, flagged, state, Stands, IsChunkOf, ReadsAs, body_of, body_value, content, in_grid, shown, with_chunk}
use Rattle.chunk_store.proofs.ChunkLemmas.{chunk_told}
use Rattle.chunk_store.proofs.CutLemmas.{content_value, piece_of, shown_size}
use Rattle.chunk_store.proofs.GridLemmas.{value-tabulated, tabulated_same, reads_same}
use Rattle.chunk_store.proofs.InstallLemmas.{flat_pieces}
use Rattle.chunk_store.proofs.KeyLemmas.{put_here}
use Rattle.chunk_store.proofs.PickLemmas.{each_all}
use Rattle.chunk_store.proofs.SameLemmas.{same_grids}
use Rattle.chunk_store.proofs.TrackLemmas.{by_index, written_other}
use Rattle.chunk_store.proofs.WriteLemmas.{read_encoded, written_on}
use Rattle.json_trees.proofs.ListLemmas.{all_at}

-- ---- a new array

pub made_value : (e : Elem) (s : Shape) (c : List ℕ) (fill : Option (List ℕ)) (at : List ℕ) → LiesIn at s → value_at (all_fill e s c fill) at ≡ blank_of e fill
made_value e s c fill at lies = value-tabulated e s c fill (λ x. blank_of e fill) at lies

-- ---- writes

pub written_last : (f : List ℕ → List ℕ) (s : ℕ) (ats : List (List ℕ)) (bs : List ℕ) (k : ℕ) (at : List ℕ) → IsLast ats k at → written f s ats bs at ≡ piece_at s k bs
written_last f s [] bs k at on = absurd (omega (arith, on.0))
written_last f s (a ∷ ats) bs zero at on =
    let none : 0 * s ≡ 0 = omega arith in
    written_other (put f a (take s bs)) s ats (drop s bs) at (by_index (λ x. x ≡ at → ⊥) ats (λ j low. on.2 (suc j) (omega arith) (omega (arith, low))))
    ∙ ap (put f a (take s bs)) (sym on.1) ∙ put_here f a (take s bs) ∙ ap (λ n. take s (drop n bs)) (sym none)
written_last f s (a ∷ ats) bs (suc k) at on =
    let more : s + k * s ≡ suc k * s = omega arith in
    written_last (put f a (take s bs)) s ats (drop s bs) k at (omega (arith, on.0), on.1, λ j less low. on.2 (suc j) (omega (arith, less)) (omega (arith, low)))
    ∙ ap (take s) (drop-drop (k * s) s bs) ∙ ap (λ n. take s (drop n bs)) more

pub last_value : (h : Grid) (ats : List (List ℕ)) (bs : List ℕ) (k : ℕ) (at : List ℕ) → LiesIn at h.shape → IsLast ats k at → value_at (writes h ats bs) at ≡ piece_at (size_of h.kind) k bs
last_value h ats bs k at lies on =
    value-tabulated h.kind h.shape h.chunk h.fill (written (value_at h) (size_of h.kind) ats bs) at lies ∙ written_last (value_at h) (size_of h.kind) ats bs k at on

pub other_value : (h : Grid) (ats : List (List ℕ)) (bs at : List ℕ) → LiesIn at h.shape → IsNowhere ats at → value_at (writes h ats bs) at ≡ value_at h at
other_value h ats bs at lies none =
    value-tabulated h.kind h.shape h.chunk h.fill (written (value_at h) (size_of h.kind) ats bs) at lies
    ∙ written_other (value_at h) (size_of h.kind) ats bs at (by_index (λ x. x ≡ at → ⊥) ats none)

pub written_joined : (f : List ℕ → List ℕ) (s : ℕ) (a b : List (List ℕ)) (xs ys q : List ℕ) → length xs ≡ length a * s → written f s (a ++ b) (xs ++ ys) q ≡ written (written f s a xs) s b ys q
written_joined f s [] b xs ys q e = ap (λ l. written f s b (l ++ ys) q) (nil_from_length xs (e ∙ omega arith))
written_joined f s (x ∷ a) b xs ys q e =
    let more : suc (length a) * s ≡ s + length a * s = omega arith in
    let whole : xs ++ ys ≡ take s xs ++ (drop s xs ++ ys) = ap (λ l. l ++ ys) (sym (take-append-drop s xs)) ∙ append_assoc (take s xs) (drop s xs) ys in
    let size : length (take s xs) ≡ s = length-take-le s xs (omega (arith, e, more)) in
    let first : take s (xs ++ ys) ≡ take s xs = ap (take s) whole ∙ take_at (take s xs) (drop s xs ++ ys) s size in
    let rest : drop s (xs ++ ys) ≡ drop s xs ++ ys = ap (drop s) whole ∙ drop_at (take s xs) (drop s xs ++ ys) s size in
    let left : length (drop s xs) ≡ length a * s = rw (length-drop s xs) (omega (arith, e, more)) in
    ap (λ t. written (put f x t) s (a ++ b) (drop s (xs ++ ys)) q) first ∙ ap (λ l. written (put f x (take s xs)) s (a ++ b) l q) rest
    ∙ written_joined (put f x (take s xs)) s a b (drop s xs) ys q left

pub joined_writes : (h : Grid) (a b : List (List ℕ)) (xs ys : List ℕ) → length xs ≡ length a * size_of h.kind → writes (writes h a xs) b ys ≡ writes h (a ++ b) (xs ++ ys)
joined_writes h a b xs ys e =
    let s = size_of h.kind in
    tabulated_same h.kind h.shape h.chunk h.fill (written (value_at (writes h a xs)) s b ys) (written (value_at h) s (a ++ b) (xs ++ ys)) (λ at lies.
    written_on (λ q. LiesIn q h.shape) (value_at (writes h a xs)) (written (value_at h) (size_of h.kind) a xs) (λ q on. value-tabulated h.kind h.shape h.chunk h.fill (written (value_at h) (size_of h.kind) a xs) q on) s b ys at lies
    ∙ sym (written_joined (value_at h) s a b xs ys at e))

-- ---- other dims

resized_value : (h : Grid) (dims at : List ℕ) → LiesIn at (with_dims h.shape dims) → value_at (resized_to h dims) at ≡ cond (lies_in at h.shape) (value_at h at) (blank_of h.kind h.fill)
resized_value h dims at lies = value-tabulated h.kind (with_dims h.shape dims) h.chunk h.fill (λ x. cond (lies_in x h.shape) (value_at h x) (blank_of h.kind h.fill)) at lies

outside_read : (at : List ℕ) (s : Shape) → (LiesIn at s → ⊥) → lies_in at s ≡ false
outside_read at s off = elim (cases_Bool (lies_in at s)) [
  | inl on ↦ absurd (off (lies_told at s on))
  | inr none ↦ none
]

pub resized_stays : (h : Grid) (dims at : List ℕ) → LiesIn at h.shape → LiesIn at (with_dims h.shape dims) → value_at (resized_to h dims) at ≡ value_at h at
resized_stays h dims at old new = resized_value h dims at new ∙ ap (λ b. cond b (value_at h at) (blank_of h.kind h.fill)) (lies_read at h.shape old)

pub resized_comes : (h : Grid) (dims at : List ℕ) → (LiesIn at h.shape → ⊥) → LiesIn at (with_dims h.shape dims) → value_at (resized_to h dims) at ≡ blank_of h.kind h.fill
resized_comes h dims at off new = resized_value h dims at new ∙ ap (λ b. cond b (value_at h at) (blank_of h.kind h.fill)) (outside_read at h.shape off)

dims_twice : (s : Shape) (small large : List ℕ) → with_dims (with_dims s small) large ≡ with_dims s large
dims_twice Null small large = refl
dims_twice Scalar small large = refl
dims_twice (Simple dims limits) small large = refl

pub resized_again : (h : Grid) (small large at : List ℕ) → (LiesIn at (with_dims h.shape small) → ⊥) → LiesIn at (with_dims h.shape large) → value_at (resized_to (resized_to h small) large) at ≡ blank_of h.kind h.fill
resized_again h small large at off on = resized_comes (resized_to h small) large at off (subst (LiesIn at) (sym (dims_twice h.shape small large)) on)

-- ---- reads

shown_inside : (h : Grid) (at : List ℕ) → LiesIn at h.shape → shown h at ≡ value_at h at
shown_inside h at on = ap (λ b. cond b (value_at h at) (blank_of h.kind h.fill)) (lies_read at h.shape on)

pub read_each : (h : Grid) (ats : List (List ℕ)) (k : ℕ) → IsWhole h → All (λ at. LiesIn at h.shape) ats → k < length ats → piece_at (size_of h.kind) k (reads h ats) ≡ value_at h (get_or ats k [])
read_each h ats k w inside low =
    let each = each_all (λ at. LiesIn at h.shape) ats inside in
    ap (piece_at (size_of h.kind) k) (reads_same (λ at. LiesIn at h.shape) (value_at h) (shown h) (λ x on. sym (shown_inside h x on)) ats each)
    ∙ piece_of (shown h) (size_of h.kind) (shown_size h w) ats k low ∙ shown_inside h (get_or ats k []) (all_at (λ at. LiesIn at h.shape) ats k [] low each)

pub read_written : (h : Grid) (ats : List (List ℕ)) (bs : List ℕ) → All (λ at. LiesIn at h.shape) ats → IsOnce ats → length bs ≡ length ats * size_of h.kind → reads (writes h ats bs) ats ≡ bs
read_written h ats bs inside once e =
    let each = each_all (λ at. LiesIn at h.shape) ats inside in
    flat_pieces (value_at (writes h ats bs)) (size_of h.kind) 0 ats bs e (λ j low.
    last_value h ats bs j (get_or ats j []) (all_at (λ at. LiesIn at h.shape) ats j [] low each) (low, refl, λ k less below same. once j k less below (sym same)))

-- ---- installs

cond_encoded : (e : Elem) (b : Bool) (xs ys : List ℕ) → (b ≡ true → IsEncoded e xs) → IsEncoded e ys → IsEncoded e (cond b xs ys)
cond_encoded e true xs ys h k = h refl
cond_encoded e false xs ys h k = k

shown_encoded : (h : Grid) → IsWhole h → (at : List ℕ) → IsEncoded h.kind (shown h at)
shown_encoded h w at = cond_encoded h.kind (lies_in at h.shape) (value_at h at) (blank_of h.kind h.fill) (λ on. w.values at (lies_told at h.shape on)) w.blank

content_chunk : (h : Grid) (i : List ℕ) → IsWhole h → in_grid h i ≡ true → IsChunkOf h i (content h i)
unfolding content
content_chunk h i w g =
    let many = chunk_count h.chunk i in
    let cells = chunk_cells i h.chunk in
    let enc = subst (λ (n : ℕ). AreEncoded h.kind n (flat_map (shown h) (chunk_cells i h.chunk))) many (read_encoded h.kind (shown h) w.kind.formed (shown_encoded h w) cells) in
    chunk_told h i (flat_map (shown h) cells) w g enc (λ k low off.
    let x = get_or (chunk_cells i h.chunk) k [] in
    piece_of (shown h) (size_of h.kind) (shown_size h w) cells k (omega (arith, many, low)) ∙ ap (λ b. cond b (value_at h x) (blank_of h.kind h.fill)) off)

body_in : (h : Grid) (i : List ℕ) → in_grid h i ≡ true → body_of h i ≡ content h i
body_in h i g = ap (λ b. cond b (content h i) []) g

pub copy_chunk : (h : Grid) (i : List ℕ) → IsWhole h → in_grid h i ≡ true → IsChunkOf h i (body_of h i)
copy_chunk h i w g = subst (IsChunkOf h i) (sym (body_in h i g)) (content_chunk h i w g)

stands_chunk : (body : List ℕ) (o : Option Bool) (h : Grid) (i : List ℕ) → IsWhole h → flagged o ≡ false → body ≢ [] → Stands body o h i → IsChunkOf h i body
stands_chunk body None h i w clean some on = absurd (some on.0)
stands_chunk body (Some true) h i w clean some on = absurd (let both : true ≡ false = clean in cc)
stands_chunk body (Some false) h i w clean some on = elim on.1 [
  | inl same ↦ subst (IsChunkOf h i) (sym same) (content_chunk h i w on.0)
  | inr blank ↦ absurd (some blank.0)
]

pub standing_chunk : (kept : List ℕ → List ℕ) (s : Stored) (i : List ℕ) → IsWhole s.grid → IsTracked kept s → is_dirty s i ≡ false → kept i ≢ [] → IsChunkOf s.grid i (kept i)
unfolding IsTracked
standing_chunk kept s i w on clean some = stands_chunk (kept i) (state s i) s.grid i w clean some (on i)

installed_value : (h : Grid) (i bs at : List ℕ) → LiesIn at h.shape → value_at (with_chunk h i bs) at ≡ cond (bytes_eq (quotients at h.chunk) i) (body_value h bs at) (value_at h at)
installed_value h i bs at lies = value-tabulated h.kind h.shape h.chunk h.fill (λ x. cond (bytes_eq (quotients x h.chunk) i) (body_value h bs x) (value_at h x)) at lies

pub installed_inside : (h : Grid) (i bs at : List ℕ) → LiesIn at h.shape → quotients at h.chunk ≡ i → value_at (with_chunk h i bs) at ≡ body_value h bs at
installed_inside h i bs at lies here = installed_value h i bs at lies ∙ ap (λ b. cond b (body_value h bs at) (value_at h at)) ((bytes_eq-Decides (quotients at h.chunk) i).1 here)

pub installed_other : (h : Grid) (i bs at : List ℕ) → LiesIn at h.shape → quotients at h.chunk ≢ i → value_at (with_chunk h i bs) at ≡ value_at h at
installed_other h i bs at lies apart = installed_value h i bs at lies ∙ elim (cases_Bool (bytes_eq (quotients at h.chunk) i)) [
  | inl same ↦ absurd (apart ((bytes_eq-Decides (quotients at h.chunk) i).0 same))
  | inr other ↦ ap (λ b. cond b (body_value h bs at) (value_at h at)) other
]

kept_value : (h : Grid) (i at : List ℕ) → IsWhole h → LiesIn at h.shape → value_at (with_chunk h i (content h i)) at ≡ value_at h at
kept_value h i at w lies = elim (cases_Bool (bytes_eq (quotients at h.chunk) i)) [
  | inl same ↦
      let e = (bytes_eq-Decides (quotients at h.chunk) i).0 same in
      installed_inside h i (content h i) at lies e ∙ ap (λ j. body_value h (content h j) at) (sym e) ∙ content_value h at w lies
  | inr other ↦ installed_value h i (content h i) at lies ∙ ap (λ b. cond b (body_value h (content h i) at) (value_at h at)) other
]

pub copy_installed : (h : Grid) (i : List ℕ) → IsWhole h → in_grid h i ≡ true → with_chunk h i (body_of h i) ≡ h
copy_installed h i w g =
    let bs = content h i in
    let f = λ (x : List ℕ). cond (bytes_eq (quotients x h.chunk) i) (body_value h (content h i) x) (value_at h x) in
    ap (with_chunk h i) (body_in h i g)
    ∙ same_grids h (with_chunk h i bs) refl refl refl refl w.table (length-map (cells_of h.shape) f ∙ cells_length h.shape) (λ at lies. kept_value h i at w lies)

-- ---- records

parts_value : (h k : Grid) (bs at : List ℕ) → k.kind ≡ h.kind → k.chunk ≡ h.chunk → k.fill ≡ h.fill → body_value k bs at ≡ body_value h bs at
parts_value h k [] at kind chunk fill = ap (λ e. blank_of e k.fill) kind ∙ ap (blank_of h.kind) fill
parts_value h k (b ∷ bs) at kind chunk fill = ap (λ e. piece_at (size_of e) (offset_of at k.chunk) (b ∷ bs)) kind ∙ ap (λ c. piece_at (size_of h.kind) (offset_of at c) (b ∷ bs)) chunk

pub one_array : (kept : List ℕ → List ℕ) (h k : Grid) → IsWhole h → IsWhole k → k.kind ≡ h.kind → k.shape ≡ h.shape → k.chunk ≡ h.chunk → k.fill ≡ h.fill → ReadsAs kept h → ReadsAs kept k → k ≡ h
one_array kept h k w v kind shape chunk fill on also =
    same_grids h k kind shape chunk fill w.table (v.table ∙ ap count_of shape) (λ at lies.
    sym (also at (subst (LiesIn at) (sym shape) lies)) ∙ ap (λ c. body_value k (kept (quotients at c)) at) chunk ∙ parts_value h k (kept (quotients at h.chunk)) at kind chunk fill ∙ on at lies)
