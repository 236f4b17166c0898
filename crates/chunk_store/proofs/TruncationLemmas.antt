-- Chunks that are held, after other dims.
use Rattle.std.proofs.Common.{◌≡◌, ◌≢◌, ℕ, ◌+◌, ◌*◌, ◌<◌, ◌≤◌, Bool, true, false, cond, All, List, length, take, drop, Option, Some, None, option_map, inl, inr, refl, sym, ap, subst, ◌∙◌, arith}
use Rattle.std.proofs.lemmas.Bool.{cases_Bool, cases_lt}
use Rattle.std.proofs.lemmas.List.{take_all}
use Rattle.hdf_values.specs.Nested.{piece_at}
use Rattle.shapes.specs.declared.Shape.{Shape}
use Rattle.shapes.specs.RowMajor.{cell_count, is_inside}
use Rattle.shapes.specs.Shapes.{IsResized, IsSound, lies_in, dims_of}
use Rattle.shapes.proofs.InsideLemmas.{lies_told, inside_told, inside_read}
use Rattle.chunk_layout.specs.Chunks.{IsChunkDim, quotients, offset_of, cell_at}
use Rattle.chunk_layout.specs.Grids.{LiesInGrid}
use Rattle.chunk_layout.proofs.CellLemmas.{cell_back, cell_chunk, offset_below}
use Rattle.chunk_layout.proofs.GridLemmas.{covers_shape}
use Rattle.chunk_store.specs.Buffers.{AreFull, IsFrame, IsFull, bytes_at, chunk_bytes, flag_at}
use Rattle.chunk_store.specs.Cells.{find_in, has}
use Rattle.chunk_store.specs.Truncation.{IsTruncated}
use Rattle.chunk_store.specs.Indexes.{IsIndex}
use Rattle.chunk_store.specs.Marks.{after_resize, keeps}
use Rattle.chunk_store.specs.declared.buffers.Frame.{Frame}
use Rattle.chunk_store.specs.declared.buffers.Held.{Held}
use Rattle.chunk_store.proofs.BufferLemmas.{Chunks, found_bytes, found_full}
use Rattle.chunk_store.proofs.EntryLemmas.{IsChanged}
use Rattle.chunk_store.proofs.KeptLemmas.{new_rank, resized_is}
use Rattle.chunk_store.proofs.KeyLemmas.{some_from}
use Rattle.chunk_store.proofs.TrackLemmas.{kept_cell, new_lies}

-- ---- blanks

pub blank_copied : (first j size : ℕ) (blank out : List ℕ) → length blank ≡ size → piece_at size (first + j * 1) out ≡ piece_at size (0 + j * 0) blank → piece_at size (first + j) out ≡ blank
blank_copied first j size blank out e done =
    let one : first + j ≡ first + j * 1 = omega arith in
    let none : (0 + j * 0) * size ≡ 0 = omega arith in
    ap (λ n. piece_at size n out) one ∙ done ∙ ap (λ n. take size (drop n blank)) none ∙ take_all size blank (omega (arith, e))

-- ---- a walk over the cells of a chunk

-- the first `k` cells are done, and the others are as they were
pub record ArePartlyTruncated (f : Frame) (s : Shape) (i old new : List ℕ) (k : ℕ) : Type 0 where
  pub full : length new ≡ chunk_bytes f
  pub before : (j : ℕ) → j < k → piece_at f.size j new ≡ cond (lies_in (cell_at i j f.layout.chunk) s) (piece_at f.size j old) f.blank.items
  pub behind : (j : ℕ) → k ≤ j → piece_at f.size j new ≡ piece_at f.size j old

pub truncated_next : (f : Frame) (s : Shape) (i old now new : List ℕ) (k : ℕ) → ArePartlyTruncated f s i old now k → length new ≡ chunk_bytes f
    → piece_at f.size k new ≡ cond (lies_in (cell_at i k f.layout.chunk) s) (piece_at f.size k now) f.blank.items → ((j : ℕ) → j ≢ k → piece_at f.size j new ≡ piece_at f.size j now) → ArePartlyTruncated f s i old new (k + 1)
truncated_next f s i old now new k h full here others = record {
  full = full;
  before = λ j low. elim (cases_lt j k) [
    | inl less ↦ others j (λ e. omega (arith, e, less)) ∙ h.before j less
    | inr last ↦
        let same : k ≡ j = omega (arith, low, last) in
        subst (λ (n : ℕ). piece_at f.size n new ≡ cond (lies_in (cell_at i n f.layout.chunk) s) (piece_at f.size n old) f.blank.items) same
        (here ∙ ap (λ x. cond (lies_in (cell_at i k f.layout.chunk) s) x f.blank.items) (h.behind k (omega arith)))
  ];
  behind = λ j past. others j (λ e. omega (arith, e, past)) ∙ h.behind j (omega (arith, past));
}

-- no cell of a chunk outside the grid lies in the shape
pub none_inside : (s : Shape) (chunk i : List ℕ) (k : ℕ) → All IsChunkDim chunk → length chunk ≡ length (dims_of s) → length i ≡ length chunk → (LiesInGrid i chunk s → ⊥) → k < cell_count chunk → lies_in (cell_at i k chunk) s ≡ false
none_inside s chunk i k dims rank ranks out low = elim (cases_Bool (lies_in (cell_at i k chunk) s)) [
  | inl on ↦ absurd (out (subst (λ (x : List ℕ). LiesInGrid x chunk s) (cell_chunk chunk i k dims ranks low) (covers_shape s chunk (cell_at i k chunk) dims rank (lies_told (cell_at i k chunk) s on))))
  | inr off ↦ off
]

-- ---- all chunks

flag_cond : (b v : Bool) → Some (cond b v true) ≡ cond b (Some v) (Some true)
flag_cond true v = refl
flag_cond false v = refl

blank_either : {A : Type 0} (b : Bool) (x : A) → x ≡ cond b x x
blank_either true x = refl
blank_either false x = refl

module _ (f : Frame) (old new : Shape) (i : List ℕ) where
  still_full : (o p : Option Held) → IsChanged (IsTruncated f (dims_of old) new) i o p → IsFull (chunk_bytes f) p
  still_full None p e = subst (IsFull (chunk_bytes f)) (sym e) tt
  still_full (Some h) p e = subst (IsFull (chunk_bytes f)) (sym e.1) e.2.full

  flag_truncated : (o p : Option Held) → IsChanged (IsTruncated f (dims_of old) new) i o p → option_map (λ h. h.dirty) p ≡ after_resize (keeps i f.layout.chunk (dims_of old) (dims_of new)) (option_map (λ h. h.dirty) o)
  flag_truncated None p e = ap (option_map (λ h. h.dirty)) e
  flag_truncated (Some h) p e = ap (option_map (λ h. h.dirty)) e.1 ∙ ap Some e.2.dirty ∙ flag_cond (keeps i f.layout.chunk (dims_of old) (dims_of new)) h.dirty

module _ (m n : Chunks) (f : Frame) (old new : Shape) (frame : IsFrame f) (sound : IsSound old) (ranks : length f.layout.chunk ≡ length (dims_of old)) (re : IsResized old (dims_of new) new)
    (indexes : (i : List ℕ) → has m i ≡ true → IsIndex f.layout.chunk i)
    (outside : (q : List ℕ) → length q ≡ length f.layout.chunk → lies_in q old ≡ false → bytes_at m f q ≡ f.blank.items)
    (each : (i : List ℕ) → IsChanged (IsTruncated f (dims_of old) new) i (find_in m i) (find_in n i)) where
  in_new : (q : List ℕ) → lies_in q new ≡ is_inside q (dims_of new)
  in_new q = ap (lies_in q) (resized_is old new (dims_of new) re) ∙ (new_lies q old new (dims_of new) re).1

  -- a cell of a kept chunk that lies outside the new dims lay outside the old ones
  kept_outside : (q i : List ℕ) → length i ≡ length f.layout.chunk → quotients q f.layout.chunk ≡ i → keeps i f.layout.chunk (dims_of old) (dims_of new) ≡ true → lies_in q new ≡ false → lies_in q old ≡ false
  kept_outside q i rank here stays off = elim (cases_Bool (lies_in q old)) [
    | inr gone ↦ gone
    | inl on ↦
        let inside = inside_told q (dims_of old) (sym (new_lies q old new (dims_of new) re).0 ∙ on) in
        let now = kept_cell i f.layout.chunk (dims_of old) (dims_of new) q frame.chunk.dims rank (sym ranks) (new_rank old new (dims_of new) sound re ∙ sym ranks) here stays inside in
        absurd (let both : true ≡ false = sym (in_new q ∙ inside_read q (dims_of new) now) ∙ off in cc)
  ]

  kept_bytes_at : (q i : List ℕ) (h w : Held) → length q ≡ length f.layout.chunk → quotients q f.layout.chunk ≡ i → find_in m i ≡ Some h → find_in n i ≡ Some w → IsTruncated f (dims_of old) new i h w
      → keeps i f.layout.chunk (dims_of old) (dims_of new) ≡ true → bytes_at n f q ≡ cond (lies_in q new) (bytes_at m f q) f.blank.items
  kept_bytes_at q i h w rank here was is truncated stays =
      let same : bytes_at n f q ≡ bytes_at m f q = found_bytes n f q i (Some w) (sym here) is ∙ ap (piece_at f.size (offset_of q f.layout.chunk)) (truncated.kept stays) ∙ sym (found_bytes m f q i (Some h) (sym here) was) in
      same ∙ elim (cases_Bool (lies_in q new)) [
        | inl on ↦ sym (ap (λ b. cond b (bytes_at m f q) f.blank.items) on)
        | inr off ↦ outside q rank (kept_outside q i (indexes i (some_from (find_in m i) h was)).rank here stays off) ∙ sym (ap (λ b. cond b (bytes_at m f q) f.blank.items) off)
      ]

  truncated_bytes_at : (q i : List ℕ) (h w : Held) → length q ≡ length f.layout.chunk → quotients q f.layout.chunk ≡ i → find_in m i ≡ Some h → find_in n i ≡ Some w → IsTruncated f (dims_of old) new i h w
      → keeps i f.layout.chunk (dims_of old) (dims_of new) ≡ false → bytes_at n f q ≡ cond (lies_in q new) (bytes_at m f q) f.blank.items
  truncated_bytes_at q i h w rank here was is truncated gone =
      let k = offset_of q f.layout.chunk in
      let cell : cell_at i (offset_of q f.layout.chunk) f.layout.chunk ≡ q = ap (λ x. cell_at x (offset_of q f.layout.chunk) f.layout.chunk) (sym here) ∙ cell_back f.layout.chunk q frame.chunk.dims rank in
      found_bytes n f q i (Some w) (sym here) is
      ∙ truncated.truncated gone k (offset_below q f.layout.chunk frame.chunk.dims rank)
      ∙ ap (λ x. cond (lies_in x new) (piece_at f.size (offset_of q f.layout.chunk) h.bytes.items) f.blank.items) cell
      ∙ ap (λ x. cond (lies_in q new) x f.blank.items) (sym (found_bytes m f q i (Some h) (sym here) was))

  bytes_after : (q i : List ℕ) (o p : Option Held) → length q ≡ length f.layout.chunk → quotients q f.layout.chunk ≡ i → find_in m i ≡ o → find_in n i ≡ p → IsChanged (IsTruncated f (dims_of old) new) i o p → bytes_at n f q ≡ cond (lies_in q new) (bytes_at m f q) f.blank.items
  bytes_after q i None p rank here was is e =
      found_bytes n f q i None (sym here) (is ∙ e) ∙ blank_either (lies_in q new) f.blank.items ∙ ap (λ x. cond (lies_in q new) x f.blank.items) (sym (found_bytes m f q i None (sym here) was))
  bytes_after q i (Some h) p rank here was is e = elim (cases_Bool (keeps i f.layout.chunk (dims_of old) (dims_of new))) [
    | inl stays ↦ kept_bytes_at q i h e.0 rank here was (is ∙ e.1) e.2 stays
    | inr gone ↦ truncated_bytes_at q i h e.0 rank here was (is ∙ e.1) e.2 gone
  ]

  pub all_cells : (q : List ℕ) → length q ≡ length f.layout.chunk → bytes_at n f q ≡ cond (lies_in q new) (bytes_at m f q) f.blank.items
  all_cells q rank = bytes_after q (quotients q f.layout.chunk) (find_in m (quotients q f.layout.chunk)) (find_in n (quotients q f.layout.chunk)) rank refl refl refl (each (quotients q f.layout.chunk))

module _ (m n : Chunks) (f : Frame) (old new : Shape) (each : (i : List ℕ) → IsChanged (IsTruncated f (dims_of old) new) i (find_in m i) (find_in n i)) where
  pub all_full : AreFull n f
  all_full i = still_full f old new i (find_in m i) (find_in n i) (each i)

  pub all_flags : (i : List ℕ) → flag_at n i ≡ after_resize (keeps i f.layout.chunk (dims_of old) (dims_of new)) (flag_at m i)
  all_flags i = flag_truncated f old new i (find_in m i) (find_in n i) (each i)

-- each chunk that is held may be truncated
pub ready_to_truncate : (m : Chunks) (f : Frame) (old new : Shape) → IsFrame f → AreFull m f → ((i : List ℕ) → has m i ≡ true → IsIndex f.layout.chunk i) → IsSound old → length f.layout.chunk ≡ length (dims_of old) → IsResized old (dims_of new) new
    → (k p : List ℕ) (v q : Held) → find_in m k ≡ Some v → p ≡ k → q ≡ v → IsFrame f × (IsIndex f.layout.chunk p × ((length q.bytes.items ≡ chunk_bytes f) × (length f.layout.chunk ≡ length (dims_of new))))
ready_to_truncate m f old new frame full indexes sound ranks re k p v q found p_is q_is = (
  frame,
  (
    subst (IsIndex f.layout.chunk) (sym p_is) (indexes k (some_from (find_in m k) v found)),
    (ap (λ h. length h.bytes.items) q_is ∙ found_full m f k v full found, ranks ∙ sym (new_rank old new (dims_of new) sound re)),
  ),
)
