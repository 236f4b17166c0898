-- The bytes of cells in the buffers of chunks, and what one more chunk changes.
use Rattle.std.proofs.Common.{◌≡◌, ℕ, ◌+◌, ◌*◌, ◌<◌, ◌≤◌, ◌⊎◌, true, false, is_some, bytes_eq, List, length, take, drop, option_map, Option, Some, None, inl, inr, sym, ap, subst, ◌∙◌, arith, true≢false}
use Rattle.std.specs.Option.{option_map_or}
use Rattle.std.specs.BTreeMap.{BTreeMap, get_by}
use Rattle.std.proofs.lemmas.Nat.{mul-le}
use Rattle.std.proofs.lemmas.Bool.{cases_Bool}
use Rattle.std.proofs.lemmas.List.{take_all}
use Rattle.std.proofs.lemmas.Slice.Eq.{bytes_eq-Decides}
use Rattle.containers.specs.ShortLists.Order.{list_order}
use Rattle.hdf_values.specs.Nested.{piece_at}
use Rattle.shapes.specs.RowMajor.{cell_count}
use Rattle.chunk_layout.specs.Chunks.{quotients, offset_of}
use Rattle.chunk_layout.proofs.CellLemmas.{offset_below}
use Rattle.chunk_store.specs.StridedCopies.Strides.{AreCopied}
use Rattle.chunk_store.specs.Cells.{find_in, has, put}
use Rattle.chunk_store.specs.Buffers.{AreFull, IsFrame, IsFull, bytes_at, chunk_bytes, flag_at}
use Rattle.chunk_store.specs.declared.buffers.Frame.{Frame}
use Rattle.chunk_store.specs.declared.buffers.Held.{Held}
use Rattle.chunk_store.proofs.MarkLemmas.{note_new}
use Rattle.chunk_store.proofs.KeyLemmas.{find-get, put_cases, put_here, put_through}
use Rattle.containers.proofs.Plain.{none_of}

abbrev pub Chunks : Type 0
Chunks = BTreeMap (List ℕ) Held

-- ---- what is found

pub found_in : (m : Chunks) (i : List ℕ) (o : Option Held) → o ≡ get_by (list_order i) m → find_in m i ≡ o
found_in m i o e = sym (find-get m i) ∙ sym e

-- the bytes of a cell in what stands at its chunk
abbrev pub bytes_in : Frame → List ℕ → Option Held → List ℕ
bytes_in f at o = option_map_or (λ h. piece_at f.size (offset_of at f.layout.chunk) h.bytes.items) o f.blank.items

pub found_bytes : (m : Chunks) (f : Frame) (at i : List ℕ) (o : Option Held) → i ≡ quotients at f.layout.chunk → find_in m i ≡ o → bytes_at m f at ≡ bytes_in f at o
found_bytes m f at i o e found = ap (bytes_in f at) (ap (find_in m) (sym e) ∙ found)

pub found_full : (m : Chunks) (f : Frame) (i : List ℕ) (h : Held) → AreFull m f → find_in m i ≡ Some h → length h.bytes.items ≡ chunk_bytes f
found_full m f i h full found = subst (IsFull (chunk_bytes f)) found (full i)

-- a cell's element lies in the buffer of its chunk
pub element_inside : (f : Frame) (at bs : List ℕ) (n : ℕ) → IsFrame f → length at ≡ length f.layout.chunk → n ≡ offset_of at f.layout.chunk → length bs ≡ chunk_bytes f → (n + 1) * f.size ≤ length bs
element_inside f at bs n frame rank e long =
    let below = offset_below at f.layout.chunk frame.chunk.dims rank in
    let most = mul-le (n + 1) f.size (cell_count f.layout.chunk) f.size (omega (arith, e, below)) (omega arith) in
    omega (arith, most, long)

-- ---- equal lists, or not

pub same_or : (x y : List ℕ) (P : Type 0) → (x ≡ y → P) → ((x ≡ y → ⊥) → P) → P
same_or x y P h k = elim (cases_Bool (bytes_eq x y)) [
  | inl yes_same ↦ h ((bytes_eq-Decides x y).0 yes_same)
  | inr not_same ↦ k (λ e. true≢false (sym ((bytes_eq-Decides x y).1 e) ∙ not_same))
]

-- ---- one chunk is put

pub put_else : {A : Type 0} (g : List ℕ → A) (k : List ℕ) (v : A) (q : List ℕ) → (q ≡ k → ⊥) → put g k v q ≡ g q
put_else g k v q apart = elim (put_cases g k v q) [
  | inl same ↦ absurd (apart (sym same.0))
  | inr other ↦ other
]

module _ (m n : Chunks) (k : List ℕ) (h : Held) (each : (i : List ℕ) → find_in n i ≡ put (find_in m) k (Some h) i) where
  pub put_found : (i : List ℕ) → i ≡ k → find_in n i ≡ Some h
  put_found i e = ap (find_in n) e ∙ each k ∙ put_here (find_in m) k (Some h)

  pub put_other : (i : List ℕ) → (i ≡ k → ⊥) → find_in n i ≡ find_in m i
  put_other i apart = each i ∙ put_else (find_in m) k (Some h) i apart

  -- the cells of the chunk have the bytes of its buffer, and all others what they had
  pub put_bytes : (f : Frame) (q : List ℕ) → quotients q f.layout.chunk ≡ k → bytes_at n f q ≡ piece_at f.size (offset_of q f.layout.chunk) h.bytes.items
  put_bytes f q e = ap (bytes_in f q) (put_found (quotients q f.layout.chunk) e)

  pub kept_bytes : (f : Frame) (q : List ℕ) → (quotients q f.layout.chunk ≡ k → ⊥) → bytes_at n f q ≡ bytes_at m f q
  kept_bytes f q apart = ap (bytes_in f q) (put_other (quotients q f.layout.chunk) apart)

  pub put_flag : (i : List ℕ) → flag_at n i ≡ put (flag_at m) k (Some h.dirty) i
  put_flag i = ap (option_map (λ g. g.dirty)) (each i) ∙ put_through (option_map (λ g. g.dirty)) (find_in m) k (Some h) i

  pub put_has : (i : List ℕ) → has n i ≡ put (has m) k true i
  put_has i = ap is_some (each i) ∙ put_through is_some (find_in m) k (Some h) i

  pub put_full : (f : Frame) → length h.bytes.items ≡ chunk_bytes f → AreFull m f → AreFull n f
  put_full f long full i = same_or i k (IsFull (chunk_bytes f) (find_in n i))
      (λ e. subst (IsFull (chunk_bytes f)) (sym (put_found i e)) long)
      (λ apart. subst (IsFull (chunk_bytes f)) (sym (put_other i apart)) (full i))

  -- ---- a chunk with blanks alone

  pub added_bytes : (f : Frame) → IsFrame f → has m k ≡ false → ((o : ℕ) → o < cell_count f.layout.chunk → piece_at f.size o h.bytes.items ≡ f.blank.items)
      → (q : List ℕ) → length q ≡ length f.layout.chunk → bytes_at n f q ≡ bytes_at m f q
  added_bytes f frame none blanks q rank =
      let blank = λ (e : quotients q f.layout.chunk ≡ k). (put_bytes f q e ∙ blanks (offset_of q f.layout.chunk) (offset_below q f.layout.chunk frame.chunk.dims rank)
      ∙ sym (found_bytes m f q k None (sym e) (none_of (find_in m k) none))) in
      same_or (quotients q f.layout.chunk) k (bytes_at n f q ≡ bytes_at m f q) blank (kept_bytes f q)

  pub added_flag : has m k ≡ false → h.dirty ≡ false → (i : List ℕ) → (flag_at n i ≡ flag_at m i) ⊎ ((k ≡ i) × (flag_at m i ≡ None) × (flag_at n i ≡ Some false))
  added_flag none clean i =
      let gone : flag_at m k ≡ None = ap (option_map (λ g. g.dirty)) (none_of (find_in m k) none) in
      note_new (flag_at m) (flag_at n) k gone (λ j. put_flag j ∙ ap (λ b. put (flag_at m) k (Some b) j) clean) i

-- ---- the same chunks

module _ (m n : Chunks) (each : (i : List ℕ) → find_in n i ≡ find_in m i) where
  pub same_bytes : (f : Frame) (q : List ℕ) → bytes_at n f q ≡ bytes_at m f q
  same_bytes f q = ap (bytes_in f q) (each (quotients q f.layout.chunk))

  pub same_flag : (i : List ℕ) → flag_at n i ≡ flag_at m i
  same_flag i = ap (option_map (λ g. g.dirty)) (each i)

  pub same_full : (f : Frame) → AreFull m f → AreFull n f
  same_full f full i = subst (IsFull (chunk_bytes f)) (sym (each i)) (full i)

-- ---- blanks

pub all_blank : (many size : ℕ) (blank out : List ℕ) → length blank ≡ size → AreCopied (record { first = 0; stride = 1 }) (record { first = 0; stride = 0 }) many size blank out → (k : ℕ) → k < many → piece_at size k out ≡ blank
all_blank many size blank out e done k h =
    let one : k ≡ 0 + k * 1 = omega arith in
    let none : (0 + k * 0) * size ≡ 0 = omega arith in
    ap (λ n. piece_at size n out) one ∙ done k h ∙ ap (λ n. take size (drop n blank)) none ∙ take_all size blank (omega (arith, e))
