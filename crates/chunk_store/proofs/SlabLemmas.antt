-- Reads and writes of a selection's cells, chunk by chunk.
use Rattle.std.proofs.Common.{◌≡◌, ℕ, suc, ◌+◌, ◌-◌, ◌*◌, ◌<◌, ◌≤◌, ◌⊎◌, ◌||◌, true, false, cond, is_some, bytes_eq, List, [], ◌∷◌, ◌++◌, length, take, drop, replicate, get_or, map, All, Some, None, inl, inr, refl, sym, ap, subst, ◌∙◌, arith, true≢false}
use Rattle.std.specs.BTreeMap.{BTreeMap}
use Rattle.std.specs.List.{AllZip, flat_map}
use Rattle.std.proofs.lemmas.Bool.{cases_lt, cases_Bool}
use Rattle.std.proofs.lemmas.List.{append_assoc, append-nil, drop_more, drop_all, take-append-drop, drop-drop, length-drop, take-replicate, drop-replicate}
use Rattle.std.proofs.lemmas.List.Elements.{All-head, All-tail}
use Rattle.std.proofs.lemmas.Nat.{mul-le}
use Rattle.std.proofs.lemmas.Slice.Eq.{bytes_eq-Decides}
use Rattle.hdf_values.specs.Nested.{piece_at}
use Rattle.shapes.specs.RowMajor.{cell_count, digits_by, IsInside}
use Rattle.shapes.proofs.CellLemmas.{digits_in}
use Rattle.hyperslab.specs.Selected.{Axis, IsSlab, FitsIn, axes, axes_of, cell_at, extent, extents, is_at, point, selected}
use Rattle.hyperslab.specs.Runs.{InBox}
use Rattle.hyperslab.specs.declared.Slab.{Slab}
use Rattle.hyperslab.proofs.AxisLemmas.{length-axes}
use Rattle.hyperslab.proofs.SelectLemmas.{selected_count}
use Rattle.hyperslab.proofs.CellLemmas.{cell_each, cell_listed, cell_once, cell_selected}
use Rattle.chunk_store.proofs.ChunkBoxLemmas.{box_of_chunk, offset_in_chunk, length-corner, corner_ends}
use Rattle.chunk_layout.specs.Chunks.{quotients, offset_of, corner}
use Rattle.chunk_layout.proofs.CellLemmas.{one_cell_there}
use Rattle.chunk_store.specs.BoxCopies.Boxes.{AreFilled, AreRead, AreWritten, IsBox, LiesThere, offset}
use Rattle.chunk_store.specs.Buffers.{AreFull, AreThere, IsFrame, IsGrown, IsWritten, bytes_at, flag_at}
use Rattle.chunk_store.specs.Cells.{find_in, has, put}
use Rattle.chunk_store.specs.Grids.{written}
use Rattle.chunk_store.specs.Indexes.{IsIndex}
use Rattle.chunk_store.specs.Listed.{IsLast}
use Rattle.chunk_store.specs.Marks.{touches}
use Rattle.chunk_store.specs.Slabs.{AreReady, IsChunkRead, IsChunkWritten, IsThere}
use Rattle.chunk_store.specs.Touched.{AreTouched, touched_at, touched_count}
use Rattle.chunk_store.specs.declared.buffers.Frame.{Frame}
use Rattle.chunk_store.specs.declared.buffers.Held.{Held}
use Rattle.chunk_store.proofs.KeyLemmas.{put_here, written_keys}
use Rattle.chunk_store.proofs.TrackLemmas.{by_index, written_other}
use Rattle.chunk_store.proofs.ValueLemmas.{written_last}
use Rattle.chunk_store.proofs.MarkLemmas.{noted_next, touched_here}
use Rattle.chunk_store.proofs.BufferLemmas.{Chunks, found_bytes, found_full, put_bytes, kept_bytes, put_else, put_flag, put_full, same_or}

-- ---- the first cell of a chunk

pub corner_next : (i : ℕ) (qs ns found whole : List ℕ) (q n : ℕ) → i < length qs → i < length ns → q ≡ get_or qs i 0 → n ≡ get_or ns i 0
    → found ++ corner (drop i qs) (drop i ns) ≡ whole → (found ++ (q * n) ∷ []) ++ corner (drop (i + 1) qs) (drop (i + 1) ns) ≡ whole
corner_next i qs ns found whole q n h k eq en so =
    let rest = rw (drop_more qs i 0 h, drop_more ns i 0 k) at so in
    let same : q * n ≡ get_or qs i 0 * get_or ns i 0 = ap (λ x. x * n) eq ∙ ap (λ x. get_or qs i 0 * x) en in
    append_assoc found ((q * n) ∷ []) _ ∙ ap (λ m. found ++ m ∷ corner (drop (i + 1) qs) (drop (i + 1) ns)) same ∙ rest

pub corner_end : (i : ℕ) (qs ns found whole : List ℕ) → length qs ≤ i → found ++ corner (drop i qs) (drop i ns) ≡ whole → found ≡ whole
corner_end i qs ns found whole h so =
    let rest = rw (drop_all i qs h) at so in
    sym (append-nil found) ∙ rest

-- ---- selected cells

length-point : (ks : List ℕ) (xs : List Axis) → IsInside ks (map extent xs) → length (point ks xs) ≡ length xs
length-point [] [] h = refl
length-point [] (x ∷ xs) h = absurd h
length-point (k ∷ ks) [] h = absurd h
length-point (k ∷ ks) (x ∷ xs) h = ap suc (length-point ks xs h.1)

pub cell_rank : (s : Slab) (p : ℕ) → IsSlab s → p < cell_count (extents s) → length (cell_at s p) ≡ length s.start
cell_rank s p h low = length-point (digits_by (extents s) p) (axes_of s) (digits_in (extents s) p low).0 ∙ length-axes s.start s.stop s.step h.ranked.stops h.ranked.steps

-- ---- the box of a chunk

pub record IsChunkBox (f : Frame) (s : Slab) (origin i : List ℕ) : Type 0 where
  pub frame : IsFrame f
  pub slab : IsSlab s
  pub rank : length f.layout.chunk ≡ length s.start
  pub index : IsIndex f.layout.chunk i
  pub first : origin ≡ corner i f.layout.chunk

pub chunk_box : (f : Frame) (s : Slab) (origin i : List ℕ) → IsChunkBox f s origin i → IsBox s origin f.layout.chunk
chunk_box f s origin i b =
    let ns = f.layout.chunk in
    subst (λ os. IsBox s os ns) (sym b.first) (record {
      slab = b.slab;
      chunk = b.frame.chunk;
      origin_rank = length-corner ns i b.index.rank ∙ b.rank;
      chunk_rank = b.rank;
      ends = corner_ends ns i b.frame.chunk.dims b.index.rank b.index.small;
    })

same_blank : (x y z : List ℕ) → y ≡ z → (x ≡ y) ⊎ (x ≡ z) → x ≡ y
same_blank x y z e (inl h) = h
same_blank x y z e (inr h) = h ∙ sym e

module _ (f : Frame) (s : Slab) (origin i : List ℕ) (b : IsChunkBox f s origin i) where
  rank_of : (p : ℕ) → p < cell_count (extents s) → length (cell_at s p) ≡ length f.layout.chunk
  rank_of p low = cell_rank s p b.slab low ∙ sym b.rank

  -- a selected cell lies in the box exactly where it lies in the chunk, at its offset there
  in_box : (p : ℕ) → IsThere f s i p → LiesThere s origin f.layout.chunk p
  in_box p h =
      let inside = (box_of_chunk f.layout.chunk i (cell_at s p) b.frame.chunk.dims b.index.rank (rank_of p h.0)).1 h.1 in
      (h.0, subst (λ os. InBox (cell_at s p) os f.layout.chunk) (sym b.first) inside)

  of_box : (p : ℕ) → LiesThere s origin f.layout.chunk p → IsThere f s i p
  of_box p h =
      (h.0, (box_of_chunk f.layout.chunk i (cell_at s p) b.frame.chunk.dims b.index.rank (rank_of p h.0)).0 (subst (λ os. InBox (cell_at s p) os f.layout.chunk) b.first h.1))

  box_offset : (p : ℕ) → IsThere f s i p → offset s origin f.layout.chunk p ≡ offset_of (cell_at s p) f.layout.chunk
  box_offset p h =
      let same : origin ≡ corner (quotients (cell_at s p) f.layout.chunk) f.layout.chunk = b.first ∙ ap (λ j. corner j f.layout.chunk) (sym h.1) in
      ap (λ os. offset s os f.layout.chunk p) same ∙ offset_in_chunk f.layout.chunk (cell_at s p) (rank_of p h.0)

  -- ---- the reads of one chunk

  pub read_held : (m : Chunks) (h : Held) (buffer old out : List ℕ) → find_in m i ≡ Some h → buffer ≡ h.bytes.items → AreRead s origin f.layout.chunk f.size buffer old out → IsChunkRead m f s i old out
  read_held m h buffer old out found is done = record {
    here = λ p there.
        done.here p (in_box p there) ∙ ap (λ k. piece_at f.size k buffer) (box_offset p there) ∙ ap (piece_at f.size (offset_of (cell_at s p) f.layout.chunk)) is
        ∙ sym (found_bytes m f (cell_at s p) i (Some h) (sym there.1) found);
    others = λ p apart. done.others p (λ box. apart (of_box p box));
  }

  pub read_blank : (m : Chunks) (blank old out : List ℕ) → find_in m i ≡ None → blank ≡ f.blank.items → AreFilled s origin f.layout.chunk f.size blank old out → IsChunkRead m f s i old out
  read_blank m blank old out found is done = record {
    here = λ p there. done.here p (in_box p there) ∙ is ∙ sym (found_bytes m f (cell_at s p) i None (sym there.1) found);
    others = λ p apart. done.others p (λ box. apart (of_box p box));
  }

  -- what isn't held is what is ready
  pub read_ready : (m : Chunks) (out : List ℕ) → find_in m i ≡ None → AreReady m f s out → IsChunkRead m f s i out out
  read_ready m out found ready = record {
    here = λ p there. same_blank (piece_at f.size p out) (bytes_at m f (cell_at s p)) f.blank.items (found_bytes m f (cell_at s p) i None (sym there.1) found) (ready p there.0);
    others = λ p apart. refl;
  }

-- ---- chunk after chunk of a read

-- the cells of the first `n` chunks stand in `out`
pub record AreChunksRead (m : Chunks) (f : Frame) (s : Slab) (n : ℕ) (out : List ℕ) : Type 0 where
  pub each : (b p : ℕ) → b < n → IsThere f s (touched_at s f.layout.chunk b) p → piece_at f.size p out ≡ bytes_at m f (cell_at s p)

pub read_first : (m : Chunks) (f : Frame) (s : Slab) (out : List ℕ) → AreChunksRead m f s 0 out
read_first m f s out = record { each = λ b p h there. absurd (omega (arith, h)) }

zero_list : (xs : List ℕ) → All (λ b. b ≡ 0) xs → xs ≡ replicate (length xs) 0
zero_list [] h = refl
zero_list (x ∷ xs) h = ap (λ y. y ∷ xs) (All-head (λ b. b ≡ 0) x xs h) ∙ ap (λ ys. 0 ∷ ys) (zero_list xs (All-tail (λ b. b ≡ 0) x xs h))

zero_piece : (k p n : ℕ) (xs : List ℕ) → All (λ b. b ≡ 0) xs → length xs ≡ k → (p + 1) * k ≤ n → piece_at k p (replicate n 0) ≡ xs
zero_piece k p n xs zeros len room =
    ap (take k) (drop-replicate (p * k) n 0) ∙ take-replicate k (n - p * k) 0 (omega (arith, room)) ∙ ap (λ m. replicate m 0) (sym len) ∙ sym (zero_list xs zeros)

-- where a cell that was never written has zeros alone, zeros are ready
pub ready_first : (m : Chunks) (f : Frame) (s : Slab) (out : List ℕ) → IsFrame f → All (λ b. b ≡ 0) f.blank.items → out ≡ replicate (cell_count (extents s) * f.size) 0 → AreReady m f s out
ready_first m f s out frame zeros is p low =
    let room : (p + 1) * f.size ≤ cell_count (extents s) * f.size = mul-le (p + 1) f.size (cell_count (extents s)) f.size (omega (arith, low)) (omega arith) in
    inr (ap (piece_at f.size p) is ∙ zero_piece f.size p (cell_count (extents s) * f.size) f.blank.items zeros frame.blank room)

kept_ready : (x y z w : List ℕ) → y ≡ x → (x ≡ z) ⊎ (x ≡ w) → (y ≡ z) ⊎ (y ≡ w)
kept_ready x y z w e (inl h) = inl (e ∙ h)
kept_ready x y z w e (inr h) = inr (e ∙ h)

pub ready_more : (m : Chunks) (f : Frame) (s : Slab) (i old out : List ℕ) → AreReady m f s old → IsChunkRead m f s i old out → AreReady m f s out
ready_more m f s i old out ready box p low =
    let at = cell_at s p in
    same_or (quotients at f.layout.chunk) i ((piece_at f.size p out ≡ bytes_at m f at) ⊎ (piece_at f.size p out ≡ f.blank.items))
    (λ same. inl (box.here p (low, same)))
    (λ other. kept_ready (piece_at f.size p old) (piece_at f.size p out) (bytes_at m f at) f.blank.items (box.others p (λ here. other here.1)) (ready p low))

-- a chunk that isn't the next stands before it
earlier : (at : ℕ → List ℕ) (n b : ℕ) (i : List ℕ) → b < n + 1 → i ≡ at b → (i ≡ at n → ⊥) → b < n
earlier at n b i h e apart = elim (cases_lt b n) [
  | inl low ↦ low
  | inr high ↦
      let same : b ≡ n = omega (arith, h) in
      absurd (apart (e ∙ ap at same))
]

pub read_more : (m : Chunks) (f : Frame) (s : Slab) (n : ℕ) (i old out : List ℕ) → i ≡ touched_at s f.layout.chunk n → AreChunksRead m f s n old → IsChunkRead m f s i old out → AreChunksRead m f s (n + 1) out
read_more m f s n i old out is done box = record {
  each = λ b p h there.
      let at = cell_at s p in
      same_or (quotients at f.layout.chunk) i (piece_at f.size p out ≡ bytes_at m f at)
      (λ same. box.here p (there.0, same))
      (λ other. box.others p (λ here. other here.1) ∙ done.each b p (earlier (touched_at s f.layout.chunk) n b (quotients at f.layout.chunk) h there.1 (λ e. other (e ∙ sym is))) there);
}

later : (p size : ℕ) (out : List ℕ) → drop (p * size) (drop size out) ≡ drop (suc p * size) out
later p size out =
    let sum : size + p * size ≡ suc p * size = omega arith in
    drop-drop (p * size) size out ∙ ap (λ n. drop n out) sum

flat_of_pieces : (g : List ℕ → List ℕ) (ats : List (List ℕ)) (size : ℕ) (out : List ℕ) → length out ≡ length ats * size → ((p : ℕ) → p < length ats → piece_at size p out ≡ g (get_or ats p [])) → out ≡ flat_map g ats
flat_of_pieces g [] size [] e h = refl
flat_of_pieces g [] size (b ∷ bs) e h = absurd (omega (arith, e))
flat_of_pieces g (at ∷ ats) size out e h =
    let none : 0 * size ≡ 0 = omega arith in
    let first : take size out ≡ g at = ap (λ n. take size (drop n out)) (sym none) ∙ h 0 (omega arith) in
    let rest : drop size out ≡ flat_map g ats = flat_of_pieces g ats size (drop size out) (length-drop size out ∙ omega (arith, e)) (λ p low. ap (take size) (later p size out) ∙ h (suc p) (omega (arith, low))) in
    sym (take-append-drop size out) ∙ ap (λ xs. xs ++ drop size out) first ∙ ap (λ xs. g at ++ xs) rest

pub read_done : (m : Chunks) (f : Frame) (s : Slab) (n : ℕ) (out : List ℕ) → IsSlab s → AreTouched s f.layout.chunk → touched_count s f.layout.chunk ≤ n → length out ≡ cell_count (extents s) * f.size → AreChunksRead m f s n out
    → (dims : List ℕ) → FitsIn s dims → out ≡ flat_map (bytes_at m f) (selected s dims)
read_done m f s n out h t l e done dims fits =
    let many : length (selected s dims) ≡ cell_count (extents s) = selected_count (axes_of s) dims h.sound fits in
    flat_of_pieces (bytes_at m f) (selected s dims) f.size out (e ∙ ap (λ k. k * f.size) (sym many)) (λ p low.
    let within : p < cell_count (extents s) = omega (arith, low, many) in
    let chunk = t.each p within in
    done.each chunk.0 p (omega (arith, chunk.1, l)) (within, sym chunk.2) ∙ ap (bytes_at m f) (sym (cell_listed s dims p h fits within)))

-- ---- the chunks of selected cells

touches_told : (chunk : List ℕ) (ats : List (List ℕ)) (i : List ℕ) → touches chunk ats i ≡ true → (p : ℕ) × (p < length ats) × (quotients (get_or ats p []) chunk ≡ i)
touches_told chunk [] i e = absurd (true≢false (sym e))
touches_told chunk (at ∷ ats) i e = elim (cases_Bool (bytes_eq (quotients at chunk) i)) [
  | inl here ↦ (0, omega arith, (bytes_eq-Decides (quotients at chunk) i).0 here)
  | inr other ↦
      let rest = touches_told chunk ats i (sym (ap (λ b. b || touches chunk ats i) other) ∙ e) in
      (suc rest.0, omega (arith, rest.1), rest.2)
]

pub chunk_touched : (s : Slab) (chunk : List ℕ) (b : ℕ) → IsSlab s → AreTouched s chunk → b < touched_count s chunk → (dims : List ℕ) → FitsIn s dims → touches chunk (selected s dims) (touched_at s chunk b) ≡ true
chunk_touched s chunk b h t low dims fits =
    let many = selected_count (axes_of s) dims h.sound fits in
    let found = t.some b low in
    touched_here chunk (selected s dims) found.0 (cell_at s found.0) (touched_at s chunk b) (touched_at s chunk b) (omega (arith, found.1, many)) (cell_listed s dims found.0 h fits found.1) (sym found.2) refl

fits_stops : (starts stops steps : List ℕ) → length stops ≡ length starts → length steps ≡ length starts → AllZip (λ x n. x.hi ≤ n) (axes starts stops steps) stops
fits_stops [] [] steps h k = tt
fits_stops [] (b ∷ stops) steps h k = absurd (omega (arith, h))
fits_stops (a ∷ starts) [] steps h k = absurd (omega (arith, h))
fits_stops (a ∷ starts) (b ∷ stops) [] h k = absurd (omega (arith, k))
fits_stops (a ∷ starts) (b ∷ stops) (c ∷ steps) h k = (omega arith, fits_stops starts stops steps (omega (arith, h)) (omega (arith, k)))

-- a selection fits in the grid that ends where it does
fits_itself : (s : Slab) → IsSlab s → FitsIn s s.stop
fits_itself s h = fits_stops s.start s.stop s.step h.ranked.stops h.ranked.steps

-- ---- growth

pub grow_first : (m : Chunks) (f : Frame) (ats : List (List ℕ)) → AreFull m f → IsGrown m m f ats
grow_first m f ats full = record { same = λ q rank. refl; full = full; noted = λ i. inl refl }

pub grow_more : (m n o : Chunks) (f : Frame) (ats : List (List ℕ)) (i : List ℕ) → touches f.layout.chunk ats i ≡ true → IsGrown m n f ats
    → ((q : List ℕ) → length q ≡ length f.layout.chunk → bytes_at o f q ≡ bytes_at n f q) → AreFull o f → ((j : List ℕ) → (flag_at o j ≡ flag_at n j) ⊎ ((i ≡ j) × (flag_at n j ≡ None) × (flag_at o j ≡ Some false))) → IsGrown m o f ats
grow_more m n o f ats i touched done same full noted = record {
  same = λ q rank. same q rank ∙ done.same q rank;
  full = full;
  noted = λ j. noted_next (touches f.layout.chunk ats j) (flag_at m j) (flag_at n j) (flag_at o j) i j (done.noted j) (noted j) (λ e. ap (touches f.layout.chunk ats) (sym e) ∙ touched);
}

-- the map has the first `n` chunks
abbrev pub AreHeld : {X : Type 0} → BTreeMap (List ℕ) X → Slab → List ℕ → ℕ → Type 0
AreHeld m s chunk n = (b : ℕ) → b < n → has m (touched_at s chunk b) ≡ true

pub held_more : {X : Type 0} (m n : BTreeMap (List ℕ) X) (s : Slab) (chunk i : List ℕ) (k : ℕ) → i ≡ touched_at s chunk k → AreHeld m s chunk k → ((j : List ℕ) → has m j ≡ true → has n j ≡ true) → has n i ≡ true → AreHeld n s chunk (k + 1)
held_more m n s chunk i k is held more there b low = elim (cases_lt b k) [
  | inl less ↦ more (touched_at s chunk b) (held b less)
  | inr past ↦
      let same : b ≡ k = omega (arith, low) in
      ap (λ x. has n (touched_at s chunk x)) same ∙ ap (has n) (sym is) ∙ there
]

pub held_done : {X : Type 0} (m : BTreeMap (List ℕ) X) (f : Frame) (s : Slab) (k : ℕ) → IsSlab s → AreTouched s f.layout.chunk → touched_count s f.layout.chunk ≤ k → AreHeld m s f.layout.chunk k → (dims : List ℕ) → FitsIn s dims → AreThere m f (selected s dims)
held_done m f s k h t l held dims fits p low =
    let many = selected_count (axes_of s) dims h.sound fits in
    let within : p < cell_count (extents s) = omega (arith, low, many) in
    let found = t.each p within in
    ap (λ at. has m (quotients at f.layout.chunk)) (cell_listed s dims p h fits within) ∙ ap (has m) (sym found.2) ∙ held found.0 (omega (arith, found.1, l))

-- a chunk of selected cells that are there is held
pub there_held : (m : Chunks) (f : Frame) (s : Slab) (b : ℕ) → IsSlab s → AreTouched s f.layout.chunk → ((dims : List ℕ) → FitsIn s dims → AreThere m f (selected s dims)) → b < touched_count s f.layout.chunk → has m (touched_at s f.layout.chunk b) ≡ true
there_held m f s b h t there low =
    let fits = fits_itself s h in
    let many = selected_count (axes_of s) s.stop h.sound fits in
    let found = t.some b low in
    ap (has m) (sym found.2) ∙ ap (λ at. has m (quotients at f.layout.chunk)) (sym (cell_listed s s.stop found.0 h fits found.1)) ∙ there s.stop fits found.0 (omega (arith, found.1, many))

-- ---- the writes of one chunk

module _ (f : Frame) (s : Slab) (origin i : List ℕ) (b : IsChunkBox f s origin i) (m n : Chunks) (old new : Held) (found : find_in m i ≡ Some old) (each : (j : List ℕ) → find_in n j ≡ put (find_in m) i (Some new) j) where
  pub chunk_written : (bytes : List ℕ) → AreFull m f → length new.bytes.items ≡ length old.bytes.items → new.dirty ≡ true → AreWritten s origin f.layout.chunk f.size bytes old.bytes.items new.bytes.items → IsChunkWritten m n f s i bytes
  chunk_written bytes full len dirty done = record {
    here = λ p there.
        put_bytes m n i new each f (cell_at s p) there.1 ∙ ap (λ k. piece_at f.size k new.bytes.items) (sym (box_offset f s origin i b p there)) ∙ done.here p (in_box f s origin i b p there);
    others = λ q rank apart.
        same_or (quotients q f.layout.chunk) i (bytes_at n f q ≡ bytes_at m f q)
        (λ same.
        put_bytes m n i new each f q same
        ∙ done.others (offset_of q f.layout.chunk) (λ p box e.
        let there = of_box f s origin i b p box in
        apart p there (one_cell_there f.layout.chunk (cell_at s p) q b.frame.chunk.dims (rank_of f s origin i b p there.0) rank (there.1 ∙ sym same) (sym (e ∙ box_offset f s origin i b p there))))
        ∙ sym (found_bytes m f q i (Some old) (sym same) found))
        (kept_bytes m n i new each f q);
    full = put_full m n i new each f (len ∙ found_full m f i old full found) full;
    keys = written_keys m n i new each (ap is_some found);
    flags = λ j. put_flag m n i new each j ∙ ap (λ c. put (flag_at m) i (Some c) j) dirty;
  }

-- ---- chunk after chunk of a write

-- the cells of the first `k` chunks have their elements, and these chunks are dirty
pub record AreChunksWritten (m n : Chunks) (f : Frame) (s : Slab) (k : ℕ) (bytes : List ℕ) : Type 0 where
  pub here : (b p : ℕ) → b < k → IsThere f s (touched_at s f.layout.chunk b) p → bytes_at n f (cell_at s p) ≡ piece_at f.size p bytes
  pub others : (q : List ℕ) → length q ≡ length f.layout.chunk → ((p : ℕ) → p < cell_count (extents s) → cell_at s p ≡ q → ⊥) → bytes_at n f q ≡ bytes_at m f q
  pub full : AreFull n f
  pub keys : (i : List ℕ) → has n i ≡ has m i
  pub dirty : (b : ℕ) → b < k → flag_at n (touched_at s f.layout.chunk b) ≡ Some true
  pub kept : (i : List ℕ) → ((b : ℕ) → b < k → touched_at s f.layout.chunk b ≡ i → ⊥) → flag_at n i ≡ flag_at m i

pub write_first : (m : Chunks) (f : Frame) (s : Slab) (bytes : List ℕ) → AreFull m f → AreChunksWritten m m f s 0 bytes
write_first m f s bytes full = record {
  here = λ b p low there. absurd (omega (arith, low));
  others = λ q rank apart. refl;
  full = full;
  keys = λ i. refl;
  dirty = λ b low. absurd (omega (arith, low));
  kept = λ i apart. refl;
}

pub write_more : (m n o : Chunks) (f : Frame) (s : Slab) (k : ℕ) (i bytes : List ℕ) → IsSlab s → length f.layout.chunk ≡ length s.start → i ≡ touched_at s f.layout.chunk k
    → AreChunksWritten m n f s k bytes → IsChunkWritten n o f s i bytes → AreChunksWritten m o f s (k + 1) bytes
write_more m n o f s k i bytes h rank is done box = record {
  here = λ b p low there.
      let at = cell_at s p in
      same_or (quotients at f.layout.chunk) i (bytes_at o f at ≡ piece_at f.size p bytes)
      (λ same. box.here p (there.0, same))
      (λ other.
      box.others at (cell_rank s p h there.0 ∙ sym rank) (λ l here e. other (ap (λ x. quotients x f.layout.chunk) (sym e) ∙ here.1))
      ∙ done.here b p (earlier (touched_at s f.layout.chunk) k b (quotients at f.layout.chunk) low there.1 (λ e. other (e ∙ sym is))) there);
  others = λ q long apart. box.others q long (λ p there e. apart p there.0 e) ∙ done.others q long apart;
  full = box.full;
  keys = λ j. box.keys j ∙ done.keys j;
  dirty = λ b low.
      let j = touched_at s f.layout.chunk b in
      box.flags j ∙ same_or j i (put (flag_at n) i (Some true) j ≡ Some true)
      (λ same. ap (put (flag_at n) i (Some true)) same ∙ put_here (flag_at n) i (Some true))
      (λ other. put_else (flag_at n) i (Some true) j other ∙ done.dirty b (earlier (touched_at s f.layout.chunk) k b j low refl (λ e. other (e ∙ sym is))));
  kept = λ j apart.
      box.flags j ∙ put_else (flag_at n) i (Some true) j (λ e. apart k (omega arith) (sym (e ∙ is)))
      ∙ done.kept j (λ b low e. apart b (omega (arith, low)) e);
}

module _ (m n : Chunks) (f : Frame) (s : Slab) (k : ℕ) (bytes : List ℕ) (h : IsSlab s) (rank : length f.layout.chunk ≡ length s.start) (t : AreTouched s f.layout.chunk) (l : k ≡ touched_count s f.layout.chunk)
    (done : AreChunksWritten m n f s k bytes) (dims : List ℕ) (fits : FitsIn s dims) where
  many : length (selected s dims) ≡ cell_count (extents s)
  many = selected_count (axes_of s) dims h.sound fits

  listed : (p : ℕ) → p < length (selected s dims) → (p < cell_count (extents s)) × (get_or (selected s dims) p [] ≡ cell_at s p)
  listed p low =
      let within : p < cell_count (extents s) = omega (arith, low, many) in
      (within, cell_listed s dims p h fits within)

  -- a selected cell has its element, and any other cell what it had
  cell_written : (q : List ℕ) → length q ≡ length f.layout.chunk → bytes_at n f q ≡ written (bytes_at m f) f.size (selected s dims) bytes q
  cell_written q long = elim (cases_Bool (is_at (axes_of s) q)) [
    | inl on ↦
        let found = cell_each s q h on in
        let p = found.0 in
        let chunk = t.each p found.1 in
        let last : IsLast (selected s dims) p q = (
          omega (arith, found.1, many),
          cell_listed s dims p h fits found.1 ∙ found.2,
          λ j less low e.
              let other = listed j low in
              let same = cell_once s j p h other.0 found.1 (sym other.1 ∙ e ∙ sym found.2) in
              absurd (omega (arith, same, less)),
        ) in
        ap (bytes_at n f) (sym found.2) ∙ done.here chunk.0 p (omega (arith, chunk.1, l)) (found.1, sym chunk.2) ∙ sym (written_last (bytes_at m f) f.size (selected s dims) bytes p q last)
    | inr off ↦
        let none = λ (p : ℕ) (low : p < cell_count (extents s)) (e : cell_at s p ≡ q). true≢false (sym (cell_selected s p h low) ∙ ap (is_at (axes_of s)) e ∙ off) in
        done.others q long none
        ∙ sym (written_other (bytes_at m f) f.size (selected s dims) bytes q (by_index (λ x. x ≡ q → ⊥) (selected s dims) (λ p low e. none p (listed p low).0 (sym (listed p low).1 ∙ e))))
  ]

  chunk_flag : (i : List ℕ) → flag_at n i ≡ cond (touches f.layout.chunk (selected s dims) i) (Some true) (flag_at m i)
  chunk_flag i = elim (cases_Bool (touches f.layout.chunk (selected s dims) i)) [
    | inl on ↦
        let found = touches_told f.layout.chunk (selected s dims) i on in
        let cell = listed found.0 found.1 in
        let chunk = t.each found.0 cell.0 in
        let same : touched_at s f.layout.chunk chunk.0 ≡ i = chunk.2 ∙ ap (λ x. quotients x f.layout.chunk) (sym cell.1) ∙ found.2 in
        ap (flag_at n) (sym same) ∙ done.dirty chunk.0 (omega (arith, chunk.1, l)) ∙ sym (ap (λ b. cond b (Some true) (flag_at m i)) on)
    | inr off ↦
        let none = λ (b : ℕ) (low : b < k) (e : touched_at s f.layout.chunk b ≡ i).
        (let on = chunk_touched s f.layout.chunk b h t (omega (arith, low, l)) dims fits in
        true≢false (sym on ∙ ap (touches f.layout.chunk (selected s dims)) e ∙ off)) in
        done.kept i none ∙ sym (ap (λ b. cond b (Some true) (flag_at m i)) off)
  ]

  pub write_done : IsWritten m n f (selected s dims) bytes
  write_done = record { cells = cell_written; full = done.full; flags = chunk_flag }
