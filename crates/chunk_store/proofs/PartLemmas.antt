-- The parts of an array, and what callers see of them after each call.
use Rattle.std.proofs.Common.{◌≡◌, ℕ, ◌*◌, ◌<◌, ◌≤◌, ◌&&◌, not, Bool, true, false, cond, is_some, bytes_eq, List, [], ◌∷◌, length, get_or, option_map, Option, Some, None, IsSome, IfSome, refl, sym, ap, subst, ◌∙◌, inl, inr, arith}
use Rattle.std.specs.Option.{option_map_or}
use Rattle.std.specs.List.{AllByRecursion, flat_map}
use Rattle.std.specs.Map.{keys_of, lookup}
use Rattle.std.specs.BTreeMap.{BTreeMap}
use Rattle.std.specs.List.Sorted.{IsStrictlySortedBy}
use Rattle.containers.specs.ShortLists.Order.{list_order}
use Rattle.chunk_store.specs.Additions.{Adds, AreNew}
use Rattle.chunk_store.proofs.AdditionLemmas.{key_there, keys_once, length-keys}
use Rattle.std.specs.declared.vec.Vec.{Vec}
use Rattle.std.specs.declared.alloc.Global.{Global}
use Rattle.std.proofs.lemmas.Bool.{cases_Bool}
use Rattle.std.proofs.lemmas.Slice.Eq.{bytes_eq-Decides}
use Rattle.hdf_types.specs.Elems.{Elem}
use Rattle.hdf_types.specs.Reading.{size_of}
use Rattle.hdf_types.specs.Types.{IsSoundType}
use Rattle.hdf_values.specs.Elements.{IsEncoded, bytes_of, zero_of}
use Rattle.hdf_values.specs.Nested.{AreEncoded, piece_at}
use Rattle.hdf_values.proofs.EncodedLemmas.{length-encoded}
use Rattle.hdf_values.proofs.ElementLemmas.{zero_fits}
use Rattle.hdf_values.proofs.PieceLemmas.{some_size, encoded_each}
use Rattle.shapes.specs.declared.Shape.{Shape}
use Rattle.shapes.specs.declared.Shape.TheVariants.{Null, Scalar, Simple}
use Rattle.shapes.specs.RowMajor.{cell_count}
use Rattle.shapes.specs.Shapes.{IsSound, LiesIn, lies_in, IsResized, dims_of}
use Rattle.shapes.proofs.InsideLemmas.{lies_told, lies_read}
use Rattle.chunk_layout.specs.Chunks.{IsChunk, quotients, offset_of, chunk_cells}
use Rattle.chunk_layout.specs.Layouts.{Fits}
use Rattle.chunk_layout.proofs.CellLemmas.{chunk_count, offset_below}
use Rattle.chunk_layout.proofs.DefaultLemmas.{fits_chunk}
use Rattle.chunk_store.specs.Parts.{IsBuffered, stored_in}
use Rattle.chunk_store.specs.Buffers.{AreFull, IsFrame, IsFull, IsGrown, IsNoted, IsWritten, bytes_at, chunk_bytes, flag_at, flags_of, has_cell, when_cleared}
use Rattle.chunk_store.specs.Cells.{find_in, has, put}
use Rattle.chunk_store.specs.Grids.{Grid, IsWhole, all_fill, blank_of, resized_to, reads, tabulated, value_at, writes, written}
use Rattle.chunk_store.specs.Indexes.{IsIndex}
use Rattle.chunk_store.specs.Kept.{given_fill}
use Rattle.chunk_store.specs.Marks.{Stored, AreIndexes, IsChunkOf, IsTracked, MarksResized, MarksWritten, after_resize, body_of, cleared, content, cut, in_grid, keeps, shown, state, touches, with_chunk}
use Rattle.chunk_store.specs.Picked.{picked, PicksIn}
use Rattle.chunk_store.specs.declared.buffers.Frame.{Frame}
use Rattle.chunk_store.specs.declared.buffers.Held.{Held}
use Rattle.chunk_store.specs.declared.picks.Picks.{Picks}
use Rattle.chunk_store.proofs.ArrayLemmas.{indexes_cleared, indexes_noted, indexes_resized, indexes_put, indexes_written, noted_flagged}
use Rattle.chunk_store.proofs.ChunkLemmas.{body_some, bytes_there, fill_same, index_here}
use Rattle.chunk_store.proofs.CutLemmas.{cut_tracked, grid_here, lies_rank, made_tracked}
use Rattle.chunk_store.proofs.GridLemmas.{reads_same, tabulated_same, value-tabulated}
use Rattle.chunk_store.proofs.InstallLemmas.{cell_there, flat_pieces, install_tracked}
use Rattle.chunk_store.proofs.KeptLemmas.{resized_is, resized_same, given_blank, given_same, read_view, same_rank, same_view, whole_of, write_view}
use Rattle.chunk_store.proofs.KeyLemmas.{put_cases, put_through}
use Rattle.chunk_store.proofs.PickLemmas.{picked_inside}
use Rattle.chunk_store.proofs.TrackLemmas.{cell_of_chunk, rank_of, resize_tracked, same_tracked, stays_in, touched_grid, write_tracked, written_other}
use Rattle.chunk_store.proofs.WriteLemmas.{read_encoded, written_each, written_on}
use Rattle.json_trees.proofs.ListLemmas.{all_weaker}
use Rattle.chunk_store.proofs.BufferLemmas.{Chunks}

-- ---- flags

flag_cond : (b : Bool) (h : Held) (o : Option Held) (p : Option Bool) → p ≡ option_map (λ x. x.dirty) o → cond b (Some h.dirty) p ≡ option_map (λ x. x.dirty) (cond b (Some h) o)
flag_cond true h o p e = refl
flag_cond false h o p e = e

flag_found : (es : List (List ℕ × Held)) (i : List ℕ) → lookup (bytes_eq i) (flags_of es) ≡ option_map (λ h. h.dirty) (lookup (bytes_eq i) es)
flag_found [] i = refl
flag_found (e ∷ es) i = flag_cond (bytes_eq i e.0) e.1 (lookup (bytes_eq i) es) (lookup (bytes_eq i) (flags_of es)) (flag_found es i)

some_flag : (o : Option Held) → is_some (option_map (λ h. h.dirty) o) ≡ is_some o
some_flag None = refl
some_flag (Some h) = refl

pub keys_same : (es : List (List ℕ × Held)) → keys_of (flags_of es) ≡ keys_of es
keys_same [] = refl
keys_same (e ∷ es) = ap (λ ks. e.0 ∷ ks) (keys_same es)

noted_by : (touched : Bool) {o p : Option Bool} (x y : Option Bool) → x ≡ o → y ≡ p → IsNoted touched o p → IsNoted touched x y
noted_by touched {o} {p} x y e f noted = subst (λ (z : Option Bool). IsNoted touched z y) (sym e) (subst (λ (z : Option Bool). IsNoted touched o z) (sym f) noted)

bytes_swap : (i j : List ℕ) → bytes_eq i j ≡ bytes_eq j i
bytes_swap i j = elim (cases_Bool (bytes_eq j i)) [
  | inl y ↦ (bytes_eq-Decides i j).1 (sym ((bytes_eq-Decides j i).0 y)) ∙ sym y
  | inr n ↦ elim (cases_Bool (bytes_eq i j)) [
    | inl y ↦ absurd (let both : true ≡ false = sym ((bytes_eq-Decides j i).1 (sym ((bytes_eq-Decides i j).0 y))) ∙ n in cc)
    | inr m ↦ m ∙ sym n
  ]
]

cond_holds : (P : List ℕ → Type 0) (b : Bool) (x y : List ℕ) → (b ≡ true → P x) → (b ≡ false → P y) → P (cond b x y)
cond_holds P true x y h k = h refl
cond_holds P false x y h k = k refl

pub dims_again : (s t : Shape) (dims : List ℕ) → IsResized s dims t → dims_of t ≡ dims
dims_again Null t dims h = absurd h
dims_again Scalar t dims h = absurd h
dims_again (Simple old limits) t dims h = ap dims_of h.0

-- ---- one chunk, taken as clean or dropped

cleared_bytes : (g : Vec ℕ Global → List ℕ) (blank : List ℕ) (b : Bool) (o : Option Held) → (b ≡ false → option_map_or (λ h. g h.bytes) o blank ≡ blank) → option_map_or (λ h. g h.bytes) (when_cleared b o) blank ≡ option_map_or (λ h. g h.bytes) o blank
cleared_bytes g blank b None none = refl
cleared_bytes g blank b (Some h) none = by_flag h.dirty b h.bytes none
  where
    by_flag : (dirty b : Bool) (v : Vec ℕ Global) → (b ≡ false → g v ≡ blank) → option_map_or {T = Held} (λ h. g h.bytes) (cond (cond dirty b true) (Some (record { bytes = v; dirty = false })) None) blank ≡ g v
    by_flag true true v none = refl
    by_flag true false v none = sym (none refl)
    by_flag false b v none = refl

cleared_flag : (b : Bool) (o : Option Held) → option_map (λ h. h.dirty) (when_cleared b o) ≡ cleared b (option_map (λ h. h.dirty) o)
cleared_flag b None = refl
cleared_flag b (Some h) = by_flag h.dirty b h.bytes
  where
    by_flag : (dirty b : Bool) (v : Vec ℕ Global) → option_map {T = Held} (λ h. h.dirty) (cond (cond dirty b true) (Some (record { bytes = v; dirty = false })) None) ≡ cleared b (Some dirty)
    by_flag true true v = refl
    by_flag true false v = refl
    by_flag false b v = refl

cleared_full : (n : ℕ) (b : Bool) (o : Option Held) → IsFull n o → IsFull n (when_cleared b o)
cleared_full n b None full = tt
cleared_full n b (Some h) full = by_flag (cond h.dirty b true) h.bytes full
  where
    by_flag : (stays : Bool) (v : Vec ℕ Global) → length v.items ≡ n → IsFull n (cond stays (Some (record { bytes = v; dirty = false })) None)
    by_flag true v full = full
    by_flag false v full = tt

-- what a read gives
pub reads_encoded : (h : Grid) (p : Picks) → IsWhole h → PicksIn p h.shape → AreEncoded h.kind (length (picked p h.shape)) (reads h (picked p h.shape))
reads_encoded h p w on =
    let ats = picked p h.shape in
    let value = λ (at : List ℕ). cond (lies_in at h.shape) (value_at h at) (blank_of h.kind h.fill) in
    subst (λ (bs : List ℕ). AreEncoded h.kind (length (picked p h.shape)) bs)
    (reads_same (λ at. LiesIn at h.shape) value (value_at h) (λ at lies. ap (λ b. cond b (value_at h at) (blank_of h.kind h.fill)) (lies_read at h.shape lies)) ats (picked_inside p h.shape on))
    (read_encoded h.kind value w.kind.formed (λ at. cond_holds (IsEncoded h.kind) (lies_in at h.shape) (value_at h at) (blank_of h.kind h.fill) (λ lies. w.values at (lies_told at h.shape lies)) (λ off. w.blank)) ats)

-- ---- what calls do, as callers see it

pub record Writes (a : Stored) (ats : List (List ℕ)) (bytes : List ℕ) (t : Stored) : Type 0 where
  pub done : t.grid ≡ writes a.grid ats bytes
  pub marks : MarksWritten a ats t
  pub tracked : (held : List ℕ → List ℕ) → IsTracked held a → IsTracked held t

pub record Resizes (a : Stored) (dims : List ℕ) (t : Stored) : Type 0 where
  pub done : t.grid ≡ resized_to a.grid dims
  pub marks : MarksResized a dims t
  pub tracked : (held : List ℕ → List ℕ) → IsTracked held a → IsTracked held t

pub record Clears (a t : Stored) : Type 0 where
  pub same : t.grid ≡ a.grid
  pub marks : (i : List ℕ) → state t i ≡ cleared (in_grid a.grid i) (state a i)
  pub tracked : (held : List ℕ → List ℕ) → IsTracked held a → IsTracked (cut held a) t

pub record Installs (a : Stored) (index bytes : List ℕ) (t : Stored) : Type 0 where
  pub done : t.grid ≡ with_chunk a.grid index bytes
  pub marks : (i : List ℕ) → state t i ≡ put (state a) index (Some false) i
  pub tracked : (held : List ℕ → List ℕ) → IsTracked held a → IsTracked (put held index bytes) t

-- ---- a new array

module _ (e : Elem) (s : Shape) (f : Frame) (fill : Option (Vec ℕ Global)) (given : Bool) (m : Chunks)
    (kind : IsSoundType e) (sound : IsSound s) (layout : Fits (size_of e) (dims_of s) f.layout.chunk) (enc : IfSome fill (λ v. IsEncoded e v.items))
    (is : given ≡ is_some fill) (same : f.blank.items ≡ blank_of e (option_map (λ v. v.items) fill)) (sized : f.size ≡ size_of e) (empty : m.entries ≡ []) where
  none_held : (i : List ℕ) → find_in m i ≡ None
  none_held i = ap (lookup (bytes_eq i)) empty

  blank_there : (q : List ℕ) → bytes_at m f q ≡ f.blank.items
  blank_there q = ap (λ o. option_map_or (λ h. piece_at f.size (offset_of q f.layout.chunk) h.bytes.items) o f.blank.items) (none_held (quotients q f.layout.chunk))

  fill_encoded : (o : Option (Vec ℕ Global)) → IfSome o (λ v. IsEncoded e v.items) → IsEncoded e (blank_of e (option_map (λ v. v.items) o))
  fill_encoded None on = (zero_of e, zero_fits e kind.formed, refl)
  fill_encoded (Some v) on = on

  zero_unless : (o : Option (Vec ℕ Global)) (b : Bool) → b ≡ is_some o → b ≡ false → blank_of e (option_map (λ v. v.items) o) ≡ bytes_of e (zero_of e)
  zero_unless None b is no_fill = refl
  zero_unless (Some v) b is no_fill = absurd (let both : true ≡ false = sym is ∙ no_fill in cc)

  blank_is : IsEncoded e f.blank.items
  blank_is = subst (IsEncoded e) (sym same) (fill_encoded fill enc)

  pub made_buffered : IsBuffered e s given f m
  made_buffered = record {
    kind = kind;
    shape = sound;
    layout = layout;
    sized = sized;
    unwritten = λ no_fill. same ∙ zero_unless fill given is no_fill;
    blank_encoded = blank_is;
    encoded = λ q rank. subst (IsEncoded e) (sym (blank_there q)) blank_is;
    outside = λ q rank off. blank_there q;
    full = λ i. subst (IsFull (chunk_bytes f)) (sym (none_held i)) tt;
    indexes = λ i there. absurd (let none : false ≡ true = sym (ap is_some (none_held i)) ∙ there in cc);
  }

  pub made_grid : (stored_in e s given f m).grid ≡ all_fill e s f.layout.chunk (option_map (λ v. v.items) fill)
  made_grid =
      ap (λ o. tabulated e s f.layout.chunk o (bytes_at m f)) (given_same e fill given f.blank.items is same)
      ∙ tabulated_same e s f.layout.chunk (option_map (λ v. v.items) fill) (bytes_at m f) (λ at. blank_of e (option_map (λ v. v.items) fill)) (λ at lies. blank_there at ∙ same)

  pub made_marks : (i : List ℕ) → state (stored_in e s given f m) i ≡ None
  made_marks i = ap (λ es. lookup (bytes_eq i) (flags_of es)) empty

  pub new_tracked : IsTracked (λ i. []) (stored_in e s given f m)
  new_tracked =
      made_tracked (stored_in e s given f m) (record { kind = e; shape = s; chunk = f.layout.chunk; fill = option_map (λ v. v.items) fill; values = [] }) made_grid made_marks

-- ---- an array, and what it becomes

module _ (e : Elem) (s : Shape) (given : Bool) (f : Frame) where
  pub state_flag : (m : Chunks) (i : List ℕ) → state (stored_in e s given f m) i ≡ flag_at m i
  state_flag m i = flag_found m.entries i

  has_state : (m : Chunks) (i : List ℕ) → is_some (state (stored_in e s given f m) i) ≡ has m i
  has_state m i = ap is_some (state_flag m i) ∙ some_flag (find_in m i)

  indexes_back : (n : Chunks) → AreIndexes (stored_in e s given f n) → (i : List ℕ) → has n i ≡ true → IsIndex f.layout.chunk i
  indexes_back n on = λ i there. on i (has_state n i ∙ there)

  module _ (m : Chunks) (kept : IsBuffered e s given f m) where
    abbrev old : Stored
    old = stored_in e s given f m

    size_some : 1 ≤ f.size
    size_some = omega (arith, some_size e kept.kind.formed, kept.sized)

    pub chunk_sound : IsChunk f.layout.chunk
    chunk_sound = fits_chunk (size_of e) s f.layout.chunk kept.shape kept.layout (some_size e kept.kind.formed)

    pub frame_sound : IsFrame f
    frame_sound = record {
      chunk = chunk_sound;
      some = size_some;
      few = omega (arith, kept.kind.small, kept.sized);
      blank = length-encoded e f.blank.items kept.kind.formed kept.blank_encoded ∙ sym kept.sized;
    }

    pub rank_in : (at : List ℕ) → LiesIn at s → length at ≡ length f.layout.chunk
    rank_in at lies = lies_rank at s lies ∙ sym kept.layout.rank

    pub filling : f.blank.items ≡ blank_of e (given_fill given f.blank.items)
    filling = given_blank e given f.blank.items kept.unwritten

    pub whole_grid : IsWhole old.grid
    whole_grid = whole_of e s f.layout.chunk given f.blank.items (bytes_at m f) kept.kind kept.shape kept.layout kept.blank_encoded filling (λ at lies. kept.encoded at (rank_in at lies))

    pub known_indexes : AreIndexes old
    known_indexes = λ i there. kept.indexes i (sym (has_state m i) ∙ there)

    pub held_index : (i : List ℕ) → has_cell f.layout.chunk s i ≡ true → IsIndex f.layout.chunk i
    held_index i = index_here old.grid i whole_grid

    -- ---- reads

    pub shown_is : (at : List ℕ) → length at ≡ length f.layout.chunk → bytes_at m f at ≡ shown old.grid at
    shown_is at rank = elim (cases_Bool (lies_in at s)) [
      | inl on ↦
          sym (ap (λ b. cond b (value_at old.grid at) (blank_of e (given_fill given f.blank.items))) on
          ∙ value-tabulated e s f.layout.chunk (given_fill given f.blank.items) (bytes_at m f) at (lies_told at s on))
      | inr off ↦ kept.outside at rank off ∙ filling ∙ sym (ap (λ b. cond b (value_at old.grid at) (blank_of e (given_fill given f.blank.items))) off)
    ]

    held_content : (i : List ℕ) (x : Held) → length i ≡ length f.layout.chunk → find_in m i ≡ Some x → x.bytes.items ≡ content old.grid i
    unfolding content
    held_content i x rank there =
        let chunk = f.layout.chunk in
        let dims = kept.layout.each_dim in
        let many : length (chunk_cells i f.layout.chunk) ≡ cell_count f.layout.chunk = chunk_count f.layout.chunk i in
        let full : length x.bytes.items ≡ cell_count f.layout.chunk * f.size = subst (IsFull (chunk_bytes f)) there (kept.full i) in
        sym (flat_pieces (shown old.grid) f.size 0 (chunk_cells i chunk) x.bytes.items (full ∙ ap (λ n. n * f.size) (sym many)) (λ j low.
        let at = get_or (chunk_cells i f.layout.chunk) j [] in
        let within : j < cell_count f.layout.chunk = omega (arith, low, many) in
        let cell = cell_of_chunk chunk i j dims rank within in
        sym (shown_is at cell.0)
        ∙ ap (λ k. option_map_or (λ h. piece_at f.size (offset_of at f.layout.chunk) h.bytes.items) (find_in m k) f.blank.items) cell.1
        ∙ ap (λ o. option_map_or (λ h. piece_at f.size (offset_of at f.layout.chunk) h.bytes.items) o f.blank.items) there
        ∙ ap (λ k. piece_at f.size k x.bytes.items) (cell_there chunk i j dims rank within)))

    module _ (a : Stored) (is : stored_in e s given f m ≡ a) where
      pub grid_whole : IsWhole a.grid
      grid_whole = subst (λ (x : Stored). IsWhole x.grid) is whole_grid

      pub same_indexes : AreIndexes a
      same_indexes = subst AreIndexes is known_indexes

      pub same_size : cell_count f.layout.chunk * f.size ≡ cell_count a.grid.chunk * size_of a.grid.kind
      same_size = ap (λ k. cell_count f.layout.chunk * k) kept.sized ∙ ap (λ (x : Stored). cell_count x.grid.chunk * size_of x.grid.kind) is

      pub cell_tested : (i : List ℕ) → has_cell f.layout.chunk s i ≡ in_grid a.grid i
      cell_tested i = ap (λ (x : Stored). in_grid x.grid i) is

      pub chunk_whole : (i : List ℕ) (x : Held) → in_grid a.grid i ≡ true → find_in m i ≡ Some x → x.bytes.items ≡ body_of a.grid i
      chunk_whole i x inside there =
          let here : in_grid old.grid i ≡ true = cell_tested i ∙ inside in
          held_content i x (rank_of old.grid i here) there
          ∙ sym (ap (λ b. cond b (content old.grid i) []) here)
          ∙ ap (λ (y : Stored). body_of y.grid i) is

      pub known_held : (i : List ℕ) → IsSome (state a i) → has m i ≡ true
      known_held i there = sym (has_state m i) ∙ ap (λ (x : Stored). is_some (state x i)) is ∙ there

      pub picks_read : (p : Picks) → PicksIn p s → flat_map (bytes_at m f) (picked p s) ≡ reads a.grid (picked p a.grid.shape)
      picks_read p on = read_view a.grid e s f.layout.chunk (given_fill given f.blank.items) (bytes_at m f) (ap (λ x. x.grid) is) p on

    pub touched_cell : (ats : List (List ℕ)) → AllByRecursion (λ at. LiesIn at s) ats → (i : List ℕ) → touches f.layout.chunk ats i ≡ true → has_cell f.layout.chunk s i ≡ true
    touched_cell ats each i t = touched_grid old.grid ats i whole_grid each t

    pub stays_inside : (t : Shape) (dims : List ℕ) → IsResized s dims t → (i : List ℕ) → has_cell f.layout.chunk s i ≡ true → keeps i f.layout.chunk (dims_of s) (dims_of t) ≡ true → has_cell f.layout.chunk t i ≡ true
    stays_inside t dims re i here stays =
        let same : keeps i f.layout.chunk (dims_of s) dims ≡ true = ap (λ ds. keeps i f.layout.chunk (dims_of s) ds) (sym (dims_again s t dims re)) ∙ stays in
        ap (λ x. has_cell f.layout.chunk x i) (resized_is s t dims re) ∙ stays_in old.grid dims i t whole_grid re here same

    -- ---- chunks that came, with blanks alone

    module _ (ats : List (List ℕ)) (n : Chunks) (each : AllByRecursion (λ at. LiesIn at s) ats) (grown : IsGrown m n f ats) where
      abbrev with_more : Stored
      with_more = stored_in e s given f n

      grown_noted : (i : List ℕ) → IsNoted (touches f.layout.chunk ats i) (state old i) (state with_more i)
      grown_noted = λ i. noted_by (touches f.layout.chunk ats i) (state old i) (state with_more i) (state_flag m i) (state_flag n i) (grown.noted i)

      grown_grid : with_more.grid ≡ old.grid
      grown_grid = same_view old.grid e s f.layout.chunk (given_fill given f.blank.items) (bytes_at m f) (bytes_at n f) refl (λ q lies. grown.same q (rank_in q lies))

      pub kept_grown : IsBuffered e s given f n
      kept_grown = record {
        kind = kept.kind;
        shape = kept.shape;
        layout = kept.layout;
        sized = kept.sized;
        unwritten = kept.unwritten;
        blank_encoded = kept.blank_encoded;
        encoded = λ q rank. subst (IsEncoded e) (sym (grown.same q rank)) (kept.encoded q rank);
        outside = λ q rank off. grown.same q rank ∙ kept.outside q rank off;
        full = grown.full;
        indexes = indexes_back n (indexes_noted old with_more ats refl whole_grid each grown_noted known_indexes);
      }

    -- ---- elements that were written

    module _ (ats : List (List ℕ)) (bytes : List ℕ) (n : Chunks) (each : AllByRecursion (λ at. LiesIn at s) ats) (done : IsWritten m n f ats bytes) where
      written_flags : MarksWritten old ats (stored_in e s given f n)
      written_flags = λ i. state_flag n i ∙ done.flags i ∙ ap (cond (touches f.layout.chunk ats i) (Some true)) (sym (state_flag m i))

      apart_from : (q : List ℕ) → lies_in q s ≡ false → (at : List ℕ) → LiesIn at s → at ≡ q → ⊥
      apart_from q off at lies same = let both : true ≡ false = sym (lies_read at s lies) ∙ ap (λ x. lies_in x s) same ∙ off in cc

      pub kept_written : AreEncoded e (length ats) bytes → IsBuffered e s given f n
      kept_written enc = record {
        kind = kept.kind;
        shape = kept.shape;
        layout = kept.layout;
        sized = kept.sized;
        unwritten = kept.unwritten;
        blank_encoded = kept.blank_encoded;
        encoded = λ q rank.
            subst (IsEncoded e) (sym (done.cells q rank ∙ ap (λ k. written (bytes_at m f) k ats bytes q) kept.sized))
            (written_each (λ p. length p ≡ length f.layout.chunk) (IsEncoded e) (size_of e) ats (bytes_at m f) bytes kept.encoded enc.each q rank);
        outside = λ q rank off.
            done.cells q rank
            ∙ written_other (bytes_at m f) f.size ats bytes q (all_weaker (λ at. LiesIn at s) (λ at. at ≡ q → ⊥) (apart_from q off) ats each)
            ∙ kept.outside q rank off;
        full = done.full;
        indexes = indexes_back n (indexes_written old (stored_in e s given f n) ats refl whole_grid each written_flags known_indexes);
      }

    -- ---- elements that were written after the chunks came

    module _ (p : Picks) (bytes : List ℕ) (g n : Chunks) (on : PicksIn p s) (grown : IsGrown m g f (picked p s)) (done : IsWritten g n f (picked p s) bytes) where
      abbrev with_bytes : Stored
      with_bytes = stored_in e s given f n

      writes_grid : with_bytes.grid ≡ writes old.grid (picked p s) bytes
      writes_grid =
          write_view old.grid e s f.layout.chunk (given_fill given f.blank.items) (bytes_at m f) (bytes_at n f) f.size p bytes refl kept.sized (λ q lies.
          let rank = rank_in q lies in
          done.cells q rank ∙ written_on (λ r. length r ≡ length f.layout.chunk) (bytes_at g f) (bytes_at m f) grown.same f.size (picked p s) bytes q rank)

      writes_marks : MarksWritten old (picked p s) with_bytes
      writes_marks =
          noted_flagged old (picked p s) (state (stored_in e s given f g)) (state with_bytes) (grown_noted (picked p s) g (picked_inside p s on) grown)
          (λ i. state_flag n i ∙ done.flags i ∙ ap (cond (touches f.layout.chunk (picked p s) i) (Some true)) (sym (state_flag g i)))

      pub writes_from : (a : Stored) → stored_in e s given f m ≡ a → Writes a (picked p a.grid.shape) bytes with_bytes
      writes_from a is =
          subst (λ (x : Stored). Writes x (picked p x.grid.shape) bytes (stored_in e s given f n)) is
          (record { done = writes_grid; marks = writes_marks; tracked = λ held. write_tracked held old with_bytes (picked p s) bytes whole_grid writes_grid writes_marks })

    -- ---- other dims

    module _ (t : Shape) (dims : List ℕ) (n : Chunks) (re : IsResized s dims t) (sound : IsSound t)
        (cells : (q : List ℕ) → length q ≡ length f.layout.chunk → bytes_at n f q ≡ cond (lies_in q t) (bytes_at m f q) f.blank.items)
        (full : AreFull n f) (flags : (i : List ℕ) → flag_at n i ≡ after_resize (keeps i f.layout.chunk (dims_of s) (dims_of t)) (flag_at m i)) where
      abbrev with_resize : Stored
      with_resize = stored_in e t given f n

      resize_flags : MarksResized old dims with_resize
      resize_flags = λ i.
          state_flag n i ∙ flags i
          ∙ ap (λ ds. after_resize (keeps i f.layout.chunk (dims_of s) ds) (flag_at m i)) (dims_again s t dims re)
          ∙ ap (after_resize (keeps i f.layout.chunk (dims_of s) dims)) (sym (state_flag m i))

      pub kept_resized : IsBuffered e t given f n
      kept_resized = record {
        kind = kept.kind;
        shape = sound;
        layout = record { rank = kept.layout.rank ∙ same_rank s t dims kept.shape re; each_dim = kept.layout.each_dim; bytes = kept.layout.bytes };
        sized = kept.sized;
        unwritten = kept.unwritten;
        blank_encoded = kept.blank_encoded;
        encoded = λ q rank. subst (IsEncoded e) (sym (cells q rank)) (cond_holds (IsEncoded e) (lies_in q t) (bytes_at m f q) f.blank.items (λ on. kept.encoded q rank) (λ off. kept.blank_encoded));
        outside = λ q rank off. cells q rank ∙ ap (λ b. cond b (bytes_at m f q) f.blank.items) off;
        full = full;
        indexes = indexes_back n (indexes_resized old with_resize dims refl resize_flags known_indexes);
      }

      resize_grid : with_resize.grid ≡ resized_to old.grid dims
      resize_grid =
          resized_same e s t f.layout.chunk given f.blank.items dims (bytes_at m f) (bytes_at n f) filling re
          (λ q lies. cells q (new_cell q lies) ∙ ap (λ b. cond b (bytes_at m f q) f.blank.items) (lies_read q t lies))
          (λ q lies off. kept.outside q (new_cell q lies) off)
        where
          new_cell : (q : List ℕ) → LiesIn q t → length q ≡ length f.layout.chunk
          new_cell q lies = lies_rank q t lies ∙ sym (same_rank s t dims kept.shape re) ∙ sym kept.layout.rank

      pub resizes_from : (a : Stored) → stored_in e s given f m ≡ a → Resizes a dims with_resize
      resizes_from a is =
          subst (λ (x : Stored). Resizes x dims (stored_in e t given f n)) is
          (record { done = resize_grid; marks = resize_flags; tracked = λ held. resize_tracked held old with_resize dims t whole_grid re resize_grid resize_flags })

    -- ---- flags that were cleared

    module _ (n : Chunks) (each : (i : List ℕ) → find_in n i ≡ when_cleared (has_cell f.layout.chunk s i) (find_in m i)) where
      abbrev with_none : Stored
      with_none = stored_in e s given f n

      no_cell : (q : List ℕ) → length q ≡ length f.layout.chunk → has_cell f.layout.chunk s (quotients q f.layout.chunk) ≡ false → bytes_at m f q ≡ f.blank.items
      no_cell q rank none = elim (cases_Bool (lies_in q s)) [
        | inl on ↦ absurd (let both : true ≡ false = sym (grid_here old.grid q whole_grid (lies_told q s on)) ∙ none in cc)
        | inr off ↦ kept.outside q rank off
      ]

      clear_cells : (q : List ℕ) → length q ≡ length f.layout.chunk → bytes_at n f q ≡ bytes_at m f q
      clear_cells q rank =
          let i = quotients q f.layout.chunk in
          ap (λ o. option_map_or (λ h. piece_at f.size (offset_of q f.layout.chunk) h.bytes.items) o f.blank.items) (each i)
          ∙ cleared_bytes (λ v. piece_at f.size (offset_of q f.layout.chunk) v.items) f.blank.items (has_cell f.layout.chunk s i) (find_in m i) (no_cell q rank)

      clear_flags : (i : List ℕ) → state with_none i ≡ cleared (in_grid old.grid i) (state old i)
      clear_flags i =
          state_flag n i ∙ ap (option_map (λ h. h.dirty)) (each i) ∙ cleared_flag (has_cell f.layout.chunk s i) (find_in m i) ∙ ap (cleared (has_cell f.layout.chunk s i)) (sym (state_flag m i))

      pub kept_cleared : IsBuffered e s given f n
      kept_cleared = record {
        kind = kept.kind;
        shape = kept.shape;
        layout = kept.layout;
        sized = kept.sized;
        unwritten = kept.unwritten;
        blank_encoded = kept.blank_encoded;
        encoded = λ q rank. subst (IsEncoded e) (sym (clear_cells q rank)) (kept.encoded q rank);
        outside = λ q rank off. clear_cells q rank ∙ kept.outside q rank off;
        full = λ i. subst (IsFull (chunk_bytes f)) (sym (each i)) (cleared_full (chunk_bytes f) (has_cell f.layout.chunk s i) (find_in m i) (kept.full i));
        indexes = indexes_back n (indexes_cleared old with_none refl clear_flags known_indexes);
      }

      clear_grid : with_none.grid ≡ old.grid
      clear_grid = same_view old.grid e s f.layout.chunk (given_fill given f.blank.items) (bytes_at m f) (bytes_at n f) refl (λ q lies. clear_cells q (rank_in q lies))

      pub clears_from : (a : Stored) → stored_in e s given f m ≡ a → Clears a with_none
      clears_from a is =
          subst (λ (x : Stored). Clears x (stored_in e s given f n)) is (record { same = clear_grid; marks = clear_flags; tracked = λ held. cut_tracked held old with_none clear_grid clear_flags })

    -- ---- a chunk that was put in

    module _ (index : List ℕ) (bytes : Vec ℕ Global) (n : Chunks) (chunk : IsChunkOf old.grid index bytes.items)
        (each : (i : List ℕ) → find_in n i ≡ put (find_in m) index (Some (record { bytes = bytes; dirty = false })) i) where
      abbrev with_new : Stored
      with_new = stored_in e s given f n

      put_bytes : (q : List ℕ) → bytes_at n f q ≡ cond (bytes_eq (quotients q f.layout.chunk) index) (piece_at (size_of e) (offset_of q f.layout.chunk) bytes.items) (bytes_at m f q)
      put_bytes q =
          let i = quotients q f.layout.chunk in
          let items = λ (o : Option Held). option_map_or (λ h. piece_at f.size (offset_of q f.layout.chunk) h.bytes.items) o f.blank.items in
          ap items (each i) ∙ put_through items (find_in m) index (Some (record { bytes = bytes; dirty = false })) i
          ∙ ap (λ b. cond b (piece_at f.size (offset_of q f.layout.chunk) bytes.items) (bytes_at m f q)) (bytes_swap index i)
          ∙ ap (λ k. cond (bytes_eq i index) (piece_at k (offset_of q f.layout.chunk) bytes.items) (bytes_at m f q)) kept.sized

      some_byte : 1 ≤ length bytes.items
      some_byte = bytes_there old.grid bytes.items whole_grid chunk.encoded

      put_flags : (i : List ℕ) → state with_new i ≡ put (state old) index (Some false) i
      put_flags i =
          state_flag n i ∙ ap (option_map (λ h. h.dirty)) (each i)
          ∙ put_through (option_map (λ h. h.dirty)) (find_in m) index (Some (record { bytes = bytes; dirty = false })) i
          ∙ ap (λ o. cond (bytes_eq index i) (Some false) o) (sym (state_flag m i))

      pub kept_put : IsBuffered e s given f n
      kept_put = record {
        kind = kept.kind;
        shape = kept.shape;
        layout = kept.layout;
        sized = kept.sized;
        unwritten = kept.unwritten;
        blank_encoded = kept.blank_encoded;
        encoded = λ q rank.
            subst (IsEncoded e) (sym (put_bytes q))
            (cond_holds (IsEncoded e) (bytes_eq (quotients q f.layout.chunk) index) (piece_at (size_of e) (offset_of q f.layout.chunk) bytes.items) (bytes_at m f q)
            (λ here. ((encoded_each e (cell_count f.layout.chunk) bytes.items).0 chunk.encoded).1 (offset_of q f.layout.chunk) (offset_below q f.layout.chunk kept.layout.each_dim rank))
            (λ other. kept.encoded q rank));
        outside = λ q rank off.
            put_bytes q
            ∙ cond_holds (λ x. x ≡ f.blank.items) (bytes_eq (quotients q f.layout.chunk) index) (piece_at (size_of e) (offset_of q f.layout.chunk) bytes.items) (bytes_at m f q)
            (λ here. sym (body_some old.grid bytes.items q some_byte) ∙ chunk.outside q rank ((bytes_eq-Decides (quotients q f.layout.chunk) index).0 here) off ∙ sym filling)
            (λ other. kept.outside q rank off);
        full = λ i.
            subst (IsFull (chunk_bytes f)) (sym (each i)) (elim (put_cases (find_in m) index (Some (record { bytes = bytes; dirty = false })) i) as (λ v. IsFull (chunk_bytes f) (put (find_in m) index (Some (record { bytes = bytes; dirty = false })) i)) [
              | inl same ↦ subst (IsFull (chunk_bytes f)) (sym same.1) (chunk.encoded.whole ∙ ap (λ k. cell_count f.layout.chunk * k) (sym kept.sized))
              | inr other ↦ subst (IsFull (chunk_bytes f)) (sym other) (kept.full i)
            ]);
        indexes = indexes_back n (indexes_put old with_new index refl whole_grid chunk.inside put_flags known_indexes);
      }

      put_grid : with_new.grid ≡ with_chunk old.grid index bytes.items
      put_grid = fill_same e s f.layout.chunk (given_fill given f.blank.items) (bytes_at m f) (bytes_at n f) index bytes.items some_byte (λ q lies. put_bytes q)

      put_installs : Installs old index bytes.items with_new
      put_installs = record { done = put_grid; marks = put_flags; tracked = λ held. install_tracked held old with_new index bytes.items whole_grid chunk put_grid put_flags }

    pub chunk_back : (a : Stored) → stored_in e s given f m ≡ a → (index bytes : List ℕ) → IsChunkOf a.grid index bytes → IsChunkOf old.grid index bytes
    chunk_back a is index bytes = subst (λ (x : Stored). IsChunkOf x.grid index bytes) (sym is)

    pub installs_from : (a : Stored) → stored_in e s given f m ≡ a → (index : List ℕ) (bytes : Vec ℕ Global) (n : Chunks) → IsChunkOf a.grid index bytes.items
        → ((i : List ℕ) → find_in n i ≡ put (find_in m) index (Some (record { bytes = bytes; dirty = false })) i) → Installs a index bytes.items (stored_in e s given f n)
    installs_from a is index bytes n chunk each =
        subst (λ (x : Stored). Installs x index bytes.items (stored_in e s given f n)) is (put_installs index bytes n (chunk_back a is index bytes.items chunk) each)

    -- ---- a map that has the same

    same_grown : (n : Chunks) → ((i : List ℕ) → find_in n i ≡ find_in m i) → IsGrown m n f []
    same_grown n each = record {
      same = λ q rank. ap (λ o. option_map_or (λ h. piece_at f.size (offset_of q f.layout.chunk) h.bytes.items) o f.blank.items) (each (quotients q f.layout.chunk));
      full = λ i. subst (IsFull (chunk_bytes f)) (sym (each i)) (kept.full i);
      noted = λ i. inl (ap (option_map (λ h. h.dirty)) (each i));
    }

    pub kept_same : (n : Chunks) → ((i : List ℕ) → find_in n i ≡ find_in m i) → IsBuffered e s given f n
    kept_same n each = kept_grown [] n tt (same_grown n each)

    pub same_grid : (a : Stored) → stored_in e s given f m ≡ a → (n : Chunks) → ((i : List ℕ) → find_in n i ≡ find_in m i) → (stored_in e s given f n).grid ≡ a.grid
    same_grid a is n each = grown_grid [] n tt (same_grown n each) ∙ ap (λ x. x.grid) is

    pub same_marks : (a : Stored) → stored_in e s given f m ≡ a → (n : Chunks) → ((i : List ℕ) → find_in n i ≡ find_in m i) → (i : List ℕ) → state (stored_in e s given f n) i ≡ state a i
    same_marks a is n each i = state_flag n i ∙ ap (option_map (λ h. h.dirty)) (each i) ∙ sym (state_flag m i) ∙ ap (λ (x : Stored). state x i) is

    pub same_tracks : (a : Stored) → stored_in e s given f m ≡ a → (n : Chunks) → ((i : List ℕ) → find_in n i ≡ find_in m i) → (held : List ℕ → List ℕ) → IsTracked held a → IsTracked held (stored_in e s given f n)
    same_tracks a is n each held = same_tracked held a (stored_in e s given f n) (same_grid a is n each) (same_marks a is n each)

    -- ---- chunks that a write would add

    pub adds_from : {X : Type 0} (a : Stored) → stored_in e s given f m ≡ a → (ats : List (List ℕ)) (new : BTreeMap (List ℕ) X) → AreNew m f.layout.chunk ats new → IsStrictlySortedBy list_order (keys_of new.entries) → Adds a ats (length new.entries)
    adds_from a is ats new each sorted = subst (λ (x : Stored). Adds x ats (length new.entries)) is (record {
      chunks = keys_of new.entries;
      these = λ i. key_there new.entries i ∙ each i ∙ ap (λ b. touches f.layout.chunk ats i && not b) (sym (has_state m i));
      once = keys_once (keys_of new.entries) sorted;
      counted = length-keys new.entries;
    })
