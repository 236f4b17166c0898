-- The elements of a stretch, and of its chunk after they are written.
use Rattle.std.proofs.Common.{◌≡◌, ℕ, ◌+◌, ◌-◌, ◌*◌, ◌<◌, ◌≤◌, ◌||◌, true, false, cond, bytes_eq, List, [], ◌∷◌, ◌++◌, length, drop, get_or, Some, None, Result, Ok, Err, OnOk, if◌then◌else◌, refl, sym, ap, ◌∙◌, ◌⊎◌, inl, inr, arith}
use Rattle.std.specs.List.{AllByRecursion, flat_map}
use Rattle.std.specs.Result.{is_ok}
use Rattle.std.proofs.lemmas.Bool.{cases_Bool, cases_lt}
use Rattle.std.proofs.lemmas.Slice.Eq.{bytes_eq-Decides}
use Rattle.hdf_values.specs.Nested.{piece_at, pieces_at}
use Rattle.hdf_values.proofs.JoinLemmas.{joined_whole}
use Rattle.chunk_layout.specs.Chunks.{quotients, offset_of}
use Rattle.chunk_layout.proofs.CellLemmas.{one_cell_there}
use Rattle.chunk_store.proofs.StridedCopies.StrideLemmas.{length-subslice, piece_of_subslice}
use Rattle.chunk_store.specs.Buffers.{AreFull, IsFrame, IsWritten, bytes_at, chunk_bytes, flag_at}
use Rattle.chunk_store.specs.Cells.{find_in, put}
use Rattle.chunk_store.specs.Grids.{written}
use Rattle.chunk_store.specs.Marks.{touches}
use Rattle.chunk_store.specs.Stretches.{IsStretch}
use Rattle.chunk_store.specs.declared.buffers.Frame.{Frame}
use Rattle.chunk_store.specs.declared.buffers.Held.{Held}
use Rattle.chunk_store.specs.declared.stretches.Stretch.{Stretch}
use Rattle.chunk_store.proofs.BufferLemmas.{Chunks, found_bytes, kept_bytes, put_bytes, put_flag, put_full, same_or}
use Rattle.chunk_store.proofs.GridLemmas.{reads_same}
use Rattle.chunk_store.proofs.MarkLemmas.{touched_here}
use Rattle.chunk_store.proofs.TrackLemmas.{by_index, written_other}
use Rattle.chunk_store.proofs.ValueLemmas.{written_last}
use Rattle.chunk_store.proofs.WriteLemmas.{read_next}

-- ---- reads

pub stretch_read : (m : Chunks) (f : Frame) (t : Stretch) (h : Held) (ats : List (List ℕ)) → IsStretch f.layout.chunk t ats → find_in m t.index ≡ Some h → (t.offset + t.len) * f.size ≤ length h.bytes.items
    → pieces_at f.size t.offset t.len h.bytes.items ≡ flat_map (bytes_at m f) ats
stretch_read m f t h ats on there room =
    let many = on.many in
    joined_whole f.size (bytes_at m f) ats [] (pieces_at f.size t.offset t.len h.bytes.items)
    (length-subslice f.size t.offset t.len h.bytes.items room ∙ ap (λ n. n * f.size) (sym many))
    (λ j low.
    let at = on.each j low in
    piece_of_subslice f.size t.offset t.len j h.bytes.items (omega (arith, low, many))
    ∙ ap (λ o. piece_at f.size o h.bytes.items) (sym at.offset)
    ∙ sym (found_bytes m f (get_or ats j []) t.index (Some h) (sym at.index) there))

pub stretch_blank : (m : Chunks) (f : Frame) (t : Stretch) (ats : List (List ℕ)) → IsStretch f.layout.chunk t ats → find_in m t.index ≡ None → flat_map (λ at. f.blank.items) ats ≡ flat_map (bytes_at m f) ats
stretch_blank m f t ats on none =
    reads_same (λ at. quotients at f.layout.chunk ≡ t.index) (λ at. f.blank.items) (bytes_at m f) (λ at here. sym (found_bytes m f at t.index None (sym here) none)) ats
    (by_index (λ at. quotients at f.layout.chunk ≡ t.index) ats (λ j low. (on.each j low).index))

-- one blank more
pub blank_next : (blank : List ℕ) (ats : List (List ℕ)) (k many : ℕ) (out new piece whole : List ℕ) → length ats ≡ many → k < many → new ≡ out ++ piece → piece ≡ blank → out ++ flat_map (λ at. blank) (drop k ats) ≡ whole → new ++ flat_map (λ at. blank) (drop (k + 1) ats) ≡ whole
blank_next blank ats k many out new piece whole e low is same done =
    ap (λ l. l ++ flat_map (λ at. blank) (drop (k + 1) ats)) (is ∙ ap (λ l. out ++ l) same)
    ∙ read_next (λ at. blank) ats k (get_or ats k []) out whole (omega (arith, e, low)) refl done

pub on_added : {T E B : Type 0} (r : Result T E) (old more new : List ℕ) → new ≡ (if is_ok r then old ++ more else old) → (new ≡ old ++ more → B) → OnOk r B
on_added (Ok x) old more new e h = h e
on_added (Err f) old more new e h = tt

-- ---- writes

touches_one : (chunk : List ℕ) (ats : List (List ℕ)) (index i : List ℕ) → AllByRecursion (λ at. quotients at chunk ≡ index) ats → bytes_eq index i ≡ false → touches chunk ats i ≡ false
touches_one chunk [] index i each other = refl
touches_one chunk (at ∷ ats) index i each other = ap (λ x. bytes_eq x i || touches chunk ats i) each.0 ∙ ap (λ b. b || touches chunk ats i) other ∙ touches_one chunk ats index i each.1 other

-- what is known of a chunk of the stretch
touches_index : (chunk : List ℕ) (t : Stretch) (ats : List (List ℕ)) (i : List ℕ) → IsStretch chunk t ats → touches chunk ats i ≡ bytes_eq t.index i
touches_index chunk t ats i on = elim (cases_Bool (bytes_eq t.index i)) [
  | inl same ↦
      let some : 0 < length ats = omega (arith, on.some, on.many) in
      touched_here chunk ats 0 (get_or ats 0 []) t.index i some refl (sym (on.each 0 some).index) ((bytes_eq-Decides t.index i).0 same) ∙ sym same
  | inr other ↦ touches_one chunk ats t.index i (by_index (λ at. quotients at chunk ≡ t.index) ats (λ j low. (on.each j low).index)) other ∙ sym other
]

module _ (m n : Chunks) (f : Frame) (t : Stretch) (ats : List (List ℕ)) (bs : List ℕ) (h w : Held) (dims : IsFrame f) (on : IsStretch f.layout.chunk t ats) (there : find_in m t.index ≡ Some h)
    (is : (i : List ℕ) → find_in n i ≡ put (find_in m) t.index (Some w) i)
    (new : (j : ℕ) → j < t.len → piece_at f.size (t.offset + j) w.bytes.items ≡ piece_at f.size j bs)
    (kept : (j : ℕ) → (j < t.offset) ⊎ (t.offset + t.len ≤ j) → piece_at f.size j w.bytes.items ≡ piece_at f.size j h.bytes.items) where
  -- no cell of the stretch is this one
  apart_written : (q : List ℕ) → ((j : ℕ) → j < length ats → get_or ats j [] ≡ q → ⊥) → written (bytes_at m f) f.size ats bs q ≡ bytes_at m f q
  apart_written q none = written_other (bytes_at m f) f.size ats bs q (by_index (λ at. at ≡ q → ⊥) ats none)

  outside_cell : (q : List ℕ) → quotients q f.layout.chunk ≡ t.index → (offset_of q f.layout.chunk < t.offset) ⊎ (t.offset + t.len ≤ offset_of q f.layout.chunk) → bytes_at n f q ≡ written (bytes_at m f) f.size ats bs q
  outside_cell q here out =
      put_bytes m n t.index w is f q here ∙ kept (offset_of q f.layout.chunk) out ∙ sym (found_bytes m f q t.index (Some h) (sym here) there)
      ∙ sym (apart_written q (λ j low same.
      let there_at : offset_of q f.layout.chunk ≡ t.offset + j = ap (λ x. offset_of x f.layout.chunk) (sym same) ∙ (on.each j low).offset in
      elim out [
        | inl before ↦ omega (arith, there_at, before)
        | inr behind ↦ omega (arith, there_at, behind, low, on.many)
      ]))

  inside_cell : (q : List ℕ) → length q ≡ length f.layout.chunk → quotients q f.layout.chunk ≡ t.index → t.offset ≤ offset_of q f.layout.chunk → offset_of q f.layout.chunk < t.offset + t.len → bytes_at n f q ≡ written (bytes_at m f) f.size ats bs q
  inside_cell q rank here from until =
      let j = offset_of q f.layout.chunk - t.offset in
      let number : t.offset + (offset_of q f.layout.chunk - t.offset) ≡ offset_of q f.layout.chunk = omega (arith, from) in
      let few : offset_of q f.layout.chunk - t.offset < length ats = omega (arith, from, until, on.many) in
      let at = on.each j few in
      let same : get_or ats j [] ≡ q = one_cell_there f.layout.chunk (get_or ats j []) q dims.chunk.dims at.rank rank (at.index ∙ sym here) (at.offset ∙ number) in
      put_bytes m n t.index w is f q here ∙ ap (λ o. piece_at f.size o w.bytes.items) (sym number) ∙ new j (omega (arith, few, on.many))
      ∙ sym (written_last (bytes_at m f) f.size ats bs j q (
        few,
        same,
        λ k later low again.
            let two : t.offset + k ≡ t.offset + (offset_of q f.layout.chunk - t.offset) = sym (on.each k low).offset ∙ ap (λ x. offset_of x f.layout.chunk) again ∙ sym number in
            absurd (omega (arith, two, later)),
      ))

  other_cell : (q : List ℕ) → (quotients q f.layout.chunk ≡ t.index → ⊥) → bytes_at n f q ≡ written (bytes_at m f) f.size ats bs q
  other_cell q apart =
      kept_bytes m n t.index w is f q apart
      ∙ sym (apart_written q (λ j low same. apart (ap (λ x. quotients x f.layout.chunk) (sym same) ∙ (on.each j low).index)))

  pub stretch_written : AreFull m f → length w.bytes.items ≡ chunk_bytes f → w.dirty ≡ true → IsWritten m n f ats bs
  stretch_written full size dirty = record {
    cells = λ q rank.
        same_or (quotients q f.layout.chunk) t.index (bytes_at n f q ≡ written (bytes_at m f) f.size ats bs q)
        (λ here. elim (cases_lt (offset_of q f.layout.chunk) t.offset) [
          | inl before ↦ outside_cell q here (inl before)
          | inr from ↦ elim (cases_lt (offset_of q f.layout.chunk) (t.offset + t.len)) [
            | inl until ↦ inside_cell q rank here from until
            | inr behind ↦ outside_cell q here (inr behind)
          ]
        ])
        (other_cell q);
    full = put_full m n t.index w is f size full;
    flags = λ i.
        put_flag m n t.index w is i ∙ ap (λ b. cond (bytes_eq t.index i) (Some b) (flag_at m i)) dirty
        ∙ ap (λ b. cond b (Some true) (flag_at m i)) (sym (touches_index f.layout.chunk t ats i on));
  }
