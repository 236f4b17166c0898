-- The tests in order find what the properties ask for.
use Rattle.std.proofs.Common.{◌≡◌, ℕ, suc, ◌*◌, ◌≤◌, ◌⊎◌, ◌&&◌, Bool, true, false, inl, inr, List, [], ◌∷◌, ◌++◌, length, take, All, Option, Some, None, option_map, option_and_then, Result, Ok, Err, IfOk, nat_lt, nat_eq, codes, refl, sym, ap, subst, ◌∙◌, arith}
use Rattle.std.specs.List.{AllZip}
use Rattle.std.specs.Option.{is_some}
use Rattle.std.specs.Result.{IsOkAnd}
use Rattle.std.specs.Str.{bytes_eq}
use Rattle.std.proofs.lemmas.Bool.{le-leb, lt-ltb, eqb-true, eq-eqb, cases_lt, false≢true}
use Rattle.std.proofs.lemmas.Bool.Decides.{nat_tests}
use Rattle.std.proofs.lemmas.List.{append-nil, take_all, append_assoc}
use Rattle.std.proofs.lemmas.List.Elements.{All-nil, All-cons, All-head, All-tail}
use Rattle.std.proofs.lemmas.Option.{same_Some}
use Rattle.serde_json.specs.Data.{Data, null, boolean, number, string, array, object}
use Rattle.serde_json.specs.Find.{get, as_str, as_object}
use Rattle.json_trees.specs.Trees.{all_in, whole_in, list_in, list_of, text_at, HasClass}
use Rattle.json_trees.proofs.TreeLemmas.{and_then_some, map_some, list_in_array, whole_in_number, AllZip-all_in, all_in-AllZip, text_of}
use Rattle.json_trees.proofs.TableLemmas.{same_bytes}
use Rattle.json_trees.proofs.FaultLemmas.{chosen, test_ok}
use Rattle.shapes.specs.declared.Shape.{Shape}
use Rattle.shapes.specs.declared.TheConstants.{MAX_RANK, MAX_EXTENT, MAX_CHUNK_BYTES}
use Rattle.shapes.specs.Extents.{SpellsList}
use Rattle.shapes.specs.RowMajor.{cell_count}
use Rattle.shapes.specs.Shapes.{IsSound, dims_of}
use Rattle.shapes.proofs.SpelledLemmas.{take_kept}
use Rattle.chunk_layout.specs.declared.Layout.{Layout}
use Rattle.chunk_layout.specs.declared.LayoutFault.{LayoutFault}
use Rattle.chunk_layout.specs.declared.LayoutFault.TheVariants.{NotALayout, Rank, TooBig}
use Rattle.chunk_layout.specs.Chunks.{IsChunkDim}
use Rattle.chunk_layout.specs.Defaults.{at_least_one, IsDefault}
use Rattle.chunk_layout.specs.Layouts.{Fits, IsObject, IsWhole, AsksNone, AsksChunk, SpellsChunk}
use Rattle.chunk_layout.specs.Asked.{is_chunk_dim, first_bad, is_too_big, sized_of, ranked, chunked_of, wholes_in, classed, laid, asked_of, IsAnswer}
use Rattle.shapes.proofs.ChunkDimLemmas.{one_cell}
use Rattle.chunk_layout.proofs.DefaultLemmas.{one_end, down_fits}

-- ---- numbers that are kept

abbrev pub kept_after : List ℕ → List ℕ → List ℕ
kept_after kept rest = take MAX_RANK (kept ++ rest)

kept_one : (n : ℕ) (kept : List ℕ) (o : Option (List ℕ)) → option_map (kept_after kept) (option_map (λ ns. n ∷ ns) o) ≡ option_map (kept_after (take MAX_RANK (kept ++ n ∷ []))) o
kept_one n kept None = refl
kept_one n kept (Some ns) = ap Some (ap (take MAX_RANK) (sym (append_assoc kept (n ∷ []) ns)) ∙ sym (take_kept MAX_RANK (kept ++ n ∷ []) ns))

pub kept_step : (ds : List Data) (d : Data) (n : ℕ) (kept : List ℕ) → whole_in d ≡ Some n
    → option_map (kept_after kept) (all_in whole_in (d ∷ ds)) ≡ option_map (kept_after (take MAX_RANK (kept ++ n ∷ []))) (all_in whole_in ds)
kept_step ds d n kept e = rw e (kept_one n kept (all_in whole_in ds))

pub kept_stop : (ds : List Data) (d : Data) (kept : List ℕ) → whole_in d ≡ None → option_map (kept_after kept) (all_in whole_in (d ∷ ds)) ≡ None
kept_stop ds d kept e = rw e

pub kept_end : (kept : List ℕ) → length kept ≤ MAX_RANK → Some (kept_after kept []) ≡ Some kept
kept_end kept short = ap Some (ap (take MAX_RANK) (append-nil kept) ∙ take_all MAX_RANK kept short)

length-all_in : (f : Data → Option ℕ) (ds : List Data) (ns : List ℕ) → all_in f ds ≡ Some ns → length ns ≡ length ds
length-all_in f [] ns e =
    let P = λ (ms : List ℕ). length ms ≡ 0 in
    subst P (same_Some [] ns e) refl
length-all_in f (d ∷ ds) ns e =
    let head = and_then_some _ (f d) ns e in
    let rest = map_some _ (all_in f ds) ns head.2 in
    let P = λ (ms : List ℕ). length ms ≡ suc (length ds) in
    subst P rest.2 (ap suc (length-all_in f ds rest.0 rest.1))

counted_at : (dims : List ℕ) (size : ℕ) (o : Option (List ℕ)) (kept : List ℕ) → ((ns : List ℕ) → o ≡ Some ns → length ns ≡ length dims) → length dims ≤ MAX_RANK → option_map (take MAX_RANK) o ≡ Some kept
    → sized_of (first_bad 0 kept) size kept ≡ chunked_of dims size o
unfolding ranked
counted_at dims size None kept h few e = cc
counted_at dims size (Some ns) kept h few e =
    let same = h ns refl in
    let whole : kept ≡ ns = sym (same_Some (take MAX_RANK ns) kept e) ∙ take_all MAX_RANK ns (omega (arith, same, few)) in
    rw (eq-eqb (length ns) (length dims) same) (ap (λ ms. sized_of (first_bad 0 ms) size ms) whole)

pub counted_same : (dims : List ℕ) (size : ℕ) (ds : List Data) (kept : List ℕ) → length ds ≡ length dims → length dims ≤ MAX_RANK → option_map (take MAX_RANK) (all_in whole_in ds) ≡ Some kept
    → sized_of (first_bad 0 kept) size kept ≡ chunked_of dims size (all_in whole_in ds)
counted_same dims size ds kept same few e = counted_at dims size (all_in whole_in ds) kept (λ ns k. length-all_in whole_in ds ns k ∙ same) few e

other_at : (dims : List ℕ) (size : ℕ) (o : Option (List ℕ)) (kept : List ℕ) → ((ns : List ℕ) → o ≡ Some ns → nat_eq (length ns) (length dims) ≡ false) → option_map (take MAX_RANK) o ≡ Some kept
    → Err Rank ≡ chunked_of dims size o
unfolding ranked
other_at dims size None kept h e = cc
other_at dims size (Some ns) kept h e = rw (h ns refl)

pub counted_other : (dims : List ℕ) (size : ℕ) (ds : List Data) (kept : List ℕ) → nat_eq (length ds) (length dims) ≡ false → option_map (take MAX_RANK) (all_in whole_in ds) ≡ Some kept
    → Err Rank ≡ chunked_of dims size (all_in whole_in ds)
counted_other dims size ds kept other e = other_at dims size (all_in whole_in ds) kept (λ ns k. ap (λ n. nat_eq n (length dims)) (length-all_in whole_in ds ns k) ∙ other) e

pub counted_none : (dims : List ℕ) (size : ℕ) (o : Option (List ℕ)) → option_map (take MAX_RANK) o ≡ None → Err NotALayout ≡ chunked_of dims size o
counted_none dims size None e = refl
counted_none dims size (Some ns) e = cc

pub not_equal : (m n : ℕ) → (m ≡ n → ⊥) → nat_eq m n ≡ false
not_equal m n other = grind (arith, nat_tests)

-- ---- dims that fit

dim_told : (n : ℕ) → is_chunk_dim n ≡ true → IsChunkDim n
dim_told n e = grind (arith, nat_tests)

dim_read : (n : ℕ) → IsChunkDim n → is_chunk_dim n ≡ true
dim_read n h = rw (le-leb 1 n h.0, le-leb n MAX_EXTENT h.1) refl

dims_told : (k : ℕ) (ns : List ℕ) → first_bad k ns ≡ None → All IsChunkDim ns
dims_told k [] e = All-nil IsChunkDim
dims_told k (n ∷ ns) e = elim (chosen (is_chunk_dim n) (first_bad (suc k) ns) (Some k) None e) [
  | inl p ↦ All-cons IsChunkDim n ns (dim_told n p.0) (dims_told (suc k) ns p.1)
  | inr p ↦ cc
]

dims_read : (k : ℕ) (ns : List ℕ) → All IsChunkDim ns → first_bad k ns ≡ None
dims_read k [] h = refl
dims_read k (n ∷ ns) h = rw (dim_read n (All-head IsChunkDim n ns h)) (dims_read (suc k) ns (All-tail IsChunkDim n ns h))

big_told : (size : ℕ) (ns : List ℕ) → 1 ≤ cell_count ns → is_too_big size ns ≡ false → (size * cell_count ns ≤ MAX_CHUNK_BYTES) ⊎ (cell_count ns ≡ 1)
big_told size ns some e = elim (cases_lt MAX_CHUNK_BYTES (size * cell_count ns)) [
  | inl p ↦ elim (cases_lt 1 (cell_count ns)) [
    | inl q ↦
        let big : is_too_big size ns ≡ true = rw (lt-ltb MAX_CHUNK_BYTES (size * cell_count ns) p, lt-ltb 1 (cell_count ns) q) refl in
        absurd (false≢true (sym e ∙ big))
    | inr q ↦ inr (omega (arith, some, q))
  ]
  | inr p ↦ inl p
]

big_read : (size : ℕ) (ns : List ℕ) → (size * cell_count ns ≤ MAX_CHUNK_BYTES) ⊎ (cell_count ns ≡ 1) → is_too_big size ns ≡ false
big_read size ns (inl h) =
    let low : nat_lt MAX_CHUNK_BYTES (size * cell_count ns) ≡ false = grind (arith, nat_tests, h) in
    ap (λ b. b && nat_lt 1 (cell_count ns)) low
big_read size ns (inr h) =
    let one : nat_lt 1 (cell_count ns) ≡ false = ap (λ c. nat_lt 1 c) h in
    ap (λ b. nat_lt MAX_CHUNK_BYTES (size * cell_count ns) && b) one ∙ and_false (nat_lt MAX_CHUNK_BYTES (size * cell_count ns))
  where
    and_false : (b : Bool) → (b && false) ≡ false
    and_false true = refl
    and_false false = refl

sized_told : (b : Option ℕ) (size : ℕ) (ns : List ℕ) (o : Option (List ℕ)) → sized_of b size ns ≡ Ok o → (b ≡ None) × (is_too_big size ns ≡ false) × (o ≡ Some ns)
sized_told (Some axis) size ns o e = cc
sized_told None size ns o e = elim (chosen (is_too_big size ns) (Err TooBig) (Ok (Some ns)) (Ok o) e) [
  | inl p ↦ cc
  | inr p ↦ (refl, p.0, cc)
]

ranked_told : (dims : List ℕ) (size : ℕ) (ns : List ℕ) (o : Option (List ℕ)) → ranked dims size ns ≡ Ok o → (o ≡ Some ns) × Fits size dims ns
unfolding ranked
ranked_told dims size ns o e =
    let passed = test_ok (nat_eq (length ns) (length dims)) (sized_of (first_bad 0 ns) size ns) Rank o e in
    let rest = sized_told (first_bad 0 ns) size ns o passed.1 in
    let each = dims_told 0 ns rest.0 in
    (rest.2, record { rank = eqb-true (length ns) (length dims) passed.0; each_dim = each; bytes = big_told size ns (one_cell ns each) rest.1 })

ranked_read : (dims : List ℕ) (size : ℕ) (ns : List ℕ) → Fits size dims ns → ranked dims size ns ≡ Ok (Some ns)
unfolding ranked
ranked_read dims size ns h = rw (eq-eqb (length ns) (length dims) h.rank, dims_read 0 ns h.each_dim, big_read size ns h.bytes) refl

-- ---- trees

class_told : (d : Data) (word : List ℕ) → text_at (codes "class") d ≡ Some word → HasClass word d
class_told d word e =
    let found = and_then_some as_str (get (codes "class") d) word e in
    found.1 ∙ ap Some (text_of found.0 word found.2)

class_read : (d : Data) (word : List ℕ) → HasClass word d → text_at (codes "class") d ≡ Some word
class_read d word h = ap (option_and_then as_str) h

object_told : (d : Data) → is_some (as_object d) ≡ true → IsObject d
object_told null e = absurd (false≢true e)
object_told (boolean b) e = absurd (false≢true e)
object_told (number n) e = absurd (false≢true e)
object_told (string s) e = absurd (false≢true e)
object_told (array ds) e = absurd (false≢true e)
object_told (object ms) e = (ms, refl)

pub object_read : (d : Data) → IsObject d → is_some (as_object d) ≡ true
object_read d h = ap (λ e. is_some (as_object e)) h.1

wholes_told : (d : Data) (ns : List ℕ) → wholes_in d ≡ Some ns → SpellsList IsWhole d ns
wholes_told d ns e =
    let found = and_then_some (all_in whole_in) (list_in d) ns e in
    let items = list_in_array d found.0 found.1 in
    let P = λ (ds : List Data). AllZip IsWhole ds ns in
    (items.0, items.1, subst P (sym items.2) (AllZip-all_in whole_in IsWhole whole_in_number found.0 ns found.2))

whole_read : (d : Data) (n : ℕ) → IsWhole d n → whole_in d ≡ Some n
whole_read d n h = ap whole_in h

wholes_read : (d : Data) (ns : List ℕ) → SpellsList IsWhole d ns → wholes_in d ≡ Some ns
wholes_read d ns h = ap wholes_in h.1 ∙ all_in-AllZip whole_in IsWhole whole_read (list_of h.0) ns h.2

-- ---- what is asked for

abbrev pub Meant : Data → List ℕ → ℕ → Option (List ℕ) → Type 0
Meant d dims size None = AsksNone d
Meant d dims size (Some chunk) = AsksChunk d chunk × Fits size dims chunk

chunked_told : (d layout : Data) (dims : List ℕ) (size : ℕ) (m o : Option (List ℕ)) → get (codes "layout") d ≡ Some layout → HasClass (codes "H5D_CHUNKED") layout
    → option_and_then wholes_in (get (codes "dims") layout) ≡ m → chunked_of dims size m ≡ Ok o → Meant d dims size o
chunked_told d layout dims size None o is has e h = cc
chunked_told d layout dims size (Some ns) o is has e h =
    let parts = ranked_told dims size ns o h in
    let found = and_then_some wholes_in (get (codes "dims") layout) ns e in
    let P = Meant d dims size in
    subst P (sym parts.0) ((layout, is, has, (found.0, found.1, wholes_told found.0 ns found.2)), parts.1)

abbrev pub taken : Option (List ℕ) → Result (Option (List ℕ)) LayoutFault
taken o = Ok o

same_Ok : (o p : Option (List ℕ)) → taken o ≡ Ok p → o ≡ p
same_Ok o p e = cc

classed_told : (d layout : Data) (dims : List ℕ) (size : ℕ) (t o : Option (List ℕ)) → get (codes "layout") d ≡ Some layout → text_at (codes "class") layout ≡ t → classed dims size t layout ≡ Ok o → Meant d dims size o
unfolding classed
classed_told d layout dims size None o is has e = cc
classed_told d layout dims size (Some w) o is has e = elim (chosen (bytes_eq w (codes "H5D_CONTIGUOUS")) _ _ _ e) [
  | inl p ↦ plain (same_Ok None o p.1) (inr (layout, is, inl (class_told layout (codes "H5D_CONTIGUOUS") (has ∙ ap Some (same_bytes w (codes "H5D_CONTIGUOUS") p.0)))))
  | inr p ↦ elim (chosen (bytes_eq w (codes "H5D_COMPACT")) _ _ _ p.1) [
    | inl q ↦ plain (same_Ok None o q.1) (inr (layout, is, inr (class_told layout (codes "H5D_COMPACT") (has ∙ ap Some (same_bytes w (codes "H5D_COMPACT") q.0)))))
    | inr q ↦ elim (chosen (bytes_eq w (codes "H5D_CHUNKED")) _ _ _ q.1) [
      | inl r ↦ chunked_told d layout dims size (option_and_then wholes_in (get (codes "dims") layout)) o is (class_told layout (codes "H5D_CHUNKED") (has ∙ ap Some (same_bytes w (codes "H5D_CHUNKED") r.0))) refl r.1
      | inr r ↦ cc
    ]
  ]
]
  where
    plain : None ≡ o → AsksNone d → Meant d dims size o
    plain h asks =
        let P = Meant d dims size in
        subst P h asks

laid_told : (d : Data) (dims : List ℕ) (size : ℕ) (l : Option Data) (o : Option (List ℕ)) → get (codes "layout") d ≡ l → laid dims size l ≡ Ok o → Meant d dims size o
laid_told d dims size None o is e =
    let none : None ≡ o = cc in
    let P = Meant d dims size in
    subst P none (inl is)
laid_told d dims size (Some layout) o is e = classed_told d layout dims size (text_at (codes "class") layout) o is refl e

pub asked_told : (d : Data) (dims : List ℕ) (size : ℕ) (o : Option (List ℕ)) → asked_of d dims size ≡ Ok o → IsObject d × Meant d dims size o
unfolding asked_of
asked_told d dims size o e =
    let passed = test_ok (is_some (as_object d)) (laid dims size (get (codes "layout") d)) NotALayout o e in
    (object_told d passed.0, laid_told d dims size (get (codes "layout") d) o refl passed.1)

contiguous : (dims : List ℕ) (size : ℕ) (layout : Data) → classed dims size (Some (codes "H5D_CONTIGUOUS")) layout ≡ Ok None
unfolding classed
contiguous dims size layout = refl

compact : (dims : List ℕ) (size : ℕ) (layout : Data) → classed dims size (Some (codes "H5D_COMPACT")) layout ≡ Ok None
unfolding classed
compact dims size layout = refl

in_chunks : (dims : List ℕ) (size : ℕ) (layout : Data) → classed dims size (Some (codes "H5D_CHUNKED")) layout ≡ chunked_of dims size (option_and_then wholes_in (get (codes "dims") layout))
unfolding classed
in_chunks dims size layout = refl

laid_read : (d : Data) (dims : List ℕ) (size : ℕ) (o : Option (List ℕ)) → Meant d dims size o → laid dims size (get (codes "layout") d) ≡ Ok o
laid_read d dims size None (inl none) = ap (laid dims size) none
laid_read d dims size None (inr (layout, is, inl has)) = ap (laid dims size) is ∙ ap (λ t. classed dims size t layout) (class_read layout (codes "H5D_CONTIGUOUS") has) ∙ contiguous dims size layout
laid_read d dims size None (inr (layout, is, inr has)) = ap (laid dims size) is ∙ ap (λ t. classed dims size t layout) (class_read layout (codes "H5D_COMPACT") has) ∙ compact dims size layout
laid_read d dims size (Some chunk) (asks, fits) =
    let layout = asks.0 in
    let read : option_and_then wholes_in (get (codes "dims") asks.0) ≡ Some chunk = ap (option_and_then wholes_in) asks.3.1 ∙ wholes_read asks.3.0 chunk asks.3.2 in
    ap (laid dims size) asks.1 ∙ ap (λ t. classed dims size t layout) (class_read layout (codes "H5D_CHUNKED") asks.2) ∙ in_chunks dims size layout ∙ ap (chunked_of dims size) read ∙ ranked_read dims size chunk fits

pub asked_read : (d : Data) (dims : List ℕ) (size : ℕ) (o : Option (List ℕ)) → IsObject d → Meant d dims size o → asked_of d dims size ≡ Ok o
unfolding asked_of
asked_read d dims size o is means = rw (object_read d is) (laid_read d dims size o means)

pub not_both : (d : Data) (dims chunk : List ℕ) (size : ℕ) (f : LayoutFault) → asked_of d dims size ≡ Err f → SpellsChunk d dims size chunk → ⊥
not_both d dims chunk size f e (is, inl h) = cc (e, asked_read d dims size None is h.0)
not_both d dims chunk size f e (is, inr h) = cc (e, asked_read d dims size (Some chunk) is (h.0, h.1))

-- ---- the answer

default_told : (d : Data) (dims : List ℕ) (size : ℕ) (r : Result Layout LayoutFault) → IsObject d → AsksNone d → IsOkAnd r (λ layout. IsDefault size dims layout.chunk) → IfOk r (λ layout. SpellsChunk d dims size layout.chunk)
default_told d dims size (Ok layout) is asks h = (is, inl (asks, h))
default_told d dims size (Err f) is asks h = absurd h

told_at : (d : Data) (dims : List ℕ) (size : ℕ) (a : Result (Option (List ℕ)) LayoutFault) (r : Result Layout LayoutFault) → asked_of d dims size ≡ a → IsAnswer dims size a r → IfOk r (λ layout. SpellsChunk d dims size layout.chunk)
told_at d dims size (Err f) r e h =
    let P = λ (s : Result Layout LayoutFault). IfOk s (λ layout. SpellsChunk d dims size layout.chunk) in
    subst P (sym h) tt
told_at d dims size (Ok None) r e h =
    let parts = asked_told d dims size None e in
    default_told d dims size r parts.0 parts.1 h
told_at d dims size (Ok (Some chunk)) r e h =
    let parts = asked_told d dims size (Some chunk) e in
    let P = λ (s : Result Layout LayoutFault). IfOk s (λ layout. SpellsChunk d dims size layout.chunk) in
    subst P (sym h) (parts.0, inr (parts.1.0, parts.1.1))

pub answer_told : (d : Data) (dims : List ℕ) (size : ℕ) (r : Result Layout LayoutFault) → IsAnswer dims size (asked_of d dims size) r → IfOk r (λ layout. SpellsChunk d dims size layout.chunk)
answer_told d dims size r h = told_at d dims size (asked_of d dims size) r refl h

default_same : (dims : List ℕ) (size : ℕ) (chunk : List ℕ) (r : Result Layout LayoutFault) → IsDefault size dims chunk → IsOkAnd r (λ layout. IsDefault size dims layout.chunk) → r ≡ Ok (record { chunk = chunk })
default_same dims size chunk (Ok layout) h k = ap (λ ns. Ok (record { chunk = ns })) (one_end size (at_least_one dims) layout.chunk chunk k h)
default_same dims size chunk (Err f) h k = absurd k

pub answer_only : (d : Data) (dims : List ℕ) (size : ℕ) (chunk : List ℕ) (r : Result Layout LayoutFault) → IsAnswer dims size (asked_of d dims size) r → SpellsChunk d dims size chunk → r ≡ Ok (record { chunk = chunk })
answer_only d dims size chunk r h (is, inl k) =
    let P = λ (a : Result (Option (List ℕ)) LayoutFault). IsAnswer dims size a r in
    default_same dims size chunk r k.1 (subst P (asked_read d dims size None is k.0) h)
answer_only d dims size chunk r h (is, inr k) =
    let P = λ (a : Result (Option (List ℕ)) LayoutFault). IsAnswer dims size a r in
    subst P (asked_read d dims size (Some chunk) is (k.0, k.1)) h

pub spells_fits : (d : Data) (shape : Shape) (size : ℕ) (chunk : List ℕ) → IsSound shape → SpellsChunk d (dims_of shape) size chunk → Fits size (dims_of shape) chunk
spells_fits d shape size chunk sound (is, inl h) = down_fits size shape chunk sound h.1
spells_fits d shape size chunk sound (is, inr h) = h.1
