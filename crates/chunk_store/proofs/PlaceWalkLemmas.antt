-- Walks over cells with consecutive linear indices, stretch by stretch.
use Rattle.std.proofs.Common.{◌≡◌, ℕ, ◌+◌, ◌-◌, ◌*◌, ◌<◌, ◌≤◌, true, false, Some, None, ◌⊎◌, List, [], ◌++◌, length, take, drop, get_or, sym, ap, subst, ◌∙◌, arith}
use Rattle.std.specs.BTreeMap.{BTreeMap}
use Rattle.std.specs.List.{flat_map}
use Rattle.std.proofs.Math.Seq.{take-add}
use Rattle.std.proofs.lemmas.Grind.{flat_map-append}
use Rattle.std.proofs.lemmas.List.{drop-drop, length-drop, length-take-le}
use Rattle.std.proofs.lemmas.Nat.{mul-le}
use Rattle.shapes.specs.declared.Shape.{Shape}
use Rattle.shapes.specs.Shapes.{cells_of, cell_of, count_of}
use Rattle.chunk_layout.specs.Chunks.{quotients}
use Rattle.chunk_store.specs.Buffers.{AreFull, AreThere, IsGrown, IsWritten, bytes_at, flag_at}
use Rattle.chunk_store.specs.Cells.{has}
use Rattle.chunk_store.specs.Picked.{cells_from}
use Rattle.chunk_store.specs.Stretches.{IsStretch}
use Rattle.chunk_store.specs.declared.buffers.Frame.{Frame}
use Rattle.chunk_store.specs.declared.stretches.Stretch.{Stretch}
use Rattle.chunk_store.proofs.BufferLemmas.{Chunks}
use Rattle.chunk_store.proofs.PickLemmas.{cells_from_length}
use Rattle.chunk_store.proofs.RowLemmas.{from_at}
use Rattle.chunk_store.proofs.TurnLemmas.{grown_joined, grown_once, there_joined, there_once, written_both}

pub cells_from_joined : (from done len : ℕ) (s : Shape) → cells_from from (done + len) s ≡ cells_from from done s ++ cells_from (from + done) len s
cells_from_joined from done len s = take-add done len (drop from (cells_of s)) ∙ ap (λ l. cells_from from done s ++ take len l) (drop-drop done from (cells_of s))

pub cells_from_split : (from done many : ℕ) (s : Shape) → done ≤ many → cells_from from many s ≡ cells_from from done s ++ cells_from (from + done) (many - done) s
cells_from_split from done many s few =
    let whole : many ≡ done + (many - done) = omega arith in
    ap (λ n. cells_from from n s) whole ∙ cells_from_joined from done (many - done) s

pub read_more : (f : List ℕ → List ℕ) (from done len : ℕ) (s : Shape) (out new : List ℕ) → out ≡ flat_map f (cells_from from done s) → new ≡ out ++ flat_map f (cells_from (from + done) len s) → new ≡ flat_map f (cells_from from (done + len) s)
read_more f from done len s out new before now =
    now ∙ ap (λ l. l ++ flat_map f (cells_from (from + done) len s)) before
    ∙ sym (flat_map-append f (cells_from from done s) (cells_from (from + done) len s))
    ∙ ap (flat_map f) (sym (cells_from_joined from done len s))

-- the chunk of the stretch is held, as those of all cells are
pub stretch_there : (m : Chunks) (f : Frame) (s : Shape) (from many done : ℕ) (t : Stretch) → AreThere m f (cells_from from many s) → done < many → from + many ≤ count_of s → IsStretch f.layout.chunk t (cells_from (from + done) t.len s) → has m t.index ≡ true
stretch_there m f s from many done t there low inside on =
    let few : done < length (cells_from from many s) = omega (arith, cells_from_length from many s inside, low) in
    let some : 0 < length (cells_from (from + done) t.len s) = omega (arith, on.some, on.many) in
    let none : from + done + 0 ≡ from + done = omega arith in
    let same : get_or (cells_from from many s) done [] ≡ get_or (cells_from (from + done) t.len s) 0 [] = from_at s from many done low ∙ ap (cell_of s) (sym none) ∙ sym (from_at s (from + done) t.len 0 (omega (arith, on.some))) in
    ap (has m) (sym (ap (λ x. quotients x f.layout.chunk) same ∙ (on.each 0 some).index)) ∙ there done few

pub written_more : (m n p : Chunks) (f : Frame) (s : Shape) (from many done len : ℕ) (bytes rest front : List ℕ) → from + many ≤ count_of s → done + len ≤ many → length bytes ≡ many * f.size → rest ≡ drop (done * f.size) bytes → front ≡ take (len * f.size) rest
    → IsWritten m n f (cells_from from done s) (take (done * f.size) bytes) → IsWritten n p f (cells_from (from + done) len s) front → IsWritten m p f (cells_from from (done + len) s) (take ((done + len) * f.size) bytes)
written_more m n p f s from many done len bytes rest front inside few whole rest_is front_is before now =
    let wide = mul-le done f.size many f.size (omega (arith, few)) (omega arith) in
    let size : length (take (done * f.size) bytes) ≡ length (cells_from from done s) * f.size = length-take-le (done * f.size) bytes (omega (arith, wide, whole)) ∙ ap (λ n. n * f.size) (cells_from_length from done s (omega (arith, inside, few))) in
    let sum : (done + len) * f.size ≡ done * f.size + len * f.size = omega arith in
    let joined : take (done * f.size) bytes ++ front ≡ take ((done + len) * f.size) bytes =
    ap (λ l. take (done * f.size) bytes ++ l) (front_is ∙ ap (take (len * f.size)) rest_is) ∙ sym (take-add (done * f.size) (len * f.size) bytes) ∙ ap (λ n. take n bytes) (sym sum) in
    let both = written_both m n p f (cells_from from done s) (cells_from (from + done) len s) (take (done * f.size) bytes) front size before now in
    subst (IsWritten m p f (cells_from from (done + len) s)) joined (subst (λ (ats : List (List ℕ)). IsWritten m p f ats (take (done * f.size) bytes ++ front)) (sym (cells_from_joined from done len s)) both)

-- the bytes that are left
pub rest_more : (size done len : ℕ) (bytes rest back : List ℕ) → rest ≡ drop (done * size) bytes → back ≡ drop (len * size) rest → back ≡ drop ((done + len) * size) bytes
rest_more size done len bytes rest back rest_is back_is =
    let sum : done * size + len * size ≡ (done + len) * size = omega arith in
    back_is ∙ ap (drop (len * size)) rest_is ∙ drop-drop (len * size) (done * size) bytes ∙ ap (λ n. drop n bytes) sum

pub rest_room : (size done len many : ℕ) (bytes rest : List ℕ) → done + len ≤ many → length bytes ≡ many * size → rest ≡ drop (done * size) bytes → len * size ≤ length rest
rest_room size done len many bytes rest few whole is =
    let wide = mul-le (done + len) size many size few (omega arith) in
    omega (arith, wide, whole, ap length is, length-drop (done * size) bytes)

-- ---- chunks come

module _ (m n p : Chunks) (f : Frame) (s : Shape) (from done : ℕ) (t : Stretch) (on : IsStretch f.layout.chunk t (cells_from (from + done) t.len s)) where
  each_here : (j : ℕ) → j < length (cells_from (from + done) t.len s) → quotients (get_or (cells_from (from + done) t.len s) j []) f.layout.chunk ≡ t.index
  each_here j low = (on.each j low).index

  pub grown_step : IsGrown m n f (cells_from from done s) → ((q : List ℕ) → length q ≡ length f.layout.chunk → bytes_at p f q ≡ bytes_at n f q) → AreFull p f
      → ((i : List ℕ) → (flag_at p i ≡ flag_at n i) ⊎ ((t.index ≡ i) × (flag_at n i ≡ None) × (flag_at p i ≡ Some false))) → IsGrown m p f (cells_from from (done + t.len) s)
  grown_step before same full noted =
      subst (IsGrown m p f) (sym (cells_from_joined from done t.len s))
      (grown_joined m n p f (cells_from from done s) (cells_from (from + done) t.len s) before (grown_once n p f (cells_from (from + done) t.len s) t.index (omega (arith, on.some, on.many)) each_here same full noted))

module _ {X : Type 0} (n p : BTreeMap (List ℕ) X) (f : Frame) (s : Shape) (from done : ℕ) (t : Stretch) (on : IsStretch f.layout.chunk t (cells_from (from + done) t.len s)) where
  pub there_step : AreThere n f (cells_from from done s) → ((i : List ℕ) → has n i ≡ true → has p i ≡ true) → has p t.index ≡ true → AreThere p f (cells_from from (done + t.len) s)
  there_step before more there =
      subst (AreThere p f) (sym (cells_from_joined from done t.len s))
      (there_joined p f (cells_from from done s) (cells_from (from + done) t.len s) (λ k low. more _ (before k low)) (there_once p f (cells_from (from + done) t.len s) t.index (λ j low. (on.each j low).index) there))
