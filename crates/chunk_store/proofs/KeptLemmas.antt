-- The map of a plain array and what callers see.
use Rattle.std.proofs.Common.{◌≡◌, ℕ, suc, ◌∷◌, Bool, bytes_eq, option_map, IfSome, true, false, cond, is_some, List, [], length, Option, Some, None, refl, sym, ap, subst, ◌∙◌, ◌⊎◌, inl, inr, ⊎_elim}
use Rattle.std.specs.Option.{option_map_or}
use Rattle.std.specs.List.{AllZip, flat_map}
use Rattle.std.specs.BTreeMap.{BTreeMap}
use Rattle.std.specs.Map.{lookup}
use Rattle.std.specs.declared.vec.Vec.{Vec}
use Rattle.std.specs.declared.alloc.Global.{Global}
use Rattle.std.proofs.lemmas.Bool.{cases_Bool}
use Rattle.std.proofs.lemmas.List.{length-map}
use Rattle.hdf_types.specs.Elems.{Elem}
use Rattle.hdf_types.specs.Reading.{size_of}
use Rattle.hdf_types.specs.Types.{IsSoundType}
use Rattle.hdf_values.specs.Elements.{IsEncoded, bytes_of, zero_of}
use Rattle.hdf_values.specs.Nested.{AreEncoded}
use Rattle.hdf_values.proofs.EncodedLemmas.{length-encoded}
use Rattle.hdf_values.proofs.ElementLemmas.{zero_fits}
use Rattle.shapes.specs.declared.Shape.{Shape}
use Rattle.shapes.specs.declared.Shape.TheVariants.{Null, Scalar, Simple}
use Rattle.shapes.specs.Shapes.{IsSound, LiesIn, lies_in, IsWithin, IsResized, cells_of, dims_of}
use Rattle.chunk_layout.specs.Layouts.{Fits}
use Rattle.chunk_store.specs.Cells.{find_in, has, value_in}
use Rattle.shapes.proofs.InsideLemmas.{lies_told, lies_read}
use Rattle.chunk_store.specs.declared.picks.Picks.{Picks}
use Rattle.chunk_store.specs.Grids.{Grid, tabulated, value_at, reads, written, writes, with_dims, resized_to, blank_of, all_fill, IsWhole}
use Rattle.chunk_store.specs.Picked.{picked, PicksIn}
use Rattle.chunk_store.specs.Kept.{IsKept, given_fill}
use Rattle.shapes.proofs.CellLemmas.{cells_length}
use Rattle.chunk_store.proofs.PickLemmas.{picked_inside}
use Rattle.chunk_store.proofs.GridLemmas.{value-tabulated, tabulated_same, reads_same}
use Rattle.chunk_store.proofs.WriteLemmas.{written_on, written_each, read_encoded}

abbrev pub Cells : Type 0
Cells = BTreeMap (List ℕ) (Vec ℕ Global)

-- ---- what callers see

pub read_view : (h : Grid) (e : Elem) (s : Shape) (c : List ℕ) (fill : Option (List ℕ)) (f : List ℕ → List ℕ) → tabulated e s c fill f ≡ h → (p : Picks) → PicksIn p s → flat_map f (picked p s) ≡ reads h (picked p h.shape)
read_view h e s c fill f is p on =
    subst (λ (x : Grid). flat_map f (picked p s) ≡ reads x (picked p x.shape)) is
    (reads_same (λ at. LiesIn at s) f (value_at (tabulated e s c fill f)) (λ at lies. sym (value-tabulated e s c fill f at lies)) (picked p s) (picked_inside p s on))

pub write_view : (h : Grid) (e : Elem) (s : Shape) (c : List ℕ) (fill : Option (List ℕ)) (f g : List ℕ → List ℕ) (size : ℕ) (p : Picks) (bs : List ℕ) → tabulated e s c fill f ≡ h → size ≡ size_of e
    → ((q : List ℕ) → LiesIn q s → g q ≡ written f size (picked p s) bs q) → tabulated e s c fill g ≡ writes h (picked p h.shape) bs
write_view h e s c fill f g size p bs is sized each =
    subst (λ (x : Grid). tabulated e s c fill g ≡ writes x (picked p x.shape) bs) is
    (tabulated_same e s c fill g (written (value_at (tabulated e s c fill f)) (size_of e) (picked p s) bs)
    (λ at lies. each at lies ∙ ap (λ n. written f n (picked p s) bs at) sized
    ∙ written_on (λ q. LiesIn q s) f (value_at (tabulated e s c fill f)) (λ q on. sym (value-tabulated e s c fill f q on)) (size_of e) (picked p s) bs at lies))

pub same_view : (h : Grid) (e : Elem) (s : Shape) (c : List ℕ) (fill : Option (List ℕ)) (f g : List ℕ → List ℕ) → tabulated e s c fill f ≡ h → ((q : List ℕ) → LiesIn q s → g q ≡ f q) → tabulated e s c fill g ≡ h
same_view h e s c fill f g is each = tabulated_same e s c fill g f each ∙ is

-- ---- what the map keeps

some_size : (blank : List ℕ) (size : ℕ) (o : Option (Vec ℕ Global)) → is_some o ≡ true → length (option_map_or (λ v. v.items) o blank) ≡ size → length (option_map_or (λ v. v.items) o []) ≡ size
some_size blank size None h k = absurd (let no_key : false ≡ true = h in cc)
some_size blank size (Some v) h k = k

pub kept_new : (e : Elem) (s : Shape) (c : List ℕ) (fill : Option (Vec ℕ Global)) (given : Bool) (blank : List ℕ) (size : ℕ) (m : Cells)
    → IsSoundType e → IsSound s → Fits (size_of e) (dims_of s) c → IfSome fill (λ v. IsEncoded e v.items) → given ≡ is_some fill → blank ≡ blank_of e (option_map (λ v. v.items) fill) → size ≡ size_of e → m.entries ≡ []
    → IsKept e s c given blank size m
kept_new e s c None given blank size m kind shape layout enc is same sized empty =
    let zero_enc : IsEncoded e blank = (zero_of e, zero_fits e kind.formed, sym same) in
    record {
      kind = kind;
      shape = shape;
      layout = layout;
      sized = sized;
      unwritten = λ h. same;
      blank_encoded = zero_enc;
      encoded = λ q. subst (λ (es : List (List ℕ × Vec ℕ Global)). IsEncoded e (option_map_or (λ v. v.items) (lookup (bytes_eq q) es) blank)) (sym empty) zero_enc;
      inside = λ q there. absurd (let none : false ≡ true = sym (ap (λ es. is_some (lookup (bytes_eq q) es)) empty) ∙ there in cc);
    }
kept_new e s c (Some v) given blank size m kind shape layout enc is same sized empty =
    let blank_enc : IsEncoded e blank = subst (IsEncoded e) (sym same) enc in
    record {
      kind = kind;
      shape = shape;
      layout = layout;
      sized = sized;
      unwritten = λ h. absurd (let both : true ≡ false = sym is ∙ h in cc);
      blank_encoded = blank_enc;
      encoded = λ q. subst (λ (es : List (List ℕ × Vec ℕ Global)). IsEncoded e (option_map_or (λ v. v.items) (lookup (bytes_eq q) es) blank)) (sym empty) blank_enc;
      inside = λ q there. absurd (let none : false ≡ true = sym (ap (λ es. is_some (lookup (bytes_eq q) es)) empty) ∙ there in cc);
    }

pub given_blank : (e : Elem) (given : Bool) (blank : List ℕ) → (given ≡ false → blank ≡ bytes_of e (zero_of e)) → blank ≡ blank_of e (given_fill given blank)
given_blank e true blank h = refl
given_blank e false blank h = h refl

-- the fill that was passed is the one that is kept
pub given_same : (e : Elem) (fill : Option (Vec ℕ Global)) (given : Bool) (blank : List ℕ) → given ≡ is_some fill → blank ≡ blank_of e (option_map (λ v. v.items) fill) → given_fill given blank ≡ option_map (λ v. v.items) fill
given_same e None given blank is same = ap (λ b. given_fill b blank) is
given_same e (Some v) given blank is same = ap (λ b. given_fill b blank) is ∙ ap (λ bs. Some bs) same

pub new_view : (e : Elem) (s : Shape) (c : List ℕ) (fill : Option (Vec ℕ Global)) (given : Bool) (blank : List ℕ) (m : Cells) → given ≡ is_some fill → blank ≡ blank_of e (option_map (λ v. v.items) fill) → m.entries ≡ []
    → tabulated e s c (given_fill given blank) (value_in m blank) ≡ all_fill e s c (option_map (λ v. v.items) fill)
new_view e s c fill given blank m is same empty =
    ap (λ f. tabulated e s c f (value_in m blank)) (given_same e fill given blank is same)
    ∙ tabulated_same e s c (option_map (λ v. v.items) fill) (value_in m blank) (λ at. blank_of e (option_map (λ v. v.items) fill))
    (λ at lies. ap (λ es. option_map_or (λ v. v.items) (lookup (bytes_eq at) es) blank) empty ∙ same)

-- ---- other dims

pub resized_is : (s t : Shape) (dims : List ℕ) → IsResized s dims t → t ≡ with_dims s dims
resized_is Null t dims h = absurd h
resized_is Scalar t dims h = absurd h
resized_is (Simple old limits) t dims h = h.0

zip_length : (xs ys : List ℕ) → AllZip IsWithin xs ys → length xs ≡ length ys
zip_length [] [] h = refl
zip_length [] (y ∷ ys) h = absurd h
zip_length (x ∷ xs) [] h = absurd h
zip_length (x ∷ xs) (y ∷ ys) h = ap suc (zip_length xs ys h.1)

pub same_rank : (s t : Shape) (dims : List ℕ) → IsSound s → IsResized s dims t → length (dims_of s) ≡ length (dims_of t)
same_rank Null t dims h k = absurd k
same_rank Scalar t dims h k = absurd k
same_rank (Simple old limits) t dims h k = zip_length old limits h.fitting.within ∙ sym (zip_length dims limits k.1) ∙ ap (λ x. length (dims_of x)) (sym k.0)

pub new_rank : (s t : Shape) (dims : List ℕ) → IsSound s → IsResized s dims t → length dims ≡ length (dims_of s)
new_rank Null t dims h k = absurd k
new_rank Scalar t dims h k = absurd k
new_rank (Simple old limits) t dims h k = sym (same_rank (Simple old limits) t dims h k ∙ ap (λ x. length (dims_of x)) k.0)

chosen_value : (blank : List ℕ) (b : Bool) (o : Option (Vec ℕ Global)) → option_map_or (λ v. v.items) (cond b o None) blank ≡ cond b (option_map_or (λ v. v.items) o blank) blank
chosen_value blank true o = refl
chosen_value blank false o = refl

pub resized_value : (m n : Cells) (blank : List ℕ) (p : List ℕ → Bool) → ((q : List ℕ) → find_in n q ≡ cond (p q) (find_in m q) None) → (q : List ℕ) → value_in n blank q ≡ cond (p q) (value_in m blank q) blank
resized_value m n blank p h q = ap (λ o. option_map_or (λ v. v.items) o blank) (h q) ∙ chosen_value blank (p q) (find_in m q)

pub absent_value : (blank : List ℕ) (o : Option (Vec ℕ Global)) → (is_some o ≡ true → ⊥) → option_map_or (λ v. v.items) o blank ≡ blank
absent_value blank None h = refl
absent_value blank (Some v) h = absurd (h refl)

chosen_encoded : (e : Elem) (b : Bool) (xs ys : List ℕ) → IsEncoded e xs → IsEncoded e ys → IsEncoded e (cond b xs ys)
chosen_encoded e true xs ys h k = h
chosen_encoded e false xs ys h k = k

chosen_some : (b : Bool) (o : Option (Vec ℕ Global)) → is_some (cond b o None) ≡ true → b ≡ true
chosen_some true o h = refl
chosen_some false o h = h

pub kept_resized : (e : Elem) (s t : Shape) (c : List ℕ) (given : Bool) (blank : List ℕ) (size : ℕ) (m n : Cells) (dims : List ℕ) → IsKept e s c given blank size m → IsResized s dims t → IsSound t
    → ((q : List ℕ) → find_in n q ≡ cond (lies_in q t) (find_in m q) None) → IsKept e t c given blank size n
kept_resized e s t c given blank size m n dims kept re sound h = record {
  kind = kept.kind;
  shape = sound;
  layout = record { rank = kept.layout.rank ∙ same_rank s t dims kept.shape re; each_dim = kept.layout.each_dim; bytes = kept.layout.bytes };
  sized = kept.sized;
  unwritten = kept.unwritten;
  blank_encoded = kept.blank_encoded;
  encoded = λ q. subst (IsEncoded e) (sym (resized_value m n blank (λ p. lies_in p t) h q)) (chosen_encoded e (lies_in q t) (value_in m blank q) blank (kept.encoded q) kept.blank_encoded);
  inside = λ q there. lies_told q t (chosen_some (lies_in q t) (find_in m q) (sym (ap is_some (h q)) ∙ there));
}

-- what the map gives to a cell outside the shape is the fill
pub absent_blank : (e : Elem) (s : Shape) (c : List ℕ) (given : Bool) (blank : List ℕ) (size : ℕ) (m : Cells) → IsKept e s c given blank size m → (at : List ℕ) → lies_in at s ≡ false → value_in m blank at ≡ blank
absent_blank e s c given blank size m kept at out =
    absent_value blank (find_in m at) (λ there. let both : true ≡ false = sym (lies_read at s (kept.inside at there)) ∙ out in cc)

-- cells that keep what they had, or have the blank where they are new
pub resized_same : (e : Elem) (s t : Shape) (c : List ℕ) (given : Bool) (blank dims : List ℕ) (f g : List ℕ → List ℕ) → blank ≡ blank_of e (given_fill given blank) → IsResized s dims t → ((q : List ℕ) → LiesIn q t → g q ≡ f q)
    → ((q : List ℕ) → LiesIn q t → lies_in q s ≡ false → f q ≡ blank) → tabulated e t c (given_fill given blank) g ≡ resized_to (tabulated e s c (given_fill given blank) f) dims
resized_same e s t c given blank dims f g filling re same new =
    let old = tabulated e s c (given_fill given blank) f in
    ap (λ x. tabulated e x c (given_fill given blank) g) (resized_is s t dims re)
    ∙ tabulated_same e (with_dims s dims) c (given_fill given blank) g (λ at. cond (lies_in at s) (value_at (tabulated e s c (given_fill given blank) f) at) (blank_of e (given_fill given blank))) (λ at lies.
    let on = subst (λ (x : Shape). LiesIn at x) (sym (resized_is s t dims re)) lies in
    elim (cases_Bool (lies_in at s)) [
      | inl inside ↦
          same at on ∙ sym (value-tabulated e s c (given_fill given blank) f at (lies_told at s inside))
          ∙ sym (ap (λ b. cond b (value_at old at) (blank_of e (given_fill given blank))) inside)
      | inr outside ↦ same at on ∙ new at on outside ∙ filling ∙ sym (ap (λ b. cond b (value_at old at) (blank_of e (given_fill given blank))) outside)
    ])

pub resized_view : (a : Grid) (e : Elem) (s t : Shape) (c : List ℕ) (given : Bool) (blank : List ℕ) (size : ℕ) (m n : Cells) (dims : List ℕ) → IsKept e s c given blank size m → IsResized s dims t
    → ((q : List ℕ) → find_in n q ≡ cond (lies_in q t) (find_in m q) None) → tabulated e s c (given_fill given blank) (value_in m blank) ≡ a
    → tabulated e t c (given_fill given blank) (value_in n blank) ≡ resized_to a dims
resized_view a e s t c given blank size m n dims kept re h is =
    subst (λ (x : Grid). tabulated e t c (given_fill given blank) (value_in n blank) ≡ resized_to x dims) is
    (resized_same e s t c given blank dims (value_in m blank) (value_in n blank) (given_blank e given blank kept.unwritten) re
    (λ at lies. resized_value m n blank (λ p. lies_in p t) h at ∙ ap (λ b. cond b (value_in m blank at) blank) (lies_read at t lies))
    (λ at lies out. absent_blank e s c given blank size m kept at out))

module _ (e : Elem) (s : Shape) (c : List ℕ) (given : Bool) (blank : List ℕ) (size : ℕ) (m : Cells) (kept : IsKept e s c given blank size m) where
  -- no value changes, and each new key lies in the shape
  pub kept_grown : (n : Cells) → ((q : List ℕ) → value_in n blank q ≡ value_in m blank q) → ((q : List ℕ) → has n q ≡ true → LiesIn q s ⊎ (has m q ≡ true)) → IsKept e s c given blank size n
  kept_grown n same few = record {
    kind = kept.kind;
    shape = kept.shape;
    layout = kept.layout;
    sized = kept.sized;
    unwritten = kept.unwritten;
    blank_encoded = kept.blank_encoded;
    encoded = λ q. subst (IsEncoded e) (sym (same q)) (kept.encoded q);
    inside = λ q there. ⊎_elim (λ lies. lies) (λ old. kept.inside q old) (few q there);
  }

  pub kept_sizes : (q : List ℕ) → has m q ≡ true → length (value_in m [] q) ≡ size
  kept_sizes q there = some_size blank size (find_in m q) there (length-encoded e (value_in m blank q) kept.kind.formed (kept.encoded q) ∙ sym kept.sized)

  pub kept_written : (n : Cells) (ats : List (List ℕ)) (bs : List ℕ) → ((q : List ℕ) → value_in n blank q ≡ written (value_in m blank) size ats bs q) → AreEncoded e (length ats) bs
      → ((q : List ℕ) → has n q ≡ has m q) → IsKept e s c given blank size n
  kept_written n ats bs each enc keys = record {
    kind = kept.kind;
    shape = kept.shape;
    layout = kept.layout;
    sized = kept.sized;
    unwritten = kept.unwritten;
    blank_encoded = kept.blank_encoded;
    encoded = λ q. subst (IsEncoded e) (sym (each q ∙ ap (λ k. written (value_in m blank) k ats bs q) kept.sized)) (written_each (λ p. Unit {0}) (IsEncoded e) (size_of e) ats (value_in m blank) bs (λ p on. kept.encoded p) enc.each q tt);
    inside = λ q there. kept.inside q (sym (keys q) ∙ there);
  }

  pub kept_read : (p : Picks) → AreEncoded e (length (picked p s)) (flat_map (value_in m blank) (picked p s))
  kept_read p = read_encoded e (value_in m blank) kept.kind.formed kept.encoded (picked p s)

pub whole_of : (e : Elem) (s : Shape) (c : List ℕ) (given : Bool) (blank : List ℕ) (f : List ℕ → List ℕ) → IsSoundType e → IsSound s → Fits (size_of e) (dims_of s) c → IsEncoded e blank → blank ≡ blank_of e (given_fill given blank)
    → ((at : List ℕ) → LiesIn at s → IsEncoded e (f at)) → IsWhole (tabulated e s c (given_fill given blank) f)
whole_of e s c given blank f kind sound layout enc filling each = record {
  kind = kind;
  shape = sound;
  rank = layout.rank;
  dims = layout.each_dim;
  values = λ at lies. subst (IsEncoded e) (sym (value-tabulated e s c (given_fill given blank) f at lies)) (each at lies);
  blank = subst (IsEncoded e) filling enc;
  table = length-map (cells_of s) f ∙ cells_length s;
}

pub whole_view : (h : Grid) (e : Elem) (s : Shape) (c : List ℕ) (given : Bool) (blank : List ℕ) (size : ℕ) (m : Cells) → IsKept e s c given blank size m → tabulated e s c (given_fill given blank) (value_in m blank) ≡ h → IsWhole h
whole_view h e s c given blank size m kept is =
    subst IsWhole is (whole_of e s c given blank (value_in m blank) kept.kind kept.shape kept.layout kept.blank_encoded (given_blank e given blank kept.unwritten) (λ at lies. kept.encoded at))
