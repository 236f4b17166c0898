-- The tests in order find the shape that the grammar relates to the trees, and no other.
use Rattle.std.proofs.Common.{◌≡◌, ℕ, zero, suc, ◌≤◌, ◌&&◌, inl, inr, true, false, List, [], ◌∷◌, map, length, All, Option, Some, None, option_and_then, MatchOption, Result, Ok, Err, IfOk, IfSome, nat_le, nat_eq, codes, refl, sym, ap, subst, ◌∙◌, arith}
use Rattle.std.specs.Str.{bytes_eq}
use Rattle.std.proofs.lemmas.Bool.{leb-true, le-leb, eqb-true, eq-eqb, and_parts}
use Rattle.std.proofs.lemmas.List.Elements.{All-nil, All-cons, All-head, All-tail}
use Rattle.std.proofs.lemmas.Option.{same_Some}
use Rattle.std.proofs.lemmas.Bool.Decides.{nat_tests}
use Rattle.serde_json.specs.Data.{Data, null, boolean, number, string, array, object}
use Rattle.serde_json.specs.Find.{get, as_str}
use Rattle.json_trees.specs.Trees.{list_of}
use Rattle.std.specs.List.{AllZip}
use Rattle.json_trees.proofs.TreeLemmas.{and_then_some, length-AllZip, text_of}
use Rattle.json_trees.proofs.TableLemmas.{same_bytes}
use Rattle.json_trees.proofs.FaultLemmas.{chosen, test_ok}
use Rattle.shapes.specs.declared.Shape.{Shape}
use Rattle.shapes.specs.declared.Shape.TheVariants.{Null, Scalar, Simple}
use Rattle.shapes.specs.declared.ShapeFault.{ShapeFault}
use Rattle.shapes.specs.declared.ShapeFault.TheVariants.{Rank, TooLarge}
use Rattle.shapes.specs.declared.TheConstants.{MAX_RANK, MAX_EXTENT, MAX_CELLS}
use Rattle.shapes.specs.RowMajor.{room_of}
use Rattle.shapes.specs.Extents.{IsExtent, IsLimit, SpellsList, SpellsDims, extents_in, limits_in, dims_in}
use Rattle.shapes.specs.Shapes.{IsWithin, IsFitting, IsSound, HasWord, HasDims, SpellsSimple, limits_tree, IsShape, IsResized, is_over, first_over, over_or_room, fitted_of, grid_of, limited_of, simple_of, plain_of, word_of, worded_of, shape_of, resized_of, IsDims, dims_of}
use Rattle.shapes.specs.Spelled.{few_of}
use Rattle.shapes.specs.Printed.{limit_tree, numbers_tree, shape_tree}
use Rattle.shapes.specs.declared.printing.Form.{Form}
use Rattle.shapes.specs.declared.printing.Form.TheVariants.{Rest, Document}
use Rattle.serde_json.specs.View.{items_of}
use Rattle.shapes.proofs.ExtentLemmas.{extents_told, extents_read, limits_told, limits_read, dims_told, dims_read}

-- ---- one dim and its limit

within_told : (n limit : ℕ) → is_over n limit ≡ false → IsWithin n limit
within_told n limit e = grind (arith, nat_tests)

within_read : (n limit : ℕ) → IsWithin n limit → is_over n limit ≡ false
within_read n limit h = grind (arith, nat_tests)

none_over : (k : ℕ) (ns ls : List ℕ) → length ns ≡ length ls → first_over k ns ls ≡ None → AllZip IsWithin ns ls
none_over k [] [] same e = tt
none_over k [] (l ∷ ls) same e = absurd (omega (arith, same))
none_over k (n ∷ ns) [] same e = absurd (omega (arith, same))
none_over k (n ∷ ns) (l ∷ ls) same e = elim (chosen (is_over n l) (Some k) (first_over (suc k) ns ls) None e) [
  | inl p ↦ cc
  | inr p ↦ (within_told n l p.0, none_over (suc k) ns ls (omega (arith, same)) p.1)
]

over_none : (k : ℕ) (ns ls : List ℕ) → AllZip IsWithin ns ls → first_over k ns ls ≡ None
over_none k [] [] h = refl
over_none k [] (l ∷ ls) h = absurd h
over_none k (n ∷ ns) [] h = absurd h
over_none k (n ∷ ns) (l ∷ ls) h = rw (within_read n l h.0) (over_none (suc k) ns ls h.1)

-- ---- dims and limits

over_or_room_ok : (o : Option ℕ) (dims limits : List ℕ) (s : Shape) → over_or_room o dims limits ≡ Ok s → (o ≡ None) × (s ≡ Simple dims limits) × (room_of dims ≤ MAX_CELLS)
unfolding over_or_room
over_or_room_ok (Some axis) dims limits s e = cc
over_or_room_ok None dims limits s e =
    let passed = test_ok (nat_le (room_of dims) MAX_CELLS) (Ok (Simple dims limits)) TooLarge s e in
    (refl, cc, leb-true (room_of dims) MAX_CELLS passed.0)

pub fitted_ok : (dims limits : List ℕ) (s : Shape) → fitted_of dims limits ≡ Ok s → (s ≡ Simple dims limits) × AllZip IsWithin dims limits × (room_of dims ≤ MAX_CELLS)
unfolding fitted_of
fitted_ok dims limits s e =
    let passed = test_ok (nat_eq (length dims) (length limits)) (over_or_room (first_over 0 dims limits) dims limits) Rank s e in
    let rest = over_or_room_ok (first_over 0 dims limits) dims limits s passed.1 in
    (rest.1, none_over 0 dims limits (eqb-true (length dims) (length limits) passed.0) rest.0, rest.2)

pub ok_fitted : (dims limits : List ℕ) → AllZip IsWithin dims limits → room_of dims ≤ MAX_CELLS → fitted_of dims limits ≡ Ok (Simple dims limits)
unfolding fitted_of over_or_room
ok_fitted dims limits h k =
    let same = eq-eqb (length dims) (length limits) (sym (length-AllZip IsWithin dims limits h)) in
    rw (same, over_none 0 dims limits h, le-leb (room_of dims) MAX_CELLS k)

pub grid_ok : (dims limits : List ℕ) (s : Shape) → grid_of dims limits ≡ Ok s → (s ≡ Simple dims limits) × IsFitting dims limits
unfolding grid_of
grid_ok dims limits s e =
    let passed = test_ok (nat_le 1 (length dims) && nat_le (length dims) MAX_RANK) (fitted_of dims limits) Rank s e in
    let ranked = and_parts (nat_le 1 (length dims)) (nat_le (length dims) MAX_RANK) passed.0 in
    let rest = fitted_ok dims limits s passed.1 in
    (rest.0, record { some_axis = leb-true 1 (length dims) ranked.0; few_axes = leb-true (length dims) MAX_RANK ranked.1; within = rest.1; room = rest.2 })

pub ok_grid : (dims limits : List ℕ) → IsFitting dims limits → grid_of dims limits ≡ Ok (Simple dims limits)
unfolding grid_of
ok_grid dims limits h = rw (le-leb 1 (length dims) h.some_axis, le-leb (length dims) MAX_RANK h.few_axes) (ok_fitted dims limits h.within h.room)

-- ---- simple shapes

-- the dims and limits of a simple shape
pub record SimpleParts (o : Option (List ℕ)) (limits : Option Data) (s : Shape) : Type 0 where
  pub dims : List ℕ
  pub maxdims : List ℕ
  pub read : o ≡ Some dims
  pub shape : s ≡ Simple dims maxdims
  pub limited : MatchOption limits (maxdims ≡ dims) (λ d. SpellsList IsLimit d maxdims)
  pub fitting : IsFitting dims maxdims

limited_ok : (dims : List ℕ) (o : Option (List ℕ)) (d : Data) (s : Shape) → limits_in d ≡ o → limited_of dims o ≡ Ok s → SimpleParts (Some dims) (Some d) s
unfolding limited_of
limited_ok dims None d s is e = cc
limited_ok dims (Some ls) d s is e =
    let parts = grid_ok dims ls s e in
    record { dims = dims; maxdims = ls; read = refl; shape = parts.0; limited = limits_told d ls is; fitting = parts.1 }

simple_ok : (o : Option (List ℕ)) (limits : Option Data) (s : Shape) → simple_of o limits ≡ Ok s → SimpleParts o limits s
unfolding simple_of
simple_ok None limits s e = cc
simple_ok (Some dims) None s e =
    let parts = grid_ok dims dims s e in
    record { dims = dims; maxdims = dims; read = refl; shape = parts.0; limited = refl; fitting = parts.1 }
simple_ok (Some dims) (Some d) s e = limited_ok dims (limits_in d) d s refl e

ok_simple : (dims maxdims : List ℕ) (limits : Option Data) → MatchOption limits (maxdims ≡ dims) (λ d. SpellsList IsLimit d maxdims) → IsFitting dims maxdims → simple_of (Some dims) limits ≡ Ok (Simple dims maxdims)
unfolding simple_of limited_of
ok_simple dims maxdims None same h = ap (grid_of dims) (sym same) ∙ ok_grid dims maxdims h
ok_simple dims maxdims (Some d) spells h = rw (limits_read d maxdims spells) (ok_grid dims maxdims h)

-- ---- words

no_word : (d : Data) (dims : List ℕ) → SpellsDims d dims → word_of d ≡ None
no_word d dims (inl h) = ap word_of h.1
no_word d dims (inr h) = ap word_of h.1.0

has_word : (word : List ℕ) (d : Data) → word_of d ≡ Some word → HasWord word d
has_word word null e = cc
has_word word (boolean b) e = cc
has_word word (number n) e = cc
has_word word (string s) e = inl (ap string (same_Some s word e))
has_word word (array ds) e = cc
has_word word (object ms) e =
    let found = and_then_some as_str (get (codes "class") (object ms)) word e in
    inr (found.1 ∙ ap Some (text_of found.0 word found.2))

read_word : (word : List ℕ) (d : Data) → HasWord word d → word_of d ≡ Some word
read_word word d (inl h) = ap word_of h
read_word word null (inr h) = cc
read_word word (boolean b) (inr h) = cc
read_word word (number n) (inr h) = cc
read_word word (string s) (inr h) = cc
read_word word (array ds) (inr h) = cc
read_word word (object ms) (inr h) = ap (option_and_then as_str) h

-- ---- the shape

plain_ok : (shape s : Shape) (limits : Option Data) → plain_of shape limits ≡ Ok s → (s ≡ shape) × (limits ≡ None)
plain_ok shape s None e = (cc, refl)
plain_ok shape s (Some d) e = cc

none_given : (limits : Option Data) → limits ≡ None → limits_tree None limits ≡ None
none_given None e = refl
none_given (Some d) e = cc

not_given : (limits : Option Data) → limits_tree None limits ≡ None → limits ≡ None
not_given None e = refl
not_given (Some d) e = cc

with_dims : (shape limits : Option Data) (d : Data) (o : Option (List ℕ)) (s : Shape) → shape ≡ Some d → ((ns : List ℕ) → o ≡ Some ns → HasDims d ns) → SimpleParts o (limits_tree shape limits) s → IsShape shape limits s
with_dims shape limits d o s is has parts =
    let P = IsShape shape limits in
    subst P (sym parts.shape) ((d, is, has parts.dims parts.read), parts.limited, parts.fitting)

inner_dims : (d : Data) (ns : List ℕ) → HasWord (codes "H5S_SIMPLE") d → option_and_then extents_in (get (codes "dims") d) ≡ Some ns → SpellsSimple d ns
inner_dims d ns (inl h) e = cc (ap (get (codes "dims")) h)
inner_dims d ns (inr h) e =
    let found = and_then_some extents_in (get (codes "dims") d) ns e in
    (h, (found.0, found.1, extents_told found.0 ns found.2))

worded_ok : (o : Option (List ℕ)) (d : Data) (limits : Option Data) (s : Shape) → word_of d ≡ o → worded_of o d (limits_tree (Some d) limits) ≡ Ok s → IsShape (Some d) limits s
unfolding worded_of
worded_ok None d limits s is e = with_dims (Some d) limits d (dims_in d) s refl (λ ns k. inl (dims_told d ns k)) (simple_ok (dims_in d) (limits_tree (Some d) limits) s e)
worded_ok (Some w) d limits s is e = elim (chosen (bytes_eq w (codes "H5S_NULL")) _ _ _ e) [
  | inl p ↦ plain_null p.0 (plain_ok Null s (limits_tree (Some d) limits) p.1)
  | inr p ↦ elim (chosen (bytes_eq w (codes "H5S_SCALAR")) _ _ _ p.1) [
    | inl q ↦ plain_scalar q.0 (plain_ok Scalar s (limits_tree (Some d) limits) q.1)
    | inr q ↦ elim (chosen (bytes_eq w (codes "H5S_SIMPLE")) _ _ _ q.1) [
      | inl r ↦ with_dims (Some d) limits d (option_and_then extents_in (get (codes "dims") d)) s refl (λ ns k. inr (inner_dims d ns (has_word (codes "H5S_SIMPLE") d (is ∙ ap Some (same_bytes w (codes "H5S_SIMPLE") r.0))) k)) (simple_ok _ (limits_tree (Some d) limits) s r.1)
      | inr r ↦ cc
    ]
  ]
]
  where
    plain_null : bytes_eq w (codes "H5S_NULL") ≡ true → (s ≡ Null) × (limits_tree (Some d) limits ≡ None) → IsShape (Some d) limits s
    plain_null here parts =
        let P = IsShape (Some d) limits in
        subst P (sym parts.0) ((d, refl, has_word (codes "H5S_NULL") d (is ∙ ap Some (same_bytes w (codes "H5S_NULL") here))), parts.1)

    plain_scalar : bytes_eq w (codes "H5S_SCALAR") ≡ true → (s ≡ Scalar) × (limits_tree (Some d) limits ≡ None) → IsShape (Some d) limits s
    plain_scalar here parts =
        let P = IsShape (Some d) limits in
        subst P (sym parts.0) (inr (d, refl, has_word (codes "H5S_SCALAR") d (is ∙ ap Some (same_bytes w (codes "H5S_SCALAR") here))), parts.1)

pub shape_told : (shape limits : Option Data) (s : Shape) → shape_of shape limits ≡ Ok s → IsShape shape limits s
unfolding shape_of
shape_told None limits s e =
    let parts = plain_ok Scalar s limits e in
    let P = IsShape None limits in
    subst P (sym parts.0) (inl refl, none_given limits parts.1)
shape_told (Some d) limits s e = worded_ok (word_of d) d limits s refl e

read_plain : (d : Data) (limits : Option Data) (s : Shape) (w : List ℕ) → HasWord w d → limits_tree (Some d) limits ≡ None → worded_of (Some w) d None ≡ Ok s → shape_of (Some d) limits ≡ Ok s
unfolding shape_of
read_plain d limits s w h none e = rw (read_word w d h, none) e

read_dims : (d : Data) (limits : Option Data) (dims maxdims : List ℕ) → HasDims d dims → MatchOption (limits_tree (Some d) limits) (maxdims ≡ dims) (λ t. SpellsList IsLimit t maxdims) → IsFitting dims maxdims → shape_of (Some d) limits ≡ Ok (Simple dims maxdims)
unfolding shape_of worded_of
read_dims d limits dims maxdims (inl h) limited fitting = rw (no_word d dims h, dims_read d dims h) (ok_simple dims maxdims (limits_tree (Some d) limits) limited fitting)
read_dims d limits dims maxdims (inr h) limited fitting =
    let inner : option_and_then extents_in (get (codes "dims") d) ≡ Some dims = ap (option_and_then extents_in) h.1.1 ∙ extents_read h.1.0 dims h.1.2 in
    rw (read_word (codes "H5S_SIMPLE") d (inr h.0), inner) (ok_simple dims maxdims (limits_tree (Some d) limits) limited fitting)

plain_null : (d : Data) → worded_of (Some (codes "H5S_NULL")) d None ≡ Ok Null
unfolding worded_of
plain_null d = refl

plain_scalar : (d : Data) → worded_of (Some (codes "H5S_SCALAR")) d None ≡ Ok Scalar
unfolding worded_of
plain_scalar d = refl

scalar_read : (limits : Option Data) → limits_tree None limits ≡ None → shape_of None limits ≡ Ok Scalar
unfolding shape_of
scalar_read limits none = ap (plain_of Scalar) (not_given limits none)

pub shape_read : (shape limits : Option Data) (s : Shape) → IsShape shape limits s → shape_of shape limits ≡ Ok s
shape_read shape limits Null h =
    let none = ap (λ t. limits_tree t limits) (sym h.0.1) ∙ h.1 in
    ap (λ t. shape_of t limits) h.0.1 ∙ read_plain h.0.0 limits Null (codes "H5S_NULL") h.0.2 none (plain_null h.0.0)
shape_read shape limits Scalar (inl absent, none) = ap (λ t. shape_of t limits) absent ∙ scalar_read limits (ap (λ t. limits_tree t limits) (sym absent) ∙ none)
shape_read shape limits Scalar (inr h, none) = ap (λ t. shape_of t limits) h.1 ∙ read_plain h.0 limits Scalar (codes "H5S_SCALAR") h.2 (ap (λ t. limits_tree t limits) (sym h.1) ∙ none) (plain_scalar h.0)
shape_read shape limits (Simple dims maxdims) h =
    let P = λ (t : Option Data). MatchOption (limits_tree t limits) (maxdims ≡ dims) (λ d. SpellsList IsLimit d maxdims) in
    ap (λ t. shape_of t limits) h.0.1 ∙ read_dims h.0.0 limits dims maxdims h.0.2 (subst P h.0.1 h.1) h.2

-- ---- what is read is sound

all_small : (R : Data → ℕ → Type 0) → ((d : Data) (n : ℕ) → R d n → n ≤ MAX_EXTENT) → (ds : List Data) (ns : List ℕ) → AllZip R ds ns → All (λ n. n ≤ MAX_EXTENT) ns
all_small R each [] [] h = All-nil (λ n. n ≤ MAX_EXTENT)
all_small R each [] (n ∷ ns) h = absurd h
all_small R each (d ∷ ds) [] h = absurd h
all_small R each (d ∷ ds) (n ∷ ns) h = All-cons (λ n. n ≤ MAX_EXTENT) n ns (each d n h.0) (all_small R each ds ns h.1)

small_limit : (d : Data) (n : ℕ) → IsLimit d n → n ≤ MAX_EXTENT
small_limit d n (inl h) = h.1
small_limit d n (inr h) = rw h.1 (omega arith)

small_one : (n : ℕ) → n ≤ MAX_EXTENT → All (λ n. n ≤ MAX_EXTENT) (n ∷ [])
small_one n h = All-cons (λ n. n ≤ MAX_EXTENT) n [] h (All-nil (λ n. n ≤ MAX_EXTENT))

small_list : (d : Data) (ns : List ℕ) → SpellsList IsExtent d ns → All (λ n. n ≤ MAX_EXTENT) ns
small_list d ns h = all_small IsExtent (λ d n k. k.1) (list_of h.0) ns h.2

pub small_dims : (d : Data) (ns : List ℕ) → SpellsDims d ns → All (λ n. n ≤ MAX_EXTENT) ns
small_dims d ns (inl h) = small_list d ns h
small_dims d ns (inr h) =
    let P = All (λ n. n ≤ MAX_EXTENT) in
    subst P (sym h.2) (small_one h.0 h.1.1)

small_has : (d : Data) (ns : List ℕ) → HasDims d ns → All (λ n. n ≤ MAX_EXTENT) ns
small_has d ns (inl h) = small_dims d ns h
small_has d ns (inr h) = small_list h.1.0 ns h.1.2

small_limits : (o : Option Data) (dims maxdims : List ℕ) → MatchOption o (maxdims ≡ dims) (λ d. SpellsList IsLimit d maxdims) → All (λ n. n ≤ MAX_EXTENT) dims → All (λ n. n ≤ MAX_EXTENT) maxdims
small_limits None dims maxdims same h =
    let P = All (λ n. n ≤ MAX_EXTENT) in
    subst P (sym same) h
small_limits (Some d) dims maxdims spells h = all_small IsLimit small_limit (list_of spells.0) maxdims spells.2

pub shape_sound : (shape limits : Option Data) (s : Shape) → IsShape shape limits s → IsSound s
shape_sound shape limits Null h = tt
shape_sound shape limits Scalar h = tt
shape_sound shape limits (Simple dims maxdims) h =
    let small = small_has h.0.0 dims h.0.2 in
    record { fitting = h.2; small_dims = small; small_limits = small_limits (limits_tree shape limits) dims maxdims h.1 small }

-- ---- other dims

pub resized_told : (s : Shape) (dims : List ℕ) (t : Shape) → resized_of s dims ≡ Ok t → IsResized s dims t
unfolding resized_of
resized_told Null dims t e = cc
resized_told Scalar dims t e = cc
resized_told (Simple old limits) dims t e = fitted_ok dims limits t e

pub resized_read : (s : Shape) (dims : List ℕ) (t : Shape) → IsResized s dims t → resized_of s dims ≡ Ok t
unfolding resized_of
resized_read Null dims t h = absurd h
resized_read Scalar dims t h = absurd h
resized_read (Simple old limits) dims t h = ok_fitted dims limits h.1 h.2 ∙ ap Ok (sym h.0)

pub resized_sound : (s : Shape) (dims : List ℕ) (t : Shape) → IsSound s → All (λ n. n ≤ MAX_EXTENT) dims → IsResized s dims t → IsSound t
resized_sound Null dims t sound small h = absurd h
resized_sound Scalar dims t sound small h = absurd h
resized_sound (Simple old limits) dims t sound small h =
    let before = length-AllZip IsWithin old limits sound.fitting.within in
    let after = length-AllZip IsWithin dims limits h.1 in
    let old_some = sound.fitting.some_axis in
    let old_few = sound.fitting.few_axes in
    subst IsSound (sym h.0) (record {
      fitting = record { some_axis = omega (arith, before, after, old_some); few_axes = omega (arith, before, after, old_few); within = h.1; room = h.2 };
      small_dims = small;
      small_limits = sound.small_limits;
    })

-- ---- from a result to what it says

pub IfOk-from : {E : Type 0} (r : Result Shape E) (P : Shape → Type 0) → ((t : Shape) → r ≡ Ok t → P t) → IfOk r P
IfOk-from (Ok t) P h = h t refl
IfOk-from (Err e) P h = tt

pub same_ok : (s t : Shape) (r : Result Shape ShapeFault) → r ≡ Ok s → r ≡ Ok t → s ≡ t
same_ok s t r e k = cc

pub IfSome-from : (r : Option (List ℕ)) (P : List ℕ → Type 0) → ((ns : List ℕ) → r ≡ Some ns → P ns) → IfSome r P
IfSome-from None P h = tt
IfSome-from (Some ns) P h = h ns refl

-- ---- dims alone

few_told : (ns ms : List ℕ) → few_of ns ≡ Some ms → (ns ≡ ms) × (1 ≤ length ns) × (length ns ≤ MAX_RANK)
few_told ns ms e = elim (chosen (nat_le 1 (length ns) && nat_le (length ns) MAX_RANK) (Some ns) None (Some ms) e) [
  | inl p ↦
      let ranked = and_parts (nat_le 1 (length ns)) (nat_le (length ns) MAX_RANK) p.0 in
      (same_Some ns ms p.1, leb-true 1 (length ns) ranked.0, leb-true (length ns) MAX_RANK ranked.1)
  | inr p ↦ cc
]

pub dims_alone_told : (d : Data) (ns : List ℕ) → option_and_then few_of (dims_in d) ≡ Some ns → IsDims d ns
dims_alone_told d ns e =
    let found = and_then_some few_of (dims_in d) ns e in
    let parts = few_told found.0 ns found.2 in
    let P = λ (ms : List ℕ). IsDims d ms in
    subst P parts.0 (dims_told d found.0 found.1, parts.1, parts.2)

pub dims_alone_read : (d : Data) (ns : List ℕ) → IsDims d ns → option_and_then few_of (dims_in d) ≡ Some ns
dims_alone_read d ns h = ap (option_and_then few_of) (dims_read d ns h.0) ∙ rw (le-leb 1 (length ns) h.1, le-leb (length ns) MAX_RANK h.2)

-- ---- what is printed spells the shape

limit_spelled : (form : Form) (n : ℕ) → n ≤ MAX_EXTENT → IsLimit (limit_tree form n) n
limit_spelled Rest n h = inl (refl, h)
limit_spelled Document zero h = inr (refl, refl)
limit_spelled Document (suc n) h = inl (refl, h)

all_spelled : (R : Data → ℕ → Type 0) (form : Form) → ((n : ℕ) → n ≤ MAX_EXTENT → R (limit_tree form n) n) → (ns : List ℕ) → All (λ n. n ≤ MAX_EXTENT) ns → AllZip R (list_of (items_of (map (limit_tree form) ns))) ns
all_spelled R form each [] h = tt
all_spelled R form each (n ∷ ns) h = (each n (All-head (λ n. n ≤ MAX_EXTENT) n ns h), all_spelled R form each ns (All-tail (λ n. n ≤ MAX_EXTENT) n ns h))

printed_shape : (s : Shape) (form : Form) → IsSound s → IsShape (Some (shape_tree s form)) None s
printed_shape Null form h = ((shape_tree Null form, refl, inr refl), refl)
printed_shape Scalar form h = (inr (shape_tree Scalar form, refl, inr refl), refl)
printed_shape (Simple dims maxdims) form h =
    let dims_spelled : SpellsList IsExtent (numbers_tree Rest dims) dims = (items_of (map (limit_tree Rest) dims), refl, all_spelled IsExtent Rest (λ n k. (refl, k)) dims h.small_dims) in
    let limits_spelled : SpellsList IsLimit (numbers_tree form maxdims) maxdims = (items_of (map (limit_tree form) maxdims), refl, all_spelled IsLimit form (limit_spelled form) maxdims h.small_limits) in
    ((shape_tree (Simple dims maxdims) form, refl, inr (refl, (numbers_tree Rest dims, refl, dims_spelled))), limits_spelled, h.fitting)

pub reads_back : (s : Shape) (form : Form) (d : Data) → IsSound s → d ≡ shape_tree s form → shape_of (Some d) None ≡ Ok s
reads_back s form d sound e = ap (λ t. shape_of (Some t) None) e ∙ shape_read (Some (shape_tree s form)) None s (printed_shape s form sound)

pub few_dims : (shape : Shape) → IsSound shape → length (dims_of shape) ≤ MAX_RANK
few_dims Null h = omega arith
few_dims Scalar h = omega arith
few_dims (Simple dims limits) h = h.fitting.few_axes
