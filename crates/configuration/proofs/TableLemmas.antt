-- Walks over the tables of a document.
use Rattle.std.proofs.Common.{◌≡◌, ◌≤◌, ◌+◌, cond, arith, ℕ, suc, Bool, true, false, ◌&&◌, List, [], ◌∷◌, length, map, Option, Some, None, option_map, String, Global, string_bytes, refl, sym, ap, ◌∙◌}
use Rattle.std.specs.Prelude.{Result, Err, IsErrAnd}
use Rattle.std.specs.List.{list_all}
use Rattle.std.proofs.lemmas.Result.{err_from_is_err_and}
use Rattle.std.specs.FinMap.{FinMap, contains_key, insert, len, len-insert}
use Rattle.std.specs.Cmp.Lexicographic.{nat_list_cmp_total}
use Rattle.containers.specs.TextMaps.Keyed.{text_order, with_entries}
use Rattle.toml.specs.Data.{Data}
use Rattle.toml.specs.View.{view, items_view, members_view}
use Rattle.toml.specs.declared.value.Value.{Value}
use Rattle.configuration.specs.Tables.{both, all_of, pairs_of, elements_of}

abbrev pub Entry : Type 0
Entry = String Global × Value

-- the pairs of what is left of a table
abbrev pub rest_of : List Entry → List (List ℕ × Data)
rest_of es = pairs_of (members_view es)

pub length-rest_of : (es : List Entry) → length (rest_of es) ≡ length es
length-rest_of [] = refl
length-rest_of (e ∷ es) = ap suc (length-rest_of es)

pub elements_of-items_view : (vs : List Value) → elements_of (items_view vs) ≡ map view vs
elements_of-items_view [] = refl
elements_of-items_view (v ∷ vs) = ap (λ (ds : List Data). view v ∷ ds) (elements_of-items_view vs)

-- one pair more passes the test, or fails it
pub passes_on : (test : List ℕ × Data → Bool) (es rest : List Entry) (e : Entry) → es ≡ e ∷ rest → test (string_bytes e.0, view e.1) ≡ true → list_all test (rest_of rest) ≡ list_all test (rest_of es)
passes_on test es rest e is pass =
    sym (ap (λ (l : List Entry). list_all test (rest_of l)) is ∙ ap (λ (b : Bool). b && list_all test (rest_of rest)) pass)

pub fails_here : (test : List ℕ × Data → Bool) (es rest : List Entry) (e : Entry) → es ≡ e ∷ rest → test (string_bytes e.0, view e.1) ≡ false → list_all test (rest_of es) ≡ false
fails_here test es rest e is fail = ap (λ (l : List Entry). list_all test (rest_of l)) is ∙ ap (λ (b : Bool). b && list_all test (rest_of rest)) fail

-- an element that is read, or is not
pub all_of-some : {A B : Type 0} (read : A → Option B) (x : A) (xs : List A) (y : B) → read x ≡ Some y → all_of read (x ∷ xs) ≡ option_map (λ ys. y ∷ ys) (all_of read xs)
all_of-some {A} {B} read x xs y h = ap (λ (o : Option B). option_map (λ p. p.0 ∷ p.1) (both o (all_of read xs))) h ∙ paired y (all_of read xs)
  where
    paired : (y : B) (o : Option (List B)) → option_map (λ p. p.0 ∷ p.1) (both (Some y) o) ≡ option_map (λ ys. y ∷ ys) o
    paired y None = refl
    paired y (Some ys) = refl

pub all_of-none : {A B : Type 0} (read : A → Option B) (x : A) (xs : List A) → read x ≡ None → all_of read (x ∷ xs) ≡ None
all_of-none {A} {B} read x xs h = ap (λ (o : Option B). option_map (λ p. p.0 ∷ p.1) (both o (all_of read xs))) h

-- a walk that puts what it reads into a map
pub walk_step : {V : Type 0} (read : List ℕ × Data → Option (List ℕ × V)) (m : FinMap text_order V) (es rest : List (List ℕ × Data)) (x : List ℕ × Data) (b : List ℕ × V)
    → es ≡ x ∷ rest → read x ≡ Some b → option_map (with_entries (insert m b.0 b.1)) (all_of read rest) ≡ option_map (with_entries m) (all_of read es)
walk_step {V} read m es rest x b is found =
    sym (ap (λ (l : List (List ℕ × Data)). option_map (with_entries m) (all_of read l)) is ∙ ap (option_map (with_entries m)) (all_of-some read x rest b found) ∙ joined (all_of read rest))
  where
    joined : (o : Option (List (List ℕ × V))) → option_map (with_entries m) (option_map (λ ys. b ∷ ys) o) ≡ option_map (with_entries (insert m b.0 b.1)) o
    joined None = refl
    joined (Some ys) = refl

pub walk_none : {B C : Type 0} (f : List B → C) (read : List ℕ × Data → Option B) (es rest : List (List ℕ × Data)) (x : List ℕ × Data)
    → es ≡ x ∷ rest → read x ≡ None → option_map f (all_of read es) ≡ None
walk_none f read es rest x is none = ap (λ (l : List (List ℕ × Data)). option_map f (all_of read l)) is ∙ ap (option_map f) (all_of-none read x rest none)

-- where nothing is made of the whole, nothing was made
pub none_before : {A B : Type 0} (f : A → B) (o : Option A) → option_map f o ≡ None → o ≡ None
none_before f None h = refl
none_before f (Some a) h = cc

-- an error that `?` hands on
pub passed_on : {T U E : Type 0} (r : Result T E) (e k : E) → IsErrAnd r (λ x. x ≡ e) → r ≡ Err k → ◌≡◌ {A = Result U E} (Err e) (Err k)
passed_on {T} {U} {E} r e k h is =
    let found = err_from_is_err_and r h in
    let named : r ≡ Err found.0 = found.1 in
    let same : found.0 ≡ e = found.2 in
    let whole : ◌≡◌ {A = Result T E} (Err found.0) (Err k) = sym named ∙ is in
    let inner : found.0 ≡ k = cc in
    ap Err (sym same ∙ inner)

pub len-insert-le : {V : Type 0} (m : FinMap text_order V) (k : List ℕ) (v : V) → len (insert m k v) ≤ len m + 1
len-insert-le m k v = cond_le (contains_key m k) (len m) (len (insert m k v)) (len-insert nat_list_cmp_total m k v)
  where
    cond_le : (b : Bool) (n r : ℕ) → r ≡ cond b n (n + 1) → r ≤ n + 1
    cond_le true n r e = omega arith
    cond_le false n r e = omega arith

pub both-some : {A B : Type 0} (o : Option A) (p : Option B) (a : A) (b : B) → o ≡ Some a → p ≡ Some b → both o p ≡ Some (a, b)
both-some {A} {B} o p a b e f = ap (λ (x : Option A). both x p) e ∙ ap (λ (y : Option B). both (Some a) y) f

pub both-none_left : {A B : Type 0} (o : Option A) (p : Option B) → o ≡ None → both o p ≡ None
both-none_left {A} o p e = ap (λ (x : Option A). both x p) e

pub both-none_right : {A B : Type 0} (o : Option A) (p : Option B) → p ≡ None → both o p ≡ None
both-none_right {A} {B} None p e = refl
both-none_right {A} {B} (Some a) p e = ap (λ (y : Option B). both (Some a) y) e

len_split : {B : Type 0} (o : Option B) (p : Option (List B)) (n : ℕ) (ys : List B) → ((zs : List B) → p ≡ Some zs → length zs ≡ n) → option_map (λ q. q.0 ∷ q.1) (both o p) ≡ Some ys → length ys ≡ suc n
len_split None p n ys more f = let g : None ≡ Some ys = f in cc
len_split (Some y) None n ys more f = let g : None ≡ Some ys = f in cc
len_split (Some y) (Some zs) n ys more f = let g : Some (y ∷ zs) ≡ Some ys = f in let same : y ∷ zs ≡ ys = cc in ap length (sym same) ∙ ap suc (more zs refl)

pub length-all_of : {A B : Type 0} (read : A → Option B) (xs : List A) (ys : List B) → all_of read xs ≡ Some ys → length ys ≡ length xs
length-all_of read [] ys h = let e : Some [] ≡ Some ys = h in let same : [] ≡ ys = cc in ap length (sym same)
length-all_of {A} {B} read (x ∷ xs) ys h = len_split (read x) (all_of read xs) (length xs) ys (λ zs e. length-all_of read xs zs e) h
