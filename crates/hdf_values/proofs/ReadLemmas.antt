-- Elements read one after another, and the room taken for them.
use Rattle.std.proofs.Common.{◌≡◌, ℕ, ◌+◌, ◌*◌, ◌≤◌, true, List, [], ◌∷◌, ◌++◌, length, take, drop, get_or, Some, None, Result, Ok, Err, inl, inr, refl, sym, ap, subst, ◌∙◌, arith}
use Rattle.std.specs.Prelude.{◌==◌}
use Rattle.std.specs.List.{AllByRecursion}
use Rattle.std.proofs.lemmas.List.{append_assoc, append-nil, take_all}
use Rattle.std.proofs.lemmas.Nat.{mul-le}
use Rattle.serde_json.specs.Data.{Data}
use Rattle.json_trees.specs.Trees.{list_in}
use Rattle.json_trees.specs.Faults.{◌>>=◌, Fails}
use Rattle.json_trees.proofs.TreeLemmas.{list_in_array}
use Rattle.hdf_types.specs.Elems.{Elem}
use Rattle.hdf_values.specs.Elements.{Fits}
use Rattle.shapes.specs.RowMajor.{cell_count}
use Rattle.hdf_values.specs.declared.faults.ValueFault.{ValueFault}
use Rattle.hdf_values.specs.declared.faults.ValueFault.TheVariants.{NoMemory, NotOfType}
use Rattle.hdf_values.specs.Nested.{FitsNested, nested_bytes, each_nested, nested_from, Appends, AppendsEach}
use Rattle.hdf_values.proofs.PieceLemmas.{none_left}
use Rattle.hdf_values.proofs.NestedLemmas.{nested_read, first_piece}

-- a place is at most the number of bytes before it
pub place_within : (p k n : ℕ) → 1 ≤ k → p * k ≡ n → p ≤ n
place_within p k n h e =
    let wide : p * 1 ≤ p * k = mul-le p 1 p k (omega arith) h in
    omega (arith, wide, e)

-- what was there before stays in front
pub kept_front : (old rest : List ℕ) (n m : ℕ) → n ≡ length old → n ≤ m → take n (take m old ++ rest) ≡ old
kept_front old rest n m e h =
    let whole : take m old ≡ old = take_all m old (omega arith) in
    rw whole (first_piece n old rest (sym e))

-- ---- reading member by member

pub no_list : (e : Elem) (dims : List ℕ) (p : ℕ) (d : Data) → 1 ≤ length dims → list_in d ≡ None → nested_from e dims p d ≡ Err (NotOfType p)
no_list e [] p d h k = absurd (omega arith)
no_list e (n ∷ ns) p d h k = rw k

pub members_fit : (e : Elem) (dims rest : List ℕ) (d : Data) (ds : List Data) → 1 ≤ length dims → rest ≡ drop 1 dims → list_in d ≡ Some ds → length ds ≡ get_or dims 0 0 → AllByRecursion (FitsNested e rest) ds → FitsNested e dims d
members_fit e [] rest d ds h r k q all = absurd (omega arith)
members_fit e (n ∷ ns) rest d ds h r k q all =
    let is_list = list_in_array d ds k in
    (is_list.0, is_list.1, ap length is_list.2 ∙ q, rw (is_list.2, ← r) all)

more_read : (read : ℕ → Data → Result (List ℕ) ValueFault) (c p : ℕ) (d : Data) (ds : List Data) (bs : List ℕ) (r : Result (List ℕ) ValueFault) → read p d ≡ Ok bs → each_nested read c (p + c) ds ≡ r → each_nested read c p (d ∷ ds) ≡ (r >>= λ rest. Ok (bs ++ rest))
more_read read c p d ds bs r h k = rw (h, k)

fails_more : (f : ValueFault) (read : ℕ → Data → Result (List ℕ) ValueFault) (c p : ℕ) (d : Data) (ds : List Data) (bs : List ℕ) → read p d ≡ Ok bs → Fails NoMemory f (each_nested read c (p + c) ds) → Fails NoMemory f (each_nested read c p (d ∷ ds))
fails_more f read c p d ds bs h (inl e) = inl e
fails_more f read c p d ds bs h (inr e) = inr (more_read read c p d ds bs (Err f) h e)

-- a member, and what the members behind it append
pub appends_more : (e : Elem) (dims : List ℕ) (d : Data) (ds : List Data) (p next : ℕ) (old mid new : List ℕ) (r : Result ℕ ValueFault) → Appends e dims d p old mid (Ok next) → AppendsEach e dims ds next mid new r → AppendsEach e dims (d ∷ ds) p old new r
appends_more e dims d ds p next old mid new (Ok n) h k =
    let c = cell_count dims in
    let rest : each_nested (nested_from e dims) (cell_count dims) (p + cell_count dims) ds ≡ Ok k.0 = ap (λ q. each_nested (nested_from e dims) c q ds) (sym h.3) ∙ k.1 in
    (h.0 ++ k.0, more_read (nested_from e dims) c p d ds h.0 (Ok k.0) h.1 rest, k.2 ∙ ap (λ l. l ++ k.0) h.2 ∙ append_assoc old h.0 k.0, omega (arith, h.3, k.3))
appends_more e dims d ds p next old mid new (Err f) h k =
    let c = cell_count dims in
    fails_more f (nested_from e dims) c p d ds h.0 h.1 (rw h.3 at k)

pub appends_none : (e : Elem) (dims : List ℕ) (p : ℕ) (old : List ℕ) → AppendsEach e dims [] p old old (Ok p)
appends_none e dims p old = ([], refl, sym (append-nil old), omega arith)

-- what was appended to nothing is the whole
pub whole_bytes : (e : Elem) (dims : List ℕ) (d : Data) (old new : List ℕ) (next : ℕ) → old ≡ [] → FitsNested e dims d → Appends e dims d 0 old new (Ok next) → new ≡ nested_bytes e dims d
whole_bytes e dims d old new next q h k =
    let same : k.0 ≡ nested_bytes e dims d = cc (k.1, nested_read e dims 0 d h) in
    k.2 ∙ ap (λ l. l ++ k.0) q ∙ same

-- elements without an extent
pub elements_fit : (e f : Elem) (dims : List ℕ) (ds : List Data) → e ≡ f → true ≡ (length dims == 0) → AllByRecursion (Fits f) ds → AllByRecursion (FitsNested e dims) ds
elements_fit e f [] ds is none h = subst (λ (x : Elem). AllByRecursion (Fits x) ds) (sym is) h
elements_fit e f (n ∷ ns) ds is none h = absurd (omega (arith, none_left (n ∷ ns) none))
