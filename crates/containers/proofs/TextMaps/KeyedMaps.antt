-- A sorted map, whose keys compare by their bytes, is the finite map from those bytes.
-- `bytes` gives the bytes of a key.
use Rattle.std.specs.List.{filter}
use Rattle.std.proofs.Common.{option_map, ◌≡◌, ℕ, suc, Bool, true, false, cond, List, [], ◌∷◌, map, length, Option, Some, None, Ordering, Less, Equal, is_eq, bytes_eq, refl, sym, ap, subst, ◌∙◌, ⊎_elim}
use Rattle.std.specs.BTreeMap.{BTreeMap, UpdatesBy, is_at}
use Rattle.std.specs.Map.{lookup, IsKeyTest, AreApart, KeepsOthers}
use Rattle.std.specs.Cmp.{eq_by_cmp_equiv}
use Rattle.std.specs.Cmp.Lexicographic.{nat_list_cmp_total, bytes_decides, nat_list_eq_equiv}
use Rattle.std.specs.List.Sorted.{IsStrictlySortedBy}
use Rattle.std.specs.List.{AllByRecursion}
use Rattle.std.specs.FinMap.{empty, len-empty, get, insert, remove, len, entries, from_entries, find, put, same_map, get-from_entries, get-insert, get-remove, entries-insert, len-entries, slice_cmp-IsAntisymmetric, nat_cmp-IsAntisymmetric}
use Rattle.std.specs.FinMap.Entries.{by_order}
use Rattle.std.proofs.lemmas.Map.Keys.{sorted_head, sorted_tail}
use Rattle.std.proofs.lemmas.Map.Text.{is_eq-slice_cmp}
use Rattle.std.proofs.lemmas.Bool.{cases_Bool, cond-true, cond-false}
use Rattle.std.proofs.lemmas.List.{nil_from_length}
use Rattle.containers.specs.TextMaps.Keyed.{text_order, keyed}
use Rattle.containers.specs.TextMaps.Nexts.{first}

-- only equal texts tie
pub exact_texts : (x y : List ℕ) → text_order x y ≡ Equal → x ≡ y
exact_texts = slice_cmp-IsAntisymmetric nat_cmp-IsAntisymmetric

-- the test that finds the key with these bytes
abbrev pub is_keyed : {K : Type 0} → (K → List ℕ) → List ℕ → K → Bool
is_keyed bytes q = is_at (λ k. text_order q (bytes k))

-- the order of keys by their bytes
abbrev pub order_by : {K : Type 0} → (K → List ℕ) → K → K → Ordering
order_by bytes x y = text_order (bytes x) (bytes y)

apart : (bs cs ks : List ℕ) → bytes_eq bs cs ≡ false → is_eq (text_order bs ks) ≡ true → is_eq (text_order cs ks) ≡ false
apart bs cs ks n y =
    is_eq-slice_cmp cs ks ∙ nat_list_eq_equiv.symm cs ks
    ∙ sym (nat_list_eq_equiv.congr bs ks cs (sym (is_eq-slice_cmp bs ks) ∙ y)) ∙ n

module _ {K : Type 0} (eq : K → K → Bool) (test : K → Bool) where
  other_entries : {X : Type 0} (old new : List (K × X)) → KeepsOthers eq test old new → (other : K → Bool) → IsKeyTest eq other → AreApart test other → lookup other new ≡ lookup other old
  unfolding KeepsOthers
  other_entries old new h = h

-- g is w at bs, and f at other bytes
by_bytes : {W : Type 0} (f g : List ℕ → W) (bs : List ℕ) (w : W) → g bs ≡ w → ((cs : List ℕ) → bytes_eq bs cs ≡ false → g cs ≡ f cs) → (cs : List ℕ) → g cs ≡ cond (bytes_eq bs cs) w (f cs)
by_bytes f g bs w here other cs =
    ⊎_elim
    (λ y. subst (λ l. g l ≡ w) ((bytes_decides bs cs).0 y) here ∙ sym (cond-true (bytes_eq bs cs) w (f cs) y))
    (λ n. other cs n ∙ sym (cond-false (bytes_eq bs cs) w (f cs) n))
    (cases_Bool (bytes_eq bs cs))

same_test : (bs q : List ℕ) → bytes_eq bs q ≡ is_eq (text_order q bs)
same_test bs q = sym (is_eq-slice_cmp bs q) ∙ (eq_by_cmp_equiv nat_list_cmp_total).symm bs q

module _ {K X : Type 0} (bytes : K → List ℕ) where
  find-keyed : (es : List (K × X)) (q : List ℕ) → find text_order q (keyed bytes es) ≡ lookup (is_keyed bytes q) es
  find-keyed [] q = refl
  find-keyed (e ∷ es) q = ap (cond (is_eq (text_order q (bytes e.0))) (Some e.1)) (find-keyed es q)

  -- what a look-up by bytes finds
  pub get-keyed : (es : List (K × X)) (q : List ℕ) → get (from_entries {R = text_order} (keyed bytes es)) q ≡ lookup (is_keyed bytes q) es
  get-keyed es q = get-from_entries nat_list_cmp_total (keyed bytes es) q ∙ find-keyed es q

  -- the first entry has the bytes
  pub lookup_here : (es : List (K × X)) (q : List ℕ) (k : K) (v : X) (rest : List (K × X)) → es ≡ (k, v) ∷ rest → bytes_eq q (bytes k) ≡ true → lookup (is_keyed bytes q) es ≡ Some v
  lookup_here es q k v rest e h = ap (lookup (is_keyed bytes q)) e ∙ cond-true _ _ _ (is_eq-slice_cmp q (bytes k) ∙ h)

  -- the first entry has other bytes
  pub lookup_later : (es : List (K × X)) (q : List ℕ) (k : K) (v : X) (rest : List (K × X)) → es ≡ (k, v) ∷ rest → bytes_eq q (bytes k) ≡ false → lookup (is_keyed bytes q) es ≡ lookup (is_keyed bytes q) rest
  lookup_later es q k v rest e h = ap (lookup (is_keyed bytes q)) e ∙ cond-false _ _ _ (is_eq-slice_cmp q (bytes k) ∙ h)

  lookup-updated : (m n : BTreeMap K X) (bs : List ℕ) (w : Option X) → UpdatesBy (order_by bytes) (λ k. text_order bs (bytes k)) m n w
      → (cs : List ℕ) → lookup (is_keyed bytes cs) n.entries ≡ cond (bytes_eq bs cs) w (lookup (is_keyed bytes cs) m.entries)
  lookup-updated m n bs w h =
      by_bytes (λ cs. lookup (is_keyed bytes cs) m.entries) (λ cs. lookup (is_keyed bytes cs) n.entries) bs w h.1
      (λ cs e. other_entries _ _ _ _ h.3 _ (λ x y. (eq_by_cmp_equiv nat_list_cmp_total).congr cs (bytes x) (bytes y)) (λ k. apart bs cs (bytes k) e))

  get-updated : (m n : BTreeMap K X) (bs : List ℕ) (w : Option X) → UpdatesBy (order_by bytes) (λ k. text_order bs (bytes k)) m n w
      → (q : List ℕ) → get (from_entries {R = text_order} (keyed bytes n.entries)) q ≡ cond (is_eq (text_order q bs)) w (get (from_entries {R = text_order} (keyed bytes m.entries)) q)
  get-updated m n bs w h q =
      get-keyed n.entries q ∙ lookup-updated m n bs w h q
      ∙ ap (λ b. cond b w (lookup (is_keyed bytes q) m.entries)) (same_test bs q)
      ∙ ap (cond (is_eq (text_order q bs)) w) (sym (get-keyed m.entries q))

  -- a value at some bytes is put there
  pub insert-keyed : (m n : BTreeMap K X) (bs : List ℕ) (v : X) → UpdatesBy (order_by bytes) (λ k. text_order bs (bytes k)) m n (Some v)
      → from_entries {R = text_order} (keyed bytes n.entries) ≡ insert (from_entries (keyed bytes m.entries)) bs v
  insert-keyed m n bs v h =
      same_map nat_list_cmp_total exact_texts _ _ (λ q. get-updated m n bs (Some v) h q ∙ sym (get-insert nat_list_cmp_total _ bs v q))

  -- what stands at some bytes is taken away
  pub remove-keyed : (m n : BTreeMap K X) (bs : List ℕ) → UpdatesBy (order_by bytes) (λ k. text_order bs (bytes k)) m n None
      → from_entries {R = text_order} (keyed bytes n.entries) ≡ remove (from_entries (keyed bytes m.entries)) bs
  remove-keyed m n bs h =
      same_map nat_list_cmp_total exact_texts _ _ (λ q. get-updated m n bs None h q ∙ sym (get-remove nat_list_cmp_total _ bs q))

  put-front : (e : K × X) (es : List (K × X)) → AllByRecursion (λ k. order_by bytes e.0 k ≡ Less) (map (λ d. d.0) es)
      → put text_order (bytes e.0) e.1 (keyed bytes es) ≡ keyed bytes (e ∷ es)
  put-front e [] low = refl
  put-front e (d ∷ ds) low =
      ap (λ r. by_order r ((bytes e.0, e.1) ∷ keyed bytes (d ∷ ds)) ((bytes d.0, e.1) ∷ keyed bytes ds) ((bytes d.0, d.1) ∷ put text_order (bytes e.0) e.1 (keyed bytes ds))) low.0

  -- entries in the order of their keys are the map's
  pub entries-keyed : (es : List (K × X)) → IsStrictlySortedBy (order_by bytes) (map (λ e. e.0) es) → entries (from_entries {R = text_order} (keyed bytes es)) ≡ keyed bytes es
  entries-keyed [] rising = nil_from_length _ (sym (len-entries (empty {X = X} {R = text_order})) ∙ len-empty text_order X)
  entries-keyed (e ∷ es) rising =
      entries-insert nat_list_cmp_total (from_entries {R = text_order} (keyed bytes es)) (bytes e.0) e.1
      ∙ ap (put text_order (bytes e.0) e.1) (entries-keyed es (sorted_tail _ e.0 _ rising))
      ∙ put-front e es (sorted_head _ e.0 _ rising)

  length-keyed : (es : List (K × X)) → length (keyed bytes es) ≡ length es
  length-keyed [] = refl
  length-keyed (e ∷ es) = ap suc (length-keyed es)

  -- each entry is one of the map's
  pub len-keyed : (es : List (K × X)) → IsStrictlySortedBy (order_by bytes) (map (λ e. e.0) es) → len (from_entries {R = text_order} (keyed bytes es)) ≡ length es
  len-keyed es rising = len-entries (from_entries {R = text_order} (keyed bytes es)) ∙ ap length (entries-keyed es rising) ∙ length-keyed es

  -- the first entry whose bytes pass a test
  pub first-keyed : (test : List ℕ → Bool) (es : List (K × X)) → option_map (λ e. (bytes e.0, e.1)) (first (filter (λ e. test (bytes e.0)) es)) ≡ first (filter (λ e. test e.0) (keyed bytes es))
  first-keyed test [] = refl
  first-keyed test (e ∷ es) = at (test (bytes e.0)) (first-keyed test es) where
    at : (b : Bool) → option_map (λ d. (bytes d.0, d.1)) (first (filter (λ d. test (bytes d.0)) es)) ≡ first (filter (λ d. test d.0) (keyed bytes es))
        → option_map (λ d. (bytes d.0, d.1)) (first (cond b (e ∷ filter (λ d. test (bytes d.0)) es) (filter (λ d. test (bytes d.0)) es)))
        ≡ first (cond b ((bytes e.0, e.1) ∷ filter (λ d. test d.0) (keyed bytes es)) (filter (λ d. test d.0) (keyed bytes es)))
    at true later = refl
    at false later = later
