-- A map with something else for each value. R is the order of the keys, and h gives a value for a value.
use Rattle.std.proofs.Common.{◌≡◌, ℕ, Bool, true, false, cond, T, List, [], ◌∷◌, map, length, Option, Some, None, Ordering, Less, Greater, is_eq, option_map, IsSome, is_some, refl, sym, ap, subst, ◌∙◌}
use Rattle.std.specs.Cmp.{IsTotalOrder}
use Rattle.std.specs.List.{filter}
use Rattle.std.specs.Ordering.{eq_by_cmp, is_lt, ordering_reverse}
use Rattle.std.specs.FinMap.{FinMap, IsAntisymmetric, empty, entries, entries_sorted, find, from_entries, get, insert, is_sorted, len, put, remove, entries-insert, get-empty, get-entries, get-from_entries, get-insert, get-remove, len-empty, len-entries, same_map}
use Rattle.std.specs.FinMap.Entries.{below_all, by_order}
use Rattle.std.proofs.lemmas.Cmp.{tied_itself}
use Rattle.std.proofs.lemmas.List.{nil_from_length}
use Rattle.containers.specs.TextMaps.Keyed.{keyed, with_values}
use Rattle.containers.specs.TextMaps.Nexts.{is_behind, left, IsNext, IsKeyStep}
use Rattle.containers.proofs.TextMaps.Walks.{found_above}
use Rattle.containers.proofs.Plain.{halves, less}

module _ {K X Y : Type 0} {R : K → K → Ordering} (o : IsTotalOrder R) (h : X → Y) where
  abbrev on_value : K × X → K × Y
  on_value e = (e.0, h e.1)

  find-values : (es : List (K × X)) (q : K) → find R q (map on_value es) ≡ option_map h (find R q es)
  find-values [] q = refl
  find-values (e ∷ es) q = at (is_eq (R q e.0)) (find-values es q) where
    at : (b : Bool) → find R q (map on_value es) ≡ option_map h (find R q es) → cond b (Some (h e.1)) (find R q (map on_value es)) ≡ option_map h (cond b (Some e.1) (find R q es))
    at true later = refl
    at false later = later

  -- what a look-up finds
  pub get-values : (m : FinMap R X) (q : K) → get (with_values h m) q ≡ option_map h (get m q)
  get-values m q = get-from_entries o (map on_value (entries m)) q ∙ find-values (entries m) q ∙ ap (option_map h) (sym (get-entries m q))

  put-front : (k : K) (y : Y) (es : List (K × X)) → T (below_all R k es) → put R k y (map on_value es) ≡ (k, y) ∷ map on_value es
  put-front k y [] low = refl
  put-front k y (e ∷ es) low = ap (λ r. by_order r ((k, y) ∷ on_value e ∷ map on_value es) ((e.0, y) ∷ map on_value es) (on_value e ∷ put R k y (map on_value es))) (less _ (halves _ _ low).0)

  entries-listed : (es : List (K × X)) → T (is_sorted R es) → entries (from_entries {R = R} (map on_value es)) ≡ map on_value es
  entries-listed [] rising = nil_from_length _ (sym (len-entries (empty {X = Y} {R = R})) ∙ len-empty R Y)
  entries-listed (e ∷ es) rising =
      entries-insert o (from_entries {R = R} (map on_value es)) e.0 (h e.1)
      ∙ ap (put R e.0 (h e.1)) (entries-listed es (halves _ _ rising).1)
      ∙ put-front e.0 (h e.1) es (halves _ _ rising).0

  -- the entries, one for one
  pub entries-values : (m : FinMap R X) → entries (with_values h m) ≡ map on_value (entries m)
  entries-values m = entries-listed (entries m) (entries_sorted m)

  length-values : (es : List (K × X)) → length (map on_value es) ≡ length es
  length-values [] = refl
  length-values (e ∷ es) = ap (λ n. ℕ.suc n) (length-values es)

  pub len-values : (m : FinMap R X) → len (with_values h m) ≡ len m
  len-values m = len-entries (with_values h m) ∙ ap length (entries-values m) ∙ length-values (entries m) ∙ sym (len-entries m)

  left-values : (after : Option K) (es : List (K × X)) → left R after (map on_value es) ≡ map on_value (left R after es)
  left-values after [] = refl
  left-values after (e ∷ es) = at (is_behind R after e.0) (left-values after es) where
    at : (b : Bool) → left R after (map on_value es) ≡ map on_value (left R after es)
        → cond b (on_value e ∷ left R after (map on_value es)) (left R after (map on_value es)) ≡ map on_value (cond b (e ∷ left R after es) (left R after es))
    at true later = ap (λ r. on_value e ∷ r) later
    at false later = later

  left_of : (m : FinMap R X) (after : Option K) → left R after (entries (with_values h m)) ≡ map on_value (left R after (entries m))
  left_of m after = ap (left R after) (entries-values m) ∙ left-values after (entries m)

  still_some : (w : Option X) → IsSome w → IsSome (option_map h w)
  still_some None s = s
  still_some (Some x) s = refl

  -- the next key is that of the map
  pub next-values : (m : FinMap R X) (after r : Option K) → IsNext m after r → IsNext (with_values h m) after r
  next-values m after None n = λ q behind. get-values m q ∙ ap (option_map h) (n q behind)
  next-values m after (Some k) n = (
    n.0,
    subst (λ (w : Option Y). IsSome w) (sym (get-values m k)) (still_some (get m k) n.1),
    λ q behind lt. get-values m q ∙ ap (option_map h) (n.2 q behind lt),
  )

  -- what the next key says of the walk
  pub step-values : (m : FinMap R X) (after r : Option K) → IsKeyStep m after r → IsKeyStep (with_values h m) after r
  step-values m after None s = left_of m after ∙ ap (map on_value) s
  step-values m after (Some k) s = (
    h s.0,
    get-values m k ∙ ap (option_map h) s.1,
    left_of m after ∙ ap (map on_value) s.2 ∙ ap (λ r. (k, h s.0) ∷ r) (sym (left_of m (Some k))),
  )

module _ {K X Y : Type 0} {R : K → K → Ordering} (o : IsTotalOrder R) (same : IsAntisymmetric R) (h : X → Y) where
  on_cond : (b : Bool) (v w : Option X) → option_map h (cond b v w) ≡ cond b (option_map h v) (option_map h w)
  on_cond true v w = refl
  on_cond false v w = refl

  pub insert-values : (m : FinMap R X) (k : K) (v : X) → with_values h (insert m k v) ≡ insert (with_values h m) k (h v)
  insert-values m k v = same_map o same _ _ (λ q.
      get-values o h (insert m k v) q ∙ ap (option_map h) (get-insert o m k v q) ∙ on_cond (eq_by_cmp R q k) (Some v) (get m q)
      ∙ ap (cond (eq_by_cmp R q k) (Some (h v))) (sym (get-values o h m q)) ∙ sym (get-insert o (with_values h m) k (h v) q))

  pub remove-values : (m : FinMap R X) (k : K) → with_values h (remove m k) ≡ remove (with_values h m) k
  remove-values m k = same_map o same _ _ (λ q.
      get-values o h (remove m k) q ∙ ap (option_map h) (get-remove o m k q) ∙ on_cond (eq_by_cmp R q k) None (get m q)
      ∙ ap (cond (eq_by_cmp R q k) None) (sym (get-values o h m q)) ∙ sym (get-remove o (with_values h m) k q))

  pub empty-values : with_values h (empty {X = X} {R = R}) ≡ empty
  empty-values = same_map o same _ _ (λ q. get-values o h empty q ∙ ap (option_map h) (get-empty R q) ∙ sym (get-empty R q))

-- values that hold their keys
module _ {K X Y : Type 0} {R : K → K → Ordering} (o : IsTotalOrder R) (key : X → K) (h : X → Y) where
  apart : (x k : K) → R x k ≡ Less → is_eq (R k x) ≡ false
  apart x k lt = ap is_eq (o.antisymm k x ∙ ap ordering_reverse lt)

  abbrev at_key : K × X → K × Y
  at_key e = (e.0, h e.1)

  abbrev at_own_key : K × X → K × Y
  at_own_key e = (key e.1, h e.1)

  pub own_keys : (es : List (K × X)) → T (is_sorted R es) → ((k : K) (x : X) → find R k es ≡ Some x → key x ≡ k) → map at_key es ≡ map at_own_key es
  own_keys [] rising held = refl
  own_keys (e ∷ es) rising held =
      let here : key e.1 ≡ e.0 = held e.0 e.1 (ap (λ r. cond (is_eq r) (Some e.1) (find R e.0 es)) (tied_itself o e.0)) in
      let later = own_keys es (halves _ _ rising).1 (λ k x f. held k x (ap (λ b. cond b (Some e.1) (find R k es)) (apart e.0 k (found_above o e.0 k es x (halves _ _ rising).0 f)) ∙ f)) in
      λ i. (sym here i, h e.1) ∷ later i

module _ {K L X Y : Type 0} (bytes : K → List ℕ) (f : List ℕ × X → L × Y) where
  pub map-keyed : (es : List (K × X)) → map f (keyed bytes es) ≡ map (λ e. f (bytes e.0, e.1)) es
  map-keyed [] = refl
  map-keyed (e ∷ es) = ap (λ r. f (bytes e.0, e.1) ∷ r) (map-keyed es)
