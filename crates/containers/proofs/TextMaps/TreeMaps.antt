-- A sorted map whose keys only tie where they are equal is the finite map of its entries. R is the order of the keys.
use Rattle.std.proofs.Common.{◌≡◌, ℕ, Bool, true, cond, List, [], ◌∷◌, map, length, Option, Some, None, MutBor, Ordering, Less, is_eq, is_some, refl, sym, ap, ◌∙◌}
use Rattle.std.specs.BTreeMap.{BTreeMap, UpdatesBy, WritesThrough, is_at, get_by}
use Rattle.std.specs.Map.{lookup}
use Rattle.std.specs.Cmp.{IsTotalOrder, eq_by_cmp_equiv}
use Rattle.std.specs.List.{AllByRecursion}
use Rattle.std.specs.List.Sorted.{IsStrictlySortedBy}
use Rattle.std.specs.Option.{ghost_name_of, option_copied_mut}
use Rattle.std.specs.Ordering.{eq_by_cmp}
use Rattle.std.specs.FinMap.{FinMap, IsAntisymmetric, empty, entries, find, from_entries, get, insert, len, put, remove, entries-insert, get-from_entries, get-insert, get-remove, len-empty, len-entries, same_map}
use Rattle.std.specs.FinMap.Entries.{by_order}
use Rattle.std.proofs.lemmas.Map.Keys.{sorted_head, sorted_tail}
use Rattle.std.proofs.lemmas.List.{nil_from_length}
use Rattle.containers.proofs.TextMaps.Lending.{lent_if, is_some-copied}
use borrow.Follows.Closed.{read_of}

module _ {K X : Type 0} {R : K → K → Ordering} (o : IsTotalOrder R) where
  find-lookup : (es : List (K × X)) (q : K) → find R q es ≡ lookup (is_at (R q)) es
  find-lookup [] q = refl
  find-lookup (e ∷ es) q = ap (cond (is_eq (R q e.0)) (Some e.1)) (find-lookup es q)

  -- what a look-up finds
  pub get-tree : (m : BTreeMap K X) (q : K) → get (from_entries {R = R} m.entries) q ≡ get_by (R q) m
  get-tree m q = get-from_entries o m.entries q ∙ find-lookup m.entries q

  put-front : (e : K × X) (es : List (K × X)) → AllByRecursion (λ k. R e.0 k ≡ Less) (map (λ d. d.0) es) → put R e.0 e.1 es ≡ e ∷ es
  put-front e [] low = refl
  put-front e (d ∷ ds) low = ap (λ r. by_order r (e ∷ d ∷ ds) ((d.0, e.1) ∷ ds) (d ∷ put R e.0 e.1 ds)) low.0

  -- entries in the order of their keys are the map's
  pub entries-tree : (es : List (K × X)) → IsStrictlySortedBy R (map (λ e. e.0) es) → entries (from_entries {R = R} es) ≡ es
  entries-tree [] rising = nil_from_length _ (sym (len-entries (empty {X = X} {R = R})) ∙ len-empty R X)
  entries-tree (e ∷ es) rising =
      entries-insert o (from_entries {R = R} es) e.0 e.1
      ∙ ap (put R e.0 e.1) (entries-tree es (sorted_tail _ e.0 _ rising))
      ∙ put-front e es (sorted_head _ e.0 _ rising)

  pub len-tree : (es : List (K × X)) → IsStrictlySortedBy R (map (λ e. e.0) es) → len (from_entries {R = R} es) ≡ length es
  len-tree es rising = len-entries (from_entries {R = R} es) ∙ ap length (entries-tree es rising)

module _ {K X : Type 0} {R : K → K → Ordering} (o : IsTotalOrder R) (same : IsAntisymmetric R) where
  get-updated : (m n : BTreeMap K X) (k : K) (w : Option X) → UpdatesBy R (R k) m n w
      → (q : K) → get (from_entries {R = R} n.entries) q ≡ cond (eq_by_cmp R q k) w (get (from_entries {R = R} m.entries) q)
  get-updated m n k w h q =
      get-tree o n q ∙ h.0 q
      ∙ ap (λ b. cond b w (get_by (R q) m)) ((eq_by_cmp_equiv o).symm k q)
      ∙ ap (cond (eq_by_cmp R q k) w) (sym (get-tree o m q))

  -- a value at a key is put there
  pub insert-tree : (m n : BTreeMap K X) (k : K) (v : X) → UpdatesBy R (R k) m n (Some v)
      → from_entries {R = R} n.entries ≡ insert (from_entries {R = R} m.entries) k v
  insert-tree m n k v h = same_map o same _ _ (λ q. get-updated m n k (Some v) h q ∙ sym (get-insert o _ k v q))

  -- what stands at a key is taken away
  pub remove-tree : (m n : BTreeMap K X) (k : K) → UpdatesBy R (R k) m n None
      → from_entries {R = R} n.entries ≡ remove (from_entries {R = R} m.entries) k
  remove-tree m n k h = same_map o same _ _ (λ q. get-updated m n k None h q ∙ sym (get-remove o _ k q))

  -- the value at a key, once w was left there; the map stays where nothing is there
  pub lent-tree : (m : BTreeMap K X) (old : FinMap R X) → from_entries m.entries ≡ old → (k : K) (r : Option (MutBor X)) (lender : X → BTreeMap K X) (none : BTreeMap K X)
      → option_copied_mut r ≡ get_by (R k) m
      → ((w : X) → WritesThrough R (R k) m w (lender w))
      → none ≡ m
      → (read_of (ghost_name_of r) (λ w. from_entries {R = R} (lender w).entries) (from_entries none.entries) ≡ read_of (ghost_name_of r) (insert old k) old)
      × (option_copied_mut r ≡ get old k)
  lent-tree m old view k r lender none value holds unchanged = (
    lent_if r _ _ _ _
        (λ there w. insert-tree m (lender w) k w ((holds w).3 (ap is_some (sym value) ∙ is_some-copied r ∙ there)) ∙ ap (λ n. insert n k w) view)
        (ap (λ (n : BTreeMap K X). from_entries {R = R} n.entries) unchanged ∙ view),
    value ∙ sym (get-tree o m k) ∙ ap (λ n. get n k) view,
  )
