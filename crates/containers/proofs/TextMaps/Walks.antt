-- What the first entry behind a key is to a walk over a map. R is the order of the keys.
use Rattle.std.proofs.Common.{Bor, ℕ, map, ◌≡◌, Bool, true, false, cond, T, List, [], ◌∷◌, Option, Some, None, Ordering, Less, Equal, Greater, is_eq, refl, sym, ap, subst, ◌∙◌, ⊎_elim, option_map, IfSome, IsSome}
use Rattle.std.specs.List.{filter}
use Rattle.std.specs.List.Sorted.{IsStrictlySortedBy}
use Rattle.std.specs.Option.{option_copied}
use Rattle.std.specs.Cmp.Lexicographic.{nat_list_cmp_total}
use Rattle.std.specs.Ordering.{is_lt, ordering_reverse, eq_by_cmp}
use Rattle.std.specs.Cmp.{IsTotalOrder, alike_right, Equal-is}
use Rattle.std.proofs.lemmas.Cmp.{tied_itself}
use Rattle.std.proofs.lemmas.Bool.{cases_Bool}
use Rattle.std.specs.FinMap.{FinMap, from_entries, entries, entries_sorted, get, get-entries, find, is_sorted}
use Rattle.std.specs.FinMap.Entries.{below_all}
use Rattle.containers.specs.TextMaps.Keyed.{text_order, keyed}
use Rattle.containers.proofs.TextMaps.KeyedMaps.{order_by, entries-keyed, first-keyed}
use Rattle.containers.specs.TextMaps.Nexts.{first, is_behind, left, IsNext, IsStep, IsKeyStep}
use Rattle.containers.proofs.Plain.{halves, less}

module _ {K : Type 0} {R : K → K → Ordering} (o : IsTotalOrder R) where
  still_behind : (after : Option K) (x y : K) → is_behind R after x ≡ true → R x y ≡ Less → is_behind R after y ≡ true
  still_behind None x y a b = refl
  still_behind (Some z) x y a b = ap is_lt (o.trans z x y (less _ (subst T (sym a) tt)) b)

  same_side : (after : Option K) (x y : K) → R x y ≡ Equal → is_behind R after x ≡ is_behind R after y
  same_side None x y tie = refl
  same_side (Some z) x y tie = ap is_lt (alike_right o x y z tie)

  -- a key that isn't behind doesn't tie with one that is
  apart : (after : Option K) (x y : K) → is_behind R after x ≡ true → is_behind R after y ≡ false → eq_by_cmp R x y ≡ false
  apart after x y behind before = ⊎_elim
      (λ (t : eq_by_cmp R x y ≡ true). absurd (let e : true ≡ false = sym behind ∙ same_side after x y ((Equal-is (R x y)).0 t) ∙ before in cc))
      (λ (f : eq_by_cmp R x y ≡ false). f)
      (cases_Bool (eq_by_cmp R x y))

module _ {K X : Type 0} {R : K → K → Ordering} (o : IsTotalOrder R) where
  all_behind : (after : Option K) (x : K) (es : List (K × X)) → is_behind R after x ≡ true → T (below_all R x es) → left R after es ≡ es
  all_behind after x [] a h = refl
  all_behind after x (e ∷ es) a h =
      let here = still_behind o after x e.0 a (less _ (halves _ _ h).0) in
      ap (λ b. cond b (e ∷ left R after es) (left R after es)) here ∙ ap (λ r. e ∷ r) (all_behind after x es a (halves _ _ h).1)

  all_above : (x : K) (es : List (K × X)) → T (below_all R x es) → left R (Some x) es ≡ es
  all_above x [] h = refl
  all_above x (e ∷ es) h =
      ap (λ r. cond (is_lt r) (e ∷ left R (Some x) es) (left R (Some x) es)) (less _ (halves _ _ h).0) ∙ ap (λ r. e ∷ r) (all_above x es (halves _ _ h).1)

  none_below : (q x : K) (es : List (K × X)) → R q x ≡ Less → T (below_all R x es) → find R q es ≡ None
  none_below q x [] lt h = refl
  none_below q x (e ∷ es) lt h =
      ap (λ r. cond (is_eq r) (Some e.1) (find R q es)) (o.trans q x e.0 lt (less _ (halves _ _ h).0)) ∙ none_below q x es lt (halves _ _ h).1

  above_at : (x q : K) (e : K × X) (es : List (K × X)) (v : X) (b : Bool) → eq_by_cmp R q e.0 ≡ b → T (below_all R x (e ∷ es)) → find R q (e ∷ es) ≡ Some v
      → (T (below_all R x es) → find R q es ≡ Some v → R x q ≡ Less) → R x q ≡ Less
  above_at x q e es v true t h found later = alike_right o q e.0 x ((Equal-is (R q e.0)).0 t) ∙ less _ (halves _ _ h).0
  above_at x q e es v false t h found later = later (halves _ _ h).1 (sym (ap (λ b. cond b (Some e.1) (find R q es)) t) ∙ found)

  pub found_above : (x q : K) (es : List (K × X)) (v : X) → T (below_all R x es) → find R q es ≡ Some v → R x q ≡ Less
  found_above x q [] v h found = cc
  found_above x q (e ∷ es) v h found = above_at x q e es v (eq_by_cmp R q e.0) refl h found (found_above x q es v)

  -- what a walk over entries has next
  abbrev pub Says : Option K → List (K × X) → Option (K × X) → Type 0
  Says after es None = (left R after es ≡ []) × ((q : K) → is_behind R after q ≡ true → find R q es ≡ None)
  Says after es (Some e) = (left R after es ≡ e ∷ left R (Some e.0) es) × (find R e.0 es ≡ Some e.1) × (is_behind R after e.0 ≡ true)
      × ((q : K) → is_behind R after q ≡ true → R q e.0 ≡ Less → find R q es ≡ None)

  pass_by : (after : Option K) (d : K × X) (es : List (K × X)) (r : Option (K × X)) → T (below_all R d.0 es) → is_behind R after d.0 ≡ false
      → Says after es r → Says after (d ∷ es) r
  pass_by after d es None h before s = (
    ap (λ b. cond b (d ∷ left R after es) (left R after es)) before ∙ s.0,
    λ q behind. ap (λ b. cond b (Some d.1) (find R q es)) (apart o after q d.0 behind before) ∙ s.1 q behind,
  )
  pass_by after d es (Some e) h before s =
      let above = found_above d.0 e.0 es e.1 h s.1 in
      let back : R e.0 d.0 ≡ Greater = o.antisymm e.0 d.0 ∙ ap ordering_reverse above in (
        ap (λ b. cond b (d ∷ left R after es) (left R after es)) before ∙ s.0 ∙ ap (λ r. e ∷ cond (is_lt r) (d ∷ left R (Some e.0) es) (left R (Some e.0) es)) (sym back),
        ap (λ r. cond (is_eq r) (Some d.1) (find R e.0 es)) back ∙ s.1,
        s.2,
        λ q behind lt. ap (λ b. cond b (Some d.1) (find R q es)) (apart o after q d.0 behind before) ∙ s.3 q behind lt,
      )

  first_step : (after : Option K) (e : K × X) (es : List (K × X)) → T (below_all R e.0 es) → is_behind R after e.0 ≡ true → Says after (e ∷ es) (Some e)
  first_step after e es h behind =
      let itself = tied_itself o e.0 in (
        ap (λ b. cond b (e ∷ left R after es) (left R after es)) behind
            ∙ ap (λ r. e ∷ r) (all_behind after e.0 es behind h ∙ sym (all_above e.0 es h))
            ∙ ap (λ r. e ∷ cond (is_lt r) (e ∷ left R (Some e.0) es) (left R (Some e.0) es)) (sym itself),
        ap (λ r. cond (is_eq r) (Some e.1) (find R e.0 es)) itself,
        behind,
        λ q b lt. ap (λ r. cond (is_eq r) (Some e.1) (find R q es)) lt ∙ none_below q e.0 es lt h,
      )

  step_at : (after : Option K) (e : K × X) (es : List (K × X)) (b : Bool) → is_behind R after e.0 ≡ b → T (below_all R e.0 es) → Says after es (first (left R after es))
      → Says after (e ∷ es) (first (left R after (e ∷ es)))
  step_at after e es true t h later = subst (Says after (e ∷ es)) (sym (ap (λ b. first (cond b (e ∷ left R after es) (left R after es))) t)) (first_step after e es h t)
  step_at after e es false t h later = subst (Says after (e ∷ es)) (sym (ap (λ b. first (cond b (e ∷ left R after es) (left R after es))) t)) (pass_by after e es (first (left R after es)) h t later)

  says : (after : Option K) (es : List (K × X)) → T (is_sorted R es) → Says after es (first (left R after es))
  says after [] h = (refl, λ q b. refl)
  says after (e ∷ es) h = step_at after e es (is_behind R after e.0) refl (halves _ _ h).0 (says after es (halves _ _ h).1)

  -- the first entry behind a key is the next one of the walk
  pub record IsFound {A B : Type 0} (key : A → K) (value : B → X) (m : FinMap R X) (after : Option K) (r : Option (A × B)) : Type 0 where
    pub least : IsNext m after (option_map (λ e. key e.0) r)
    pub held : IfSome r (λ e. get m (key e.0) ≡ Some (value e.1))
    pub step : IsStep m after (option_map (λ e. (key e.0, value e.1)) r)

  as_found : {A B : Type 0} (key : A → K) (value : B → X) (m : FinMap R X) (after : Option K) (r : Option (A × B))
      → Says after (entries m) (option_map (λ e. (key e.0, value e.1)) r) → IsFound key value m after r
  as_found key value m after None s = record { least = λ q behind. get-entries m q ∙ s.1 q behind; held = tt; step = s.0 }
  as_found key value m after (Some e) s = record {
    least = (s.2, subst (λ (w : Option X). IsSome w) (sym (get-entries m (key e.0) ∙ s.1)) refl, λ q behind lt. get-entries m q ∙ s.3 q behind lt);
    held = get-entries m (key e.0) ∙ s.1;
    step = s.0;
  }

  pub found : {A B : Type 0} (key : A → K) (value : B → X) (m : FinMap R X) (after : Option K) (r : Option (A × B))
      → option_map (λ e. (key e.0, value e.1)) r ≡ first (left R after (entries m)) → IsFound key value m after r
  found key value m after r e = as_found key value m after r (subst (Says after (entries m)) (sym e) (says after (entries m) (entries_sorted m)))

  -- the first key behind another is the next one of the walk
  pub found_key : (m : FinMap R X) (after r : Option K) → r ≡ option_map (λ e. e.0) (first (left R after (entries m))) → IsNext m after r × IsKeyStep m after r
  found_key m after r e =
      let both : (r : Option K) → Type 0 = λ r. IsNext m after r × IsKeyStep m after r in
      subst both (sym e) (at (first (left R after (entries m))) (says after (entries m) (entries_sorted m)))
    where
      at : (w : Option (K × X)) → Says after (entries m) w → IsNext m after (option_map (λ e. e.0) w) × IsKeyStep m after (option_map (λ e. e.0) w)
      at None s = ((as_found (λ k. k) (λ v. v) m after None s).least, s.0)
      at (Some d) s = ((as_found (λ k. k) (λ v. v) m after (Some d) s).least, (d.1, get-entries m d.0 ∙ s.1, s.0))

module _ {K X : Type 0} (bytes : K → List ℕ) where
  behind-keyed : (after : Option (Bor (List ℕ))) (es : List (K × X))
      → filter (λ e. is_behind (λ q k. text_order q.now (bytes k)) after e.0) es ≡ filter (λ e. is_behind text_order (option_copied after) (bytes e.0)) es
  behind-keyed None es = refl
  behind-keyed (Some q) es = refl

  abbrev pub shown : Bor K × Bor X → List ℕ × X
  shown e = (bytes e.0.now, e.1.now)

  abbrev pub lent : Bor K × Bor X → K × X
  lent e = (e.0.now, e.1.now)

  abbrev named : K × X → List ℕ × X
  named e = (bytes e.0, e.1)

  pairs_of : (r : Option (Bor K × Bor X)) → option_map shown r ≡ option_map named (option_map lent r)
  pairs_of None = refl
  pairs_of (Some e) = refl

  -- the first of a tree's entries behind some bytes is the first that the map has left
  pub first_left : (es : List (K × X)) → IsStrictlySortedBy (order_by bytes) (map (λ e. e.0) es) → (m : FinMap text_order X) → from_entries (keyed bytes es) ≡ m
      → (after : Option (Bor (List ℕ))) (r : Option (Bor K × Bor X)) → option_map lent r ≡ first (filter (λ e. is_behind (λ q k. text_order q.now (bytes k)) after e.0) es)
      → option_map shown r ≡ first (left text_order (option_copied after) (entries m))
  first_left es rising m view after r e =
      pairs_of r ∙ ap (option_map named) (e ∙ ap first (behind-keyed after es))
      ∙ first-keyed bytes (is_behind text_order (option_copied after)) es
      ∙ ap (λ l. first (left text_order (option_copied after) l)) (sym (entries-keyed bytes es rising) ∙ ap entries view)

abbrev pub text_entry : {X : Type 0} → Bor (List ℕ) × Bor X → List ℕ × X
text_entry e = (e.0.now, e.1.now)

-- the first that a map has left behind some bytes, as a call lends it
pub found_text : {X : Type 0} (m : FinMap text_order X) (after : Option (Bor (List ℕ))) (r : Option (Bor (List ℕ) × Bor X))
    → option_map text_entry r ≡ first (left text_order (option_copied after) (entries m)) → IsFound nat_list_cmp_total (λ (k : Bor (List ℕ)). k.now) (λ (v : Bor X). v.now) m (option_copied after) r
found_text m after r e = found nat_list_cmp_total (λ k. k.now) (λ v. v.now) m (option_copied after) r e
