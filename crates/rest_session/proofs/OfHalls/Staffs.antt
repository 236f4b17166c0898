-- A list of workers at doors, and behind them one without a door.
use Rattle.std.proofs.Common.{◌≡◌, ℕ, zero, suc, List, [], ◌∷◌, ◌++◌, length, map, Option, Some, None, true, false, refl, sym, ap, ◌∙◌, subst}
use Rattle.std.specs.Prelude.{All, IsSome, is_some, reverse}
use Rattle.std.specs.List.{slice_get}
use Rattle.std.proofs.lemmas.List.{map-append, reverse-reverse}
use Rattle.rest_session.proofs.OfHalls.Lists.{all_map, all_none, reverse_cons, reverse_push}
use Rattle.std.proofs.lemmas.List.Elements.{All-cons}

module _ {X : Type 0} where
  pub last_same : (xs ys : List X) (x y : X) → xs ++ x ∷ [] ≡ ys ++ y ∷ [] → (xs ≡ ys) × (x ≡ y)
  last_same xs ys x y e =
      let back : x ∷ reverse xs ≡ y ∷ reverse ys = sym (reverse_push xs x) ∙ ap reverse e ∙ reverse_push ys y in
      let last : x ≡ y = cc in
      let front : reverse xs ≡ reverse ys = cc in
      (sym (reverse-reverse xs) ∙ ap reverse front ∙ reverse-reverse ys, last)

  -- an element of the front is at the same place of the whole
  pub get_front : (xs ys : List X) (i : ℕ) (x : X) → slice_get xs i ≡ Some x → slice_get (xs ++ ys) i ≡ Some x
  get_front [] ys i x e = absurd (let none : None ≡ Some x = e in cc)
  get_front (z ∷ xs) ys zero x e = e
  get_front (z ∷ xs) ys (suc i) x e = get_front xs ys i x e

  pub get_last : (xs : List X) (x : X) → slice_get (xs ++ x ∷ []) (length xs) ≡ Some x
  get_last [] x = refl
  get_last (z ∷ xs) x = get_last xs x

pub map_reverse : {X Y : Type 0} (f : X → Y) (xs : List X) → map f (reverse xs) ≡ reverse (map f xs)
map_reverse f [] = refl
map_reverse f (x ∷ xs) =
    ap (map f) (reverse_cons x xs) ∙ map-append f (reverse xs) (x ∷ []) ∙ ap (λ l. l ++ f x ∷ []) (map_reverse f xs) ∙ sym (reverse_cons (f x) (map f xs))

-- doors, with none behind them
abbrev pub WithNone : {F : Type 0} → List F → List (Option F)
WithNone ds = map (λ d. Some d) ds ++ None ∷ []

module _ {F : Type 0} where
  all_some : (ds : List F) → All (λ (o : Option F). IsSome o) (map (λ d. Some d) ds)
  all_some [] = all_none (λ (o : Option F). IsSome o)
  all_some (d ∷ ds) = All-cons (λ (o : Option F). IsSome o) (Some d) (map (λ d. Some d) ds) refl (all_some ds)

  -- where there is a door at each
  pub at_doors : {W : Type 0} (f : W → Option F) (ws : List W) (ds : List F) → map f ws ≡ map (λ d. Some d) ds → All (λ w. IsSome (f w)) ws
  at_doors f ws ds e = all_map (λ (o : Option F). IsSome o) f ws (subst (All (λ (o : Option F). IsSome o)) (sym e) (all_some ds))

  pub some_injective : (xs ys : List F) → map (λ d. Some d) xs ≡ map (λ d. Some d) ys → xs ≡ ys
  some_injective [] [] e = refl
  some_injective [] (y ∷ ys) e = absurd (let n : [] ≡ Some y ∷ map (λ d. Some d) ys = e in cc)
  some_injective (x ∷ xs) [] e = absurd (let n : Some x ∷ map (λ d. Some d) xs ≡ [] = e in cc)
  some_injective (x ∷ xs) (y ∷ ys) e =
      let here : x ≡ y = (let h : Some x ∷ map (λ d. Some d) xs ≡ Some y ∷ map (λ d. Some d) ys = e in cc) in
      let more : map (λ d. Some d) xs ≡ map (λ d. Some d) ys = (let h : Some x ∷ map (λ d. Some d) xs ≡ Some y ∷ map (λ d. Some d) ys = e in cc) in
      (λ i. here i ∷ some_injective xs ys more i)

  -- a list with doors where another one has them
  pub staffed : (os : List (Option F)) (ds : List F) → map is_some os ≡ map is_some (WithNone ds) → (now : List F) × (os ≡ WithNone now) × (length now ≡ length ds)
  staffed [] [] e = absurd (let n : [] ≡ false ∷ [] = e in cc)
  staffed [] (d ∷ ds) e = absurd (let n : [] ≡ true ∷ map is_some (WithNone ds) = e in cc)
  staffed (None ∷ []) [] e = ([], refl, refl)
  staffed (None ∷ o ∷ os) [] e = absurd (let n : false ∷ is_some o ∷ map is_some os ≡ false ∷ [] = e in cc)
  staffed (Some x ∷ os) [] e = absurd (let n : true ∷ map is_some os ≡ false ∷ [] = e in cc)
  staffed (None ∷ os) (d ∷ ds) e = absurd (let n : false ∷ map is_some os ≡ true ∷ map is_some (WithNone ds) = e in cc)
  staffed (Some x ∷ os) (d ∷ ds) e =
      let more : map is_some os ≡ map is_some (WithNone ds) = (let h : true ∷ map is_some os ≡ true ∷ map is_some (WithNone ds) = e in cc) in
      let r = staffed os ds more in
      (x ∷ r.0, ap (λ l. Some x ∷ l) r.1, ap suc r.2)
