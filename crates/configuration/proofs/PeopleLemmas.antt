-- The groups of users.
use Rattle.std.proofs.Common.{◌≡◌, ℕ, map, filter, option_map, append_assoc, not, ◌&&◌, ◌||◌, is_some, Bool, true, false, cond, List, [], ◌∷◌, ◌++◌, Option, Some, None, is_eq, bytes_eq, refl, sym, ap, ◌∙◌}
use Rattle.std.proofs.lemmas.List.{append-nil}
use Rattle.std.specs.Option.{unwrap_or}
use Rattle.std.specs.List.{list_any}
use Rattle.std.specs.FinMap.{FinMap, contains_key, get, insert, remove, get-insert, get-remove}
use Rattle.std.specs.Cmp.Lexicographic.{nat_list_cmp_total}
use Rattle.std.proofs.lemmas.Map.Text.{is_eq-slice_cmp}
use Rattle.std.proofs.lemmas.Slice.Eq.{bytes_eq-Decides}
use Rattle.std.proofs.Math.Bool.{and-false}
use Rattle.containers.specs.TextMaps.Keyed.{text_order}
use Rattle.toml.specs.Data.{Data}
use Rattle.configuration.specs.People.{Group, group_of, groups_with, names_at}
use Rattle.configuration.specs.Tables.{all_of}
use Rattle.configuration.proofs.TableLemmas.{all_of-some}

-- what the map has after one name more was put at u
pub names_at-added : (m : FinMap text_order (List (List ℕ))) (u g q : List ℕ) → names_at (insert (remove m u) u (names_at m u ++ g ∷ [])) q ≡ names_at m q ++ cond (bytes_eq q u) (g ∷ []) []
names_at-added m u g q =
    let test : is_eq (text_order q u) ≡ bytes_eq q u = is_eq-slice_cmp q u in
    let found : get (insert (remove m u) u (names_at m u ++ g ∷ [])) q ≡ cond (bytes_eq q u) (Some (names_at m u ++ g ∷ [])) (cond (bytes_eq q u) None (get m q)) =
    get-insert nat_list_cmp_total (remove m u) u (names_at m u ++ g ∷ []) q
    ∙ ap (cond (is_eq (text_order q u)) (Some (names_at m u ++ g ∷ []))) (get-remove nat_list_cmp_total m u q)
    ∙ ap (λ (b : Bool). cond b (Some (names_at m u ++ g ∷ [])) (cond b None (get m q))) test in
    ap (λ (o : Option (List (List ℕ))). unwrap_or o []) found ∙ split (bytes_eq q u) refl
  where
    split : (b : Bool) → bytes_eq q u ≡ b → unwrap_or (cond b (Some (names_at m u ++ g ∷ [])) (cond b None (get m q))) [] ≡ names_at m q ++ cond b (g ∷ []) []
    split true e = ap (λ (x : List ℕ). names_at m x ++ g ∷ []) (sym ((bytes_eq-Decides q u).0 e))
    split false e = sym (append-nil (names_at m q))

same_or : (c b : Bool) → c ≡ true → c ≡ (c || b)
same_or c b h = h ∙ sym (ap (λ (d : Bool). d || b) h)

or_false : (c : Bool) → c ≡ (c || false)
or_false true = refl
or_false false = refl

-- a user that was known already
pub known_still : {V : Type 0} (m : FinMap text_order V) (u q : List ℕ) → contains_key m u ≡ true → contains_key m q ≡ (contains_key m q || bytes_eq q u)
known_still {V} m u q h = split (bytes_eq q u) refl
  where
    split : (b : Bool) → bytes_eq q u ≡ b → contains_key m q ≡ (contains_key m q || b)
    split true e = same_or (contains_key m q) true (ap (contains_key m) ((bytes_eq-Decides q u).0 e) ∙ h)
    split false e = or_false (contains_key m q)

-- a user that is put there
pub known_more : {V : Type 0} (m : FinMap text_order V) (u q : List ℕ) (v : V) → contains_key (insert m u v) q ≡ (contains_key m q || bytes_eq q u)
known_more {V} m u q v =
    ap is_some (get-insert nat_list_cmp_total m u v q ∙ ap (λ (b : Bool). cond b (Some v) (get m q)) (is_eq-slice_cmp q u)) ∙ split (bytes_eq q u) (get m q)
  where
    split : (b : Bool) (o : Option V) → is_some (cond b (Some v) o) ≡ (is_some o || b)
    split true None = refl
    split true (Some x) = refl
    split false None = refl
    split false (Some x) = refl

-- nothing is added for a user that was known
pub adds_none : {V : Type 0} (known : FinMap text_order V) (names : List (List ℕ)) (u g q : List ℕ) → contains_key known u ≡ true → names ≡ names ++ cond (not (contains_key known q) && bytes_eq q u) (g ∷ []) []
adds_none known names u g q h = sym (append-nil names) ∙ sym (ap (λ (b : Bool). names ++ cond b (g ∷ []) []) (split (bytes_eq q u) refl))
  where
    split : (b : Bool) → bytes_eq q u ≡ b → (not (contains_key known q) && b) ≡ false
    split true e = ap (λ (d : Bool). not d && true) (ap (contains_key known) ((bytes_eq-Decides q u).0 e) ∙ h)
    split false e = and-false (not (contains_key known q))

-- one who was not known gets the group
pub adds_one : {V : Type 0} (known : FinMap text_order V) (u g q : List ℕ) → contains_key known u ≡ false → cond (bytes_eq q u) (g ∷ []) [] ≡ cond (not (contains_key known q) && bytes_eq q u) (g ∷ []) []
adds_one known u g q h = ap (λ (b : Bool). cond b (g ∷ []) []) (split (bytes_eq q u) refl)
  where
    split : (b : Bool) → bytes_eq q u ≡ b → b ≡ (not (contains_key known q) && b)
    split true e = sym (ap (λ (d : Bool). not d && true) (ap (contains_key known) ((bytes_eq-Decides q u).0 e) ∙ h))
    split false e = sym (and-false (not (contains_key known q)))

-- what is added for some users and for one more
pub added_more : (old names before : List (List ℕ)) (g : List ℕ) (was here : Bool) → before ≡ old ++ cond was (g ∷ []) [] → names ≡ before ++ cond (not was && here) (g ∷ []) [] → names ≡ old ++ cond (was || here) (g ∷ []) []
added_more old names before g true here e f = f ∙ append-nil before ∙ e
added_more old names before g false true e f = f ∙ ap (λ (l : List (List ℕ)). l ++ g ∷ []) (e ∙ append-nil old)
added_more old names before g false false e f = f ∙ append-nil before ∙ e

-- the groups of one group and of others
groups_with-cons : (g : Group) (gs : List Group) (q : List ℕ) → groups_with (g ∷ []) q ++ groups_with gs q ≡ groups_with (g ∷ gs) q
groups_with-cons g gs q = split (list_any (bytes_eq q) g.users)
  where
    split : (b : Bool) → map (λ (h : Group). h.name) (cond b (g ∷ []) []) ++ groups_with gs q ≡ map (λ (h : Group). h.name) (cond b (g ∷ filter (λ h. list_any (bytes_eq q) h.users) gs) (filter (λ h. list_any (bytes_eq q) h.users) gs))
    split true = refl
    split false = refl

pub groups_with-one : (g : Group) (q : List ℕ) → cond (list_any (bytes_eq q) g.users) (g.name ∷ []) [] ≡ groups_with (g ∷ []) q
groups_with-one g q = split (list_any (bytes_eq q) g.users)
  where
    split : (b : Bool) → cond b (g.name ∷ []) [] ≡ map (λ (h : Group). h.name) (cond b (g ∷ []) [])
    split true = refl
    split false = refl

-- one group more in a walk over groups
pub groups_step : (f h : List ℕ → List (List ℕ)) (es rest : List (List ℕ × Data)) (x : List ℕ × Data) (g : Group)
    → es ≡ x ∷ rest → group_of x ≡ Some g → ((q : List ℕ) → h q ≡ f q ++ groups_with (g ∷ []) q)
    → (q : List ℕ) → option_map (λ gs. h q ++ groups_with gs q) (all_of group_of rest) ≡ option_map (λ gs. f q ++ groups_with gs q) (all_of group_of es)
groups_step f h es rest x g is found adds q =
    sym (ap (λ (l : List (List ℕ × Data)). option_map (λ gs. f q ++ groups_with gs q) (all_of group_of l)) is
    ∙ ap (option_map (λ gs. f q ++ groups_with gs q)) (all_of-some group_of x rest g found) ∙ joined (all_of group_of rest))
  where
    joined : (o : Option (List Group)) → option_map (λ gs. f q ++ groups_with gs q) (option_map (λ ys. g ∷ ys) o) ≡ option_map (λ gs. h q ++ groups_with gs q) o
    joined None = refl
    joined (Some gs) = ap Some (ap (λ (l : List (List ℕ)). f q ++ l) (sym (groups_with-cons g gs q)) ∙ sym (append_assoc (f q) (groups_with (g ∷ []) q) (groups_with gs q)) ∙ ap (λ (l : List (List ℕ)). l ++ groups_with gs q) (sym (adds q)))

-- the walk at its end
pub groups_end : (f : List ℕ → List (List ℕ)) (o : Option (List Group)) → ((q : List ℕ) → Some (f q ++ []) ≡ option_map (λ gs. groups_with gs q) o)
    → (gs : List Group) × (o ≡ Some gs) × ((q : List ℕ) → f q ≡ groups_with gs q)
groups_end f None h = let e : Some (f [] ++ []) ≡ None = h [] in cc
groups_end f (Some gs) h = (gs, refl, λ q. let e : Some (f q ++ []) ≡ Some (groups_with gs q) = h q in let inner : f q ++ [] ≡ groups_with gs q = cc in sym (append-nil (f q)) ∙ inner)
