-- The table's rows, and the parts of a path.
use Rattle.std.proofs.Common.{◌≡◌, ◌∙◌, ap, ap₂, sym, refl, ℕ, suc, ◌<◌, Bool, true, false, not, ◌&&◌, ◌==◌, List, [], ◌∷◌, map, drop, Option, Some, None, arith, option_map, option_and_then, get_or}
use Rattle.std.specs.Prelude.{if◌then◌else◌}
use Rattle.std.specs.List.{onto_first, slice_split}
use Rattle.std.specs.Str.{bytes_eq}
use Rattle.std.proofs.lemmas.Bool.{eqb-true}
use Rattle.std.proofs.lemmas.Bool.Decides.{nat_tests}
use Rattle.matchit.specs.Seek.{first, or_else}
use Rattle.matchit.specs.Rows as r
use Rattle.matchit.specs.Router.{RouteOf}
use Rattle.object_ids.specs.Paths.{is_slash}
use Rattle.rest_requests.specs.Routes.Table.{Row, word, param, table}
use Rattle.rest_requests.specs.Routes.Rows.{shown}
use Rattle.rest_requests.specs.Routes.Found.{RowsOf, after_param, after_word, ended, found, unless_empty, route_for}
use Rattle.rest_requests.specs.declared.routes.routes.Route.{Route}
use Rattle.rest_requests.proofs.OfRoutes.Segments.{are_parts, is_part, is_part_byte, path_of, rows, seek_parts, seek_end, seek_other}
use Rattle.rest_requests.specs.Queries.Pairs.{Text}

-- ---- keys

module _ {K L : Type 0} (f : K → L) where
  abbrev rekey : RowsOf K → RowsOf L
  rekey [] = []
  rekey ((ps, k) ∷ rest) = (ps, f k) ∷ rekey rest

  rekey_word : (s : Text) (R : RowsOf K) → after_word s (rekey R) ≡ rekey (after_word s R)
  rekey_word s [] = refl
  rekey_word s (([], k) ∷ rest) = rekey_word s rest
  rekey_word s ((word w ∷ ps, k) ∷ rest) = go (bytes_eq w s) (rekey_word s rest)
    where
      go : (b : Bool) → after_word s (rekey rest) ≡ rekey (after_word s rest)
          → (if b then (ps, f k) ∷ after_word s (rekey rest) else after_word s (rekey rest)) ≡ rekey (if b then (ps, k) ∷ after_word s rest else after_word s rest)
      go true e = ap (λ (z : RowsOf L). (ps, f k) ∷ z) e
      go false e = e
  rekey_word s ((param n ∷ ps, k) ∷ rest) = rekey_word s rest

  rekey_param : (R : RowsOf K) → after_param (rekey R) ≡ rekey (after_param R)
  rekey_param [] = refl
  rekey_param (([], k) ∷ rest) = rekey_param rest
  rekey_param ((word w ∷ ps, k) ∷ rest) = rekey_param rest
  rekey_param ((param n ∷ ps, k) ∷ rest) = ap (λ (z : RowsOf L). (ps, f k) ∷ z) (rekey_param rest)

  rekey_ended : (R : RowsOf K) → ended (rekey R) ≡ option_map f (ended R)
  rekey_ended [] = refl
  rekey_ended (([], k) ∷ rest) = refl
  rekey_ended ((p ∷ ps, k) ∷ rest) = rekey_ended rest

  map_or : (a b : Option K) → or_else (option_map f a) (option_map f b) ≡ option_map f (or_else a b)
  map_or None b = refl
  map_or (Some k) b = refl

  map_unless : (s : Text) (o : Option K) → unless_empty s (option_map f o) ≡ option_map f (unless_empty s o)
  map_unless [] o = refl
  map_unless (b ∷ s) o = refl

  rekey_found : (ss : List Text) (R : RowsOf K) → found (rekey R) ss ≡ option_map f (found R ss)
  rekey_found [] R = rekey_ended R
  rekey_found (s ∷ ss) R =
      ap₂ (λ (x y : RowsOf L). or_else (found x ss) (unless_empty s (found y ss))) (rekey_word s R) (rekey_param R)
      ∙ ap₂ (λ (x y : Option L). or_else x (unless_empty s y)) (rekey_found ss (after_word s R)) (rekey_found ss (after_param R))
      ∙ ap (or_else (option_map f (found (after_word s R) ss))) (map_unless s (found (after_param R) ss))
      ∙ map_or (found (after_word s R) ss) (unless_empty s (found (after_param R) ss))

-- ---- parts

joined_first : (b : ℕ) (ss : List Text) (rest : Text) → path_of ss ≡ 47 ∷ rest → path_of (onto_first b ss) ≡ 47 ∷ b ∷ rest
joined_first b [] rest e = cc
joined_first b (s ∷ ss) rest e = ap (λ (l : Text). 47 ∷ b ∷ drop 1 l) e

joined : (rest : Text) → path_of (slice_split is_slash rest) ≡ 47 ∷ rest
joined [] = refl
joined (b ∷ rest) = go (b == 47) refl (joined rest)
  where
    go : (t : Bool) → (b == 47) ≡ t → path_of (slice_split is_slash rest) ≡ 47 ∷ rest
        → path_of (if t then [] ∷ slice_split is_slash rest else onto_first b (slice_split is_slash rest)) ≡ 47 ∷ b ∷ rest
    go true is e = ap (λ (l : Text). 47 ∷ l) e ∙ ap (λ (x : ℕ). 47 ∷ x ∷ rest) (sym (eqb-true b 47 is))
    go false is e = joined_first b (slice_split is_slash rest) rest e

-- a byte
abbrev pub AreBytes : Text → Type 0
AreBytes [] = Unit {0}
AreBytes (b ∷ rest) = (b < 256) × AreBytes rest

part_of_byte : (b : ℕ) → b < 256 → (b == 47) ≡ false → is_part_byte b ≡ true
part_of_byte b lt is =
    let x : (b == 256) ≡ false = grind (arith, nat_tests) in
    let y : (b == 257) ≡ false = grind (arith, nat_tests) in
    ap₂ (λ (p q : Bool). not p && q) is (ap₂ (λ (p q : Bool). not p && not q) x y)

first_parts : (b : ℕ) (ss : List Text) → is_part_byte b ≡ true → are_parts ss ≡ true → are_parts (onto_first b ss) ≡ true
first_parts b [] x e = ap (λ (t : Bool). (t && true) && true) x
first_parts b (s ∷ ss) x e = ap (λ (t : Bool). (t && is_part s) && are_parts ss) x ∙ e

good_parts : (rest : Text) → AreBytes rest → are_parts (slice_split is_slash rest) ≡ true
good_parts [] h = refl
good_parts (b ∷ rest) h = go (b == 47) refl (good_parts rest h.1)
  where
    go : (t : Bool) → (b == 47) ≡ t → are_parts (slice_split is_slash rest) ≡ true
        → are_parts (if t then [] ∷ slice_split is_slash rest else onto_first b (slice_split is_slash rest)) ≡ true
    go true is e = e
    go false is e = first_parts b (slice_split is_slash rest) (part_of_byte b h.0 is) e

abbrev keyed : List Row → RowsOf (RouteOf Route)
keyed [] = []
keyed (x ∷ rest) = (x.0, (shown x).1) ∷ keyed rest

-- what `matchit` finds is the route of the path
pub found_is : (path : Text) → AreBytes path → option_map (λ (x : RouteOf Route). x.value) (first (map shown table) path) ≡ route_for path
found_is [] h = ap (option_map (λ (x : RouteOf Route). x.value)) (seek_end (map shown table) 0)
found_is (b ∷ rest) h = go (b == 47) refl
  where
    go : (t : Bool) → (b == 47) ≡ t
        → option_map (λ (x : RouteOf Route). x.value) (first (map shown table) (b ∷ rest)) ≡ option_and_then (found table) (if t then Some (slice_split is_slash rest) else None)
    go true is =
        ap (λ (p : Text). option_map (λ (x : RouteOf Route). x.value) (first (map shown table) p)) (ap (λ (x : ℕ). x ∷ rest) (eqb-true b 47 is) ∙ sym (joined rest))
        ∙ ap (option_map (λ (x : RouteOf Route). x.value)) (seek_parts (slice_split is_slash rest) (keyed table) (good_parts rest h.1) refl)
        ∙ sym (rekey_found (λ (x : RouteOf Route). x.value) (slice_split is_slash rest) (keyed table))
    go false is = ap (option_map (λ (x : RouteOf Route). x.value)) (seek_other (keyed table) b rest h.0 is)

pub are_bytes : (path : Text) → ((i : ℕ) → get_or path i 0 < 256) → AreBytes path
are_bytes [] h = tt
are_bytes (b ∷ rest) h = (h 0, are_bytes rest (λ i. h (suc i)))

pub value_is : (path : Text) (rows : r.RowsOf (RouteOf Route)) (o : Option (RouteOf Route)) → rows ≡ map shown table → AreBytes path → first rows path ≡ o
    → option_map (λ (x : RouteOf Route). x.value) o ≡ route_for path
value_is path rows o is bytes e =
    ap (option_map (λ (x : RouteOf Route). x.value)) (sym e ∙ ap (λ (R : r.RowsOf (RouteOf Route)). first R path) is) ∙ found_is path bytes
