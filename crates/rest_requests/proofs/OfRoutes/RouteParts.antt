-- The route that is found is the one whose parts the path has.
use Rattle.std.proofs.Common.{◌≡◌, ◌⊎◌, ◌∙◌, ap, sym, subst, refl, inl, inr, ℕ, zero, suc, Bool, true, false, not, ◌&&◌, ◌||◌, List, [], ◌∷◌, drop, Option, Some, None, option_and_then}
use Rattle.std.specs.Prelude.{◌↔◌, if◌then◌else◌}
use Rattle.std.specs.List.{list_all}
use Rattle.std.specs.Str.{bytes_eq}
use Rattle.std.proofs.lemmas.Bool.{and_from, and_parts, false≢true}
use Rattle.std.proofs.lemmas.Slice.Eq.{bytes_eq-Decides}
use Rattle.matchit.specs.Seek.{or_else}
use Rattle.object_ids.specs.declared.ids.Kind.TheVariants as kind
use Rattle.rest_requests.specs.declared.routes.routes.Route.{Route}
use Rattle.rest_requests.specs.declared.routes.routes.Route.TheVariants.{Node, Domains, Acls, Acl, Collection, Object, Attributes, Attribute, Links, Link, Shape, Elem, Value}
use Rattle.rest_requests.specs.Routes.Table.{Part, word, param, table}
use Rattle.rest_requests.specs.Routes.Found.{RowsOf, after_param, after_word, ended, found, route_for, segments, unless_empty}
use Rattle.rest_requests.specs.Routes.Parts.{IsPathOf, fits, fits_path, is_any, parts_of}
use Rattle.rest_requests.specs.Queries.Pairs.{Text}

-- two lists of parts that no path has both
abbrev apart : List Part → List Part → Bool
apart [] [] = false
apart [] (q ∷ qs) = true
apart (p ∷ ps) [] = true
apart (word w ∷ ps) (word v ∷ qs) = not (bytes_eq w v) || apart ps qs
apart (word w ∷ ps) (param n ∷ qs) = apart ps qs
apart (param n ∷ ps) (word v ∷ qs) = apart ps qs
apart (param n ∷ ps) (param m ∷ qs) = apart ps qs

same_words : (w v s : Text) (b : Bool) → bytes_eq w s ≡ true → bytes_eq v s ≡ true → (not (bytes_eq w v) || b) ≡ true → b ≡ true
same_words w v s b x y e =
    let one : w ≡ v = (bytes_eq-Decides w s).0 x ∙ sym ((bytes_eq-Decides v s).0 y) in
    let same : bytes_eq w v ≡ true = (bytes_eq-Decides w v).1 one in
    subst (λ (t : Bool). (not t || b) ≡ true) same e

apart_fits : (ps qs : List Part) (ss : List Text) → apart ps qs ≡ true → fits ps ss ≡ true → fits qs ss ≡ true → ⊥
apart_fits [] [] ss e f g = false≢true e
apart_fits [] (q ∷ qs) [] e f g = false≢true g
apart_fits [] (q ∷ qs) (s ∷ ss) e f g = false≢true f
apart_fits (p ∷ ps) [] [] e f g = false≢true f
apart_fits (p ∷ ps) [] (s ∷ ss) e f g = false≢true g
apart_fits (word w ∷ ps) (word v ∷ qs) [] e f g = false≢true f
apart_fits (word w ∷ ps) (param n ∷ qs) [] e f g = false≢true f
apart_fits (param n ∷ ps) (word v ∷ qs) [] e f g = false≢true f
apart_fits (param n ∷ ps) (param m ∷ qs) [] e f g = false≢true f
apart_fits (word w ∷ ps) (word v ∷ qs) (s ∷ ss) e f g =
    let x = and_parts (bytes_eq w s) (fits ps ss) f in
    let y = and_parts (bytes_eq v s) (fits qs ss) g in
    apart_fits ps qs ss (same_words w v s (apart ps qs) x.0 y.0 e) x.1 y.1
apart_fits (word w ∷ ps) (param n ∷ qs) (s ∷ ss) e f g =
    apart_fits ps qs ss e (and_parts (bytes_eq w s) (fits ps ss) f).1 (and_parts (is_any s) (fits qs ss) g).1
apart_fits (param n ∷ ps) (word v ∷ qs) (s ∷ ss) e f g =
    apart_fits ps qs ss e (and_parts (is_any s) (fits ps ss) f).1 (and_parts (bytes_eq v s) (fits qs ss) g).1
apart_fits (param n ∷ ps) (param m ∷ qs) (s ∷ ss) e f g =
    apart_fits ps qs ss e (and_parts (is_any s) (fits ps ss) f).1 (and_parts (is_any s) (fits qs ss) g).1

module _ {K : Type 0} where
  -- a row of this key has the parts
  abbrev Fitting : List Text → K → RowsOf K → Type 0
  Fitting ss k [] = ⊥
  Fitting ss k ((ps, x) ∷ rest) = ((fits ps ss ≡ true) × (x ≡ k)) ⊎ Fitting ss k rest

  -- no path has the parts of two rows
  abbrev all_apart : RowsOf K → Bool
  all_apart [] = true
  all_apart ((ps, x) ∷ rest) = list_all (λ row. apart ps row.0) rest && all_apart rest

  some_none : {x : K} → Some x ≡ None → ⊥
  some_none e = cc

  none_some : {x : K} → None ≡ Some x → ⊥
  none_some e = cc

  same_some : {x y : K} → Some x ≡ Some y → x ≡ y
  same_some e = cc

  -- ---- what is found fits

  ended_fits : (R : RowsOf K) (k : K) → ended R ≡ Some k → Fitting [] k R
  ended_fits [] k e = none_some e
  ended_fits (([], x) ∷ rest) k e = inl (refl, same_some e)
  ended_fits ((p ∷ ps, x) ∷ rest) k e = inr (ended_fits rest k e)

  word_case : (b : Bool) (w s : Text) (ps : List Part) (ss : List Text) (x k : K) (rest : RowsOf K) → bytes_eq w s ≡ b
      → (Fitting ss k (after_word s rest) → Fitting (s ∷ ss) k rest)
      → Fitting ss k (if b then (ps, x) ∷ after_word s rest else after_word s rest) → Fitting (s ∷ ss) k ((word w ∷ ps, x) ∷ rest)
  word_case true w s ps ss x k rest e go (inl h) = inl (and_from (bytes_eq w s) (fits ps ss) e h.0, h.1)
  word_case true w s ps ss x k rest e go (inr h) = inr (go h)
  word_case false w s ps ss x k rest e go h = inr (go h)

  word_fits : (s : Text) (ss : List Text) (k : K) (R : RowsOf K) → Fitting ss k (after_word s R) → Fitting (s ∷ ss) k R
  word_fits s ss k [] h = h
  word_fits s ss k (([], x) ∷ rest) h = inr (word_fits s ss k rest h)
  word_fits s ss k ((word w ∷ ps, x) ∷ rest) h = word_case (bytes_eq w s) w s ps ss x k rest refl (word_fits s ss k rest) h
  word_fits s ss k ((param n ∷ ps, x) ∷ rest) h = inr (word_fits s ss k rest h)

  param_fits : (b : ℕ) (s : Text) (ss : List Text) (k : K) (R : RowsOf K) → Fitting ss k (after_param R) → Fitting ((b ∷ s) ∷ ss) k R
  param_fits b s ss k [] h = h
  param_fits b s ss k (([], x) ∷ rest) h = inr (param_fits b s ss k rest h)
  param_fits b s ss k ((word w ∷ ps, x) ∷ rest) h = inr (param_fits b s ss k rest h)
  param_fits b s ss k ((param n ∷ ps, x) ∷ rest) (inl h) = inl h
  param_fits b s ss k ((param n ∷ ps, x) ∷ rest) (inr h) = inr (param_fits b s ss k rest h)

  unless_fits : (s : Text) (ss : List Text) (k : K) (R : RowsOf K) (o : Option K) → unless_empty s o ≡ Some k
      → (o ≡ Some k → Fitting ss k (after_param R)) → Fitting (s ∷ ss) k R
  unless_fits [] ss k R o e go = absurd (none_some e)
  unless_fits (b ∷ s) ss k R o e go = param_fits b s ss k R (go e)

  either_fits : (s : Text) (ss : List Text) (k : K) (R : RowsOf K) (o : Option K) → or_else o (unless_empty s (found (after_param R) ss)) ≡ Some k
      → (o ≡ Some k → Fitting ss k (after_word s R)) → (found (after_param R) ss ≡ Some k → Fitting ss k (after_param R)) → Fitting (s ∷ ss) k R
  either_fits s ss k R (Some x) e by_word by_param = word_fits s ss k R (by_word e)
  either_fits s ss k R None e by_word by_param = unless_fits s ss k R (found (after_param R) ss) e by_param

  found_fits : (ss : List Text) (R : RowsOf K) (k : K) → found R ss ≡ Some k → Fitting ss k R
  found_fits [] R k e = ended_fits R k e
  found_fits (s ∷ ss) R k e =
      either_fits s ss k R (found (after_word s R) ss) e (found_fits ss (after_word s R) k) (found_fits ss (after_param R) k)

  -- ---- what fits is found

  ended_some : (k : K) (R : RowsOf K) → Fitting [] k R → ended R ≡ None → ⊥
  ended_some k [] h e = h
  ended_some k (([], x) ∷ rest) h e = some_none e
  ended_some k ((p ∷ ps, x) ∷ rest) (inl h) e = false≢true h.0
  ended_some k ((p ∷ ps, x) ∷ rest) (inr h) e = ended_some k rest h e

  abbrev Goes : Text → List Text → K → RowsOf K → Type 0
  Goes s ss k R = Fitting ss k (after_word s R) ⊎ ((is_any s ≡ true) × Fitting ss k (after_param R))

  kept_word : (b : Bool) (s : Text) (ps : List Part) (ss : List Text) (x k : K) (rest : RowsOf K) → Fitting ss k (after_word s rest)
      → Fitting ss k (if b then (ps, x) ∷ after_word s rest else after_word s rest)
  kept_word true s ps ss x k rest h = inr h
  kept_word false s ps ss x k rest h = h

  past_word : (w s : Text) (ps : List Part) (ss : List Text) (x k : K) (rest : RowsOf K) → Goes s ss k rest → Goes s ss k ((word w ∷ ps, x) ∷ rest)
  past_word w s ps ss x k rest (inl h) = inl (kept_word (bytes_eq w s) s ps ss x k rest h)
  past_word w s ps ss x k rest (inr h) = inr h

  past_param : (s : Text) (n : Text) (ps : List Part) (ss : List Text) (x k : K) (rest : RowsOf K) → Goes s ss k rest
      → Goes s ss k ((param n ∷ ps, x) ∷ rest)
  past_param s n ps ss x k rest (inl h) = inl h
  past_param s n ps ss x k rest (inr h) = inr (h.0, inr h.1)

  goes : (s : Text) (ss : List Text) (k : K) (R : RowsOf K) → Fitting (s ∷ ss) k R → Goes s ss k R
  goes s ss k [] h = absurd h
  goes s ss k (([], x) ∷ rest) (inl h) = absurd (false≢true h.0)
  goes s ss k (([], x) ∷ rest) (inr h) = goes s ss k rest h
  goes s ss k ((word w ∷ ps, x) ∷ rest) (inl h) =
      let fit = and_parts (bytes_eq w s) (fits ps ss) h.0 in
      inl (subst (λ (b : Bool). Fitting ss k (if b then (ps, x) ∷ after_word s rest else after_word s rest)) (sym fit.0) (inl (fit.1, h.1)))
  goes s ss k ((word w ∷ ps, x) ∷ rest) (inr h) = past_word w s ps ss x k rest (goes s ss k rest h)
  goes s ss k ((param n ∷ ps, x) ∷ rest) (inl h) =
      let fit = and_parts (is_any s) (fits ps ss) h.0 in inr (fit.0, inl (fit.1, h.1))
  goes s ss k ((param n ∷ ps, x) ∷ rest) (inr h) = past_param s n ps ss x k rest (goes s ss k rest h)

  neither : (a b : Option K) → or_else a b ≡ None → (a ≡ None) × (b ≡ None)
  neither None b e = (refl, e)
  neither (Some k) b e = absurd (some_none e)

  not_empty : (s : Text) (o : Option K) → is_any s ≡ true → unless_empty s o ≡ None → o ≡ None
  not_empty [] o any e = absurd (false≢true any)
  not_empty (b ∷ s) o any e = e

  found_none : (s : Text) (ss : List Text) (k : K) (R : RowsOf K) → Goes s ss k R
      → (Fitting ss k (after_word s R) → found (after_word s R) ss ≡ None → ⊥)
      → (Fitting ss k (after_param R) → found (after_param R) ss ≡ None → ⊥)
      → (found (after_word s R) ss ≡ None) × (unless_empty s (found (after_param R) ss) ≡ None) → ⊥
  found_none s ss k R (inl h) by_word by_param none = by_word h none.0
  found_none s ss k R (inr h) by_word by_param none = by_param h.1 (not_empty s (found (after_param R) ss) h.0 none.1)

  fitting_found : (ss : List Text) (R : RowsOf K) (k : K) → Fitting ss k R → found R ss ≡ None → ⊥
  fitting_found [] R k h e = ended_some k R h e
  fitting_found (s ∷ ss) R k h e =
      found_none s ss k R (goes s ss k R h) (fitting_found ss (after_word s R) k) (fitting_found ss (after_param R) k)
      (neither (found (after_word s R) ss) (unless_empty s (found (after_param R) ss)) e)

  -- ---- only one fits

  none_beside : (ps : List Part) (ss : List Text) (k : K) (R : RowsOf K) → fits ps ss ≡ true → list_all (λ row. apart ps row.0) R ≡ true
      → Fitting ss k R → ⊥
  none_beside ps ss k [] f e h = h
  none_beside ps ss k ((qs, x) ∷ rest) f e (inl h) =
      apart_fits ps qs ss (and_parts (apart ps qs) (list_all (λ row. apart ps row.0) rest) e).0 f h.0
  none_beside ps ss k ((qs, x) ∷ rest) f e (inr h) =
      none_beside ps ss k rest f (and_parts (apart ps qs) (list_all (λ row. apart ps row.0) rest) e).1 h

  one_fits : (ss : List Text) (a b : K) (R : RowsOf K) → all_apart R ≡ true → Fitting ss a R → Fitting ss b R → a ≡ b
  one_fits ss a b [] e f g = absurd f
  one_fits ss a b ((ps, x) ∷ rest) e (inl f) (inl g) = sym f.1 ∙ g.1
  one_fits ss a b ((ps, x) ∷ rest) e (inl f) (inr g) =
      absurd (none_beside ps ss b rest f.0 (and_parts (list_all (λ row. apart ps row.0) rest) (all_apart rest) e).0 g)
  one_fits ss a b ((ps, x) ∷ rest) e (inr f) (inl g) =
      absurd (none_beside ps ss a rest g.0 (and_parts (list_all (λ row. apart ps row.0) rest) (all_apart rest) e).0 f)
  one_fits ss a b ((ps, x) ∷ rest) e (inr f) (inr g) =
      one_fits ss a b rest (and_parts (list_all (λ row. apart ps row.0) rest) (all_apart rest) e).1 f g

  behind : (n : ℕ) (ss : List Text) (k : K) (R : RowsOf K) → Fitting ss k (drop n R) → Fitting ss k R
  behind zero ss k R h = h
  behind (suc n) ss k [] h = h
  behind (suc n) ss k ((ps, x) ∷ rest) h = inr (behind n ss k rest h)

-- ---- the table

-- each row has the parts of its route
abbrev AllOwn : RowsOf Route → Type 0
AllOwn [] = Unit {0}
AllOwn ((ps, route) ∷ rest) = (ps ≡ parts_of route) × AllOwn rest

table_own : AllOwn table
table_own = (refl, (refl, (refl, (refl, (refl, (refl, (refl, (refl, (refl, (refl, (refl, (refl, (refl, (refl, (refl, (refl, (refl, (refl, (refl, (refl, (refl, tt)))))))))))))))))))))

own_fits : (ss : List Text) (k : Route) (R : RowsOf Route) → AllOwn R → Fitting ss k R → fits (parts_of k) ss ≡ true
own_fits ss k [] own h = absurd h
own_fits ss k ((ps, route) ∷ rest) own (inl h) =
    ap (λ (r : Route). fits (parts_of r) ss) (sym h.1) ∙ ap (λ (qs : List Part). fits qs ss) (sym own.0) ∙ h.0
own_fits ss k ((ps, route) ∷ rest) own (inr h) = own_fits ss k rest own.1 h

-- each route has a row
row_fits : (route : Route) (ss : List Text) → fits (parts_of route) ss ≡ true → Fitting ss route table
row_fits Acl ss h = behind 0 ss _ table (inl (h, refl))
row_fits Acls ss h = behind 1 ss _ table (inl (h, refl))
row_fits (Attribute kind.Dataset) ss h = behind 2 ss _ table (inl (h, refl))
row_fits (Attributes kind.Dataset) ss h = behind 3 ss _ table (inl (h, refl))
row_fits Shape ss h = behind 4 ss _ table (inl (h, refl))
row_fits Elem ss h = behind 5 ss _ table (inl (h, refl))
row_fits Value ss h = behind 6 ss _ table (inl (h, refl))
row_fits (Object kind.Dataset) ss h = behind 7 ss _ table (inl (h, refl))
row_fits (Collection kind.Dataset) ss h = behind 8 ss _ table (inl (h, refl))
row_fits (Attribute kind.Datatype) ss h = behind 9 ss _ table (inl (h, refl))
row_fits (Attributes kind.Datatype) ss h = behind 10 ss _ table (inl (h, refl))
row_fits (Object kind.Datatype) ss h = behind 11 ss _ table (inl (h, refl))
row_fits (Collection kind.Datatype) ss h = behind 12 ss _ table (inl (h, refl))
row_fits Domains ss h = behind 13 ss _ table (inl (h, refl))
row_fits (Attribute kind.Group) ss h = behind 14 ss _ table (inl (h, refl))
row_fits (Attributes kind.Group) ss h = behind 15 ss _ table (inl (h, refl))
row_fits Link ss h = behind 16 ss _ table (inl (h, refl))
row_fits Links ss h = behind 17 ss _ table (inl (h, refl))
row_fits (Object kind.Group) ss h = behind 18 ss _ table (inl (h, refl))
row_fits (Collection kind.Group) ss h = behind 19 ss _ table (inl (h, refl))
row_fits Node ss h = behind 20 ss _ table (inl (h, refl))

one_found : (ss : List Text) (route : Route) → Fitting ss route table → (o : Option Route) → found table ss ≡ o → found table ss ≡ Some route
one_found ss route h None e = absurd (fitting_found ss table route h e)
one_found ss route h (Some k) e = e ∙ ap Some (one_fits ss k route table refl (found_fits ss table k e) h)

by_segments : (o : Option (List Text)) (route : Route) → (option_and_then (found table) o ≡ Some route) ↔ (fits_path (parts_of route) o ≡ true)
by_segments None route = ((λ e. absurd (none_some e)), (λ e. absurd (false≢true e)))
by_segments (Some ss) route = (
  (λ e. own_fits ss route table table_own (found_fits ss table route e)),
  (λ h. one_found ss route (row_fits route ss h) (found table ss) refl),
)

-- a path names just the route whose parts it has
pub route_parts : (path : Text) (route : Route) → (route_for path ≡ Some route) ↔ IsPathOf route path
route_parts path route = by_segments (segments path) route
