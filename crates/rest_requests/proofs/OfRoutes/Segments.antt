-- What `matchit` finds byte by byte, by the parts of a path.
use Rattle.std.proofs.Common.{◌≡◌, ◌∙◌, ap, ap₂, sym, refl, ℕ, zero, suc, ◌-◌, Bool, true, false, not, ◌&&◌, ◌==◌, List, [], ◌∷◌, ◌++◌, length, drop, Option, Some, None, arith, ◌<◌}
use Rattle.std.specs.Prelude.{cond, if◌then◌else◌, ltb, nat_eq}
use Rattle.std.specs.List.{list_all}
use Rattle.std.specs.Cmp.Lexicographic.{pointwise}
use Rattle.std.specs.Str.{bytes_eq}
use Rattle.std.proofs.lemmas.Bool.{and_parts, not-true}
use Rattle.std.proofs.lemmas.Bool.Decides.{nat_tests}
use Rattle.std.proofs.Math.Bool.{and-false}
use Rattle.std.proofs.lemmas.List.{drop_at, length-append}
use Rattle.matchit.specs.Seek.{own, step, seek, or_else, param_step, longest_from, cuts, segment, has_slash, with_suffix}
use Rattle.matchit.specs.Rows as r
use Rattle.rest_requests.specs.Routes.Table.{Part, word, param}
use Rattle.rest_requests.specs.Routes.Rows.{tokens_of, pattern_of}
use Rattle.rest_requests.specs.Routes.Found.{RowsOf, after_param, after_word, ended, found}
use Rattle.rest_requests.specs.Queries.Pairs.{Text}

-- the path of parts
abbrev pub path_of : List Text → Text
path_of [] = []
path_of (s ∷ ss) = 47 ∷ (s ++ path_of ss)

-- no slash, and none of `matchit`'s own tokens
abbrev pub is_part_byte : ℕ → Bool
is_part_byte b = not (b == 47) && (not (b == 256) && not (b == 257))

abbrev pub is_part : Text → Bool
is_part s = list_all is_part_byte s

abbrev pub has_good_words : List Part → Bool
has_good_words [] = true
has_good_words (word w ∷ ps) = is_part w && has_good_words ps
has_good_words (param n ∷ ps) = has_good_words ps

flip_eq : (a b : ℕ) → (a == b) ≡ false → (b == a) ≡ false
flip_eq a b e = grind (arith, nat_tests)

append_nil : {X : Type 0} (xs : List X) → xs ++ [] ≡ xs
append_nil [] = refl
append_nil (x ∷ xs) = ap (λ l. x ∷ l) (append_nil xs)

record IsPartByte (b : ℕ) : Type 0 where
  no_slash : (b == 47) ≡ false
  no_param : (b == 256) ≡ false
  no_rest : (b == 257) ≡ false

part_byte : (b : ℕ) → is_part_byte b ≡ true → IsPartByte b
part_byte b e =
    let h = and_parts (not (b == 47)) (not (b == 256) && not (b == 257)) e in
    let k = and_parts (not (b == 256)) (not (b == 257)) h.1 in
    record { no_slash = not-true _ h.0; no_param = not-true _ k.0; no_rest = not-true _ k.1 }

part_cons : (b : ℕ) (s : Text) → is_part (b ∷ s) ≡ true → IsPartByte b × (is_part s ≡ true)
part_cons b s e = let h = and_parts (is_part_byte b) (is_part s) e in (part_byte b h.0, h.1)

abbrev Lits : Type 0 → Type 0
Lits K = List (Text × (List Part × K))

abbrev Off : ℕ → Text → Type 0
Off t [] = Unit {0}
Off t (x ∷ xs) = (x == t) ≡ false

off_param : (w : Text) → is_part w ≡ true → Off 256 w
off_param [] e = tt
off_param (x ∷ w) e = (part_cons x w e).0.no_param

off_rest : (w : Text) → is_part w ≡ true → Off 257 w
off_rest [] e = tt
off_rest (x ∷ w) e = (part_cons x w e).0.no_rest

-- ---- texts

seg_free : (s : Text) → is_part s ≡ true → segment s ≡ s
seg_free [] e = refl
seg_free (b ∷ s) e = let h = part_cons b s e in
    ap (λ (t : Bool). cond t (b ∷ []) (b ∷ segment s)) h.0.no_slash ∙ ap (λ (l : Text). b ∷ l) (seg_free s h.1)

seg_slash : (s q : Text) → is_part s ≡ true → segment (s ++ 47 ∷ q) ≡ s ++ 47 ∷ []
seg_slash [] q e = refl
seg_slash (b ∷ s) q e = let h = part_cons b s e in
    ap (λ (t : Bool). cond t (b ∷ []) (b ∷ segment (s ++ 47 ∷ q))) h.0.no_slash ∙ ap (λ (l : Text). b ∷ l) (seg_slash s q h.1)

slash_free : (s : Text) → is_part s ≡ true → has_slash s ≡ false
slash_free [] e = refl
slash_free (b ∷ s) e = let h = part_cons b s e in
    ap (λ (t : Bool). cond t true (has_slash s)) h.0.no_slash ∙ slash_free s h.1

slash_in : (s q : Text) → has_slash (s ++ 47 ∷ q) ≡ true
slash_in [] q = refl
slash_in (b ∷ s) q = go (b == 47) (slash_in s q)
  where
    go : (t : Bool) → has_slash (s ++ 47 ∷ q) ≡ true → cond t true (has_slash (s ++ 47 ∷ q)) ≡ true
    go true e = refl
    go false e = e

no_end : (n : ℕ) (s : Text) → is_part s ≡ true → pointwise nat_eq (47 ∷ []) (drop n s) ≡ false
no_end zero [] e = refl
no_end zero (b ∷ s) e = ap (λ (t : Bool). t && pointwise nat_eq [] s) (flip_eq b 47 (part_cons b s e).0.no_slash)
no_end (suc n) [] e = refl
no_end (suc n) (b ∷ s) e = no_end n s (part_cons b s e).1

cuts_free : (s : Text) → is_part s ≡ true → cuts s (47 ∷ []) ≡ false
cuts_free s e = ap (λ (t : Bool). ltb 1 (length s) && t) (no_end (length s - 1) s e) ∙ and-false (ltb 1 (length s))

is_long : (b : ℕ) (s : Text) → ltb 1 (length (b ∷ (s ++ 47 ∷ []))) ≡ true
is_long b s =
    let h : 1 < length (b ∷ (s ++ 47 ∷ [])) = simp length-append (omega arith) in
    grind (arith, nat_tests)

less_one : (b : ℕ) (s : Text) → length (b ∷ (s ++ 47 ∷ [])) - 1 ≡ length (b ∷ s)
less_one b s = simp length-append (omega arith)

cuts_slash : (b : ℕ) (s : Text) → cuts (b ∷ (s ++ 47 ∷ [])) (47 ∷ []) ≡ true
cuts_slash b s = ap₂ (λ (x y : Bool). x && y) (is_long b s)
    (ap (λ (n : ℕ). pointwise nat_eq (47 ∷ []) (drop n (b ∷ (s ++ 47 ∷ [])))) (less_one b s)
    ∙ ap (λ (l : Text). pointwise nat_eq (47 ∷ []) l) (drop_at (b ∷ s) (47 ∷ []) (length (b ∷ s)) refl))

abbrev pub are_parts : List Text → Bool
are_parts = list_all is_part

module _ {K : Type 0} where
  abbrev pub rows : RowsOf K → r.RowsOf K
  rows [] = []
  rows ((ps, k) ∷ rest) = (pattern_of ps, k) ∷ rows rest

  -- the rows after a slash
  abbrev mid : RowsOf K → r.RowsOf K
  mid [] = []
  mid (([], k) ∷ rest) = mid rest
  mid ((p ∷ ps, k) ∷ rest) = (tokens_of p ++ pattern_of ps, k) ∷ mid rest

  abbrev lits : Lits K → r.RowsOf K
  lits [] = []
  lits ((w, x) ∷ rest) = (w ++ pattern_of x.0, x.1) ∷ lits rest

  abbrev words_in : RowsOf K → Lits K
  words_in [] = []
  words_in (([], k) ∷ rest) = words_in rest
  words_in ((word w ∷ ps, k) ∷ rest) = (w, (ps, k)) ∷ words_in rest
  words_in ((param n ∷ ps, k) ∷ rest) = words_in rest

  abbrev pick : Text → Lits K → RowsOf K
  pick s [] = []
  pick s ((w, x) ∷ rest) = if bytes_eq w s then x ∷ pick s rest else pick s rest

  abbrev strip : ℕ → Lits K → Lits K
  strip b [] = []
  strip b (([], x) ∷ rest) = strip b rest
  strip b ((c ∷ w, x) ∷ rest) = cond (c == b) ((w, x) ∷ strip b rest) (strip b rest)

  abbrev pub good : RowsOf K → Bool
  good = list_all (λ x. has_good_words x.0)

  abbrev good_lits : Lits K → Bool
  good_lits = list_all (λ x. is_part x.0)

  picked : (s : Text) (R : RowsOf K) → pick s (words_in R) ≡ after_word s R
  picked s [] = refl
  picked s (([], k) ∷ rest) = picked s rest
  picked s ((word w ∷ ps, k) ∷ rest) = ap (λ (l : RowsOf K). if bytes_eq w s then (ps, k) ∷ l else l) (picked s rest)
  picked s ((param n ∷ ps, k) ∷ rest) = picked s rest

  good_words : (R : RowsOf K) → good R ≡ true → good_lits (words_in R) ≡ true
  good_words [] e = refl
  good_words (([], k) ∷ rest) e = good_words rest e
  good_words ((word w ∷ ps, k) ∷ rest) e =
      let h = and_parts (is_part w && has_good_words ps) (good rest) e in
      ap₂ (λ (x y : Bool). x && y) (and_parts (is_part w) (has_good_words ps) h.0).0 (good_words rest h.1)
  good_words ((param n ∷ ps, k) ∷ rest) e = good_words rest (and_parts (has_good_words ps) (good rest) e).1

  good_param : (R : RowsOf K) → good R ≡ true → good (after_param R) ≡ true
  good_param [] e = refl
  good_param (([], k) ∷ rest) e = good_param rest e
  good_param ((word w ∷ ps, k) ∷ rest) e = good_param rest (and_parts (is_part w && has_good_words ps) (good rest) e).1
  good_param ((param n ∷ ps, k) ∷ rest) e =
      let h = and_parts (has_good_words ps) (good rest) e in
      ap₂ (λ (x y : Bool). x && y) h.0 (good_param rest h.1)

  good_word : (s : Text) (R : RowsOf K) → good R ≡ true → good (after_word s R) ≡ true
  good_word s [] e = refl
  good_word s (([], k) ∷ rest) e = good_word s rest e
  good_word s ((word w ∷ ps, k) ∷ rest) e =
      let h = and_parts (is_part w && has_good_words ps) (good rest) e in
      go (bytes_eq w s) (and_parts (is_part w) (has_good_words ps) h.0).1 (good_word s rest h.1)
    where
      go : (b : Bool) → has_good_words ps ≡ true → good (after_word s rest) ≡ true → good (if b then (ps, k) ∷ after_word s rest else after_word s rest) ≡ true
      go true x y = ap₂ (λ (x y : Bool). x && y) x y
      go false x y = y
  good_word s ((param n ∷ ps, k) ∷ rest) e = good_word s rest (and_parts (has_good_words ps) (good rest) e).1

  good_strip : (b : ℕ) (L : Lits K) → good_lits L ≡ true → good_lits (strip b L) ≡ true
  good_strip b [] e = refl
  good_strip b (([], x) ∷ rest) e = good_strip b rest e
  good_strip b ((c ∷ w, x) ∷ rest) e =
      let h = and_parts (is_part (c ∷ w)) (good_lits rest) e in
      go (c == b) (part_cons c w h.0).1 (good_strip b rest h.1)
    where
      go : (t : Bool) → is_part w ≡ true → good_lits (strip b rest) ≡ true → good_lits (cond t ((w, x) ∷ strip b rest) (strip b rest)) ≡ true
      go true x y = ap₂ (λ (x y : Bool). x && y) x y
      go false x y = y

  -- ---- steps

  step_cons : (t : ℕ) (l : List ℕ) (k : K) (A B : r.RowsOf K) → step t A ≡ step t B → step t ((l, k) ∷ A) ≡ step t ((l, k) ∷ B)
  step_cons t [] k A B e = e
  step_cons t (x ∷ l) k A B e = ap (λ (z : r.RowsOf K). cond (x == t) ((l, k) ∷ z) z) e

  own_cons : (l : List ℕ) (k : K) (A B : r.RowsOf K) → own A ≡ own B → own ((l, k) ∷ A) ≡ own ((l, k) ∷ B)
  own_cons [] k A B e = refl
  own_cons (x ∷ l) k A B e = e

  step_pattern : (t : ℕ) (ps : List Part) (k : K) (A : r.RowsOf K) → (47 == t) ≡ false → step t ((pattern_of ps, k) ∷ A) ≡ step t A
  step_pattern t [] k A differs = refl
  step_pattern t (p ∷ ps) k A differs = ap (λ (b : Bool). cond b ((tokens_of p ++ pattern_of ps, k) ∷ step t A) (step t A)) differs

  step_off : (t : ℕ) (w : Text) (ps : List Part) (k : K) (A : r.RowsOf K) → (47 == t) ≡ false → Off t w → step t ((w ++ pattern_of ps, k) ∷ A) ≡ step t A
  step_off t [] ps k A differs off = step_pattern t ps k A differs
  step_off t (x ∷ w) ps k A differs off = ap (λ (b : Bool). cond b ((w ++ pattern_of ps, k) ∷ step t A) (step t A)) off

  step_slash : (R : RowsOf K) → step 47 (rows R) ≡ mid R
  step_slash [] = refl
  step_slash (([], k) ∷ rest) = step_slash rest
  step_slash ((p ∷ ps, k) ∷ rest) = ap (λ (z : r.RowsOf K). (tokens_of p ++ pattern_of ps, k) ∷ z) (step_slash rest)

  step_rows : (t : ℕ) (R : RowsOf K) → (47 == t) ≡ false → step t (rows R) ≡ []
  step_rows t [] differs = refl
  step_rows t ((ps, k) ∷ rest) differs = step_pattern t ps k (rows rest) differs ∙ step_rows t rest differs

  own_rows : (R : RowsOf K) → own (rows R) ≡ ended R
  own_rows [] = refl
  own_rows (([], k) ∷ rest) = refl
  own_rows ((p ∷ ps, k) ∷ rest) = own_rows rest

  step_mid : (t : ℕ) (R : RowsOf K) → (256 == t) ≡ false → step t (mid R) ≡ step t (lits (words_in R))
  step_mid t [] differs = refl
  step_mid t (([], k) ∷ rest) differs = step_mid t rest differs
  step_mid t ((word w ∷ ps, k) ∷ rest) differs = step_cons t (w ++ pattern_of ps) k (mid rest) (lits (words_in rest)) (step_mid t rest differs)
  step_mid t ((param n ∷ ps, k) ∷ rest) differs =
      ap (λ (b : Bool). cond b ((pattern_of ps, k) ∷ step t (mid rest)) (step t (mid rest))) differs ∙ step_mid t rest differs

  own_mid : (R : RowsOf K) → own (mid R) ≡ own (lits (words_in R))
  own_mid [] = refl
  own_mid (([], k) ∷ rest) = own_mid rest
  own_mid ((word w ∷ ps, k) ∷ rest) = own_cons (w ++ pattern_of ps) k (mid rest) (lits (words_in rest)) (own_mid rest)
  own_mid ((param n ∷ ps, k) ∷ rest) = own_mid rest

  param_mid : (R : RowsOf K) → good R ≡ true → step 256 (mid R) ≡ rows (after_param R)
  param_mid [] e = refl
  param_mid (([], k) ∷ rest) e = param_mid rest e
  param_mid ((word w ∷ ps, k) ∷ rest) e =
      let h = and_parts (is_part w && has_good_words ps) (good rest) e in
      step_off 256 w ps k (mid rest) refl (off_param w (and_parts (is_part w) (has_good_words ps) h.0).0) ∙ param_mid rest h.1
  param_mid ((param n ∷ ps, k) ∷ rest) e = ap (λ (z : r.RowsOf K). (pattern_of ps, k) ∷ z) (param_mid rest (and_parts (has_good_words ps) (good rest) e).1)

  rest_mid : (R : RowsOf K) → good R ≡ true → step 257 (mid R) ≡ []
  rest_mid [] e = refl
  rest_mid (([], k) ∷ rest) e = rest_mid rest e
  rest_mid ((word w ∷ ps, k) ∷ rest) e =
      let h = and_parts (is_part w && has_good_words ps) (good rest) e in
      step_off 257 w ps k (mid rest) refl (off_rest w (and_parts (is_part w) (has_good_words ps) h.0).0) ∙ rest_mid rest h.1
  rest_mid ((param n ∷ ps, k) ∷ rest) e = rest_mid rest (and_parts (has_good_words ps) (good rest) e).1

  param_lits : (L : Lits K) → good_lits L ≡ true → step 256 (lits L) ≡ []
  param_lits [] e = refl
  param_lits ((w, x) ∷ rest) e =
      let h = and_parts (is_part w) (good_lits rest) e in step_off 256 w x.0 x.1 (lits rest) refl (off_param w h.0) ∙ param_lits rest h.1

  rest_lits : (L : Lits K) → good_lits L ≡ true → step 257 (lits L) ≡ []
  rest_lits [] e = refl
  rest_lits ((w, x) ∷ rest) e =
      let h = and_parts (is_part w) (good_lits rest) e in step_off 257 w x.0 x.1 (lits rest) refl (off_rest w h.0) ∙ rest_lits rest h.1

  slash_lits : (L : Lits K) → good_lits L ≡ true → step 47 (lits L) ≡ step 47 (rows (pick [] L))
  slash_lits [] e = refl
  slash_lits (([], x) ∷ rest) e = step_cons 47 (pattern_of x.0) x.1 (lits rest) (rows (pick [] rest)) (slash_lits rest e)
  slash_lits ((c ∷ w, x) ∷ rest) e =
      let h = and_parts (is_part (c ∷ w)) (good_lits rest) e in
      ap (λ (b : Bool). cond b ((w ++ pattern_of x.0, x.1) ∷ step 47 (lits rest)) (step 47 (lits rest))) (part_cons c w h.0).0.no_slash ∙ slash_lits rest h.1

  own_lits : (L : Lits K) → own (lits L) ≡ own (rows (pick [] L))
  own_lits [] = refl
  own_lits (([], x) ∷ rest) = own_cons (pattern_of x.0) x.1 (lits rest) (rows (pick [] rest)) (own_lits rest)
  own_lits ((c ∷ w, x) ∷ rest) = own_lits rest

  step_lits : (b : ℕ) (L : Lits K) → (47 == b) ≡ false → step b (lits L) ≡ lits (strip b L)
  step_lits b [] differs = refl
  step_lits b (([], x) ∷ rest) differs = step_pattern b x.0 x.1 (lits rest) differs ∙ step_lits b rest differs
  step_lits b ((c ∷ w, x) ∷ rest) differs = go (c == b) (step_lits b rest differs)
    where
      go : (t : Bool) → step b (lits rest) ≡ lits (strip b rest)
          → cond t ((w ++ pattern_of x.0, x.1) ∷ step b (lits rest)) (step b (lits rest)) ≡ lits (cond t ((w, x) ∷ strip b rest) (strip b rest))
      go true e = ap (λ (z : r.RowsOf K). (w ++ pattern_of x.0, x.1) ∷ z) e
      go false e = e

  pick_strip : (b : ℕ) (s : Text) (L : Lits K) → pick s (strip b L) ≡ pick (b ∷ s) L
  pick_strip b s [] = refl
  pick_strip b s (([], x) ∷ rest) = pick_strip b s rest
  pick_strip b s ((c ∷ w, x) ∷ rest) = go (c == b) (pick_strip b s rest)
    where
      go : (t : Bool) → pick s (strip b rest) ≡ pick (b ∷ s) rest
          → pick s (cond t ((w, x) ∷ strip b rest) (strip b rest)) ≡ (if t && bytes_eq w s then x ∷ pick (b ∷ s) rest else pick (b ∷ s) rest)
      go true e = ap (λ (z : RowsOf K). if bytes_eq w s then x ∷ z else z) e
      go false e = e

  -- ---- seeking

  param_step_nil : (p : List ℕ) → (param_step {K = K} [] p).1 ≡ []
  unfolding param_step
  param_step_nil p = go (has_slash p)
    where
      go : (b : Bool) → (cond {A = ℕ × r.RowsOf K} b (0, []) (length p, [])).1 ≡ []
      go true = refl
      go false = refl

  seek_nil : (n : ℕ) (p : List ℕ) → seek {K = K} n [] p ≡ None
  unfolding seek
  seek_nil n [] = refl
  seek_nil (suc n) (b ∷ p) = seek_nil n p
  seek_nil zero (b ∷ p) = ap₂ (λ (x y : Option K). or_else x (or_else y None)) (seek_nil 0 p)
      (ap (λ (rs : r.RowsOf K). seek ((param_step {K = K} [] (b ∷ p)).0 - 1) rs p) (param_step_nil (b ∷ p)) ∙ seek_nil ((param_step {K = K} [] (b ∷ p)).0 - 1) p)

  or_none : (o : Option K) → or_else o None ≡ o
  or_none None = refl
  or_none (Some k) = refl

  abbrev by_param : r.RowsOf K → ℕ → List ℕ → Option K
  by_param P b p = seek ((param_step P (b ∷ p)).0 - 1) (param_step P (b ∷ p)).1 p

  by_nil : (b : ℕ) (p : List ℕ) → by_param [] b p ≡ None
  by_nil b p = ap (λ (rs : r.RowsOf K). seek ((param_step {K = K} [] (b ∷ p)).0 - 1) rs p) (param_step_nil (b ∷ p)) ∙ seek_nil ((param_step {K = K} [] (b ∷ p)).0 - 1) p

  seek_static : (A : r.RowsOf K) (b : ℕ) (p : List ℕ) → step 256 A ≡ [] → step 257 A ≡ [] → seek 0 A (b ∷ p) ≡ seek 0 (step b A) p
  unfolding seek
  seek_static A b p e f =
      ap₂ (λ (P Q : r.RowsOf K). or_else (seek 0 (step b A) p) (or_else (by_param P b p) (own Q))) e f
      ∙ ap (λ (o : Option K). or_else (seek 0 (step b A) p) (or_else o None)) (by_nil b p) ∙ or_none (seek 0 (step b A) p)

  pub seek_end : (A : r.RowsOf K) (n : ℕ) → seek n A [] ≡ own A
  unfolding seek
  seek_end A zero = refl
  seek_end A (suc n) = refl

  seek_rows : (R : RowsOf K) (p : List ℕ) → seek 0 (rows R) (47 ∷ p) ≡ seek 0 (mid R) p
  seek_rows R p = seek_static (rows R) 47 p (step_rows 256 R refl) (step_rows 257 R refl) ∙ ap (λ (A : r.RowsOf K). seek 0 A p) (step_slash R)

  seek_lits : (s : Text) (L : Lits K) (ss : List Text) → is_part s ≡ true → good_lits L ≡ true
      → seek 0 (lits L) (s ++ path_of ss) ≡ seek 0 (rows (pick s L)) (path_of ss)
  seek_lits [] L [] part fine = seek_end (lits L) 0 ∙ own_lits L ∙ sym (seek_end (rows (pick [] L)) 0)
  seek_lits [] L (t ∷ ts) part fine =
      seek_static (lits L) 47 (t ++ path_of ts) (param_lits L fine) (rest_lits L fine)
      ∙ ap (λ (A : r.RowsOf K). seek 0 A (t ++ path_of ts)) (slash_lits L fine)
      ∙ sym (seek_static (rows (pick [] L)) 47 (t ++ path_of ts) (step_rows 256 (pick [] L) refl) (step_rows 257 (pick [] L) refl))
  seek_lits (b ∷ s) L ss part fine =
      let h = part_cons b s part in
      seek_static (lits L) b (s ++ path_of ss) (param_lits L fine) (rest_lits L fine)
      ∙ ap (λ (A : r.RowsOf K). seek 0 A (s ++ path_of ss)) (step_lits b L (flip_eq b 47 h.0.no_slash))
      ∙ seek_lits s (strip b L) ss h.1 (good_strip b L fine)
      ∙ ap (λ (R : RowsOf K). seek 0 (rows R) (path_of ss)) (pick_strip b s L)

  seek_mid : (R : RowsOf K) (b : ℕ) (p : List ℕ) → good R ≡ true → (256 == b) ≡ false
      → seek 0 (mid R) (b ∷ p) ≡ or_else (seek 0 (lits (words_in R)) (b ∷ p)) (by_param (rows (after_param R)) b p)
  unfolding seek
  seek_mid R b p fine differs =
      ap₂ (λ (P Q : r.RowsOf K). or_else (seek 0 (step b (mid R)) p) (or_else (by_param P b p) (own Q))) (param_mid R fine) (rest_mid R fine)
      ∙ ap₂ (λ (x y : Option K). or_else x y)
      (ap (λ (A : r.RowsOf K). seek 0 A p) (step_mid b R differs)
      ∙ sym (seek_static (lits (words_in R)) b p (param_lits (words_in R) (good_words R fine)) (rest_lits (words_in R) (good_words R fine))))
      (or_none (by_param (rows (after_param R)) b p))

  -- ---- parameters

  seek_skip : (s q : List ℕ) (A : r.RowsOf K) → seek (length s) A (s ++ q) ≡ seek 0 A q
  unfolding seek
  seek_skip [] q A = refl
  seek_skip (x ∷ s) q A = seek_skip s q A

  -- the rows that don't end here
  abbrev more : RowsOf K → RowsOf K
  more [] = []
  more (([], k) ∷ rest) = more rest
  more ((p ∷ ps, k) ∷ rest) = (p ∷ ps, k) ∷ more rest

  abbrev has_more : RowsOf K → Bool
  has_more [] = false
  has_more (([], k) ∷ rest) = has_more rest
  has_more ((p ∷ ps, k) ∷ rest) = true

  longest_kept : (seg : Text) (T : RowsOf K) → longest_from seg (47 ∷ []) (rows T) ≡ 47 ∷ []
  longest_kept seg [] = refl
  longest_kept seg (([], k) ∷ rest) = longest_kept seg rest
  longest_kept seg ((p ∷ ps, k) ∷ rest) = longest_kept seg rest

  longest_none : (seg : Text) (T : RowsOf K) → cuts seg (47 ∷ []) ≡ false → longest_from seg [] (rows T) ≡ []
  longest_none seg [] e = refl
  longest_none seg (([], k) ∷ rest) e = longest_none seg rest e
  longest_none seg ((p ∷ ps, k) ∷ rest) e =
      ap (λ (t : Bool). longest_from seg (cond t (47 ∷ []) []) (rows rest)) e ∙ longest_none seg rest e

  longest_some : (seg : Text) (T : RowsOf K) → cuts seg (47 ∷ []) ≡ true → longest_from seg [] (rows T) ≡ (if has_more T then 47 ∷ [] else [])
  longest_some seg [] e = refl
  longest_some seg (([], k) ∷ rest) e = longest_some seg rest e
  longest_some seg ((p ∷ ps, k) ∷ rest) e =
      ap (λ (t : Bool). longest_from seg (cond t (47 ∷ []) []) (rows rest)) e ∙ longest_kept seg rest

  with_more : (T : RowsOf K) → with_suffix (47 ∷ []) (rows T) ≡ rows (more T)
  with_more [] = refl
  with_more (([], k) ∷ rest) = with_more rest
  with_more ((p ∷ ps, k) ∷ rest) = ap (λ (z : r.RowsOf K). (pattern_of (p ∷ ps), k) ∷ z) (with_more rest)

  mid_more : (T : RowsOf K) → mid (more T) ≡ mid T
  mid_more [] = refl
  mid_more (([], k) ∷ rest) = mid_more rest
  mid_more ((p ∷ ps, k) ∷ rest) = ap (λ (z : r.RowsOf K). (tokens_of p ++ pattern_of ps, k) ∷ z) (mid_more rest)

  mid_less : (T : RowsOf K) → has_more T ≡ false → mid T ≡ []
  mid_less [] e = refl
  mid_less (([], k) ∷ rest) e = mid_less rest e
  mid_less ((p ∷ ps, k) ∷ rest) e = let bad : true ≡ false = e in cc

  -- a parameter's step, by the suffix that was chosen and whether a slash follows
  abbrev step_by : r.RowsOf K → List ℕ → List ℕ → List ℕ → Bool → ℕ × r.RowsOf K
  step_by P path seg l h = cond (ltb 0 (length l)) (length seg - length l, with_suffix l P) (cond h (0, []) (length path, P))

  abbrev after : ℕ × r.RowsOf K → List ℕ → Option K
  after x p = seek (x.0 - 1) x.1 p

  step_is : (P : r.RowsOf K) (path seg l : List ℕ) (h : Bool) → segment path ≡ seg → longest_from seg [] P ≡ l → has_slash path ≡ h
      → param_step P path ≡ step_by P path seg l h
  unfolding param_step
  step_is P path seg l h e f g =
      ap (λ (x : List ℕ). step_by P path x (longest_from x [] P) (has_slash path)) e ∙ ap₂ (λ (x : List ℕ) (y : Bool). step_by P path seg x y) f g

  param_stops : (T : RowsOf K) (p : List ℕ) → by_param (rows T) 47 p ≡ None
  param_stops T p =
      ap (λ (x : ℕ × r.RowsOf K). after x p) (step_is (rows T) (47 ∷ p) (47 ∷ []) [] true refl (longest_none (47 ∷ []) T refl) refl)
      ∙ seek_nil (0 - 1) p

  param_takes : (T : RowsOf K) (b : ℕ) (s : Text) (ss : List Text) → is_part (b ∷ s) ≡ true
      → by_param (rows T) b (s ++ path_of ss) ≡ seek 0 (rows T) (path_of ss)
  param_takes T b s [] part =
      let less : length (b ∷ s) - 1 ≡ length s = omega arith in
      ap (λ (p : List ℕ). by_param (rows T) b p) (append_nil s)
      ∙ ap (λ (x : ℕ × r.RowsOf K). after x s) (step_is (rows T) (b ∷ s) (b ∷ s) [] false (seg_free (b ∷ s) part)
      (longest_none (b ∷ s) T (cuts_free (b ∷ s) part)) (slash_free (b ∷ s) part))
      ∙ ap (λ (n : ℕ). seek n (rows T) s) less
      ∙ ap (λ (p : List ℕ). seek (length s) (rows T) p) (sym (append_nil s)) ∙ seek_skip s [] (rows T)
  param_takes T b s (t ∷ ts) part = go (has_more T) refl
    where
      go : (m : Bool) → has_more T ≡ m → by_param (rows T) b (s ++ path_of (t ∷ ts)) ≡ seek 0 (rows T) (path_of (t ∷ ts))
      go true e =
          let less : length (b ∷ (s ++ 47 ∷ [])) - 1 - 1 ≡ length s = ap (λ (n : ℕ). n - 1) (less_one b s) ∙ omega arith in
          ap (λ (x : ℕ × r.RowsOf K). after x (s ++ path_of (t ∷ ts)))
          (step_is (rows T) (b ∷ (s ++ path_of (t ∷ ts))) (b ∷ (s ++ 47 ∷ [])) (47 ∷ []) true (seg_slash (b ∷ s) (t ++ path_of ts) part)
          (longest_some (b ∷ (s ++ 47 ∷ [])) T (cuts_slash b s) ∙ ap (λ (m : Bool). if m then 47 ∷ [] else []) e) (slash_in (b ∷ s) (t ++ path_of ts)))
          ∙ ap (λ (n : ℕ). seek n (with_suffix (47 ∷ []) (rows T)) (s ++ path_of (t ∷ ts))) less
          ∙ seek_skip s (path_of (t ∷ ts)) (with_suffix (47 ∷ []) (rows T))
          ∙ ap (λ (A : r.RowsOf K). seek 0 A (path_of (t ∷ ts))) (with_more T)
          ∙ seek_rows (more T) (t ++ path_of ts) ∙ ap (λ (A : r.RowsOf K). seek 0 A (t ++ path_of ts)) (mid_more T) ∙ sym (seek_rows T (t ++ path_of ts))
      go false e =
          ap (λ (x : ℕ × r.RowsOf K). after x (s ++ path_of (t ∷ ts)))
          (step_is (rows T) (b ∷ (s ++ path_of (t ∷ ts))) (b ∷ (s ++ 47 ∷ [])) [] true (seg_slash (b ∷ s) (t ++ path_of ts) part)
          (longest_some (b ∷ (s ++ 47 ∷ [])) T (cuts_slash b s) ∙ ap (λ (m : Bool). if m then 47 ∷ [] else []) e) (slash_in (b ∷ s) (t ++ path_of ts)))
          ∙ seek_nil (0 - 1) (s ++ path_of (t ∷ ts))
          ∙ sym (seek_rows T (t ++ path_of ts) ∙ ap (λ (A : r.RowsOf K). seek 0 A (t ++ path_of ts)) (mid_less T e) ∙ seek_nil 0 (t ++ path_of ts))

  -- ---- the whole path

  pub seek_parts : (ss : List Text) (R : RowsOf K) → are_parts ss ≡ true → good R ≡ true → seek 0 (rows R) (path_of ss) ≡ found R ss
  seek_parts [] R parts fine = seek_end (rows R) 0 ∙ own_rows R
  seek_parts ([] ∷ []) R parts fine =
      seek_rows R [] ∙ seek_end (mid R) 0 ∙ own_mid R ∙ own_lits (words_in R) ∙ ap (λ (x : RowsOf K). own (rows x)) (picked [] R)
      ∙ own_rows (after_word [] R) ∙ sym (or_none (ended (after_word [] R)))
  seek_parts ([] ∷ t ∷ ts) R parts fine =
      seek_rows R (path_of (t ∷ ts)) ∙ seek_mid R 47 (t ++ path_of ts) fine refl
      ∙ ap₂ (λ (x y : Option K). or_else x y)
      (seek_lits [] (words_in R) (t ∷ ts) refl (good_words R fine) ∙ ap (λ (x : RowsOf K). seek 0 (rows x) (path_of (t ∷ ts))) (picked [] R)
      ∙ seek_parts (t ∷ ts) (after_word [] R) parts (good_word [] R fine))
      (param_stops (after_param R) (t ++ path_of ts))
  seek_parts ((b ∷ s) ∷ ss) R parts fine =
      let h = and_parts (is_part (b ∷ s)) (are_parts ss) parts in
      seek_rows R ((b ∷ s) ++ path_of ss) ∙ seek_mid R b (s ++ path_of ss) fine (flip_eq b 256 (part_cons b s h.0).0.no_param)
      ∙ ap₂ (λ (x y : Option K). or_else x y)
      (seek_lits (b ∷ s) (words_in R) ss h.0 (good_words R fine) ∙ ap (λ (x : RowsOf K). seek 0 (rows x) (path_of ss)) (picked (b ∷ s) R)
      ∙ seek_parts ss (after_word (b ∷ s) R) h.1 (good_word (b ∷ s) R fine))
      (param_takes (after_param R) b s ss h.0 ∙ seek_parts ss (after_param R) h.1 (good_param R fine))

  -- a path that doesn't begin with a slash
  pub seek_other : (R : RowsOf K) (b : ℕ) (p : List ℕ) → b < 256 → (b == 47) ≡ false → seek 0 (rows R) (b ∷ p) ≡ None
  seek_other R b p lt differs =
      seek_static (rows R) b p (step_rows 256 R refl) (step_rows 257 R refl)
      ∙ ap (λ (A : r.RowsOf K). seek 0 A p) (step_rows b R (flip_eq b 47 differs)) ∙ seek_nil 0 p
