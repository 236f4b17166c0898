-- Tests, and how many entries pass them.
use Rattle.std.proofs.Common.{◌≡◌, ◌<◌, ◌≤◌, ◌||◌, Bool, true, false, cond, length, IsSome, is_some, List, [], ◌∷◌, Some, Result, Ok, Err, IfErr, Ordering, Less, Equal, Greater, refl, sym, ap, ◌∙◌, arith}
use Rattle.std.specs.FinMap.{find}
use Rattle.std.specs.List.{filter, list_any}
use Rattle.std.specs.Map.{lookup}
use Rattle.std.specs.Ordering.{eq_by_cmp, is_lt}
use Rattle.std.proofs.lemmas.Bool.{or_right, or_left}

pub by_bool : (b : Bool) (P : Type 0) → (b ≡ true → P) → (b ≡ false → P) → P
by_bool true P is_so isnt = is_so refl
by_bool false P is_so isnt = isnt refl

pub contrary : (b : Bool) (P : Type 0) → b ≡ true → b ≡ false → P
contrary b P is_so isnt = absurd (let both : true ≡ false = sym is_so ∙ isnt in cc)

pub lt_less : (o : Ordering) → is_lt o ≡ true → o ≡ Less
lt_less Less e = refl
lt_less Equal e = contrary false (Equal ≡ Less) e refl
lt_less Greater e = contrary false (Greater ≡ Less) e refl

-- ---- one or the other

pub or_more : (a b c : Bool) → (b ≡ true → c ≡ true) → (a || b) ≡ true → (a || c) ≡ true
or_more true b c f e = refl
or_more false b c f e = f e

pub or_either : (a b : Bool) (P : Type 0) → (a ≡ true → P) → (b ≡ true → P) → (a || b) ≡ true → P
or_either true b P f g e = f refl
or_either false b P f g e = g e

-- ---- entries that pass a test

kept_fewer : {A : Type 0} (p q : Bool) (x : A) (xs ys : List A) → (p ≡ true → q ≡ true) → length xs ≤ length ys → length (cond p (x ∷ xs) xs) ≤ length (cond q (x ∷ ys) ys)
kept_fewer true true x xs ys h l = omega (arith, l)
kept_fewer true false x xs ys h l = contrary false (length (x ∷ xs) ≤ length ys) (h refl) refl
kept_fewer false true x xs ys h l = omega (arith, l)
kept_fewer false false x xs ys h l = l

kept_less : {A : Type 0} (p q : Bool) (x : A) (xs ys : List A) → (p ≡ true → q ≡ true) → length xs < length ys → length (cond p (x ∷ xs) xs) < length (cond q (x ∷ ys) ys)
kept_less true true x xs ys h l = omega (arith, l)
kept_less true false x xs ys h l = contrary false (length (x ∷ xs) < length ys) (h refl) refl
kept_less false true x xs ys h l = omega (arith, l)
kept_less false false x xs ys h l = l

kept_gone : {A : Type 0} (p q : Bool) (x : A) (xs ys : List A) → p ≡ false → q ≡ true → length xs ≤ length ys → length (cond p (x ∷ xs) xs) < length (cond q (x ∷ ys) ys)
kept_gone true q x xs ys h g l = contrary true (length (x ∷ xs) < length (cond q (x ∷ ys) ys)) refl h
kept_gone false true x xs ys h g l = omega (arith, l)
kept_gone false false x xs ys h g l = contrary false (length xs < length ys) g refl

module _ {K V : Type 0} (p q : K → Bool) (weaker : (k : K) → p k ≡ true → q k ≡ true) where
  abbrev passing : (K → Bool) → List (K × V) → List (K × V)
  passing test es = filter (λ e. test e.0) es

  fewer : (es : List (K × V)) → length (passing p es) ≤ length (passing q es)
  fewer [] = omega arith
  fewer (e ∷ es) = kept_fewer (p e.0) (q e.0) e (passing p es) (passing q es) (weaker e.0) (fewer es)

  -- an entry passes the one and not the other
  pub fewer_there : (test : K → Bool) → ((k : K) → test k ≡ true → (p k ≡ false) × (q k ≡ true)) → (es : List (K × V)) → list_any (λ e. test e.0) es ≡ true
      → length (filter (λ e. p e.0) es) < length (filter (λ e. q e.0) es)
  fewer_there test told [] there = contrary false (length (passing p []) < length (passing q [])) there refl
  fewer_there test told (e ∷ es) there = by_bool (test e.0) (length (passing p (e ∷ es)) < length (passing q (e ∷ es)))
      (λ y. kept_gone (p e.0) (q e.0) e (passing p es) (passing q es) (told e.0 y).0 (told e.0 y).1 (fewer es))
      (λ n. kept_less (p e.0) (q e.0) e (passing p es) (passing q es) (weaker e.0)
      (fewer_there test told es (or_either (test e.0) (list_any (λ d. test d.0) es) (list_any (λ d. test d.0) es ≡ true) (λ y. contrary (test e.0) (list_any (λ d. test d.0) es ≡ true) y n) (λ rest. rest) there)))

-- what is looked up stands among the entries
pub found_lookup : {K V : Type 0} (test : K → Bool) (es : List (K × V)) → IsSome (lookup test es) → list_any (λ e. test e.0) es ≡ true
found_lookup {K} {V} test [] e = contrary false (list_any {X = K × V} (λ d. test d.0) [] ≡ true) e refl
found_lookup test (e ∷ es) there = by_bool (test e.0) (list_any (λ d. test d.0) (e ∷ es) ≡ true)
    (λ y. or_left (test e.0) (list_any (λ d. test d.0) es) y)
    (λ n. or_right (test e.0) (list_any (λ d. test d.0) es) (found_lookup test es (ap (λ b. is_some (cond b (Some e.1) (lookup test es))) (sym n) ∙ there)))

pub found_find : {K V : Type 0} (R : K → K → Ordering) (k : K) (es : List (K × V)) → IsSome (find R k es) → list_any (λ e. eq_by_cmp R k e.0) es ≡ true
found_find {K} {V} R k [] e = contrary false (list_any {X = K × V} (λ d. eq_by_cmp R k d.0) [] ≡ true) e refl
found_find R k (e ∷ es) there = by_bool (eq_by_cmp R k e.0) (list_any (λ d. eq_by_cmp R k d.0) (e ∷ es) ≡ true)
    (λ y. or_left (eq_by_cmp R k e.0) (list_any (λ d. eq_by_cmp R k d.0) es) y)
    (λ n. or_right (eq_by_cmp R k e.0) (list_any (λ d. eq_by_cmp R k d.0) es) (found_find R k es (ap (λ b. is_some (cond b (Some e.1) (find R k es))) (sym n) ∙ there)))

-- a weaker property of the error
pub err_map : {A E : Type 0} (r : Result A E) (P Q : E → Type 0) → ((x : E) → P x → Q x) → IfErr r P → IfErr r Q
err_map (Ok x) P Q f h = tt
err_map (Err e) P Q f h = f e h
