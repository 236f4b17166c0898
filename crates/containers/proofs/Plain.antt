-- Plain facts of tests, options, results and orders.
use Rattle.std.proofs.Common.{◌≡◌, T, Bool, true, false, ◌&&◌, cond, Option, Some, None, IsSome, is_some, Result, Ok, Err, OnErr, Ordering, Less, Equal, Greater, refl}
use Rattle.std.proofs.lemmas.Bool.{false≢true, true≢false}
use Rattle.std.specs.Ordering.{is_lt}

-- ---- tests

pub halves : (a b : Bool) → T (a && b) → T a × T b
halves true true h = (tt, tt)
halves true false h = absurd h
halves false b h = absurd h

pub both_tests : (a b : Bool) → T a → T b → T (a && b)
both_tests true b p q = q
both_tests false b p q = absurd p

pub less : (o : Ordering) → T (is_lt o) → o ≡ Less
less Less h = refl
less Equal h = absurd h
less Greater h = absurd h

pub passed_over : {A : Type 0} (b : Bool) (x y : A) → (b ≡ true → ⊥) → cond b x y ≡ y
passed_over true x y never = absurd (never refl)
passed_over false x y never = refl

-- ---- options

pub none_of : {A : Type 0} (o : Option A) → is_some o ≡ false → o ≡ None
none_of None e = refl
none_of (Some x) e = absurd (true≢false e)

pub some_value : {A : Type 0} (o : Option A) → IsSome o → (x : A) × (o ≡ Some x)
some_value None there = absurd (false≢true there)
some_value (Some x) there = (x, refl)

-- ---- results

pub ok_same : {A E : Type 0} (x y : A) → ◌≡◌ {A = Result A E} (Ok x) (Ok y) → x ≡ y
ok_same x y e = cc

-- a fact that holds in any case holds on an error
pub on_err : {T E P : Type 0} (r : Result T E) → P → OnErr r P
on_err (Ok x) p = tt
on_err (Err e) p = p
