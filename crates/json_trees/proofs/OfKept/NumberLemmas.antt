-- A number below zero begins with a minus.
use Rattle.std.proofs.Common.{◌≡◌, ◌≤◌, ◌==◌, ◌&&◌, ◌^◌, nat_lt, nat_le, ℕ, ℤ, Float, List, Bool, true, false, cond, Option, Some, None, option_and_then, refl, length, drop, take, get_or, sym, ap, ◌∙◌, take_all}
use Rattle.std.specs.Float.{binary64, float_is_finite}
use Rattle.fast_float.specs.Text.{Parts, scan, digits_of, nearest, with_sign}
use Rattle.serde_json.specs.Data.{Num, unsigned, negative, float}
use Rattle.serde_json.specs.Find.{as_u64}
use Rattle.serde_json.specs.Read.{number_of, number_from, float_of, is_integer}
use Rattle.json_trees.specs.Numbers.{as_negative}

-- what is found behind a minus, in the text that is given
pub behind_minus : {A : Type 0} (f : Option Num → A) (s text : List ℕ) (p : Parts) (found : A) (n : ℕ) → true ≡ (get_or s 0 0 == 45) → p ≡ scan (take n (drop 1 s)) → length (drop 1 s) ≤ n → s ≡ text → found ≡ f (number_from true p) → found ≡ f (number_of text)
unfolding number_of
behind_minus f s text p found n minus parts all is e =
    let signed : (get_or s 0 0 == 45) ≡ true = sym minus in
    let read : number_from true (scan (drop 1 s)) ≡ number_of s = rw signed in
    e ∙ ap (λ q. f (number_from true q)) (parts ∙ ap scan (take_all n (drop 1 s) all)) ∙ ap f (read ∙ ap number_of is)

pub without_minus : {A : Type 0} (f : Option Num → A) (s text : List ℕ) (p : Parts) (found : A) → false ≡ (get_or s 0 0 == 45) → p ≡ scan s → s ≡ text → found ≡ f (number_from false p) → found ≡ f (number_of text)
unfolding number_of
without_minus f s text p found minus parts is e =
    let plain : (get_or s 0 0 == 45) ≡ false = sym minus in
    let read : number_from false (scan s) ≡ number_of s = rw plain in
    e ∙ ap (λ q. f (number_from false q)) parts ∙ ap f (read ∙ ap number_of is)

-- a number with a minus is below 0 or a float, and one without is not below 0
from_minus : (b : Bool) (z : ℤ) (f : Option Num) → option_and_then as_u64 f ≡ None → option_and_then as_u64 (cond b (Some (negative z)) f) ≡ None
from_minus true z f e = refl
from_minus false z f e = e

from_plus : (b : Bool) (n : ℕ) (f : Option Num) → option_and_then as_negative f ≡ None → option_and_then as_negative (cond b (Some (unsigned n)) f) ≡ None
from_plus true n f e = refl
from_plus false n f e = e

float_found : (b : Bool) (x : Float) → (option_and_then as_u64 (cond b (Some (float x)) None) ≡ None) × (option_and_then as_negative (cond b (Some (float x)) None) ≡ None)
float_found true x = (refl, refl)
float_found false x = (refl, refl)

signed_no_unsigned : (p : Parts) → option_and_then as_u64 (number_from true p) ≡ None
signed_no_unsigned p =
    from_minus (is_integer p && nat_lt 0 (digits_of p) && nat_le (digits_of p) (2 ^ 63)) (with_sign true (digits_of p)) (float_of true p) (float_found (float_is_finite (nearest binary64 true p)) (nearest binary64 true p)).0

unsigned_no_negative : (p : Parts) → option_and_then as_negative (number_from false p) ≡ None
unsigned_no_negative p =
    from_plus (is_integer p && nat_lt (digits_of p) (2 ^ 64)) (digits_of p) (float_of false p) (float_found (float_is_finite (nearest binary64 false p)) (nearest binary64 false p)).1

pub no_unsigned : (s text : List ℕ) → true ≡ (get_or s 0 0 == 45) → s ≡ text → None ≡ option_and_then as_u64 (number_of text)
unfolding number_of
no_unsigned s text minus is =
    let signed : (get_or s 0 0 == 45) ≡ true = sym minus in
    let read : number_from true (scan (drop 1 s)) ≡ number_of s = rw signed in
    sym (ap (option_and_then as_u64) (sym (read ∙ ap number_of is)) ∙ signed_no_unsigned (scan (drop 1 s)))

pub no_negative : (s text : List ℕ) → false ≡ (get_or s 0 0 == 45) → s ≡ text → None ≡ option_and_then as_negative (number_of text)
unfolding number_of
no_negative s text minus is =
    let plain : (get_or s 0 0 == 45) ≡ false = sym minus in
    let read : number_from false (scan s) ≡ number_of s = rw plain in
    sym (ap (option_and_then as_negative) (sym (read ∙ ap number_of is)) ∙ unsigned_no_negative (scan s))
