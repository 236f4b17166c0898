-- How the words are written that begin with two hyphens.
use Rattle.std.proofs.Common.{◌≡◌, ◌∙◌, ◌<◌, ◌+◌, ◌==◌, ◌||◌, ap, sym, ℕ, Bool, true, false, not}
use Rattle.std.proofs.Common.{[], ◌∷◌, ◌++◌, length, get_or, Option, Some, None, option_and_then}
use Rattle.std.proofs.Common.{refl, arith}
use Rattle.std.specs.Prelude.{cond, if◌then◌else◌}
use Rattle.std.specs.List.{after_first, before_first, list_any, position_or_len}
use Rattle.std.proofs.lemmas.Bool.{not-true}
use Rattle.std.proofs.lemmas.Bool.Decides.{nat_tests}
use Rattle.std.proofs.lemmas.List.Sums.{fails_before_first, passes_at_first, split_at_first}
use Rattle.clap.specs.Lexer.{long_of, long_of_rest, name_and_value, strip_byte}
use Rattle.clap.proofs.LexerLemmas.{name_and_value-at, name_and_value-without}
use Rattle.clap.proofs.CutLemmas.{Lacks}
use Rattle.command_words.specs.Lines.{Text, option_word}

abbrev is_sign : ℕ → Bool
is_sign x = x == 61

position_at : (b : Bool) (x : ℕ) (xs : Text) → is_sign x ≡ b
    → position_or_len is_sign (x ∷ xs) ≡ cond (not b) (1 + position_or_len is_sign xs) 0
position_at b x xs e = ap (λ (t : Bool). cond (not t) (1 + position_or_len is_sign xs) 0) e

has_place : (xs : Text) → list_any is_sign xs ≡ true → position_or_len is_sign xs < length xs
has_place [] e = cc
has_place (x ∷ xs) e = go (is_sign x) refl (has_place xs)
  where
    go : (b : Bool) → is_sign x ≡ b
        → (list_any is_sign xs ≡ true → position_or_len is_sign xs < length xs)
        → position_or_len is_sign (x ∷ xs) < length (x ∷ xs)
    go true is later = let here = position_at true x xs is in omega arith
    go false is later =
        let here = position_at false x xs is in
        let more = later (sym (ap (λ (b : Bool). b || list_any is_sign xs) is) ∙ e) in
        omega arith

no_place : (xs : Text) → list_any is_sign xs ≡ false → position_or_len is_sign xs ≡ length xs
no_place [] e = refl
no_place (x ∷ xs) e = go (is_sign x) refl (no_place xs)
  where
    go : (b : Bool) → is_sign x ≡ b
        → (list_any is_sign xs ≡ false → position_or_len is_sign xs ≡ length xs)
        → position_or_len is_sign (x ∷ xs) ≡ length (x ∷ xs)
    go true is later = let bad : true ≡ false = sym (ap (λ (b : Bool). b || list_any is_sign xs) is)
        ∙ e in cc
    go false is later =
        let here = position_at false x xs is in
        let more = later (sym (ap (λ (b : Bool). b || list_any is_sign xs) is) ∙ e) in
        omega arith

lacks : (xs : Text) → list_any is_sign xs ≡ false → Lacks 61 xs
lacks xs none i lt =
    let all = no_place xs none in
    let fails : is_sign (get_or xs i 0) ≡ false = fails_before_first is_sign xs i 0 (omega arith) in
    grind (arith, nat_tests)

-- a name, and a value behind `=` where there is one
abbrev pub written : Text × Option Text → Text
written (name, None) = name
written (name, Some value) = name ++ 61 ∷ value

parts_written : (text : Text) → text ≡ written (name_and_value text)
parts_written text = go (list_any is_sign text) refl
  where
    go : (b : Bool) → list_any is_sign text ≡ b → text ≡ written (name_and_value text)
    go false none = ap written (sym (name_and_value-without text (lacks text none)))
    go true some =
        let here = has_place text some in
        let sign : get_or text (position_or_len is_sign text) 0 ≡ 61 = let passes = passes_at_first is_sign text 0 here in grind (arith, nat_tests) in
        split_at_first is_sign text 0 here
        ∙ ap (λ (x : ℕ). before_first is_sign text ++ x ∷ after_first is_sign text) sign
        ∙ ap (λ (b : Bool). written (before_first is_sign text, if b then Some (after_first is_sign text) else None)) (sym some)

strip_written : (word rest : Text) → strip_byte 45 word ≡ Some rest → word ≡ 45 ∷ rest
strip_written [] rest e = cc
strip_written (x ∷ xs) rest e = go (x == 45) refl
  where
    go : (b : Bool) → (x == 45) ≡ b → x ∷ xs ≡ 45 ∷ rest
    go true is =
        let same : Some xs ≡ Some rest = sym (ap (λ (b : Bool). if b then Some xs else None) is)
        ∙ e in
        let head : x ≡ 45 = grind (arith, nat_tests) in
        cc
    go false is = let bad : None ≡ Some rest = sym (ap (λ (b : Bool). if b then Some xs else None) is)
        ∙ e in cc

rest_written : (rest : Text) (o : Text × Option Text) → long_of_rest rest ≡ Some o
    → rest ≡ written o
rest_written [] o e = cc
rest_written (x ∷ xs) o e = let same : name_and_value (x ∷ xs) ≡ o = cc in parts_written (x ∷ xs)
    ∙ ap written same

-- the word that is an option
pub long_written : (word : Text) (o : Text × Option Text) → long_of word ≡ Some o
    → word ≡ option_word (written o)
long_written word o e = first (strip_byte 45 word) refl
  where
    second : (rest : Text) → word ≡ 45 ∷ rest
        → option_and_then long_of_rest (strip_byte 45 rest) ≡ Some o → (s : Option Text)
        → strip_byte 45 rest ≡ s → word ≡ option_word (written o)
    second rest is e None at = let bad : None ≡ Some o = sym (ap (option_and_then long_of_rest) at)
        ∙ e in cc
    second rest is e (Some text) at =
        is ∙ ap (λ (l : Text). 45 ∷ l) (strip_written rest text at)
        ∙ ap option_word (rest_written text o (sym (ap (option_and_then long_of_rest) at) ∙ e))

    first : (s : Option Text) → strip_byte 45 word ≡ s → word ≡ option_word (written o)
    first None at = let bad : None ≡ Some o = sym (ap (λ (s : Option Text). option_and_then long_of_rest (option_and_then (strip_byte 45) s)) at)
        ∙ e in cc
    first (Some rest) at =
        second rest (strip_written word rest at)
        (sym (ap (λ (s : Option Text). option_and_then long_of_rest (option_and_then (strip_byte 45) s)) at) ∙ e) (strip_byte 45 rest) refl

-- ---- a name that an option may have

abbrev pub is_option_name : Text → Bool
is_option_name [] = false
is_option_name (x ∷ xs) = not (list_any is_sign (x ∷ xs))

pub long_apart : (name : Text) → is_option_name name ≡ true
    → long_of (option_word name) ≡ Some (name, None)
long_apart [] e = cc
long_apart (x ∷ xs) e = ap (λ (p : Text × Option Text). Some p) (name_and_value-without (x ∷ xs) (lacks (x ∷ xs) (not-true (list_any is_sign (x ∷ xs)) e)))

pub long_joined : (name value : Text) → is_option_name name ≡ true
    → long_of (option_word name ++ 61 ∷ value) ≡ Some (name, Some value)
long_joined [] value e = cc
long_joined (x ∷ xs) value e = ap (λ (p : Text × Option Text). Some p) (name_and_value-at (x ∷ xs) value (lacks (x ∷ xs) (not-true (list_any is_sign (x ∷ xs)) e)))
