-- A text with a line feed behind it is read as the text is.
use Rattle.std.proofs.Common.{◌≡◌, ℕ, zero, suc, ◌+◌, ◌-◌, min, Bool, true, false, cond, ◌&&◌, ◌||◌, ◌==◌, nat_lt, List, [], ◌∷◌, ◌++◌, length, take, drop, Option, Some, None, option_map, option_and_then, inl, inr, ◌⊎◌, refl, sym, ap, ap₂, ◌∙◌, subst, arith, append_assoc, append-nil}
use Rattle.std.proofs.lemmas.Bool.{and_parts}
use Rattle.std.proofs.lemmas.List.{drop-drop, drop_min, length-drop, take-append-drop}
use Rattle.std.specs.Prelude.{nat_eq}
use Rattle.std.specs.List.{prefix_len, starts_with}
use Rattle.std.specs.Char.{encode_utf8, is_ascii_digit}
use Rattle.json.specs.Ascii as ascii
use Rattle.json.specs.Json as json
use Rattle.json.specs.Lex.{Lexeme, token, comma, colon, Class, quote, backslash, operator, space, other, class, operator_lexeme, string_token, Mode, between, in_word, in_string, in_escape, lex_byte, lex}
use Rattle.json.specs.Lex.{Place, fresh, after_value, after_comma, after_key, begins_colon, may_begin, may_close, if_allowed, place_token, punctuate, tokens}
use Rattle.json.specs.Print.{ArePrintable, IsNumber}
use Rattle.json.specs.Text.{Within, plain, after_backslash, after_u, after_high, code_unit, content, is_high_surrogate, is_low_surrogate, short_escape, surrogate_pair}
use Rattle.json.specs.Token.{Token, begin_object, end_object, begin_array, end_array, key, string, number, boolean, null, bad}
use Rattle.json.specs.Tree.{json_tokens}
use Rattle.json.specs.Word.{head, ends_word, after_digits, after_minus, after_sign, after_fraction, after_exponent, after_number, literal, number_before, word}
use Rattle.json.proofs.Numbered.{ArePrintableOrBad-tokens, value-HasNumbers}
use Rattle.json.proofs.Printed.Numbers.{lex-number, number_alone}
use Rattle.json.proofs.Printed.Trees.{ArePrintable-json_tokens}
use Rattle.json.proofs.Unique.Spelling.{value-json_tokens_back}
use Rattle.serde_json.specs.Data.{Data}
use Rattle.serde_json.specs.Read.{max_depth, of_json, read}

abbrev feed : List ℕ
feed = 10 ∷ []

-- ---- the content of a string

-- what is found is found with the line feed too
abbrev Grows : {A : Type 0} → Option A → Option A → Type 0
Grows None p = Unit {0}
Grows (Some x) p = p ≡ Some x

either : {A : Type 0} (b : Bool) (x y p q : Option A) → Grows x p → Grows y q → Grows (cond b x y) (cond b p q)
either true x y p q g h = g
either false x y p q g h = h

mapped : {A B : Type 0} (f : A → B) (o p : Option A) → Grows o p → Grows (option_map f o) (option_map f p)
mapped f None p g = tt
mapped f (Some x) p g = ap (option_map f) g

then : {A B : Type 0} (f g : A → Option B) (o : Option A) → ((x : A) → Grows (f x) (g x)) → Grows (option_and_then f o) (option_and_then g o)
then f g None h = tt
then f g (Some x) h = h x

content_grows : (w : Within) (xs : List ℕ) → Grows (content w xs) (content w (xs ++ feed))
unfolding content
content_grows plain [] = tt
content_grows plain (x ∷ xs) =
    either (x == ascii.quote) (Some []) _ (Some []) _ refl (either (x == ascii.backslash) _ _ _ _ (content_grows after_backslash xs)
    (either (nat_lt x ascii.space) None _ None _ tt (mapped (λ s. (x ∷ []) ++ s) _ _ (content_grows plain xs))))
content_grows after_backslash [] = tt
content_grows after_backslash (x ∷ xs) =
    either (x == ascii.lower_u) _ _ _ _ (content_grows after_u xs)
    (then _ _ (short_escape x) (λ c. mapped (λ s. (c ∷ []) ++ s) _ _ (content_grows plain xs)))
content_grows after_u [] = tt
content_grows after_u (a ∷ []) = tt
content_grows after_u (a ∷ b ∷ []) = tt
content_grows after_u (a ∷ b ∷ c ∷ []) = tt
content_grows after_u (a ∷ b ∷ c ∷ d ∷ xs) =
    then _ _ (code_unit a b c d) (λ u. either (is_high_surrogate u) _ _ _ _ (content_grows (after_high u) xs)
    (either (is_low_surrogate u) None _ None _ tt (mapped (λ s. encode_utf8 u ++ s) _ _ (content_grows plain xs))))
content_grows (after_high h) [] = tt
content_grows (after_high h) (s ∷ []) = tt
content_grows (after_high h) (s ∷ u ∷ []) = tt
content_grows (after_high h) (s ∷ u ∷ a ∷ []) = tt
content_grows (after_high h) (s ∷ u ∷ a ∷ b ∷ []) = tt
content_grows (after_high h) (s ∷ u ∷ a ∷ b ∷ c ∷ []) = tt
content_grows (after_high h) (s ∷ u ∷ a ∷ b ∷ c ∷ d ∷ xs) =
    either ((s == ascii.backslash) && (u == ascii.lower_u)) _ None _ None
    (then _ _ (code_unit a b c d) (λ l. either (is_low_surrogate l) _ None _ None (mapped (λ t. encode_utf8 (surrogate_pair h l) ++ t) _ _ (content_grows plain xs)) tt)) tt

-- ---- words

-- a token that isn't bad stays
abbrev IsKept : Token → Token → Type 0
IsKept t u = (t ≡ bad) ⊎ (u ≡ t)

kept_text : (o p : Option (List ℕ)) → Grows o p → IsKept (string_token o) (string_token p)
kept_text None p g = inl refl
kept_text (Some s) p g = inr (ap string_token g)

kept_test : (b : Bool) (x y p q : Token) → (b ≡ true → IsKept x p) → (b ≡ false → IsKept y q) → IsKept (cond b x y) (cond b p q)
kept_test true x y p q g h = g refl
kept_test false x y p q g h = h refl

kept_where : (b c : Bool) (t : Token) → (b ≡ true → c ≡ true) → IsKept (cond b t bad) (cond c t bad)
kept_where true c t h = inr (ap (λ (x : Bool). cond x t bad) (h refl))
kept_where false c t h = inl refl

abbrev none : List ℕ
none = []

nothing_left : (n : ℕ) → drop n none ≡ none
nothing_left zero = refl
nothing_left (suc n) = refl

still_ends : (n : ℕ) (t : List ℕ) → ends_word (drop n t) ≡ true → ends_word (drop n (t ++ feed)) ≡ true
still_ends zero [] h = refl
still_ends zero (x ∷ xs) h = h
still_ends (suc n) [] h = ap ends_word (nothing_left n)
still_ends (suc n) (x ∷ xs) h = still_ends n xs h

still_starts : (name t : List ℕ) → starts_with nat_eq t name ≡ true → starts_with nat_eq (t ++ feed) name ≡ true
still_starts [] [] h = refl
still_starts [] (x ∷ xs) h = refl
still_starts (c ∷ name) [] h = let never : false ≡ true = h in absurd (cc)
still_starts (c ∷ name) (x ∷ xs) h =
    let p = and_parts (nat_eq c x) (starts_with nat_eq xs name) h in
    ap₂ (λ a b. a && b) p.0 (still_starts name xs p.1)

kept_literal : (name : List ℕ) (t : Token) (s : List ℕ) → IsKept (literal name t s) (literal name t (s ++ feed))
kept_literal name t s = kept_where _ _ t (λ h.
    let p = and_parts (starts_with nat_eq s name) (ends_word (drop (length name) s)) h in
    ap₂ (λ a b. a && b) (still_starts name s p.0) (still_ends (length name) s p.1))

-- ---- numbers

-- what a part of a number leaves is an end of the text
abbrev EndOf : List ℕ → List ℕ → Type 0
EndOf t r = (k : ℕ) × (r ≡ drop k t)

abbrev LeavesEnd : List ℕ → Option (List ℕ) → Type 0
LeavesEnd t None = Unit {0}
LeavesEnd t (Some r) = EndOf t r

further : (t u : List ℕ) (o : Option (List ℕ)) → EndOf t u → LeavesEnd u o → LeavesEnd t o
further t u None e h = tt
further t u (Some r) e h = (e.0 + h.0, h.1 ∙ ap (drop h.0) e.1 ∙ drop-drop h.0 e.0 t)

one_way : (t : List ℕ) (b : Bool) (x y : Option (List ℕ)) → LeavesEnd t x → LeavesEnd t y → LeavesEnd t (cond b x y)
one_way t true x y p q = p
one_way t false x y p q = q

optional : (t : List ℕ) (b : Bool) → EndOf t (cond b (drop 1 t) t)
optional t true = (1, refl)
optional t false = (0, refl)

digits : (t : List ℕ) → LeavesEnd t (after_digits t)
digits t = one_way t (prefix_len is_ascii_digit t == 0) None _ tt (prefix_len is_ascii_digit t, refl)

next : (t : List ℕ) (f : List ℕ → Option (List ℕ)) → ((u : List ℕ) → LeavesEnd u (f u)) → (o : Option (List ℕ)) → LeavesEnd t o → LeavesEnd t (option_and_then f o)
next t f g None h = tt
next t f g (Some r) h = further t r (f r) h (g r)

fraction : (t : List ℕ) → LeavesEnd t (after_fraction t)
fraction t = one_way t (head t == 46) _ (Some t) (further t (drop 1 t) _ (1, refl) (digits (drop 1 t))) (0, refl)

exponent : (t : List ℕ) → LeavesEnd t (after_exponent t)
exponent t =
    let u = drop 1 t in
    one_way t ((head t == 101) || (head t == 69)) _ (Some t) (further t u _ (1, refl) (further u (after_sign u) _ (optional u _) (digits (after_sign u)))) (0, refl)

number_leaves : (t : List ℕ) → LeavesEnd t (after_number t)
unfolding after_number
number_leaves t =
    let u = after_minus t in
    next t after_exponent exponent _ (next t after_fraction fraction _ (further t u _ (optional t _) (one_way u (head u == 48) (Some (drop 1 u)) _ (1, refl) (digits u))))

front_and_rest : (t r : List ℕ) → EndOf t r → take (length t - length r) t ++ r ≡ t
front_and_rest t r e =
    let n : length t - length r ≡ min e.0 (length t) = omega (arith, ap length e.1, length-drop e.0 t) in
    ap (λ x. take (length t - length r) t ++ x) (e.1 ∙ sym (drop_min e.0 t) ∙ ap (λ k. drop k t) (sym n)) ∙ take-append-drop _ t

-- the token that a text begins with
abbrev first_of : List Lexeme → Token
first_of [] = bad
first_of (token t ∷ ls) = t
first_of (comma ∷ ls) = bad
first_of (colon ∷ ls) = bad

first_word : (x : ℕ) (xs : List ℕ) → class x ≡ other → first_of (lex between (x ∷ xs)) ≡ word (x ∷ xs)
unfolding lex
first_word x xs is = ap (λ c. first_of (lex_byte between c x xs (λ n. lex n xs))) is

ended : (r : List ℕ) → ends_word r ≡ true → ends_word (r ++ feed) ≡ true
ended r h = still_ends 0 r h

-- a number that a word ends is that number with the line feed too
module _ (x : ℕ) (xs : List ℕ) (is : class x ≡ other) where
  number_stays : (r : List ℕ) → after_number (x ∷ xs) ≡ Some r → EndOf (x ∷ xs) r → ends_word r ≡ true
      → word (x ∷ (xs ++ feed)) ≡ number (take (length (x ∷ xs) - length r) (x ∷ xs))
  number_stays r e h ends =
      let t : List ℕ = x ∷ xs in
      let s = take (length t - length r) t in
      let split = front_and_rest t r h in
      let whole : IsNumber s = number_alone s r ends (ap after_number split ∙ e) in
      sym (first_word x (xs ++ feed) is)
      ∙ ap (λ l. first_of (lex between l)) (ap (λ l. l ++ feed) (sym split) ∙ append_assoc s r feed)
      ∙ ap first_of (lex-number s (r ++ feed) whole (ended r ends))

  abbrev now : Token
  now = word (x ∷ (xs ++ feed))

  kept_number : (o : Option (List ℕ)) → after_number (x ∷ xs) ≡ o → LeavesEnd (x ∷ xs) o → IsKept (number_before (x ∷ xs) o) now
  kept_number None e h = inl refl
  kept_number (Some r) e h = at (ends_word r) refl where
    at : (b : Bool) → ends_word r ≡ b → IsKept (cond b (number (take (length (x ∷ xs) - length r) (x ∷ xs))) bad) now
    at true ends = inr (number_stays r e h ends)
    at false longer = inl refl

  kept_word : IsKept (word (x ∷ xs)) now
  unfolding word
  kept_word = at (x == ascii.lower_t) (x == ascii.lower_f) (x == ascii.lower_n) refl refl refl where
    t : List ℕ
    t = x ∷ xs

    at : (a b c : Bool) → (x == ascii.lower_t) ≡ a → (x == ascii.lower_f) ≡ b → (x == ascii.lower_n) ≡ c
        → IsKept (cond a (literal ascii.true_text (boolean true) t) (cond b (literal ascii.false_text (boolean false) t) (cond c (literal ascii.null_text null t) (number_before t (after_number t)))))
        (cond a (literal ascii.true_text (boolean true) (t ++ feed)) (cond b (literal ascii.false_text (boolean false) (t ++ feed)) (cond c (literal ascii.null_text null (t ++ feed)) (number_before (t ++ feed) (after_number (t ++ feed))))))
    at true b c p q r = kept_literal ascii.true_text (boolean true) t
    at false true c p q r = kept_literal ascii.false_text (boolean false) t
    at false false true p q r = kept_literal ascii.null_text null t
    at false false false p q r = subst (IsKept (number_before t (after_number t)))
        (ap (λ d. cond d (literal ascii.true_text (boolean true) (t ++ feed)) (cond (x == ascii.lower_f) (literal ascii.false_text (boolean false) (t ++ feed)) (cond (x == ascii.lower_n) (literal ascii.null_text null (t ++ feed)) (number_before (t ++ feed) (after_number (t ++ feed)))))) p
        ∙ ap (λ d. cond d (literal ascii.false_text (boolean false) (t ++ feed)) (cond (x == ascii.lower_n) (literal ascii.null_text null (t ++ feed)) (number_before (t ++ feed) (after_number (t ++ feed))))) q
        ∙ ap (λ d. cond d (literal ascii.null_text null (t ++ feed)) (number_before (t ++ feed) (after_number (t ++ feed)))) r)
        (kept_number (after_number t) refl (number_leaves t))

-- ---- lexemes

abbrev IsKeptLexeme : Lexeme → Lexeme → Type 0
IsKeptLexeme (token t) m = (u : Token) × (m ≡ token u) × IsKept t u
IsKeptLexeme comma m = m ≡ comma
IsKeptLexeme colon m = m ≡ colon

abbrev AreKeptLexemes : List Lexeme → List Lexeme → Type 0
AreKeptLexemes [] ms = ms ≡ []
AreKeptLexemes (l ∷ ls) [] = ⊥
AreKeptLexemes (l ∷ ls) (m ∷ ms) = IsKeptLexeme l m × AreKeptLexemes ls ms

itself : (l : Lexeme) → IsKeptLexeme l l
itself (token t) = (t, refl, inr refl)
itself comma = refl
itself colon = refl

bytes_kept : (m : Mode) (c : Class) (x : ℕ) (xs : List ℕ) → class x ≡ c → ((n : Mode) → AreKeptLexemes (lex n xs) (lex n (xs ++ feed)))
    → AreKeptLexemes (lex_byte m c x xs (λ n. lex n xs)) (lex_byte m c x (xs ++ feed) (λ n. lex n (xs ++ feed)))
bytes_kept between quote x xs is h = ((_, refl, kept_text _ _ (content_grows plain xs)), h in_string)
bytes_kept between backslash x xs is h = ((_, refl, inl refl), h in_word)
bytes_kept between operator x xs is h = (itself (operator_lexeme x), h between)
bytes_kept between space x xs is h = h between
bytes_kept between other x xs is h = ((_, refl, kept_word x xs is), h in_word)
bytes_kept in_word quote x xs is h = h in_word
bytes_kept in_word backslash x xs is h = h in_word
bytes_kept in_word operator x xs is h = (itself (operator_lexeme x), h between)
bytes_kept in_word space x xs is h = h between
bytes_kept in_word other x xs is h = h in_word
bytes_kept in_string quote x xs is h = h between
bytes_kept in_string backslash x xs is h = h in_escape
bytes_kept in_string operator x xs is h = h in_string
bytes_kept in_string space x xs is h = h in_string
bytes_kept in_string other x xs is h = h in_string
bytes_kept in_escape c x xs is h = h in_string

lex_kept : (xs : List ℕ) (m : Mode) → AreKeptLexemes (lex m xs) (lex m (xs ++ feed))
unfolding lex
lex_kept [] between = refl
lex_kept [] in_word = refl
lex_kept [] in_string = refl
lex_kept [] in_escape = refl
lex_kept (x ∷ xs) m = bytes_kept m (class x) x xs refl (lex_kept xs)

-- ---- tokens

never_bad : {P : Type 0} (ts : List Token) → ArePrintable (bad ∷ ts) → P
unfolding ArePrintable
never_bad ts h = absurd h.0

allowed : (b : Bool) (t : Token) (k l : Place → List Token) (next : Place) → ((n : Place) → ArePrintable (k n) → l n ≡ k n) → ArePrintable (if_allowed b t k next)
    → if_allowed b t l next ≡ if_allowed b t k next
unfolding ArePrintable
allowed true t k l next h fine = ap (λ ts. t ∷ ts) (h next fine.1)
allowed false t k l next h fine = refl

module _ (k l : Place → List Token) (h : (n : Place) → ArePrintable (k n) → l n ≡ k n) where
  placed : (p : Place) (t : Token) (b : Bool) → ArePrintable (place_token p t b k) → place_token p t b l ≡ place_token p t b k
  placed p begin_object b fine = allowed (may_begin p) begin_object k l fresh h fine
  placed p end_object b fine = allowed (may_close p) end_object k l after_value h fine
  placed p begin_array b fine = allowed (may_begin p) begin_array k l fresh h fine
  placed p end_array b fine = allowed (may_close p) end_array k l after_value h fine
  placed p (key s) b fine = refl
  placed p (string s) true fine = allowed (may_begin p) (key s) k l after_key h fine
  placed p (string s) false fine = allowed (may_begin p) (string s) k l after_value h fine
  placed p (number s) b fine = allowed (may_begin p) (number s) k l after_value h fine
  placed p (boolean v) b fine = allowed (may_begin p) (boolean v) k l after_value h fine
  placed p null b fine = allowed (may_begin p) null k l after_value h fine
  placed p bad b fine = refl

same_colon : (ls ms : List Lexeme) → AreKeptLexemes ls ms → begins_colon ms ≡ begins_colon ls
same_colon [] ms h = ap begins_colon h
same_colon (l ∷ ls) [] h = absurd h
same_colon (token t ∷ ls) (m ∷ ms) h = ap (λ n. begins_colon (n ∷ ms)) h.0.1
same_colon (comma ∷ ls) (m ∷ ms) h = ap (λ n. begins_colon (n ∷ ms)) h.0
same_colon (colon ∷ ls) (m ∷ ms) h = ap (λ n. begins_colon (n ∷ ms)) h.0

token_stays : (p : Place) (t u : Token) (ls ms : List Lexeme) → IsKept t u → begins_colon ms ≡ begins_colon ls
    → ((n : Place) → ArePrintable (punctuate n ls) → punctuate n ms ≡ punctuate n ls)
    → ArePrintable (place_token p t (begins_colon ls) (λ n. punctuate n ls))
    → place_token p u (begins_colon ms) (λ n. punctuate n ms) ≡ place_token p t (begins_colon ls) (λ n. punctuate n ls)
token_stays p t u ls ms (inl is) colons h fine =
    never_bad [] (subst (λ (x : Token). ArePrintable (place_token p x (begins_colon ls) (λ n. punctuate n ls))) is fine)
token_stays p t u ls ms (inr same) colons h fine =
    (λ i. place_token p (same i) (colons i) (λ n. punctuate n ms)) ∙ placed (λ n. punctuate n ls) (λ n. punctuate n ms) h p t (begins_colon ls) fine

stays : (ls ms : List Lexeme) → AreKeptLexemes ls ms → (p : Place) → ArePrintable (punctuate p ls) → punctuate p ms ≡ punctuate p ls
unfolding punctuate
stays [] ms h p fine = ap (punctuate p) h
stays (l ∷ ls) [] h p fine = absurd h
stays (token t ∷ ls) (m ∷ ms) h p fine =
    ap (λ n. punctuate p (n ∷ ms)) h.0.1 ∙ token_stays p t h.0.0 ls ms h.0.2 (same_colon ls ms h.1) (stays ls ms h.1) fine
stays (comma ∷ ls) (m ∷ ms) h fresh fine = never_bad _ fine
stays (comma ∷ ls) (m ∷ ms) h after_value fine = ap (λ n. punctuate after_value (n ∷ ms)) h.0 ∙ stays ls ms h.1 after_comma fine
stays (comma ∷ ls) (m ∷ ms) h after_comma fine = never_bad _ fine
stays (comma ∷ ls) (m ∷ ms) h after_key fine = never_bad _ fine
stays (colon ∷ ls) (m ∷ ms) h fresh fine = never_bad _ fine
stays (colon ∷ ls) (m ∷ ms) h after_value fine = never_bad _ fine
stays (colon ∷ ls) (m ∷ ms) h after_comma fine = never_bad _ fine
stays (colon ∷ ls) (m ∷ ms) h after_key fine = ap (λ n. punctuate after_key (n ∷ ms)) h.0 ∙ stays ls ms h.1 fresh fine

-- ---- texts

-- a text that is a value has the tokens of the value alone
abbrev of_tokens : Option (json.Json × List Token) → Option Data
of_tokens found = option_and_then of_json (option_and_then (λ p. json.if_last p.0 p.1) found)

pub tokens_of_value : (text : List ℕ) (d : Data) → read text ≡ Some d
    → (j : json.Json) × (tokens text ≡ json_tokens j) × (of_json j ≡ Some d) × ArePrintable (tokens text)
tokens_of_value text d is = at (json.value max_depth (tokens text)) refl is where
  at : (o : Option (json.Json × List Token)) → json.value max_depth (tokens text) ≡ o → of_tokens o ≡ Some d
      → (j : json.Json) × (tokens text ≡ json_tokens j) × (of_json j ≡ Some d) × ArePrintable (tokens text)
  at None e h = let never : None ≡ Some d = h in absurd (cc)
  at (Some (j, [])) e h =
      let spelled = value-json_tokens_back max_depth (tokens text) [] j e ∙ append-nil (json_tokens j) in
      let numbers = value-HasNumbers max_depth (tokens text) [] j (ArePrintableOrBad-tokens text) e in
      (j, spelled, h, subst ArePrintable (sym spelled) (ArePrintable-json_tokens j numbers))
  at (Some (j, t ∷ ts)) e h = let never : None ≡ Some d = h in absurd (cc)

pub read_line : (text : List ℕ) (d : Data) → read text ≡ Some d → read (text ++ 10 ∷ []) ≡ Some d
read_line text d is =
    let same = stays (lex between text) (lex between (text ++ feed)) (lex_kept text between) fresh (tokens_of_value text d is).3 in
    ap (λ ts. of_tokens (json.value max_depth ts)) same ∙ is
