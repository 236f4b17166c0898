-- The texts of a tree that is read of UTF-8 are UTF-8.
--     HasTexts d      each text in a tree is UTF-8, but for the keys of its objects
use Rattle.std.proofs.Common.{◌≡◌, ℕ, ◌+◌, ◌*◌, ◌<◌, ◌≤◌, Bool, true, false, cond, ◌&&◌, ◌||◌, ◌==◌, nat_lt, nat_le, List, [], ◌∷◌, ◌++◌, length, drop, get_or, IsUtf8, inl, inr, Option, Some, None, option_map, option_and_then, refl, sym, ap, ◌∙◌, subst, arith, append_assoc, append-nil}
use Rattle.std.proofs.lemmas.Bool.{and_parts, cases_lt, eqb-true, le-leb, leb-true, lt-ltb, ltb-true}
use Rattle.std.proofs.lemmas.List.{drop_at, take_at, length-append}
use Rattle.std.proofs.lemmas.Str.{IsCharBoundary-after_ascii, IsCharBoundary-before_ascii, IsUtf8-append, IsUtf8-drop, IsUtf8-encode, IsUtf8-take, encode_ascii}
use Rattle.std.proofs.Math.Seq.{get_or-append_seam}
use Rattle.std.proofs.Math.Utf8.{low_scalar}
use Rattle.std.specs.Char.{IsScalar, digit_value, encode_utf8, is_digit}
use Rattle.std.specs.Cmp.Lexicographic.{slice_cmp}
use Rattle.std.specs.Ordering.{match_ordering, nat_cmp}
use Rattle.std.specs.declared.cmp.Ordering.{Ordering}
use Rattle.std.specs.declared.cmp.Ordering.TheVariants.{Less, Equal, Greater}
use Rattle.json.specs.Json as json
use Rattle.json.specs.Lex.{Lexeme, token, comma, colon, Class, quote, backslash, operator, space, other, class, operator_lexeme, string_token, Mode, between, in_word, in_string, in_escape, lex_byte, lex}
use Rattle.json.specs.Lex.{Place, fresh, after_value, after_comma, after_key, begins_colon, may_begin, may_close, if_allowed, place_token, punctuate}
use Rattle.json.specs.Text.{Within, plain, after_backslash, after_u, after_high, code_unit, content, is_high_surrogate, is_low_surrogate, prepend, short_escape, surrogate_pair}
use Rattle.json.specs.Token.{Token, begin_object, end_object, begin_array, end_array, key, string, number, boolean, null, bad}
use Rattle.json.specs.Tree.{items_tokens, json_tokens, members_tokens}
use Rattle.json.specs.Word.{after_number, ends_word, head, is_operator, is_space, number_before, word}
use Rattle.serde_json.specs.Data.{Data, Items, Members, Num, put}
use Rattle.serde_json.specs.Data as trees
use Rattle.serde_json.specs.Find.{get, get_member}
use Rattle.serde_json.specs.Read.{number_of, of_items, of_json, of_members, read}
use Rattle.json_import.proofs.OfAdoption.LineLemmas.{tokens_of_value}

-- ---- UTF-8 around an ASCII byte

pub one_byte : (c : ℕ) → c < 128 → IsUtf8 (c ∷ [])
one_byte c small = subst IsUtf8 (encode_ascii c small) (IsUtf8-encode c (low_scalar c (omega (arith, small))))

utf8_parts : (front xs : List ℕ) (x : ℕ) → x < 128 → IsUtf8 (front ++ x ∷ xs) → IsUtf8 front × IsUtf8 xs
utf8_parts front xs x small u =
    let whole : List ℕ = front ++ x ∷ xs in
    let long = length-append front (x ∷ xs) in
    let here : get_or whole (length front) 0 ≡ x = get_or-append_seam front x xs 0 in
    let before = IsCharBoundary-before_ascii whole (length front) (omega (arith, long)) (omega (arith, here, small)) in
    let after = IsCharBoundary-after_ascii whole (length front) u (omega (arith, long)) (omega (arith, here, small)) in
    let split : whole ≡ (front ++ x ∷ []) ++ xs = sym (append_assoc front (x ∷ []) xs) in (
      subst IsUtf8 (take_at front (x ∷ xs) (length front) refl) (IsUtf8-take whole (length front) u before),
      subst IsUtf8 (ap (drop (length front + 1)) split ∙ drop_at (front ++ x ∷ []) xs (length front + 1) (length-append front (x ∷ []))) (IsUtf8-drop whole (length front + 1) u after),
    )

tail : (x : ℕ) (xs : List ℕ) → x < 128 → IsUtf8 (x ∷ xs) → IsUtf8 xs
tail x xs small u = (utf8_parts [] xs x small u).1

-- ---- the content of a string

abbrev Ends : List ℕ → Option (List ℕ) → Type 0
Ends front None = Unit {0}
Ends front (Some s) = IsUtf8 (front ++ s)

test : (front : List ℕ) (b : Bool) (x y : Option (List ℕ)) → (b ≡ true → Ends front x) → (b ≡ false → Ends front y) → Ends front (cond b x y)
test front true x y p q = p refl
test front false x y p q = q refl

then : {A : Type 0} (front : List ℕ) (f : A → Option (List ℕ)) (o : Option A) → ((a : A) → o ≡ Some a → Ends front (f a)) → Ends front (option_and_then f o)
then front f None h = tt
then front f (Some a) h = h a refl

more : (front bytes : List ℕ) (o : Option (List ℕ)) → Ends (front ++ bytes) o → Ends front (prepend bytes o)
more front bytes None h = tt
more front bytes (Some s) h = subst IsUtf8 (append_assoc front bytes s) h

-- what an escape stands for
record IsShort (x c : ℕ) : Type 0 where
  spelled : x < 128
  stands : c < 128

abbrev Short : ℕ → Option ℕ → Type 0
Short x None = Unit {0}
Short x (Some c) = IsShort x c

short_test : (x : ℕ) (b : Bool) (o p : Option ℕ) → (b ≡ true → Short x o) → Short x p → Short x (cond b o p)
short_test x true o p g h = g refl
short_test x false o p g h = h

short_at : (x c n : ℕ) → n < 128 → c < 128 → (x == n) ≡ true → IsShort x c
short_at x c n low small e = record { spelled = omega (arith, eqb-true x n e, low); stands = small }

short_one : (x : ℕ) (a b c : Bool) → (x == 34) ≡ a → (x == 92) ≡ b → (x == 47) ≡ c → (a || b || c) ≡ true → IsShort x x
short_one x true b c p q r h = let is = eqb-true x 34 p in record { spelled = omega (arith, is); stands = omega (arith, is) }
short_one x false true c p q r h = let is = eqb-true x 92 q in record { spelled = omega (arith, is); stands = omega (arith, is) }
short_one x false false true p q r h = let is = eqb-true x 47 r in record { spelled = omega (arith, is); stands = omega (arith, is) }
short_one x false false false p q r h = let never : false ≡ true = h in absurd (cc)

short : (x : ℕ) → Short x (short_escape x)
unfolding short_escape
short x =
    short_test x ((x == 34) || (x == 92) || (x == 47)) (Some x) _ (short_one x (x == 34) (x == 92) (x == 47) refl refl refl)
    (short_test x (x == 98) (Some 8) _ (short_at x 8 98 (omega arith) (omega arith)) (short_test x (x == 102) (Some 12) _ (short_at x 12 102 (omega arith) (omega arith))
    (short_test x (x == 110) (Some 10) _ (short_at x 10 110 (omega arith) (omega arith)) (short_test x (x == 114) (Some 13) _ (short_at x 13 114 (omega arith) (omega arith))
    (short_test x (x == 116) (Some 9) None (short_at x 9 116 (omega arith) (omega arith)) tt)))))

short_told : (x c : ℕ) → short_escape x ≡ Some c → IsShort x c
short_told x c e = subst (Short x) e (short x)

hex_small : (x : ℕ) → is_digit x 16 ≡ true → x < 128
hex_small x h = let low : digit_value x < 16 = ltb-true (digit_value x) 16 h in grind (arith, low)

record IsUnit (a b c d u : ℕ) : Type 0 where
  one : a < 128
  two : b < 128
  three : c < 128
  four : d < 128
  small : u < 65536

abbrev Unit_of : ℕ → ℕ → ℕ → ℕ → Option ℕ → Type 0
Unit_of a b c d None = Unit {0}
Unit_of a b c d (Some u) = IsUnit a b c d u

unit : (a b c d : ℕ) → Unit_of a b c d (code_unit a b c d)
unfolding code_unit
unit a b c d = at (is_digit a 16 && is_digit b 16 && is_digit c 16 && is_digit d 16) refl where
  at : (t : Bool) → (is_digit a 16 && is_digit b 16 && is_digit c 16 && is_digit d 16) ≡ t
      → Unit_of a b c d (cond t (Some (digit_value a * 4096 + digit_value b * 256 + digit_value c * 16 + digit_value d)) None)
  at false e = tt
  at true e =
      let p = and_parts (is_digit a 16 && is_digit b 16 && is_digit c 16) (is_digit d 16) e in
      let q = and_parts (is_digit a 16 && is_digit b 16) (is_digit c 16) p.0 in
      let r = and_parts (is_digit a 16) (is_digit b 16) q.0 in
      record {
        one = hex_small a r.0;
        two = hex_small b r.1;
        three = hex_small c q.1;
        four = hex_small d p.1;
        small = omega (arith, ltb-true (digit_value a) 16 r.0, ltb-true (digit_value b) 16 r.1, ltb-true (digit_value c) 16 q.1, ltb-true (digit_value d) 16 p.1);
      }

unit_told : (a b c d u : ℕ) → code_unit a b c d ≡ Some u → IsUnit a b c d u
unit_told a b c d u e = subst (Unit_of a b c d) e (unit a b c d)

behind_unit : (a b c d u : ℕ) (xs : List ℕ) → IsUnit a b c d u → IsUtf8 (a ∷ b ∷ c ∷ d ∷ xs) → IsUtf8 xs
behind_unit a b c d u xs h w = tail d xs h.four (tail c (d ∷ xs) h.three (tail b (c ∷ d ∷ xs) h.two (tail a (b ∷ c ∷ d ∷ xs) h.one w)))

-- a code unit that is no surrogate, and the character of a pair
not_both : {P : Type 0} (a b : Bool) → a ≡ true → b ≡ true → (a && b) ≡ false → P
not_both true true p q e = let never : true ≡ false = e in absurd (cc)
not_both true false p q e = let never : false ≡ true = q in absurd (cc)
not_both false b p q e = let never : false ≡ true = p in absurd (cc)

behind_test : (a b c : Bool) → b ≡ true → c ≡ true → cond a true (b && c) ≡ true
behind_test true b c p q = refl
behind_test false true c p q = q
behind_test false false c p q = p

high_scalar : (c : ℕ) → 57344 ≤ c → c < 1114112 → IsScalar c
high_scalar c low high = behind_test (nat_lt c 55296) (nat_le 57344 c) (nat_lt c 1114112) (le-leb 57344 c low) (lt-ltb c 1114112 high)

no_surrogate : (u : ℕ) → u < 65536 → is_high_surrogate u ≡ false → is_low_surrogate u ≡ false → IsScalar u
no_surrogate u small high low = elim (cases_lt u 0xd800) [
  | inl below ↦ low_scalar u below
  | inr from ↦ elim (cases_lt u 0xdc00) [
    | inl first ↦ not_both (nat_le 0xd800 u) (nat_lt u 0xdc00) (le-leb 0xd800 u from) (lt-ltb u 0xdc00 first) high
    | inr second ↦ elim (cases_lt u 0xe000) [
      | inl last ↦ not_both (nat_le 0xdc00 u) (nat_lt u 0xe000) (le-leb 0xdc00 u second) (lt-ltb u 0xe000 last) low
      | inr above ↦ high_scalar u above (omega (arith, small))
    ]
  ]
]

unit_utf8 : (u : ℕ) → u < 65536 → is_high_surrogate u ≡ false → is_low_surrogate u ≡ false → IsUtf8 (encode_utf8 u)
unit_utf8 u small high low = IsUtf8-encode u (no_surrogate u small high low)

abbrev IsHigh : ℕ → Type 0
IsHigh h = (0xd800 ≤ h) × (h < 0xdc00)

pair_utf8 : (h l : ℕ) → IsHigh h → is_low_surrogate l ≡ true → IsUtf8 (encode_utf8 (surrogate_pair h l))
pair_utf8 h l high low =
    let p = and_parts (nat_le 0xdc00 l) (nat_lt l 0xe000) low in
    let from = leb-true 0xdc00 l p.0 in
    let to = ltb-true l 0xe000 p.1 in
    IsUtf8-encode (surrogate_pair h l) (high_scalar (surrogate_pair h l) (omega (arith, high.0, high.1, from, to)) (omega (arith, high.0, high.1, from, to)))

high_told : (u : ℕ) → is_high_surrogate u ≡ true → IsHigh u
high_told u e = let p = and_parts (nat_le 0xd800 u) (nat_lt u 0xdc00) e in (leb-true 0xd800 u p.0, ltb-true u 0xdc00 p.1)

-- bytes stand before the rest: those of a character that has begun, or whole ones
abbrev Starts : Within → List ℕ → List ℕ → Type 0
Starts plain front xs = IsUtf8 (front ++ xs)
Starts after_backslash front xs = IsUtf8 front × IsUtf8 xs
Starts after_u front xs = IsUtf8 front × IsUtf8 xs
Starts (after_high h) front xs = IsUtf8 front × IsUtf8 xs × IsHigh h

-- whole ones before a whole one
plain_on : (front bytes xs : List ℕ) → IsUtf8 front → IsUtf8 bytes → IsUtf8 xs → IsUtf8 ((front ++ bytes) ++ xs)
plain_on front bytes xs f b x = IsUtf8-append (front ++ bytes) xs (IsUtf8-append front bytes f b) x

content_utf8 : (w : Within) (xs front : List ℕ) → Starts w front xs → Ends front (content w xs)
unfolding content
content_utf8 plain [] front u = tt
content_utf8 plain (x ∷ xs) front u =
    test front (x == 34) _ _ (λ e. subst IsUtf8 (sym (append-nil front)) (utf8_parts front xs x (omega (arith, eqb-true x 34 e)) u).0)
    (λ _. test front (x == 92) _ _ (λ e. content_utf8 after_backslash xs front (utf8_parts front xs x (omega (arith, eqb-true x 92 e)) u))
    (λ _. test front (nat_lt x 32) None _ (λ _. tt) (λ _. more front (x ∷ []) _ (content_utf8 plain xs (front ++ x ∷ []) (subst IsUtf8 (sym (append_assoc front (x ∷ []) xs)) u)))))
content_utf8 after_backslash [] front u = tt
content_utf8 after_backslash (x ∷ xs) front u =
    test front (x == 117) _ _ (λ e. content_utf8 after_u xs front (u.0, tail x xs (omega (arith, eqb-true x 117 e)) u.1))
    (λ _. then front _ (short_escape x) (λ c e. let s = short_told x c e in
    more front (c ∷ []) _ (content_utf8 plain xs (front ++ c ∷ []) (plain_on front (c ∷ []) xs u.0 (one_byte c s.stands) (tail x xs s.spelled u.1)))))
content_utf8 after_u [] front u = tt
content_utf8 after_u (a ∷ []) front u = tt
content_utf8 after_u (a ∷ b ∷ []) front u = tt
content_utf8 after_u (a ∷ b ∷ c ∷ []) front u = tt
content_utf8 after_u (a ∷ b ∷ c ∷ d ∷ xs) front u =
    then front _ (code_unit a b c d) (λ n e. let told = unit_told a b c d n e in let rest = behind_unit a b c d n xs told u.1 in
    test front (is_high_surrogate n) _ _ (λ h. content_utf8 (after_high n) xs front (u.0, rest, high_told n h))
    (λ h. test front (is_low_surrogate n) None _ (λ _. tt)
    (λ l. more front (encode_utf8 n) _ (content_utf8 plain xs (front ++ encode_utf8 n) (plain_on front (encode_utf8 n) xs u.0 (unit_utf8 n told.small h l) rest)))))
content_utf8 (after_high h) [] front u = tt
content_utf8 (after_high h) (s ∷ []) front u = tt
content_utf8 (after_high h) (s ∷ t ∷ []) front u = tt
content_utf8 (after_high h) (s ∷ t ∷ a ∷ []) front u = tt
content_utf8 (after_high h) (s ∷ t ∷ a ∷ b ∷ []) front u = tt
content_utf8 (after_high h) (s ∷ t ∷ a ∷ b ∷ c ∷ []) front u = tt
content_utf8 (after_high h) (s ∷ t ∷ a ∷ b ∷ c ∷ d ∷ xs) front u =
    test front ((s == 92) && (t == 117)) _ None (λ e. let p = and_parts (s == 92) (t == 117) e in
    let later = tail t (a ∷ b ∷ c ∷ d ∷ xs) (omega (arith, eqb-true t 117 p.1)) (tail s (t ∷ a ∷ b ∷ c ∷ d ∷ xs) (omega (arith, eqb-true s 92 p.0)) u.1) in
    then front _ (code_unit a b c d) (λ l f. let rest = behind_unit a b c d l xs (unit_told a b c d l f) later in
    test front (is_low_surrogate l) _ None (λ y. let pair = surrogate_pair h l in
    more front (encode_utf8 pair) _ (content_utf8 plain xs (front ++ encode_utf8 pair) (plain_on front (encode_utf8 pair) xs u.0 (pair_utf8 h l u.2 y) rest)))
    (λ _. tt))) (λ _. tt)

-- ---- tokens

abbrev IsText : Token → Type 0
IsText begin_object = Unit {0}
IsText end_object = Unit {0}
IsText begin_array = Unit {0}
IsText end_array = Unit {0}
IsText (key s) = Unit {0}
IsText (string s) = IsUtf8 s
IsText (number s) = Unit {0}
IsText (boolean b) = Unit {0}
IsText null = Unit {0}
IsText bad = Unit {0}

one_of : (b : Bool) (x y : Token) → IsText x → IsText y → IsText (cond b x y)
one_of true x y p q = p
one_of false x y p q = q

word_number : (t : List ℕ) (o : Option (List ℕ)) → IsText (number_before t o)
word_number t None = tt
word_number t (Some r) = one_of (ends_word r) _ bad tt tt

word_text : (t : List ℕ) → IsText (word t)
unfolding word
word_text t =
    one_of (head t == 116) _ _ (one_of _ (boolean true) bad tt tt) (one_of (head t == 102) _ _ (one_of _ (boolean false) bad tt tt)
    (one_of (head t == 110) _ _ (one_of _ null bad tt tt) (word_number t (after_number t))))

abbrev IsTextLexeme : Lexeme → Type 0
IsTextLexeme (token t) = IsText t
IsTextLexeme comma = Unit {0}
IsTextLexeme colon = Unit {0}

abbrev AreTextLexemes : List Lexeme → Type 0
AreTextLexemes [] = Unit {0}
AreTextLexemes (l ∷ ls) = IsTextLexeme l × AreTextLexemes ls

mark : (b : Bool) (x y : Lexeme) → IsTextLexeme x → IsTextLexeme y → IsTextLexeme (cond b x y)
mark true x y p q = p
mark false x y p q = q

marks : (x : ℕ) → IsTextLexeme (operator_lexeme x)
marks x =
    mark (x == 123) (token begin_object) _ tt (mark (x == 125) (token end_object) _ tt (mark (x == 91) (token begin_array) _ tt (mark (x == 93) (token end_array) _ tt (mark (x == 44) comma colon tt tt))))

string_text : (o : Option (List ℕ)) → Ends [] o → IsText (string_token o)
string_text None h = tt
string_text (Some s) h = h

abbrev is_quote : Class → Bool
is_quote quote = true
is_quote backslash = false
is_quote operator = false
is_quote space = false
is_quote other = false

quote_is : (x : ℕ) → class x ≡ quote → x ≡ 34
quote_is x e = eqb-true x 34 (at (x == 34) (x == 92) (is_operator x) (is_space x) e) where
  at : (q b o s : Bool) → cond q quote (cond b backslash (cond o operator (cond s space other))) ≡ quote → q ≡ true
  at true b o s h = refl
  at false true o s h = ap is_quote h
  at false false true s h = ap is_quote h
  at false false false true h = ap is_quote h
  at false false false false h = ap is_quote h

bytes_text : (m : Mode) (c : Class) (x : ℕ) (xs : List ℕ) (k : Mode → List Lexeme) → (c ≡ quote → IsUtf8 xs) → ((n : Mode) → AreTextLexemes (k n)) → AreTextLexemes (lex_byte m c x xs k)
bytes_text between quote x xs k u h = (string_text (content plain xs) (content_utf8 plain xs [] (u refl)), h in_string)
bytes_text between backslash x xs k u h = (tt, h in_word)
bytes_text between operator x xs k u h = (marks x, h between)
bytes_text between space x xs k u h = h between
bytes_text between other x xs k u h = (word_text (x ∷ xs), h in_word)
bytes_text in_word quote x xs k u h = h in_word
bytes_text in_word backslash x xs k u h = h in_word
bytes_text in_word operator x xs k u h = (marks x, h between)
bytes_text in_word space x xs k u h = h between
bytes_text in_word other x xs k u h = h in_word
bytes_text in_string quote x xs k u h = h between
bytes_text in_string backslash x xs k u h = h in_escape
bytes_text in_string operator x xs k u h = h in_string
bytes_text in_string space x xs k u h = h in_string
bytes_text in_string other x xs k u h = h in_string
bytes_text in_escape c x xs k u h = h in_string

lex_text : (xs front : List ℕ) (m : Mode) → IsUtf8 (front ++ xs) → AreTextLexemes (lex m xs)
unfolding lex
lex_text [] front m u = tt
lex_text (x ∷ xs) front m u =
    bytes_text m (class x) x xs (λ n. lex n xs) (λ is. (utf8_parts front xs x (omega (arith, quote_is x is)) u).1)
    (λ n. lex_text xs (front ++ x ∷ []) n (subst IsUtf8 (sym (append_assoc front (x ∷ []) xs)) u))

abbrev AreTextTokens : List Token → Type 0
AreTextTokens [] = Unit {0}
AreTextTokens (t ∷ ts) = IsText t × AreTextTokens ts

allowed : (b : Bool) (t : Token) (k : Place → List Token) (next : Place) → IsText t → AreTextTokens (k next) → AreTextTokens (if_allowed b t k next)
allowed true t k next p q = (p, q)
allowed false t k next p q = (tt, tt)

placed : (p : Place) (t : Token) (b : Bool) (k : Place → List Token) → IsText t → ((n : Place) → AreTextTokens (k n)) → AreTextTokens (place_token p t b k)
placed p begin_object b k q h = allowed (may_begin p) begin_object k fresh q (h fresh)
placed p end_object b k q h = allowed (may_close p) end_object k after_value q (h after_value)
placed p begin_array b k q h = allowed (may_begin p) begin_array k fresh q (h fresh)
placed p end_array b k q h = allowed (may_close p) end_array k after_value q (h after_value)
placed p (key s) b k q h = (tt, tt)
placed p (string s) true k q h = allowed (may_begin p) (key s) k after_key tt (h after_key)
placed p (string s) false k q h = allowed (may_begin p) (string s) k after_value q (h after_value)
placed p (number s) b k q h = allowed (may_begin p) (number s) k after_value q (h after_value)
placed p (boolean v) b k q h = allowed (may_begin p) (boolean v) k after_value q (h after_value)
placed p null b k q h = allowed (may_begin p) null k after_value q (h after_value)
placed p bad b k q h = (tt, tt)

punctuated : (ls : List Lexeme) → AreTextLexemes ls → (p : Place) → AreTextTokens (punctuate p ls)
unfolding punctuate
punctuated [] h fresh = tt
punctuated [] h after_value = tt
punctuated [] h after_comma = (tt, tt)
punctuated [] h after_key = (tt, tt)
punctuated (token t ∷ ls) h p = placed p t (begins_colon ls) (λ n. punctuate n ls) h.0 (punctuated ls h.1)
punctuated (comma ∷ ls) h fresh = (tt, tt)
punctuated (comma ∷ ls) h after_value = punctuated ls h.1 after_comma
punctuated (comma ∷ ls) h after_comma = (tt, tt)
punctuated (comma ∷ ls) h after_key = (tt, tt)
punctuated (colon ∷ ls) h fresh = (tt, tt)
punctuated (colon ∷ ls) h after_value = (tt, tt)
punctuated (colon ∷ ls) h after_comma = (tt, tt)
punctuated (colon ∷ ls) h after_key = punctuated ls h.1 fresh

parted : (ts us : List Token) → AreTextTokens (ts ++ us) → AreTextTokens ts × AreTextTokens us
parted [] us h = (tt, h)
parted (t ∷ ts) us h = let rest = parted ts us h.1 in ((h.0, rest.0), rest.1)

-- ---- trees

abbrev mutual
  pub HasTexts : Data → Type 0
  HasTexts trees.null = Unit {0}
  HasTexts (trees.boolean b) = Unit {0}
  HasTexts (trees.number n) = Unit {0}
  HasTexts (trees.string s) = IsUtf8 s
  HasTexts (trees.array ds) = ItemsHaveTexts ds
  HasTexts (trees.object ms) = MembersHaveTexts ms

  pub ItemsHaveTexts : Items → Type 0
  ItemsHaveTexts trees.no_items = Unit {0}
  ItemsHaveTexts (trees.item d ds) = HasTexts d × ItemsHaveTexts ds

  pub MembersHaveTexts : Members → Type 0
  MembersHaveTexts trees.no_members = Unit {0}
  MembersHaveTexts (trees.member k d ms) = HasTexts d × MembersHaveTexts ms

by_order : (o : Ordering) (k l : List ℕ) (d e : Data) (ms later : Members) → HasTexts d → HasTexts e → MembersHaveTexts ms → MembersHaveTexts later
    → MembersHaveTexts (match_ordering o (trees.member k d (trees.member l e ms)) (trees.member l d ms) (trees.member l e later))
by_order Less k l d e ms later p q r s = (p, (q, r))
by_order Equal k l d e ms later p q r s = (p, r)
by_order Greater k l d e ms later p q r s = (q, s)

put_texts : (k : List ℕ) (d : Data) (ms : Members) → HasTexts d → MembersHaveTexts ms → MembersHaveTexts (put k d ms)
put_texts k d trees.no_members p q = (p, tt)
put_texts k d (trees.member l e ms) p q = by_order (slice_cmp nat_cmp k l) k l d e ms (put k d ms) p q.0 q.1 (put_texts k d ms p q.1)

abbrev pub IfFound : {A : Type 0} → (A → Type 0) → Option A → Type 0
IfFound P None = Unit {0}
IfFound P (Some a) = P a

pub found_map : {A B : Type 0} (P : A → Type 0) (Q : B → Type 0) (f : A → B) (o : Option A) → ((a : A) → P a → Q (f a)) → IfFound P o → IfFound Q (option_map f o)
found_map P Q f None g h = tt
found_map P Q f (Some a) g h = g a h

pub found_then : {A B : Type 0} (P : A → Type 0) (Q : B → Type 0) (f : A → Option B) (o : Option A) → ((a : A) → P a → IfFound Q (f a)) → IfFound P o → IfFound Q (option_and_then f o)
found_then P Q f None g h = tt
found_then P Q f (Some a) g h = g a h

number_texts : (o : Option Num) → IfFound HasTexts (option_map trees.number o)
number_texts None = tt
number_texts (Some n) = tt

mutual
  json_texts : (j : json.Json) → AreTextTokens (json_tokens j) → IfFound HasTexts (of_json j)
  json_texts json.null h = tt
  json_texts (json.boolean b) h = tt
  json_texts (json.number s) h = number_texts (number_of s)
  json_texts (json.string s) h = h.0
  json_texts (json.array js) h = found_map ItemsHaveTexts HasTexts trees.array (of_items js) (λ ds x. x) (items_texts js h.1)
  json_texts (json.object ms) h = found_map MembersHaveTexts HasTexts trees.object (of_members ms trees.no_members) (λ ds x. x) (members_texts ms trees.no_members h.1 tt)

  items_texts : (js : json.Items) → AreTextTokens (items_tokens js) → IfFound ItemsHaveTexts (of_items js)
  items_texts json.no_items h = tt
  items_texts (json.item j js) h =
      let p = parted (json_tokens j) (items_tokens js) h in
      found_then HasTexts ItemsHaveTexts _ (of_json j) (λ d x. found_map ItemsHaveTexts ItemsHaveTexts (trees.item d) (of_items js) (λ ds y. (x, y)) (items_texts js p.1)) (json_texts j p.0)

  members_texts : (ms : json.Members) (found : Members) → AreTextTokens (members_tokens ms) → MembersHaveTexts found → IfFound MembersHaveTexts (of_members ms found)
  members_texts json.no_members found h q = q
  members_texts (json.member k j ms) found h q =
      let p = parted (json_tokens j) (members_tokens ms) h.1 in
      found_then HasTexts MembersHaveTexts _ (of_json j) (λ d x. members_texts ms (put k d found) p.1 (put_texts k d found x q)) (json_texts j p.0)

pub texts_read : (text : List ℕ) (d : Data) → IsUtf8 text → read text ≡ Some d → HasTexts d
texts_read text d utf8 is =
    let value = tokens_of_value text d is in
    let texts = punctuated (lex between text) (lex_text text [] between utf8) fresh in
    subst (IfFound HasTexts) value.2 (json_texts value.0 (subst AreTextTokens value.1 texts))

-- ---- what stands in a tree

by_key : (o : Ordering) (x y z : Option Data) → IfFound HasTexts x → IfFound HasTexts y → IfFound HasTexts z → IfFound HasTexts (match_ordering o x y z)
by_key Less x y z p q r = p
by_key Equal x y z p q r = q
by_key Greater x y z p q r = r

member_texts : (k : List ℕ) (ms : Members) → MembersHaveTexts ms → IfFound HasTexts (get_member k ms)
member_texts k trees.no_members h = tt
member_texts k (trees.member l e ms) h = by_key (slice_cmp nat_cmp k l) _ _ _ (member_texts k ms h.1) h.0 (member_texts k ms h.1)

pub find_texts : (k : List ℕ) (d : Data) → HasTexts d → IfFound HasTexts (get k d)
find_texts k trees.null h = tt
find_texts k (trees.boolean b) h = tt
find_texts k (trees.number n) h = tt
find_texts k (trees.string s) h = tt
find_texts k (trees.array ds) h = tt
find_texts k (trees.object ms) h = member_texts k ms h
