-- What is read, the grammar spells.
use Rattle.std.proofs.Common.{◌≡◌, ℕ, ◌+◌, ◌*◌, ◌-◌, ◌<◌, ◌≤◌, List, [], ◌∷◌, ◌++◌, length, Option, Some, None, inl, inr, nat_eq, nat_lt, refl, sym, ap, subst, ◌∙◌, arith}
use Rattle.std.specs.List.{AllZip}
use Rattle.std.proofs.lemmas.List.{append-nil, append_assoc, length_push}
use Rattle.std.proofs.lemmas.Bool.{eqb-true, ltb-true}
use Rattle.json_trees.proofs.FaultLemmas.{chosen}
use Rattle.json_trees.proofs.TreeLemmas.{and_then_some}
use Rattle.hyperslab.specs.declared.TheConstants.{MAX_DIGITS}
use Rattle.hyperslab.specs.declared.reading.Number.{Number}
use Rattle.hyperslab.specs.declared.reading.Number.TheVariants.{Blank, Digits, Spaced}
use Rattle.hyperslab.specs.declared.reading.Piece.{Piece}
use Rattle.hyperslab.specs.declared.reading.Piece.TheVariants.{First, Second, Third}
use Rattle.hyperslab.specs.declared.reading.Phase.{Phase}
use Rattle.hyperslab.specs.declared.reading.Phase.TheVariants.{Before, Inside, Closed}
use Rattle.hyperslab.specs.declared.reading.Part.{Part}
use Rattle.hyperslab.specs.declared.reading.Moved.{Moved}
use Rattle.hyperslab.specs.Steps.{step_of, number_step, digit_step, space_step, is_digit, number_of, part_of, moved, or_number, colon_step, inner_step, piece_step, with_number, single, stepped_part, still_inside, ended_at}
use Rattle.hyperslab.specs.Grammar.{AreSpaces, AreDigits, spelled, IsNumeral, IsMaybe, IsPart, commas, IsSelection}
use Rattle.hyperslab.proofs.RunLemmas.{digit_range, with_more, run, Goes}

spaces_push : (xs : List ℕ) (b : ℕ) → AreSpaces xs → b ≡ 32 → AreSpaces (xs ++ b ∷ [])
spaces_push [] b h e = (e, tt)
spaces_push (x ∷ xs) b h e = (h.0, spaces_push xs b h.1 e)

pub digits_push : (xs : List ℕ) (b : ℕ) → AreDigits xs → 48 ≤ b → b ≤ 57 → AreDigits (xs ++ b ∷ [])
digits_push [] b h k l = (k, l, tt)
digits_push (x ∷ xs) b h k l = (h.0, h.1, digits_push xs b h.2 k l)

pub spelled_push : (xs : List ℕ) (b n : ℕ) → spelled n (xs ++ b ∷ []) ≡ spelled n xs * 10 + (b - 48)
spelled_push [] b n = refl
spelled_push (x ∷ xs) b n = spelled_push xs b (n * 10 + (x - 48))

-- ---- numbers

-- a number whose digits may go on
record IsOpen (text : List ℕ) (count n : ℕ) : Type 0 where
  pub front : List ℕ
  pub digits : List ℕ
  pub text_is : text ≡ front ++ digits
  pub spaces_front : AreSpaces front
  pub are_digits : AreDigits digits
  pub counted : length digits ≡ count
  pub some_digit : 1 ≤ count
  pub few_digits : count ≤ MAX_DIGITS
  pub number : n ≡ spelled 0 digits

abbrev ReadNumber : Number → List ℕ → Type 0
ReadNumber Blank x = AreSpaces x
ReadNumber (Digits count n) x = IsOpen x count n
ReadNumber (Spaced n) x = IsNumeral x n

abbrev ReadSome : Option Number → List ℕ → Type 0
ReadSome None x = Unit {0}
ReadSome (Some t) x = ReadNumber t x

spaced_more : (x : List ℕ) (n b : ℕ) → IsNumeral x n → b ≡ 32 → IsNumeral (x ++ b ∷ []) n
spaced_more x n b h e = record {
  front = h.front;
  digits = h.digits;
  back = h.back ++ b ∷ [];
  text_is = ap (λ (y : List ℕ). y ++ b ∷ []) h.text_is ∙ append_assoc h.front (h.digits ++ h.back) (b ∷ []) ∙ ap (λ (y : List ℕ). h.front ++ y) (append_assoc h.digits h.back (b ∷ []));
  spaces_front = h.spaces_front;
  spaces_back = spaces_push h.back b h.spaces_back e;
  are_digits = h.are_digits;
  some_digit = h.some_digit;
  few_digits = h.few_digits;
  number = h.number;
}

-- an open number is a number
closed_number : (x : List ℕ) (count n : ℕ) → IsOpen x count n → IsNumeral x n
closed_number x count n h = record {
  front = h.front;
  digits = h.digits;
  back = [];
  text_is = h.text_is ∙ ap (λ (y : List ℕ). h.front ++ y) (sym (append-nil h.digits));
  spaces_front = h.spaces_front;
  spaces_back = tt;
  are_digits = h.are_digits;
  some_digit = omega (arith, h.some_digit, h.counted);
  few_digits = omega (arith, h.few_digits, h.counted);
  number = h.number;
}

first_digit : (x : List ℕ) (b : ℕ) → AreSpaces x → 48 ≤ b → b ≤ 57 → IsOpen (x ++ b ∷ []) 1 (b - 48)
first_digit x b h k l = record {
  front = x;
  digits = b ∷ [];
  text_is = refl;
  spaces_front = h;
  are_digits = (k, l, tt);
  counted = refl;
  some_digit = omega arith;
  few_digits = omega arith;
  number = omega arith;
}

next_digit : (x : List ℕ) (count n b : ℕ) → IsOpen x count n → count < MAX_DIGITS → 48 ≤ b → b ≤ 57 → IsOpen (x ++ b ∷ []) (count + 1) (n * 10 + (b - 48))
next_digit x count n b h few k l = record {
  front = h.front;
  digits = h.digits ++ b ∷ [];
  text_is = ap (λ (y : List ℕ). y ++ b ∷ []) h.text_is ∙ append_assoc h.front h.digits (b ∷ []);
  spaces_front = h.spaces_front;
  are_digits = digits_push h.digits b h.are_digits k l;
  counted = length_push h.digits b ∙ omega (arith, h.counted);
  some_digit = omega arith;
  few_digits = omega (arith, few);
  number = ap (λ m. m * 10 + (b - 48)) h.number ∙ sym (spelled_push h.digits b 0);
}

digit_read : (s : Number) (b : ℕ) (t : Number) (x : List ℕ) → ReadNumber s x → 48 ≤ b → b ≤ 57 → digit_step s (b - 48) ≡ Some t → ReadNumber t (x ++ b ∷ [])
digit_read Blank b t x r h k e =
    let P = λ (o : Option Number). ReadSome o (x ++ b ∷ []) in
    subst P e (first_digit x b r h k)
digit_read (Digits count n) b t x r h k e =
    elim (chosen (nat_lt count MAX_DIGITS) (Some (Digits (count + 1) (n * 10 + (b - 48)))) None (Some t) e) [
      | inl g ↦
          let P = λ (o : Option Number). ReadSome o (x ++ b ∷ []) in
          subst P g.1 (next_digit x count n b r (ltb-true count MAX_DIGITS g.0) h k)
      | inr g ↦ cc
    ]
digit_read (Spaced n) b t x r h k e = cc

space_read : (s : Number) (b : ℕ) (x : List ℕ) → ReadNumber s x → b ≡ 32 → ReadNumber (space_step s) (x ++ b ∷ [])
space_read Blank b x r e = spaces_push x b r e
space_read (Digits count n) b x r e = spaced_more x n b (closed_number x count n r) e
space_read (Spaced n) b x r e = spaced_more x n b r e

number_read : (s : Number) (b : ℕ) (t : Number) (x : List ℕ) → ReadNumber s x → number_step s b ≡ Some t → ReadNumber t (x ++ b ∷ [])
number_read s b t x r e =
    elim (chosen (nat_eq b 32) (Some (space_step s)) _ (Some t) e) [
      | inl h ↦
          let P = λ (o : Option Number). ReadSome o (x ++ b ∷ []) in
          subst P h.1 (space_read s b x r (eqb-true b 32 h.0))
      | inr h ↦
          elim (chosen (is_digit b) (digit_step s (b - 48)) None (Some t) h.1) [
            | inl g ↦ let range = digit_range b g.0 in digit_read s b t x r range.0 range.1 g.1
            | inr g ↦ cc
          ]
    ]

number_maybe : (s : Number) (x : List ℕ) → ReadNumber s x → IsMaybe x (number_of s)
number_maybe Blank x r = r
number_maybe (Digits count n) x r = closed_number x count n r
number_maybe (Spaced n) x r = r

-- ---- parts

abbrev ReadPiece : Piece → List ℕ → Type 0
ReadPiece (First n) x = ReadNumber n x
ReadPiece (Second start n) x = (y : List ℕ) × ((z : List ℕ) × ((x ≡ y ++ 58 ∷ z) × IsMaybe y start × ReadNumber n z))
ReadPiece (Third start stop n) x =
    (y : List ℕ) × ((z : List ℕ) × ((w : List ℕ) × ((x ≡ y ++ 58 ∷ (z ++ 58 ∷ w)) × IsMaybe y start × IsMaybe z stop × ReadNumber n w)))

abbrev PieceSome : Option Piece → List ℕ → Type 0
PieceSome None x = Unit {0}
PieceSome (Some p) x = ReadPiece p x

abbrev record_of : ℕ → ℕ → Option ℕ → Part
record_of start step stop = record { start = start; stop = stop; step = step }

with_ok : (f : Number → Piece) (o : Option Number) (q : Piece) → with_number f o ≡ Some q → (m : Number) × (o ≡ Some m) × (f m ≡ q)
with_ok f None q e = cc
with_ok f (Some m) q e = (m, refl, cc)

colon_end : (x : List ℕ) (b : ℕ) → b ≡ 58 → x ++ b ∷ [] ≡ x ++ 58 ∷ []
colon_end x b e = ap (λ n. x ++ n ∷ []) e

colon_read : (p : Piece) (b : ℕ) (q : Piece) (x : List ℕ) → ReadPiece p x → b ≡ 58 → colon_step p ≡ Some q → ReadPiece q (x ++ b ∷ [])
colon_read (First n) b q x r e h =
    let P = λ (o : Option Piece). PieceSome o (x ++ b ∷ []) in
    subst P h (x, ([], (colon_end x b e, number_maybe n x r, tt)))
colon_read (Second start n) b q x r e h =
    let P = λ (o : Option Piece). PieceSome o (x ++ b ∷ []) in
    let y = r.0 in
    let z = r.1.0 in
    let split : x ++ b ∷ [] ≡ y ++ 58 ∷ (z ++ 58 ∷ []) = colon_end x b e ∙ ap (λ (l : List ℕ). l ++ 58 ∷ []) r.1.1.0 ∙ append_assoc y (58 ∷ z) (58 ∷ []) in
    subst P h (y, (z, ([], (split, r.1.1.1, number_maybe n z r.1.1.2, tt))))
colon_read (Third start stop n) b q x r e h = cc

inner_read : (p : Piece) (b : ℕ) (q : Piece) (x : List ℕ) → ReadPiece p x → inner_step p b ≡ Some q → ReadPiece q (x ++ b ∷ [])
inner_read (First n) b q x r e =
    let m = with_ok First (number_step n b) q e in
    let P = λ (s : Piece). ReadPiece s (x ++ b ∷ []) in
    subst P m.2 (number_read n b m.0 x r m.1)
inner_read (Second start n) b q x r e =
    let m = with_ok (Second start) (number_step n b) q e in
    let P = λ (s : Piece). ReadPiece s (x ++ b ∷ []) in
    let y = r.0 in
    let z = r.1.0 in
    let split : x ++ b ∷ [] ≡ y ++ 58 ∷ (z ++ b ∷ []) = ap (λ (l : List ℕ). l ++ b ∷ []) r.1.1.0 ∙ append_assoc y (58 ∷ z) (b ∷ []) in
    subst P m.2 (y, (z ++ b ∷ [], (split, r.1.1.1, number_read n b m.0 z r.1.1.2 m.1)))
inner_read (Third start stop n) b q x r e =
    let m = with_ok (Third start stop) (number_step n b) q e in
    let P = λ (s : Piece). ReadPiece s (x ++ b ∷ []) in
    let y = r.0 in
    let z = r.1.0 in
    let w = r.1.1.0 in
    let split : x ++ b ∷ [] ≡ y ++ 58 ∷ (z ++ 58 ∷ (w ++ b ∷ [])) =
    ap (λ (l : List ℕ). l ++ b ∷ []) r.1.1.1.0 ∙ append_assoc y (58 ∷ (z ++ 58 ∷ w)) (b ∷ []) ∙ ap (λ (l : List ℕ). y ++ 58 ∷ l) (append_assoc z (58 ∷ w) (b ∷ [])) in
    subst P m.2 (y, (z, (w ++ b ∷ [], (split, r.1.1.1.1, r.1.1.1.2, number_read n b m.0 w r.1.1.1.3 m.1))))

piece_read : (p : Piece) (b : ℕ) (q : Piece) (x : List ℕ) → ReadPiece p x → piece_step p b ≡ Some q → ReadPiece q (x ++ b ∷ [])
piece_read p b q x r e =
    elim (chosen (nat_eq b 58) (colon_step p) (inner_step p b) (Some q) e) [
      | inl h ↦ colon_read p b q x r (eqb-true b 58 h.0) h.1
      | inr h ↦ inner_read p b q x r h.1
    ]

single_ok : (o : Option ℕ) (p : Part) → single o ≡ Some p → (n : ℕ) × (o ≡ Some n) × (record_of n 1 (Some (n + 1)) ≡ p)
single_ok None p e = cc
single_ok (Some n) p e = (n, refl, cc)

stepped_ok : (start stop o : Option ℕ) (p : Part) → stepped_part start stop o ≡ Some p → (n : ℕ) × (o ≡ Some n) × (record_of (or_number start 0) n stop ≡ p)
stepped_ok start stop None p e = cc
stepped_ok start stop (Some n) p e = (n, refl, cc)

same_part : (p q : Part) → Some p ≡ Some q → p ≡ q
same_part p q e = cc

part_read : (s : Piece) (x : List ℕ) (p : Part) → ReadPiece s x → part_of s ≡ Some p → IsPart x p
part_read (First n) x p r e =
    let found = single_ok (number_of n) p e in
    let P = λ (o : Option ℕ). IsMaybe x o in
    inl (record { n = found.0; numeral = subst P found.1 (number_maybe n x r); part = sym found.2 })
part_read (Second start n) x p r e =
    inr (inl (record {
      first = r.0;
      second = r.1.0;
      start = start;
      stop = number_of n;
      text_is = r.1.1.0;
      starts = r.1.1.1;
      stops = number_maybe n r.1.0 r.1.1.2;
      part = sym (same_part (record_of (or_number start 0) 1 (number_of n)) p e);
    }))
part_read (Third start stop n) x p r e =
    let found = stepped_ok start stop (number_of n) p e in
    let P = λ (o : Option ℕ). IsMaybe r.1.1.0 o in
    inr (inr (record {
      first = r.0;
      second = r.1.0;
      third = r.1.1.0;
      start = start;
      stop = stop;
      step = found.0;
      text_is = r.1.1.1.0;
      starts = r.1.1.1.1;
      stops = r.1.1.1.2;
      steps = subst P found.1 (number_maybe n r.1.1.0 r.1.1.1.3);
      part = sym found.2;
    }))

-- ---- the whole text

record IsInsideOf (piece : Piece) (parts : List Part) (text : List ℕ) : Type 0 where
  pub front : List ℕ
  pub texts : List (List ℕ)
  pub rest : List ℕ
  pub text_is : text ≡ front ++ 91 ∷ (commas texts ++ rest)
  pub spaces_front : AreSpaces front
  pub are_parts : AllZip IsPart texts parts
  pub reads : ReadPiece piece rest

abbrev ReadPhase : Phase → List Part → List ℕ → Type 0
ReadPhase Before ps x = AreSpaces x × (ps ≡ [])
ReadPhase (Inside p) ps x = IsInsideOf p ps x
ReadPhase Closed ps x = IsSelection x ps

abbrev MovedSome : Option Moved → List Part → List ℕ → Type 0
MovedSome None ps x = Unit {0}
MovedSome (Some m) ps x = ReadPhase m.phase (with_more ps m.part) x

commas_push : (ts : List (List ℕ)) (t : List ℕ) → commas (ts ++ t ∷ []) ≡ commas ts ++ (t ++ 44 ∷ [])
commas_push [] t = refl
commas_push (x ∷ ts) t = ap (λ (l : List ℕ). x ++ 44 ∷ l) (commas_push ts t) ∙ sym (append_assoc x (44 ∷ commas ts) (t ++ 44 ∷ []))

zip_push : (ts : List (List ℕ)) (ps : List Part) (t : List ℕ) (p : Part) → AllZip IsPart ts ps → IsPart t p → AllZip IsPart (ts ++ t ∷ []) (ps ++ p ∷ [])
zip_push [] [] t p h k = (k, tt)
zip_push [] (q ∷ ps) t p h k = absurd h
zip_push (x ∷ ts) [] t p h k = absurd h
zip_push (x ∷ ts) (q ∷ ps) t p h k = (h.0, zip_push ts ps t p h.1 k)

ended_ok : (f : Phase) (o : Option Part) (m : Moved) → ended_at f o ≡ Some m → (p : Part) × (o ≡ Some p) × (moved f (Some p) ≡ m)
ended_ok f None m e = cc
ended_ok f (Some p) m e = (p, refl, cc)

still_ok : (o : Option Piece) (m : Moved) → still_inside o ≡ Some m → (p : Piece) × (o ≡ Some p) × (moved (Inside p) None ≡ m)
still_ok None m e = cc
still_ok (Some p) m e = (p, refl, cc)

before_read : (b : ℕ) (m : Moved) (ps : List Part) (x : List ℕ) → ReadPhase Before ps x → step_of Before b ≡ Some m → ReadPhase m.phase (with_more ps m.part) (x ++ b ∷ [])
before_read b m ps x r e =
    let P = λ (o : Option Moved). MovedSome o ps (x ++ b ∷ []) in
    elim (chosen (nat_eq b 32) (Some (moved Before None)) _ (Some m) e) [
      | inl h ↦ subst P h.1 (spaces_push x b r.0 (eqb-true b 32 h.0), r.1)
      | inr h ↦
          elim (chosen (nat_eq b 91) (Some (moved (Inside (First Blank)) None)) None (Some m) h.1) [
            | inl g ↦
                let Q = λ (qs : List Part). AllZip IsPart [] qs in
                subst P g.1 (record {
                  front = x;
                  texts = [];
                  rest = [];
                  text_is = ap (λ n. x ++ n ∷ []) (eqb-true b 91 g.0);
                  spaces_front = r.0;
                  are_parts = subst Q (sym r.1) tt;
                  reads = tt;
                })
            | inr g ↦ cc
          ]
    ]

inside_text : (p : Piece) (ps : List Part) (x : List ℕ) (b : ℕ) → (r : IsInsideOf p ps x) → x ++ b ∷ [] ≡ r.front ++ 91 ∷ (commas r.texts ++ (r.rest ++ b ∷ []))
inside_text p ps x b r =
    ap (λ (l : List ℕ). l ++ b ∷ []) r.text_is
    ∙ append_assoc r.front (91 ∷ (commas r.texts ++ r.rest)) (b ∷ [])
    ∙ ap (λ (l : List ℕ). r.front ++ 91 ∷ l) (append_assoc (commas r.texts) r.rest (b ∷ []))

inside_read : (p : Piece) (b : ℕ) (m : Moved) (ps : List Part) (x : List ℕ) → IsInsideOf p ps x → step_of (Inside p) b ≡ Some m → ReadPhase m.phase (with_more ps m.part) (x ++ b ∷ [])
inside_read p b m ps x r e =
    let P = λ (n : Moved). ReadPhase n.phase (with_more ps n.part) (x ++ b ∷ []) in
    elim (chosen (nat_eq b 44) (ended_at (Inside (First Blank)) (part_of p)) _ (Some m) e) [
      | inl h ↦
          let found = ended_ok (Inside (First Blank)) (part_of p) m h.1 in
          let part = part_read p r.rest found.0 r.reads found.1 in
          let text = inside_text p ps x b r
          ∙ ap (λ n. r.front ++ 91 ∷ (commas r.texts ++ (r.rest ++ n ∷ []))) (eqb-true b 44 h.0)
          ∙ ap (λ (l : List ℕ). r.front ++ 91 ∷ l) (sym (commas_push r.texts r.rest))
          ∙ ap (λ (l : List ℕ). r.front ++ 91 ∷ l) (sym (append-nil (commas (r.texts ++ r.rest ∷ [])))) in
          subst P found.2 (record {
            front = r.front;
            texts = r.texts ++ r.rest ∷ [];
            rest = [];
            text_is = text;
            spaces_front = r.spaces_front;
            are_parts = zip_push r.texts ps r.rest found.0 r.are_parts part;
            reads = tt;
          })
      | inr h ↦
          elim (chosen (nat_eq b 93) (ended_at Closed (part_of p)) (still_inside (piece_step p b)) (Some m) h.1) [
            | inl g ↦
                let found = ended_ok Closed (part_of p) m g.1 in
                let part = part_read p r.rest found.0 r.reads found.1 in
                subst P found.2 (record {
                  front = r.front;
                  texts = r.texts;
                  last = r.rest;
                  back = [];
                  earlier = ps;
                  final = found.0;
                  text_is = inside_text p ps x b r ∙ ap (λ n. r.front ++ 91 ∷ (commas r.texts ++ (r.rest ++ n ∷ []))) (eqb-true b 93 g.0);
                  parts_are = refl;
                  spaces_front = r.spaces_front;
                  spaces_back = tt;
                  are_parts = r.are_parts;
                  is_part = part;
                })
            | inr g ↦
                let found = still_ok (piece_step p b) m g.1 in
                subst P found.2 (record {
                  front = r.front;
                  texts = r.texts;
                  rest = r.rest ++ b ∷ [];
                  text_is = inside_text p ps x b r;
                  spaces_front = r.spaces_front;
                  are_parts = r.are_parts;
                  reads = piece_read p b found.0 r.rest r.reads found.1;
                })
          ]
    ]

closed_read : (b : ℕ) (m : Moved) (ps : List Part) (x : List ℕ) → IsSelection x ps → step_of Closed b ≡ Some m → ReadPhase m.phase (with_more ps m.part) (x ++ b ∷ [])
closed_read b m ps x r e =
    let P = λ (o : Option Moved). MovedSome o ps (x ++ b ∷ []) in
    elim (chosen (nat_eq b 32) (Some (moved Closed None)) None (Some m) e) [
      | inl h ↦ subst P h.1 (record {
        front = r.front;
        texts = r.texts;
        last = r.last;
        back = r.back ++ b ∷ [];
        earlier = r.earlier;
        final = r.final;
        text_is = ap (λ (l : List ℕ). l ++ b ∷ []) r.text_is
            ∙ append_assoc r.front (91 ∷ (commas r.texts ++ (r.last ++ 93 ∷ r.back))) (b ∷ [])
            ∙ ap (λ (l : List ℕ). r.front ++ 91 ∷ l) (append_assoc (commas r.texts) (r.last ++ 93 ∷ r.back) (b ∷ []))
            ∙ ap (λ (l : List ℕ). r.front ++ 91 ∷ (commas r.texts ++ l)) (append_assoc r.last (93 ∷ r.back) (b ∷ []));
        parts_are = r.parts_are;
        spaces_front = r.spaces_front;
        spaces_back = spaces_push r.back b r.spaces_back (eqb-true b 32 h.0);
        are_parts = r.are_parts;
        is_part = r.is_part;
      })
      | inr h ↦ cc
    ]

phase_read : (f : Phase) (b : ℕ) (m : Moved) (ps : List Part) (x : List ℕ) → ReadPhase f ps x → step_of f b ≡ Some m → ReadPhase m.phase (with_more ps m.part) (x ++ b ∷ [])
phase_read Before b m ps x r e = before_read b m ps x r e
phase_read (Inside p) b m ps x r e = inside_read p b m ps x r e
phase_read Closed b m ps x r e = closed_read b m ps x r e

abbrev RunSome : Option (Phase × List Part) → List ℕ → Type 0
RunSome None x = Unit {0}
RunSome (Some r) x = ReadPhase r.0 r.1 x

run_read : (y : List ℕ) (f : Phase) (ps : List Part) (g : Phase) (qs : List Part) (x : List ℕ) → ReadPhase f ps x → Goes f ps y g qs → ReadPhase g qs (x ++ y)
run_read [] f ps g qs x r e =
    let P = λ (o : Option (Phase × List Part)). RunSome o (x ++ []) in
    let Q = λ (l : List ℕ). ReadPhase f ps l in
    subst P e (subst Q (sym (append-nil x)) r)
run_read (b ∷ y) f ps g qs x r e =
    let found = and_then_some (λ (m : Moved). run m.phase (with_more ps m.part) y) (step_of f b) (g, qs) e in
    let Q = λ (l : List ℕ). ReadPhase g qs l in
    subst Q (append_assoc x (b ∷ []) y) (run_read y found.0.phase (with_more ps found.0.part) g qs (x ++ b ∷ []) (phase_read f b found.0 ps x r found.1) found.2)

pub sound : (t : List ℕ) (qs : List Part) → Goes Before [] t Closed qs → IsSelection t qs
sound t qs e = run_read t Before [] Closed qs [] (tt, refl) e

-- ---- each phase can end

abbrev pub ending : Phase → List ℕ
ending Before = 91 ∷ 48 ∷ 93 ∷ []
ending (Inside (First Blank)) = 48 ∷ 93 ∷ []
ending (Inside (First (Digits count n))) = 93 ∷ []
ending (Inside (First (Spaced n))) = 93 ∷ []
ending (Inside (Second start n)) = 93 ∷ []
ending (Inside (Third start stop Blank)) = 48 ∷ 93 ∷ []
ending (Inside (Third start stop (Digits count n))) = 93 ∷ []
ending (Inside (Third start stop (Spaced n))) = 93 ∷ []
ending Closed = []

pub ends : (f : Phase) (ps : List Part) → (qs : List Part) × Goes f ps (ending f) Closed qs
ends Before ps = (_, refl)
ends (Inside (First Blank)) ps = (_, refl)
ends (Inside (First (Digits count n))) ps = (_, refl)
ends (Inside (First (Spaced n))) ps = (_, refl)
ends (Inside (Second start n)) ps = (_, refl)
ends (Inside (Third start stop Blank)) ps = (_, refl)
ends (Inside (Third start stop (Digits count n))) ps = (_, refl)
ends (Inside (Third start stop (Spaced n))) ps = (_, refl)
ends Closed ps = (ps, refl)
