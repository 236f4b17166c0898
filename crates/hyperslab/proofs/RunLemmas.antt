-- What the grammar spells is read.
use Rattle.std.proofs.Common.{◌≡◌, ℕ, ◌+◌, ◌*◌, ◌-◌, ◌≤◌, ◌&&◌, Bool, true, false, List, [], ◌∷◌, ◌++◌, length, Option, Some, None, option_and_then, inl, inr, nat_eq, nat_lt, nat_le, refl, sym, ap, subst, ◌∙◌, arith}
use Rattle.std.specs.List.{AllZip}
use Rattle.std.proofs.lemmas.List.{append-nil, append_assoc}
use Rattle.std.proofs.lemmas.Bool.{lt-ltb, le-leb, leb-true, false≢true}
use Rattle.std.proofs.lemmas.Bool.Decides.{nat_tests}
use Rattle.json_trees.proofs.FaultLemmas.{chosen}
use Rattle.hyperslab.specs.declared.TheConstants.{MAX_DIGITS}
use Rattle.hyperslab.specs.declared.reading.Number.{Number}
use Rattle.hyperslab.specs.declared.reading.Number.TheVariants.{Blank, Digits, Spaced}
use Rattle.hyperslab.specs.declared.reading.Piece.{Piece}
use Rattle.hyperslab.specs.declared.reading.Piece.TheVariants.{First, Second, Third}
use Rattle.hyperslab.specs.declared.reading.Phase.{Phase}
use Rattle.hyperslab.specs.declared.reading.Phase.TheVariants.{Before, Inside, Closed}
use Rattle.hyperslab.specs.declared.reading.Part.{Part}
use Rattle.hyperslab.specs.declared.reading.Moved.{Moved}
use Rattle.hyperslab.specs.Steps.{step_of, number_step, digit_step, space_step, is_digit, number_of, part_of, moved}
use Rattle.hyperslab.specs.Grammar.{AreSpaces, AreDigits, spelled, IsNumeral, IsMaybe, IsPart, commas, IsSelection}

abbrev pub with_more : List Part → Option Part → List Part
with_more ps None = ps
with_more ps (Some p) = ps ++ p ∷ []

-- the phase and the parts after a text
abbrev pub run : Phase → List Part → List ℕ → Option (Phase × List Part)
run f ps [] = Some (f, ps)
run f ps (b ∷ bs) = option_and_then (λ m. run m.phase (with_more ps m.part) bs) (step_of f b)

step_then : {R : Type 0} (o : Option Moved) (g : Moved → Option R) (h : R → Option R) (k : Moved → Option R) → ((m : Moved) → k m ≡ option_and_then h (g m)) → option_and_then k o ≡ option_and_then h (option_and_then g o)
step_then None g h k e = refl
step_then (Some m) g h k e = e m

pub run_append : (xs ys : List ℕ) (f : Phase) (ps : List Part) → run f ps (xs ++ ys) ≡ option_and_then (λ r. run r.0 r.1 ys) (run f ps xs)
run_append [] ys f ps = refl
run_append (b ∷ xs) ys f ps =
    step_then (step_of f b) (λ m. run m.phase (with_more ps m.part) xs) (λ r. run r.0 r.1 ys) (λ m. run m.phase (with_more ps m.part) (xs ++ ys)) (λ m. run_append xs ys m.phase (with_more ps m.part))

abbrev pub Goes : Phase → List Part → List ℕ → Phase → List Part → Type 0
Goes f ps xs g qs = run f ps xs ≡ Some (g, qs)

pub goes_then : (f : Phase) (ps : List Part) (xs : List ℕ) (g : Phase) (qs : List Part) (ys : List ℕ) (h : Phase) (rs : List Part) → Goes f ps xs g qs → Goes g qs ys h rs → Goes f ps (xs ++ ys) h rs
goes_then f ps xs g qs ys h rs d e = run_append xs ys f ps ∙ ap (option_and_then (λ (r : Phase × List Part). run r.0 r.1 ys)) d ∙ e

pub goes_step : (f : Phase) (ps : List Part) (b : ℕ) (m : Moved) (bs : List ℕ) (h : Phase) (rs : List Part) → step_of f b ≡ Some m → Goes m.phase (with_more ps m.part) bs h rs → Goes f ps (b ∷ bs) h rs
goes_step f ps b m bs h rs d e = ap (option_and_then (λ (n : Moved). run n.phase (with_more ps n.part) bs)) d ∙ e

-- ---- spaces outside the brackets

pub spaces_before : (xs : List ℕ) (ps : List Part) → AreSpaces xs → Goes Before ps xs Before ps
spaces_before [] ps h = refl
spaces_before (b ∷ bs) ps h = goes_step Before ps b (moved Before None) bs Before ps (rw h.0 refl) (spaces_before bs ps h.1)

pub spaces_closed : (xs : List ℕ) (ps : List Part) → AreSpaces xs → Goes Closed ps xs Closed ps
spaces_closed [] ps h = refl
spaces_closed (b ∷ bs) ps h = goes_step Closed ps b (moved Closed None) bs Closed ps (rw h.0 refl) (spaces_closed bs ps h.1)

-- ---- numbers

abbrev pub Counts : Number → List ℕ → Number → Type 0
Counts n [] m = n ≡ m
Counts n (b ∷ bs) m = (k : Number) × (number_step n b ≡ Some k) × Counts k bs m

counts_then : (xs ys : List ℕ) (n m k : Number) → Counts n xs m → Counts m ys k → Counts n (xs ++ ys) k
counts_then [] ys n m k d e = let P = λ (s : Number). Counts s ys k in subst P (sym d) e
counts_then (b ∷ xs) ys n m k d e = (d.0, d.1, counts_then xs ys d.0 m k d.2 e)

number_space : (n : Number) (b : ℕ) → b ≡ 32 → number_step n b ≡ Some (space_step n)
number_space n b e = rw e refl

number_digit : (n : Number) (b : ℕ) → 48 ≤ b → b ≤ 57 → number_step n b ≡ digit_step n (b - 48)
number_digit n b h k =
    let other : nat_eq b 32 ≡ false = grind (arith, nat_tests) in
    rw (other, le-leb 48 b h, le-leb b 57 k) refl

blank_spaces : (xs : List ℕ) → AreSpaces xs → Counts Blank xs Blank
blank_spaces [] h = refl
blank_spaces (b ∷ bs) h = (Blank, number_space Blank b h.0, blank_spaces bs h.1)

spaced_spaces : (n : ℕ) (xs : List ℕ) → AreSpaces xs → Counts (Spaced n) xs (Spaced n)
spaced_spaces n [] h = refl
spaced_spaces n (b ∷ bs) h = (Spaced n, number_space (Spaced n) b h.0, spaced_spaces n bs h.1)

after_digits : (c n : ℕ) (xs : List ℕ) → AreSpaces xs → (s : Number) × Counts (Digits c n) xs s × (number_of s ≡ Some n)
after_digits c n [] h = (Digits c n, refl, refl)
after_digits c n (b ∷ bs) h = (Spaced n, (Spaced n, number_space (Digits c n) b h.0, spaced_spaces n bs h.1), refl)

more_digits : (c n : ℕ) (xs : List ℕ) → AreDigits xs → c + length xs ≤ MAX_DIGITS → (d : ℕ) × Counts (Digits c n) xs (Digits d (spelled n xs))
more_digits c n [] h k = (c, refl)
more_digits c n (b ∷ bs) h k =
    let rest = more_digits (c + 1) (n * 10 + (b - 48)) bs h.2 (omega arith) in
    let few : nat_lt c MAX_DIGITS ≡ true = lt-ltb c MAX_DIGITS (omega arith) in
    let here : digit_step (Digits c n) (b - 48) ≡ Some (Digits (c + 1) (n * 10 + (b - 48))) = rw few refl in
    (rest.0, (Digits (c + 1) (n * 10 + (b - 48)), number_digit (Digits c n) b h.0 h.1 ∙ here, rest.1))

all_digits : (xs : List ℕ) → AreDigits xs → 1 ≤ length xs → length xs ≤ MAX_DIGITS → (d : ℕ) × Counts Blank xs (Digits d (spelled 0 xs))
all_digits [] h k l = absurd (omega arith)
all_digits (b ∷ bs) h k l =
    let rest = more_digits 1 (b - 48) bs h.2 (omega arith) in
    let same : b - 48 ≡ 0 * 10 + (b - 48) = omega arith in
    let P = λ (n : ℕ). Counts (Digits 1 (b - 48)) bs (Digits rest.0 (spelled n bs)) in
    (rest.0, (Digits 1 (b - 48), number_digit Blank b h.0 h.1, subst P same rest.1))

numeral_counts : (x : List ℕ) (n : ℕ) → IsNumeral x n → (s : Number) × Counts Blank x s × (number_of s ≡ Some n)
numeral_counts x n h =
    let mid = all_digits h.digits h.are_digits h.some_digit h.few_digits in
    let after = after_digits mid.0 (spelled 0 h.digits) h.back h.spaces_back in
    let whole = counts_then h.front (h.digits ++ h.back) Blank Blank after.0 (blank_spaces h.front h.spaces_front) (counts_then h.digits h.back Blank (Digits mid.0 (spelled 0 h.digits)) after.0 mid.1 after.1) in
    let P = λ (y : List ℕ). Counts Blank y after.0 in
    (after.0, subst P (sym h.text_is) whole, after.2 ∙ ap Some (sym h.number))

maybe_counts : (x : List ℕ) (o : Option ℕ) → IsMaybe x o → (s : Number) × Counts Blank x s × (number_of s ≡ o)
maybe_counts x None h = (Blank, blank_spaces x h, refl)
maybe_counts x (Some n) h = numeral_counts x n h

-- ---- a number in a part

both : (p q : Bool) (b : ℕ) → (p && q) ≡ true → (p ≡ true → 48 ≤ b) → (q ≡ true → b ≤ 57) → (48 ≤ b) × (b ≤ 57)
both true q b e h k = (h refl, k e)
both false q b e h k = absurd (false≢true e)

abbrev IsHole : (Number → Piece) → Type 0
IsHole f = (n : Number) (b : ℕ) (m : Number) → number_step n b ≡ Some m → step_of (Inside (f n)) b ≡ Some (moved (Inside (f m)) None)

pub digit_range : (b : ℕ) → is_digit b ≡ true → (48 ≤ b) × (b ≤ 57)
digit_range b e = both (nat_le 48 b) (nat_le b 57) b e (leb-true 48 b) (leb-true b 57)

number_byte : (n : Number) (b : ℕ) (m : Number) → number_step n b ≡ Some m → (nat_eq b 44 ≡ false) × (nat_eq b 93 ≡ false) × (nat_eq b 58 ≡ false)
number_byte n b m e =
    elim (chosen (nat_eq b 32) (Some (space_step n)) _ (Some m) e) [
      | inl h ↦ let t = h.0 in (grind (arith, nat_tests, t), grind (arith, nat_tests, t), grind (arith, nat_tests, t))
      | inr h ↦
          elim (chosen (is_digit b) (digit_step n (b - 48)) None (Some m) h.1) [
            | inl g ↦
                let t = digit_range b g.0 in
                (grind (arith, nat_tests, t.0), grind (arith, nat_tests, t.0, t.1), grind (arith, nat_tests, t.0, t.1))
            | inr g ↦ cc
          ]
    ]

hole_first : IsHole First
hole_first n b m e = let k = number_byte n b m e in rw (k.0, k.1, k.2, e) refl

hole_second : (start : Option ℕ) → IsHole (Second start)
hole_second start n b m e = let k = number_byte n b m e in rw (k.0, k.1, k.2, e) refl

hole_third : (start stop : Option ℕ) → IsHole (Third start stop)
hole_third start stop n b m e = let k = number_byte n b m e in rw (k.0, k.1, k.2, e) refl

hole_run : (f : Number → Piece) → IsHole f → (xs : List ℕ) (n m : Number) (ps : List Part) → Counts n xs m → Goes (Inside (f n)) ps xs (Inside (f m)) ps
hole_run f hole [] n m ps e = ap (λ (s : Number). Some (Inside (f s), ps)) e
hole_run f hole (b ∷ bs) n m ps e = goes_step (Inside (f n)) ps b (moved (Inside (f e.0)) None) bs (Inside (f m)) ps (hole n b e.0 e.1) (hole_run f hole bs e.0 m ps e.2)

-- ---- parts

abbrev start_of_part : Phase
start_of_part = Inside (First Blank)

part_run : (y : List ℕ) (p : Part) (ps : List Part) → IsPart y p → (s : Piece) × Goes start_of_part ps y (Inside s) ps × (part_of s ≡ Some p)
part_run y p ps (inl h) =
    let found = numeral_counts y h.n h.numeral in
    (First found.0, hole_run First hole_first y Blank found.0 ps found.1, rw found.2 (ap Some (sym h.part)))
part_run y p ps (inr (inl h)) =
    let one = maybe_counts h.first h.start h.starts in
    let two = maybe_counts h.second h.stop h.stops in
    let front = hole_run First hole_first h.first Blank one.0 ps one.1 in
    let back = hole_run (Second (number_of one.0)) (hole_second (number_of one.0)) h.second Blank two.0 ps two.1 in
    let colon = goes_step (Inside (First one.0)) ps 58 (moved (Inside (Second (number_of one.0) Blank)) None) h.second (Inside (Second (number_of one.0) two.0)) ps refl back in
    let whole = goes_then start_of_part ps h.first (Inside (First one.0)) ps (58 ∷ h.second) (Inside (Second (number_of one.0) two.0)) ps front colon in
    let P = λ (x : List ℕ). Goes start_of_part ps x (Inside (Second (number_of one.0) two.0)) ps in
    (Second (number_of one.0) two.0, subst P (sym h.text_is) whole, rw (one.2, two.2) (ap Some (sym h.part)))
part_run y p ps (inr (inr h)) =
    let one = maybe_counts h.first h.start h.starts in
    let two = maybe_counts h.second h.stop h.stops in
    let three = numeral_counts h.third h.step h.steps in
    let a = number_of one.0 in
    let b = number_of two.0 in
    let front = hole_run First hole_first h.first Blank one.0 ps one.1 in
    let mid = hole_run (Second a) (hole_second a) h.second Blank two.0 ps two.1 in
    let back = hole_run (Third a b) (hole_third a b) h.third Blank three.0 ps three.1 in
    let last = goes_step (Inside (Second a two.0)) ps 58 (moved (Inside (Third a b Blank)) None) h.third (Inside (Third a b three.0)) ps refl back in
    let later = goes_then (Inside (Second a Blank)) ps h.second (Inside (Second a two.0)) ps (58 ∷ h.third) (Inside (Third a b three.0)) ps mid last in
    let colon = goes_step (Inside (First one.0)) ps 58 (moved (Inside (Second a Blank)) None) (h.second ++ 58 ∷ h.third) (Inside (Third a b three.0)) ps refl later in
    let whole = goes_then start_of_part ps h.first (Inside (First one.0)) ps (58 ∷ (h.second ++ 58 ∷ h.third)) (Inside (Third a b three.0)) ps front colon in
    let P = λ (x : List ℕ). Goes start_of_part ps x (Inside (Third a b three.0)) ps in
    (Third a b three.0, subst P (sym h.text_is) whole, rw (one.2, two.2, three.2) (ap Some (sym h.part)))

comma_step : (s : Piece) (p : Part) → part_of s ≡ Some p → step_of (Inside s) 44 ≡ Some (moved start_of_part (Some p))
comma_step s p e = rw e refl

close_step : (s : Piece) (p : Part) → part_of s ≡ Some p → step_of (Inside s) 93 ≡ Some (moved Closed (Some p))
close_step s p e = rw e refl

parts_run : (texts : List (List ℕ)) (parts ps : List Part) → AllZip IsPart texts parts → Goes start_of_part ps (commas texts) start_of_part (ps ++ parts)
parts_run [] [] ps h = ap (λ (qs : List Part). Some (start_of_part, qs)) (sym (append-nil ps))
parts_run [] (p ∷ parts) ps h = absurd h
parts_run (y ∷ texts) [] ps h = absurd h
parts_run (y ∷ texts) (p ∷ parts) ps h =
    let part = part_run y p ps h.0 in
    let rest = parts_run texts parts (ps ++ p ∷ []) h.1 in
    let comma = goes_step (Inside part.0) ps 44 (moved start_of_part (Some p)) (commas texts) start_of_part ((ps ++ p ∷ []) ++ parts) (comma_step part.0 p part.2) rest in
    let whole = goes_then start_of_part ps y (Inside part.0) ps (44 ∷ commas texts) start_of_part ((ps ++ p ∷ []) ++ parts) part.1 comma in
    whole ∙ ap (λ (qs : List Part). Some (start_of_part, qs)) (append_assoc ps (p ∷ []) parts)

pub complete : (t : List ℕ) (qs : List Part) → IsSelection t qs → Goes Before [] t Closed qs
complete t qs h =
    let part = part_run h.last h.final h.earlier h.is_part in
    let close = goes_step (Inside part.0) h.earlier 93 (moved Closed (Some h.final)) h.back Closed (h.earlier ++ h.final ∷ []) (close_step part.0 h.final part.2) (spaces_closed h.back (h.earlier ++ h.final ∷ []) h.spaces_back) in
    let last = goes_then start_of_part h.earlier h.last (Inside part.0) h.earlier (93 ∷ h.back) Closed (h.earlier ++ h.final ∷ []) part.1 close in
    let inner = goes_then start_of_part [] (commas h.texts) start_of_part h.earlier (h.last ++ 93 ∷ h.back) Closed (h.earlier ++ h.final ∷ []) (parts_run h.texts h.earlier [] h.are_parts) last in
    let opened = goes_step Before [] 91 (moved start_of_part None) (commas h.texts ++ (h.last ++ 93 ∷ h.back)) Closed (h.earlier ++ h.final ∷ []) refl inner in
    let whole = goes_then Before [] h.front Before [] (91 ∷ (commas h.texts ++ (h.last ++ 93 ∷ h.back))) Closed (h.earlier ++ h.final ∷ []) (spaces_before h.front [] h.spaces_front) opened in
    let P = λ (x : List ℕ). Goes Before [] x Closed (h.earlier ++ h.final ∷ []) in
    subst P (sym h.text_is) whole ∙ ap (λ (rs : List Part). Some (Closed, rs)) (sym h.parts_are)
