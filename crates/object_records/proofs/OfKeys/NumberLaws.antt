-- Numbers of four bytes each, and lists of bytes read as such.
use Rattle.std.proofs.Common.{◌≡◌, ◌≢◌, ℕ, zero, suc, ◌-◌, ◌<◌, ◌≤◌, ◌^◌, List, [], ◌∷◌, ◌++◌, All, length, take, drop, get_or, Option, Some, None, option_map, refl, sym, ap, subst, ◌∙◌, arith, append_assoc, append-nil, length-append, length-drop}
use Rattle.std.proofs.lemmas.List.{take_all}
use Rattle.std.specs.Int.{to_be_bytes, from_be_bytes, w32}
use Rattle.std.proofs.lemmas.List.Elements.{All-cons, All-nil}
use Rattle.std.proofs.lemmas.Nat.{be_bytes_4, from_be_bytes-to_be_bytes_4}
use Rattle.json_trees.proofs.TreeLemmas.{map_some}
use Rattle.shapes.specs.declared.TheConstants.{MAX_RANK}
use Rattle.object_records.specs.Keys.Numbers.{AreNumbers, number_bytes}

-- the number of four bytes
abbrev pub number : ℕ → ℕ → ℕ → ℕ → ℕ
number a b c d = from_be_bytes w32 (a ∷ b ∷ c ∷ d ∷ [])

-- the numbers of bytes, four each
abbrev pub numbers_of : List ℕ → Option (List ℕ)
numbers_of [] = Some []
numbers_of (a ∷ []) = None
numbers_of (a ∷ b ∷ []) = None
numbers_of (a ∷ b ∷ c ∷ []) = None
numbers_of (a ∷ b ∷ c ∷ d ∷ rest) = option_map (λ ns. number a b c d ∷ ns) (numbers_of rest)

abbrev pub AreBytes : List ℕ → Type 0
AreBytes bs = (i : ℕ) → get_or bs i 0 < 256

abbrev pub AreSmall : List ℕ → Type 0
AreSmall ns = All (λ n. n < 2 ^ 32) ns

pub numbers-bytes : (ns : List ℕ) → AreSmall ns → numbers_of (number_bytes ns) ≡ Some ns
unfolding number_bytes
numbers-bytes [] small = refl
numbers-bytes (n ∷ ns) small =
    let first : from_be_bytes w32 (to_be_bytes w32 n) ≡ n = from_be_bytes-to_be_bytes_4 n (small 0 0 (omega arith)) in
    let rest : AreSmall ns = λ k d h. small (suc k) d (omega arith) in
    ap (λ m. option_map (λ ns. m ∷ ns) (numbers_of (number_bytes ns))) first ∙ ap (option_map (λ ns. n ∷ ns)) (numbers-bytes ns rest)

small_number : (a b c d : ℕ) → a < 256 → b < 256 → c < 256 → d < 256 → number a b c d < 2 ^ 32
small_number a b c d ha hb hc hd = omega arith

same_four : (a b c d : ℕ) → a < 256 → b < 256 → c < 256 → d < 256 → to_be_bytes w32 (number a b c d) ≡ a ∷ b ∷ c ∷ d ∷ []
same_four a b c d ha hb hc hd = be_bytes_4 (a ∷ b ∷ c ∷ d ∷ []) (number a b c d) refl (λ i. each i) refl
  where
    each : (i : ℕ) → get_or (a ∷ b ∷ c ∷ d ∷ []) i 0 < 256
    each zero = ha
    each (suc zero) = hb
    each (suc (suc zero)) = hc
    each (suc (suc (suc zero))) = hd
    each (suc (suc (suc (suc i)))) = omega arith

-- what is read has these bytes
pub numbers_told : (bs ns : List ℕ) → AreBytes bs → numbers_of bs ≡ Some ns → AreSmall ns × (number_bytes ns ≡ bs)
unfolding number_bytes
numbers_told [] ns bytes e = let none : [] ≡ ns = cc in (subst AreSmall none (All-nil (λ n. n < 2 ^ 32)), ap number_bytes (sym none))
numbers_told (a ∷ []) ns bytes e = cc
numbers_told (a ∷ b ∷ []) ns bytes e = cc
numbers_told (a ∷ b ∷ c ∷ []) ns bytes e = cc
numbers_told (a ∷ b ∷ c ∷ d ∷ rest) ns bytes e =
    let more = map_some (λ ns. number a b c d ∷ ns) (numbers_of rest) ns e in
    let told = numbers_told rest more.0 (λ i. bytes (suc (suc (suc (suc i))))) more.1 in
    let small : AreSmall (number a b c d ∷ more.0) = All-cons (λ n. n < 2 ^ 32) (number a b c d) more.0 (small_number a b c d (bytes 0) (bytes 1) (bytes 2) (bytes 3)) told.0 in
    let same : number_bytes (number a b c d ∷ more.0) ≡ a ∷ b ∷ c ∷ d ∷ rest =
    ap (λ (xs : List ℕ). xs ++ number_bytes more.0) (same_four a b c d (bytes 0) (bytes 1) (bytes 2) (bytes 3)) ∙ ap (λ (xs : List ℕ). a ∷ b ∷ c ∷ d ∷ xs) told.1 in
    (subst AreSmall more.2 small, ap number_bytes (sym more.2) ∙ same)

-- two lists of numbers with the same bytes are the same
pub numbers_once : (ms ns : List ℕ) → AreSmall ms → AreSmall ns → number_bytes ms ≡ number_bytes ns → ms ≡ ns
numbers_once ms ns small_m small_n e =
    let same : Some ms ≡ Some ns = sym (numbers-bytes ms small_m) ∙ ap numbers_of e ∙ numbers-bytes ns small_n in
    cc

-- what a pattern leaves behind its first elements
pub rest_whole : (n : ℕ) (xs : List ℕ) → take (length xs - n) (drop n xs) ≡ drop n xs
rest_whole n xs = take_all (length xs - n) (drop n xs) (omega (arith, length-drop n xs))

-- ---- a walk over bytes that reads the numbers one by one

-- numbers that were read, in front of those of what is left
abbrev pub behind : List ℕ → List ℕ → Option (List ℕ)
behind done left = option_map (λ ns. done ++ ns) (numbers_of left)

pub record IsRead (bytes done left : List ℕ) : Type 0 where
  pub few : length done ≤ MAX_RANK
  pub so_far : behind done left ≡ numbers_of bytes

none_done : (o : Option (List ℕ)) → option_map (λ ns. [] ++ ns) o ≡ o
none_done None = refl
none_done (Some ns) = refl

pub read_begin : (bytes : List ℕ) → IsRead bytes [] bytes
read_begin bytes = record { few = omega arith; so_far = none_done (numbers_of bytes) }

four : (left : List ℕ) → 4 ≤ length left
    → numbers_of left ≡ option_map (λ ns. number (get_or left 0 0) (get_or left 1 0) (get_or left 2 0) (get_or left 3 0) ∷ ns) (numbers_of (drop 4 left))
four [] h = absurd (omega arith)
four (a ∷ []) h = absurd (omega arith)
four (a ∷ b ∷ []) h = absurd (omega arith)
four (a ∷ b ∷ c ∷ []) h = absurd (omega arith)
four (a ∷ b ∷ c ∷ d ∷ rest) h = refl

one_more : (done : List ℕ) (n : ℕ) (o : Option (List ℕ)) → option_map (λ ns. (done ++ n ∷ []) ++ ns) o ≡ option_map (λ ns. done ++ ns) (option_map (λ ns. n ∷ ns) o)
one_more done n None = refl
one_more done n (Some ns) = ap Some (append_assoc done (n ∷ []) ns)

pub read_more : (bytes done done' left : List ℕ) (n : ℕ) → IsRead bytes done left → 4 ≤ length left → length done < MAX_RANK
    → n ≡ number (get_or left 0 0) (get_or left 1 0) (get_or left 2 0) (get_or left 3 0) → done' ≡ done ++ n ∷ [] → IsRead bytes done' (take (length left - 4) (drop 4 left))
read_more bytes done done' left n r long room is pushed =
    let shown : option_map (λ ns. n ∷ ns) (numbers_of (drop 4 left)) ≡ numbers_of left =
    ap (λ m. option_map (λ ns. m ∷ ns) (numbers_of (drop 4 left))) is ∙ sym (four left long) in
    subst (IsRead bytes done') (sym (rest_whole 4 left)) (record {
      few = omega (arith, ap length pushed, length-append done (n ∷ []));
      so_far = ap (λ (xs : List ℕ). behind xs (drop 4 left)) pushed ∙ one_more done n (numbers_of (drop 4 left)) ∙ ap (option_map (λ ns. done ++ ns)) shown ∙ r.so_far;
    })

pub read_end : (bytes done left : List ℕ) → IsRead bytes done left → length left ≡ 0 → AreBytes bytes → AreNumbers done × (number_bytes done ≡ bytes)
read_end bytes done [] r none are =
    let found : numbers_of bytes ≡ Some done = sym r.so_far ∙ ap Some (append-nil done) in
    let told = numbers_told bytes done are found in
    (record { few = r.few; small = told.0 }, told.1)
read_end bytes done (a ∷ rest) r none are = absurd (omega arith)

-- where bytes are those of some numbers, these are read
found_in : (bytes ns : List ℕ) → AreNumbers ns → number_bytes ns ≡ bytes → numbers_of bytes ≡ Some ns
found_in bytes ns h e = ap numbers_of (sym e) ∙ numbers-bytes ns h.small

short : (left : List ℕ) → length left < 4 → length left ≢ 0 → numbers_of left ≡ None
short [] few some = absurd (some refl)
short (a ∷ []) few some = refl
short (a ∷ b ∷ []) few some = refl
short (a ∷ b ∷ c ∷ []) few some = refl
short (a ∷ b ∷ c ∷ d ∷ rest) few some = absurd (omega arith)

pub read_short : (bytes done left : List ℕ) → IsRead bytes done left → length left < 4 → length left ≢ 0 → (ns : List ℕ) → AreNumbers ns → number_bytes ns ≢ bytes
read_short bytes done left r few some ns h e =
    let none : None ≡ Some ns = sym (ap (option_map (λ ns. done ++ ns)) (short left few some)) ∙ r.so_far ∙ found_in bytes ns h e in
    cc

pub read_full : (bytes done left : List ℕ) → IsRead bytes done left → 4 ≤ length left → length done ≡ MAX_RANK → (ns : List ℕ) → AreNumbers ns → number_bytes ns ≢ bytes
read_full bytes done left r long full ns h e =
    let some = map_some (λ ns. done ++ ns) (numbers_of left) ns (r.so_far ∙ found_in bytes ns h e) in
    let more = map_some (λ ns. number (get_or left 0 0) (get_or left 1 0) (get_or left 2 0) (get_or left 3 0) ∷ ns) (numbers_of (drop 4 left)) some.0 (sym (four left long) ∙ some.1) in
    omega (arith, h.few, ap length some.2, length-append done some.0, ap length more.2)
