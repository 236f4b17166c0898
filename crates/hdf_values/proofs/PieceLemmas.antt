-- Elements one after another.
use Rattle.std.proofs.Common.{◌≡◌, ◌↔◌, ℕ, zero, suc, ◌+◌, ◌-◌, ◌*◌, ◌/◌, ◌%◌, ◌≤◌, ◌<◌, true, false, List, [], ◌∷◌, ◌++◌, length, take, drop, inl, inr, refl, sym, ap, subst, ◌∙◌, arith, mul_comm, eqb-true}
use Rattle.std.specs.List.{AllByRecursion, flat_map}
use Rattle.std.proofs.Math.Nat.{mul-div_cancel_left, mod-lt, div-add-mod'}
use Rattle.std.specs.Prelude.{◌==◌}
use Rattle.std.proofs.lemmas.Bool.{cases_lt, false≢true}
use Rattle.std.proofs.lemmas.Nat.{mul-le}
use Rattle.std.proofs.lemmas.List.{length-append, length-drop, length-take-le, take-append-le, drop-append-le, take-append-drop, take_all, drop-drop}
use Rattle.hdf_types.specs.declared.IntType.{IntType}
use Rattle.hdf_types.specs.Elems.{Elem, int}
use Rattle.hdf_types.specs.Reading.{int_size, size_of}
use Rattle.hdf_types.specs.Types.{IsSoundType, IsFormed, IsWidth}
pub use Rattle.hdf_types.proofs.SoundLemmas.{some_size}
use Rattle.hdf_values.specs.Elements.{Fits, bytes_of, normal, decoded, IsEncoded}
use Rattle.hdf_values.specs.Nested.{pieces, piece_at, pieces_at, with_pieces, AreEncoded, IsFirstUnencoded}
use Rattle.hdf_values.proofs.ElementLemmas.{decoded-bytes_of, normal_fits, bytes_of-normal}
use Rattle.hdf_values.proofs.EncodedLemmas.{length-encoded, int_encoded}
use Rattle.json_trees.proofs.ListLemmas.{all_append}

-- ---- what holds of all

pub all_parts : {A : Type 0} (F : A → Type 0) (xs ys : List A) → AllByRecursion F (xs ++ ys) → AllByRecursion F xs × AllByRecursion F ys
all_parts F [] ys h = (tt, h)
all_parts F (x ∷ xs) ys h =
    let parts = all_parts F xs ys h.1 in
    ((h.0, parts.0), parts.1)

-- ---- pieces

pub length-pieces : (n k : ℕ) (bs : List ℕ) → length (pieces n k bs) ≡ n
length-pieces zero k bs = refl
length-pieces (suc n) k bs = ap suc (length-pieces n k (drop k bs))

pub pieces-append : (a b n k : ℕ) (xs ys : List ℕ) → a + b ≡ n → length xs ≡ a * k → pieces n k (xs ++ ys) ≡ pieces a k xs ++ pieces b k ys
pieces-append zero b n k [] ys q e =
    let same : n ≡ b = omega arith in
    rw same
pieces-append zero b n k (x ∷ xs) ys q e = absurd (omega arith)
pieces-append (suc a) b zero k xs ys q e = absurd (omega arith)
pieces-append (suc a) b (suc n) k xs ys q e =
    let enough : k ≤ length xs = omega arith in
    let rest : length (drop k xs) ≡ a * k = omega (arith, length-drop k xs) in
    rw (take-append-le k xs ys enough, drop-append-le k xs ys enough, pieces-append a b n k (drop k xs) ys (omega arith) rest)

pub piece-first : (k : ℕ) (bs : List ℕ) → piece_at k 0 bs ≡ take k bs
piece-first k bs =
    let none : 0 * k ≡ 0 = omega arith in
    rw none

-- the piece behind, in what is behind the first
pub piece-later : (k i : ℕ) (bs : List ℕ) → piece_at k (suc i) bs ≡ piece_at k i (drop k bs)
piece-later k i bs =
    let more : suc i * k ≡ k + i * k = omega arith in
    rw (more, drop-drop (i * k) k bs)

each_piece : (F : List ℕ → Type 0) (n k : ℕ) (bs : List ℕ) → AllByRecursion F (pieces n k bs) → (i : ℕ) → i < n → F (piece_at k i bs)
each_piece F zero k bs h i q = absurd (omega arith)
each_piece F (suc n) k bs h zero q = subst F (sym (piece-first k bs)) h.0
each_piece F (suc n) k bs h (suc i) q = subst F (sym (piece-later k i bs)) (each_piece F n k (drop k bs) h.1 i (omega arith))

pub all_pieces : (F : List ℕ → Type 0) (n k : ℕ) (bs : List ℕ) → ((i : ℕ) → i < n → F (piece_at k i bs)) → AllByRecursion F (pieces n k bs)
all_pieces F zero k bs h = tt
all_pieces F (suc n) k bs h = (
  subst F (piece-first k bs) (h 0 (omega arith)),
  all_pieces F n k (drop k bs) (λ i q. subst F (piece-later k i bs) (h (suc i) (omega arith))),
)

-- ---- elements

pub encoded_each : (e : Elem) (n : ℕ) (bs : List ℕ) → AreEncoded e n bs ↔ ((length bs ≡ n * size_of e) × ((i : ℕ) → i < n → IsEncoded e (piece_at (size_of e) i bs)))
encoded_each e n bs = (
  λ h. (h.whole, each_piece (IsEncoded e) n (size_of e) bs h.each),
  λ h. record { whole = h.0; each = all_pieces (IsEncoded e) n (size_of e) bs h.1 },
)

first_encoded : (e : Elem) (a b n : ℕ) (xs ys : List ℕ) → a + b ≡ n → length xs ≡ a * size_of e → AreEncoded e n (xs ++ ys) → AreEncoded e a xs × AreEncoded e b ys
first_encoded e a b n xs ys q len h =
    let each = all_parts (IsEncoded e) (pieces a (size_of e) xs) (pieces b (size_of e) ys) (rw (pieces-append a b n (size_of e) xs ys q len) at h.each) in
    let total : (a + b) * size_of e ≡ n * size_of e = ap (λ m. m * size_of e) q in
    (record { whole = len; each = each.0 }, record { whole = omega (arith, total, length-append xs ys, h.whole); each = each.1 })

pub encoded_parts : (e : Elem) (a b n : ℕ) (bs : List ℕ) → a + b ≡ n → AreEncoded e n bs → AreEncoded e a (take (a * size_of e) bs) × AreEncoded e b (drop (a * size_of e) bs)
encoded_parts e a b n bs q h =
    let k = a * size_of e in
    let total : (a + b) * size_of e ≡ n * size_of e = ap (λ m. m * size_of e) q in
    let enough : a * size_of e ≤ length bs = omega (arith, total, h.whole) in
    first_encoded e a b n (take k bs) (drop k bs) q (length-take-le k bs enough) (rw (take-append-drop k bs) h)

pub each_encoded : (e : Elem) (c n : ℕ) (bs : List ℕ) → AreEncoded e (n * c) bs → AllByRecursion (AreEncoded e c) (pieces n (c * size_of e) bs)
each_encoded e c zero bs h = tt
each_encoded e c (suc n) bs h =
    let parts = encoded_parts e c (n * c) (suc n * c) bs (omega arith) h in
    (parts.0, each_encoded e c n (drop (c * size_of e) bs) parts.1)

pub one_encoded : (e : Elem) (bs : List ℕ) → AreEncoded e 1 bs → IsEncoded e bs
one_encoded e bs h =
    let whole : take (size_of e) bs ≡ bs = take_all (size_of e) bs (omega (arith, h.whole)) in
    rw whole at h.each.0

pub decoded_fits : (e : Elem) (bs : List ℕ) → IsSoundType e → IsEncoded e bs → Fits e (decoded e bs) × (bytes_of e (decoded e bs) ≡ bs)
decoded_fits e bs s h =
    let same : decoded e bs ≡ normal e h.0 = ap (decoded e) (sym h.2) ∙ decoded-bytes_of e h.0 s.formed h.1 in
    rw same (normal_fits e h.0 h.1, bytes_of-normal e h.0 h.1 ∙ h.2)

pub one_element : (e : Elem) (bs : List ℕ) → IsSoundType e → AreEncoded e 1 bs ↔ IsEncoded e bs
one_element e bs s = (
  one_encoded e bs,
  λ h.
      let size = length-encoded e bs s.formed h in
      let whole = take_all (size_of e) bs (omega (arith, size)) in
      record { whole = omega (arith, size); each = (subst (IsEncoded e) (sym whole) h, tt) },
)

pub no_element : (e : Elem) → AreEncoded e 0 []
no_element e = record { whole = omega arith; each = tt }

pub joined_encoded : (e : Elem) (m n : ℕ) (xs ys : List ℕ) → AreEncoded e m xs → AreEncoded e n ys → AreEncoded e (m + n) (xs ++ ys)
joined_encoded e m n xs ys h k = record {
  whole = omega (arith, length-append xs ys, h.whole, k.whole);
  each = rw (pieces-append m n (m + n) (size_of e) xs ys refl h.whole) (all_append (IsEncoded e) (pieces m (size_of e) xs) (pieces n (size_of e) ys) h.each k.each);
}

as_many : (e : Elem) (m n : ℕ) (bs : List ℕ) → m ≡ n → AreEncoded e m bs → AreEncoded e n bs
as_many e m n bs q h = subst (λ (k : ℕ). AreEncoded e k bs) q h

pub gathered_encoded : (e : Elem) (f : List ℕ → List ℕ) (ats : List (List ℕ)) → IsSoundType e → AllByRecursion (λ at. IsEncoded e (f at)) ats → AreEncoded e (length ats) (flat_map f ats)
gathered_encoded e f [] s h = no_element e
gathered_encoded e f (at ∷ ats) s h =
    let first = (one_element e (f at) s).1 h.0 in
    let all = joined_encoded e 1 (length ats) (f at) (flat_map f ats) first (gathered_encoded e f ats s h.1) in
    as_many e (1 + length ats) (suc (length ats)) (f at ++ flat_map f ats) (omega arith) all

pub sliced_encoded : (e : Elem) (n i m : ℕ) (bs : List ℕ) → AreEncoded e n bs → i + m ≤ n → AreEncoded e m (pieces_at (size_of e) i m bs)
sliced_encoded e n i m bs h q =
    let behind = (encoded_parts e i (n - i) n bs (omega arith) h).1 in
    (encoded_parts e m (n - i - m) (n - i) (drop (i * size_of e) bs) (omega arith) behind).0

pub replaced_encoded : (e : Elem) (n i m : ℕ) (xs bs : List ℕ) → AreEncoded e n bs → AreEncoded e m xs → i + m ≤ n → AreEncoded e n (with_pieces (size_of e) i xs bs)
replaced_encoded e n i m xs bs h k q =
    let front = (encoded_parts e i (n - i) n bs (omega arith) h).0 in
    let behind = (encoded_parts e (i + m) (n - i - m) n bs (omega arith) h).1 in
    let from : (i + m) * size_of e ≡ i * size_of e + length xs = omega (arith, k.whole) in
    let back = subst (λ (p : ℕ). AreEncoded e (n - i - m) (drop p bs)) from behind in
    let some = joined_encoded e i m (take (i * size_of e) bs) xs front k in
    let all = joined_encoded e (i + m) (n - i - m) (take (i * size_of e) bs ++ xs) (drop (i * size_of e + length xs) bs) some back in
    as_many e (i + m + (n - i - m)) n _ (omega arith) all

pub element_replaced : (e : Elem) (n i : ℕ) (x bs : List ℕ) → IsSoundType e → AreEncoded e n bs → IsEncoded e x → i < n → AreEncoded e n (with_pieces (size_of e) i x bs)
element_replaced e n i x bs s h k q = replaced_encoded e n i 1 x bs h ((one_element e x s).1 k) (omega arith)

-- ---- the first that is none

pub none_left : (bs : List ℕ) → true ≡ (length bs == 0) → length bs ≡ 0
none_left bs e = eqb-true (length bs) 0 (sym e)

pub some_left : (bs : List ℕ) → false ≡ (length bs == 0) → 1 ≤ length bs
some_left [] e = absurd (false≢true e)
some_left (b ∷ bs) e = omega arith

-- the first `i` pieces are elements, and these bytes are left
pub record IsPassed (e : Elem) (bs : List ℕ) (i : ℕ) (left : List ℕ) : Type 0 where
  pub rest : left ≡ drop (i * size_of e) bs
  pub room : i * size_of e + length left ≡ length bs
  pub before : (j : ℕ) → j < i → IsEncoded e (piece_at (size_of e) j bs)

pub none_passed : (e : Elem) (bs : List ℕ) → IsPassed e bs 0 bs
none_passed e bs =
    let none : 0 * size_of e ≡ 0 = omega arith in
    record { rest = sym (ap (λ k. drop k bs) none); room = omega arith; before = λ j h. absurd (omega arith) }

before_more : (F : ℕ → Type 0) (i : ℕ) → ((j : ℕ) → j < i → F j) → F i → (j : ℕ) → j < i + 1 → F j
before_more F i h here j q =
    elim (cases_lt j i) [
      | inl low ↦ h j low
      | inr high ↦
          let same : i ≡ j = omega (arith, high) in
          subst F same here
    ]

pub one_passed : (e : Elem) (bs : List ℕ) (i : ℕ) (left : List ℕ) → IsPassed e bs i left → size_of e ≤ length left → IsEncoded e (take (size_of e) left) → IsPassed e bs (i + 1) (drop (size_of e) left)
one_passed e bs i left h q here =
    let more : i * size_of e + size_of e ≡ (i + 1) * size_of e = omega arith in
    record {
      rest = ap (drop (size_of e)) h.rest ∙ drop-drop (size_of e) (i * size_of e) bs ∙ ap (λ k. drop k bs) more;
      room = omega (arith, length-drop (size_of e) left, h.room, more);
      before = before_more (λ j. IsEncoded e (piece_at (size_of e) j bs)) i h.before (subst (IsEncoded e) (ap (take (size_of e)) h.rest) here);
    }

pub passed_within : (e : Elem) (bs : List ℕ) (i : ℕ) (left : List ℕ) → IsFormed e → IsPassed e bs i left → i + length left ≤ length bs
passed_within e bs i left w h =
    let wide : i * 1 ≤ i * size_of e = mul-le i 1 i (size_of e) (omega arith) (some_size e w) in
    omega (arith, wide, h.room)

pub all_passed : (e : Elem) (bs : List ℕ) (i : ℕ) (left : List ℕ) → IsFormed e → IsPassed e bs i left → length left ≡ 0 → AreEncoded e (length bs / size_of e) bs
all_passed e bs i left w h q =
    let whole : length bs ≡ i * size_of e = omega (arith, h.room) in
    let many : length bs / size_of e ≡ i = ap (λ n. n / size_of e) (whole ∙ mul_comm i (size_of e)) ∙ mul-div_cancel_left i (some_size e w) in
    as_many e i (length bs / size_of e) bs (sym many) ((encoded_each e i bs).1 (whole, h.before))

pub first_wrong : (e : Elem) (bs : List ℕ) (i : ℕ) (left : List ℕ) → IsPassed e bs i left → 1 ≤ length left → (IsEncoded e (take (size_of e) left) → ⊥) → IsFirstUnencoded e bs i
first_wrong e bs i left h q wrong = record {
  there = omega (arith, h.room);
  wrong = λ k. wrong (subst (IsEncoded e) (sym (ap (take (size_of e)) h.rest)) k);
  before = h.before;
}

pub too_short : (e : Elem) (left : List ℕ) → IsFormed e → length left < size_of e → IsEncoded e (take (size_of e) left) → ⊥
too_short e left w q h =
    let whole = take_all (size_of e) left (omega arith) in
    absurd (omega (arith, length-encoded e left w (subst (IsEncoded e) whole h)))

pub not_all : (e : Elem) (bs : List ℕ) (i n : ℕ) → IsFirstUnencoded e bs i → AreEncoded e n bs → ⊥
not_all e bs i n h k =
    elim (cases_lt i n) [
      | inl low ↦ h.wrong (((encoded_each e n bs).0 k).1 i low)
      | inr high ↦
          let less : n * size_of e ≤ i * size_of e = mul-le n (size_of e) i (size_of e) high (omega arith) in
          absurd (omega (arith, less, h.there, k.whole))
    ]

-- ---- whole numbers: any bytes of their size are some number's

some_bytes : (F : ℕ → Type 0) (k n : ℕ) (bs : List ℕ) → AllByRecursion F bs → AllByRecursion F (take k (drop n bs))
some_bytes F k n bs h =
    let behind = (all_parts F (take n bs) (drop n bs) (subst (AllByRecursion F) (sym (take-append-drop n bs)) h)).1 in
    (all_parts F (take k (drop n bs)) (drop k (drop n bs)) (subst (AllByRecursion F) (sym (take-append-drop k (drop n bs))) behind)).0

int_piece : (t : IntType) (bs : List ℕ) (j : ℕ) → IsWidth t.bits → AllByRecursion (λ b. b < 256) bs → (j + 1) * int_size t.bits ≤ length bs → IsEncoded (int t) (piece_at (int_size t.bits) j bs)
int_piece t bs j w bytes room =
    let k = int_size t.bits in
    let long : int_size t.bits ≤ length (drop (j * int_size t.bits) bs) = omega (arith, length-drop (j * int_size t.bits) bs, room) in
    int_encoded t (piece_at k j bs) w (some_bytes (λ b. b < 256) k (j * k) bs bytes) (length-take-le k (drop (j * k) bs) long)

ints_passed : (t : IntType) (bs : List ℕ) (i : ℕ) → IsWidth t.bits → AllByRecursion (λ b. b < 256) bs → i * int_size t.bits ≤ length bs → IsPassed (int t) bs i (drop (i * int_size t.bits) bs)
ints_passed t bs i w bytes room = record {
  rest = refl;
  room = omega (arith, length-drop (i * int_size t.bits) bs, room);
  before = λ j q.
      let less : (j + 1) * int_size t.bits ≤ i * int_size t.bits = mul-le (j + 1) (int_size t.bits) i (int_size t.bits) (omega arith) (omega arith) in
      int_piece t bs j w bytes (omega (arith, less, room));
}

record IsCut (t : IntType) (bs : List ℕ) : Type 0 where
  passed : IsPassed (int t) bs (length bs / int_size t.bits) (drop (length bs / int_size t.bits * int_size t.bits) bs)
  left : length (drop (length bs / int_size t.bits * int_size t.bits) bs) ≡ length bs % int_size t.bits
  few : length bs % int_size t.bits < int_size t.bits

cut : (t : IntType) (bs : List ℕ) → IsWidth t.bits → AllByRecursion (λ b. b < 256) bs → IsCut t bs
cut t bs w bytes =
    let k = int_size t.bits in
    let n = length bs / int_size t.bits in
    let parts = div-add-mod' (length bs) (int_size t.bits) in
    let room : length bs / int_size t.bits * int_size t.bits ≤ length bs = omega (arith, parts) in
    record {
      passed = ints_passed t bs n w bytes room;
      left = omega (arith, parts, length-drop (length bs / int_size t.bits * int_size t.bits) bs);
      few = mod-lt (length bs) {m = int_size t.bits} (omega (arith, some_size (int t) w));
    }

pub whole_ints : (t : IntType) (bs : List ℕ) → IsWidth t.bits → AllByRecursion (λ b. b < 256) bs → length bs % int_size t.bits ≡ 0 → AreEncoded (int t) (length bs / int_size t.bits) bs
whole_ints t bs w bytes none =
    let h = cut t bs w bytes in
    all_passed (int t) bs (length bs / int_size t.bits) _ w h.passed (h.left ∙ none)

pub short_int : (t : IntType) (bs : List ℕ) → IsWidth t.bits → AllByRecursion (λ b. b < 256) bs → 1 ≤ length bs % int_size t.bits → IsFirstUnencoded (int t) bs (length bs / int_size t.bits)
short_int t bs w bytes some =
    let h = cut t bs w bytes in
    let left = drop (length bs / int_size t.bits * int_size t.bits) bs in
    first_wrong (int t) bs (length bs / int_size t.bits) left h.passed (omega (arith, h.left, some)) (too_short (int t) left w (omega (arith, h.left, h.few)))
