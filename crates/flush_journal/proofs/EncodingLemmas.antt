-- A payload is some records exactly where it is their encoding.
use Rattle.std.proofs.Common.{◌≡◌, ℕ, zero, suc, ◌<◌, ◌^◌, Bool, true, false, List, [], ◌∷◌, ◌++◌, length, get_or, Some, None, refl, sym, ◌∙◌, ap, subst, arith, append_assoc}
use Rattle.std.specs.Prelude.{option_map, option_and_then, if◌then◌else◌, All}
use Rattle.std.specs.List.{AllByRecursion}
use Rattle.std.specs.Int.{w32, w64, from_be_bytes}
use Rattle.std.proofs.lemmas.Option.{option_and_then_some}
use Rattle.std.proofs.lemmas.Bool.Decides.{nat_tests}
use Rattle.std.proofs.lemmas.Nat.{be_bytes_4, be_bytes_8}
use Rattle.std.proofs.lemmas.List.Elements.{All-from_recursion, recursion_from_All}
use Rattle.flush_journal.specs.Records.{Record, AreBytes, IsRecord, split_front, split_number_4, split_number_8, is_key_length, split_key, split_body, first_record, records_in, records_of, four_bytes, eight_bytes, encoded, encoded_all}
use Rattle.flush_journal.proofs.RecordLemmas.{split_found, records_of_first, records_of_nothing}
use Rattle.flush_journal.proofs.BatchLemmas.{first_record-encoded}

-- bytes, one by one
abbrev pub Bytes : List ℕ → Type 0
Bytes bytes = AllByRecursion (λ b. b < 256) bytes

pub bytes_each : (bytes : List ℕ) → AreBytes bytes → Bytes bytes
bytes_each [] h = tt
bytes_each (b ∷ bytes) h = (h 0, bytes_each bytes (λ i. h (suc i)))

pub bytes_at : (bytes : List ℕ) → Bytes bytes → (i : ℕ) → get_or bytes i 0 < 256
bytes_at [] h i = omega arith
bytes_at (b ∷ bytes) h zero = h.0
bytes_at (b ∷ bytes) h (suc i) = bytes_at bytes h.1 i

pub bytes_parts : (xs ys : List ℕ) → Bytes (xs ++ ys) → Bytes xs × Bytes ys
bytes_parts [] ys h = (tt, h)
bytes_parts (x ∷ xs) ys h = let p = bytes_parts xs ys h.1 in ((h.0, p.0), p.1)

small_4 : (bs : List ℕ) → Bytes bs → from_be_bytes w32 bs < 2 ^ 32
small_4 bs h = omega (arith, bytes_at bs h 0, bytes_at bs h 1, bytes_at bs h 2, bytes_at bs h 3)

small_8 : (bs : List ℕ) → Bytes bs → from_be_bytes w64 bs < 2 ^ 64
small_8 bs h = omega (arith, bytes_at bs h 0, bytes_at bs h 1, bytes_at bs h 2, bytes_at bs h 3, bytes_at bs h 4, bytes_at bs h 5, bytes_at bs h 6, bytes_at bs h 7)

-- what a number was read from
pub record IsSpelled (spelled : ℕ → List ℕ) (least : ℕ) (bytes : List ℕ) (n : ℕ × List ℕ) : Type 0 where
  pub whole : bytes ≡ spelled n.0 ++ n.1
  pub small : n.0 < least
  pub rest : Bytes n.1

pub number_4_spelled : (bytes : List ℕ) (n : ℕ × List ℕ) → Bytes bytes → split_number_4 bytes ≡ Some n → IsSpelled four_bytes (2 ^ 32) bytes n
unfolding split_number_4 four_bytes
number_4_spelled bytes n h e =
    option_and_then_some (λ (p : List ℕ × List ℕ). Some (from_be_bytes w32 p.0, p.1)) (split_front 4 bytes) n e
    (λ p pe fe.
    let found = split_found 4 bytes p pe in
    let parts = bytes_parts p.0 p.1 (subst Bytes found.whole h) in
    let same : ◌≡◌ {A = ℕ × List ℕ} (from_be_bytes w32 p.0, p.1) n = cc in
    subst (IsSpelled four_bytes (2 ^ 32) bytes) same (record {
      whole = found.whole ∙ ap (λ (l : List ℕ). l ++ p.1) (sym (be_bytes_4 p.0 (from_be_bytes w32 p.0) found.size (bytes_at p.0 parts.0) refl));
      small = small_4 p.0 parts.0;
      rest = parts.1;
    }))

pub number_8_spelled : (bytes : List ℕ) (n : ℕ × List ℕ) → Bytes bytes → split_number_8 bytes ≡ Some n → IsSpelled eight_bytes (2 ^ 64) bytes n
unfolding split_number_8 eight_bytes
number_8_spelled bytes n h e =
    option_and_then_some (λ (p : List ℕ × List ℕ). Some (from_be_bytes w64 p.0, p.1)) (split_front 8 bytes) n e
    (λ p pe fe.
    let found = split_found 8 bytes p pe in
    let parts = bytes_parts p.0 p.1 (subst Bytes found.whole h) in
    let same : ◌≡◌ {A = ℕ × List ℕ} (from_be_bytes w64 p.0, p.1) n = cc in
    subst (IsSpelled eight_bytes (2 ^ 64) bytes) same (record {
      whole = found.whole ∙ ap (λ (l : List ℕ). l ++ p.1) (sym (be_bytes_8 p.0 (from_be_bytes w64 p.0) found.size (bytes_at p.0 parts.0) refl));
      small = small_8 p.0 parts.0;
      rest = parts.1;
    }))

-- bytes that were read behind their length
pub record IsFramed (spelled : ℕ → List ℕ) (least : ℕ) (bytes : List ℕ) (y : List ℕ × List ℕ) : Type 0 where
  pub whole : bytes ≡ spelled (length y.0) ++ (y.0 ++ y.1)
  pub small : length y.0 < least
  pub rest : Bytes y.1

pub framed_by : (spelled : ℕ → List ℕ) (least : ℕ) (bytes : List ℕ) (n : ℕ × List ℕ) (y : List ℕ × List ℕ) → IsSpelled spelled least bytes n → split_front n.0 n.1 ≡ Some y → IsFramed spelled least bytes y
framed_by spelled least bytes n y number e =
    let found = split_found n.0 n.1 y e in
    record {
      whole = number.whole ∙ (λ i. spelled (sym found.size i) ++ found.whole i);
      small = omega (arith, found.size, number.small);
      rest = (bytes_parts y.0 y.1 (subst Bytes found.whole number.rest)).1;
    }

body_framed : (bytes : List ℕ) (y : List ℕ × List ℕ) → Bytes bytes → split_body bytes ≡ Some y → IsFramed four_bytes (2 ^ 32) bytes y
unfolding split_body
body_framed bytes y h e =
    option_and_then_some (λ (n : ℕ × List ℕ). split_front n.0 n.1) (split_number_4 bytes) y e
    (λ n ne fe. framed_by four_bytes (2 ^ 32) bytes n y (number_4_spelled bytes n h ne) fe)

key_lengths : (n : ℕ) → is_key_length n ≡ true → (0 < n) × (n < 65536)
key_lengths n is = (grind (arith, nat_tests), grind (arith, nat_tests))

key_framed : (bytes : List ℕ) (y : List ℕ × List ℕ) → Bytes bytes → split_key bytes ≡ Some y → IsFramed four_bytes (2 ^ 32) bytes y × (0 < length y.0) × (length y.0 < 65536)
unfolding split_key
key_framed bytes y h e =
    option_and_then_some (λ (n : ℕ × List ℕ). if is_key_length n.0 then split_front n.0 n.1 else None) (split_number_4 bytes) y e
    (λ n ne fe. allowed n (number_4_spelled bytes n h ne) (is_key_length n.0) refl fe)
  where
    allowed : (n : ℕ × List ℕ) → IsSpelled four_bytes (2 ^ 32) bytes n → (b : Bool) → is_key_length n.0 ≡ b → (if b then split_front n.0 n.1 else None) ≡ Some y
        → IsFramed four_bytes (2 ^ 32) bytes y × (0 < length y.0) × (length y.0 < 65536)
    allowed n number true is fe =
        let found = split_found n.0 n.1 y fe in
        let sizes = key_lengths n.0 is in
        (framed_by four_bytes (2 ^ 32) bytes n y number fe, omega (arith, found.size, sizes.0), omega (arith, found.size, sizes.1))
    allowed n number false is fe = absurd (cc)

-- what a record was read from
record IsEncoded (bytes : List ℕ) (r : Record × List ℕ) : Type 0 where
  whole : bytes ≡ encoded r.0 ++ r.1
  sound : IsRecord r.0
  rest : Bytes r.1

joined : (bytes : List ℕ) (k b : List ℕ × List ℕ) → IsFramed four_bytes (2 ^ 32) bytes k → (0 < length k.0) × (length k.0 < 65536) → IsFramed four_bytes (2 ^ 32) k.1 b → IsEncoded bytes ((k.0, b.0), b.1)
joined bytes k b key sizes body = record {
  whole =
      key.whole ∙ ap (λ (l : List ℕ). four_bytes (length k.0) ++ (k.0 ++ l)) body.whole
      ∙ sym (append_assoc (four_bytes (length k.0) ++ k.0 ++ four_bytes (length b.0)) b.0 b.1 ∙ append_assoc (four_bytes (length k.0) ++ k.0) (four_bytes (length b.0)) (b.0 ++ b.1) ∙ append_assoc (four_bytes (length k.0)) k.0 (four_bytes (length b.0) ++ (b.0 ++ b.1)));
  sound = record { some = sizes.0; key = sizes.1; body = body.small };
  rest = body.rest;
}

record_encoded : (bytes : List ℕ) (r : Record × List ℕ) → Bytes bytes → first_record bytes ≡ Some r → IsEncoded bytes r
unfolding first_record
record_encoded bytes r h e =
    option_and_then_some (λ (k : List ℕ × List ℕ). option_and_then (λ (b : List ℕ × List ℕ). Some ((k.0, b.0), b.1)) (split_body k.1)) (split_key bytes) r e
    (λ k ke fe.
    let key = key_framed bytes k h ke in
    option_and_then_some (λ (b : List ℕ × List ℕ). Some ((k.0, b.0), b.1)) (split_body k.1) r fe
    (λ b be ge.
    let same : ◌≡◌ {A = Record × List ℕ} ((k.0, b.0), b.1) r = cc in
    subst (IsEncoded bytes) same (joined bytes k b key.0 (key.1, key.2) (body_framed k.1 b key.0.rest be))))

abbrev pub Records : List Record → Type 0
Records rs = AllByRecursion IsRecord rs

in_encoded : (f : ℕ) (bytes : List ℕ) (rs : List Record) → Bytes bytes → records_in f bytes ≡ Some rs → (bytes ≡ encoded_all rs) × Records rs
unfolding records_in
in_encoded f [] rs h e = let same : ◌≡◌ {A = List Record} [] rs = cc in subst (λ (l : List Record). ([] ≡ encoded_all l) × Records l) same (refl, tt)
in_encoded zero (b ∷ bytes) rs h e = absurd (cc)
in_encoded (suc f) (b ∷ bytes) rs h e =
    option_and_then_some (λ (r : Record × List ℕ). option_and_then (λ (rs : List Record). Some (r.0 ∷ rs)) (records_in f r.1)) (first_record (b ∷ bytes)) rs e
    (λ r re fe.
    let first = record_encoded (b ∷ bytes) r h re in
    option_and_then_some (λ (rs : List Record). Some (r.0 ∷ rs)) (records_in f r.1) rs fe
    (λ qs qe ge.
    let others = in_encoded f r.1 qs first.rest qe in
    let same : ◌≡◌ {A = List Record} (r.0 ∷ qs) rs = cc in
    subst (λ (l : List Record). ((b ∷ bytes) ≡ encoded_all l) × Records l) same (first.whole ∙ ap (λ (l : List ℕ). encoded r.0 ++ l) others.0, (first.sound, others.1))))

-- a payload that was read is its records' encoding
pub payload_encoded : (bytes : List ℕ) (rs : List Record) → Bytes bytes → records_of bytes ≡ Some rs → (bytes ≡ encoded_all rs) × Records rs
payload_encoded bytes rs h e = in_encoded (length bytes) bytes rs h e

-- an encoding is read back
pub encoded_read : (rs : List Record) → Records rs → records_of (encoded_all rs) ≡ Some rs
encoded_read [] h = records_of_nothing
encoded_read (r ∷ rs) h =
    records_of_first (encoded_all (r ∷ rs)) r (encoded_all rs) (first_record-encoded r (encoded_all rs) h.0.some h.0.key h.0.body)
    ∙ ap (option_map (λ (l : List Record). r ∷ l)) (encoded_read rs h.1)

pub all_records : (rs : List Record) → Records rs → All IsRecord rs
all_records rs h = All-from_recursion IsRecord rs h

pub each_record : (rs : List Record) → All IsRecord rs → Records rs
each_record rs h = recursion_from_All IsRecord rs h
