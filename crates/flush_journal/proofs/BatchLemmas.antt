-- The frame of a batch and its records.
use Rattle.std.proofs.Common.{◌≡◌, ℕ, ◌+◌, ◌-◌, ◌<◌, ◌^◌, true, List, [], ◌∷◌, ◌++◌, length, take, drop, Option, Some, None, refl, sym, ◌∙◌, ap, arith, append_assoc, length-append}
use Rattle.std.specs.Prelude.{option_map, option_and_then, unwrap_or, if◌then◌else◌}
use Rattle.std.proofs.lemmas.Bool.{cond-true}
use Rattle.std.proofs.lemmas.Bool.Decides.{nat_tests}
use Rattle.std.proofs.lemmas.List.{take_at, drop_at, append-nil}
use Rattle.flush_journal.specs.Records.{Record, split_front, is_key_length, split_key, split_body, first_record, records_of, four_bytes, eight_bytes, encoded, encoded_all}
use Rattle.flush_journal.specs.Frames.{record_size, framed, frame_of, framed_records, payload_of}
use Rattle.flush_journal.specs.Markers.{EndsInClosedMarker}
use Rattle.flush_journal.proofs.RecordLemmas.{split-append, split_number_4-append, length-four_bytes, length-eight_bytes, records_of_first, records_of_more, records_of_nothing}

split_key-append : (key rest : List ℕ) → 0 < length key → length key < 65536 → split_key (four_bytes (length key) ++ (key ++ rest)) ≡ Some (key, rest)
unfolding split_key
split_key-append key rest some short =
    ap (option_and_then (λ (n : ℕ × List ℕ). if is_key_length n.0 then split_front n.0 n.1 else None)) (split_number_4-append (length key) (key ++ rest) (omega (arith, short)))
    ∙ cond-true (is_key_length (length key)) (split_front (length key) (key ++ rest)) None (allowed (length key) some short)
    ∙ split-append (length key) key rest refl
  where
    allowed : (n : ℕ) → 0 < n → n < 65536 → is_key_length n ≡ true
    allowed n some short = grind (arith, nat_tests)

split_body-append : (body rest : List ℕ) → length body < 2 ^ 32 → split_body (four_bytes (length body) ++ (body ++ rest)) ≡ Some (body, rest)
unfolding split_body
split_body-append body rest short =
    ap (option_and_then (λ (n : ℕ × List ℕ). split_front n.0 n.1)) (split_number_4-append (length body) (body ++ rest) short) ∙ split-append (length body) body rest refl

-- an encoded record is read back
pub first_record-encoded : (r : Record) (rest : List ℕ) → 0 < length r.0 → length r.0 < 65536 → length r.1 < 2 ^ 32 → first_record (encoded r ++ rest) ≡ Some (r, rest)
unfolding first_record
first_record-encoded r rest some short small =
    ap first_record (append_assoc (four_bytes (length r.0) ++ r.0 ++ four_bytes (length r.1)) r.1 rest ∙ append_assoc (four_bytes (length r.0) ++ r.0) (four_bytes (length r.1)) (r.1 ++ rest) ∙ append_assoc (four_bytes (length r.0)) r.0 (four_bytes (length r.1) ++ (r.1 ++ rest)))
    ∙ ap (option_and_then (λ (k : List ℕ × List ℕ). option_and_then (λ (b : List ℕ × List ℕ). Some ((k.0, b.0), b.1)) (split_body k.1))) (split_key-append r.0 (four_bytes (length r.1) ++ (r.1 ++ rest)) some short)
    ∙ ap (option_and_then (λ (b : List ℕ × List ℕ). Some ((r.0, b.0), b.1))) (split_body-append r.1 rest small)

pub length-encoded : (r : Record) → length (encoded r) ≡ record_size r
length-encoded r =
    length-append (four_bytes (length r.0) ++ r.0 ++ four_bytes (length r.1)) r.1
    ∙ omega (arith, length-append (four_bytes (length r.0) ++ r.0) (four_bytes (length r.1)), length-append (four_bytes (length r.0)) r.0, length-four_bytes (length r.0), length-four_bytes (length r.1))

pub records_of-encoded : (r : Record) → 0 < length r.0 → length r.0 < 65536 → length r.1 < 2 ^ 32 → records_of (encoded r) ≡ Some (r ∷ [])
records_of-encoded r some short small =
    records_of_first (encoded r) r [] (ap first_record (sym (append-nil (encoded r))) ∙ first_record-encoded r [] some short small) ∙ ap (option_map (λ (rs : List Record). r ∷ rs)) records_of_nothing

pub encoded_all-push : (rs : List Record) (r : Record) → encoded_all (rs ++ r ∷ []) ≡ encoded_all rs ++ encoded r
encoded_all-push [] r = append-nil (encoded r)
encoded_all-push (q ∷ rs) r = ap (λ (l : List ℕ). encoded q ++ l) (encoded_all-push rs r) ∙ sym (append_assoc (encoded q) (encoded_all rs) (encoded r))

pub length-framed : (p : List ℕ) → length (framed p) ≡ length p + 9
unfolding framed
length-framed p = length-append (eight_bytes (length p) ++ p) (0 ∷ []) ∙ omega (arith, length-append (eight_bytes (length p)) p, length-eight_bytes (length p))

pub ends_shut : (p : List ℕ) → EndsInClosedMarker (framed p)
unfolding framed
ends_shut p = (eight_bytes (length p) ++ p, refl)

pub payload_of-framed : (p : List ℕ) → payload_of (framed p) ≡ p
unfolding framed
payload_of-framed p =
    ap (λ (l : List ℕ). take (length (framed p) - 9) l) (ap (drop 8) (append_assoc (eight_bytes (length p)) p (0 ∷ [])) ∙ drop_at (eight_bytes (length p)) (p ++ 0 ∷ []) 8 (length-eight_bytes (length p)))
    ∙ take_at p (0 ∷ []) (length (framed p) - 9) (omega (arith, length-framed p))

pub framed_records-framed : (p : List ℕ) → framed_records (framed p) ≡ unwrap_or (records_of p) []
unfolding framed_records
framed_records-framed p = ap (λ (l : List ℕ). unwrap_or (records_of l) []) (payload_of-framed p)

-- what a whole frame says of its records
pub record IsWhole (frame : List ℕ) (rs : List Record) : Type 0 where
  pub frame_is : frame ≡ frame_of rs
  pub payload : payload_of frame ≡ encoded_all rs
  pub read : records_of (encoded_all rs) ≡ Some rs

read_back : (p : List ℕ) (r : Record) (rs : List Record) → unwrap_or (records_of p) [] ≡ r ∷ rs → records_of p ≡ Some (r ∷ rs)
read_back p r rs e =
    elim (records_of p) as (λ o. unwrap_or o [] ≡ r ∷ rs → o ≡ Some (r ∷ rs)) [
      | None ↦ λ no. absurd (cc)
      | Some qs ↦ λ is. ap (λ (l : List Record). Some l) is
    ] e

pub whole_of : (frame : List ℕ) (rs : List Record) → frame ≡ frame_of rs → framed_records frame ≡ rs → IsWhole frame rs
whole_of frame [] is are = record { frame_is = is; payload = ap payload_of is; read = records_of_nothing }
whole_of frame (r ∷ rs) is are =
    let p = encoded_all (r ∷ rs) in
    record {
      frame_is = is;
      payload = ap payload_of is ∙ payload_of-framed p;
      read = read_back p r rs (sym (framed_records-framed p) ∙ ap framed_records (sym is) ∙ are);
    }

-- one record more
pub pushed : (frame new : List ℕ) (rs : List Record) (r : Record) → IsWhole frame rs → 0 < length r.0 → length r.0 < 65536 → length r.1 < 2 ^ 32
    → new ≡ framed (payload_of frame ++ encoded r) → (framed_records new ≡ rs ++ r ∷ []) × (new ≡ frame_of (rs ++ r ∷ []))
pushed frame new rs r whole some short small is =
    let p : payload_of frame ++ encoded r ≡ encoded_all (rs ++ r ∷ []) = ap (λ (l : List ℕ). l ++ encoded r) whole.payload ∙ sym (encoded_all-push rs r) in
    let read : records_of (encoded_all rs ++ encoded r) ≡ Some (rs ++ r ∷ []) =
    records_of_more (length (encoded_all rs)) (encoded_all rs) (encoded r) rs (r ∷ []) (omega arith) whole.read (records_of-encoded r some short small) in
    let read_all : records_of (encoded_all (rs ++ r ∷ [])) ≡ Some (rs ++ r ∷ []) = ap records_of (encoded_all-push rs r) ∙ read in (
      ap framed_records (is ∙ ap framed p) ∙ framed_records-framed (encoded_all (rs ++ r ∷ [])) ∙ ap (λ (o : Option (List Record)). unwrap_or o []) read_all,
      is ∙ ap framed p ∙ sym (frame_of-push rs r),
    )
  where
    frame_of-push : (rs : List Record) (r : Record) → frame_of (rs ++ r ∷ []) ≡ framed (encoded_all (rs ++ r ∷ []))
    frame_of-push [] r = refl
    frame_of-push (q ∷ rs) r = refl

-- no byte is no record
pub no_bytes : (frame : List ℕ) → frame ≡ frame_of (framed_records frame) → framed_records frame ≡ [] → frame ≡ []
no_bytes frame is none = is ∙ ap frame_of none

pub no_records : framed_records [] ≡ []
unfolding framed_records
no_records = ap (λ (o : Option (List Record)). unwrap_or o []) records_of_nothing
