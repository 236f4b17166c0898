-- What is read behind a header is whole blocks, and then what reading stops at.
use Rattle.std.proofs.Common.{◌≡◌, ◌≢◌, ◌⊎◌, inl, inr, ℕ, zero, suc, ◌+◌, ◌≤◌, ◌^◌, List, [], ◌∷◌, ◌++◌, length, Option, Some, None, Result, Ok, Err, refl, sym, ◌∙◌, ap, subst, arith, append-nil, append_assoc, length-append}
use Rattle.std.specs.Prelude.{option_and_then, All}
use Rattle.std.specs.List.{AllByRecursion, sum_by, flat_map}
use Rattle.std.proofs.lemmas.Bool.{cases_eq}
use Rattle.std.proofs.lemmas.Option.{option_and_then_some}
use Rattle.std.proofs.lemmas.List.Sums.{sum_by-cons}
use Rattle.std.proofs.lemmas.List.Elements.{All-from_recursion, recursion_from_All}
use Rattle.flush_journal.specs.Records.{Record, Held, split_front, split_number_8, records_of, put_all, encoded_all, eight_bytes}
use Rattle.flush_journal.specs.Files.{Content, Framed, first_batch, grown, read_on}
use Rattle.flush_journal.specs.Blocks.{payload_bytes, blocks, IsBatch, HasNoPayload}
use Rattle.flush_journal.proofs.RecordLemmas.{split_found, split_number_8-append, length-eight_bytes}
use Rattle.flush_journal.proofs.FileLemmas.{behind_number, first_batch-is, behind_number-split, after_batch, read_on_open, read_on_shut, read_on_steps, batch_shorter}
use Rattle.flush_journal.proofs.EncodingLemmas.{Bytes, bytes_parts, IsSpelled, number_8_spelled, IsFramed, framed_by, payload_encoded, encoded_read, all_records, each_record}

-- a whole payload of records is a batch
pub batch_of_payload : (rs : List Record) (rest : List ℕ) → IsBatch rs → first_batch (payload_bytes rs ++ rest) ≡ Some (record { size = length (encoded_all rs); records = rs; rest = rest })
batch_of_payload rs rest is =
    let p = encoded_all rs in
    ap first_batch (append_assoc (eight_bytes (length p)) p rest)
    ∙ first_batch-is (eight_bytes (length p) ++ (p ++ rest))
    ∙ ap (option_and_then behind_number) (split_number_8-append (length p) (p ++ rest) is.size)
    ∙ behind_number-split (length p) p rest rs refl (encoded_read rs (each_record rs is.each))

-- what a batch was read from
pub record IsPayload (bytes : List ℕ) (b : Framed) : Type 0 where
  pub whole : bytes ≡ payload_bytes b.records ++ b.rest
  pub sound : IsBatch b.records
  pub size : b.size ≡ length (encoded_all b.records)
  pub rest : Bytes b.rest

pub payload_of_batch : (bytes : List ℕ) (b : Framed) → Bytes bytes → first_batch bytes ≡ Some b → IsPayload bytes b
unfolding behind_number
payload_of_batch bytes b h e =
    option_and_then_some behind_number (split_number_8 bytes) b (sym (first_batch-is bytes) ∙ e)
    (λ n ne fe.
    let number = number_8_spelled bytes n h ne in
    option_and_then_some (λ (p : List ℕ × List ℕ). option_and_then (λ (rs : List Record). Some (record { size = n.0; records = rs; rest = p.1 })) (records_of p.0)) (split_front n.0 n.1) b fe
    (λ p pe ge.
    let framed = framed_by eight_bytes (2 ^ 64) bytes n p number pe in
    option_and_then_some (λ (rs : List Record). Some (record { size = n.0; records = rs; rest = p.1 })) (records_of p.0) b ge
    (λ rs are he. found n p number framed pe rs are he)))
  where
    found : (n : ℕ × List ℕ) (p : List ℕ × List ℕ) → IsSpelled eight_bytes (2 ^ 64) bytes n → IsFramed eight_bytes (2 ^ 64) bytes p → split_front n.0 n.1 ≡ Some p
        → (rs : List Record) → records_of p.0 ≡ Some rs → ◌≡◌ {A = Option Framed} (Some (record { size = n.0; records = rs; rest = p.1 })) (Some b) → IsPayload bytes b
    found n p number framed pe rs are he =
        let front_is = split_found n.0 n.1 p pe in
        let is = payload_encoded p.0 rs (bytes_parts p.0 p.1 (subst Bytes front_is.whole number.rest)).0 are in
        let same : ◌≡◌ {A = Framed} (record { size = n.0; records = rs; rest = p.1 }) b = cc in
        subst (IsPayload bytes) same (record {
          whole = framed.whole ∙ (λ i. eight_bytes (length (is.0 i)) ++ (is.0 i ++ p.1)) ∙ sym (append_assoc (eight_bytes (length (encoded_all rs))) (encoded_all rs) p.1);
          sound = record { each = all_records rs is.1; size = omega (arith, framed.small, ap length is.0) };
          size = sym front_is.size ∙ ap length is.0;
          rest = framed.rest;
        })

-- no batch stands where no payload does
pub no_payload_of : (bytes : List ℕ) → first_batch bytes ≡ None → HasNoPayload bytes
no_payload_of bytes none = λ rs rest is whole. let some = batch_of_payload rs rest is in absurd (cc (none, whole, some))

pub no_batch_of : (bytes : List ℕ) → Bytes bytes → HasNoPayload bytes → first_batch bytes ≡ None
no_batch_of bytes h none = elim (first_batch bytes) as (λ o. first_batch bytes ≡ o → o ≡ None) [
  | None ↦ λ e. refl
  | Some b ↦ λ e. let is = payload_of_batch bytes b h e in absurd (none b.records b.rest is.sound is.whole)
] refl

-- what stands after blocks
unfoldable pub grown_all : Content → List (List Record) → Content
grown_all c [] = c
grown_all c (rs ∷ bs) = grown_all (grown c (length (encoded_all rs)) rs) bs

abbrev pub Batches : List (List Record) → Type 0
Batches bs = AllByRecursion IsBatch bs

-- blocks are read, and then what is left
pub blocks_read : (f : ℕ) (c : Content) (bs : List (List Record)) (left : List ℕ) → Batches bs → length (blocks bs ++ left) ≤ f → read_on f c (blocks bs ++ left) ≡ read_on (length left) (grown_all c bs) left
unfolding grown_all
blocks_read f c [] left h le = read_on_steps f (length left) c left le (omega arith)
blocks_read zero c (rs ∷ bs) left h le = absurd (omega arith)
blocks_read (suc f) c (rs ∷ bs) left h le =
    let p = payload_bytes rs in
    read_on_open f c ((p ++ blocks bs) ++ left)
    ∙ ap (λ (l : List ℕ). after_batch f c (first_batch l)) (append_assoc p (blocks bs) left)
    ∙ ap (after_batch f c) (batch_of_payload rs (blocks bs ++ left) h.0)
    ∙ blocks_read f (grown c (length (encoded_all rs)) rs) bs left h.1 (omega (arith, length-append (p ++ blocks bs) left, length-append p (blocks bs), length-append (blocks bs) left))

-- what reading gives at what is left
unfoldable pub Stops : Content → List ℕ → Result Content ℕ → Type 0
Stops c [] r = r ≡ Err c.end
Stops c (marker ∷ rest) r = ((marker ≢ 1) × (r ≡ Ok c)) ⊎ ((marker ≡ 1) × (first_batch rest ≡ None) × (r ≡ Err (c.end + 1)))

-- what reading went over
pub record IsReading (c : Content) (bytes : List ℕ) (r : Result Content ℕ) : Type 0 where
  pub batches : List (List Record)
  pub left : List ℕ
  pub whole : bytes ≡ blocks batches ++ left
  pub sound : Batches batches
  pub stops : Stops (grown_all c batches) left r

pub reading_of : (f : ℕ) (c : Content) (bytes : List ℕ) → length bytes ≤ f → Bytes bytes → IsReading c bytes (read_on f c bytes)
unfolding read_on grown_all Stops
reading_of f c [] le h = record { batches = []; left = []; whole = refl; sound = tt; stops = nothing f }
  where
    nothing : (f : ℕ) → read_on f c [] ≡ Err c.end
    nothing zero = refl
    nothing (suc f) = refl
reading_of zero c (marker ∷ bytes) le h = absurd (omega arith)
reading_of (suc f) c (marker ∷ bytes) le h = elim (cases_eq marker 1) [
  | inr shut ↦ record { batches = []; left = marker ∷ bytes; whole = refl; sound = tt; stops = inl (shut, read_on_shut (suc f) c marker bytes shut) }
  | inl is_open ↦
      let went : read_on (suc f) c (marker ∷ bytes) ≡ after_batch f c (first_batch bytes) = ap (λ (g : ℕ). read_on (suc f) c (g ∷ bytes)) is_open ∙ read_on_open f c bytes in
      subst (IsReading c (marker ∷ bytes)) (sym went) (
      elim (first_batch bytes) as (λ o. first_batch bytes ≡ o → IsReading c (marker ∷ bytes) (after_batch f c o)) [
        | None ↦ λ e. record { batches = []; left = marker ∷ bytes; whole = refl; sound = tt; stops = inr (is_open, e, refl) }
        | Some b ↦ λ e.
            let is = payload_of_batch bytes b h.1 e in
            let short = batch_shorter bytes b e in
            let more = reading_of f (grown c b.size b.records) b.rest (omega (arith, short)) is.rest in
            record {
              batches = b.records ∷ more.batches;
              left = more.left;
              whole =
                  (λ i. is_open i ∷ is.whole i) ∙ ap (λ (l : List ℕ). 1 ∷ (payload_bytes b.records ++ l)) more.whole
                  ∙ ap (λ (l : List ℕ). 1 ∷ l) (sym (append_assoc (payload_bytes b.records) (blocks more.batches) more.left));
              sound = (is.sound, more.sound);
              stops = subst (λ (n : ℕ). Stops (grown_all (grown c n b.records) more.batches) more.left (read_on f (grown c b.size b.records) b.rest)) is.size more.stops;
            }
      ] refl)
]

-- the numbers after blocks

pub grown_version : (c : Content) (bs : List (List Record)) → (grown_all c bs).version ≡ c.version
unfolding grown_all
grown_version c [] = refl
grown_version c (rs ∷ bs) = grown_version (grown c (length (encoded_all rs)) rs) bs

pub grown_lanes : (c : Content) (bs : List (List Record)) → (grown_all c bs).lanes ≡ c.lanes
unfolding grown_all
grown_lanes c [] = refl
grown_lanes c (rs ∷ bs) = grown_lanes (grown c (length (encoded_all rs)) rs) bs

pub grown_count : (c : Content) (bs : List (List Record)) → (grown_all c bs).batches ≡ c.batches + length bs
unfolding grown_all
grown_count c [] = omega arith
grown_count c (rs ∷ bs) = grown_count (grown c (length (encoded_all rs)) rs) bs ∙ omega arith

pub grown_end : (c : Content) (bs : List (List Record)) → (grown_all c bs).end ≡ c.end + sum_by (λ rs. 9 + length (encoded_all rs)) bs
unfolding grown_all
grown_end c [] = omega arith
grown_end c (rs ∷ bs) =
    grown_end (grown c (length (encoded_all rs)) rs) bs ∙ omega (arith, sum_by-cons (λ (rs : List Record). 9 + length (encoded_all rs)) rs bs)

pub grown_written : (c : Content) (bs : List (List Record)) → (grown_all c bs).written ≡ c.written ++ bs
unfolding grown_all
grown_written c [] = sym (append-nil c.written)
grown_written c (rs ∷ bs) = grown_written (grown c (length (encoded_all rs)) rs) bs ∙ append_assoc c.written (rs ∷ []) bs

pub put_both : (xs ys : List Record) (m : Held) → put_all (xs ++ ys) m ≡ put_all ys (put_all xs m)
put_both [] ys m = refl
put_both (x ∷ xs) ys m = put_both xs ys _

pub grown_held : (c : Content) (bs : List (List Record)) → (grown_all c bs).held ≡ put_all (flat_map (λ rs. rs) bs) c.held
unfolding grown_all
grown_held c [] = refl
grown_held c (rs ∷ bs) = grown_held (grown c (length (encoded_all rs)) rs) bs ∙ sym (put_both rs (flat_map (λ rs. rs) bs) c.held)

pub length-blocks : (bs : List (List Record)) → length (blocks bs) ≡ sum_by (λ rs. 9 + length (encoded_all rs)) bs
length-blocks [] = refl
length-blocks (rs ∷ bs) =
    omega (arith, length-append (payload_bytes rs) (blocks bs), length-append (eight_bytes (length (encoded_all rs))) (encoded_all rs), length-eight_bytes (length (encoded_all rs)), length-blocks bs, sum_by-cons (λ (rs : List Record). 9 + length (encoded_all rs)) rs bs)

pub all_batches : (bs : List (List Record)) → Batches bs → All IsBatch bs
all_batches bs h = All-from_recursion IsBatch bs h

pub each_batch : (bs : List (List Record)) → All IsBatch bs → Batches bs
each_batch bs h = recursion_from_All IsBatch bs h
