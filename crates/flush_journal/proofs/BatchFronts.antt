-- The frame of a batch whose last records are taken off.
use Rattle.std.proofs.Common.{◌≡◌, ℕ, ◌-◌, ◌<◌, ◌≤◌, List, [], ◌∷◌, ◌++◌, length, take, drop, refl, sym, ◌∙◌, ap, subst, arith, append_assoc, length-append, Option}
use Rattle.std.specs.Prelude.{unwrap_or, All}
use Rattle.std.proofs.lemmas.List.{take_at, drop_at}
use Rattle.flush_journal.specs.Records.{Record, IsRecord, eight_bytes, encoded, encoded_all}
use Rattle.flush_journal.specs.Frames.{framed, frame_of, frame_size, framed_records}
use Rattle.flush_journal.proofs.RecordLemmas.{length-eight_bytes}
use Rattle.flush_journal.proofs.BatchLemmas.{framed_records-framed, length-framed, no_records}
use Rattle.flush_journal.proofs.EncodingLemmas.{encoded_read, Records, all_records, each_record}

pub front_records : (front back : List Record) → Records (front ++ back) → Records front
front_records [] back h = tt
front_records (r ∷ front) back h = (h.0, front_records front back h.1)

encoded_both : (front back : List Record) → encoded_all (front ++ back) ≡ encoded_all front ++ encoded_all back
encoded_both [] back = refl
encoded_both (r ∷ front) back = ap (λ (l : List ℕ). encoded r ++ l) (encoded_both front back) ∙ sym (append_assoc (encoded r) (encoded_all front) (encoded_all back))

behind_length : (p : List ℕ) → drop 8 (framed p) ≡ p ++ 0 ∷ []
unfolding framed
behind_length p = ap (drop 8) (append_assoc (eight_bytes (length p)) p (0 ∷ [])) ∙ drop_at (eight_bytes (length p)) (p ++ 0 ∷ []) 8 (length-eight_bytes (length p))

-- what a frame whose payload keeps its front says of its records
pub record Keeps (new : List ℕ) (front : List Record) : Type 0 where
  pub records : framed_records new ≡ front
  pub whole : new ≡ frame_of (framed_records new)
  pub sound : All IsRecord (framed_records new)

pub cut_front : (frame new : List ℕ) (size : ℕ) (front back : List Record) → frame ≡ frame_of (framed_records frame) → All IsRecord (framed_records frame)
    → framed_records frame ≡ front ++ back → size ≡ frame_size front → 9 ≤ size → new ≡ framed (take (size - 9) (drop 8 frame)) → Keeps new front
cut_front frame new size [] back whole sound parts long some cut = absurd (omega (arith, long, some))
cut_front frame new size (r ∷ rs) back whole sound parts long some cut =
    let front : List Record = r ∷ rs in
    let p = encoded_all front in
    let h = front_records front back (each_record (front ++ back) (subst (All IsRecord) parts sound)) in
    let n : length p ≡ size - 9 = omega (arith, long, length-framed p) in
    let payload : drop 8 frame ≡ p ++ (encoded_all back ++ 0 ∷ []) =
    ap (drop 8) (whole ∙ ap frame_of parts) ∙ behind_length (encoded_all (front ++ back)) ∙ ap (λ (l : List ℕ). l ++ 0 ∷ []) (encoded_both front back) ∙ append_assoc p (encoded_all back) (0 ∷ []) in
    let kept : new ≡ framed p = cut ∙ ap framed (ap (take (size - 9)) payload ∙ take_at p (encoded_all back ++ 0 ∷ []) (size - 9) n) in
    let are : framed_records new ≡ front = ap framed_records kept ∙ framed_records-framed p ∙ ap (λ (o : Option (List Record)). unwrap_or o []) (encoded_read front h) in
    record { records = are; whole = kept ∙ ap frame_of (sym are); sound = subst (All IsRecord) (sym are) (all_records front h) }

pub nothing_kept : (new : List ℕ) → new ≡ [] → Keeps new []
nothing_kept new none = let are : framed_records new ≡ [] = ap framed_records none ∙ no_records in
    record { records = are; whole = none ∙ ap frame_of (sym are); sound = subst (All IsRecord) (sym are) (all_records [] tt) }

-- a frame with no record left
pub no_front : (front : List Record) → frame_size front < 9 → front ≡ []
no_front [] small = refl
no_front (r ∷ rs) small = absurd (omega (arith, small, length-framed (encoded_all (r ∷ rs))))

-- a front is no longer than the whole
pub front_inside : (front back : List Record) → frame_size front ≤ frame_size (front ++ back)
front_inside [] back = omega arith
front_inside (r ∷ rs) back =
    omega (arith, length-framed (encoded_all (r ∷ rs)), length-framed (encoded_all ((r ∷ rs) ++ back)), ap length (encoded_both (r ∷ rs) back), length-append (encoded_all (r ∷ rs)) (encoded_all back))

-- one record more
pub one_more : (rs : List Record) (r : Record) → All IsRecord rs → IsRecord r → All IsRecord (rs ++ r ∷ [])
one_more rs r h is = all_records (rs ++ r ∷ []) (joined rs (each_record rs h))
  where
    joined : (rs : List Record) → Records rs → Records (rs ++ r ∷ [])
    joined [] h = (is, tt)
    joined (q ∷ rs) h = (h.0, joined rs h.1)
