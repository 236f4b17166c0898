-- What a journal's file stands for, divided at its end.
use Rattle.std.proofs.Common.{◌≡◌, ◌≢◌, ℕ, zero, suc, ◌+◌, ◌≤◌, ◌<◌, ◌^◌, List, [], ◌∷◌, ◌++◌, length, Option, Some, None, Result, Ok, Err, refl, sym, ◌∙◌, ap, subst, arith, append_assoc, length-append, inl, inr, eqb}
use Rattle.std.specs.Prelude.{option_and_then, ◌==◌, if◌then◌else◌}
use Rattle.std.proofs.lemmas.Bool.{cases_eq, cond-true, cond-false}
use Rattle.std.proofs.lemmas.Bool.Decides.{nat_tests}
use Rattle.std.proofs.lemmas.Option.{option_and_then_some}
use Rattle.std.specs.Int.{w64, from_be_bytes}
use Rattle.flush_journal.specs.Records.{Record, split_front, split_number_8, records_of, eight_bytes}
use Rattle.flush_journal.specs.Files.{Content, Framed, first_batch, grown, read_on}
use Rattle.flush_journal.specs.Frames.{framed}
use Rattle.flush_journal.proofs.RecordLemmas.{split-append, split_found, split_number_8-append}

-- the bytes that a number took, and that it is read from them whatever follows
pub record IsNumber (bytes : List ℕ) (n : ℕ × List ℕ) : Type 0 where
  pub front : List ℕ
  pub whole : bytes ≡ front ++ n.1
  pub size : length front ≡ 8
  pub on : (tail : List ℕ) → split_number_8 (front ++ tail) ≡ Some (n.0, tail)

pub split_number_8_found : (bytes : List ℕ) (n : ℕ × List ℕ) → split_number_8 bytes ≡ Some n → IsNumber bytes n
unfolding split_number_8
split_number_8_found bytes n e =
    option_and_then_some (λ (p : List ℕ × List ℕ). Some (from_be_bytes w64 p.0, p.1)) (split_front 8 bytes) n e
    (λ p pe fe.
    let found = split_found 8 bytes p pe in
    let value : from_be_bytes w64 p.0 ≡ n.0 = cc in
    let rest : p.1 ≡ n.1 = cc in
    record {
      front = p.0;
      whole = found.whole ∙ ap (λ (l : List ℕ). p.0 ++ l) rest;
      size = found.size;
      on = λ tail. ap (option_and_then (λ (p : List ℕ × List ℕ). Some (from_be_bytes w64 p.0, p.1))) (split-append 8 p.0 tail found.size) ∙ ap (λ (k : ℕ). Some (k, tail)) value;
    })

-- the bytes that a batch took, and that it is read from them whatever follows
pub record IsBatch (bytes : List ℕ) (b : Framed) : Type 0 where
  pub body : List ℕ
  pub whole : bytes ≡ body ++ b.rest
  pub size : length body ≡ 8 + b.size
  pub on : (tail : List ℕ) → first_batch (body ++ tail) ≡ Some (record b { rest = tail })

-- a batch after its length
unfoldable pub behind_number : ℕ × List ℕ → Option Framed
behind_number n = option_and_then (λ (p : List ℕ × List ℕ). option_and_then (λ (rs : List Record). Some (record { size = n.0; records = rs; rest = p.1 })) (records_of p.0)) (split_front n.0 n.1)

pub first_batch-is : (bytes : List ℕ) → first_batch bytes ≡ option_and_then behind_number (split_number_8 bytes)
unfolding first_batch behind_number
first_batch-is bytes = refl

pub behind_number-split : (n : ℕ) (p tail : List ℕ) (rs : List Record) → length p ≡ n → records_of p ≡ Some rs → behind_number (n, p ++ tail) ≡ Some (record { size = n; records = rs; rest = tail })
unfolding behind_number
behind_number-split n p tail rs size are =
    ap (option_and_then (λ (p : List ℕ × List ℕ). option_and_then (λ (rs : List Record). Some (record { size = n; records = rs; rest = p.1 })) (records_of p.0))) (split-append n p tail size)
    ∙ ap (option_and_then (λ (rs : List Record). Some (record { size = n; records = rs; rest = tail }))) are

pub first_batch_found : (bytes : List ℕ) (b : Framed) → first_batch bytes ≡ Some b → IsBatch bytes b
unfolding behind_number
first_batch_found bytes b e =
    option_and_then_some behind_number (split_number_8 bytes) b (sym (first_batch-is bytes) ∙ e)
    (λ n ne fe.
    let number = split_number_8_found bytes n ne in
    option_and_then_some (λ (p : List ℕ × List ℕ). option_and_then (λ (rs : List Record). Some (record { size = n.0; records = rs; rest = p.1 })) (records_of p.0)) (split_front n.0 n.1) b fe
    (λ p pe ge.
    let found = split_found n.0 n.1 p pe in
    option_and_then_some (λ (rs : List Record). Some (record { size = n.0; records = rs; rest = p.1 })) (records_of p.0) b ge
    (λ rs are he.
    let same : ◌≡◌ {A = Framed} (record { size = n.0; records = rs; rest = p.1 }) b = cc in
    subst (IsBatch bytes) same (record {
      body = number.front ++ p.0;
      whole = number.whole ∙ ap (λ (l : List ℕ). number.front ++ l) found.whole ∙ sym (append_assoc number.front p.0 p.1);
      size = length-append number.front p.0 ∙ omega (arith, number.size, found.size);
      on = λ tail.
          ap first_batch (append_assoc number.front p.0 tail) ∙ first_batch-is (number.front ++ (p.0 ++ tail))
          ∙ ap (option_and_then behind_number) (number.on (p.0 ++ tail))
          ∙ behind_number-split n.0 p.0 tail rs found.size are;
    }))))

-- a framed payload is read back
pub first_batch-framed : (p tail : List ℕ) (rs : List Record) → length p < 2 ^ 64 → records_of p ≡ Some rs
    → first_batch (framed p ++ tail) ≡ Some (record { size = length p; records = rs; rest = 0 ∷ tail })
unfolding framed
first_batch-framed p tail rs small are =
    ap first_batch (append_assoc (eight_bytes (length p) ++ p) (0 ∷ []) tail ∙ append_assoc (eight_bytes (length p)) p (0 ∷ tail))
    ∙ first_batch-is (eight_bytes (length p) ++ (p ++ 0 ∷ tail))
    ∙ ap (option_and_then behind_number) (split_number_8-append (length p) (p ++ 0 ∷ tail) small)
    ∙ behind_number-split (length p) p (0 ∷ tail) rs refl are

-- what is read behind an open marker
abbrev pub after_batch : ℕ → Content → Option Framed → Result Content ℕ
after_batch steps c o = elim o [ None ↦ Err (c.end + 1) | Some b ↦ read_on steps (grown c b.size b.records) b.rest ]

pub read_on_open : (steps : ℕ) (c : Content) (bytes : List ℕ) → read_on (suc steps) c (1 ∷ bytes) ≡ after_batch steps c (first_batch bytes)
unfolding read_on
read_on_open steps c bytes = refl

pub read_on_shut : (steps : ℕ) (c : Content) (marker : ℕ) (bytes : List ℕ) → marker ≢ 1 → read_on steps c (marker ∷ bytes) ≡ Ok c
unfolding read_on
read_on_shut zero c marker bytes shut = cond-false (eqb marker 1) (Err (c.end + 1)) (Ok c) (grind (arith, nat_tests))
read_on_shut (suc steps) c marker bytes shut = cond-false (eqb marker 1) (after_batch steps c (first_batch bytes)) (Ok c) (grind (arith, nat_tests))

pub batch_shorter : (bytes : List ℕ) (b : Framed) → first_batch bytes ≡ Some b → length b.rest + 8 ≤ length bytes
batch_shorter bytes b e = let is = first_batch_found bytes b e in omega (arith, is.size, ap length is.whole, length-append is.body b.rest)

-- enough steps read the same
pub read_on_steps : (f g : ℕ) (c : Content) (bytes : List ℕ) → length bytes ≤ f → length bytes ≤ g → read_on f c bytes ≡ read_on g c bytes
unfolding read_on
read_on_steps f g c [] hf hg = nothing f ∙ sym (nothing g)
  where
    nothing : (f : ℕ) → read_on f c [] ≡ Err c.end
    nothing f = refl
read_on_steps zero g c (marker ∷ bytes) hf hg = absurd (omega arith)
read_on_steps (suc f) zero c (marker ∷ bytes) hf hg = absurd (omega arith)
read_on_steps (suc f) (suc g) c (marker ∷ bytes) hf hg =
    ap (λ (r : Result Content ℕ). if marker == 1 then r else Ok c) (
    elim (first_batch bytes) as (λ o. first_batch bytes ≡ o → after_batch f c o ≡ after_batch g c o) [
      | None ↦ λ e. refl
      | Some b ↦ λ e.
          let short = batch_shorter bytes b e in
          read_on_steps f g (grown c b.size b.records) b.rest (omega (arith, short)) (omega (arith, short))
    ] refl)

-- what is read ends at a closed marker, and goes on from there with any other bytes
pub record IsRead (c : Content) (bytes : List ℕ) (e : Content) : Type 0 where
  pub front : List ℕ
  pub marker : ℕ
  pub back : List ℕ
  pub whole : bytes ≡ front ++ marker ∷ back
  pub shut : marker ≢ 1
  pub place : c.end + length front ≡ e.end
  pub on : (tail : List ℕ) (g : ℕ) → length (front ++ tail) ≤ g → read_on g c (front ++ tail) ≡ read_on (length tail) e tail

pub read_on_found : (f : ℕ) (c : Content) (bytes : List ℕ) (e : Content) → length bytes ≤ f → read_on f c bytes ≡ Ok e → IsRead c bytes e
unfolding read_on
read_on_found zero c [] e h is = absurd (cc)
read_on_found (suc f) c [] e h is = absurd (cc)
read_on_found zero c (marker ∷ bytes) e h is = absurd (omega arith)
read_on_found (suc f) c (marker ∷ bytes) e h is = elim (cases_eq marker 1) [
  | inr shut ↦
      let same : c ≡ e = (let ends : Ok c ≡ Ok e = sym (cond-false (eqb marker 1) (after_batch f c (first_batch bytes)) (Ok c) (grind (arith, nat_tests))) ∙ is in cc) in
      subst (IsRead c (marker ∷ bytes)) same (record {
        front = [];
        marker = marker;
        back = bytes;
        whole = refl;
        shut = shut;
        place = omega arith;
        on = λ tail g le. read_on_steps g (length tail) c tail le (omega arith);
      })
  | inl is_open ↦
      let went : after_batch f c (first_batch bytes) ≡ Ok e = sym (cond-true (eqb marker 1) (after_batch f c (first_batch bytes)) (Ok c) (grind (arith, nat_tests))) ∙ is in
      elim (first_batch bytes) as (λ o. first_batch bytes ≡ o → after_batch f c o ≡ Ok e → IsRead c (marker ∷ bytes) e) [
        | None ↦ λ no w. absurd (cc)
        | Some b ↦ λ be w.
            let batch = first_batch_found bytes b be in
            let short = batch_shorter bytes b be in
            let r = read_on_found f (grown c b.size b.records) b.rest e (omega (arith, short)) w in
            record {
              front = 1 ∷ (batch.body ++ r.front);
              marker = r.marker;
              back = r.back;
              whole = (λ i. is_open i ∷ batch.whole i) ∙ ap (λ (l : List ℕ). 1 ∷ (batch.body ++ l)) r.whole ∙ ap (λ (l : List ℕ). 1 ∷ l) (sym (append_assoc batch.body r.front (r.marker ∷ r.back)));
              shut = r.shut;
              place = omega (arith, length-append batch.body r.front, batch.size, r.place);
              on = λ tail g le. go_on batch r tail g le;
            }
      ] refl went
]
  where
    go_on : {b : Framed} (batch : IsBatch bytes b) (r : IsRead (grown c b.size b.records) b.rest e) (tail : List ℕ) (g : ℕ) → length ((1 ∷ (batch.body ++ r.front)) ++ tail) ≤ g → read_on g c ((1 ∷ (batch.body ++ r.front)) ++ tail) ≡ read_on (length tail) e tail
    go_on batch r tail zero le = absurd (omega arith)
    go_on {b = b} batch r tail (suc g) le =
        let long : length (r.front ++ tail) ≤ g = omega (arith, length-append (batch.body ++ r.front) tail, length-append batch.body r.front, length-append r.front tail) in
        ap (λ (l : List ℕ). after_batch g c (first_batch l)) (append_assoc batch.body r.front tail)
        ∙ ap (after_batch g c) (batch.on (r.front ++ tail)) ∙ r.on tail g long
