-- A journal's file is a front and a closed marker, and what stands behind the front can be changed.
use Rattle.std.proofs.Common.{◌≡◌, ◌≢◌, ℕ, ◌+◌, ◌≤◌, ◌<◌, ◌^◌, Bool, true, false, List, [], ◌∷◌, ◌++◌, length, take, drop, Option, Some, None, Result, Ok, Err, refl, sym, ◌∙◌, ap, arith, append_assoc, length-append, take-append-drop}
use Rattle.std.specs.Prelude.{option_map, nat_le, ◌&&◌, slice_index, if◌then◌else◌}
use Rattle.std.specs.Result.{result_ok}
use Rattle.std.proofs.lemmas.List.{take_at, drop_at, length-take-le, get_or_append_left}
use Rattle.flush_journal.specs.Records.{Record, records_of}
use Rattle.flush_journal.specs.Files.{header_ranges, first_outside, Content, grown, read_on, fresh, content, held}
use Rattle.flush_journal.specs.Frames.{framed}
use Rattle.flush_journal.proofs.FileLemmas.{read_on_found, read_on_shut, read_on_open, after_batch, first_batch-framed}

-- the header, whatever follows
pub record IsHeader (at : ℕ) (ranges : List (ℕ × ℕ)) (bytes : List ℕ) : Type 0 where
  pub long : length ranges ≤ length bytes
  pub on : (tail : List ℕ) → first_outside at ranges (take (length ranges) bytes ++ tail) ≡ None

pub first_outside_found : (at : ℕ) (ranges : List (ℕ × ℕ)) (bytes : List ℕ) → first_outside at ranges bytes ≡ None → IsHeader at ranges bytes
unfolding first_outside
first_outside_found at [] bytes e = record { long = omega arith; on = λ tail. nothing tail }
  where
    nothing : (tail : List ℕ) → first_outside at [] tail ≡ None
    nothing tail = refl
first_outside_found at (r ∷ ranges) [] e = absurd (cc)
first_outside_found at (r ∷ ranges) (b ∷ bytes) e = by_test (nat_le r.0 b && nat_le b r.1) e
    (λ rest tests. let h = first_outside_found (at + 1) ranges bytes rest in record {
      long = omega (arith, h.long);
      on = λ tail. ap (λ (t : Bool). if t then first_outside (at + 1) ranges (take (length ranges) bytes ++ tail) else Some at) tests ∙ h.on tail;
    })
  where
    by_test : (t : Bool) → (if t then first_outside (at + 1) ranges bytes else Some at) ≡ None
        → (first_outside (at + 1) ranges bytes ≡ None → t ≡ true → IsHeader at (r ∷ ranges) (b ∷ bytes)) → IsHeader at (r ∷ ranges) (b ∷ bytes)
    by_test true e k = k e refl
    by_test false e k = absurd (cc)

-- a file is a front and a closed marker, and goes on from the front with any other bytes
pub record IsContent (bytes : List ℕ) (e : Content) : Type 0 where
  pub front : List ℕ
  pub marker : ℕ
  pub back : List ℕ
  pub whole : bytes ≡ front ++ marker ∷ back
  pub shut : marker ≢ 1
  pub place : length front ≡ e.end
  pub on : (tail : List ℕ) → content (front ++ tail) ≡ read_on (length tail) e tail

after_header : List ℕ → Option ℕ → Result Content ℕ
after_header bytes o = elim o [
  | None ↦ read_on (length bytes) (fresh (slice_index bytes 11)) (drop 16 bytes)
  | Some at ↦ Err at
]

content-is : (bytes : List ℕ) → content bytes ≡ after_header bytes (first_outside 0 header_ranges bytes)
unfolding content after_header
content-is bytes = refl

after_header-none : (bytes : List ℕ) → after_header bytes None ≡ read_on (length bytes) (fresh (slice_index bytes 11)) (drop 16 bytes)
unfolding after_header
after_header-none bytes = refl

after_header-some : (bytes : List ℕ) (at : ℕ) → after_header bytes (Some at) ≡ Err at
unfolding after_header
after_header-some bytes at = refl

-- the header names where it differs
pub content-outside : (bytes : List ℕ) (at : ℕ) → first_outside 0 header_ranges bytes ≡ Some at → content bytes ≡ Err at
content-outside bytes at e = content-is bytes ∙ ap (after_header bytes) e ∙ after_header-some bytes at

-- behind the header the batches are read
pub content-header : (bytes : List ℕ) → first_outside 0 header_ranges bytes ≡ None → content bytes ≡ read_on (length bytes) (fresh (slice_index bytes 11)) (drop 16 bytes)
content-header bytes e = content-is bytes ∙ ap (after_header bytes) e ∙ after_header-none bytes

content_header_found : (bytes : List ℕ) (e : Content) → first_outside 0 header_ranges bytes ≡ None → content bytes ≡ Ok e → IsContent bytes e
content_header_found bytes e none is =
    let header = first_outside_found 0 header_ranges bytes none in
    let size : length (take 16 bytes) ≡ 16 = length-take-le 16 bytes header.long in
    let long = length-append (take 16 bytes) (drop 16 bytes) in
    let whole = take-append-drop 16 bytes in
    let r = read_on_found (length bytes) (fresh (slice_index bytes 11)) (drop 16 bytes) e (omega (arith, long, ap length whole)) (sym (content-header bytes none) ∙ is) in
    record {
      front = take 16 bytes ++ r.front;
      marker = r.marker;
      back = r.back;
      whole = sym whole ∙ ap (λ (l : List ℕ). take 16 bytes ++ l) r.whole ∙ sym (append_assoc (take 16 bytes) r.front (r.marker ∷ r.back));
      shut = r.shut;
      place = length-append (take 16 bytes) r.front ∙ omega (arith, size, r.place);
      on = λ tail.
          let same_lanes : slice_index (take 16 bytes ++ (r.front ++ tail)) 11 ≡ slice_index bytes 11 =
          get_or_append_left (take 16 bytes) (r.front ++ tail) 0 11 (omega (arith, size))
          ∙ sym (get_or_append_left (take 16 bytes) (drop 16 bytes) 0 11 (omega (arith, size)))
          ∙ ap (λ (l : List ℕ). slice_index l 11) whole in
          ap content (append_assoc (take 16 bytes) r.front tail)
          ∙ content-header (take 16 bytes ++ (r.front ++ tail)) (header.on (r.front ++ tail))
          ∙ ap (λ (n : ℕ). read_on (length (take 16 bytes ++ (r.front ++ tail))) (fresh n) (drop 16 (take 16 bytes ++ (r.front ++ tail)))) same_lanes
          ∙ ap (λ (l : List ℕ). read_on (length (take 16 bytes ++ (r.front ++ tail))) (fresh (slice_index bytes 11)) l) (drop_at (take 16 bytes) (r.front ++ tail) 16 size)
          ∙ r.on tail (length (take 16 bytes ++ (r.front ++ tail))) (omega (arith, length-append (take 16 bytes) (r.front ++ tail)));
    }

pub content_found : (bytes : List ℕ) (e : Content) → content bytes ≡ Ok e → IsContent bytes e
content_found bytes e is =
    elim (first_outside 0 header_ranges bytes) as (λ o. first_outside 0 header_ranges bytes ≡ o → IsContent bytes e) [
      | None ↦ λ none. content_header_found bytes e none is
      | Some at ↦ λ at_is. absurd (cc (is, content-outside bytes at at_is))
    ] refl

-- a front: what stands before the end of a file with this content
pub record IsFront (front : List ℕ) (c : Content) : Type 0 where
  pub place : length front ≡ c.end
  pub on : (tail : List ℕ) → content (front ++ tail) ≡ read_on (length tail) c tail

pub front_of : (bytes : List ℕ) (c : Content) (is : IsContent bytes c) → IsFront is.front c
front_of bytes c is = record { place = is.place; on = is.on }

-- a front that a closed marker makes a file is such a front
pub front_closed : (front : List ℕ) (c : Content) → content (front ++ 0 ∷ []) ≡ Ok c → length front ≡ c.end → IsFront front c
front_closed front c is place =
    let found = content_found (front ++ 0 ∷ []) c is in
    let same : found.front ≡ front =
    sym (take_at found.front (found.marker ∷ found.back) c.end found.place) ∙ ap (take c.end) (sym found.whole) ∙ take_at front (0 ∷ []) c.end place in
    record { place = place; on = λ tail. ap (λ (l : List ℕ). content (l ++ tail)) (sym same) ∙ found.on tail }

-- a closed marker ends the file
pub content-shut : (front : List ℕ) (c : Content) → IsFront front c → (marker : ℕ) (tail : List ℕ) → marker ≢ 1 → content (front ++ marker ∷ tail) ≡ Ok c
content-shut front c is marker tail shut = is.on (marker ∷ tail) ∙ read_on_shut (length (marker ∷ tail)) c marker tail shut

-- an open marker and a whole frame are one batch more
pub content-opened : (front : List ℕ) (c : Content) → IsFront front c → (p : List ℕ) (rs : List Record) → length p < 2 ^ 64 → records_of p ≡ Some rs
    → (tail : List ℕ) → content (front ++ 1 ∷ (framed p ++ tail)) ≡ Ok (grown c (length p) rs)
content-opened front c is p rs small are tail =
    is.on (1 ∷ (framed p ++ tail))
    ∙ read_on_open (length (framed p ++ tail)) c (framed p ++ tail)
    ∙ ap (after_batch (length (framed p ++ tail)) c) (first_batch-framed p tail rs small are)
    ∙ read_on_shut (length (framed p ++ tail)) (grown c (length p) rs) 0 tail (omega arith)

-- what a file with a content holds
pub held-content : (bytes : List ℕ) (c : Content) → content bytes ≡ Ok c → held bytes ≡ Some c.held
held-content bytes c e = ap (λ (r : Result Content ℕ). option_map (λ (c : Content). c.held) (result_ok r)) e
