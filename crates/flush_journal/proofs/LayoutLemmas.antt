-- A file has a content, or a fault, exactly where it is laid out so.
use Rattle.std.proofs.Common.{◌≡◌, inl, inr, ℕ, ◌+◌, ◌≤◌, List, [], ◌∷◌, ◌++◌, length, drop, Some, None, Result, Ok, Err, refl, sym, ◌∙◌, ap, subst, arith, append_assoc, length-append}
use Rattle.std.specs.Prelude.{slice_index}
use Rattle.flush_journal.specs.Records.{Record}
use Rattle.flush_journal.specs.Files.{Content, header_ranges, first_outside, read_on, fresh, content}
use Rattle.flush_journal.specs.Blocks.{header_bytes, blocks, IsJournal, IsLeft, IsFault}
use Rattle.flush_journal.specs.Blocks.IsFault.{no_header, no_marker, no_payload}
use Rattle.flush_journal.proofs.FileLemmas.{after_batch, read_on_open, read_on_shut}
use Rattle.flush_journal.proofs.ContentLemmas.{content-header, content-outside}
use Rattle.flush_journal.proofs.EncodingLemmas.{Bytes, bytes_parts}
use Rattle.flush_journal.proofs.BlockLemmas.{grown_all, Batches, blocks_read, Stops, reading_of, grown_version, grown_lanes, grown_count, grown_end, grown_written, grown_held, length-blocks, all_batches, each_batch, no_payload_of, no_batch_of}
use Rattle.flush_journal.proofs.HeaderLemmas.{header_found, header_read, length-header, outside_begins, begins_outside}

-- the place behind a header and blocks
laid_length : (lanes : ℕ) (bs : List (List Record)) (left : List ℕ) → lanes ≤ 16 → length (header_bytes lanes ++ blocks bs ++ left) ≡ (grown_all (fresh lanes) bs).end + length left
laid_length lanes bs left few =
    omega (arith, length-append (header_bytes lanes ++ blocks bs) left, length-append (header_bytes lanes) (blocks bs), length-header lanes few, length-blocks bs, grown_end (fresh lanes) bs)

-- whole blocks behind a header are read
laid_read : (lanes : ℕ) (bs : List (List Record)) (left : List ℕ) → 1 ≤ lanes → lanes ≤ 16 → Batches bs
    → content (header_bytes lanes ++ blocks bs ++ left) ≡ read_on (length left) (grown_all (fresh lanes) bs) left
laid_read lanes bs left some few h =
    let all = header_bytes lanes ++ (blocks bs ++ left) in
    let header = header_read lanes (blocks bs ++ left) some few in
    ap content (append_assoc (header_bytes lanes) (blocks bs) left)
    ∙ content-header all header.0
    ∙ (λ i. read_on (length all) (fresh (header.1 i)) (header.2 i))
    ∙ blocks_read (length all) (fresh lanes) bs left h (omega (arith, length-append (header_bytes lanes) (blocks bs ++ left)))

-- a journal is read
pub journal_read : (bytes : List ℕ) (c : Content) → IsJournal bytes c → content bytes ≡ Ok c
journal_read bytes c is =
    let bs = is.batches in
    ap content is.whole ∙ laid_read c.lanes bs (is.marker ∷ is.rest) is.some_lane is.few_lanes (each_batch bs is.sound)
    ∙ read_on_shut (length (is.marker ∷ is.rest)) (grown_all (fresh c.lanes) bs) is.marker is.rest is.shut
    ∙ ap (λ (x : Content). Ok x) (same_content (grown_all (fresh c.lanes) bs) c
    (grown_version (fresh c.lanes) bs ∙ sym is.version) (grown_lanes (fresh c.lanes) bs) (omega (arith, grown_count (fresh c.lanes) bs, is.count))
    (grown_end (fresh c.lanes) bs ∙ sym is.end) (grown_written (fresh c.lanes) bs ∙ sym is.written) (grown_held (fresh c.lanes) bs ∙ sym is.held))
  where
    same_content : (x y : Content) → x.version ≡ y.version → x.lanes ≡ y.lanes → x.batches ≡ y.batches → x.end ≡ y.end → x.written ≡ y.written → x.held ≡ y.held → x ≡ y
    same_content x y v l b e w h = λ i. record { version = v i; lanes = l i; batches = b i; end = e i; written = w i; held = h i }

left_read : (bytes left : List ℕ) (is : IsLeft bytes left) → content bytes ≡ read_on (length left) (grown_all (fresh is.lanes) is.batches) left
left_read bytes left is = ap content is.whole ∙ laid_read is.lanes is.batches left is.some_lane is.few_lanes (each_batch is.batches is.sound)

-- a fault is found
pub fault_read : (bytes : List ℕ) (at : ℕ) → Bytes bytes → IsFault bytes at → content bytes ≡ Err at
unfolding read_on
fault_read bytes at h (no_header few before here) = content-outside bytes at (begins_outside bytes at few before here)
fault_read bytes at h (no_marker is place) =
    left_read bytes [] is ∙ ap (λ (n : ℕ). Err n) (omega (arith, place, ap length is.whole, laid_length is.lanes is.batches [] is.few_lanes))
fault_read bytes at h (no_payload rest is none place) =
    let c = grown_all (fresh is.lanes) is.batches in
    let behind = (bytes_parts (header_bytes is.lanes ++ blocks is.batches) (1 ∷ rest) (subst Bytes is.whole h)).1 in
    left_read bytes (1 ∷ rest) is ∙ read_on_open (length rest) c rest ∙ ap (after_batch (length rest) c) (no_batch_of rest behind.1 none)
    ∙ ap (λ (n : ℕ). Err n) (omega (arith, place, ap length is.whole, laid_length is.lanes is.batches (1 ∷ rest) is.few_lanes))

-- what a reading says of a file
pub Says : List ℕ → Result Content ℕ → Type 0
Says bytes (Ok c) = IsJournal bytes c
Says bytes (Err at) = IsFault bytes at

stopped : (bytes left : List ℕ) (lanes : ℕ) (bs : List (List Record)) (r : Result Content ℕ) → bytes ≡ header_bytes lanes ++ blocks bs ++ left → 1 ≤ lanes → lanes ≤ 16 → Batches bs
    → Stops (grown_all (fresh lanes) bs) left r → Says bytes r
unfolding Stops Says
stopped bytes [] lanes bs r whole some few h stops =
    subst (Says bytes) (sym stops)
    (no_marker (record { lanes = lanes; batches = bs; whole = whole; sound = all_batches bs h; some_lane = some; few_lanes = few }) (omega (arith, ap length whole, laid_length lanes bs [] few)))
stopped bytes (marker ∷ rest) lanes bs r whole some few h (inl shut) =
    let c = grown_all (fresh lanes) bs in
    let same : lanes ≡ c.lanes = sym (grown_lanes (fresh lanes) bs) in
    subst (Says bytes) (sym shut.1) (record {
      batches = bs;
      marker = marker;
      rest = rest;
      whole = whole ∙ ap (λ (n : ℕ). header_bytes n ++ blocks bs ++ marker ∷ rest) same;
      sound = all_batches bs h;
      shut = shut.0;
      version = grown_version (fresh lanes) bs;
      some_lane = omega (arith, same, some);
      few_lanes = omega (arith, same, few);
      count = omega (arith, grown_count (fresh lanes) bs);
      end = grown_end (fresh lanes) bs;
      written = grown_written (fresh lanes) bs;
      held = grown_held (fresh lanes) bs;
    })
stopped bytes (marker ∷ rest) lanes bs r whole some few h (inr bad) =
    let c = grown_all (fresh lanes) bs in
    let is : bytes ≡ header_bytes lanes ++ blocks bs ++ 1 ∷ rest = whole ∙ ap (λ (g : ℕ). header_bytes lanes ++ blocks bs ++ g ∷ rest) bad.0 in
    subst (Says bytes) (sym bad.2)
    (no_payload rest (record { lanes = lanes; batches = bs; whole = is; sound = all_batches bs h; some_lane = some; few_lanes = few }) (no_payload_of rest bad.1)
    (omega (arith, ap length is, laid_length lanes bs (1 ∷ rest) few)))

pub says : (bytes : List ℕ) → Bytes bytes → Says bytes (content bytes)
unfolding Says
says bytes h = elim (first_outside 0 header_ranges bytes) as (λ o. first_outside 0 header_ranges bytes ≡ o → Says bytes (content bytes)) [
  | Some at ↦ λ e. let o = outside_begins bytes at e in subst (Says bytes) (sym (content-outside bytes at e)) (no_header o.0 o.1 o.2)
  | None ↦ λ e.
      let header = header_found bytes e in
      let lanes = slice_index bytes 11 in
      let behind = (bytes_parts (header_bytes lanes) (drop 16 bytes) (subst Bytes header.whole h)).1 in
      let r = reading_of (length bytes) (fresh lanes) (drop 16 bytes) (omega (arith, ap length header.whole, length-append (header_bytes lanes) (drop 16 bytes))) behind in
      subst (Says bytes) (sym (content-header bytes e))
      (stopped bytes r.left lanes r.batches (read_on (length bytes) (fresh lanes) (drop 16 bytes))
      (header.whole ∙ ap (λ (l : List ℕ). header_bytes lanes ++ l) r.whole ∙ sym (append_assoc (header_bytes lanes) (blocks r.batches) r.left))
      header.some_lane header.few_lanes r.sound r.stops)
] refl

pub journal_of : (bytes : List ℕ) (c : Content) → Bytes bytes → content bytes ≡ Ok c → IsJournal bytes c
unfolding Says
journal_of bytes c h e = subst (Says bytes) e (says bytes h)

pub fault_of : (bytes : List ℕ) (at : ℕ) → Bytes bytes → content bytes ≡ Err at → IsFault bytes at
unfolding Says
fault_of bytes at h e = subst (Says bytes) e (says bytes h)
