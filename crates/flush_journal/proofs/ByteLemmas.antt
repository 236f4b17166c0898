-- A journal's file begins with the magic, and holds lists of bytes where it is bytes.
use Rattle.std.proofs.Common.{◌≡◌, ℕ, ◌<◌, Bool, true, false, cond, List, [], ◌∷◌, ◌++◌, length, take, Some, None, Ok, is_eq, refl, sym, ◌∙◌, ap, subst, arith, length-append}
use Rattle.std.specs.Cmp.Lexicographic.{nat_list_cmp_total}
use Rattle.std.specs.FinMap as map
use Rattle.std.specs.List.{AllByRecursion, flat_map}
use Rattle.containers.specs.TextMaps.Keyed.{text_order}
use Rattle.flush_journal.specs.Records.{Record, Held, AreBytes, put_record, put_all, four_bytes, eight_bytes, encoded, encoded_all}
use Rattle.flush_journal.specs.Files.{Content, content, magic, header_ranges, first_outside}
use Rattle.flush_journal.specs.Blocks.{header_bytes, payload_bytes, blocks}
use Rattle.flush_journal.proofs.ContentLemmas.{content_found, content-outside}
use Rattle.flush_journal.proofs.EncodingLemmas.{Bytes, bytes_at, bytes_each, bytes_parts}
use Rattle.flush_journal.proofs.HeaderLemmas.{header_found}
use Rattle.flush_journal.proofs.LayoutLemmas.{journal_of}
use Rattle.flush_journal.proofs.PutLemmas.{tied}

pub begins_magic : (bytes : List ℕ) (c : Content) → content bytes ≡ Ok c → take 8 bytes ≡ magic
begins_magic bytes c is =
    elim (first_outside 0 header_ranges bytes) as (λ o. first_outside 0 header_ranges bytes ≡ o → take 8 bytes ≡ magic) [
      | None ↦ λ none. ap (take 8) (header_found bytes none).whole
      | Some at ↦ λ at_is. absurd (cc (is, content-outside bytes at at_is))
    ] refl

pub end_inside : (bytes : List ℕ) (c : Content) → content bytes ≡ Ok c → c.end < length bytes
end_inside bytes c is = let found = content_found bytes c is in omega (arith, found.place, ap length found.whole, length-append found.front (found.marker ∷ found.back))

-- ---- keys and bodies

abbrev pub HasBytes : Record → Type 0
HasBytes r = Bytes r.0 × Bytes r.1

record_bytes : (r : Record) → Bytes (encoded r) → HasBytes r
record_bytes r h =
    let last = bytes_parts (four_bytes (length r.0) ++ r.0 ++ four_bytes (length r.1)) r.1 h in
    let front = bytes_parts (four_bytes (length r.0) ++ r.0) (four_bytes (length r.1)) last.0 in
    ((bytes_parts (four_bytes (length r.0)) r.0 front.0).1, last.1)

records_bytes : (rs : List Record) → Bytes (encoded_all rs) → AllByRecursion HasBytes rs
records_bytes [] h = tt
records_bytes (r ∷ rs) h = let p = bytes_parts (encoded r) (encoded_all rs) h in (record_bytes r p.0, records_bytes rs p.1)

both : (xs ys : List Record) → AllByRecursion HasBytes xs → AllByRecursion HasBytes ys → AllByRecursion HasBytes (xs ++ ys)
both [] ys h g = g
both (x ∷ xs) ys h g = (h.0, both xs ys h.1 g)

blocks_bytes : (bs : List (List Record)) → Bytes (blocks bs) → AllByRecursion HasBytes (flat_map (λ rs. rs) bs)
blocks_bytes [] h = tt
blocks_bytes (rs ∷ bs) h =
    let p = bytes_parts (payload_bytes rs) (blocks bs) h.1 in
    both rs (flat_map (λ rs. rs) bs) (records_bytes rs (bytes_parts (eight_bytes (length (encoded_all rs))) (encoded_all rs) p.0).1) (blocks_bytes bs p.1)

-- a map of bytes
abbrev pub HoldsBytes : Held → Type 0
HoldsBytes m = (key body : List ℕ) → map.get m key ≡ Some body → Bytes key × Bytes body

put_bytes : (key body : List ℕ) (m : Held) → HasBytes (key, body) → HoldsBytes m → HoldsBytes (put_record (key, body) m)
put_bytes key [] m h held = λ q b e. here q b (is_eq (text_order q key)) (sym (map.get-remove nat_list_cmp_total m key q) ∙ e)
  where
    here : (q b : List ℕ) (t : Bool) → cond t None (map.get m q) ≡ Some b → Bytes q × Bytes b
    here q b true e = absurd (cc)
    here q b false e = held q b e
put_bytes key (first ∷ rest) m h held = λ q b e. here q b (is_eq (text_order q key)) refl (sym (map.get-insert nat_list_cmp_total m key (first ∷ rest) q) ∙ e)
  where
    here : (q b : List ℕ) (t : Bool) → is_eq (text_order q key) ≡ t → cond t (Some (first ∷ rest)) (map.get m q) ≡ Some b → Bytes q × Bytes b
    here q b true tie e =
        let same_key : key ≡ q = sym (tied q key tie) in
        let same_body : first ∷ rest ≡ b = cc in
        subst HasBytes (λ i. (same_key i, same_body i)) h
    here q b false tie e = held q b e

all_bytes : (rs : List Record) (m : Held) → AllByRecursion HasBytes rs → HoldsBytes m → HoldsBytes (put_all rs m)
all_bytes [] m h held = held
all_bytes (r ∷ rs) m h held = all_bytes rs (put_record r m) h.1 (put_bytes r.0 r.1 m h.0 held)

abbrev empty_map : Held
empty_map = map.empty

nothing_held : HoldsBytes empty_map
nothing_held = λ q b e. absurd (let none : map.get empty_map q ≡ None = map.get-empty text_order q in cc)

pub held_bytes : (bytes : List ℕ) (c : Content) → AreBytes bytes → content bytes ≡ Ok c → (key body : List ℕ) → map.get c.held key ≡ Some body → AreBytes key × AreBytes body
held_bytes bytes c h is key body there =
    let file = bytes_each bytes h in
    let j = journal_of bytes c file is in
    let before = (bytes_parts (header_bytes c.lanes ++ blocks j.batches) (j.marker ∷ j.rest) (subst Bytes j.whole file)).0 in
    let records = blocks_bytes j.batches (bytes_parts (header_bytes c.lanes) (blocks j.batches) before).1 in
    let found = all_bytes (flat_map (λ rs. rs) j.batches) map.empty records nothing_held key body (sym (ap (λ (m : Held). map.get m key) j.held) ∙ there) in
    (λ i. bytes_at key found.0 i, λ i. bytes_at body found.1 i)
