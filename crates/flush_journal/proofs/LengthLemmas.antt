-- The lengths that stand in a record, and the record that they give.
use Rattle.std.proofs.Common.{◌≡◌, ◌⊎◌, ⊎_elim, inl, inr, ℕ, zero, suc, ◌+◌, ◌-◌, ◌≤◌, ◌<◌, List, length, take, drop, Option, Some, None, refl, sym, ◌∙◌, ap, arith, length-drop}
use Rattle.std.specs.Prelude.{option_map, option_and_then, if◌then◌else◌}
use Rattle.std.specs.Int.{w32, from_be_bytes}
use Rattle.std.proofs.lemmas.List.{drop-drop, drop-take, take-take, length-take-le}
use Rattle.std.proofs.lemmas.Option.{none-some, same_Some}
use Rattle.flush_journal.specs.Records.{Record, Held, split_front, split_number_4, is_key_length, split_key, split_body, first_record, put_record}
use Rattle.flush_journal.specs.Reading.{RecordIs, window}
use Rattle.flush_journal.proofs.NumberLemmas.{split_number_4-short, split_number_4-is, split_key-refused, split_key-allowed, front_4}
use Rattle.flush_journal.proofs.RecordLemmas.{split_enough, split_short}

order : (k n : ℕ) → (k ≤ n) ⊎ (n < k)
order zero n = inl (omega arith)
order (suc k) zero = inr (omega arith)
order (suc k) (suc n) = ⊎_elim (λ (h : k ≤ n). inl (omega arith)) (λ (h : n < k). inr (omega arith)) (order k n)

-- ---- a number

abbrev pub number_of : List ℕ → Option ℕ
number_of bytes = option_map (λ (p : ℕ × List ℕ). p.0) (split_number_4 bytes)

pub number_short : (bytes : List ℕ) → length bytes < 4 → number_of bytes ≡ None
number_short bytes short = ap (option_map (λ (p : ℕ × List ℕ). p.0)) (split_number_4-short bytes short)

pub number_is : (bytes : List ℕ) → 4 ≤ length bytes → number_of bytes ≡ Some (from_be_bytes w32 bytes)
number_is bytes long = ap (option_map (λ (p : ℕ × List ℕ). p.0)) (split_number_4-is bytes long)

-- its four bytes are enough
pub number_front : (bytes : List ℕ) → 4 ≤ length bytes → number_of (take 4 bytes) ≡ number_of bytes
number_front bytes long =
    number_is (take 4 bytes) (omega (arith, length-take-le 4 bytes long)) ∙ ap (λ (n : ℕ). Some n) (front_4 bytes) ∙ sym (number_is bytes long)

number_long : (bytes : List ℕ) (n : ℕ) → Some n ≡ number_of bytes → 4 ≤ length bytes
number_long bytes n is = ⊎_elim
    (λ (long : 4 ≤ length bytes). long)
    (λ (short : length bytes < 4). absurd (none-some n (sym (is ∙ number_short bytes short))))
    (order 4 (length bytes))

number_there : (bytes : List ℕ) (n : ℕ) → Some n ≡ number_of bytes → split_number_4 bytes ≡ Some (n, drop 4 bytes)
number_there bytes n is =
    let long = number_long bytes n is in
    let same : n ≡ from_be_bytes w32 bytes = same_Some n (from_be_bytes w32 bytes) (is ∙ number_is bytes long) in
    split_number_4-is bytes long ∙ ap (λ (k : ℕ). Some (k, drop 4 bytes)) (sym same)

no_number : (o : Option (ℕ × List ℕ)) → None ≡ option_map (λ (p : ℕ × List ℕ). p.0) o → o ≡ None
no_number None e = refl
no_number (Some p) e = absurd (none-some p.0 e)

-- ---- the parts of a record

abbrev behind_key : List ℕ × List ℕ → Option (Record × List ℕ)
behind_key k = option_and_then (λ (b : List ℕ × List ℕ). Some ((k.0, b.0), b.1)) (split_body k.1)

no_key : (bytes : List ℕ) → None ≡ split_key bytes → first_record bytes ≡ None
unfolding first_record
no_key bytes none = ap (option_and_then behind_key) (sym none)

no_body : (bytes : List ℕ) (k : List ℕ × List ℕ) → split_key bytes ≡ Some k → split_body k.1 ≡ None → first_record bytes ≡ None
unfolding first_record
no_body bytes k key none =
    ap (option_and_then behind_key) key ∙ ap (option_and_then (λ (b : List ℕ × List ℕ). Some ((k.0, b.0), b.1))) none

both_parts : (bytes : List ℕ) (k b : List ℕ × List ℕ) → split_key bytes ≡ Some k → split_body k.1 ≡ Some b → first_record bytes ≡ Some ((k.0, b.0), b.1)
unfolding first_record
both_parts bytes k b key body =
    ap (option_and_then behind_key) key ∙ ap (option_and_then (λ (c : List ℕ × List ℕ). Some ((k.0, c.0), c.1))) body

body_none : (bytes : List ℕ) → None ≡ number_of bytes → split_body bytes ≡ None
unfolding split_body
body_none bytes none = ap (option_and_then (λ (n : ℕ × List ℕ). split_front n.0 n.1)) (no_number (split_number_4 bytes) none)

body_is : (bytes : List ℕ) (n : ℕ) → Some n ≡ number_of bytes → split_body bytes ≡ split_front n (drop 4 bytes)
unfolding split_body
body_is bytes n is = ap (option_and_then (λ (p : ℕ × List ℕ). split_front p.0 p.1)) (number_there bytes n is)

-- ---- the record at the front of some bytes, by its lengths

pub no_key_length : (bytes : List ℕ) → None ≡ number_of bytes → first_record bytes ≡ None
unfolding split_key
no_key_length bytes none =
    no_key bytes (sym (ap (option_and_then (λ (n : ℕ × List ℕ). if is_key_length n.0 then split_front n.0 n.1 else None)) (no_number (split_number_4 bytes) none)))

pub bad_key_length : (bytes : List ℕ) (k : ℕ) → Some k ≡ number_of bytes → (k < 1) ⊎ (65535 < k) → first_record bytes ≡ None
bad_key_length bytes k is wrong = no_key bytes (split_key-refused bytes (drop 4 bytes) k (sym (number_there bytes k is)) wrong)

module _ (bytes : List ℕ) (k : ℕ) (is : Some k ≡ number_of bytes) (some : 0 < k) (small : k < 65536) where
  key_is : split_front k (drop 4 bytes) ≡ split_key bytes
  key_is = split_key-allowed bytes (drop 4 bytes) k (sym (number_there bytes k is)) some small

  key_short : length (drop 4 bytes) < k → first_record bytes ≡ None
  key_short few = no_key bytes (sym (split_short k (drop 4 bytes) few) ∙ key_is)

  key_there : k ≤ length (drop 4 bytes) → split_key bytes ≡ Some (take k (drop 4 bytes), drop (4 + k) bytes)
  key_there long = sym key_is ∙ split_enough k (drop 4 bytes) long ∙ ap (λ (l : List ℕ). Some (take k (drop 4 bytes), l)) (drop-drop k 4 bytes)

  pub no_body_length : None ≡ number_of (drop (4 + k) bytes) → first_record bytes ≡ None
  no_body_length none = ⊎_elim
      (λ (long : k ≤ length (drop 4 bytes)). no_body bytes (take k (drop 4 bytes), drop (4 + k) bytes) (key_there long) (body_none (drop (4 + k) bytes) none))
      (λ (few : length (drop 4 bytes) < k). key_short few)
      (order k (length (drop 4 bytes)))

  module _ (b : ℕ) (body : Some b ≡ number_of (drop (4 + k) bytes)) where
    lengths : length (drop 4 (drop (4 + k) bytes)) + (8 + k) ≡ length bytes
    lengths = omega (arith, number_long (drop (4 + k) bytes) b body, length-drop 4 (drop (4 + k) bytes), length-drop (4 + k) bytes)

    key_fits : k ≤ length (drop 4 bytes)
    key_fits = omega (arith, lengths, length-drop 4 bytes)

    pub body_short : length bytes < 8 + k + b → first_record bytes ≡ None
    body_short few =
        no_body bytes (take k (drop 4 bytes), drop (4 + k) bytes) (key_there key_fits)
        (body_is (drop (4 + k) bytes) b body ∙ split_short b (drop 4 (drop (4 + k) bytes)) (omega (arith, lengths, few)))

    at_body : drop 4 (drop (4 + k) bytes) ≡ drop (8 + k) bytes
    at_body = drop-drop 4 (4 + k) bytes ∙ ap (λ (n : ℕ). drop n bytes) (let e : 4 + k + 4 ≡ 8 + k = omega arith in e)

    behind_body : drop b (drop 4 (drop (4 + k) bytes)) ≡ drop (8 + k + b) bytes
    behind_body = ap (drop b) at_body ∙ drop-drop b (8 + k) bytes

    pub whole_record : 8 + k + b ≤ length bytes → first_record bytes ≡ Some ((take k (drop 4 bytes), take b (drop (8 + k) bytes)), drop (8 + k + b) bytes)
    whole_record long =
        both_parts bytes (take k (drop 4 bytes), drop (4 + k) bytes) (take b (drop 4 (drop (4 + k) bytes)), drop b (drop 4 (drop (4 + k) bytes))) (key_there key_fits)
        (body_is (drop (4 + k) bytes) b body ∙ split_enough b (drop 4 (drop (4 + k) bytes)) (omega (arith, lengths, long)))
        ∙ (λ i. Some ((take k (drop 4 bytes), take b (at_body i)), behind_body i))

-- ---- some bytes of a file

pub window_long : (file : List ℕ) (at left : ℕ) → at + left ≤ length file → length (window file at left) ≡ left
window_long file at left inside = length-take-le left (drop at file) (omega (arith, inside, length-drop at file))

pub window_behind : (file : List ℕ) (at left j : ℕ) → j ≤ left → drop j (window file at left) ≡ window file (at + j) (left - j)
window_behind file at left j le =
    let split : left ≡ j + (left - j) = omega (arith, le) in
    ap (λ (n : ℕ). drop j (take n (drop at file))) split ∙ drop-take j (left - j) (drop at file) ∙ ap (take (left - j)) (drop-drop j at file)

pub window_inside : (file : List ℕ) (at left j n : ℕ) → j + n ≤ left → take n (drop j (window file at left)) ≡ window file (at + j) n
window_inside file at left j n le =
    ap (take n) (window_behind file at left j (omega (arith, le))) ∙ take-take n (left - j) (drop (at + j) file) (omega (arith, le))

-- a number of them is read where it stands
pub number_read : (file slice : List ℕ) (at left skip : ℕ) → at + left ≤ length file → skip + 4 ≤ left → slice ≡ window file (at + skip) 4
    → number_of slice ≡ number_of (drop skip (window file at left))
number_read file slice at left skip inside fits is =
    ap number_of (is ∙ sym (window_inside file at left skip 4 fits))
    ∙ number_front (drop skip (window file at left)) (omega (arith, fits, window_long file at left inside, length-drop skip (window file at left)))

pub number_ends : (file : List ℕ) (at left skip : ℕ) → at + left ≤ length file → left < skip + 4 → number_of (drop skip (window file at left)) ≡ None
number_ends file at left skip inside short =
    number_short (drop skip (window file at left)) (omega (arith, short, window_long file at left inside, length-drop skip (window file at left)))

-- a record of them is read by its parts
pub record_is : (file key body : List ℕ) (at left k b behind size : ℕ) (old new : Held) → behind ≡ 8 + k → size ≡ behind + b → size ≤ left
    → first_record (window file at left) ≡ Some ((take k (drop 4 (window file at left)), take b (drop (8 + k) (window file at left))), drop (8 + k + b) (window file at left))
    → key ≡ window file (at + 4) k → body ≡ window file (at + behind) b → new ≡ put_record (key, body) old → RecordIs file at left old new (Some size)
record_is file key body at left k b behind size old new is_behind is_size fits found key_is body_is put = (
  (key, body),
  found ∙ (λ i. Some ((here i, there i), rest i)),
  put,
) where
  here : take k (drop 4 (window file at left)) ≡ key
  here = window_inside file at left 4 k (omega (arith, is_behind, is_size, fits)) ∙ sym key_is

  there : take b (drop (8 + k) (window file at left)) ≡ body
  there =
      ap (λ (n : ℕ). take b (drop n (window file at left))) (sym is_behind)
      ∙ window_inside file at left behind b (omega (arith, is_size, fits)) ∙ sym body_is

  rest : drop (8 + k + b) (window file at left) ≡ window file (at + size) (left - size)
  rest =
      ap (λ (n : ℕ). drop n (window file at left)) (let e : 8 + k + b ≡ size = omega (arith, is_behind, is_size) in e)
      ∙ window_behind file at left size fits
