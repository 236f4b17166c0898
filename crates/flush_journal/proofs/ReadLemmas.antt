-- Reading a journal's file from the front.
use Rattle.std.proofs.Common.{◌≡◌, ◌≢◌, ◌⊎◌, ⊎_elim, inl, inr, ℕ, zero, suc, min, ◌+◌, ◌≤◌, ◌<◌, Bool, true, false, List, [], ◌∷◌, length, take, drop, get_or, Option, Some, None, Ok, Err, MatchOption, refl, sym, ◌∙◌, ap, subst, arith, length-drop}
use Rattle.std.specs.Prelude.{option_and_then, nat_le, ◌&&◌, if◌then◌else◌, slice_index}
use Rattle.std.specs.Int.{w64, from_be_bytes}
use Rattle.std.specs.Bool.{then_some}
use Rattle.std.proofs.lemmas.Bool.{cond-true, cond-false}
use Rattle.std.proofs.lemmas.Bool.Decides.{nat_tests}
use Rattle.std.proofs.lemmas.List.{drop_more, drop_all, drop-drop, take_all, length-take-le}
use Rattle.flush_journal.specs.Records.{Record, Held, split_number_8, records_of, put_all}
use Rattle.flush_journal.specs.Files.{first_outside, header_ranges, Content, Framed, first_batch, grown, read_on}
use Rattle.flush_journal.specs.Reading.{read_from, PayloadIs}
use Rattle.flush_journal.proofs.RecordLemmas.{split_enough, split_short}
use Rattle.flush_journal.proofs.NumberLemmas.{split_number_8-short, split_number_8-is, front_8}
use Rattle.flush_journal.proofs.FileLemmas.{behind_number, first_batch-is, after_batch, read_on_open, read_on_shut, read_on_steps, batch_shorter}

-- the header, byte after byte

pub outside_missing : (at i : ℕ) (ranges : List (ℕ × ℕ)) (bytes : List ℕ) → i < length ranges → length bytes ≤ i → first_outside at (drop i ranges) (drop i bytes) ≡ Some at
unfolding first_outside
outside_missing at i ranges bytes lt le =
    ap (λ (l : List ℕ). first_outside at (drop i ranges) l) (drop_all i bytes le)
    ∙ ap (λ (l : List (ℕ × ℕ)). first_outside at l []) (drop_more ranges i (0, 0) lt)

here : (at i : ℕ) (ranges : List (ℕ × ℕ)) (bytes : List ℕ) → i < length ranges → i < length bytes
    → first_outside at (drop i ranges) (drop i bytes)
    ≡ (if nat_le (get_or ranges i (0, 0)).0 (get_or bytes i 0) && nat_le (get_or bytes i 0) (get_or ranges i (0, 0)).1 then first_outside (at + 1) (drop (i + 1) ranges) (drop (i + 1) bytes) else Some at)
unfolding first_outside
here at i ranges bytes lt lt' = λ j. first_outside at (drop_more ranges i (0, 0) lt j) (drop_more bytes i 0 lt' j)

test_fails : (a b c : ℕ) → (b < a) ⊎ (c < b) → (nat_le a b && nat_le b c) ≡ false
test_fails a b c (inl low) = grind (arith, nat_tests)
test_fails a b c (inr high) = both (nat_le a b) (nat_le b c) (grind (arith, nat_tests))
  where
    both : (p q : Bool) → q ≡ false → (p && q) ≡ false
    both true q e = e
    both false q e = refl

tests_hold : (a b c : ℕ) → (nat_le a b && nat_le b c) ≡ true → (a ≤ b) × (b ≤ c)
tests_hold a b c e = (grind (arith, nat_tests, both (nat_le a b) (nat_le b c) e), grind (arith, nat_tests, both (nat_le a b) (nat_le b c) e))
  where
    both : (p q : Bool) → (p && q) ≡ true → (p ≡ true) × (q ≡ true)
    both true q e = (refl, e)
    both false q e = absurd (cc)

pub test_holds : (a b c : ℕ) → a ≤ b → b ≤ c → (nat_le a b && nat_le b c) ≡ true
test_holds a b c low high = grind (arith, nat_tests)

pub outside_wrong : (at i : ℕ) (ranges : List (ℕ × ℕ)) (bytes : List ℕ) → i < length ranges → i < length bytes
    → (get_or bytes i 0 < (get_or ranges i (0, 0)).0) ⊎ ((get_or ranges i (0, 0)).1 < get_or bytes i 0) → first_outside at (drop i ranges) (drop i bytes) ≡ Some at
outside_wrong at i ranges bytes lt lt' wrong =
    here at i ranges bytes lt lt'
    ∙ cond-false (nat_le (get_or ranges i (0, 0)).0 (get_or bytes i 0) && nat_le (get_or bytes i 0) (get_or ranges i (0, 0)).1) (first_outside (at + 1) (drop (i + 1) ranges) (drop (i + 1) bytes)) (Some at)
    (test_fails (get_or ranges i (0, 0)).0 (get_or bytes i 0) (get_or ranges i (0, 0)).1 wrong)

pub outside_right : (at i : ℕ) (ranges : List (ℕ × ℕ)) (bytes : List ℕ) → i < length ranges → i < length bytes
    → (get_or ranges i (0, 0)).0 ≤ get_or bytes i 0 → get_or bytes i 0 ≤ (get_or ranges i (0, 0)).1
    → first_outside at (drop i ranges) (drop i bytes) ≡ first_outside (at + 1) (drop (i + 1) ranges) (drop (i + 1) bytes)
outside_right at i ranges bytes lt lt' low high =
    here at i ranges bytes lt lt'
    ∙ cond-true (nat_le (get_or ranges i (0, 0)).0 (get_or bytes i 0) && nat_le (get_or bytes i 0) (get_or ranges i (0, 0)).1) (first_outside (at + 1) (drop (i + 1) ranges) (drop (i + 1) bytes)) (Some at)
    (test_holds (get_or ranges i (0, 0)).0 (get_or bytes i 0) (get_or ranges i (0, 0)).1 low high)

pub outside_done : (at i : ℕ) (ranges : List (ℕ × ℕ)) (bytes : List ℕ) → length ranges ≤ i → first_outside at (drop i ranges) bytes ≡ None
unfolding first_outside
outside_done at i ranges bytes le = ap (λ (l : List (ℕ × ℕ)). first_outside at l bytes) (drop_all i ranges le)

-- where no byte is outside, each is in its range
pub each_inside : (i at : ℕ) (ranges : List (ℕ × ℕ)) (bytes : List ℕ) → i < length ranges → first_outside at ranges bytes ≡ None
    → ((get_or ranges i (0, 0)).0 ≤ get_or bytes i 0) × (get_or bytes i 0 ≤ (get_or ranges i (0, 0)).1)
unfolding first_outside
each_inside i at [] bytes lt e = absurd (omega (arith, lt))
each_inside i at (r ∷ ranges) [] lt e = absurd (cc)
each_inside zero at (r ∷ ranges) (b ∷ bytes) lt e = tests_hold r.0 b r.1 (inside (nat_le r.0 b && nat_le b r.1) (first_outside (at + 1) ranges bytes) e).0
  where
    inside : (t : Bool) (o : Option ℕ) → (if t then o else Some at) ≡ None → (t ≡ true) × (o ≡ None)
    inside true o e = (refl, e)
    inside false o e = absurd (cc)
each_inside (suc i) at (r ∷ ranges) (b ∷ bytes) lt e = each_inside i (at + 1) ranges bytes (omega (arith, lt)) (inside (nat_le r.0 b && nat_le b r.1) (first_outside (at + 1) ranges bytes) e)
  where
    inside : (t : Bool) (o : Option ℕ) → (if t then o else Some at) ≡ None → o ≡ None
    inside true o e = e
    inside false o e = absurd (cc)

-- a header is the first bytes of a file
pub outside_front : (at : ℕ) (ranges : List (ℕ × ℕ)) (bytes : List ℕ) → first_outside at ranges (take (length ranges) bytes) ≡ first_outside at ranges bytes
unfolding first_outside
outside_front at [] bytes = nothing (take 0 bytes) ∙ sym (nothing bytes)
  where
    nothing : (l : List ℕ) → first_outside at [] l ≡ None
    nothing l = refl
outside_front at (r ∷ ranges) [] = refl
outside_front at (r ∷ ranges) (b ∷ bytes) = ap (λ (o : Option ℕ). if nat_le r.0 b && nat_le b r.1 then o else Some at) (outside_front (at + 1) ranges bytes)

-- a batch behind an open marker

pub no_length_field : (bytes : List ℕ) → length bytes < 8 → first_batch bytes ≡ None
unfolding behind_number
no_length_field bytes short = first_batch-is bytes ∙ ap (option_and_then behind_number) (split_number_8-short bytes short)

-- the number in the first eight bytes is the payload's length
pub length_field : (bytes rest : List ℕ) (n : ℕ) → 8 ≤ length bytes → Some (n, rest) ≡ split_number_8 (take 8 bytes) → split_number_8 bytes ≡ Some (n, drop 8 bytes)
length_field bytes rest n long is =
    let front : 8 ≤ length (take 8 bytes) = omega (arith, length-take-le 8 bytes long) in
    let both : ◌≡◌ {A = Option (ℕ × List ℕ)} (Some (n, rest)) (Some (from_be_bytes w64 (take 8 bytes), drop 8 (take 8 bytes))) = is ∙ split_number_8-is (take 8 bytes) front in
    let pair : ◌≡◌ {A = ℕ × List ℕ} (n, rest) (from_be_bytes w64 (take 8 bytes), drop 8 (take 8 bytes)) = cc in
    let same : n ≡ from_be_bytes w64 (take 8 bytes) = ap (λ (p : ℕ × List ℕ). p.0) pair in
    split_number_8-is bytes long ∙ ap (λ (k : ℕ). Some (k, drop 8 bytes)) (sym (same ∙ front_8 bytes))

-- eight bytes are a number
pub some_number : (bytes : List ℕ) → 8 ≤ length bytes → None ≡ split_number_8 (take 8 bytes) → ⊥
some_number bytes long none = let is = split_number_8-is (take 8 bytes) (omega (arith, length-take-le 8 bytes long)) in cc

payload_of_batch : (bytes : List ℕ) (n : ℕ) → split_number_8 bytes ≡ Some (n, drop 8 bytes) → first_batch bytes ≡ behind_number (n, drop 8 bytes)
payload_of_batch bytes n is = first_batch-is bytes ∙ ap (option_and_then behind_number) is

pub payload_short : (bytes : List ℕ) (n : ℕ) → split_number_8 bytes ≡ Some (n, drop 8 bytes) → length (drop 8 bytes) < n → first_batch bytes ≡ None
unfolding behind_number
payload_short bytes n is short =
    payload_of_batch bytes n is
    ∙ ap (option_and_then (λ (p : List ℕ × List ℕ). option_and_then (λ (rs : List Record). Some (record { size = n; records = rs; rest = p.1 })) (records_of p.0))) (split_short n (drop 8 bytes) short)

payload_split : (bytes : List ℕ) (n : ℕ) → split_number_8 bytes ≡ Some (n, drop 8 bytes) → n ≤ length (drop 8 bytes)
    → first_batch bytes ≡ option_and_then (λ (rs : List Record). Some (record { size = n; records = rs; rest = drop n (drop 8 bytes) })) (records_of (take n (drop 8 bytes)))
unfolding behind_number
payload_split bytes n is long =
    payload_of_batch bytes n is
    ∙ ap (option_and_then (λ (p : List ℕ × List ℕ). option_and_then (λ (rs : List Record). Some (record { size = n; records = rs; rest = p.1 })) (records_of p.0))) (split_enough n (drop 8 bytes) long)

behind_marker : (file : List ℕ) (at : ℕ) → at + 1 + 8 ≤ length file → 8 ≤ length (drop (at + 1) file)
behind_marker file at long = omega (arith, length-drop (at + 1) file)

pub number_found : (file slice rest : List ℕ) (at n : ℕ) → slice ≡ take 8 (drop (at + 1) file) → at + 1 + 8 ≤ length file → Some (n, rest) ≡ split_number_8 slice
    → split_number_8 (drop (at + 1) file) ≡ Some (n, drop 8 (drop (at + 1) file))
number_found file slice rest at n is long read = length_field (drop (at + 1) file) rest n (behind_marker file at long) (read ∙ ap split_number_8 is)

pub number_missing : (file slice : List ℕ) (at : ℕ) → slice ≡ take 8 (drop (at + 1) file) → at + 1 + 8 ≤ length file → None ≡ split_number_8 slice → ⊥
number_missing file slice at is long none = some_number (drop (at + 1) file) (behind_marker file at long) (none ∙ ap split_number_8 is)

-- what the payload's records say, where it is whole
pub payload_is : (file : List ℕ) (at n : ℕ) (old new : Held) (whole : Bool) → split_number_8 (drop (at + 1) file) ≡ Some (n, drop 8 (drop (at + 1) file)) → at + 9 + n ≤ length file
    → MatchOption (records_of (take n (drop (at + 9) file))) (whole ≡ false) (λ rs. (whole ≡ true) × (new ≡ put_all rs old))
    → PayloadIs file at old new (if whole then Some n else None)
payload_is file at n old new whole is long read =
    let behind : drop 8 (drop (at + 1) file) ≡ drop (at + 9) file = drop-drop 8 (at + 1) file ∙ ap (λ (k : ℕ). drop k file) (let e : at + 1 + 8 ≡ at + 9 = omega arith in e) in
    let rest : drop n (drop 8 (drop (at + 1) file)) ≡ drop (at + 9 + n) file = ap (drop n) behind ∙ drop-drop n (at + 9) file in
    let front_is = payload_split (drop (at + 1) file) n is (omega (arith, ap length behind, length-drop (at + 9) file)) in
    elim (records_of (take n (drop (at + 9) file))) as (λ o. records_of (take n (drop (at + 9) file)) ≡ o → MatchOption o (whole ≡ false) (λ rs. (whole ≡ true) × (new ≡ put_all rs old)) → PayloadIs file at old new (if whole then Some n else None)) [
      | None ↦ λ none r.
          subst (λ (b : Bool). PayloadIs file at old new (if b then Some n else None)) (sym r)
          (front_is ∙ ap (λ (l : List ℕ). option_and_then (λ (rs : List Record). Some (record { size = n; records = rs; rest = drop n (drop 8 (drop (at + 1) file)) })) (records_of (take n l))) behind
          ∙ ap (option_and_then (λ (rs : List Record). Some (record { size = n; records = rs; rest = drop n (drop 8 (drop (at + 1) file)) }))) none)
      | Some rs ↦ λ some r.
          subst (λ (b : Bool). PayloadIs file at old new (if b then Some n else None)) (sym r.0) (
            rs,
            front_is ∙ ap (λ (l : List ℕ). option_and_then (λ (rs : List Record). Some (record { size = n; records = rs; rest = drop n (drop 8 (drop (at + 1) file)) })) (records_of (take n l))) behind
                ∙ ap (option_and_then (λ (rs : List Record). Some (record { size = n; records = rs; rest = drop n (drop 8 (drop (at + 1) file)) }))) some
                ∙ ap (λ (l : List ℕ). Some (record { size = n; records = rs; rest = l })) rest,
            r.1,
          )
    ] refl read

-- what is read from a marker on

pub read_missing : (c : Content) (file : List ℕ) (at : ℕ) → length file ≤ at → read_from c (drop at file) ≡ Err c.end
unfolding read_on
read_missing c file at le = ap (read_from c) (drop_all at file le)

pub read_closed : (c : Content) (file : List ℕ) (at : ℕ) → at < length file → slice_index file at ≢ 1 → read_from c (drop at file) ≡ Ok c
read_closed c file at lt shut = ap (read_from c) (drop_more file at 0 lt) ∙ read_on_shut (length (get_or file at 0 ∷ drop (at + 1) file)) c (get_or file at 0) (drop (at + 1) file) shut

read_open : (c : Content) (file : List ℕ) (at : ℕ) → at < length file → slice_index file at ≡ 1 → read_from c (drop at file) ≡ after_batch (length (drop (at + 1) file)) c (first_batch (drop (at + 1) file))
read_open c file at lt is_open =
    ap (read_from c) (drop_more file at 0 lt ∙ ap (λ (g : ℕ). g ∷ drop (at + 1) file) is_open) ∙ read_on_open (length (drop (at + 1) file)) c (drop (at + 1) file)

pub read_bad : (c : Content) (file : List ℕ) (at : ℕ) → at < length file → slice_index file at ≡ 1 → first_batch (drop (at + 1) file) ≡ None → read_from c (drop at file) ≡ Err (c.end + 1)
read_bad c file at lt is_open none = read_open c file at lt is_open ∙ ap (after_batch (length (drop (at + 1) file)) c) none

pub read_good : (c : Content) (file : List ℕ) (at : ℕ) (b : Framed) → at < length file → slice_index file at ≡ 1 → first_batch (drop (at + 1) file) ≡ Some b → read_from c (drop at file) ≡ read_from (grown c b.size b.records) b.rest
read_good c file at b lt is_open some =
    read_open c file at lt is_open ∙ ap (after_batch (length (drop (at + 1) file)) c) some
    ∙ read_on_steps (length (drop (at + 1) file)) (length b.rest) (grown c b.size b.records) b.rest (omega (arith, batch_shorter (drop (at + 1) file) b some)) (omega arith)

pub then_some_if : (b : Bool) (n : ℕ) → then_some b n ≡ (if b then Some n else None)
then_some_if true n = refl
then_some_if false n = refl

-- as many of the first bytes as a header has
pub front_16 : (file : List ℕ) (n : ℕ) → n ≡ min (length file) 16 → take n file ≡ take 16 file
front_16 file n is = ⊎_elim
    (λ (long : 16 ≤ length file). let same : n ≡ 16 = omega arith in ap (λ (k : ℕ). take k file) same)
    (λ (short : length file < 16). take_all n file (omega arith) ∙ sym (take_all 16 file (omega arith)))
    (order 16 (length file))
  where
    order : (k n : ℕ) → (k ≤ n) ⊎ (n < k)
    order zero n = inl (omega arith)
    order (suc k) zero = inr (omega arith)
    order (suc k) (suc n) = ⊎_elim (λ (h : k ≤ n). inl (omega arith)) (λ (h : n < k). inr (omega arith)) (order k n)

pub header_of : (file header : List ℕ) (n : ℕ) → n ≡ min (length file) 16 → header ≡ take n file → first_outside 0 header_ranges header ≡ first_outside 0 header_ranges file
header_of file header n is front = ap (first_outside 0 header_ranges) (front ∙ front_16 file n is) ∙ outside_front 0 header_ranges file
