-- What splitting bytes gives, and that encoded records are read back.
use Rattle.std.proofs.Common.{◌≡◌, ℕ, zero, suc, ◌+◌, ◌≤◌, ◌<◌, ◌^◌, Bool, true, false, List, [], ◌∷◌, ◌++◌, length, take, drop, Option, Some, None, refl, sym, ◌∙◌, ap, subst, arith, append_assoc, length-append}
use Rattle.std.specs.Prelude.{option_map, option_and_then, if◌then◌else◌}
use Rattle.std.proofs.lemmas.Option.{option_and_then_some}
use Rattle.std.proofs.lemmas.Nat.{from_be_bytes-to_be_bytes_4, from_be_bytes-to_be_bytes_8}
use Rattle.std.specs.Int.{w32, w64, from_be_bytes}
use Rattle.flush_journal.specs.Records.{Record, split_front, split_number_4, split_number_8, is_key_length, split_key, split_body, first_record, records_in, records_of, four_bytes, eight_bytes}

pub length-four_bytes : (n : ℕ) → length (four_bytes n) ≡ 4
unfolding four_bytes
length-four_bytes n = refl

pub length-eight_bytes : (n : ℕ) → length (eight_bytes n) ≡ 8
unfolding eight_bytes
length-eight_bytes n = refl

-- the front comes off
pub split-append : (n : ℕ) (xs ys : List ℕ) → length xs ≡ n → split_front n (xs ++ ys) ≡ Some (xs, ys)
unfolding split_front
split-append zero [] ys e = refl
split-append zero (x ∷ xs) ys e = absurd (omega arith)
split-append (suc n) [] ys e = absurd (omega arith)
split-append (suc n) (x ∷ xs) ys e = ap (option_map (λ (p : List ℕ × List ℕ). (x ∷ p.0, p.1))) (split-append n xs ys (omega arith))

-- what a split found
pub record IsSplit (n : ℕ) (bytes : List ℕ) (p : List ℕ × List ℕ) : Type 0 where
  pub whole : bytes ≡ p.0 ++ p.1
  pub size : length p.0 ≡ n

pub split_found : (n : ℕ) (bytes : List ℕ) (p : List ℕ × List ℕ) → split_front n bytes ≡ Some p → IsSplit n bytes p
unfolding split_front
split_found zero bytes p e = let is : ◌≡◌ {A = List ℕ × List ℕ} ([], bytes) p = cc in subst (IsSplit zero bytes) is (record { whole = refl; size = refl })
split_found (suc n) [] p e = absurd (cc)
split_found (suc n) (b ∷ bytes) p e =
    elim (split_front n bytes) as (λ o. split_front n bytes ≡ o → option_map (λ (q : List ℕ × List ℕ). (b ∷ q.0, q.1)) o ≡ Some p → IsSplit (suc n) (b ∷ bytes) p) [
      | None ↦ λ is no. absurd (cc)
      | Some q ↦ λ is yes.
          let found = split_found n bytes q is in
          let same : ◌≡◌ {A = List ℕ × List ℕ} (b ∷ q.0, q.1) p = cc in
          subst (IsSplit (suc n) (b ∷ bytes)) same (record { whole = ap (λ (l : List ℕ). b ∷ l) found.whole; size = omega (arith, found.size) })
    ] refl e

-- too few bytes
pub split_short : (n : ℕ) (bytes : List ℕ) → length bytes < n → split_front n bytes ≡ None
unfolding split_front
split_short zero bytes h = absurd (omega arith)
split_short (suc n) [] h = refl
split_short (suc n) (b ∷ bytes) h = ap (option_map (λ (p : List ℕ × List ℕ). (b ∷ p.0, p.1))) (split_short n bytes (omega arith))

-- enough bytes
pub split_enough : (n : ℕ) (bytes : List ℕ) → n ≤ length bytes → split_front n bytes ≡ Some (take n bytes, drop n bytes)
unfolding split_front
split_enough zero bytes h = refl
split_enough (suc n) [] h = absurd (omega arith)
split_enough (suc n) (b ∷ bytes) h = ap (option_map (λ (p : List ℕ × List ℕ). (b ∷ p.0, p.1))) (split_enough n bytes (omega arith))

pub split_number_4-append : (n : ℕ) (rest : List ℕ) → n < 2 ^ 32 → split_number_4 (four_bytes n ++ rest) ≡ Some (n, rest)
unfolding split_number_4 four_bytes
split_number_4-append n rest h =
    ap (option_and_then (λ (p : List ℕ × List ℕ). Some (from_be_bytes w32 p.0, p.1))) (split-append 4 (four_bytes n) rest (length-four_bytes n))
    ∙ ap (λ (k : ℕ). Some (k, rest)) (from_be_bytes-to_be_bytes_4 n h)

pub split_number_8-append : (n : ℕ) (rest : List ℕ) → n < 2 ^ 64 → split_number_8 (eight_bytes n ++ rest) ≡ Some (n, rest)
unfolding split_number_8 eight_bytes
split_number_8-append n rest h =
    ap (option_and_then (λ (p : List ℕ × List ℕ). Some (from_be_bytes w64 p.0, p.1))) (split-append 8 (eight_bytes n) rest (length-eight_bytes n))
    ∙ ap (λ (k : ℕ). Some (k, rest)) (from_be_bytes-to_be_bytes_8 n h)

-- with more bytes behind
abbrev pub more : {A : Type 0} → List ℕ → A × List ℕ → A × List ℕ
more tail p = (p.0, p.1 ++ tail)

pub split_more : (n : ℕ) (bytes tail : List ℕ) (p : List ℕ × List ℕ) → split_front n bytes ≡ Some p → split_front n (bytes ++ tail) ≡ Some (more tail p)
split_more n bytes tail p e =
    let found = split_found n bytes p e in
    ap (λ (l : List ℕ). split_front n (l ++ tail)) found.whole ∙ ap (split_front n) (append_assoc p.0 p.1 tail) ∙ split-append n p.0 (p.1 ++ tail) found.size

-- a split and then another, with more bytes behind
then_more : {A B : Type 0} (F : A × List ℕ → Option (B × List ℕ)) (tail : List ℕ) (o o' : Option (A × List ℕ)) (y : B × List ℕ)
    → ((k : A × List ℕ) → o ≡ Some k → o' ≡ Some (more tail k)) → ((k : A × List ℕ) → o ≡ Some k → F k ≡ Some y → F (more tail k) ≡ Some (more tail y))
    → option_and_then F o ≡ Some y → option_and_then F o' ≡ Some (more tail y)
then_more F tail o o' y first next e =
    option_and_then_some F o y e (λ k ke fe. ap (option_and_then F) (first k ke) ∙ next k ke fe)

some_more : {A : Type 0} (tail : List ℕ) (x y : A × List ℕ) → Some x ≡ Some y → Some (more tail x) ≡ Some (more tail y)
some_more tail x y e = ap (option_map (more tail)) e

pub split_number_4_more : (bytes tail : List ℕ) (n : ℕ × List ℕ) → split_number_4 bytes ≡ Some n → split_number_4 (bytes ++ tail) ≡ Some (more tail n)
unfolding split_number_4
split_number_4_more bytes tail n e =
    then_more (λ (p : List ℕ × List ℕ). Some (from_be_bytes w32 p.0, p.1)) tail (split_front 4 bytes) (split_front 4 (bytes ++ tail)) n (split_more 4 bytes tail) (λ k ke fe. some_more tail (from_be_bytes w32 k.0, k.1) n fe) e

pub split_key_more : (bytes tail : List ℕ) (y : List ℕ × List ℕ) → split_key bytes ≡ Some y → split_key (bytes ++ tail) ≡ Some (more tail y)
unfolding split_key
split_key_more bytes tail y e =
    let F : ℕ × List ℕ → Option (List ℕ × List ℕ) = λ n. if is_key_length n.0 then split_front n.0 n.1 else None in
    then_more F tail (split_number_4 bytes) (split_number_4 (bytes ++ tail)) y (split_number_4_more bytes tail)
    (λ k ke fe. allowed (is_key_length k.0) k fe) e
  where
    allowed : (b : Bool) (k : ℕ × List ℕ) → (if b then split_front k.0 k.1 else None) ≡ Some y → (if b then split_front k.0 (k.1 ++ tail) else None) ≡ Some (more tail y)
    allowed true k fe = split_more k.0 k.1 tail y fe
    allowed false k fe = absurd (cc)

pub split_body_more : (bytes tail : List ℕ) (y : List ℕ × List ℕ) → split_body bytes ≡ Some y → split_body (bytes ++ tail) ≡ Some (more tail y)
unfolding split_body
split_body_more bytes tail y e =
    then_more (λ (n : ℕ × List ℕ). split_front n.0 n.1) tail (split_number_4 bytes) (split_number_4 (bytes ++ tail)) y (split_number_4_more bytes tail) (λ k ke fe. split_more k.0 k.1 tail y fe) e

pub first_record_more : (bytes tail : List ℕ) (y : Record × List ℕ) → first_record bytes ≡ Some y → first_record (bytes ++ tail) ≡ Some (more tail y)
unfolding first_record
first_record_more bytes tail y e =
    let F : List ℕ × List ℕ → Option (Record × List ℕ) = λ k. option_and_then (λ (b : List ℕ × List ℕ). Some ((k.0, b.0), b.1)) (split_body k.1) in
    then_more F tail (split_key bytes) (split_key (bytes ++ tail)) y (split_key_more bytes tail)
    (λ k ke fe. then_more (λ (b : List ℕ × List ℕ). Some ((k.0, b.0), b.1)) tail (split_body k.1) (split_body (k.1 ++ tail)) y (split_body_more k.1 tail) (λ b be ge. some_more tail ((k.0, b.0), b.1) y ge) fe) e

-- what is left after a split is shorter
then_shorter : {A B : Type 0} (F : A × List ℕ → Option (B × List ℕ)) (n m : ℕ) (o : Option (A × List ℕ)) (y : B × List ℕ)
    → ((k : A × List ℕ) → o ≡ Some k → length k.1 + m ≤ n) → ((k : A × List ℕ) → F k ≡ Some y → length y.1 ≤ length k.1)
    → option_and_then F o ≡ Some y → length y.1 + m ≤ n
then_shorter F n m o y first next e =
    option_and_then_some F o y e (λ k ke fe. omega (arith, first k ke, next k fe))

split_shorter : (n : ℕ) (bytes : List ℕ) (p : List ℕ × List ℕ) → split_front n bytes ≡ Some p → length p.1 + n ≤ length bytes
split_shorter n bytes p e = let found = split_found n bytes p e in omega (arith, found.size, ap length found.whole, length-append p.0 p.1)

same_rest : {A : Type 0} (x y : A × List ℕ) → Some x ≡ Some y → length y.1 ≤ length x.1
same_rest {A = A} x y e = let same : x ≡ y = cc in omega (arith, ap (λ (q : A × List ℕ). length q.1) same)

pub split_number_4_shorter : (bytes : List ℕ) (n : ℕ × List ℕ) → split_number_4 bytes ≡ Some n → length n.1 + 4 ≤ length bytes
unfolding split_number_4
split_number_4_shorter bytes n e =
    then_shorter (λ (p : List ℕ × List ℕ). Some (from_be_bytes w32 p.0, p.1)) (length bytes) 4 (split_front 4 bytes) n (split_shorter 4 bytes) (λ k fe. same_rest (from_be_bytes w32 k.0, k.1) n fe) e

pub split_key_shorter : (bytes : List ℕ) (y : List ℕ × List ℕ) → split_key bytes ≡ Some y → length y.1 + 4 ≤ length bytes
unfolding split_key
split_key_shorter bytes y e =
    let F : ℕ × List ℕ → Option (List ℕ × List ℕ) = λ n. if is_key_length n.0 then split_front n.0 n.1 else None in
    then_shorter F (length bytes) 4 (split_number_4 bytes) y (split_number_4_shorter bytes) (λ k fe. allowed (is_key_length k.0) k fe) e
  where
    allowed : (b : Bool) (k : ℕ × List ℕ) → (if b then split_front k.0 k.1 else None) ≡ Some y → length y.1 ≤ length k.1
    allowed true k fe = omega (arith, split_shorter k.0 k.1 y fe)
    allowed false k fe = absurd (cc)

pub split_body_shorter : (bytes : List ℕ) (y : List ℕ × List ℕ) → split_body bytes ≡ Some y → length y.1 + 4 ≤ length bytes
unfolding split_body
split_body_shorter bytes y e =
    then_shorter (λ (n : ℕ × List ℕ). split_front n.0 n.1) (length bytes) 4 (split_number_4 bytes) y (split_number_4_shorter bytes) (λ k fe. omega (arith, split_shorter k.0 k.1 y fe)) e

pub first_record_shorter : (bytes : List ℕ) (y : Record × List ℕ) → first_record bytes ≡ Some y → length y.1 + 4 ≤ length bytes
unfolding first_record
first_record_shorter bytes y e =
    let F : List ℕ × List ℕ → Option (Record × List ℕ) = λ k. option_and_then (λ (b : List ℕ × List ℕ). Some ((k.0, b.0), b.1)) (split_body k.1) in
    then_shorter F (length bytes) 4 (split_key bytes) y (split_key_shorter bytes)
    (λ k fe. omega (arith, then_shorter (λ (b : List ℕ × List ℕ). Some ((k.0, b.0), b.1)) (length k.1) 4 (split_body k.1) y (split_body_shorter k.1) (λ b ge. same_rest ((k.0, b.0), b.1) y ge) fe)) e

-- enough steps read the same records
pub records_in_steps : (f g : ℕ) (bytes : List ℕ) → length bytes ≤ f → length bytes ≤ g → records_in f bytes ≡ records_in g bytes
unfolding records_in
records_in_steps f g [] hf hg = refl
records_in_steps zero g (b ∷ bytes) hf hg = absurd (omega arith)
records_in_steps (suc f) zero (b ∷ bytes) hf hg = absurd (omega arith)
records_in_steps (suc f) (suc g) (b ∷ bytes) hf hg =
    elim (first_record (b ∷ bytes)) as (λ o. first_record (b ∷ bytes) ≡ o
    → option_and_then (λ (r : Record × List ℕ). option_and_then (λ (rs : List Record). Some (r.0 ∷ rs)) (records_in f r.1)) o
    ≡ option_and_then (λ (r : Record × List ℕ). option_and_then (λ (rs : List Record). Some (r.0 ∷ rs)) (records_in g r.1)) o) [
      | None ↦ λ e. refl
      | Some r ↦ λ e.
          let short = first_record_shorter (b ∷ bytes) r e in
          ap (option_and_then (λ (rs : List Record). Some (r.0 ∷ rs))) (records_in_steps f g r.1 (omega (arith, short)) (omega (arith, short)))
    ] refl

no_record : first_record [] ≡ None
unfolding first_record split_key split_number_4 split_front
no_record = refl

-- a record at the front is the first of the records
pub records_in_first : (f : ℕ) (bytes : List ℕ) (r : Record) (rest : List ℕ) → first_record bytes ≡ Some (r, rest)
    → records_in (suc f) bytes ≡ option_map (λ (rs : List Record). r ∷ rs) (records_in f rest)
unfolding records_in
records_in_first f [] r rest e = absurd (cc (e, no_record))
records_in_first f (b ∷ bytes) r rest e =
    ap (option_and_then (λ (r : Record × List ℕ). option_and_then (λ (rs : List Record). Some (r.0 ∷ rs)) (records_in f r.1))) e ∙ as_map (records_in f rest)
  where
    as_map : (o : Option (List Record)) → option_and_then (λ (rs : List Record). Some (r ∷ rs)) o ≡ option_map (λ (rs : List Record). r ∷ rs) o
    as_map None = refl
    as_map (Some rs) = refl

pub records_of_first : (bytes : List ℕ) (r : Record) (rest : List ℕ) → first_record bytes ≡ Some (r, rest)
    → records_of bytes ≡ option_map (λ (rs : List Record). r ∷ rs) (records_of rest)
records_of_first bytes r rest e =
    let short = first_record_shorter bytes (r, rest) e in
    records_in_steps (length bytes) (suc (length bytes)) bytes (omega arith) (omega arith)
    ∙ records_in_first (length bytes) bytes r rest e
    ∙ ap (option_map (λ (rs : List Record). r ∷ rs)) (records_in_steps (length bytes) (length rest) rest (omega (arith, short)) (omega arith))

-- no record at the front of some bytes
pub records_of_none : (b : ℕ) (bytes : List ℕ) → first_record (b ∷ bytes) ≡ None → records_of (b ∷ bytes) ≡ None
unfolding records_in
records_of_none b bytes e = ap (option_and_then (λ (r : Record × List ℕ). option_and_then (λ (rs : List Record). Some (r.0 ∷ rs)) (records_in (length bytes) r.1))) e

pub records_of_nothing : records_of [] ≡ Some []
unfolding records_in
records_of_nothing = refl

nothing : (rs : List Record) → records_of [] ≡ Some rs → [] ≡ rs
unfolding records_in
nothing rs e = cc

-- records, and more records behind
pub records_of_more : (f : ℕ) (bytes tail : List ℕ) (rs ts : List Record) → length bytes ≤ f → records_of bytes ≡ Some rs → records_of tail ≡ Some ts → records_of (bytes ++ tail) ≡ Some (rs ++ ts)
records_of_more f [] tail rs ts h e t = t ∙ ap (λ (l : List Record). Some (l ++ ts)) (nothing rs e)
records_of_more zero (b ∷ bytes) tail rs ts h e t = absurd (omega arith)
records_of_more (suc f) (b ∷ bytes) tail rs ts h e t =
    elim (first_record (b ∷ bytes)) as (λ o. first_record (b ∷ bytes) ≡ o → records_of ((b ∷ bytes) ++ tail) ≡ Some (rs ++ ts)) [
      | None ↦ λ no. absurd (cc (e, records_of_none b bytes no))
      | Some r ↦ λ is.
          let short = first_record_shorter (b ∷ bytes) r is in
          let whole = records_of_first (b ∷ bytes) r.0 r.1 is in
          let extended = records_of_first ((b ∷ bytes) ++ tail) r.0 (r.1 ++ tail) (first_record_more (b ∷ bytes) tail r is) in
          behind (records_of r.1) r.0 (sym whole ∙ e) (λ qs qe. extended ∙ ap (option_map (λ (l : List Record). r.0 ∷ l)) (records_of_more f r.1 tail qs ts (omega (arith, short)) qe t))
    ] refl
  where
    behind : {X : Option (List Record)} (o : Option (List Record)) (r : Record) → option_map (λ (l : List Record). r ∷ l) o ≡ Some rs
        → ((qs : List Record) → o ≡ Some qs → X ≡ Some (r ∷ (qs ++ ts))) → X ≡ Some (rs ++ ts)
    behind None r e k = absurd (cc)
    behind (Some qs) r e k = k qs refl ∙ ap (λ (l : List Record). Some (l ++ ts)) (let same : r ∷ qs ≡ rs = cc in same)
