-- The bytes of a header, place by place, and where a file first differs from one.
use Rattle.std.proofs.Common.{◌≡◌, ℕ, zero, suc, ◌+◌, ◌≤◌, ◌<◌, Bool, true, false, List, [], ◌∷◌, ◌++◌, length, take, drop, get_or, Some, None, refl, sym, ◌∙◌, ap, subst, arith, length-append, take-append-drop}
use Rattle.std.specs.Prelude.{nat_le, ◌&&◌, slice_index, if◌then◌else◌}
use Rattle.std.proofs.lemmas.Bool.{cond-true, and_parts}
use Rattle.std.proofs.lemmas.Bool.Decides.{nat_tests}
use Rattle.std.proofs.lemmas.Nat.{be_bytes_4}
use Rattle.std.proofs.lemmas.List.{get_or-take, take_at, drop_at, append-nil}
use Rattle.flush_journal.proofs.ReadLemmas.{test_holds}
use Rattle.flush_journal.specs.Records.{four_bytes}
use Rattle.flush_journal.specs.Files.{magic, exactly, header_ranges, first_outside}
use Rattle.flush_journal.specs.Blocks.{header_bytes, BeginsHeader}

-- the first bytes are inside these ranges
Within : List (ℕ × ℕ) → List ℕ → Type 0
Within [] bytes = Unit {0}
Within (r ∷ rs) [] = ⊥
Within (r ∷ rs) (b ∷ bytes) = (r.0 ≤ b) × (b ≤ r.1) × Within rs bytes

le_of : (a b : ℕ) → nat_le a b ≡ true → a ≤ b
le_of a b e = grind (arith, nat_tests)

within_none : (at : ℕ) (rs : List (ℕ × ℕ)) (bytes : List ℕ) → Within rs bytes → first_outside at rs bytes ≡ None
unfolding first_outside Within
within_none at [] bytes h = refl
within_none at (r ∷ rs) [] h = absurd h
within_none at (r ∷ rs) (b ∷ bytes) h =
    cond-true (nat_le r.0 b && nat_le b r.1) (first_outside (at + 1) rs bytes) (Some at) (test_holds r.0 b r.1 h.0 h.1) ∙ within_none (at + 1) rs bytes h.2

none_within : (at : ℕ) (rs : List (ℕ × ℕ)) (bytes : List ℕ) → first_outside at rs bytes ≡ None → Within rs bytes
unfolding first_outside Within
none_within at [] bytes e = tt
none_within at (r ∷ rs) [] e = absurd (cc)
none_within at (r ∷ rs) (b ∷ bytes) e = by_test (none_within (at + 1) rs bytes) (nat_le r.0 b && nat_le b r.1) refl e
  where
    by_test : (first_outside (at + 1) rs bytes ≡ None → Within rs bytes) → (t : Bool) → (nat_le r.0 b && nat_le b r.1) ≡ t
        → (if t then first_outside (at + 1) rs bytes else Some at) ≡ None → (r.0 ≤ b) × (b ≤ r.1) × Within rs bytes
    by_test further true is e = let both = and_parts (nat_le r.0 b) (nat_le b r.1) is in (le_of r.0 b both.0, le_of b r.1 both.1, further e)
    by_test further false is e = absurd (cc)

-- the first place that is outside
record IsOutside (at : ℕ) (rs : List (ℕ × ℕ)) (bytes : List ℕ) (p : ℕ) : Type 0 where
  k : ℕ
  place : p ≡ at + k
  few : k < length rs
  before : Within (take k rs) bytes
  here : Within (take (suc k) rs) bytes → ⊥

some_within : (at : ℕ) (rs : List (ℕ × ℕ)) (bytes : List ℕ) (p : ℕ) → first_outside at rs bytes ≡ Some p → IsOutside at rs bytes p
unfolding first_outside Within
some_within at [] bytes p e = absurd (cc)
some_within at (r ∷ rs) [] p e = let same : at ≡ p = cc in record { k = 0; place = omega arith; few = omega arith; before = tt; here = λ h. h }
some_within at (r ∷ rs) (b ∷ bytes) p e = by_test (some_within (at + 1) rs bytes p) (nat_le r.0 b && nat_le b r.1) refl e
  where
    by_test : (first_outside (at + 1) rs bytes ≡ Some p → IsOutside (at + 1) rs bytes p) → (t : Bool) → (nat_le r.0 b && nat_le b r.1) ≡ t
        → (if t then first_outside (at + 1) rs bytes else Some at) ≡ Some p → IsOutside at (r ∷ rs) (b ∷ bytes) p
    by_test further true is e =
        let both = and_parts (nat_le r.0 b) (nat_le b r.1) is in
        let o = further e in
        record {
          k = suc o.k;
          place = omega (arith, o.place);
          few = omega (arith, o.few);
          before = (le_of r.0 b both.0, le_of b r.1 both.1, o.before);
          here = λ h. o.here h.2;
        }
    by_test further false is e =
        let same : at ≡ p = cc in
        record { k = 0; place = omega arith; few = omega arith; before = tt; here = λ h. let no_ : true ≡ false = sym (test_holds r.0 b r.1 h.0 h.1) ∙ is in absurd (cc) }

within_some : (at : ℕ) (rs : List (ℕ × ℕ)) (bytes : List ℕ) (k : ℕ) → k < length rs → Within (take k rs) bytes → (Within (take (suc k) rs) bytes → ⊥) → first_outside at rs bytes ≡ Some (at + k)
unfolding first_outside Within
within_some at [] bytes k few before here = absurd (omega arith)
within_some at (r ∷ rs) [] zero few before here = ap (λ (n : ℕ). Some n) (let e : at ≡ at + 0 = omega arith in e)
within_some at (r ∷ rs) [] (suc k) few before here = absurd before
within_some at (r ∷ rs) (b ∷ bytes) zero few before here = by_test (nat_le r.0 b && nat_le b r.1) refl
  where
    by_test : (t : Bool) → (nat_le r.0 b && nat_le b r.1) ≡ t → (if t then first_outside (at + 1) rs bytes else Some at) ≡ Some (at + 0)
    by_test true is = let both = and_parts (nat_le r.0 b) (nat_le b r.1) is in absurd (here (le_of r.0 b both.0, le_of b r.1 both.1, tt))
    by_test false is = ap (λ (n : ℕ). Some n) (let e : at ≡ at + 0 = omega arith in e)
within_some at (r ∷ rs) (b ∷ bytes) (suc k) few before here =
    cond-true (nat_le r.0 b && nat_le b r.1) (first_outside (at + 1) rs bytes) (Some at) (test_holds r.0 b r.1 before.0 before.1)
    ∙ within_some (at + 1) rs bytes k (omega arith) before.2 (λ h. here (before.0, before.1, h))
    ∙ ap (λ (n : ℕ). Some n) (let e : at + 1 + k ≡ at + suc k = omega arith in e)

-- bytes, one that is between 1 and 16, and bytes
abbrev ranges_of : List ℕ → List ℕ → List (ℕ × ℕ)
ranges_of xs ys = exactly xs ++ ((1, 16) ∷ exactly ys)

-- the first n bytes are the first of these
record IsFirst (n : ℕ) (bytes all : List ℕ) : Type 0 where
  long : n ≤ length bytes
  same : take n bytes ≡ take n all

first_more : (n x y : ℕ) (bytes all : List ℕ) → x ≡ y → IsFirst n bytes all → IsFirst (suc n) (x ∷ bytes) (y ∷ all)
first_more n x y bytes all e h = record { long = omega (arith, h.long); same = λ i. e i ∷ h.same i }

first_less : (n x y : ℕ) (bytes all : List ℕ) → IsFirst (suc n) (x ∷ bytes) (y ∷ all) → (x ≡ y) × IsFirst n bytes all
first_less n x y bytes all h =
    let parts : ◌≡◌ {A = List ℕ} (x ∷ take n bytes) (y ∷ take n all) = h.same in
    (cc, record { long = omega (arith, h.long); same = cc })

exact_first : (n : ℕ) (ys bytes : List ℕ) → n ≤ length ys → Within (take n (exactly ys)) bytes → IsFirst n bytes ys
unfolding Within
exact_first zero ys bytes le h = record { long = omega arith; same = refl }
exact_first (suc n) [] bytes le h = absurd (omega arith)
exact_first (suc n) (y ∷ ys) [] le h = absurd h
exact_first (suc n) (y ∷ ys) (b ∷ bytes) le h = first_more n b y bytes ys (omega (arith, h.0, h.1)) (exact_first n ys bytes (omega arith) h.2)

first_exact : (n : ℕ) (ys bytes : List ℕ) → IsFirst n bytes ys → Within (take n (exactly ys)) bytes
unfolding Within
first_exact zero ys bytes h = tt
first_exact (suc n) [] bytes h = tt
first_exact (suc n) (y ∷ ys) [] h = absurd (omega (arith, h.long))
first_exact (suc n) (y ∷ ys) (b ∷ bytes) h = let l = first_less n b y bytes ys h in (omega (arith, l.0), omega (arith, l.0), first_exact n ys bytes l.1)

-- the first n bytes, with some number between 1 and 16
record IsSomeFirst (n : ℕ) (xs ys bytes : List ℕ) : Type 0 where
  lanes : ℕ
  some_lane : 1 ≤ lanes
  few_lanes : lanes ≤ 16
  first : IsFirst n bytes (xs ++ lanes ∷ ys)

ranges_first : (n : ℕ) (xs ys bytes : List ℕ) → n ≤ length xs + 1 + length ys → Within (take n (ranges_of xs ys)) bytes → IsSomeFirst n xs ys bytes
unfolding Within
ranges_first zero xs ys bytes le h = record { lanes = 1; some_lane = omega arith; few_lanes = omega arith; first = record { long = omega arith; same = refl } }
ranges_first (suc n) [] ys [] le h = absurd h
ranges_first (suc n) [] ys (b ∷ bytes) le h = record { lanes = b; some_lane = h.0; few_lanes = h.1; first = first_more n b b bytes ys refl (exact_first n ys bytes (omega arith) h.2) }
ranges_first (suc n) (x ∷ xs) ys [] le h = absurd h
ranges_first (suc n) (x ∷ xs) ys (b ∷ bytes) le h =
    let f = ranges_first n xs ys bytes (omega arith) h.2 in
    record { lanes = f.lanes; some_lane = f.some_lane; few_lanes = f.few_lanes; first = first_more n b x bytes (xs ++ f.lanes ∷ ys) (omega (arith, h.0, h.1)) f.first }

first_ranges : (n lanes : ℕ) (xs ys bytes : List ℕ) → 1 ≤ lanes → lanes ≤ 16 → IsFirst n bytes (xs ++ lanes ∷ ys) → Within (take n (ranges_of xs ys)) bytes
unfolding Within
first_ranges zero lanes xs ys bytes some few h = tt
first_ranges (suc n) lanes [] ys [] some few h = absurd (omega (arith, h.long))
first_ranges (suc n) lanes [] ys (b ∷ bytes) some few h = let l = first_less n b lanes bytes ys h in (omega (arith, l.0), omega (arith, l.0), first_exact n ys bytes l.1)
first_ranges (suc n) lanes (x ∷ xs) ys [] some few h = absurd (omega (arith, h.long))
first_ranges (suc n) lanes (x ∷ xs) ys (b ∷ bytes) some few h =
    let l = first_less n b x bytes (xs ++ lanes ∷ ys) h in (omega (arith, l.0), omega (arith, l.0), first_ranges n lanes xs ys bytes some few l.1)

-- the bytes of a header before and behind the byte of its lanes
abbrev before_lanes : List ℕ
before_lanes = magic ++ (0 ∷ 0 ∷ 0 ∷ [])

abbrev behind_lanes : List ℕ
behind_lanes = 0 ∷ 0 ∷ 0 ∷ 0 ∷ []

ranges_are : header_ranges ≡ ranges_of before_lanes behind_lanes
ranges_are = refl

four_of : (n : ℕ) → n ≤ 16 → four_bytes n ≡ 0 ∷ 0 ∷ 0 ∷ n ∷ []
unfolding four_bytes
four_of n few = be_bytes_4 (0 ∷ 0 ∷ 0 ∷ n ∷ []) n refl small (omega arith)
  where
    small : (i : ℕ) → get_or (0 ∷ 0 ∷ 0 ∷ n ∷ []) i 0 < 256
    small zero = omega arith
    small (suc zero) = omega arith
    small (suc (suc zero)) = omega arith
    small (suc (suc (suc zero))) = omega arith
    small (suc (suc (suc (suc i)))) = omega arith

header_is : (lanes : ℕ) → lanes ≤ 16 → header_bytes lanes ≡ before_lanes ++ lanes ∷ behind_lanes
header_is lanes few = ap (λ (l : List ℕ). magic ++ l ++ behind_lanes) (four_of lanes few)

pub length-header : (lanes : ℕ) → lanes ≤ 16 → length (header_bytes lanes) ≡ 16
length-header lanes few = ap length (header_is lanes few)

begins : (n : ℕ) (bytes : List ℕ) → n ≤ 16 → Within (take n header_ranges) bytes → BeginsHeader bytes n
begins n bytes le h =
    let f = ranges_first n before_lanes behind_lanes bytes le h in
    record { lanes = f.lanes; some_lane = f.some_lane; few_lanes = f.few_lanes; long = f.first.long; same = f.first.same ∙ ap (take n) (sym (header_is f.lanes f.few_lanes)) }

begins_within : (n : ℕ) (bytes : List ℕ) → BeginsHeader bytes n → Within (take n header_ranges) bytes
begins_within n bytes b =
    first_ranges n b.lanes before_lanes behind_lanes bytes b.some_lane b.few_lanes (record { long = b.long; same = b.same ∙ ap (take n) (header_is b.lanes b.few_lanes) })

-- a file with a header
pub record HasHeader (bytes : List ℕ) : Type 0 where
  pub some_lane : 1 ≤ slice_index bytes 11
  pub few_lanes : slice_index bytes 11 ≤ 16
  pub whole : bytes ≡ header_bytes (slice_index bytes 11) ++ drop 16 bytes

pub header_found : (bytes : List ℕ) → first_outside 0 header_ranges bytes ≡ None → HasHeader bytes
header_found bytes e =
    let b = begins 16 bytes (omega arith) (none_within 0 header_ranges bytes e) in
    let is : take 16 bytes ≡ before_lanes ++ b.lanes ∷ behind_lanes = b.same ∙ ap (take 16) (header_is b.lanes b.few_lanes) in
    let lanes : slice_index bytes 11 ≡ b.lanes = sym (get_or-take 16 bytes 11 0 (omega arith)) ∙ ap (λ (l : List ℕ). get_or l 11 0) is in
    record {
      some_lane = omega (arith, lanes, b.some_lane);
      few_lanes = omega (arith, lanes, b.few_lanes);
      whole = sym (take-append-drop 16 bytes) ∙ (λ i. (is ∙ sym (header_is b.lanes b.few_lanes) ∙ ap header_bytes (sym lanes)) i ++ drop 16 bytes);
    }

-- bytes behind a header
pub header_read : (lanes : ℕ) (tail : List ℕ) → 1 ≤ lanes → lanes ≤ 16
    → (first_outside 0 header_ranges (header_bytes lanes ++ tail) ≡ None) × (slice_index (header_bytes lanes ++ tail) 11 ≡ lanes) × (drop 16 (header_bytes lanes ++ tail) ≡ tail)
header_read lanes tail some few =
    let size = length-header lanes few in (
      within_none 0 header_ranges (header_bytes lanes ++ tail) (begins_within 16 (header_bytes lanes ++ tail) (record {
        lanes = lanes;
        some_lane = some;
        few_lanes = few;
        long = omega (arith, size, length-append (header_bytes lanes) tail);
        same = take_at (header_bytes lanes) tail 16 size ∙ sym (take_at (header_bytes lanes) [] 16 size ∙ refl) ∙ ap (take 16) (append-nil (header_bytes lanes));
      })),
      ap (λ (l : List ℕ). slice_index (l ++ tail) 11) (header_is lanes few),
      drop_at (header_bytes lanes) tail 16 size,
    )

-- where a file first differs from a header
pub outside_begins : (bytes : List ℕ) (at : ℕ) → first_outside 0 header_ranges bytes ≡ Some at → (at < 16) × BeginsHeader bytes at × (BeginsHeader bytes (at + 1) → ⊥)
outside_begins bytes at e =
    let o = some_within 0 header_ranges bytes at e in
    let same : o.k ≡ at = omega (arith, o.place) in
    let next : at + 1 ≡ suc o.k = omega (arith, o.place) in (
      omega (arith, o.place, o.few),
      subst (BeginsHeader bytes) same (begins o.k bytes (omega (arith, o.few)) o.before),
      λ b. o.here (begins_within (suc o.k) bytes (subst (BeginsHeader bytes) next b)),
    )

pub begins_outside : (bytes : List ℕ) (at : ℕ) → at < 16 → BeginsHeader bytes at → (BeginsHeader bytes (at + 1) → ⊥) → first_outside 0 header_ranges bytes ≡ Some at
begins_outside bytes at few before here =
    let next : suc at ≡ at + 1 = omega arith in
    within_some 0 header_ranges bytes at few (begins_within at bytes before) (λ h. here (subst (BeginsHeader bytes) next (begins (suc at) bytes (omega arith) h)))
    ∙ ap (λ (n : ℕ). Some n) (let e : 0 + at ≡ at = omega arith in e)
