-- The text of a sample, line by line.
use Rattle.std.proofs.Common.{refl, sym, ◌≡◌, ℕ, zero, suc, ◌+◌, ◌*◌, ◌%◌, ◌^◌, List, [], ◌∷◌, ◌++◌, ap, ◌∙◌, arith, append_assoc}
use Rattle.std.specs.List.{flat_map, range_with_len, sum_by}
use Rattle.std.proofs.lemmas.List.{append-nil}
use Rattle.std.proofs.lemmas.List.Concat.{flat_map-append}
use Rattle.std.proofs.lemmas.List.Sums.{sum_by_push}
use Rattle.samples.specs.Values.Samples.{sample_text, slab_line, slab_sum, total, total_line}
use Rattle.service_core.specs.Steps.{World}
use Rattle.samples.specs.Worlds.{HoldsSample}

-- the lines of so many slabs, and their sum
abbrev pub lines_of : ℕ → ℕ → List ℕ
lines_of n many = flat_map (λ i. slab_line (100 * i) (slab_sum n (100 * i))) (range_with_len 0 many)

abbrev pub sum_of : ℕ → ℕ → ℕ
sum_of n many = sum_by (λ i. slab_sum n (100 * i)) (range_with_len 0 many)

range_more : (a many : ℕ) → range_with_len a (many + 1) ≡ range_with_len a many ++ (a + many) ∷ []
range_more a zero =
    let same : a ≡ a + 0 = omega arith in
    ap (λ (k : ℕ). k ∷ []) same
range_more a (suc many) =
    let more : suc many + 1 ≡ suc (many + 1) = omega arith in
    let last : a + 1 + many ≡ a + suc many = omega arith in
    ap (range_with_len a) more ∙ ap (λ (ks : List ℕ). a ∷ ks) (range_more (a + 1) many ∙ ap (λ (k : ℕ). range_with_len (a + 1) many ++ k ∷ []) last)

next_of : (many : ℕ) → range_with_len 0 (many + 1) ≡ range_with_len 0 many ++ many ∷ []
next_of many =
    let same : 0 + many ≡ many = omega arith in
    range_more 0 many ∙ ap (λ (k : ℕ). range_with_len 0 many ++ k ∷ []) same

flat_more : (f : ℕ → List ℕ) (many : ℕ) → flat_map f (range_with_len 0 (many + 1)) ≡ flat_map f (range_with_len 0 many) ++ f many
flat_more f many =
    ap (flat_map f) (next_of many) ∙ flat_map-append f (range_with_len 0 many) (many ∷ []) ∙ ap (λ (bs : List ℕ). flat_map f (range_with_len 0 many) ++ bs) (append-nil (f many))

pub lines_more : (n many : ℕ) → lines_of n (many + 1) ≡ lines_of n many ++ slab_line (100 * many) (slab_sum n (100 * many))
lines_more n many = flat_more (λ i. slab_line (100 * i) (slab_sum n (100 * i))) many

pub sum_more : (n many : ℕ) → sum_of n (many + 1) ≡ sum_of n many + slab_sum n (100 * many)
sum_more n many =
    let f = λ (i : ℕ). slab_sum n (100 * i) in
    ap (sum_by f) (next_of many) ∙ sum_by_push f (range_with_len 0 many) many

pub text_is : (n many : ℕ) → many ≡ 10 → lines_of n many ++ total_line (sum_of n many % 2 ^ 64) ≡ sample_text n
unfolding sample_text total
text_is n many h = ap (λ (m : ℕ). lines_of n m ++ total_line (sum_of n m % 2 ^ 64)) h

-- the lines of so many slabs were told, from a world that holds the sample
pub record IsTold (n many : ℕ) (w : World) (text : List ℕ) (sum : ℕ) : Type 0 where
  pub holds : HoldsSample n w
  pub lines : text ≡ lines_of n many
  pub sums : sum ≡ sum_of n many % 2 ^ 64

pub told_none : (n : ℕ) (w : World) (text : List ℕ) → text ≡ [] → HoldsSample n w → IsTold n 0 w text 0
told_none n w text none h = record { holds = h; lines = none; sums = refl }

-- one line more
pub told_more : (n many : ℕ) (w new : World) (text now line : List ℕ) (total sum : ℕ) → IsTold n many w text total → (sum ≡ slab_sum n (100 * many)) × HoldsSample n new
    → now ≡ text ++ line → line ≡ slab_line (100 * many) sum → IsTold n (many + 1) new now ((total + sum) % 2 ^ 64)
told_more n many w new text now line total sum h read pushed is = record {
  holds = read.1;
  lines = pushed ∙ ap (λ (bs : List ℕ). bs ++ line) h.lines ∙ ap (λ (bs : List ℕ). lines_of n many ++ bs) (is ∙ ap (slab_line (100 * many)) read.0) ∙ sym (lines_more n many);
  sums = let whole = sum_more n many in omega (arith, whole, h.sums, read.0);
}

-- and then the last
pub told_all : (n many : ℕ) (w : World) (text now line : List ℕ) (total : ℕ) → IsTold n many w text total → many ≡ 10 → now ≡ text ++ line → line ≡ total_line total → now ≡ sample_text n
told_all n many w text now line total h all pushed is =
    pushed ∙ ap (λ (bs : List ℕ). bs ++ line) h.lines ∙ ap (λ (bs : List ℕ). lines_of n many ++ bs) (is ∙ ap total_line h.sums) ∙ text_is n many all

-- two numbers and the words round them, as `format!` joins them
pub joined : (l a m b e : List ℕ) → l ++ (a ++ (m ++ (b ++ e))) ≡ (((l ++ a) ++ m) ++ b) ++ e
joined l a m b e = simp append_assoc
