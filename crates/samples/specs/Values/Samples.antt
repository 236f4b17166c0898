-- The sample of a number: the elements of its dataset of 1000 rows and 1000 columns, the sums of ten slabs of it, and the lines that tell them.
--     slab_sum n a      the sum over [a:a+100,0:1000:7], modulo 2^64
use Rattle.std.specs.Prelude.{ℕ, zero, suc, ◌+◌, ◌*◌, ◌/◌, ◌%◌, ◌^◌, List, [], ◌∷◌, ◌++◌, codes, decimal}
use Rattle.std.specs.List.{flat_map, range_with_len, sum_by}

-- ---- the generator

unfoldable pub next_state : ℕ → ℕ
next_state x = (x * 6364136223846793005 + 1442695040888963407) % 2 ^ 64

unfoldable pub state : ℕ → ℕ → ℕ
state n zero = n
state n (suc k) = next_state (state n k)

-- the element at the linear index k, in row-major order
unfoldable pub element : ℕ → ℕ → ℕ
element n k = state n k / 2 ^ 33

-- ---- sums

-- the columns 0, 7, up to 994 of a row
unfoldable pub row_sum : ℕ → ℕ → ℕ
row_sum n row = sum_by (λ j. element n (row * 1000 + 7 * j)) (range_with_len 0 143)

-- the rows a to a + 99
unfoldable pub slab_sum : ℕ → ℕ → ℕ
slab_sum n a = sum_by (row_sum n) (range_with_len a 100) % 2 ^ 64

-- the slabs begin at the rows 0, 100, up to 900
unfoldable pub total : ℕ → ℕ
total n = sum_by (λ i. slab_sum n (100 * i)) (range_with_len 0 10) % 2 ^ 64

-- ---- lines

abbrev pub slab_line : ℕ → ℕ → List ℕ
slab_line a sum = codes "slab " ++ decimal a ++ codes " count 14300 sum " ++ decimal sum ++ 10 ∷ []

abbrev pub total_line : ℕ → List ℕ
total_line sum = codes "total count 143000 sum " ++ decimal sum ++ 10 ∷ []

-- the ten slabs, and then the total
unfoldable pub sample_text : ℕ → List ℕ
sample_text n = flat_map (λ i. slab_line (100 * i) (slab_sum n (100 * i))) (range_with_len 0 10) ++ total_line (total n)
