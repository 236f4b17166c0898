-- The order of numbers, part by part.
use Rattle.std.proofs.Common.{◌≡◌, ℕ, zero, suc, ◌+◌, ◌*◌, ◌^◌, ◌/◌, ◌%◌, ◌<◌, ◌≤◌, Equal, Greater, refl, sym, ap, ◌∙◌, arith}
use Rattle.std.proofs.Math.Nat.{mod-lt, mul-le-mul_right, add-mul, one-le-pow, pow-succ', div-one}
use Rattle.std.proofs.Math.Arith.{mod-mul}
use Rattle.std.proofs.lemmas.Cmp.{ranked, by_ranked}
use Rattle.std.specs.Ordering.{nat_cmp, ordering_then}
use Rattle.std.specs.Int.{byte_at, bytes_high_first}
use Rattle.std.specs.Cmp.Lexicographic.{slice_cmp}
use Rattle.containers.specs.ShortLists.OrderLaws.{cmp_less}

pub cmp_same : (x y : ℕ) → x ≡ y → nat_cmp x y ≡ Equal
cmp_same x y h = by_ranked _ _ _ (nat_cmp x y) (ranked x y _ refl) (λ e p. absurd (omega arith)) (λ e _. e) (λ e p. absurd (omega arith))

pub cmp_more : (x y : ℕ) → y < x → nat_cmp x y ≡ Greater
cmp_more x y h = by_ranked _ _ _ (nat_cmp x y) (ranked x y _ refl) (λ e p. absurd (omega arith)) (λ e p. absurd (omega arith)) (λ e _. e)

-- numbers that compare alike
pub same_cmp : (x y u v : ℕ) → (x < y → u < v) → (x ≡ y → u ≡ v) → (y < x → v < u) → nat_cmp u v ≡ nat_cmp x y
same_cmp x y u v f g h = by_ranked _ _ _ (nat_cmp x y) (ranked x y _ refl) (λ e p. cmp_less u v (f p) ∙ sym e) (λ e p. cmp_same u v (g p) ∙ sym e) (λ e p. cmp_more u v (h p) ∙ sym e)

pub cmp_at : (x y u v : ℕ) → x ≡ u → y ≡ v → nat_cmp x y ≡ nat_cmp u v
cmp_at x y u v e f = λ i. nat_cmp (e i) (f i)

-- a higher part and a lower part
below_part : (b x y u v : ℕ) → u < b → x < y → x * b + u < y * b + v
below_part b x y u v hu h =
    let up : (x + 1) * b ≤ y * b = mul-le-mul_right b (omega arith) in
    let expand : (x + 1) * b ≡ x * b + 1 * b = add-mul x 1 b in
    omega arith

same_high : (b x y u v : ℕ) → x ≡ y → nat_cmp (x * b + u) (y * b + v) ≡ nat_cmp u v
same_high b x y u v p =
    let same : x * b ≡ y * b = ap (λ z. z * b) p in
    same_cmp u v (x * b + u) (y * b + v) (λ q. omega arith) (λ q. omega arith) (λ q. omega arith)

pub cmp_parts : (b x y u v : ℕ) → u < b → v < b → nat_cmp (x * b + u) (y * b + v) ≡ ordering_then (nat_cmp x y) (nat_cmp u v)
cmp_parts b x y u v hu hv = by_ranked _ _ _ (nat_cmp x y) (ranked x y _ refl)
    (λ e p. cmp_less (x * b + u) (y * b + v) (below_part b x y u v hu p) ∙ ap (λ o. ordering_then o (nat_cmp u v)) (sym e))
    (λ e p. same_high b x y u v p ∙ ap (λ o. ordering_then o (nat_cmp u v)) (sym e))
    (λ e p. cmp_more (x * b + u) (y * b + v) (below_part b y x v u hv p) ∙ ap (λ o. ordering_then o (nat_cmp u v)) (sym e))

-- ---- bytes

byte_at-pow : (k x : ℕ) → byte_at k x ≡ x / 256 ^ k % 256
byte_at-pow zero x = ap (λ (y : ℕ). y % 256) (sym (div-one x))
byte_at-pow (suc k) x = refl

pub byte_small : (k x : ℕ) → byte_at k x < 256
byte_small zero x = mod-lt x (omega arith)
byte_small (suc k) x = mod-lt (x / 256 ^ suc k) (omega arith)

pow_pos256 : (n : ℕ) → zero < 256 ^ n
pow_pos256 n = let h = one-le-pow n 256 (omega arith) in omega arith

pub split_byte : (k x : ℕ) → x % 256 ^ suc k ≡ byte_at k x * 256 ^ k + x % 256 ^ k
split_byte k x = ap (λ (p : ℕ). x % p) (pow-succ' 256 k) ∙ mod-mul x {m = 256} {c = 256 ^ k} (omega arith) (pow_pos256 k)
    ∙ ap (λ (b : ℕ). b * 256 ^ k + x % 256 ^ k) (sym (byte_at-pow k x))

pub cmp_bytes : (k x y : ℕ) → slice_cmp nat_cmp (bytes_high_first k x) (bytes_high_first k y) ≡ nat_cmp (x % 256 ^ k) (y % 256 ^ k)
cmp_bytes zero x y = sym (cmp_same (x % 1) (y % 1) (omega arith))
cmp_bytes (suc k) x y =
    ap (ordering_then (nat_cmp (byte_at k x) (byte_at k y))) (cmp_bytes k x y)
    ∙ sym (cmp_parts (256 ^ k) (byte_at k x) (byte_at k y) (x % 256 ^ k) (y % 256 ^ k) (mod-lt x (pow_pos256 k)) (mod-lt y (pow_pos256 k)))
    ∙ cmp_at (byte_at k x * 256 ^ k + x % 256 ^ k) (byte_at k y * 256 ^ k + y % 256 ^ k) (x % 256 ^ suc k) (y % 256 ^ suc k) (sym (split_byte k x)) (sym (split_byte k y))
