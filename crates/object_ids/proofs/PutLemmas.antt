-- How many names a map has after a change.
use Rattle.std.proofs.Common.{◌≡◌, ◌<◌, ◌≤◌, ℕ, ◌+◌, ◌-◌, List, true, false, cond, arith}
use Rattle.std.specs.FinMap.{FinMap, insert, remove, len, contains_key, len-insert, len-remove}
use Rattle.std.specs.Cmp.Lexicographic.{nat_list_cmp_total}
use Rattle.containers.specs.TextMaps.Keyed.{text_order}

module _ {X : Type 0} where
  pub insert_most : (most : ℕ) (m : FinMap text_order X) (k : List ℕ) (v : X) → len m < most → len (insert m k v) ≤ most
  insert_most most m k v few =
      rw (len-insert nat_list_cmp_total m k v) (elim (contains_key m k) as (λ b. cond b (len m) (len m + 1) ≤ most) [ true ↦ omega arith | false ↦ omega arith ])

  pub remove_most : (most : ℕ) (m : FinMap text_order X) (k : List ℕ) → len m ≤ most → len (remove m k) ≤ most
  remove_most most m k few =
      rw (len-remove nat_list_cmp_total m k) (elim (contains_key m k) as (λ b. cond b (len m - 1) (len m) ≤ most) [ true ↦ omega arith | false ↦ omega arith ])
