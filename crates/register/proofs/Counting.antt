-- Counts of tickets.
use Rattle.std.proofs.Common.{◌≡◌, ◌≢◌, ◌⊎◌, ⊎_elim, ℕ, ◌<◌, ◌^◌, List, length, get_or, sym, subst, arith, get_or-set_other, get_or-set_same}
use Rattle.std.specs.Prelude.{All, slice_index}
use Rattle.std.proofs.Math.ListN.{set, length-set}
use Rattle.std.proofs.lemmas.List.Elements.{All-get_or}
use Rattle.object_ids.specs.IdValues.{Id}
use Rattle.object_ids.specs.Ids.{lane_of}
use Rattle.register.specs.Tickets.{counted}

pub lane_below : (counts : List ℕ) (id : Id) → 0 < length counts → lane_of (length counts) id < length counts
lane_below counts id some = omega arith

pub length-counted : (counts : List ℕ) (id : Id) → length (counted counts id) ≡ length counts
length-counted counts id = length-set counts (lane_of (length counts) id) _

same_or_not : (i j : ℕ) → (j ≡ i) ⊎ (j ≢ i)
same_or_not i j = grind arith

set_room : (xs : List ℕ) (i j x : ℕ) → i < length xs → j < length xs → All (λ n. n < 2 ^ 62) xs → x < 2 ^ 63 → get_or (set xs i x) j 0 < 2 ^ 63
set_room xs i j x within lt all small =
    ⊎_elim
    (λ same. subst (λ k. get_or (set xs i x) k 0 < 2 ^ 63) (sym same) (subst (λ n. n < 2 ^ 63) (sym (get_or-set_same xs i x 0 within)) small))
    (λ far. subst (λ n. n < 2 ^ 63) (sym (get_or-set_other xs i j x 0 far)) (let below : get_or xs j 0 < 2 ^ 62 = All-get_or (λ n. n < 2 ^ 62) xs j 0 lt all in omega arith))
    (same_or_not i j)

-- a lane has room for one ticket more once another ticket was given
pub counted_room : (counts : List ℕ) (id other : Id) → 0 < length counts → All (λ n. n < 2 ^ 62) counts
    → slice_index (counted counts id) (lane_of (length (counted counts id)) other) < 2 ^ 63
counted_room counts id other some room =
    let At : ℕ → Type 0 = λ n. slice_index (counted counts id) (lane_of n other) < 2 ^ 63 in
    let count : slice_index counts (lane_of (length counts) id) < 2 ^ 62 = All-get_or (λ n. n < 2 ^ 62) counts _ 0 (lane_below counts id some) room in
    subst At (sym (length-counted counts id))
    (set_room counts (lane_of (length counts) id) (lane_of (length counts) other) _ (lane_below counts id some) (lane_below counts other some) room (omega arith))
