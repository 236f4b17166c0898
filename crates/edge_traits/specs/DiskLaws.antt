-- What holds of each disk in memory.
use Rattle.std.specs.Prelude.{◌≡◌, ℕ, ◌+◌, ◌-◌, ◌≤◌, max, true, List, [], ◌∷◌, ◌++◌, length, take, drop, nat_le}
use Rattle.std.specs.Cmp.{second_so}
use Rattle.std.proofs.Common.{refl, subst, sym, ap, arith, ◌∙◌, append_assoc, length-append, length-drop}
use Rattle.std.proofs.lemmas.Bool.Decides.{nat_tests}
use Rattle.std.proofs.lemmas.List.{take_at, drop_at, take_all, length-take-le}
use Rattle.edge_traits.specs.Disks.{Torn, overwritten}
use Rattle.edge_traits.specs.MemDisks.{Memory, begun, TornBy, IsImage}
use Rattle.edge_traits.specs.DiskCalls.{after, holding, writes_of, all_done, writes_fit, LeftSince, Unsynced}
use Rattle.edge_traits.specs.declared.mem_disk.Call.{Call}
use Rattle.edge_traits.specs.declared.mem_disk.Call.TheVariants.{Wrote, Synced}

-- a write that was done is one way in which it may be torn
pub torn_written : (at : ℕ) (bytes old : List ℕ) → at ≤ length old → Torn at (length bytes) old (overwritten at bytes old)
torn_written at bytes old inside =
    let front : length (take at old) ≡ at = length-take-le at old inside in
    let rest = drop (at + length bytes) old in
    let size : length (take at old ++ bytes ++ rest) ≡ at + length bytes + (length old - (at + length bytes)) =
    length-append (take at old ++ bytes) rest ∙ omega (arith, length-append (take at old) bytes, front, length-drop (at + length bytes) old) in
    record {
      before = ap (take at) (append_assoc (take at old) bytes rest) ∙ take_at (take at old) (bytes ++ rest) at front;
      after = drop_at (take at old ++ bytes) rest (at + length bytes) (length-append (take at old) bytes ∙ omega (arith, front));
      no_shorter = omega (arith, size);
      no_longer = omega (arith, size);
    }

overwritten_length : (at : ℕ) (bytes old : List ℕ) → at ≤ length old → length (overwritten at bytes old) ≡ max (length old) (at + length bytes)
overwritten_length at bytes old inside = length-append (take at old ++ bytes) (drop (at + length bytes) old)
    ∙ omega (arith, length-append (take at old) bytes, length-take-le at old inside, length-drop (at + length bytes) old)

-- writes that were done are writes that may have been torn
all_done_torn : (size : ℕ) (calls : List Call) (old : List ℕ) → length old ≡ size → writes_fit size calls ≡ true → TornBy (writes_of calls) old (all_done (writes_of calls) old)
all_done_torn size [] old is fit = refl
all_done_torn size (Wrote a b ∷ calls) old is fit =
    let inside : a ≤ length old = grind (arith, nat_tests, fit, is) in (
      overwritten a b.items old,
      torn_written a b.items old inside,
      all_done_torn (max size (a + length b.items)) calls (overwritten a b.items old)
          (overwritten_length a b.items old inside ∙ ap (λ (k : ℕ). max k (a + length b.items)) is)
          (second_so (nat_le a size) (writes_fit (max size (a + length b.items)) calls) fit),
    )
all_done_torn size (Synced ∷ calls) old is fit = absurd (cc)

-- so a crash may leave what reads give
pub done_is_torn : (size : ℕ) (since : List Call) (base bytes : List ℕ) → all_done (writes_of since) base ≡ bytes → Unsynced (length base) size since → TornBy (writes_of since) base bytes
done_is_torn size since base bytes done u = subst (TornBy (writes_of since) base) done (all_done_torn (length base) since base refl u.fit)

-- this moment is one of those since an earlier one
pub counts_now : (first bytes base : List ℕ) (calls since : List Call) (t : ℕ) (c : List ℕ) → after (begun first) calls ≡ holding bytes base since
    → t ≤ length calls → IsImage (holding bytes base since) c → LeftSince first calls t c
counts_now first bytes base calls since t c is le image =
    (length calls, le, omega arith, subst (λ (m : Memory). IsImage m c) (sym is ∙ ap (after (begun first)) (sym (take_all (length calls) calls (omega arith)))) image)

-- since this moment there is no other
pub only_now : (first bytes base : List ℕ) (calls since : List Call) (c : List ℕ) → after (begun first) calls ≡ holding bytes base since
    → LeftSince first calls (length calls) c → IsImage (holding bytes base since) c
only_now first bytes base calls since c is left =
    subst (λ (m : Memory). IsImage m c) (ap (after (begun first)) (take_all left.0 calls left.1) ∙ is) left.3
