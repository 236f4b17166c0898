-- Calls that touch no more than a disk's first bytes, one after another.
use Rattle.std.proofs.Common.{◌≡◌, inl, inr, ⊎_elim, ℕ, List, length, Result, Ok, Err, OnOk, OnErr, refl, sym, ◌∙◌, subst, arith}
use Rattle.edge_traits.specs.declared.disk.Disk.{Ghosts}
use Rattle.edge_traits.specs.Disks.{Torn, Written, After, Follows, ElapsesBy}
use Rattle.edge_traits.specs.DiskLaws.{torn_written}
use Rattle.flush_journal.specs.Unchanged.{SameBytes, TornFront}

torn_same : (n : ℕ) (old new : List ℕ) → new ≡ old → Torn 0 n old new
torn_same n old new is = subst (Torn 0 n old) (sym is) (record { before = refl; after = refl; no_shorter = omega arith; no_longer = omega arith })

torn_twice : (n : ℕ) (old mid new : List ℕ) → Torn 0 n old mid → Torn 0 n mid new → Torn 0 n old new
torn_twice n old mid new first then_ = record {
  before = refl;
  after = then_.after ∙ first.after;
  no_shorter = omega (arith, first.no_shorter, then_.no_shorter);
  no_longer = omega (arith, first.no_longer, then_.no_longer);
}

torn_either : {T E : Type 0} (r : Result T E) (bytes old new : List ℕ) → OnOk r (Written 0 bytes old new) → OnErr r (Torn 0 (length bytes) old new) → Torn 0 (length bytes) old new
torn_either (Ok x) bytes old new done torn = subst (Torn 0 (length bytes) old) (sym done) (torn_written 0 bytes old (omega arith))
torn_either (Err e) bytes old new done torn = torn

module _ {D : Type 0} (met : Ghosts D) (n : ℕ) where
  -- calls that leave the bytes as they were
  pub front_same : (old new : D) → SameBytes met old new → TornFront met n old new
  front_same old new same = record {
    reads = torn_same n (met.reads old) (met.reads new) same.reads;
    images = λ c left. (c, same.images c left, torn_same n c c refl);
    later = same.later;
    since = λ t c le left. inl (same.since t le c left);
  }

  -- two calls
  pub front_both : (old mid new : D) → TornFront met n old mid → TornFront met n mid new → TornFront met n old new
  front_both old mid new first then_ =
      let twice : (c : List ℕ) → After (Torn 0 n) (met.images mid) c → After (Torn 0 n) (met.images old) c =
      λ c a. let b = first.images a.0 a.1 in (b.0, b.1, torn_twice n b.0 a.0 c b.2 a.2) in
      record {
        reads = torn_twice n (met.reads old) (met.reads mid) (met.reads new) first.reads then_.reads;
        images = λ c left. twice c (then_.images c left);
        later = omega (arith, first.later, then_.later);
        since = λ t c le left. ⊎_elim (first.since t c le) (λ a. inr (twice c a)) (then_.since t c (omega (arith, le, first.later)) left);
      }

-- a write of some bytes there
pub front_written : {D T E : Type 0} (met : Ghosts D) (old new : D) (bytes : List ℕ) (r : Result T E)
    → OnOk r (Written 0 bytes (met.reads old) (met.reads new)) → OnErr r (Torn 0 (length bytes) (met.reads old) (met.reads new))
    → Follows (Torn 0 (length bytes)) (met.images old) (met.images new)
    → ElapsesBy (Torn 0 (length bytes)) (met.moment old) (met.moment new) (met.left_since old) (met.left_since new) (met.images old) → TornFront met (length bytes) old new
front_written met old new bytes r done torn images time = record {
  reads = torn_either r bytes (met.reads old) (met.reads new) done torn;
  images = images;
  later = time.later;
  since = time.nothing_else;
}
