-- What one call after another leaves as it was.
use Rattle.std.proofs.Common.{◌≡◌, ℕ, ◌≤◌, List, ⊎_elim, refl, ◌∙◌, arith}
use Rattle.edge_traits.specs.declared.disk.Disk.{Ghosts}
use Rattle.edge_traits.specs.Disks.{Elapses, LeavesNoMore}
use Rattle.flush_journal.specs.Readers.{GoesOn}
use Rattle.flush_journal.specs.Unchanged.{SameDisk, SameBytes}
use Rattle.flush_journal.specs.declared.reader.Reader.{Reader}

module _ {D : Type 0} (met : Ghosts D) where
  -- no call
  pub same_here : (disk : D) → SameDisk met disk disk
  same_here disk = record { most = refl; beside = refl; faults = omega arith; stopped = λ h. h; goes_on = λ h. omega arith; around = λ h t o le left. left }

  pub bytes_here : (disk : D) → SameBytes met disk disk
  bytes_here disk = record { reads = refl; images = λ i left. left; later = omega arith; since = λ t le i left. left }

  -- two calls
  pub same_both : (old mid new : D) → SameDisk met old mid → SameDisk met mid new → SameDisk met old new
  same_both old mid new first then_ = record {
    most = then_.most ∙ first.most;
    beside = then_.beside ∙ first.beside;
    faults = omega (arith, first.faults, then_.faults);
    stopped = λ h. then_.stopped (first.stopped h);
    goes_on = λ h. omega (arith, first.goes_on h, then_.goes_on h);
    around = λ h t o le left. first.around h t o le (then_.around h t o (omega (arith, le, first.goes_on h)) left);
  }

  pub bytes_both : (old mid new : D) → SameBytes met old mid → SameBytes met mid new → SameBytes met old new
  bytes_both old mid new first then_ = record {
    reads = then_.reads ∙ first.reads;
    images = λ i left. first.images i (then_.images i left);
    later = omega (arith, first.later, then_.later);
    since = λ t le i left. first.since t le i (then_.since t (omega (arith, le, first.later)) i left);
  }

  -- a call that writes nothing
  pub bytes_call : ((disk : D) (t : ℕ) (c : List ℕ) → met.honest → t ≤ met.moment disk → met.images disk c → met.left_since disk t c) → (old new : D) → met.honest
      → met.reads new ≡ met.reads old → LeavesNoMore (met.images old) (met.images new)
      → Elapses (met.moment old) (met.moment new) (met.left_since old) (met.left_since new) (met.images new) → SameBytes met old new
  bytes_call counts_now old new told reads images time = record {
    reads = reads;
    images = images;
    later = time.later;
    since = λ t le i left. ⊎_elim (λ was. was) (λ now. counts_now old t i told le (images i now)) (time.nothing_else t i le left);
  }

module _ {D : Type 0} {met : Ghosts D} where
  pub goes_on_here : (r : Reader D met) → GoesOn r r
  goes_on_here r = record { end = refl; same = same_here met r.disk; bytes = λ h. bytes_here met r.disk }

  pub goes_on_both : (old mid new : Reader D met) → GoesOn old mid → GoesOn mid new → GoesOn old new
  goes_on_both old mid new first then_ = record {
    end = then_.end ∙ first.end;
    same = same_both met old.disk mid.disk new.disk first.same then_.same;
    bytes = λ h. bytes_both met old.disk mid.disk new.disk (first.bytes h) (then_.bytes h);
  }
