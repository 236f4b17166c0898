-- How a run of disk calls goes on.
use Rattle.std.proofs.Common.{inl, inr, ⊎_elim, ℕ, List, arith}
use Rattle.edge_traits.specs.declared.disk.Disk.{Ghosts}
use Rattle.edge_traits.specs.Disks.{Elapses, LeavesNoMore}
use Rattle.flush_journal.specs.Moments.{CrashLeaves}

module _ {D : Type 0} (met : Ghosts D) where
  -- one call, before which a crash leaves what has P, and after which too
  pub one_call : (old new : D) (P images : List ℕ → Type 0) → ((c : List ℕ) → met.left_since old (met.moment old) c → P c)
      → Elapses (met.moment old) (met.moment new) (met.left_since old) (met.left_since new) images → ((c : List ℕ) → images c → P c) → CrashLeaves met old new P
  one_call old new P images here time after = record {
    later = time.later;
    each = λ c left. ⊎_elim (here c) (after c) (time.nothing_else (met.moment old) c (omega arith) left);
    before = λ t c le left. ⊎_elim (λ was. inl was) (λ now. inr (after c now)) (time.nothing_else t c le left);
  }

  -- a call after which a crash leaves no more than before
  pub quiet_call : (old new : D) (P images_old images_new : List ℕ → Type 0) → ((c : List ℕ) → met.left_since old (met.moment old) c → images_old c) → ((c : List ℕ) → images_old c → P c)
      → Elapses (met.moment old) (met.moment new) (met.left_since old) (met.left_since new) images_new → LeavesNoMore images_old images_new → CrashLeaves met old new P
  quiet_call old new P images_old images_new only_now has time fewer = one_call old new P images_new (λ c left. has c (only_now c left)) time (λ c left. has c (fewer c left))

  -- no call
  pub no_call : (old : D) (P : List ℕ → Type 0) → ((c : List ℕ) → met.left_since old (met.moment old) c → P c) → CrashLeaves met old old P
  no_call old P here = record { later = omega arith; each = here; before = λ t c le left. inl left }

  -- one run and then another
  pub joined : (old mid new : D) (P : List ℕ → Type 0) → CrashLeaves met old mid P → CrashLeaves met mid new P → CrashLeaves met old new P
  joined old mid new P first then_ = record {
    later = omega (arith, first.later, then_.later);
    each = λ c left. ⊎_elim (first.each c) (λ p. p) (then_.before (met.moment old) c first.later left);
    before = λ t c le left. ⊎_elim (first.before t c le) (λ p. inr p) (then_.before t c (omega (arith, le, first.later)) left);
  }

  pub weaker : (old new : D) (P Q : List ℕ → Type 0) → ((c : List ℕ) → P c → Q c) → CrashLeaves met old new P → CrashLeaves met old new Q
  weaker old new P Q f l = record {
    later = l.later;
    each = λ c left. f c (l.each c left);
    before = λ t c le left. ⊎_elim (λ was. inl was) (λ p. inr (f c p)) (l.before t c le left);
  }
