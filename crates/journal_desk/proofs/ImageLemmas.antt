-- What a crash leaves of a desk's disk, and how long that is kept.
use Rattle.std.proofs.Common.{◌≡◌, inl, inr, ⊎_elim, ℕ, ◌≤◌, List, ◌++◌, append_assoc, Some, None, Ok, refl, ap, sym, ◌∙◌, subst, arith}
use Rattle.edge_traits.specs.declared.disk.Disk.{Ghosts}
use Rattle.flush_journal.specs.Records.{Held, Record, put_all}
use Rattle.flush_journal.specs.Files.{Content, content}
use Rattle.flush_journal.specs.Moments.{CrashLeaves}
use Rattle.flush_journal.specs.Standing.{HasEither, disk_of, pending_of, with_batch}
use Rattle.flush_journal.specs.declared.journal.Journal.{Journal}
use Rattle.flush_journal.proofs.ContentLemmas.{held-content}
use Rattle.flush_journal.proofs.JournalLemmas.{with_batch-held}
use Rattle.lane_histories.specs.Services.{Service, World}
use Rattle.lane_histories.specs.Histories.{History, StartsWith}
use Rattle.lane_histories.specs.declared.items.Reach.{Reach}
use Rattle.lane_histories.specs.Legal.{IsLegal, IsPrefix}
use Rattle.lane_histories.specs.KeptContents.{IsAsFar, IsKeptBatch, TellsKept}
use Rattle.lane_histories.proofs.Growth.{stays_kept}
use Rattle.lane_histories.proofs.Lists.{starts_itself}
use Rattle.journal_desk.specs.KeptServices.{KeptService, contents}
use Rattle.journal_desk.specs.Desks.{IsFileOf, settled, owed, HoldsKept, HoldsAsFar, HoldSince, IsOnDisk}

pub as_far : (own : Reach) → IsAsFar own own
as_far own = record { c = omega arith; p = omega arith }

pub farther : (a b c : Reach) → IsAsFar a b → IsAsFar b c → IsAsFar a c
farther a b c first more = let x = first.c in let y = more.c in let z = first.p in let w = more.p in record { c = omega arith; p = omega arith }

pub prefix_itself : {s : Service} (h : History s) → IsPrefix h h
prefix_itself h = record { register = starts_itself h.register; lane = λ l. starts_itself (h.lane l); keepings = starts_itself h.keepings }

starts_both : {X : Type 0} (xs ys zs : List X) → StartsWith ys xs → StartsWith zs ys → StartsWith zs xs
starts_both xs ys zs first more = (first.0 ++ more.0, more.1 ∙ ap (λ l. l ++ more.0) first.1 ∙ append_assoc xs first.0 more.0)

pub prefix_both : {s : Service} (h m g : History s) → IsPrefix h m → IsPrefix m g → IsPrefix h g
prefix_both h m g first more = record {
  register = starts_both h.register m.register g.register first.register more.register;
  lane = λ l. starts_both (h.lane l) (m.lane l) (g.lane l) (first.lane l) (more.lane l);
  keepings = starts_both h.keepings m.keepings g.keepings first.keepings more.keepings;
}

module _ (k : KeptService) (start : World k.service) where
  holds : (h : History k.service) (own : Reach) (c : Content) (m : Held) (image : List ℕ) → content image ≡ Ok c → m ≡ c.held
      → TellsKept k.service (contents k) start h m own → HoldsKept k start h own image
  holds h own c m image is same b = record { bodies = m; holds = held-content image c is ∙ ap (λ (x : Held). Some x) (sym same); kept = b }

  -- the content of before, or that with the batch
  pub either_kept : (h : History k.service) (own reach : Reach) (c : Content) (rs : List Record)
      → TellsKept k.service (contents k) start h c.held own → IsKeptBatch k.service (contents k) start h own (put_all rs c.held) reach
      → (image : List ℕ) → HasEither c (with_batch c rs) image → HoldsAsFar k start h own image
  either_kept h own reach c rs before batch image (inl is) = record { reach = own; at = holds h own c c.held image is refl before; far = as_far own }
  either_kept h own reach c rs before batch image (inr is) =
      record { reach = reach; at = holds h reach (with_batch c rs) (put_all rs c.held) image is (sym (with_batch-held c rs)) batch.tells; far = batch.far }

  pub longer_image : (h g : History k.service) (own : Reach) (image : List ℕ) → IsLegal k.service start g → IsPrefix h g
      → HoldsAsFar k start h own image → HoldsAsFar k start g own image
  longer_image h g own image legal prefix b = let at = b.at in let kept = at.kept in record {
    reach = b.reach;
    at = record {
      bodies = at.bodies;
      holds = at.holds;
      kept = record { world = kept.world; told = kept.told; kept = stays_kept k.service start h g kept.world b.reach kept.kept legal prefix };
    };
    far = b.far;
  }

  nearer_image : (h : History k.service) (own less : Reach) (image : List ℕ) → IsAsFar less own → HoldsAsFar k start h own image
      → HoldsAsFar k start h less image
  nearer_image h own less image far b = record { reach = b.reach; at = b.at; far = farther less own b.reach far b.far }

  module _ {D : Type 0} {met : Ghosts D} (h : History k.service) (was : ℕ → k.marking.Marked) (j : Journal D met) (building : List Record)
      (cut kept : Reach) (o : IsOnDisk k start h was j building cut kept) where
    pub held_kept : (m : Held) → o.desk.held ≡ m → TellsKept k.service (contents k) start h m kept
    held_kept m is = subst (λ (x : Held × Reach). TellsKept k.service (contents k) start h x.0 x.1) (λ i. (is i, o.own i)) o.backed.held

    pub batch_kept : (m : Held) → o.desk.pending ≡ Some (m, cut) → IsKeptBatch k.service (contents k) start h kept m cut
    batch_kept m is = subst (λ (own : Reach). IsKeptBatch k.service (contents k) start h own m cut) o.own (o.backed.pending m cut is)

    pub image_kept : (image : List ℕ) → met.images (disk_of j) image → HoldsAsFar k start h kept image
    image_kept image left = by o.file where
      by : IsFileOf k j building cut o.desk → HoldsAsFar k start h kept image
      by (settled c st is none built) =
          record { reach = kept; at = holds h kept c c.held image (ap content (st.only image left) ∙ st.file) refl (held_kept c.held is); far = as_far kept }
      by (owed c rs ow is pending built) =
          either_kept h kept cut c rs (held_kept c.held is) (batch_kept (put_all rs c.held) pending) image (ow.each image left)

    pub settled_image : pending_of j ≡ None → (image : List ℕ) → met.images (disk_of j) image → HoldsKept k start h kept image
    settled_image idle image left = by o.file where
      never : (rs : List Record) → pending_of j ≡ Some rs → ⊥
      never rs some = let both : None ≡ Some rs = sym idle ∙ some in cc

      by : IsFileOf k j building cut o.desk → HoldsKept k start h kept image
      by (settled c st is none built) = holds h kept c c.held image (ap content (st.only image left) ∙ st.file) refl (held_kept c.held is)
      by (owed c rs ow is pending built) = absurd (never rs ow.pending)

  module _ {D : Type 0} (met : Ghosts D) (h g : History k.service) (legal : IsLegal k.service start g) (prefix : IsPrefix h g) where
    -- since an earlier moment: what was left before, or what the calls left
    pub lasts_by : (old new : D) (kept : Reach) → CrashLeaves met old new (HoldsAsFar k start g kept) → (moment : ℕ) (own : Reach)
        → moment ≤ met.moment old → IsAsFar own kept → HoldSince met k start h old moment own → HoldSince met k start g new moment own
    lasts_by old new kept leaves moment own le far since image left = ⊎_elim
        (λ was. longer_image h g own image legal prefix (since image was))
        (λ (now : HoldsAsFar k start g kept image). nearer_image g kept own image far now)
        (leaves.before moment image le left)
