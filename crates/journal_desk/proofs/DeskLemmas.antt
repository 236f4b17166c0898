-- How a desk goes on: a settle, an append, and lists that grow.
use Rattle.std.proofs.Common.{◌≡◌, ◌≢◌, ◌⊎◌, ⊎_elim, ℕ, ◌≤◌, true, false, List, [], Option, Some, None, Result, Ok, Err, refl, ap, sym, ◌∙◌, subst}
use Rattle.std.specs.List.{AllByRecursion}
use Rattle.edge_traits.specs.declared.disk.Disk.{Ghosts}
use Rattle.flush_journal.specs.Records.{Held, Record, put_all}
use Rattle.flush_journal.specs.Files.{Content}
use Rattle.flush_journal.specs.Moments.{CrashLeaves}
use Rattle.flush_journal.specs.Standing.{HasEither, IsOwed, IsSettled, disk_of, pending_of, with_batch}
use Rattle.flush_journal.specs.Tries.{Writes}
use Rattle.flush_journal.specs.declared.journal.Journal.{Journal}
use Rattle.flush_journal.specs.declared.why.Why.{Why}
use Rattle.flush_journal.proofs.JournalLemmas.{with_batch-held}
use Rattle.flush_journal.proofs.Moments.{weaker}
use Rattle.lane_histories.specs.Services.{World}
use Rattle.lane_histories.specs.Histories.{History}
use Rattle.lane_histories.specs.declared.items.Keeping.{Keeping}
use Rattle.lane_histories.specs.declared.items.Reach.{Reach}
use Rattle.lane_histories.specs.Legal.{IsLegal, IsPrefix}
use Rattle.lane_histories.specs.Cuts.{IsOfCuts, IsWholeCut, last_cut, register_cut}
use Rattle.lane_histories.specs.KeptContents.{IsAsFar, IsKeptBatch}
use Rattle.lane_histories.specs.Desks.{IsKeptDesk, appended}
use Rattle.lane_histories.specs.Since.{SaysCuts}
use Rattle.lane_histories.proofs.Lists.{all_weaker}
use Rattle.lane_histories.proofs.DeskEvents.{batch_on_desk}
use Rattle.lane_histories.proofs.SaidCuts.{said_cuts_tell}
use Rattle.lane_histories.proofs.Sound.{cuts_longer, desk_longer, desk_rebuilt}
use Rattle.lane_histories.proofs.ToldCuts.{cut_pairs_are_kept}
use Rattle.journal_desk.specs.KeptServices.{KeptService, contents}
use Rattle.journal_desk.specs.Desks.{IsDesk, IsFileOf, settled, owed, HoldsAsFar, IsOnDisk}
use Rattle.journal_desk.proofs.ImageLemmas.{as_far, batch_kept, either_kept, farther, held_kept}

none_some : {X : Type 0} (o : Option X) (x : X) → o ≡ None → o ≡ Some x → ⊥
none_some {X} o x none some = let both : ◌≡◌ {A = Option X} None (Some x) = sym none ∙ some in cc

-- what is pending, where something is
pub is_pending : {D : Type 0} {met : Ghosts D} (j : Journal D met) → pending_of j ≢ None → (rs : List Record) × (pending_of j ≡ Some rs)
is_pending j some = by (pending_of j) refl where
  by : (p : Option (List Record)) → pending_of j ≡ p → (rs : List Record) × (pending_of j ≡ Some rs)
  by None is = absurd (some is)
  by (Some rs) is = (rs, is)

farther_keepings : (keepings : List Keeping) (kept cut : Reach) → IsAsFar kept cut → AllByRecursion (λ i. IsAsFar i.own kept) keepings
    → AllByRecursion (λ i. IsAsFar i.own cut) keepings
farther_keepings keepings kept cut far all = all_weaker _ _ keepings (λ (i : Keeping) f. farther i.own kept cut f far) all

module _ (k : KeptService) (start : World k.service) (h : History k.service) (was : ℕ → k.marking.Marked) {D : Type 0} {met : Ghosts D} where
  -- ---- what is pending is written, or not

  module _ (old new : Journal D met) (building : List Record) (cut kept : Reach) (inv : IsDesk k start h was old building cut kept)
      (ps : List Record) (pending : pending_of old ≡ Some ps) where
    pub settle_ok : (met.honest → (c : Content) (rs : List Record) → IsOwed old c rs → Writes old new c rs (Ok tt))
        → IsDesk k start h was new building cut cut
    settle_ok writes = record {
      legal = inv.legal;
      says_all = inv.says_all;
      cut_cuts = inv.cut_cuts;
      last_lanes = inv.last_lanes;
      last_register = inv.last_register;
      kept_cuts = inv.cut_cuts;
      far = as_far cut;
      keepings = farther_keepings h.keepings kept cut inv.far inv.keepings;
      on_disk = λ honest. by honest (inv.on_disk honest) (inv.on_disk honest).file;
    }
      where
        by : met.honest → (o : IsOnDisk k start h was old building cut kept) → IsFileOf k old building cut o.desk → IsOnDisk k start h was new building cut cut
        by honest o (settled c st is none built) = absurd (none_some (pending_of old) ps st.idle pending)
        by honest o (owed c rs ow is batch built) =
            let batch_of = o.backed.pending (put_all rs c.held) cut batch in
            let same : (with_batch c rs).held ≡ put_all rs c.held = with_batch-held c rs in
            record {
              desk = appended true (put_all rs c.held, cut) o.desk;
              file = settled (with_batch c rs) (writes honest c rs ow).ok (sym same) refl (built ∙ ap (put_all building) (sym same));
              own = refl;
              backed = batch_on_desk k.service (contents k) start h o.desk true (put_all rs c.held, cut) o.backed batch_of;
              built = o.built;
            }

    pub settle_err : (why : Why) → (met.honest → (c : Content) (rs : List Record) → IsOwed old c rs → Writes old new c rs (Err why))
        → IsDesk k start h was new building cut kept
    settle_err why writes = record {
      legal = inv.legal;
      says_all = inv.says_all;
      cut_cuts = inv.cut_cuts;
      last_lanes = inv.last_lanes;
      last_register = inv.last_register;
      kept_cuts = inv.kept_cuts;
      far = inv.far;
      keepings = inv.keepings;
      on_disk = λ honest. by honest (inv.on_disk honest) (inv.on_disk honest).file;
    }
      where
        by : met.honest → (o : IsOnDisk k start h was old building cut kept) → IsFileOf k old building cut o.desk → IsOnDisk k start h was new building cut kept
        by honest o (settled c st is none built) = absurd (none_some (pending_of old) ps st.idle pending)
        by honest o (owed c rs ow is batch built) =
            record { desk = o.desk; file = owed c rs (writes honest c rs ow).err is batch built; own = o.own; backed = o.backed; built = o.built }

    pub settle_leaves : (r : Result (Unit {0}) Why) → (met.honest → (c : Content) (rs : List Record) → IsOwed old c rs → Writes old new c rs r)
        → met.honest → CrashLeaves met (disk_of old) (disk_of new) (HoldsAsFar k start h kept)
    settle_leaves r writes honest = by (inv.on_disk honest) (inv.on_disk honest).file
      where
        by : (o : IsOnDisk k start h was old building cut kept) → IsFileOf k old building cut o.desk
            → CrashLeaves met (disk_of old) (disk_of new) (HoldsAsFar k start h kept)
        by o (settled c st is none built) = absurd (none_some (pending_of old) ps st.idle pending)
        by o (owed c rs ow is batch built) = weaker met (disk_of old) (disk_of new) (HasEither c (with_batch c rs)) (HoldsAsFar k start h kept)
            (either_kept k start h kept cut c rs (held_kept k start h was old building cut kept o c.held is)
            (batch_kept k start h was old building cut kept o (put_all rs c.held) batch))
            (writes honest c rs ow).moments

  -- ---- what was cut is appended, or not

  module _ (old new : Journal D met) (building : List Record) (cut kept : Reach) (inv : IsDesk k start h was old building cut kept)
      (idle : pending_of old ≡ None) (register : last_cut None h.register ≡ Some cut.p) where
    -- the batch of all that was cut
    module _ (o : IsOnDisk k start h was old building cut kept) where
      batch : IsKeptBatch k.service (contents k) start h o.desk.own o.desk.built cut
      batch = record {
        tells = cut_pairs_are_kept k.service (contents k) start h o.desk.built cut inv.legal
            (said_cuts_tell k.marking inv.says_all start h o.desk.built was o.built) inv.cut_cuts.c register;
        cuts = inv.cut_cuts;
        far = subst (λ (own : Reach). IsAsFar own cut) (sym o.own) inv.far;
      }

    pub append_ok : (met.honest → (c : Content) → IsSettled old c → Writes old new c building (Ok tt)) → IsDesk k start h was new [] cut cut
    append_ok writes = record {
      legal = inv.legal;
      says_all = inv.says_all;
      cut_cuts = inv.cut_cuts;
      last_lanes = inv.last_lanes;
      last_register = inv.last_register;
      kept_cuts = inv.cut_cuts;
      far = as_far cut;
      keepings = farther_keepings h.keepings kept cut inv.far inv.keepings;
      on_disk = λ honest. by honest (inv.on_disk honest) (inv.on_disk honest).file;
    }
      where
        by : met.honest → (o : IsOnDisk k start h was old building cut kept) → IsFileOf k old building cut o.desk → IsOnDisk k start h was new [] cut cut
        by honest o (owed c rs ow is pending built) = absurd (none_some (pending_of old) rs idle ow.pending)
        by honest o (settled c st is none built) =
            let same : (with_batch c building).held ≡ put_all building c.held = with_batch-held c building in
            record {
              desk = appended true (o.desk.built, cut) o.desk;
              file = settled (with_batch c building) (writes honest c st).ok (built ∙ sym same) refl (built ∙ sym same);
              own = refl;
              backed = batch_on_desk k.service (contents k) start h o.desk true (o.desk.built, cut) o.backed (batch o);
              built = o.built;
            }

    pub append_err : (why : Why) → (met.honest → (c : Content) → IsSettled old c → Writes old new c building (Err why))
        → IsDesk k start h was new [] cut kept
    append_err why writes = record {
      legal = inv.legal;
      says_all = inv.says_all;
      cut_cuts = inv.cut_cuts;
      last_lanes = inv.last_lanes;
      last_register = inv.last_register;
      kept_cuts = inv.kept_cuts;
      far = inv.far;
      keepings = inv.keepings;
      on_disk = λ honest. by honest (inv.on_disk honest) (inv.on_disk honest).file;
    }
      where
        by : met.honest → (o : IsOnDisk k start h was old building cut kept) → IsFileOf k old building cut o.desk → IsOnDisk k start h was new [] cut kept
        by honest o (owed c rs ow is pending built) = absurd (none_some (pending_of old) rs idle ow.pending)
        by honest o (settled c st is none built) = record {
          desk = appended false (o.desk.built, cut) o.desk;
          file = owed c building (writes honest c st).err is (ap (λ (x : Held). Some (x, cut)) built) built;
          own = o.own;
          backed = batch_on_desk k.service (contents k) start h o.desk false (o.desk.built, cut) o.backed (batch o);
          built = o.built;
        }

    pub append_leaves : (r : Result (Unit {0}) Why) → (met.honest → (c : Content) → IsSettled old c → Writes old new c building r) → met.honest
        → CrashLeaves met (disk_of old) (disk_of new) (HoldsAsFar k start h kept)
    append_leaves r writes honest = by (inv.on_disk honest) (inv.on_disk honest).file
      where
        by : (o : IsOnDisk k start h was old building cut kept) → IsFileOf k old building cut o.desk
            → CrashLeaves met (disk_of old) (disk_of new) (HoldsAsFar k start h kept)
        by o (owed c rs ow is pending built) = absurd (none_some (pending_of old) rs idle ow.pending)
        by o (settled c st is none built) = weaker met (disk_of old) (disk_of new) (HasEither c (with_batch c building)) (HoldsAsFar k start h kept)
            (either_kept k start h kept cut c building (held_kept k start h was old building cut kept o c.held is)
            (subst (λ (x : Held × Reach). IsKeptBatch k.service (contents k) start h x.1 x.0 cut) (λ i. (built i, o.own i)) (batch o)))
            (writes honest c st).moments

-- ---- the note grows

module _ (k : KeptService) (start : World k.service) (h g : History k.service) (was later : ℕ → k.marking.Marked) {D : Type 0} {met : Ghosts D}
    (legal : IsLegal k.service start g) (prefix : IsPrefix h g) where
  -- what is building may grow too, and the cuts may reach farther where nothing is pending
  pub grown_desk : (j : Journal D met) (building built : List Record) (cut now kept : Reach) → IsDesk k start h was j building cut kept
      → AllByRecursion (λ i. IsAsFar i.own kept) g.keepings
      → ((x : Held) → SaysCuts k.marking start h (put_all building x) was → SaysCuts k.marking start g (put_all built x) later)
      → IsOfCuts k.service g now → ((number e : ℕ) → IsWholeCut k.service g number e → e ≤ now.c) → now.p ≡ register_cut g.register
      → IsAsFar kept now → (cut ≡ now) ⊎ (pending_of j ≡ None) → IsDesk k start g later j built now kept
  grown_desk j building built cut now kept inv keepings builds cuts lanes register far same = record {
    legal = legal;
    says_all = inv.says_all;
    cut_cuts = cuts;
    last_lanes = lanes;
    last_register = register;
    kept_cuts = cuts_longer k.service (contents k) start h g legal prefix kept inv.kept_cuts;
    far = far;
    keepings = keepings;
    on_disk = λ honest. by (inv.on_disk honest) (inv.on_disk honest).file;
  }
    where
      backed : (o : IsOnDisk k start h was j building cut kept) (x : Held) → IsKeptDesk k.service (contents k) start g (record o.desk { built = x })
      backed o x = desk_rebuilt k.service (contents k) start g o.desk x
          (desk_longer k.service (contents k) start h g legal prefix o.desk
          (subst (λ (own : Reach). AllByRecursion (λ i. IsAsFar i.own own) g.keepings) (sym o.own) keepings) o.backed)

      built_on : (o : IsOnDisk k start h was j building cut kept) (base : Held) → o.desk.built ≡ put_all building base
          → SaysCuts k.marking start g (put_all built base) later
      built_on o base is = builds base (subst (λ (x : Held). SaysCuts k.marking start h x was) is o.built)

      by : (o : IsOnDisk k start h was j building cut kept) → IsFileOf k j building cut o.desk → IsOnDisk k start g later j built now kept
      by o (settled c st is none before) = record {
        desk = record o.desk { built = put_all built c.held };
        file = settled c st is none refl;
        own = o.own;
        backed = backed o (put_all built c.held);
        built = built_on o c.held before;
      }
      by o (owed c rs ow is batch before) = record {
        desk = record o.desk { built = put_all built (put_all rs c.held) };
        file = owed c rs ow is (batch ∙ ⊎_elim (λ (e : cut ≡ now). ap (λ (r : Reach). Some (put_all rs c.held, r)) e)
            (λ none. absurd (none_some (pending_of j) rs none ow.pending)) same) refl;
        own = o.own;
        backed = backed o (put_all built (put_all rs c.held));
        built = built_on o (put_all rs c.held) before;
      }
