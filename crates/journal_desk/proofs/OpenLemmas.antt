-- A desk at the opening.
use Rattle.std.proofs.Common.{◌≡◌, inl, ℕ, List, [], Option, Some, None, refl, sym, subst, arith}
use Rattle.edge_traits.specs.declared.disk.Disk.{Ghosts}
use Rattle.flush_journal.specs.Standing.{disk_of, pending_of}
use Rattle.flush_journal.specs.declared.journal.Journal.{Journal}
use Rattle.lane_histories.specs.Services.{World}
use Rattle.lane_histories.specs.Histories.{History}
use Rattle.lane_histories.specs.Legal.{IsLegal}
use Rattle.lane_histories.specs.Desks.{nowhere}
use Rattle.lane_histories.specs.Since.{SaysAll}
use Rattle.lane_histories.proofs.SaidCuts.{said_cuts_tell}
use Rattle.journal_desk.specs.KeptServices.{KeptService}
use Rattle.journal_desk.specs.Desks.{IsDesk, IsOnDisk, Opens, IsSoundDesk, no_history, settled}
use Rattle.journal_desk.proofs.ImageLemmas.{as_far, image_kept}
use Rattle.journal_desk.proofs.OwedLemmas.{owes_none}

module _ (k : KeptService) (start : World k.service) (was : ℕ → k.marking.Marked) {D : Type 0} {met : Ghosts D} (j : Journal D met)
    (idle : pending_of j ≡ None) (all : SaysAll k.marking) (opens : met.honest → Opens k start was j) where
  nothing_legal : IsLegal k.service start (no_history k.service)
  nothing_legal = record { register = tt; lanes = λ l. tt; in_order = λ l. ([], refl); pairs = λ a b place task next x y here there. absurd here }

  on_disk : Opens k start was j → IsOnDisk k start (no_history k.service) was j [] nowhere nowhere
  on_disk o =
      let told = said_cuts_tell k.marking all start (no_history k.service) o.content.held was o.says in
      record {
        desk = record { held = o.content.held; own = nowhere; pending = None; built = o.content.held };
        file = settled o.content o.settled refl refl refl;
        own = refl;
        backed = record {
          keepings = tt;
          held = record {
            world = record { catalogue = k.service.catalogue start.register; objects = start.objects };
            told = record { catalogue = told.catalogue; lanes = told.lanes };
            kept = record {
              k = λ l. 0;
              kept = record {
                order = omega arith;
                catalogue = refl;
                lanes = λ l few. record { few = omega arith; objects = k.service.alike_itself _ _; below = tt; all = tt };
              };
              few = omega arith;
              cut = inl refl;
            };
          };
          cuts = record { c = inl refl; p = inl refl };
          pending = λ x reach is. absurd (never is);
        };
        built = o.says;
      }
    where
      never : {X : Type 0} {x : X} → ◌≡◌ {A = Option X} None (Some x) → ⊥
      never e = cc

  opened_desk : IsDesk k start (no_history k.service) was j [] nowhere nowhere
  opened_desk = record {
    legal = nothing_legal;
    says_all = all;
    cut_cuts = record { c = inl refl; p = inl refl };
    last_lanes = λ number e whole. absurd whole.drawn;
    last_register = refl;
    kept_cuts = record { c = inl refl; p = inl refl };
    far = as_far nowhere;
    keepings = tt;
    on_disk = λ honest. on_disk (opens honest);
  }

  pub opened : (h : History k.service) → h ≡ no_history k.service
      → (met.honest → (c : List ℕ) → met.left_since (disk_of j) (met.moment (disk_of j)) c → met.images (disk_of j) c)
      → IsSoundDesk k start h was h was j [] nowhere nowhere (disk_of j)
  opened h none only_now = subst (λ (g : History k.service). IsSoundDesk k start g was g was j [] nowhere nowhere (disk_of j)) (sym none) (record {
    desk = opened_desk;
    owes = owes_none k start (no_history k.service) was (pending_of j) nowhere idle
        (record { cut = inl refl; last = λ number e whole. absurd whole.drawn }) refl;
    answered = record {
      own = λ honest. (
        omega arith,
        λ image left.
            image_kept k start (no_history k.service) was j [] nowhere nowhere (opened_desk.on_disk honest) image (only_now honest image left),
      );
      each = λ honest i here is. absurd here;
    };
  })
