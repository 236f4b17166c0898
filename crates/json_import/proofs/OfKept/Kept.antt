-- What is kept of an import.
use Rattle.std.proofs.Common.{◌≡◌, ◌⊎◌, inl, inr, ℕ, ◌≤◌, List, [], ◌∷◌, Option, None, Result, Ok, Err, OnOk, sym, ap, subst, ◌∙◌}
use Rattle.service_core.specs.Described.Told.{AreWhole}
use Rattle.json_import.specs.Adoption.Adopted.{IsReadBack}
use Rattle.edge_traits.specs.Causes.{Rose}
use Rattle.edge_traits.specs.declared.disk.Disk.{Ghosts}
use Rattle.flush_journal.specs.Batches.{records}
use Rattle.flush_journal.specs.Files.{Content, content}
use Rattle.flush_journal.specs.Moments.{CrashLeaves, CrashLeavesSince}
use Rattle.flush_journal.specs.Records.{Held, Record, put_record}
use Rattle.flush_journal.specs.Standing.{HoldsEither, IsSettled, disk_of, pending_of, with_batch}
use Rattle.flush_journal.specs.declared.journal.Journal.{Journal}
use Rattle.flush_journal.specs.declared.why.Why.{Why}
use Rattle.flush_journal.proofs.ContentLemmas.{held-content}
use Rattle.flush_journal.proofs.Moments.{joined, weaker}
use Rattle.json_import.specs.declared.adoption.counts.Counts.{Counts}
use Rattle.flush_journal.specs.Keepings.Keepings.{HoldsOne, IsBacked, MayRefuseKeeping, settled, worlds_after}
use Rattle.service_core.specs.Journals.Begun.{IsBegun, IsBegunSince}
use Rattle.service_core.specs.Journals.Opening.{IsOf}
use Rattle.service_core.specs.KeptWorlds.{TellsWorld, HoldsWorld}
use Rattle.service_core.specs.Records.{DescribesWorld, WorldSays, WorldStillSays, as_kept, run_record}
use Rattle.service_core.specs.Steps.{World}
use Rattle.service_core.specs.Worlds.{State, seen}
use Rattle.json_import.specs.Kept.Documents.{adopted}
use Rattle.json_import.specs.Kept.Imports.{BeginsAlone, HasCauseOf, HoldsOneOf, IsImportDiskFault, CameTo, KeepsAdopted}
use Rattle.json_import.specs.Kept.Parts.{IsAdopted, IsAdoptedFrom, CameToFrom, IsKeptFrom, kept_outcome}
use Rattle.json_import.specs.declared.kept.outcome.Outcome.{Outcome}
use Rattle.json_import.specs.declared.kept.outcome.Outcome.TheVariants.{Unopened, Unbegun, Unread, Refused, NoMemory, Unkept, Adopted}

-- ---- a world that is held, whatever of it is to be written

told_kept : (m : Held) (s : State) → DescribesWorld m s.register.run (seen s) → TellsWorld m (as_kept s)
told_kept m s d = record { register = d.register; objects = d.objects; given = d.given; strays = d.strays }

told_seen : (m : Held) (s : State) → TellsWorld m (as_kept s) → TellsWorld m (seen s)
told_seen m s d = record { register = d.register; objects = d.objects; given = d.given; strays = d.strays }

-- ---- by what a keeping was answered

module _ {D : Type 0} {met : Ghosts D} (j : Journal D met) (s : State) (after : D) (path owner : List ℕ) (lb la : Option (List ℕ)) where
  pub from_keeping : (state : State) (counts : Counts) (last : Result ℕ Why) → IsAdopted lb la (seen s) path owner counts (seen state) → WorldStillSays s state → IsKeptFrom j state after last
      → CameToFrom j s after path owner lb la (kept_outcome last counts)
  from_keeping state counts (Ok n) is says kept = (n, record { state = state; adopted = is; says = says; keeps = kept })
  from_keeping state counts (Err why) is says kept = (counts, record { state = state; adopted = is; says = says; keeps = kept })

pub cause_of_keeping : (before now : ℕ) (last : Result ℕ Why) (counts : Counts) → before ≤ now → HasCauseOf before now (kept_outcome last counts)
cause_of_keeping before now (Ok n) counts later = later
cause_of_keeping before now (Err why) counts later = later

pub fault_of_keeping : {D : Type 0} {met : Ghosts D} (j : Journal D met) (s : State) (after : D) (last : Result ℕ Why) (counts : Counts) → IsKeptFrom j s after last → IsImportDiskFault (kept_outcome last counts)
    → Rose (met.faults (disk_of j)) (met.faults after)
fault_of_keeping j s after (Ok n) counts k is = absurd is
fault_of_keeping {D} {met} j s after (Err why) counts k is =
    subst (λ (d : D). Rose (met.faults (disk_of j)) (met.faults d)) (sym k.disk)
    (subst (λ (x : Journal D met). Rose (met.faults (disk_of x)) (met.faults (disk_of k.ended.journal))) k.journal
    (subst (λ (e : Why). MayRefuseKeeping k.begun.journal k.ended.journal e) is k.keeps.keeps.cause))

-- ---- since the disk as it was

module _ {D : Type 0} (met : Ghosts D) (before : D) (j : Journal D met) (s : State) (after : D) (path owner : List ℕ) (lb la : Option (List ℕ))
    (on : met.honest → IsOf (met.reads before) (IsBegunSince met before j s)) (idle : pending_of j ≡ None)
    (holds : (k : Journal D met) (building : List Record) (u : State) (ws : List World) → IsBacked TellsWorld k building (WorldSays u) ws → (image : List ℕ) → met.images (disk_of k) image
    → HoldsOne TellsWorld ws image) where
  abbrev run : Record
  run = run_record s.register

  has_run : (c : Content) → IsBegun j s c → (image : List ℕ) → met.images (disk_of j) image → content image ≡ Ok (with_batch c (run ∷ []))
  has_run c b image left = ap content (b.settled.only image left) ∙ b.settled.file

  -- nothing was kept
  alone : after ≡ disk_of j → BeginsAlone met before after (seen s)
  alone same = record {
    recovered = λ honest. let o = on honest in (o.0, o.1, o.2.begun.recovered);
    only = λ honest. let o = on honest in (o.0, o.1, λ image left. has_run o.0 o.2.begun image (here image left));
    images = λ honest image left. let o = on honest in
        (put_record run o.0.held, held-content image (with_batch o.0 (run ∷ [])) (has_run o.0 o.2.begun image (here image left)), o.2.begun.describes);
    crash = λ honest. let o = on honest in (o.0, o.1, subst (λ (d : D). CrashLeavesSince met before d (HoldsEither o.0.held (put_record run o.0.held))) (sym same) o.2.crash);
  } where
    here : (image : List ℕ) → met.images after image → met.images (disk_of j) image
    here image left = subst (λ (d : D). met.images d image) same left

  -- a document was adopted
  module _ (counts : Counts) (last : Result ℕ Why) (a : IsAdoptedFrom j s after path owner lb la counts last) where
    abbrev k : IsKeptFrom j a.state after last
    k = a.keeps

    abbrev new : World
    new = adopted (seen s) path owner a.adopted.loaded

    backed : (c : Content) → IsBegun j s c → IsBacked TellsWorld k.begun.journal (records k.begun.building) (WorldSays a.state) (as_kept s ∷ [])
    backed c b =
        subst (λ (x : Journal D met). IsBacked TellsWorld x (records k.begun.building) (WorldSays a.state) (as_kept s ∷ [])) (sym k.journal)
        (subst (λ (rs : List Record). IsBacked TellsWorld j rs (WorldSays a.state) (as_kept s ∷ [])) (sym k.building)
        (settled (with_batch c (run ∷ [])) b.settled (inl (told_kept (put_record run c.held) s b.describes)) (a.says (put_record run c.held) b.says)))

    -- it is the world with the document, or the one of before
    is_new : (m : Held) → TellsWorld m (as_kept k.kept) → TellsWorld m new
    is_new m told = subst (TellsWorld m) a.adopted.is (told_seen m a.state (subst (TellsWorld m) k.keeps.same told))

    one_of_two : (file : List ℕ) → HoldsOne TellsWorld (as_kept k.kept ∷ as_kept s ∷ []) file → HoldsWorld (seen s) file ⊎ HoldsWorld new file
    one_of_two file (m, e, inl told) = inr (m, e, is_new m told)
    one_of_two file (m, e, inr (inl told)) = inl (m, e, told_seen m s told)
    one_of_two file (m, e, inr (inr none)) = absurd none

    the_new : (file : List ℕ) → HoldsOne TellsWorld (as_kept k.kept ∷ []) file → HoldsWorld new file
    the_new file (m, e, inl told) = (m, e, is_new m told)
    the_new file (m, e, inr none) = absurd none

    here : (image : List ℕ) → met.images after image → met.images (disk_of k.ended.journal) image
    here image left = subst (λ (d : D). met.images d image) k.disk left

    left_of : met.honest → (image : List ℕ) → met.images after image → HoldsOne TellsWorld (worlds_after (as_kept s ∷ []) (as_kept k.kept) last) image
    left_of honest image left =
        let o = on honest in
        holds k.ended.journal (records k.ended.building) k.kept (worlds_after (as_kept s ∷ []) (as_kept k.kept) last) (k.keeps.keeps.backed honest (as_kept s ∷ []) (backed o.0 o.2.begun)) image (here image left)

    images_of : (r : Result ℕ Why) (image : List ℕ) → HoldsOne TellsWorld (worlds_after (as_kept s ∷ []) (as_kept k.kept) r) image → HoldsWorld (seen s) image ⊎ HoldsWorld new image
    images_of (Ok n) image h = inr (the_new image h)
    images_of (Err why) image h = one_of_two image h

    whole_of : (r : Result ℕ Why) → ((image : List ℕ) → met.images after image → HoldsOne TellsWorld (worlds_after (as_kept s ∷ []) (as_kept k.kept) r) image)
        → OnOk r ((image : List ℕ) → met.images after image → HoldsWorld new image)
    whole_of (Ok n) h = λ image left. the_new image (h image left)
    whole_of (Err why) h = tt

    abbrev IsLeft : Content → List ℕ → Type 0
    IsLeft c file = met.images before file ⊎ HoldsOneOf c.held (seen s) new file

    of_begun : (c : Content) → IsBegun j s c → (file : List ℕ) → met.images before file ⊎ HoldsEither c.held (put_record run c.held) file → IsLeft c file
    of_begun c b file (inl was) = inl was
    of_begun c b file (inr (inl old)) = inr (inl old)
    of_begun c b file (inr (inr now)) = inr (inr (inl (put_record run c.held, now, b.describes)))

    crash_of : met.honest → (c : Content) → IsBegunSince met before j s c → CrashLeavesSince met before after (HoldsOneOf c.held (seen s) new)
    crash_of honest c b = joined met before (disk_of j) after (IsLeft c)
        (weaker met before (disk_of j) (λ file. met.images before file ⊎ HoldsEither c.held (put_record run c.held) file) (IsLeft c) (of_begun c b.begun) b.crash)
        (subst (λ (d : D). CrashLeaves met (disk_of j) d (IsLeft c)) (sym k.disk)
        (subst (λ (x : Journal D met). CrashLeaves met (disk_of x) (disk_of k.ended.journal) (IsLeft c)) k.journal
        (weaker met (disk_of k.begun.journal) (disk_of k.ended.journal) (HoldsOne TellsWorld (as_kept k.kept ∷ as_kept s ∷ [])) (IsLeft c) (λ file one. inr (inr (one_of_two file one)))
        (k.keeps.keeps.crash honest (as_kept s ∷ []) (backed c b.begun)))))

    kept_adopted : KeepsAdopted met before after path owner lb la last
    kept_adopted = record {
      first = seen s;
      recovered = λ honest. let o = on honest in (o.0, o.1, o.2.begun.recovered);
      loaded = a.adopted.loaded;
      accepted = a.adopted.accepted;
      begun = k.begun;
      settled = λ honest. let o = on honest in (o.0, o.1, subst (λ (x : Journal D met). IsSettled x (with_batch o.0 (run ∷ []))) (sym k.journal) o.2.begun.settled);
      begins = record { waits = ap pending_of k.journal ∙ idle; building = k.building; kept = k.none_kept };
      state = a.state;
      is_adopted = a.adopted.is;
      objects = subst (λ (w : World). AreWhole w.objects) a.adopted.is k.objects;
      document = subst (λ (w : World). IsReadBack s.register a.adopted.loaded w path) a.adopted.is a.adopted.document;
      ended = k.ended;
      kept = k.kept;
      last_keeping = k.keeps;
      disk = k.disk;
      images = λ honest image left. images_of last image (left_of honest image left);
      whole = λ honest. whole_of last (left_of honest);
      crash = λ honest. let o = on honest in (o.0, o.1, crash_of honest o.0 o.2);
    }

  pub came_to_from : (o : Outcome) → CameToFrom j s after path owner lb la o → CameTo met before after path owner lb la o
  unfolding kept_adopted
  came_to_from (Unopened why) h = absurd h
  came_to_from (Unbegun why) h = absurd h
  came_to_from Unread h = (seen s, alone h.0, h.1)
  came_to_from Refused h = (seen s, alone h.0, h.1)
  came_to_from NoMemory h = (seen s, alone h.0, h.1)
  came_to_from (Unkept why) h = kept_adopted h.0 (Err why) h.1
  came_to_from (Adopted counts) h = (h.0, kept_adopted counts (Ok h.0) h.1, h.1.adopted.counts_are)
