-- What is kept at the end of a session.
use Rattle.std.proofs.Common.{◌≡◌, inl, inr, ℕ, ◌≤◌, List, [], ◌∷◌, Some, Result, Ok, Err, OnOk, sym, ap, subst, ◌∙◌, arith}
use Rattle.std.specs.List.{AllByRecursion}
use Rattle.edge_traits.specs.Causes.{Rose}
use Rattle.edge_traits.specs.declared.disk.Disk.{Ghosts}
use Rattle.flush_journal.specs.Batches.{records}
use Rattle.flush_journal.specs.Files.{held}
use Rattle.flush_journal.specs.Moments.{CrashLeaves}
use Rattle.flush_journal.specs.Records.{Held}
use Rattle.flush_journal.specs.Standing.{disk_of, numbers_of, pending_of}
use Rattle.flush_journal.specs.declared.why.Why.{Why}
use Rattle.flush_journal.specs.declared.why.Why.TheVariants.{DiskFault}
use Rattle.flush_journal.proofs.Moments.{joined, weaker}
use Rattle.flush_journal.specs.Keepings.Keepings.{HoldsOne, IsBacked, MayRefuseKeeping, TellsOne, worlds_after}
use Rattle.flush_journal.specs.declared.keepings.keeping.Keeping.{Keeping}
use Rattle.service_core.specs.Records.{IsCutRecord, WorldSays, as_kept}
use Rattle.service_core.specs.Steps.{World}
use Rattle.service_core.specs.Worlds.{State}
use Rattle.rest_session.specs.Sessions.{Served}
use Rattle.service_core.specs.KeptWorlds.{KeepsWorld, TellsWorld, HoldsWorld}
use Rattle.rest_session.specs.Stood.{AreOfStood, HoldsStood, IsBackedByStood, IsOfStood, StoodSince}
use Rattle.flush_journal.proofs.OfKeepings.Backing.{none_some}
use Rattle.rest_session.proofs.WaitingRecords.{AllWaiting, all_built}

why_is : (why : Why) → ◌≡◌ {A = Result ℕ Why} (Err why) (Err DiskFault) → why ≡ DiskFault
why_is why e = cc

-- once fewer requests were decided
earlier : {D : Type 0} {met : Ghosts D} (s t : Served met) (taken sent : List ℕ) (least kept : ℕ) (w : World) → least ≤ kept → StoodSince s t taken sent kept w → StoodSince s t taken sent least w
earlier s t taken sent least kept w le h = record {
  at = h.at;
  before = h.before;
  after = h.after;
  read = h.read;
  answers = h.answers;
  later_answers = h.later_answers;
  written = h.written;
  reaches = h.reaches;
  follows = h.follows;
  shown = h.shown;
  late = omega (arith, le, h.late);
}

-- a keeping of a world
module _ {D : Type 0} {met : Ghosts D} (k l : Keeping D met) (s t : State) (last : Result ℕ Why) (keeps : KeepsWorld k s l t last) where
  pub places : s.register.places ≡ t.register.places
  places = ap (λ (x : World). x.register.places) (sym keeps.same)

  -- after Ok all is kept
  pub all_kept_then : (front : ℕ) → front ≡ t.register.places → OnOk last (l.kept ≡ front)
  all_kept_then front is = by last keeps where
    by : (r : Result ℕ Why) → KeepsWorld k s l t r → OnOk r (l.kept ≡ front)
    by (Ok n) h = h.kept ∙ h.number ∙ sym is
    by (Err e) h = tt

  -- a fault of the disk was counted
  pub fault_counted : last ≡ Err DiskFault → Rose (met.faults (disk_of k.journal)) (met.faults (disk_of l.journal))
  fault_counted is = by last is keeps where
    by : (r : Result ℕ Why) → r ≡ Err DiskFault → KeepsWorld k s l t r → Rose (met.faults (disk_of k.journal)) (met.faults (disk_of l.journal))
    by (Ok n) e h = absurd (let no : ◌≡◌ {A = Result ℕ Why} (Ok n) (Err DiskFault) = e in cc)
    by (Err why) e h = subst (λ (x : Why). MayRefuseKeeping k.journal l.journal x) (why_is why e) h.keeps.cause

module _ {D : Type 0} {met : Ghosts D} (first final : Served met) (taken sent : List ℕ) (k : Keeping D met) (w : State) (last : Result ℕ Why) (keeps : KeepsWorld final.keeping final.world k w last) where
  -- what waits then is records of worlds that stood
  pub waits_then : AreOfStood first final taken sent → AllWaiting (IsOfStood first final taken sent k.kept) (pending_of k.journal)
  waits_then are = by last keeps where
    by : (r : Result ℕ Why) → KeepsWorld final.keeping final.world k w r → AllWaiting (IsOfStood first final taken sent k.kept) (pending_of k.journal)
    by (Ok n) h = λ rs is. none_some (pending_of k.journal) rs (AllByRecursion (IsOfStood first final taken sent k.kept) rs) h.keeps.idle is
    by (Err why) h = subst (λ (n : ℕ). AllWaiting (IsOfStood first final taken sent n) (pending_of k.journal)) (sym h.refused)
        (all_built (IsCutRecord final.world) (IsOfStood first final taken sent final.keeping.kept) (λ r is. (as_kept final.world, are.now, is.stands)) (pending_of final.keeping.journal)
        (records final.keeping.building) are.waiting are.building (numbers_of final.keeping.journal) (numbers_of k.journal) (pending_of k.journal) (records k.building) h.batch).0

  module _ (honest : met.honest) (are : IsBackedByStood first final taken sent) where
    stood_in : (least : ℕ) → least ≤ final.keeping.kept → (image : List ℕ) (m : Held) → held image ≡ Some m → (worlds : List World) → AllByRecursion (StoodSince first final taken sent final.keeping.kept) worlds
        → TellsOne TellsWorld worlds m → HoldsStood first final taken sent least image
    stood_in least le image m e [] all told = absurd told
    stood_in least le image m e (v ∷ vs) all (inl told) = (v, (m, e, told), earlier first final taken sent least final.keeping.kept v le all.0)
    stood_in least le image m e (v ∷ vs) all (inr told) = stood_in least le image m e vs all.1 told

    stands_now : (least : ℕ) → least ≤ final.world.register.places → (image : List ℕ) (m : Held) → held image ≡ Some m → TellsWorld m (as_kept w) → HoldsStood first final taken sent least image
    stands_now least le image m e told = (as_kept w, (m, e, told), subst (StoodSince first final taken sent least) (sym keeps.same) (are.now least le))

    -- from a moment of the link up to the keeping after its end
    pub left_then : (u : Served met) → u.keeping.kept ≤ final.keeping.kept → CrashLeaves met (disk_of u.keeping.journal) (disk_of final.keeping.journal) (HoldsStood first final taken sent u.keeping.kept)
        → CrashLeaves met (disk_of u.keeping.journal) (disk_of k.journal) (HoldsStood first final taken sent u.keeping.kept)
    left_then u le left = joined met (disk_of u.keeping.journal) (disk_of final.keeping.journal) (disk_of k.journal) (HoldsStood first final taken sent u.keeping.kept) left
        (weaker met (disk_of final.keeping.journal) (disk_of k.journal) (HoldsOne TellsWorld (as_kept w ∷ are.worlds)) (HoldsStood first final taken sent u.keeping.kept) stood
        (keeps.keeps.crash honest are.worlds are.backed)) where
          stood : (image : List ℕ) → HoldsOne TellsWorld (as_kept w ∷ are.worlds) image → HoldsStood first final taken sent u.keeping.kept image
          stood image (m, e, inl told) = stands_now u.keeping.kept (omega (arith, le, are.within)) image m e told
          stood image (m, e, inr told) = stood_in u.keeping.kept le image m e are.worlds are.each told

  module _ (honest : met.honest) (are : IsBackedByStood first final taken sent) (holds : (worlds : List World) → IsBacked TellsWorld k.journal (records k.building) (WorldSays w) worlds → (image : List ℕ)
      → met.images (disk_of k.journal) image → HoldsOne TellsWorld worlds image) where
    pub image_stood : (image : List ℕ) → met.images (disk_of k.journal) image → HoldsStood first final taken sent k.kept image
    image_stood image left = by last keeps (holds (worlds_after are.worlds (as_kept w) last) (keeps.keeps.backed honest are.worlds are.backed) image left) where
      by : (r : Result ℕ Why) → KeepsWorld final.keeping final.world k w r → HoldsOne TellsWorld (worlds_after are.worlds (as_kept w) r) image → HoldsStood first final taken sent k.kept image
      by (Ok n) h (m, e, inl told) = stands_now honest are k.kept (let here = places final.keeping k final.world w last keeps in omega (arith, h.kept, h.number, here)) image m e told
      by (Ok n) h (m, e, inr none) = absurd none
      by (Err why) h (m, e, inl told) = stands_now honest are k.kept (omega (arith, h.refused, are.within)) image m e told
      by (Err why) h (m, e, inr told) = stood_in honest are k.kept (omega (arith, h.refused)) image m e are.worlds are.each told

    pub whole_then : OnOk last ((image : List ℕ) → met.images (disk_of k.journal) image → HoldsWorld (as_kept final.world) image)
    whole_then = by last keeps where
      by : (r : Result ℕ Why) → KeepsWorld final.keeping final.world k w r → OnOk r ((image : List ℕ) → met.images (disk_of k.journal) image → HoldsWorld (as_kept final.world) image)
      by (Err why) h = tt
      by (Ok n) h = λ image left. only image (holds (as_kept w ∷ []) (h.keeps.backed honest are.worlds are.backed) image left) where
        only : (image : List ℕ) → HoldsOne TellsWorld (as_kept w ∷ []) image → HoldsWorld (as_kept final.world) image
        only image (m, e, inl told) = (m, e, subst (TellsWorld m) h.same told)
        only image (m, e, inr none) = absurd none
