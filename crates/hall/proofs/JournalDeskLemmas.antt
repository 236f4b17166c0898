-- The desk of a journal before any request.
use Rattle.std.proofs.Common.{◌≡◌, ℕ, zero, suc, ◌<◌, List, [], ◌∷◌, Some, length, replicate, refl, sym, ap, subst, ◌∙◌, arith}
use Rattle.std.specs.Prelude.{get_or, slice_get}
use Rattle.std.specs.List.{AllByRecursion}
use Rattle.edge_traits.specs.declared.disk.Disk.{Ghosts as Disks}
use Rattle.chunk_owner.specs.Lanes.{Lane}
use Rattle.chunk_owner.specs.Owners.Records.{AreStillIn}
use Rattle.chunk_owner.specs.Slots.Slots.{AreStill}
use Rattle.flush_journal.specs.Records.{Held}
use Rattle.flush_journal.specs.declared.journal.Journal.{Journal}
use Rattle.journal_desk.specs.Desks.{Opens, no_history}
use Rattle.register.specs.Installed.Registers.{DescribesRegister}
use Rattle.register.specs.Kept.{RegisterSays, all_kept}
use Rattle.register.specs.Decided.{RegisterState}
use Rattle.register.specs.Marks.{no_marks}
use Rattle.service_core.specs.Records.{WorldSays}
use Rattle.service_core.specs.Worlds.{IsBuilt, State}
use Rattle.lane_histories.specs.Since.{SaysCuts}
use Rattle.hall_rule.specs.Seen.{history_of, nothing}
use Rattle.service_histories.specs.ArrayServices.{array_service, kept_part}
use Rattle.service_histories.specs.Cuttings.{KeptRegistersAreParts}
use Rattle.service_histories.specs.JournalParts.{IsKeptPart}
use Rattle.service_histories.specs.KeptArrays.{array_kept}
use Rattle.service_histories.specs.Markings.{IsOwner, array_marking}
use Rattle.service_histories.specs.Tellings.{KeptWorldsAreTold, OwnersAreSaid, objects_in, opening}
use Rattle.hall.specs.JournalDesks.{HoldsWorld}
use Rattle.std.specs.declared.snapshot.Snapshot.{Snapshot}
use Rattle.hall.specs.Answers.{ArrayView}
use Rattle.hall.specs.Notes.{lists_in, owner_at, world_by}
use Rattle.hall.specs.Passes.{IsNewWorld}

-- ---- lists of owners

abbrev no_items : {X : Type 0} → List X
no_items = []

blank : {X : Type 0} (n l : ℕ) → get_or (replicate n (no_items {X = X})) l no_items ≡ no_items
blank zero l = refl
blank (suc n) zero = refl
blank (suc n) (suc l) = blank n l

pub no_lists : (n : ℕ) (owners : List Lane) → history_of (array_service n) (nothing owners) ≡ no_history (array_service n)
no_lists n owners = λ i. record { register = []; lane = λ l. blank (length owners) l i; keepings = [] }

there_is : (owners : List Lane) (l : ℕ) → l < length owners → slice_get owners l ≡ Some (owner_at owners l)
there_is [] l few = absurd (omega arith)
there_is (o ∷ os) zero few = refl
there_is (o ∷ os) (suc l) few = there_is os l (omega arith)

objects_there : (owners : List Lane) (l : ℕ) → l < length owners → (owner_at owners l).objects ≡ objects_in owners l
objects_there [] l few = absurd (omega arith)
objects_there (o ∷ os) zero few = refl
objects_there (o ∷ os) (suc l) few = objects_there os l (omega arith)

still_there : (owners : List Lane) (l : ℕ) → l < length owners → AreStillIn owners → AreStill (owner_at owners l).slots
still_there [] l few still = absurd (omega arith)
still_there (o ∷ os) zero few still = still.0
still_there (o ∷ os) (suc l) few still = still_there os l (omega arith) still.1

all_of : (owners : List Lane) → ((l : ℕ) (o : Lane) → slice_get owners l ≡ Some o → IsOwner o) → AllByRecursion IsOwner owners
all_of [] each = tt
all_of (o ∷ os) each = (each 0 o refl, all_of os (λ l x at. each (suc l) x at))

-- ---- the register

pub part_of_kept : (d : RegisterState) → d ≡ all_kept d
    → (d.marks ≡ no_marks → (held : Held) → RegisterSays d held → DescribesRegister held d.run d.catalogue)
    → KeptRegistersAreParts → IsKeptPart (kept_part d)
part_of_kept d kept described parts = let marks : d.marks ≡ no_marks = ap (λ (r : RegisterState). r.marks) kept in parts d marks (described marks)

-- ---- the journal holds the world

module _ {D : Type 0} (met : Disks D) (j : Journal D met) (s : State) (n : ℕ) (lanes : n ≡ length s.lanes) (new : IsNewWorld s)
    (built : IsBuilt s.register s.lanes) (part : IsKeptPart (kept_part s.register))
    (each : (l : ℕ) (o : Lane) → slice_get s.lanes l ≡ Some o → IsOwner o) (told : KeptWorldsAreTold n) (said : OwnersAreSaid n) where
  count : length s.register.issued ≡ n
  count = sym built.count ∙ sym lanes

  says : (held : Held) → WorldSays s held → SaysCuts (array_marking n) (opening n s) (no_history (array_service n)) held (owner_at s.lanes)
  says held is = record {
    says = λ l few. said s held count built is l (owner_at s.lanes l) (there_is s.lanes l (omega arith));
    still = λ l few. record { owner = each l (owner_at s.lanes l) (there_is s.lanes l (omega arith)); still = still_there s.lanes l (omega arith) new.kept.lanes };
    objects = λ l few. objects_there s.lanes l (omega arith);
    catalogue = (told s held (record { count = count; built = built; register = part; owners = all_of s.lanes each }) new.kept is).catalogue;
  }

  pub opens : HoldsWorld met j s → Opens (array_kept n) (opening n s) (owner_at s.lanes) j
  opens h = record { content = h.content; settled = h.settled; says = says h.content.held h.says }

-- ---- the first note

module _ {K : Type 0} (n : ℕ) (views : List (ArrayView K)) (told : Snapshot State) (blank_is : views ≡ []) where
  pub first_world : world_by views (Some told) ≡ told.value
  first_world = ap (λ (vs : List (ArrayView K)). world_by vs (Some told)) blank_is

  pub first_lists : lists_in views (world_by views (Some told)).lanes ≡ nothing told.value.lanes
  first_lists = ap (λ (vs : List (ArrayView K)). lists_in vs (world_by vs (Some told)).lanes) blank_is

  pub first_history : history_of (array_service n) (lists_in views (world_by views (Some told)).lanes) ≡ no_history (array_service n)
  first_history = ap (history_of (array_service n)) first_lists ∙ no_lists n told.value.lanes

  pub first_opens : {D : Type 0} {met : Disks D} (j : Journal D met) (s : State) → told.value ≡ s
      → Opens (array_kept n) (opening n s) (owner_at s.lanes) j
      → Opens (array_kept n) (opening n (world_by views (Some told))) (owner_at (lists_in views (world_by views (Some told)).lanes).was) j
  first_opens j s is o =
      subst (λ (vs : List (ArrayView K)). Opens (array_kept n) (opening n (world_by vs (Some told)))
      (owner_at (lists_in vs (world_by vs (Some told)).lanes).was) j) (sym blank_is)
      (subst (λ (x : State). Opens (array_kept n) (opening n x) (owner_at x.lanes) j) (sym is) o)
