-- What is true of a desk.
--     HoldsKept k start h reach image   an image holds a world that is kept from these lists, with these numbers
--     HoldsAsFar k start h own image    with numbers that are at least these
--     HoldSince ..                      so does whatever a crash since a moment leaves
--     IsFileOf ..       what the disk holds, what is pending and what is building, as contents
--     IsDesk ..         the numbers are those of the note's cuts; and where the disk is honest, what it holds is kept from the note's lists
--     AreAnswered ..    and since their moments so was what was answered
--     IsSoundDesk ..    all of it; and what is pending or building is what cuts added since what is kept was cut
--     Opens ..          a journal before any request
use Rattle.std.specs.Prelude.{◌≡◌, ℕ, ◌≤◌, List, [], Some, None}
use Rattle.std.specs.List.{AllByRecursion}
use Rattle.edge_traits.specs.declared.disk.Disk.{Ghosts}
use Rattle.flush_journal.specs.Records.{Held, Record, put_all}
use Rattle.flush_journal.specs.Files.{Content, held}
use Rattle.flush_journal.specs.Standing.{IsOwed, IsSettled, disk_of, pending_of}
use Rattle.flush_journal.specs.declared.journal.Journal.{Journal}
use Rattle.lane_histories.specs.Services.{Service, World}
use Rattle.lane_histories.specs.Histories.{History, IsIn}
use Rattle.lane_histories.specs.declared.items.Answer.TheVariants.{Kept}
use Rattle.lane_histories.specs.declared.items.Keeping.{Keeping}
use Rattle.lane_histories.specs.declared.items.Reach.{Reach}
use Rattle.lane_histories.specs.Legal.{IsLegal}
use Rattle.lane_histories.specs.Cuts.{IsOfCuts, IsWholeCut, register_cut}
use Rattle.lane_histories.specs.KeptContents.{IsAsFar, TellsKept}
use Rattle.lane_histories.specs.Desks.{Desk, IsKeptDesk}
use Rattle.lane_histories.specs.Since.{SaysAll, SaysCuts}
use Rattle.journal_desk.specs.KeptServices.{KeptService, contents}
use Rattle.journal_desk.specs.Owed.{OwesCuts}

-- ---- images

pub record HoldsKept (k : KeptService) (start : World k.service) (h : History k.service) (reach : Reach) (image : List ℕ) : Type 0 where
  pub bodies : Held
  pub holds : held image ≡ Some bodies
  pub kept : TellsKept k.service (contents k) start h bodies reach

pub record HoldsAsFar (k : KeptService) (start : World k.service) (h : History k.service) (own : Reach) (image : List ℕ) : Type 0 where
  pub reach : Reach
  pub at : HoldsKept k start h reach image
  pub far : IsAsFar own reach

abbrev pub HoldSince : {D : Type 0} (met : Ghosts D) (k : KeptService) (start : World k.service) (h : History k.service)
    → D → ℕ → Reach → Type 0
HoldSince met k start h disk moment own = (image : List ℕ) → met.left_since disk moment image → HoldsAsFar k start h own image

-- ---- the invariant

pub data IsFileOf {D : Type 0} {met : Ghosts D} (k : KeptService) (j : Journal D met) (building : List Record) (cut : Reach)
    (desk : Desk k.service (contents k)) : Type 0 where
  settled : (c : Content) → IsSettled j c → desk.held ≡ c.held → desk.pending ≡ None → desk.built ≡ put_all building c.held
      → IsFileOf k j building cut desk
  -- the batch that is pending reaches as far as the last cuts
  owed : (c : Content) (rs : List Record) → IsOwed j c rs → desk.held ≡ c.held → desk.pending ≡ Some (put_all rs c.held, cut)
      → desk.built ≡ put_all building (put_all rs c.held) → IsFileOf k j building cut desk

-- the lanes were so at their last cuts
pub record IsOnDisk {D : Type 0} {met : Ghosts D} (k : KeptService) (start : World k.service) (h : History k.service)
    (was : ℕ → k.marking.Marked) (j : Journal D met) (building : List Record) (cut kept : Reach) : Type 0 where
  pub desk : Desk k.service (contents k)
  pub file : IsFileOf k j building cut desk
  pub own : desk.own ≡ kept
  pub backed : IsKeptDesk k.service (contents k) start h desk
  pub built : SaysCuts k.marking start h desk.built was

pub record IsDesk {D : Type 0} {met : Ghosts D} (k : KeptService) (start : World k.service) (h : History k.service)
    (was : ℕ → k.marking.Marked) (j : Journal D met) (building : List Record) (cut kept : Reach) : Type 0 where
  pub legal : IsLegal k.service start h
  -- where nothing of a lane is marked, what says it tells it
  pub says_all : SaysAll k.marking
  pub cut_cuts : IsOfCuts k.service h cut
  -- the last of all
  pub last_lanes : (number e : ℕ) → IsWholeCut k.service h number e → e ≤ cut.c
  pub last_register : cut.p ≡ register_cut h.register
  pub kept_cuts : IsOfCuts k.service h kept
  pub far : IsAsFar kept cut
  -- of each keeping in the note
  pub keepings : AllByRecursion (λ i. IsAsFar i.own kept) h.keepings
  pub on_disk : met.honest → IsOnDisk k start h was j building cut kept

-- what was kept, since the disk was so; and for each keeping in the note that was answered Ok, what it kept, since its moment
pub record AreAnswered {D : Type 0} (met : Ghosts D) (k : KeptService) (start : World k.service) (h : History k.service) (disk at : D)
    (kept : Reach) : Type 0 where
  pub own : met.honest → (met.moment at ≤ met.moment disk) × HoldSince met k start h disk (met.moment at) kept
  pub each : met.honest → (i : Keeping) → IsIn h.keepings i → i.answer ≡ Kept
      → (i.moment ≤ met.moment disk) × HoldSince met k start h disk i.moment i.own

pub record IsSoundDesk {D : Type 0} {met : Ghosts D} (k : KeptService) (start : World k.service) (since : History k.service)
    (first : ℕ → k.marking.Marked) (h : History k.service) (was : ℕ → k.marking.Marked) (j : Journal D met) (building : List Record)
    (cut kept : Reach) (at : D) : Type 0 where
  pub desk : IsDesk k start h was j building cut kept
  pub owes : OwesCuts k start since first h was (pending_of j) building kept
  pub answered : AreAnswered met k start h (disk_of j) at kept

-- ---- the opening

-- before any request
abbrev pub no_history : (s : Service) → History s
no_history s = record { register = []; lane = λ l. []; keepings = [] }

-- the file is settled, and says each lane and tells the catalogue as they begin
pub record Opens {D : Type 0} {met : Ghosts D} (k : KeptService) (start : World k.service) (was : ℕ → k.marking.Marked) (j : Journal D met)
    : Type 0 where
  pub content : Content
  pub settled : IsSettled j content
  pub says : SaysCuts k.marking start (no_history k.service) content.held was
