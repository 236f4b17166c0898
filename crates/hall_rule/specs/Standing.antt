-- When a machine in its slot stands for its list.
--     IsRegisterOf m start items register   as the list leaves it, with marks since its last cut
--     IsOwnerOf m start h lane owner        so of a lane's objects, since what its owner was at its last cut
--     IsDeskOf m start h desk               the desk's note and numbers fit the lists
--     StandsFor m q slot start h            whichever the queue has
--     MarksRegister, MarksLane              what a turn does to the marks
--     IsFresh m start                       the register and the owners as a hall begins
--     IsFreshDesk m start desk              and its desk
use Rattle.std.specs.Prelude.{◌≡◌, ◌⊎◌, ℕ, [], ◌∷◌, ◌++◌, true, false}
use mathlib.Core.Option.{some}
use lib.ListN.{get_elem?}
use Rattle.std.specs.List.{AllByRecursion}
use Rattle.lane_histories.specs.Services.{Service}
use Rattle.lane_histories.specs.Histories.{IsIn, LaneList, RegisterList, objects_after}
use Rattle.lane_histories.specs.Histories.{register_after, register_at}
use Rattle.lane_histories.specs.Cuts.{behind_cut, objects_at_cut, register_cut}
use Rattle.lane_histories.specs.KeptContents.{IsAsFar}
use Rattle.lane_histories.specs.declared.items.Answer.TheVariants.{Kept}
use Rattle.lane_histories.specs.declared.items.Keeping.{Keeping}
use Rattle.lane_histories.specs.declared.items.LaneItem.{LaneItem}
use Rattle.lane_histories.specs.declared.items.LaneItem.TheVariants.{Passed, WasCut}
use Rattle.lane_histories.specs.declared.items.RegisterItem.{RegisterItem}
use Rattle.lane_histories.specs.declared.items.RegisterItem.TheVariants.{Entered, DrawnCut}
use Rattle.lane_histories.specs.declared.items.RegisterItem.TheVariants.{RegisterCut}
use Rattle.hall_rule.specs.declared.queue.Queue.{Queue}
use Rattle.hall_rule.specs.declared.queue.Queue.TheVariants.{OfRegister, OfDesk, OfLane}
use Rattle.hall_rule.specs.declared.slot.Slot.{Slot}
use Rattle.hall_rule.specs.declared.slot.Slot.TheVariants.{Away, AtRegister, AtDesk, AtLane}
use Rattle.hall_rule.specs.declared.view.Start.{Start}
use Rattle.hall_rule.specs.Machines.{Machines, objects_in}
use Rattle.hall_rule.specs.Seen.{GrowsUncut, SeenLists, lane_of, nothing, was_of}

-- what a slot of the hall has
abbrev pub HallSlot : (service : Service) (M N P : Type 0) → Type 0
HallSlot service M N P = Slot M N P service.Asked service.Verdict service.Reply

module _ {service : Service} {M N P E : Type 0} (m : Machines service M N P E)
    (start : Start M N E) where
  -- the catalogue at the register's last cut that found memory, and a lane's objects at its own
  abbrev pub catalogue_cut : RegisterList service → service.Catalogue
  catalogue_cut items =
      service.catalogue (register_at service (register_cut items) (m.register start.register) items)

  abbrev pub lane_cut : ℕ → LaneList service → service.Objects
  lane_cut lane items = objects_at_cut service (objects_in m start.owners lane) items

  pub record IsRegisterOf (items : RegisterList service) (register : M) : Type 0 where
    pub now : m.register register ≡ register_after service (m.register start.register) items
    pub since : m.RegisterIsSince register (catalogue_cut items)

  pub record IsOwnerOf (h : SeenLists service N) (lane : ℕ) (owner : N) : Type 0 where
    pub now : m.owner owner
        ≡ objects_after service (objects_in m start.owners lane) (lane_of h.lanes lane)
    -- at its last cut
    pub was : N
    pub was_is : was_of h lane ≡ some was
    pub had : m.owner was ≡ lane_cut lane (lane_of h.lanes lane)
    pub since : m.OwnerIsSince owner lane (behind_cut (lane_of h.lanes lane)) was

  -- this keeping is in the note, or it is the desk's last
  abbrev pub IsItsKeeping : P → Keeping → Type 0
  IsItsKeeping desk k =
      IsIn (m.note desk).keepings k ⊎ ((k.own ≡ m.reach desk) × (k.moment ≡ m.moment desk))

  -- The note's lists begin those of the hall, and behind them nobody cut. No keeping reaches
  -- farther than the desk, and each that was answered Ok is its own. All of them are what a desk
  -- that went on from the first one to this one may have told.
  pub record IsDeskOf (h : SeenLists service N) (desk : P) : Type 0 where
    pub since : m.DeskIsSince desk start.desk
    pub register : m.noted_register desk ≡ start.register
    pub owners : m.noted_owners desk ≡ start.owners
    pub uncut : GrowsUncut h (m.note desk)
    pub far : AllByRecursion (λ k. IsAsFar k.own (m.reach desk)) h.keepings
    pub told : m.HasTold desk start.desk h.keepings
    pub kept : (k : Keeping) → IsIn h.keepings k → k.answer ≡ Kept → IsItsKeeping desk k

  -- nothing changed since the cuts
  pub record IsFresh : Type 0 where
    pub register : m.RegisterIsSince start.register (service.catalogue (m.register start.register))
    pub owners : (lane : ℕ) (o : N) → get_elem? start.owners lane ≡ some o
        → m.OwnerIsSince o lane [] o

  -- the note is empty, and nothing was told
  pub record IsFreshDesk (desk : P) : Type 0 where
    pub known_by : m.DeskIsSince desk start.desk
    pub told : m.HasTold desk start.desk []
    pub note : m.note desk ≡ nothing start.owners
    pub register : m.noted_register desk ≡ start.register
    pub owners : m.noted_owners desk ≡ start.owners

module _ {service : Service} {M N P E : Type 0} (m : Machines service M N P E) where
  -- what was changed is marked; a cut that found memory leaves no mark
  abbrev pub MarksRegister : RegisterItem service.Asked service.Verdict → M → M → Type 0
  MarksRegister (Entered e) old new =
      (c : service.Catalogue) → m.RegisterIsSince old c → m.RegisterIsSince new c
  MarksRegister (DrawnCut number place) old new =
      (c : service.Catalogue) → m.RegisterIsSince old c → m.RegisterIsSince new c
  MarksRegister (RegisterCut place true) old new =
      m.RegisterIsSince new (service.catalogue (m.register old))
  MarksRegister (RegisterCut place false) old new =
      (c : service.Catalogue) → m.RegisterIsSince old c → m.RegisterIsSince new c

  abbrev pub MarksLane : ℕ → LaneItem service.Task service.Reply → N → N → Type 0
  MarksLane lane (Passed place part task outcome) old new =
      (since : LaneList service) (was : N) → m.OwnerIsSince old lane since was
      → m.OwnerIsSince new lane (since ++ Passed place part task outcome ∷ []) was
  MarksLane lane (WasCut number place true) old new = m.OwnerIsSince new lane [] new
  MarksLane lane (WasCut number place false) old new =
      (since : LaneList service) (was : N) → m.OwnerIsSince old lane since was
      → m.OwnerIsSince new lane (since ++ WasCut number place false ∷ []) was

  abbrev pub StandsFor : Queue → HallSlot service M N P → Start M N E → SeenLists service N
      → Type 0
  StandsFor OfRegister Away start h = ⊥
  StandsFor OfRegister (AtRegister d) start h = IsRegisterOf m start h.register d.register
  StandsFor OfRegister (AtDesk d) start h = ⊥
  StandsFor OfRegister (AtLane d) start h = ⊥
  StandsFor OfDesk Away start h = ⊥
  StandsFor OfDesk (AtRegister d) start h = ⊥
  StandsFor OfDesk (AtDesk d) start h = IsDeskOf m start h d
  StandsFor OfDesk (AtLane d) start h = ⊥
  StandsFor (OfLane lane) Away start h = ⊥
  StandsFor (OfLane lane) (AtRegister d) start h = ⊥
  StandsFor (OfLane lane) (AtDesk d) start h = ⊥
  StandsFor (OfLane lane) (AtLane d) start h = IsOwnerOf m start h lane d.owner
