-- What the callers' side does in a turn of its desk.
--     Resumes h g kept     since the desk's last turn others asked and took turns, and none of them cut
--     Adds ..              others went on, and then an item was added
--     DrawsCut ..          a cut was drawn at the register
--     TakesCut ..          a lane was cut in its turn
--     TakesRegisterCut ..  the register was cut
--     AddCuts ..           from a history to a longer one, just these records were added by cuts
--     Advances ..          from a history to a longer one, and what is building still says all cuts
--     CutsEach ..          so after the lanes' cuts
--     CutsAll ..           what was cut in between is each lane once and the register behind, by one drawn cut
--     CutsRegister ..      it is the register once
use Rattle.std.specs.Prelude.{◌≡◌, ◌≢◌, ◌⊎◌, ℕ, ◌<◌, ◌≤◌, Bool, true, false, List, [], ◌∷◌, ◌++◌}
use Rattle.std.specs.List.{AllByRecursion}
use Rattle.flush_journal.specs.Cuts.Cuts.{AreOnce}
use Rattle.flush_journal.specs.Records.{Held, Record, put_all}
use Rattle.lane_histories.specs.Services.{Service, World}
use Rattle.lane_histories.specs.Histories.{History, IsIn, LaneList, changed_at, drawn, objects_after, places, register_after, register_at}
use Rattle.lane_histories.specs.declared.items.LaneItem.{LaneItem}
use Rattle.lane_histories.specs.declared.items.LaneItem.TheVariants.{Passed, WasCut}
use Rattle.lane_histories.specs.declared.items.RegisterItem.{RegisterItem}
use Rattle.lane_histories.specs.declared.items.RegisterItem.TheVariants.{DrawnCut, Entered, RegisterCut}
use Rattle.lane_histories.specs.declared.items.Reach.{Reach}
use Rattle.lane_histories.specs.Legal.{IsLegal, IsPrefix, with_lane_item, with_register_item}
use Rattle.lane_histories.specs.Cuts.{GoesOn, behind_cut, register_cut}
use Rattle.lane_histories.specs.JournalContents.{KeepsCatalogue}
use Rattle.lane_histories.specs.KeptContents.{IsAsFar}
use Rattle.lane_histories.specs.Since.{KeepsSaid, SaysCuts}
use Rattle.journal_desk.specs.KeptServices.{KeptService, contents}

-- ---- between two steps of the desk's turn

-- and its keepings reach no farther than the desk
pub record Resumes {s : Service} (h g : History s) (kept : Reach) : Type 0 where
  pub others : GoesOn h g
  pub keepings : AllByRecursion (λ i. IsAsFar i.own kept) g.keepings

pub record Adds (s : Service) (start : World s) (h g : History s) (add : History s → History s) : Type 0 where
  pub mid : History s
  pub others : GoesOn h mid
  pub keepings : mid.keepings ≡ h.keepings
  pub before : IsLegal s start mid
  pub after : IsLegal s start g
  pub added : g ≡ add mid

-- ---- cuts

pub record DrawsCut (s : Service) (start : World s) (h g : History s) (number c : ℕ) : Type 0 where
  pub step : Adds s start h g (λ m. with_register_item m (DrawnCut number c))
  pub number_is : number ≡ drawn step.mid.register
  pub c_is : c ≡ places step.mid.register

-- the records of what these items changed in a lane, and no others, one a key: with them what said it as it was says it as it is, and each
-- other lane and the catalogue stay
pub record WritesLane (k : KeptService) (l : ℕ) (items : LaneList k.service) (before now : k.marking.Marked) (added : List Record) : Type 0 where
  pub once : AreOnce added
  pub changed : k.ChangedInLane l items before now added
  pub own : (x : Held) → k.marking.Says x l before → k.marking.Says (put_all added x) l now
  pub others : (x : Held) (m : ℕ) → m ≢ l → KeepsSaid k.marking m x (put_all added x)
  pub catalogue : (x : Held) → KeepsCatalogue (contents k) x (put_all added x)

-- the records of what changed of the catalogue, and no others, one a key: with them what told it as it was tells it as the register has it,
-- and each lane stays
pub record WritesCatalogue (k : KeptService) (before : k.service.Catalogue) (now : k.service.Register) (added : List Record) : Type 0 where
  pub once : AreOnce added
  pub changed : k.ChangedInRegister now added
  pub own : (x : Held) → k.TellsCatalogue x before → k.TellsCatalogue (put_all added x) (k.service.catalogue now)
  pub lanes : (x : Held) (l : ℕ) → KeepsSaid k.marking l x (put_all added x)

-- a lane's cut that found memory, behind these items since the one before: the lane has these objects, nothing of it is marked now, and its
-- records were added
pub record CutsLaneWell (k : KeptService) (l : ℕ) (items : LaneList k.service) (objects : k.service.Objects) (was later : ℕ → k.marking.Marked)
    (old new : List Record) : Type 0 where
  pub now : k.marking.Marked
  pub later_is : later ≡ changed_at l now was
  pub still : k.marking.IsStill now
  pub objects_are : k.marking.objects now ≡ objects
  pub added : List Record
  pub appended : new ≡ old ++ added
  pub writes : WritesLane k l items (was l) now added

-- one that didn't: all is as it was
pub record CutsLaneShort (k : KeptService) (was later : ℕ → k.marking.Marked) (old new : List Record) : Type 0 where
  pub later_is : later ≡ was
  pub appended : new ≡ old

abbrev pub CutsInLane : (k : KeptService) → Bool → ℕ → LaneList k.service → k.service.Objects → (was later : ℕ → k.marking.Marked)
    → List Record → List Record → Type 0
CutsInLane k true l items objects was later old new = CutsLaneWell k l items objects was later old new
CutsInLane k false l items objects was later old new = CutsLaneShort k was later old new

pub record TakesCut (k : KeptService) (start : World k.service) (h g : History k.service) (was later : ℕ → k.marking.Marked)
    (l number c : ℕ) (found : Bool) (old new : List Record) : Type 0 where
  pub step : Adds k.service start h g (λ m. with_lane_item m l (WasCut number c found))
  pub cut : CutsInLane k found l (behind_cut (step.mid.lane l)) (objects_after k.service (start.objects l) (step.mid.lane l)) was later old new

-- the records of a cut are added where there is memory for all of them; else none is
abbrev pub AddsRecords : Bool → (List Record → Type 0) → List Record → List Record → Type 0
AddsRecords true P old new = (added : List Record) × (new ≡ old ++ added) × P added
AddsRecords false P old new = new ≡ old

pub record TakesRegisterCut (k : KeptService) (start : World k.service) (h g : History k.service) (p : ℕ) (found : Bool)
    (old new : List Record) : Type 0 where
  pub step : Adds k.service start h g (λ m. with_register_item m (RegisterCut p found))
  pub p_is : p ≡ places step.mid.register
  pub cut : AddsRecords found (WritesCatalogue k
      (k.service.catalogue (register_at k.service (register_cut step.mid.register) start.register step.mid.register))
      (register_after k.service start.register step.mid.register)) old new

-- ---- any of these

-- From lists in which the lanes were so at their last cuts: cuts of lanes and of the register added these records, in their order, and no
-- other cut came; between them others went on and cuts were drawn. Then the lanes were so at their last cuts.
pub data AddCuts (k : KeptService) (start : World k.service) (since : History k.service) (first : ℕ → k.marking.Marked)
    : History k.service → (ℕ → k.marking.Marked) → List Record → Type 0 where
  no_cut : AddCuts k start since first since first []
  then_others : (h now : History k.service) (was : ℕ → k.marking.Marked) (rs : List Record) → AddCuts k start since first h was rs
      → GoesOn h now → AddCuts k start since first now was rs
  then_drawn : (h now : History k.service) (was : ℕ → k.marking.Marked) (number c : ℕ) (rs : List Record)
      → AddCuts k start since first h was rs → DrawsCut k.service start h now number c → AddCuts k start since first now was rs
  then_lane : (h now : History k.service) (before was : ℕ → k.marking.Marked) (l number c : ℕ) (found : Bool) (old rs : List Record)
      → AddCuts k start since first h before old → TakesCut k start h now before was l number c found old rs
      → AddCuts k start since first now was rs
  then_register : (h now : History k.service) (was : ℕ → k.marking.Marked) (p : ℕ) (found : Bool) (old rs : List Record)
      → AddCuts k start since first h was old → TakesRegisterCut k start h now p found old rs → AddCuts k start since first now was rs

pub record Advances (k : KeptService) (start : World k.service) (h g : History k.service) (was later : ℕ → k.marking.Marked)
    (old new : List Record) : Type 0 where
  pub longer : IsPrefix h g
  pub legal : IsLegal k.service start g
  pub keepings : g.keepings ≡ h.keepings
  pub built : (x : Held) → SaysCuts k.marking start h (put_all old x) was → SaysCuts k.marking start g (put_all new x) later
  -- and only cuts added to it
  pub adds : (since : History k.service) (first : ℕ → k.marking.Marked) → AddCuts k start since first h was old
      → AddCuts k start since first g later new

-- ---- how often

-- the cuts among a register's items, and those among a lane's that found memory
abbrev pub cuts_of_register : {Q V : Type 0} → List (RegisterItem Q V) → List (RegisterItem Q V)
cuts_of_register [] = []
cuts_of_register (Entered e ∷ items) = cuts_of_register items
cuts_of_register (DrawnCut number c ∷ items) = DrawnCut number c ∷ cuts_of_register items
cuts_of_register (RegisterCut p found ∷ items) = RegisterCut p found ∷ cuts_of_register items

abbrev pub cuts_of_lane : {T R : Type 0} → List (LaneItem T R) → List (LaneItem T R)
cuts_of_lane [] = []
cuts_of_lane (Passed place part task y ∷ items) = cuts_of_lane items
cuts_of_lane (WasCut number c true ∷ items) = WasCut number c true ∷ cuts_of_lane items
cuts_of_lane (WasCut number c false ∷ items) = cuts_of_lane items

-- each lane was cut once, with the cut that was drawn
pub record CutsLanes (s : Service) (h g : History s) (number c : ℕ) : Type 0 where
  pub register : cuts_of_register g.register ≡ cuts_of_register h.register ++ DrawnCut number c ∷ []
  pub lanes : (l : ℕ) → l < s.lanes → cuts_of_lane (g.lane l) ≡ cuts_of_lane (h.lane l) ++ WasCut number c true ∷ []

pub record CutsRegister (s : Service) (h g : History s) (p : ℕ) : Type 0 where
  pub register : cuts_of_register g.register ≡ cuts_of_register h.register ++ RegisterCut p true ∷ []
  pub lanes : (l : ℕ) → cuts_of_lane (g.lane l) ≡ cuts_of_lane (h.lane l)

-- and behind these the register
pub record CutsAll (s : Service) (h g : History s) (number c p : ℕ) : Type 0 where
  pub register : cuts_of_register g.register ≡ cuts_of_register h.register ++ DrawnCut number c ∷ RegisterCut p true ∷ []
  pub lanes : (l : ℕ) → l < s.lanes → cuts_of_lane (g.lane l) ≡ cuts_of_lane (h.lane l) ++ WasCut number c true ∷ []

-- the first lanes were cut, and each found memory if `whole`
pub record CutsEach (k : KeptService) (start : World k.service) (h g : History k.service) (was later : ℕ → k.marking.Marked)
    (number c lanes : ℕ) (whole : Bool) (old new : List Record) : Type 0 where
  pub advances : Advances k start h g was later old new
  pub drawn : (n e : ℕ) → IsIn g.register (DrawnCut n e) → IsIn h.register (DrawnCut n e)
  pub cut : whole ≡ true → (l : ℕ) → l < lanes → IsIn (g.lane l) (WasCut number c true)
  pub short : whole ≡ false → (l : ℕ) × (l < lanes) × IsIn (g.lane l) (WasCut number c false)
  -- and nothing else was cut
  pub before : (l n e : ℕ) → IsIn (g.lane l) (WasCut n e true) → IsIn (h.lane l) (WasCut n e true) ⊎ (n ≡ number)
  pub register : register_cut g.register ≡ register_cut h.register
  -- the register wasn't, and each of these lanes once
  pub uncut : cuts_of_register g.register ≡ cuts_of_register h.register
  pub once : whole ≡ true → (l : ℕ) → l < lanes → cuts_of_lane (g.lane l) ≡ cuts_of_lane (h.lane l) ++ WasCut number c true ∷ []
  pub others : (l : ℕ) → lanes ≤ l → cuts_of_lane (g.lane l) ≡ cuts_of_lane (h.lane l)
