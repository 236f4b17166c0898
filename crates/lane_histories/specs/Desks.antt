-- The journal's desk: what its disk holds, what is pending, and what was cut since.
--     own_after own keepings    how far the desk reaches after these keepings
--     IsImage x desk            what a crash now may leave of the disk
--     IsKeptDesk ..             what the disk holds tells a world that is kept, and so does what is pending
--     IsKeptImage ..            so does an image, at least as far as the desk's own numbers
use Rattle.std.specs.Prelude.{◌≡◌, ◌⊎◌, Bool, true, false, List, [], ◌∷◌, Option, Some, None}
use Rattle.std.specs.List.{AllByRecursion}
use Rattle.lane_histories.specs.Services.{Service, World}
use Rattle.lane_histories.specs.Histories.{Reach, Keeping, History}
use Rattle.lane_histories.specs.Cuts.{IsOfCuts}
use Rattle.lane_histories.specs.JournalContents.{JournalContents}
use Rattle.lane_histories.specs.KeptContents.{IsAsFar, IsKeptBatch, TellsKept}
use Rattle.lane_histories.specs.declared.items.Answer.{Answer}
use Rattle.lane_histories.specs.declared.items.Answer.TheVariants.{Kept, Looked, Refused}

-- what the disk holds, and how far that reaches; the batch that is pending, as what the disk would hold with it; and what it
-- would hold with all that was cut
pub record Desk (s : Service) (j : JournalContents s) : Type 0 where
  pub held : j.Content
  pub own : Reach
  pub pending : Option (j.Content × Reach)
  pub built : j.Content

-- after Ok the disk holds the batch; after a refusal the batch is pending
abbrev pub appended : {s : Service} {j : JournalContents s} → Bool → j.Content × Reach → Desk s j → Desk s j
appended true batch desk = record desk { held = batch.0; own = batch.1; pending = None }
appended false batch desk = record desk { pending = Some batch }

abbrev pub answer_of : Bool → Answer
answer_of true = Kept
answer_of false = Refused

-- ---- the numbers of keepings

-- before the first batch
abbrev pub nowhere : Reach
nowhere = record { c = 0; p = 0 }

-- after Ok the desk reaches as far as its batch
abbrev pub own_by : Answer → Reach → Reach → Reach
own_by Kept cut own = cut
own_by Refused cut own = own
own_by Looked cut own = own

abbrev pub own_after : Reach → List Keeping → Reach
own_after own [] = own
own_after own (k ∷ keepings) = own_after (own_by k.answer k.cut own) keepings

-- each keeping says how far the desk reaches at its end
abbrev pub AreOwn : Reach → List Keeping → Type 0
AreOwn own [] = Unit {0}
AreOwn own (k ∷ keepings) = (k.own ≡ own_by k.answer k.cut own) × AreOwn (own_by k.answer k.cut own) keepings

-- ---- what a crash leaves

-- what is held, or that with the batch that is pending
abbrev pub IsImage : {s : Service} {j : JournalContents s} → j.Content → Desk s j → Type 0
IsImage x desk = (x ≡ desk.held) ⊎ ((reach : Reach) × (desk.pending ≡ Some (x, reach)))

pub record IsKeptDesk (s : Service) (j : JournalContents s) (start : World s) (h : History s) (desk : Desk s j) : Type 0 where
  pub keepings : AllByRecursion (λ k. IsAsFar k.own desk.own) h.keepings
  pub held : TellsKept s j start h desk.held desk.own
  pub cuts : IsOfCuts s h desk.own
  pub pending : (x : j.Content) (reach : Reach) → desk.pending ≡ Some (x, reach) → IsKeptBatch s j start h desk.own x reach

-- farther than the desk's own numbers only where a batch is pending
pub record IsKeptImage {s : Service} {j : JournalContents s} (start : World s) (h : History s) (desk : Desk s j)
    (x : j.Content) : Type 0 where
  pub reach : Reach
  pub tells : TellsKept s j start h x reach
  pub far : IsAsFar desk.own reach
  pub farther : desk.pending ≡ None → reach ≡ desk.own
