-- Where a place is told that memory was wanting.
--     WantsAreTold     exactly where its verdict says so, or one of its turns found none
use Rattle.std.specs.Prelude.{◌≡◌, ◌⊎◌, ◌↔◌, ℕ, Some}
use Rattle.object_ops.specs.declared.replies.Reply.{Reply}
use Rattle.register.specs.declared.verdicts.Verdict.{Verdict}
use Rattle.register.specs.declared.verdicts.Verdict.TheVariants as verdict
use Rattle.service_core.specs.declared.answers.What.TheVariants as what
use Rattle.lane_histories.specs.declared.items.Entry.{Entry}
use Rattle.lane_histories.specs.declared.items.RegisterItem.TheVariants.{Entered}
use Rattle.lane_histories.specs.Histories.{History, IsIn}
use Rattle.lane_histories.specs.Legal.{IsLegal}
use Rattle.lane_histories.specs.Replies.{reply as reply_at}
use Rattle.lane_histories.specs.Replies.{What as LaneWhat}
use Rattle.lane_histories.specs.Services.{World}
use Rattle.lane_histories.specs.Shorts.{IsShortAt}
use Rattle.service_histories.specs.ArrayServices.{Asked, array_service}
use Rattle.service_histories.specs.PlainSteps.{answer_of}

-- the entry's verdict is that memory was wanting, or a turn of its place found none
abbrev pub FindsNone : (lanes : ℕ) → History (array_service lanes) → Entry Asked Verdict → Type 0
FindsNone lanes h e = (e.verdict ≡ verdict.NoMemory) ⊎ IsShortAt h e.place

abbrev pub WantsAreTold : ℕ → Type 0
WantsAreTold lanes =
    (start : World (array_service lanes)) (h : History (array_service lanes)) (e : Entry Asked Verdict) (told : LaneWhat Verdict Reply)
    → IsLegal (array_service lanes) start h → IsIn h.register (Entered e) → reply_at (array_service lanes) h e.place ≡ Some told
    → (answer_of told ≡ what.NoMemory) ↔ FindsNone lanes h e
