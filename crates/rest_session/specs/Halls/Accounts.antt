-- What a pass of a hall asked and was answered, in words.
--     told_by lanes by seen   the entries of a pass in some lists, each with what it was answered
--     account tokens h p      what the service over one link goes by
--     IsReady h p             a pass of this hall, all of whose entries were answered
--     HasAskedNothing s t     no entry more, while others went on
use Rattle.std.specs.Prelude.{◌≡◌, ℕ, List, [], map, Option, IsSome, option_map}
use Rattle.std.specs.List.{AllByRecursion}
use Rattle.access_lists.specs.Tokens.Bearer.{TokenTable}
use Rattle.register.specs.declared.verdicts.Verdict.{Verdict}
use Rattle.service_core.specs.declared.answers.What.{What}
use Rattle.lane_histories.specs.Histories.{StartsWith, own}
use Rattle.lane_histories.specs.Replies.{reply}
use Rattle.lane_histories.specs.declared.items.Entry.{Entry}
use Rattle.lane_histories.specs.declared.items.Keeping.{Keeping}
use Rattle.hall_rule.specs.Seen.{history_of}
use Rattle.service_histories.specs.ArrayServices.{Asked, array_service}
use Rattle.service_histories.specs.PlainSteps.{answer_of}
use Rattle.hall.specs.Answers.{ArrayLists}
use Rattle.hall.specs.ArrayMachines.{lanes_in}
use Rattle.hall.specs.Passes.{IsPassOf, opening, view_of}
use Rattle.hall.specs.declared.desk.AtDesk.{Ghosts}
use Rattle.hall.specs.declared.hall.Hall.{Hall}
use Rattle.hall.specs.declared.pass.Pass.{Pass}

-- ---- what was asked, and answered

-- an entry, and what it was answered, where the lists tell it
abbrev pub Told : Type 0
Told = Entry Asked Verdict × Option What

-- the lists of the service; how many lanes there are doesn't matter to what they are made of
abbrev pub Lists : Type 0
Lists = ArrayLists

abbrev pub told_of : ℕ → Lists → Entry Asked Verdict → Told
told_of lanes seen e = (e, option_map answer_of (reply (array_service lanes) (history_of (array_service lanes) seen) e.place))

-- the entries of one pass, in order
abbrev pub told_by : ℕ → ℕ → Lists → List Told
told_by lanes by seen = map (told_of lanes seen) (own by seen.register)

abbrev pub AllAnswered : List Told → Type 0
AllAnswered told = AllByRecursion (λ t. IsSome t.1) told

-- what the service over a link goes by: the tokens that are known, what the pass asked and was answered so far, a place below
-- which all that lies, and the keepings that the pass has seen, whoever asked for them
pub record Account : Type 0 where
  pub tokens : TokenTable
  pub told : List Told
  pub front : ℕ
  pub keepings : List Keeping

abbrev pub account : {D K : Type 0} {g : Ghosts D K} → TokenTable → Hall D K → Pass D K g → Account
account tokens h p = record {
  tokens = tokens;
  told = told_by (lanes_in (opening h)) (view_of p).number (view_of p).seen;
  front = p.front;
  keepings = (view_of p).seen.keepings;
}

-- before anything was asked
abbrev pub unasked : TokenTable → Account
unasked tokens = record { tokens = tokens; told = []; front = 0; keepings = [] }

pub record IsReady {D K : Type 0} {g : Ghosts D K} (h : Hall D K) (p : Pass D K g) : Type 0 where
  pub of_this_hall : IsPassOf h p
  pub answered : AllAnswered (told_by (lanes_in (opening h)) (view_of p).number (view_of p).seen)

pub record HasAskedNothing (s t : Account) : Type 0 where
  pub tokens : t.tokens ≡ s.tokens
  pub told : t.told ≡ s.told
  pub front : t.front ≡ s.front
  pub longer : StartsWith t.keepings s.keepings
