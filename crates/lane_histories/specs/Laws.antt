-- What holds of every history.
use Rattle.std.specs.Prelude.{◌≡◌, ◌⊎◌, ℕ, ◌<◌, ◌≤◌, List, [], ◌∷◌, ◌++◌, Some, None, slice_get, if◌then◌else◌, ◌==◌}
use Rattle.std.specs.List.{AllByRecursion}
use Rattle.lane_histories.specs.Services.{Service, World}
use Rattle.lane_histories.specs.Histories.{Entry, Entered, History, IsIn, Keeping, StartsWith, own, Part, Outcome, Done, Short, Skipped, LaneItem, Passed, WasCut, LaneList, Reach, Ticket, register_after, register_at, issued, objects_after, places, ticket_of, tickets}
use Rattle.lane_histories.specs.TicketOrder.{Precedes}
use Rattle.lane_histories.specs.Legal.{HasTickets, IsPrefix, IsLegal, with_register_item}
use Rattle.lane_histories.specs.Replays.{IsReplay, replayed, staged}
use Rattle.lane_histories.specs.Replies.{What, answers, entry_at, outcome_of, reply}
use Rattle.lane_histories.specs.PlainReplays.{plain_answers, plainly}
use Rattle.lane_histories.specs.Kept.{IsKept, ToldWorld}
use Rattle.lane_histories.specs.Cuts.{GoesOn, IsWholeCut, last_cut}
use Rattle.lane_histories.specs.JournalContents.{JournalContents, TellsCuts}
use Rattle.lane_histories.specs.KeptContents.{IsAsFar, TellsKept}
use Rattle.lane_histories.specs.Desks.{AreOwn, IsImage, IsKeptImage, nowhere, own_after}
use Rattle.lane_histories.specs.Core.{Core, Event, IsOpened, Runs, history}

-- ---- parts of a history

-- each list may be cut short, as long as no lane is left with tickets that weren't issued
abbrev pub PrefixesAreLegal : Service → Type 0
PrefixesAreLegal s = (start : World s) (h g : History s) → IsLegal s start g → IsPrefix h g → HasTickets s h → IsLegal s start h

-- each verdict is one that the register may answer as it is at the request's place
abbrev pub VerdictsAreOfTheirPlaces : Service → Type 0
VerdictsAreOfTheirPlaces s =
    (start : World s) (h : History s) (e : Entry s.Asked s.Verdict) → IsLegal s start h → IsIn h.register (Entered e)
    → (e.place < places h.register) × s.MayAnswer (register_at s e.place start.register h.register) e.asked e.verdict

-- the catalogue of a place stays so as the history grows
abbrev pub CataloguesStay : Service → Type 0
CataloguesStay s =
    (start : World s) (h g : History s) (p : ℕ) → IsPrefix h g → p ≤ places h.register
    → s.catalogue (register_at s p start.register g.register) ≡ s.catalogue (register_at s p start.register h.register)

-- of two turns or cuts in a lane the earlier one has the ticket that was issued earlier
abbrev pub TurnsComeInOrder : Service → Type 0
TurnsComeInOrder s =
    (start : World s) (h : History s) → IsLegal s start h → (l : ℕ) (front back : LaneList s) (i k : LaneItem s.Task s.Reply)
    → h.lane l ≡ front ++ i ∷ back → IsIn back k → Precedes (ticket_of i) (ticket_of k)

-- the n-th item of a lane is of the n-th ticket
abbrev pub TicketsAreNumbered : Service → Type 0
TicketsAreNumbered s =
    (start : World s) (h : History s) → IsLegal s start h → (l n : ℕ) (i : LaneItem s.Task s.Reply)
    → slice_get (h.lane l) n ≡ Some i → slice_get (issued s l h.register) n ≡ Some (ticket_of i)

-- a ticket keeps its number as the history grows
abbrev pub TicketsStay : Service → Type 0
TicketsStay s =
    (h g : History s) → IsPrefix h g → (l n : ℕ) (ticket : Ticket s.Task)
    → slice_get (issued s l h.register) n ≡ Some ticket → slice_get (issued s l g.register) n ≡ Some ticket

-- ---- the replay of one world

-- it comes to what the register's list and each lane's list come to, each by itself: lanes don't meet
pub record IsProduct (s : Service) (start : World s) (h : History s) : Type 0 where
  pub legal : IsReplay s (staged start h.lane) 0 0 h.register
  pub register : (replayed s h.register (staged start h.lane)).register ≡ register_after s start.register h.register
  pub objects : (l : ℕ) → (replayed s h.register (staged start h.lane)).objects l ≡ objects_after s (start.objects l) (h.lane l)
  pub rest : (l : ℕ) → (replayed s h.register (staged start h.lane)).rest l ≡ []

abbrev pub ReplaysAreProducts : Service → Type 0
ReplaysAreProducts s = (start : World s) (h : History s) → IsLegal s start h → IsProduct s start h

-- lists whose replay may come so, and leaves no item, are legal
abbrev pub ReplaysAreLegal : Service → Type 0
ReplaysAreLegal s =
    (start : World s) (h : History s) → IsReplay s (staged start h.lane) 0 0 h.register
    → ((l : ℕ) → (replayed s h.register (staged start h.lane)).rest l ≡ []) → IsLegal s start h

-- the item found memory
abbrev pub IsFound : {T R : Type 0} → LaneItem T R → Type 0
IsFound (Passed place part task (Done reply)) = Unit {0}
IsFound (Passed place part task Short) = ⊥
IsFound (Passed place part task Skipped) = Unit {0}
IsFound (WasCut number c found) = Unit {0}

-- each ticket was passed, and each turn found memory
pub record IsWhole (s : Service) (h : History s) : Type 0 where
  pub all_passed : (l : ℕ) → tickets (h.lane l) ≡ issued s l h.register
  pub found : (l : ℕ) → AllByRecursion IsFound (h.lane l)

-- where all is done, the world is that of the plain replay
abbrev pub WholeIsPlain : Service → Type 0
WholeIsPlain s =
    (start : World s) (h : History s) → IsLegal s start h → IsWhole s h
    → ((plainly s h.register start).register ≡ register_after s start.register h.register)
    × ((l : ℕ) → (plainly s h.register start).objects l ≡ objects_after s (start.objects l) (h.lane l))

-- and so is each answer
abbrev pub WholeAnswersArePlain : Service → Type 0
WholeAnswersArePlain s =
    (start : World s) (h : History s) → IsLegal s start h → IsWhole s h → (place : ℕ) → place < places h.register
    → reply s h place ≡ slice_get (plain_answers s h.register start) place

-- ---- what a request is answered

-- it is what the replay of one world answers there
abbrev pub RepliesAreReplays : Service → Type 0
RepliesAreReplays s =
    (start : World s) (h : History s) → IsLegal s start h → (place : ℕ) → place < places h.register
    → slice_get (answers s h.register (staged start h.lane)) place ≡ Some (reply s h place)

-- and stays so as the history grows
abbrev pub RepliesStay : Service → Type 0
RepliesStay s =
    (h g : History s) (place : ℕ) (what : What s.Verdict s.Reply) → IsPrefix h g
    → reply s h place ≡ Some what → reply s g place ≡ Some what

-- an entry is the one that is found at its place
abbrev pub EntriesAreFound : Service → Type 0
EntriesAreFound s =
    (start : World s) (h : History s) (e : Entry s.Asked s.Verdict) → IsLegal s start h
    → IsIn h.register (Entered e) → entry_at e.place h.register ≡ Some e

-- an outcome is the one that is found of its part
abbrev pub OutcomesAreFound : Service → Type 0
OutcomesAreFound s =
    (start : World s) (h : History s) (l place : ℕ) (part : Part) (task : s.Task) (y : Outcome s.Reply) → IsLegal s start h
    → IsIn (h.lane l) (Passed place part task y) → outcome_of place part (h.lane l) ≡ Some y

-- ---- the entries of one pass

-- they stay as the history grows
abbrev pub OwnEntriesStay : Service → Type 0
OwnEntriesStay s = (h g : History s) (by : ℕ) → IsPrefix h g → StartsWith (own by g.register) (own by h.register)

-- what a pass asks is one more of its own entries, and none of another's
abbrev pub OwnEntriesGrow : Service → Type 0
OwnEntriesGrow s = (h : History s) (e : Entry s.Asked s.Verdict) (by : ℕ)
    → own by (with_register_item h (Entered e)).register ≡ own by h.register ++ (if e.by == by then e ∷ [] else [])

-- they stand in the order of their places, each once
abbrev pub OwnEntriesAreInOrder : Service → Type 0
OwnEntriesAreInOrder s =
    (start : World s) (h : History s) → IsLegal s start h → (by : ℕ) (front back : List (Entry s.Asked s.Verdict)) (e f : Entry s.Asked s.Verdict)
    → own by h.register ≡ front ++ e ∷ back → IsIn back f → e.place < f.place

-- those that come later have no place that was given before
abbrev pub OwnEntriesAreLater : Service → Type 0
OwnEntriesAreLater s =
    (start : World s) (h g : History s) → IsLegal s start g → IsPrefix h g → (by : ℕ) (more : List (Entry s.Asked s.Verdict)) (e : Entry s.Asked s.Verdict)
    → own by g.register ≡ own by h.register ++ more → IsIn more e → places h.register ≤ e.place

-- ---- what is kept

-- what is kept from a history is kept from each longer one
abbrev pub StaysKept : Service → Type 0
StaysKept s =
    (start : World s) (h g : History s) (w : ToldWorld s) (reach : Reach)
    → IsKept s start h w reach → IsLegal s start g → IsPrefix h g → IsKept s start g w reach

-- a content that tells what was cut tells a world that is kept, with the places at any whole drawn cut, or 0, and those at the last
-- of all cuts, if that is one of the register that found memory
abbrev pub CutPairsAreKept : (s : Service) → JournalContents s → Type 0
CutPairsAreKept s j =
    (start : World s) (h : History s) (x : j.Content) (reach : Reach) → IsLegal s start h → TellsCuts s j start h x
    → ((reach.c ≡ 0) ⊎ ((number : ℕ) × IsWholeCut s h number reach.c)) → last_cut None h.register ≡ Some reach.p
    → TellsKept s j start h x reach

-- it tells that still as requests and turns come, and no cut
abbrev pub CutsStayTold : (s : Service) → JournalContents s → Type 0
CutsStayTold s j =
    (start : World s) (h g : History s) (x : j.Content) → IsLegal s start h → GoesOn h g
    → TellsCuts s j start h x → TellsCuts s j start g x

-- ---- any events from the opening

abbrev pub CoresAreLegal : (s : Service) → JournalContents s → Type 0
CoresAreLegal s j =
    (start : World s) (opened core : Core s j) (events : List (Event s))
    → IsOpened start opened → Runs events opened core → IsLegal s start (history core)

-- the register and the objects of each lane are those of their lists
pub record StandsForLists {s : Service} {j : JournalContents s} (start : World s) (core : Core s j) : Type 0 where
  pub register : core.register ≡ register_after s start.register core.list
  pub objects : (l : ℕ) → core.objects l ≡ objects_after s (start.objects l) (core.items l)

abbrev pub CoresStandForLists : (s : Service) → JournalContents s → Type 0
CoresStandForLists s j =
    (start : World s) (opened core : Core s j) (events : List (Event s))
    → IsOpened start opened → Runs events opened core → StandsForLists start core

-- whatever a crash leaves tells a world that is kept
abbrev pub ImagesAreKept : (s : Service) → JournalContents s → Type 0
ImagesAreKept s j =
    (start : World s) (opened core : Core s j) (events : List (Event s))
    → IsOpened start opened → Runs events opened core → (x : j.Content) → IsImage x core.desk → IsKeptImage start (history core) core.desk x

-- the desk's own numbers are those of the last batch that was answered Ok, and each keeping says those at its end
abbrev pub KeepingsTell : (s : Service) → JournalContents s → Type 0
KeepingsTell s j =
    (start : World s) (opened core : Core s j) (events : List (Event s))
    → IsOpened start opened → Runs events opened core → (core.desk.own ≡ own_after nowhere core.keepings) × AreOwn nowhere core.keepings

-- the desk's own numbers never fall: what was kept at a turn of the journal is kept from then on
abbrev pub KeepingsLast : (s : Service) → JournalContents s → Type 0
KeepingsLast s j =
    (start : World s) (opened core : Core s j) (events : List (Event s))
    → IsOpened start opened → Runs events opened core → (k : Keeping) → IsIn core.keepings k → IsAsFar k.own core.desk.own
