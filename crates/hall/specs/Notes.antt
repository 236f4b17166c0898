-- What the note beside a journal's desk says.
--     world_in n          the world with which the hall began
--     seen_in n           the lists that were seen; none yet before the desk's first turn
--     owner_at owners l   the owner of a lane; one without objects where there is no such lane
--     of_lanes lanes h    lists, without those of lanes that aren't there
--     hall_notes lanes    notes, as a desk over so many lanes reads them
use Rattle.std.specs.Prelude.{◌≡◌, ℕ, zero, suc, List, [], ◌∷◌, Option, Some, None, get_or}
use Rattle.std.specs.FinMap.{empty}
use Rattle.std.specs.declared.snapshot.Snapshot.{Snapshot}
use Rattle.chunk_owner.specs.Lanes.{Lane, lane_with}
use Rattle.hall_rule.specs.Seen.{history_of, lane_of, nothing}
use Rattle.journal_desk.specs.Notes.{NoteOf}
use Rattle.service_core.specs.Worlds.{State}
use Rattle.service_histories.specs.ArrayServices.{array_service}
use Rattle.service_histories.specs.JournalParts.{kept_register}
use Rattle.service_histories.specs.KeptArrays.{array_kept}
use Rattle.service_histories.specs.Tellings.{opening}
use Rattle.hall.specs.Answers.{ArrayLists, ArrayStart, ArrayView}
use Rattle.hall.specs.declared.note.HallNote.{HallNote}

-- ---- with what the hall began

-- what a pass that was joined into another knows of it
abbrev pub no_world : State
no_world = record {
  register = kept_register (record { contents = record { nodes = empty; next = 0 }; run = 0 });
  lanes = [];
}

abbrev pub world_known : {K : Type 0} → Option (ArrayStart K) → State
world_known None = no_world
world_known (Some start) = record { register = start.register; lanes = start.owners }

-- by the pass off which the note was cut; before the desk's first turn, as it was told
abbrev pub world_by : {K : Type 0} → List (ArrayView K) → Option (Snapshot State) → State
world_by [] None = no_world
world_by [] (Some told) = told.value
world_by (v ∷ vs) told = world_known v.start

abbrev pub world_in : {K : Type 0} → HallNote K → State
world_in n = world_by n.badge.views n.world

-- ---- what was seen

abbrev pub lists_in : {K : Type 0} → List (ArrayView K) → List Lane → ArrayLists
lists_in [] owners = nothing owners
lists_in (v ∷ vs) owners = v.seen

abbrev pub seen_in : {K : Type 0} → HallNote K → ArrayLists
seen_in n = lists_in n.badge.views (world_in n).lanes

abbrev pub no_owner : Lane
no_owner = lane_with 0 0 empty

abbrev pub owner_at : List Lane → ℕ → Lane
owner_at owners l = get_or owners l no_owner

-- the values at the first lanes
abbrev pub listed : {X : Type 0} → ℕ → (ℕ → X) → List X
listed zero f = []
listed (suc lanes) f = f 0 ∷ listed lanes (λ l. f (suc l))

abbrev pub of_lanes : ℕ → ArrayLists → ArrayLists
of_lanes lanes h = record h { lanes = listed lanes (λ l. lane_of h.lanes l); was = listed lanes (λ l. owner_at h.was l) }

-- there are no others
pub record AreOfLanes (lanes : ℕ) (h : ArrayLists) : Type 0 where
  pub lists : history_of (array_service lanes) (of_lanes lanes h) ≡ history_of (array_service lanes) h
  pub was : owner_at (of_lanes lanes h).was ≡ owner_at h.was

-- ---- what a desk reads of it

abbrev pub hall_notes : {K : Type 0} → ℕ → NoteOf (HallNote K)
hall_notes lanes = record {
  kept = array_kept lanes;
  start = λ n. opening lanes (world_in n);
  history = λ n. history_of (array_service lanes) (seen_in n);
  was = λ n. owner_at (seen_in n).was;
}
