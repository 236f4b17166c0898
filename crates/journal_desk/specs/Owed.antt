-- What a desk owes its disk.
--     HasCutsSince ..      records that are just what cuts added since a moment whose cuts are kept
--     OwesCuts ..          what is pending is that, or else what was cut and not appended yet
--     bytes_of rs          how long a batch is in the journal's file
--     since_held d         the note as it was when what is pending is held, or else what is held
--     AppendsCuts ..       what a turn adds to the file: what was pending, and what cuts added since that
use Rattle.std.specs.Prelude.{◌≡◌, ◌⊎◌, ℕ, ◌+◌, List, [], ◌∷◌, Option, Some, None, Result, OnErr, OnOk}
use Rattle.flush_journal.specs.Frames.{frame_size}
use Rattle.flush_journal.specs.Records.{Record}
use Rattle.flush_journal.specs.declared.why.Why.{Why}
use Rattle.lane_histories.specs.Services.{World}
use Rattle.lane_histories.specs.Histories.{History}
use Rattle.lane_histories.specs.declared.items.Reach.{Reach}
use Rattle.lane_histories.specs.Cuts.{IsCutTo, register_cut}
use Rattle.journal_desk.specs.KeptServices.{KeptService}
use Rattle.journal_desk.specs.Cuts.{AddCuts}
use Rattle.journal_desk.specs.Notes.{NoteOf}
use Rattle.journal_desk.specs.Standing.{Standing}

-- ---- the batch

-- the last cuts of these lists, after which the lanes were so, have the numbers of what is kept
pub record HasCutsSince (k : KeptService) (start : World k.service) (since : History k.service) (first : ℕ → k.marking.Marked)
    (h : History k.service) (was : ℕ → k.marking.Marked) (kept : Reach) (rs : List Record) : Type 0 where
  pub lanes : IsCutTo k.service since kept.c
  pub register : kept.p ≡ register_cut since.register
  pub added : AddCuts k start since first h was rs

-- while a batch is pending, nothing was cut behind it
abbrev pub OwesCuts : (k : KeptService) (start : World k.service) (since : History k.service) (first : ℕ → k.marking.Marked)
    (h : History k.service) (was : ℕ → k.marking.Marked) → Option (List Record) → List Record → Reach → Type 0
OwesCuts k start since first h was None building kept = HasCutsSince k start since first h was kept building
OwesCuts k start since first h was (Some rs) building kept = (building ≡ []) × HasCutsSince k start since first h was kept rs

-- ---- what is written of it

-- of a batch without a record nothing is written
abbrev pub bytes_of : List Record → ℕ
bytes_of [] = 0
bytes_of (r ∷ rs) = frame_size (r ∷ rs)

abbrev pub pending_bytes : Option (List Record) → ℕ
pending_bytes None = 0
pending_bytes (Some rs) = frame_size rs

abbrev pub note_held : {N : Type 0} → Option (List Record) → N → N → N
note_held None since note = since
note_held (Some rs) since note = note

abbrev pub since_held : {D N : Type 0} → Standing D N → N
since_held d = note_held d.pending d.since d.note

-- Where the turn is answered Ok, the journal's end is behind what was pending and behind one batch: just what cuts added since that, and all
-- of it. Else it is where it was, or behind what was pending.
pub record AppendsCuts {D N T : Type 0} (notes : NoteOf N) (old new : Standing D N) (result : Result T Why) : Type 0 where
  pub done : OnOk result ((rs : List Record)
      × AddCuts notes.kept (notes.start old.note) (notes.history (since_held old)) (notes.was (since_held old)) (notes.history new.note)
      (notes.was new.note) rs × (new.end ≡ old.end + pending_bytes old.pending + bytes_of rs) × (new.since ≡ new.note))
  pub refused : OnErr result (((new.end ≡ old.end) × (new.since ≡ old.since))
      ⊎ ((new.end ≡ old.end + pending_bytes old.pending) × (new.since ≡ since_held old)))
