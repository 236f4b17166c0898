-- The order in which the tickets of a lane are issued.
--     Precedes t u     t is issued before u
use Rattle.std.specs.Prelude.{◌≡◌, ◌⊎◌, ◌<◌, ◌≤◌}
use Rattle.lane_histories.specs.Histories.{Part, Only, First, Second, Ticket, part_of, cut_of}

-- a first turn and its second
abbrev pub IsPair : Part → Part → Type 0
IsPair Only next = ⊥
IsPair First Only = ⊥
IsPair First First = ⊥
IsPair First (Second a) = Unit {0}
IsPair (Second a) next = ⊥

-- of an earlier place, or the first of two turns; a cut behind all places below it, and before all others
abbrev pub Precedes : {T : Type 0} → Ticket T → Ticket T → Type 0
Precedes (part_of place part task) (part_of later next other) = (place < later) ⊎ ((place ≡ later) × IsPair part next)
Precedes (part_of place part task) (cut_of number c) = place < c
Precedes (cut_of number c) (part_of place part task) = c ≤ place
Precedes (cut_of number c) (cut_of later e) = (number < later) × (c ≤ e)
