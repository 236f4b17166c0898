-- The keys of a lane's records, and what records of other keys leave.
use Rattle.std.proofs.Common.{◌≡◌, ℕ, inl, inr, List, Some, None, option_and_then, sym, ap, subst, ◌∙◌}
use Rattle.std.specs.FinMap.{get}
use Rattle.std.specs.List.{AllByRecursion}
use Rattle.object_ids.specs.IdValues.{Id}
use Rattle.object_ids.specs.Ids.{InRange, lane_of}
use Rattle.object_acts.specs.declared.objects.Body.{Body}
use Rattle.object_acts.specs.declared.objects.Body.TheVariants as body
use Rattle.object_acts.specs.Objects.{kind_of_body}
use Rattle.flush_journal.specs.Records.{Held, Record, put_all}
use Rattle.flush_journal.proofs.OfCuts.CutLemmas.{all_more}
use Rattle.object_records.specs.Objects.{object_of_body}
use Rattle.object_records.proofs.OfKeys.KeyLaws.{objects_once}
use Rattle.chunk_owner.specs.declared.slots.slot.Mark.{Mark}
use Rattle.chunk_owner.specs.Slots.Slots.{HasCells, IsMarkedIn, chunks_at}
use Rattle.chunk_owner.specs.LaneLaws.{IsKeyAt, IsKeyOfLane, KeysAreOfOneId, KeysAreOfOneLane, MarksAreOfLane, OthersLeaveDescribed, OthersLeaveDescribedLane, OthersLeaveLane, OthersLeaveSaid}
use Rattle.chunk_owner.proofs.OfSlots.KeyFacts.{chunk_id_once, object_no_chunk}
use Rattle.chunk_owner.proofs.OfSlots.LaneCuts.{IsKeyApart, chunks_stay, object_stays, said_apart}

-- ---- keys

marked_key : (id : Id) (mark : Mark) (b : Body) (key : List ℕ) → IsMarkedIn id mark b key → IsKeyAt id key
marked_key id mark b key (inl m) = inl m.0
marked_key id mark b key (inr m) = inr (m.0, m.2, m.3, m.1)

pub marks_are_of_lane : MarksAreOfLane
marks_are_of_lane lanes lane slots home key m =
    record { id = m.id; range = m.range; home = home m.id m.slot m.here; part = marked_key m.id m.slot.mark m.slot.object.body key m.part }

pub keys_are_of_one_id : KeysAreOfOneId
keys_are_of_one_id a b ha hb key (inl f) (inl g) = objects_once a b ha hb (sym f ∙ g)
keys_are_of_one_id a b ha hb key (inl f) (inr g) = absurd (object_no_chunk a b g.0 (sym f ∙ g.3))
keys_are_of_one_id a b ha hb key (inr f) (inl g) = absurd (object_no_chunk b a f.0 (sym g ∙ f.3))
keys_are_of_one_id a b ha hb key (inr f) (inr g) = chunk_id_once a b f.0 g.0 ha hb f.2 g.2 f.1 g.1 (sym f.3 ∙ g.3)

pub keys_are_of_one_lane : KeysAreOfOneLane
keys_are_of_one_lane lanes a b key f g = sym f.home ∙ ap (lane_of lanes) (keys_are_of_one_id f.id g.id f.range g.range key f.part g.part) ∙ g.home

-- ---- records of other keys

key_apart : (id : Id) (key : List ℕ) → (IsKeyAt id key → ⊥) → IsKeyApart id key
key_apart id key other = (λ same. other (inl same), λ i index dataset same. other (inr (i, index, dataset, same)))

keys_apart : (id : Id) (added : List Record) → AllByRecursion (λ r. IsKeyAt id r.0 → ⊥) added → AllByRecursion (λ r. IsKeyApart id r.0) added
keys_apart id added = all_more (λ r. IsKeyAt id r.0 → ⊥) (λ r. IsKeyApart id r.0) added (λ r other. key_apart id r.0 other)

pub others_leave_said : OthersLeaveSaid
others_leave_said id added other held o kinds said = said_apart id added (keys_apart id added other) held o kinds said

cells_stay : (id : Id) (added : List Record) → AllByRecursion (λ r. IsKeyApart id r.0) added → (held : Held) (b : Body) → kind_of_body b ≡ id.kind
    → HasCells (chunks_at held id) b → HasCells (chunks_at (put_all added held) id) b
cells_stay id added apart held (body.Group links) kind has = tt
cells_stay id added apart held (body.Dataset array) kind has =
    subst (λ (f : List ℕ → List ℕ). HasCells f (body.Dataset array)) (sym (chunks_stay id added apart held (sym kind))) has
cells_stay id added apart held (body.Datatype type) kind has = tt

pub others_leave_described : OthersLeaveDescribed
others_leave_described id added other held None said = said_apart id added (keys_apart id added other) held None (λ s e. absurd (cc)) said
others_leave_described id added other held (Some o) said = let apart = keys_apart id added other in (
  said.0,
  ap (option_and_then (object_of_body (kind_of_body o.body))) (object_stays id added apart held) ∙ said.1,
  cells_stay id added apart held o.body said.0 said.2,
)

not_of_id : (lanes lane : ℕ) (id : Id) → InRange id → lane_of lanes id ≡ lane → (added : List Record) → AllByRecursion (λ r. IsKeyOfLane lanes lane r.0 → ⊥) added
    → AllByRecursion (λ r. IsKeyAt id r.0 → ⊥) added
not_of_id lanes lane id range home added = all_more (λ r. IsKeyOfLane lanes lane r.0 → ⊥) (λ r. IsKeyAt id r.0 → ⊥) added
    (λ r other part. other (record { id = id; range = range; home = home; part = part }))

pub others_leave_lane : OthersLeaveLane
others_leave_lane l added kinds other held said id range home =
    others_leave_said id added (not_of_id l.lanes l.lane id range home added other) held (get l.slots id) (λ s here. kinds id s here) (said id range home)

pub others_leave_described_lane : OthersLeaveDescribedLane
others_leave_described_lane lanes lane objects added other held said id range home =
    others_leave_described id added (not_of_id lanes lane id range home added other) held (get objects id) (said id range home)
