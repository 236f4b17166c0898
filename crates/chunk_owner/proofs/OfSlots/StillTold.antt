-- What records say of an object that is changed.
use Rattle.std.proofs.Common.{◌≡◌, ◌≢◌, ℕ, Bool, true, false, not, ◌&&◌, cond, List, [], Option, Some, option_and_then, Result, Ok, Err, refl, sym, ap, subst, ◌∙◌}
use Rattle.std.specs.FinMap.{get}
use Rattle.serde_json.specs.Data.{Data}
use Rattle.hyperslab.specs.declared.Slab.{Slab}
use Rattle.hyperslab.specs.declared.SlabFault.{SlabFault}
use Rattle.hyperslab.specs.Judged.{lists_slab}
use Rattle.hyperslab.specs.Selected.{slab_cells}
use Rattle.point_select.specs.declared.PointFault.{PointFault}
use Rattle.point_select.specs.Faults.{points_of}
use Rattle.object_ids.specs.IdValues.{Id}
use Rattle.groups_links.specs.declared.target.LinkTo.{LinkTo}
use Rattle.chunk_store.specs.Grids.{Grid}
use Rattle.object_ops.specs.declared.ops.Op.{Op}
use Rattle.object_ops.specs.declared.ops.Op.TheVariants.{PutValue}
use Rattle.object_ops.specs.declared.ops.Part.{Part}
use Rattle.object_ops.specs.declared.ops.Part.TheVariants as part
use Rattle.object_ops.specs.declared.refusals.Refusal.{Refusal}
use Rattle.object_ops.specs.declared.replies.Reply.{Reply}
use Rattle.object_ops.specs.declared.replies.Reply.TheVariants.{Done, Refused}
use Rattle.object_acts.specs.Arrays.Arrays.{bytes_written, points_written, slab_written, value_written}
use Rattle.object_acts.specs.declared.objects.Object.{Object}
use Rattle.object_acts.specs.declared.objects.Body.{Body}
use Rattle.object_acts.specs.declared.objects.Body.TheVariants as body
use Rattle.object_acts.specs.Objects.{IsTrackedBody, KeepsTrack, bare, kind_of_body, unmarked, unmarked_body}
use Rattle.object_acts.specs.Acts.{change_of, link_put, on_array, on_links, AttributeMap}
use Rattle.flush_journal.specs.Records.{Held}
use Rattle.object_records.specs.Entries.{entry_of, kept_of}
use Rattle.object_records.specs.Objects.{object_of_body}
use Rattle.object_records.specs.Keys.Keys.{object_key}
use Rattle.chunk_owner.specs.declared.slots.slot.Mark.{Mark}
use Rattle.chunk_owner.specs.declared.slots.slot.Mark.TheVariants.{Kept, Changed, Dropped}
use Rattle.chunk_owner.specs.declared.slots.slot.Slot.{Slot}
use Rattle.chunk_owner.specs.Slots.Changed.{is_outdated, writes_cells}
use Rattle.chunk_owner.specs.Slots.Slots.{AreChunksIn, HasRecord, Says, chunks_at}
use Rattle.containers.proofs.Passing.{contrary}
use Rattle.chunk_owner.proofs.OfSlots.Describing.{entry_unmarked}
use Rattle.chunk_owner.proofs.Eaches.{kind-unmarked}
use Rattle.object_ops.specs.Replies.{was_done}

-- ---- chunks

to_tracked_of : (m : Mark) (f : List ℕ → List ℕ) (b : Body) → m ≢ Dropped → AreChunksIn m f b → IsTrackedBody f b
to_tracked_of m f (body.Group links) live said = tt
to_tracked_of Kept f (body.Dataset array) live said = said
to_tracked_of Changed f (body.Dataset array) live said = said
to_tracked_of Dropped f (body.Dataset array) live said = absurd (live refl)
to_tracked_of m f (body.Datatype type) live said = tt

from_tracked : (m : Mark) (f : List ℕ → List ℕ) (b : Body) → m ≢ Dropped → IsTrackedBody f b → AreChunksIn m f b
from_tracked m f (body.Group links) live said = tt
from_tracked Kept f (body.Dataset array) live said = said
from_tracked Changed f (body.Dataset array) live said = said
from_tracked Dropped f (body.Dataset array) live said = absurd (live refl)
from_tracked m f (body.Datatype type) live said = tt

chunks_kept : (m n : Mark) (f : List ℕ → List ℕ) (a b : Body) → m ≢ Dropped → n ≢ Dropped → KeepsTrack a b → AreChunksIn m f a → AreChunksIn n f b
chunks_kept m n f a b live alive keeps said = from_tracked n f b alive (keeps f (to_tracked_of m f a live said))

-- ---- the record of an object

-- what is kept of two objects is the same
record Alike (a b : Object) : Type 0 where
  entry : entry_of b ≡ entry_of a
  kind : kind_of_body b.body ≡ kind_of_body a.body

unmarked_alike : (a b : Object) → unmarked b ≡ unmarked a → Alike a b
unmarked_alike a b same = record {
  entry = sym (entry_unmarked b) ∙ ap entry_of same ∙ entry_unmarked a;
  kind = sym (kind-unmarked b.body) ∙ ap (λ (o : Object). kind_of_body o.body) same ∙ kind-unmarked a.body;
}

record_alike : (m : Mark) (a b : Object) (found : Option (List ℕ)) → Alike a b → HasRecord m a found → HasRecord m b found
record_alike Kept a b found alike has = ap (λ k. option_and_then (object_of_body k) found) alike.kind ∙ has ∙ ap (λ e. Some e) (sym alike.entry)
record_alike Changed a b found alike has = tt
record_alike Dropped a b found alike has = tt

-- ---- cells that are written

-- a grid that may differ in its cells alone
record SameFrame (g h : Grid) : Type 0 where
  kind : h.kind ≡ g.kind
  shape : h.shape ≡ g.shape
  chunk : h.chunk ≡ g.chunk
  fill : h.fill ≡ g.fill

same_frame : (g : Grid) → SameFrame g g
same_frame g = record { kind = refl; shape = refl; chunk = refl; fill = refl }

written_frame : (g : Grid) (ats : List (List ℕ)) (r : Result (List ℕ) Refusal) → SameFrame g (bytes_written g ats r).1
written_frame g ats (Err refusal) = same_frame g
written_frame g ats (Ok bs) = record { kind = refl; shape = refl; chunk = refl; fill = refl }

slab_frame : (g : Grid) (tree : Data) (r : Result Slab SlabFault) → SameFrame g (slab_written g tree r).1
slab_frame g tree (Err f) = same_frame g
slab_frame g tree (Ok s) = written_frame g (slab_cells s g.shape) _

points_frame : (g : Grid) (tree : Data) (r : Result (List (List ℕ)) PointFault) → SameFrame g (points_written g tree r).1
points_frame g tree (Err f) = same_frame g
points_frame g tree (Ok ps) = written_frame g ps _

value_frame : (p : Part) (tree : Data) (g : Grid) → SameFrame g (value_written p tree g).1
value_frame (part.Slab start stop step) tree g = slab_frame g tree (lists_slab g.shape start stop step)
value_frame (part.Points points) tree g = points_frame g tree (points_of points g.shape)

frame_kept : (g h : Grid) → SameFrame g h → kept_of (body.Dataset (bare h)) ≡ kept_of (body.Dataset (bare g))
frame_kept g h same k = kept_of (body.Dataset (record { grid = record { kind = same.kind k; shape = same.shape k; chunk = same.chunk k; fill = same.fill k; values = g.values }; marks = [] }))

entry_with : (names : AttributeMap) (a b : Body) → kept_of b ≡ kept_of a → entry_of (record { attributes = names; body = b }) ≡ entry_of (record { attributes = names; body = a })
entry_with names a b same k = record { attributes = (entry_of (record { attributes = names; body = a })).attributes; kept = same k }

array_alike : (id : Id) (p : Part) (tree : Data) (names : AttributeMap) (b : Body) → Alike (record { attributes = names; body = unmarked_body b }) (on_array id (value_written p tree) names (unmarked_body b)).1
array_alike id p tree names (body.Group links) = record { entry = refl; kind = refl }
array_alike id p tree names (body.Dataset array) = record {
  entry = entry_with names (body.Dataset (bare array.grid)) (body.Dataset (bare (value_written p tree array.grid).1)) (frame_kept array.grid (value_written p tree array.grid).1 (value_frame p tree array.grid));
  kind = refl;
}
array_alike id p tree names (body.Datatype type) = record { entry = refl; kind = refl }

alike_from : (a b c : Object) → Alike (unmarked a) c → unmarked b ≡ c → Alike a b
alike_from a b c alike same = record {
  entry = sym (entry_unmarked b) ∙ ap entry_of same ∙ alike.entry ∙ entry_unmarked a;
  kind = sym (kind-unmarked b.body) ∙ ap (λ (o : Object). kind_of_body o.body) same ∙ alike.kind ∙ kind-unmarked a.body;
}

-- a write of cells
op_alike : (op : Op) (o : Object) → writes_cells op ≡ true → Alike (unmarked o) (change_of op (unmarked o)).1
op_alike (PutValue id p tree) o e = array_alike id p tree o.attributes o.body
op_alike op o e = contrary false (Alike (unmarked o) (change_of op (unmarked o)).1) e refl

-- ---- what an object is after a change that its record still tells

refused_by : (reply : Reply) (P : Type 0) → was_done reply ≡ false → ((refusal : Refusal) → reply ≡ Refused refusal → P) → P
refused_by (Done status body) P e f = contrary true P refl e
refused_by (Refused refusal) P e f = f refusal refl

either_false : (a b : Bool) (P : Type 0) → (a && not b) ≡ false → (a ≡ false → P) → (b ≡ true → P) → P
either_false true true P e f g = g refl
either_false true false P e f g = contrary true P refl e
either_false false b P e f g = f refl

told_after : (f : Object → Reply × Object) (o new : Object) (reply : Reply) → ((refusal : Refusal) → (f (unmarked o)).0 ≡ Refused refusal → (f (unmarked o)).1 ≡ unmarked o)
    → reply ≡ (f (unmarked o)).0 → unmarked new ≡ (f (unmarked o)).1 → was_done reply ≡ false → Alike o new
told_after f o new reply stays is left refused = refused_by reply (Alike o new) refused (λ refusal e. unmarked_alike o new (left ∙ stays refusal (sym is ∙ e)))

-- ---- what records say of the slot

slot_said : (s : Slot) (new : Object) (m : Mark) (id : Id) (held : Held) → s.mark ≢ Dropped → m ≢ Dropped → KeepsTrack s.object.body new.body
    → (HasRecord s.mark s.object (get held (object_key id)) → HasRecord m new (get held (object_key id)))
    → Says (Some s) id held → Says (Some (record { object = new; mark = m })) id held
slot_said s new m id held live alive keeps has said = (has said.0, chunks_kept s.mark m (chunks_at held id) s.object.body new.body live alive keeps said.1)

said_by_mark : (b : Bool) (s : Slot) (new : Object) (m : Mark) (id : Id) (held : Held) → m ≡ cond b Changed s.mark → s.mark ≢ Dropped → KeepsTrack s.object.body new.body → (b ≡ false → Alike s.object new)
    → Says (Some s) id held → Says (Some (record { object = new; mark = m })) id held
said_by_mark true s new m id held is live keeps alike said =
    subst (λ (k : Mark). Says (Some (record { object = new; mark = k })) id held) (sym is) (slot_said s new Changed id held live (λ e. absurd (cc)) keeps (λ has. tt) said)
said_by_mark false s new m id held is live keeps alike said =
    subst (λ (k : Mark). Says (Some (record { object = new; mark = k })) id held) (sym is)
    (slot_said s new s.mark id held live live keeps (record_alike s.mark s.object new (get held (object_key id)) (alike refl)) said)

-- memory ran out
pub unchanged_said : (s : Slot) (new : Object) (id : Id) (held : Held) → s.mark ≢ Dropped → KeepsTrack s.object.body new.body → unmarked new ≡ unmarked s.object
    → Says (Some s) id held → Says (Some (record { object = new; mark = s.mark })) id held
unchanged_said s new id held live keeps same said = said_by_mark false s new s.mark id held refl live keeps (λ e. unmarked_alike s.object new same) said

pub change_said : (op : Op) (s : Slot) (new : Object) (reply : Reply) (m : Mark) (id : Id) (held : Held)
    → ((o : Op) (x : Object) (refusal : Refusal) → (change_of o (unmarked x)).0 ≡ Refused refusal → (change_of o (unmarked x)).1 ≡ unmarked x)
    → reply ≡ (change_of op (unmarked s.object)).0 → unmarked new ≡ (change_of op (unmarked s.object)).1 → m ≡ cond (is_outdated op reply) Changed s.mark → s.mark ≢ Dropped → KeepsTrack s.object.body new.body
    → Says (Some s) id held → Says (Some (record { object = new; mark = m })) id held
change_said op s new reply m id held stays is left marked live keeps said = said_by_mark (is_outdated op reply) s new m id held marked live keeps
    (λ e. either_false (was_done reply) (writes_cells op) (Alike s.object new) e
    (told_after (change_of op) s.object new reply (stays op s.object) is left)
    (λ cells. alike_from s.object new (change_of op (unmarked s.object)).1 (op_alike op s.object cells) left))
    said

pub link_said : (at : Id) (title : List ℕ) (link : LinkTo) (s : Slot) (new : Object) (reply : Reply) (m : Mark) (id : Id) (held : Held)
    → ((i : Id) (t : List ℕ) (l : LinkTo) (o : Object) (refusal : Refusal) → (on_links i (link_put t l) o.attributes o.body).0 ≡ Refused refusal → (on_links i (link_put t l) o.attributes o.body).1 ≡ o)
    → reply ≡ (on_links at (link_put title link) (unmarked s.object).attributes (unmarked s.object).body).0 → unmarked new ≡ (on_links at (link_put title link) (unmarked s.object).attributes (unmarked s.object).body).1
    → m ≡ cond (was_done reply) Changed s.mark → s.mark ≢ Dropped → KeepsTrack s.object.body new.body
    → Says (Some s) id held → Says (Some (record { object = new; mark = m })) id held
link_said at title link s new reply m id held stays is left marked live keeps said = said_by_mark (was_done reply) s new m id held marked live keeps
    (told_after (λ o. on_links at (link_put title link) o.attributes o.body) s.object new reply (stays at title link (unmarked s.object)) is left) said

pub still_live : (b : Bool) (m n : Mark) → n ≡ cond b Changed m → m ≢ Dropped → n ≢ Dropped
still_live true m n is live gone = let both : Changed ≡ Dropped = sym is ∙ gone in absurd (cc)
still_live false m n is live gone = live (sym is ∙ gone)
