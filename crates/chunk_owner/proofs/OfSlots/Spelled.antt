-- Objects, each part of which can be spelled.
use Rattle.std.proofs.Common.{◌≡◌, Option, Some, None, refl, sym, subst}
use Rattle.std.specs.FinMap.{get}
use Rattle.flush_journal.specs.Records.{Held}
use Rattle.object_ids.specs.IdValues.{Id}
use Rattle.chunk_store.specs.Grids.{Grid}
use Rattle.object_acts.specs.declared.objects.Body.{Body}
use Rattle.object_acts.specs.declared.objects.Body.TheVariants as body
use Rattle.object_acts.specs.declared.objects.Object.{Object}
use Rattle.object_acts.specs.Objects.{IsOfKind, bare, unmarked}
use Rattle.object_records.specs.Objects.{IsKeptBody}
use Rattle.object_records.proofs.BodyLemmas.{kept_unmarked}
use Rattle.chunk_owner.specs.declared.slots.slot.Mark.{Mark}
use Rattle.chunk_owner.specs.declared.slots.slot.Mark.TheVariants.{Kept, Changed, Dropped}
use Rattle.chunk_owner.specs.declared.slots.slot.Slot.{Slot}
use Rattle.chunk_owner.specs.Installs.Records.{IsWholeObject}
use Rattle.chunk_owner.specs.Slots.Settled.{BodySettles, Settles, SettlesBy}
use Rattle.chunk_owner.specs.Slots.Slots.{AreOfKind, AreStill, Describes, IsSpelledSlot, IsStill, Says, Slots, object_by, object_of}
use Rattle.chunk_owner.proofs.OfInstalls.Walking.{unmarked_once}

-- ---- what is settled

body_spelled : (x y : Body) → BodySettles x y → IsKeptBody x → IsKeptBody y
body_spelled (body.Group links) y settles kept = subst IsKeptBody (sym settles) kept
body_spelled (body.Dataset array) y settles kept = subst IsKeptBody (sym settles.1)
    (subst (λ (g : Grid). IsKeptBody (body.Dataset (bare g))) (sym settles.2.grid) kept)
body_spelled (body.Datatype type) y settles kept = subst IsKeptBody (sym settles) kept

spelled_by : (mark : Mark) (s : Slot) (new : Option Slot) → SettlesBy mark s new → IsKeptBody s.object.body → IsSpelledSlot new
spelled_by Kept s new settles kept = subst IsSpelledSlot (sym settles.1) (body_spelled s.object.body settles.0.object.body settles.2.body kept)
spelled_by Changed s new settles kept = subst IsSpelledSlot (sym settles.1) (body_spelled s.object.body settles.0.object.body settles.2.body kept)
spelled_by Dropped s new settles kept = subst IsSpelledSlot (sym settles) tt

pub settles_spelled : (o new : Option Slot) → Settles o new → IsSpelledSlot o → IsSpelledSlot new
settles_spelled None new settles spelled = subst IsSpelledSlot (sym settles) tt
settles_spelled (Some s) new settles spelled = spelled_by s.mark s new settles spelled

-- ---- as requests see it

whole_unmarked : (o : Object) → IsKeptBody o.body → IsWholeObject (Some (unmarked o))
whole_unmarked o kept = (kept_unmarked o.body kept, λ k. record { attributes = o.attributes; body = unmarked_once o.body k })

whole_by : (mark : Mark) (o : Object) → IsKeptBody o.body → IsWholeObject (object_by mark o)
whole_by Kept o kept = whole_unmarked o kept
whole_by Changed o kept = whole_unmarked o kept
whole_by Dropped o kept = tt

pub spelled_is_whole : (o : Option Slot) → IsSpelledSlot o → IsWholeObject (object_of o)
spelled_is_whole None spelled = tt
spelled_is_whole (Some s) spelled = whole_by s.mark s.object spelled

-- ---- what is held

pub all_described : (slots : Slots) → AreOfKind slots → ((id : Id) → IsSpelledSlot (get slots id))
    → ((s : Slot) (id : Id) (held : Held) → IsOfKind id.kind s.object → IsKeptBody s.object.body → IsStill s → Says (Some s) id held → Describes held id (object_of (Some s)))
    → AreStill slots → (id : Id) (held : Held) → Says (get slots id) id held → Describes held id (object_of (get slots id))
all_described slots kinds spelled law still id held said = at (get slots id) refl (spelled id) said where
  at : (o : Option Slot) → get slots id ≡ o → IsSpelledSlot o → Says o id held → Describes held id (object_of o)
  at None e kept none_said = none_said
  at (Some s) e kept some_said = law s id held (kinds id s e) kept (still id s e) some_said
