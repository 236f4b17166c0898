-- Once all is kept, the next cut writes nothing; and a cut that found no memory stops so.
use Rattle.std.proofs.Common.{◌≡◌, inl, inr, ℕ, false, is_some, ◌||◌, ◌&&◌, Result, Ok, Err, OnErr, OnOk, List, [], ◌∷◌, sym, ap, subst, ◌∙◌, true≢false}
use Rattle.std.specs.FinMap.{contains_key, get-empty}
use Rattle.containers.specs.TextMaps.Keyed.{text_order}
use Rattle.object_ids.specs.IdValues.{Id}
use Rattle.flush_journal.specs.Records.{Record}
use Rattle.object_acts.specs.declared.objects.Body.{Body}
use Rattle.object_acts.specs.declared.objects.Body.TheVariants as body
use Rattle.chunk_owner.specs.Slots.Slots.{IsMarkedIn as IsMarkedAt, IsMeantIn, IsStillBody}
use Rattle.chunk_owner.specs.declared.slots.slot.Mark.{Mark}
use Rattle.chunk_owner.specs.declared.slots.slot.Mark.TheVariants.{Kept}
use Rattle.chunk_owner.specs.Lanes.{Lane}
use Rattle.chunk_owner.specs.Owners.Cutting.{CutsFront}
use Rattle.chunk_owner.specs.Owners.Records.{AreStillIn, IsMarkedIn}
use Rattle.register.specs.Decided.{RegisterState}
use Rattle.register.specs.Kept.{IsRegisterMarked, is_marked_in}
use Rattle.register.specs.Kept.IsRegisterMarked.{the_run, the_next, a_node}
use Rattle.register.specs.Marks.{Marked, no_marks}
use Rattle.service_core.specs.Cutting.{IsCutRegister, StopsCut, in_lane}
use Rattle.service_core.specs.Records.{IsCutRecord, IsKept, IsWorldMarked}
use Rattle.service_core.specs.Worlds.{State}

register_still : (d : RegisterState) (key : List ℕ) → d.marks ≡ no_marks → IsRegisterMarked d key → ⊥
register_still d key marks (the_run due is) = true≢false (sym due ∙ ap (λ (m : Marked). m.run) marks)
register_still d key marks (the_next due is) = true≢false (sym due ∙ ap (λ (m : Marked). m.next) marks)
register_still d key marks (a_node path due is) =
    true≢false (sym due ∙ ap (λ (m : Marked). is_marked_in d.catalogue m path) marks ∙ ap (λ b. b || (false && contains_key d.catalogue.nodes path)) (ap is_some (get-empty text_order path)))

-- no chunk of an array that is still is written
body_still : (b : Body) (i : List ℕ) → IsStillBody b → IsMeantIn Kept b i → ⊥
body_still (body.Group links) i still meant = meant
body_still (body.Dataset array) i still meant = true≢false (sym meant ∙ still i)
body_still (body.Datatype type) i still meant = meant

slot_still : (id : Id) (m : Mark) (b : Body) (key : List ℕ) → m ≡ Kept → IsStillBody b → IsMarkedAt id m b key → ⊥
slot_still id m b key kept still (inl marked) = marked.1 kept
slot_still id m b key kept still (inr marked) = body_still b marked.0 still (subst (λ (n : Mark). IsMeantIn n b marked.0) kept marked.4)

lanes_still : (lanes : List Lane) (key : List ℕ) → AreStillIn lanes → IsMarkedIn lanes key → ⊥
lanes_still [] key still marked = marked
lanes_still (l ∷ ls) key still (inl m) = let s = still.0 m.id m.slot m.here in slot_still m.id m.slot.mark m.slot.object.body key s.0 s.1 m.part
lanes_still (l ∷ ls) key still (inr more) = lanes_still ls key still.1 more

unmarked : (s : State) (key : List ℕ) → IsKept s → IsWorldMarked s key → ⊥
unmarked s key kept (inl register) = register_still s.register key (ap (λ (d : RegisterState). d.marks) kept.register) register
unmarked s key kept (inr lanes) = lanes_still s.lanes key kept.lanes lanes

pub nothing_to_cut : (s : State) → IsKept s → (r : Record) → IsCutRecord s r → ⊥
nothing_to_cut s kept r cut = unmarked s r.0 kept cut.marked

-- ---- a cut that found no memory

pub err_stops : {A E : Type 0} {P : Type 0} (r : Result A E) → P → OnErr r P
err_stops (Ok x) p = tt
err_stops (Err e) p = p

pub ok_always : {A E : Type 0} {P : Type 0} (r : Result A E) → P → OnOk r P
ok_always (Ok x) p = p
ok_always (Err e) p = tt

-- in a lane
pub lanes_stop : {E : Type 0} (r : Result (Unit {0}) E) (d new : RegisterState) (ls left : List Lane) (first mid last : List Record) → IsCutRegister d new first mid → OnErr r (CutsFront ls left mid last)
    → OnErr r (StopsCut (record { register = d; lanes = ls }) (record { register = new; lanes = left }) first last)
lanes_stop (Ok u) d new ls left first mid last register front = tt
lanes_stop (Err e) d new ls left first mid last register front = in_lane mid register front
