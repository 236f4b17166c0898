-- What no history has.
use Rattle.std.proofs.Common.{◌≡◌, ◌⊎◌, ⊎_elim, ℕ, zero, suc, ◌+◌, ◌<◌, ◌≤◌, Bool, true, false, not, List, [], ◌∷◌, refl, ap, sym, ◌∙◌, subst, arith}
use Rattle.lane_histories.specs.Histories.{History, IsIn, LaneList, issued, RegisterList, objects_step, register_at}
use Rattle.lane_histories.specs.declared.items.Entry.{Entry}
use Rattle.lane_histories.specs.declared.items.RegisterItem.{RegisterItem}
use Rattle.lane_histories.specs.declared.items.RegisterItem.TheVariants.{Entered, DrawnCut, RegisterCut}
use Rattle.lane_histories.specs.declared.items.LaneItem.{LaneItem}
use Rattle.lane_histories.specs.declared.items.LaneItem.TheVariants.{Passed}
use Rattle.lane_histories.specs.declared.items.Outcome.{Outcome}
use Rattle.lane_histories.specs.declared.items.Outcome.TheVariants.{Short, Skipped}
use Rattle.lane_histories.specs.declared.items.Part.{Part}
use Rattle.lane_histories.specs.declared.items.Part.TheVariants.{Only}
use Rattle.lane_histories.specs.Legal.{IsLegal, IsLegalLane, IsLegalOutcome, IsLegalRegister, is_skipped, is_well}
use Rattle.lane_histories.specs.Services.{World}
use Rattle.lane_histories.specs.TicketOrder.{IsPair}
use Rattle.lane_histories.specs.JournalContents.{TellsAll}
use Rattle.lane_histories.specs.Kept.{IsKept, IsKeptLane, IsKeptWith, ToldWorld}
use Rattle.lane_histories.specs.Core.{history}
use Rattle.lane_tests.specs.declared.examples.requests.Request.{Request}
use Rattle.lane_tests.specs.declared.examples.requests.Request.TheVariants.{Looks, Writes, Revokes}
use Rattle.lane_tests.specs.declared.examples.requests.Verdict.{Verdict}
use Rattle.lane_tests.specs.declared.examples.requests.Verdict.TheVariants.{Granted}
use Rattle.lane_tests.specs.Examples.Notes.{contents, notes, right_after, verdict_of}
use Rattle.lane_tests.specs.Examples.Cuts.{after_early, after_late, ahead_of_its_list, start, to_its_append, under_the_old_list, written_later}
use Rattle.lane_tests.specs.Examples.Links.{Objects, Task, forget, links}
use Rattle.lane_tests.specs.Examples.Refuted.{HasPair}
use Rattle.lane_tests.specs.Examples.Revoked.{revoked_first}
use Rattle.lane_tests.proofs.OfExamples.CutRuns.{one_cut}

-- ---- a verdict by an older list

none_after : (request : Request) → right_after false request ≡ false
none_after Looks = refl
none_after (Writes note) = refl
none_after Revokes = refl

stays_gone : (n : ℕ) (items : RegisterList notes) → register_at notes n false items ≡ false
stays_gone n [] = refl
stays_gone n (DrawnCut number c ∷ items) = stays_gone n items
stays_gone n (RegisterCut p found ∷ items) = stays_gone n items
stays_gone zero (Entered e ∷ items) = refl
stays_gone (suc n) (Entered e ∷ items) = ap (λ (right : Bool). register_at notes n right items) (none_after e.asked) ∙ stays_gone n items

no_earlier : (right : Bool) (p c : ℕ) (items : RegisterList notes) (e : Entry Request Verdict)
    → IsLegalRegister notes right p c items → IsIn items (Entered e) → p ≤ e.place
no_earlier right p c [] e legal here = absurd here
no_earlier right p c (Entered x ∷ items) e legal here = ⊎_elim
    (λ (same : ◌≡◌ {A = RegisterItem Request Verdict} (Entered x) (Entered e)). let is : x ≡ e = cc in let there = legal.0.0 in let place = ap (λ (z : Entry Request Verdict). z.place) is in omega arith)
    (λ later. let behind = no_earlier (right_after right x.asked) (suc p) c items e legal.1 later in omega arith)
    here
no_earlier right p c (DrawnCut number at ∷ items) e legal here = ⊎_elim (λ same. absurd (cc)) (λ later. no_earlier right p (suc c) items e legal.1 later) here
no_earlier right p c (RegisterCut q found ∷ items) e legal here = ⊎_elim (λ same. absurd (cc)) (λ later. no_earlier right p c items e legal.1 later) here

gone_behind : (right : Bool) (p c n : ℕ) (items : RegisterList notes) (e : Entry Request Verdict)
    → IsLegalRegister notes right p c items → IsIn items (Entered e) → e.asked ≡ Revokes → e.place < p + n
    → register_at notes n right items ≡ false
gone_behind right p c n [] e legal here asked below = absurd here
gone_behind right p c zero (Entered x ∷ items) e legal here asked below = let from = no_earlier right p c (Entered x ∷ items) e legal here in absurd (omega arith)
gone_behind right p c (suc n) (Entered x ∷ items) e legal here asked below = ⊎_elim
    (λ (same : ◌≡◌ {A = RegisterItem Request Verdict} (Entered x) (Entered e)).
    let is : x ≡ e = cc in
    let gone : right_after right x.asked ≡ false = ap (λ (z : Entry Request Verdict). right_after right z.asked) is ∙ ap (right_after right) asked in
    ap (λ (r : Bool). register_at notes n r items) gone ∙ stays_gone n items)
    (λ later. gone_behind (right_after right x.asked) (suc p) c n items e legal.1 later asked (omega arith))
    here
gone_behind right p c n (DrawnCut number at ∷ items) e legal here asked below = ⊎_elim (λ same. absurd (cc)) (λ later. gone_behind right p (suc c) n items e legal.1 later asked below) here
gone_behind right p c n (RegisterCut q found ∷ items) e legal here asked below = ⊎_elim (λ same. absurd (cc)) (λ later. gone_behind right p c n items e legal.1 later asked below) here

denied_there : (request : Request) (note : ℕ) → Granted note ≡ verdict_of false request → ⊥
denied_there Looks note e = cc
denied_there (Writes other) note e = cc
denied_there Revokes note e = cc

-- the register as it is at the place of the one who asks
pub not_granted : (before : Bool) (items : RegisterList notes) (e f : Entry Request Verdict) (note : ℕ)
    → IsLegalRegister notes before 0 0 items → IsIn items (Entered e) → e.asked ≡ Revokes → e.place < f.place
    → f.verdict ≡ verdict_of (register_at notes f.place before items) f.asked → f.verdict ≡ Granted note → ⊥
not_granted before items e f note legal here asked after may granted =
    let gone = gone_behind before 0 0 f.place items e legal here asked (omega arith) in
    denied_there f.asked note (sym granted ∙ may ∙ ap (λ (right : Bool). verdict_of right f.asked) gone)

-- ---- a turn behind one of a later place

pub no_later_first : (p q : ℕ) (a b : Part) → p < q → (q < p) ⊎ ((q ≡ p) × IsPair a b) → ⊥
no_later_first p q a b below first = ⊎_elim (λ less. omega arith) (λ pair. let same = pair.0 in omega arith) first

-- ---- a turn that is passed over

-- the two turns of a request agree
pub pair_agrees : (before : World links) (h : History links) → IsLegal links before h → (x y : Outcome Bool) → HasPair h x y
    → is_skipped y ≡ not (is_well links x)
pair_agrees before h legal x y pair = legal.pairs pair.first_lane pair.second_lane pair.place pair.task pair.next x y pair.first pair.second

pub no_only : (o : Objects) (items : LaneList links) (place : ℕ) (task : Task) → IsLegalLane links o items
    → IsIn items (Passed place Only task Skipped) → ⊥
no_only o [] place task legal here = here
no_only o (i ∷ items) place task legal here = ⊎_elim
    (λ (same : i ≡ Passed place Only task Skipped). let first : IsLegalLane links o (Passed place Only task Skipped ∷ []) = subst (λ (x : LaneItem Task Bool). IsLegalLane links o (x ∷ [])) same (legal.0, tt) in first.0)
    (λ later. no_only (objects_step links o i) items place task legal.1 later)
    here

-- ---- a turn that takes no memory

no_short_at : (part : Part) (o : Objects) → IsLegalOutcome links o part forget Short → ⊥
no_short_at part o legal = legal

pub no_short_drop : (o : Objects) (items : LaneList links) (place : ℕ) (part : Part) → IsLegalLane links o items → IsIn items (Passed place part forget Short) → ⊥
no_short_drop o [] place part legal here = here
no_short_drop o (i ∷ items) place part legal here = ⊎_elim
    (λ (same : i ≡ Passed place part forget Short).
    let first : IsLegalLane links o (Passed place part forget Short ∷ []) = subst (λ (x : LaneItem Task Bool). IsLegalLane links o (x ∷ [])) same (legal.0, tt) in no_short_at part o first.0)
    (λ later. no_short_drop (objects_step links o i) items place part legal.1 later)
    here

-- ---- a batch with the places at its append

no_ninth : (number : ℕ) → IsIn after_early.list (DrawnCut number 9) → ⊥
no_ninth number here = let cut = one_cut after_early.list 7 number 9 refl here in let same = cut.1 in omega arith

pub not_so_far : (w : ToldWorld notes) → IsKept notes start (history after_early) w to_its_append → ⊥
not_so_far w kept = ⊎_elim (λ (none : 9 ≡ 0). omega arith) (λ cut. no_ninth cut.0 cut.1) kept.cut

no_note : ◌≡◌ {A = List ℕ} [] (5 ∷ []) → ⊥
no_note e = cc

empty_later : (catalogue : Bool) (kept : List ℕ) (k : ℕ) → [] ≡ kept
    → IsKeptLane notes catalogue [] kept (written_later.items 0) to_its_append k → ⊥
empty_later catalogue kept zero empty lane = let place = lane.all.1.0 in omega arith
empty_later catalogue kept (suc zero) empty lane = let place = lane.all.0 in omega arith
empty_later catalogue kept (suc (suc zero)) empty lane = absurd (no_note (empty ∙ lane.objects))
empty_later catalogue kept (suc (suc (suc k))) empty lane = let few = lane.few in omega arith

pub not_so_far_later : (w : ToldWorld notes) (k : ℕ → ℕ) → TellsAll contents after_early.desk.held w
    → IsKeptWith notes start (history written_later) w to_its_append k → ⊥
not_so_far_later w k told kept = empty_later w.catalogue (w.objects 0) (k 0) (told.lanes 0 (omega arith)) (kept.lanes 0 (omega arith))

-- ---- two lists at once

pub not_older : (w : ToldWorld notes) (k : ℕ → ℕ) → w.catalogue ≡ true
    → IsKeptWith notes start (history (after_late true)) w to_its_append k → ⊥
not_older w k right kept = let gone : true ≡ false = sym right ∙ kept.catalogue in absurd (cc)

note_there : (catalogue : Bool) (kept : List ℕ) (k : ℕ) → kept ≡ 5 ∷ []
    → IsKeptLane notes catalogue [] kept ((after_late true).items 0) under_the_old_list k → ⊥
note_there catalogue kept zero written lane = absurd (no_note (sym (sym written ∙ lane.objects)))
note_there catalogue kept (suc k) written lane = let place = lane.below.0 in omega arith

pub not_newer : (w : ToldWorld notes) (k : ℕ → ℕ) → w.objects 0 ≡ 5 ∷ []
    → IsKeptWith notes start (history (after_late true)) w under_the_old_list k → ⊥
not_newer w k written kept = note_there w.catalogue (w.objects 0) (k 0) written (kept.lanes 0 (omega arith))

pub not_ahead : (h : History notes) (w : ToldWorld notes) (k : ℕ → ℕ) → IsKeptWith notes start h w ahead_of_its_list k → ⊥
not_ahead h w k kept = let order = kept.order in omega arith

-- ---- a verdict where the right went

pub revoked_legal : (verdict : Verdict) → verdict ≡ verdict_of false (Writes 5) → IsLegal notes start (revoked_first verdict)
revoked_legal verdict is = record {
  register = ((refl, refl), ((refl, is), tt));
  lanes = λ l. tt;
  in_order = λ l. (issued notes l (revoked_first verdict).register, refl);
  pairs = λ a b place task next x y first second. absurd first;
}
