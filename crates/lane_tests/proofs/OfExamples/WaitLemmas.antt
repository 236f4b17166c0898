-- Events that have to wait for others.
use Rattle.std.proofs.Common.{◌≡◌, inl, inr, ℕ, Bool, true, false, List, [], ◌∷◌, Some, None, refl, subst, sym, arith}
use Rattle.lane_histories.specs.Histories.{Ticket, part_of, cut_of}
use Rattle.lane_histories.specs.declared.items.Outcome.{Outcome}
use Rattle.lane_histories.specs.declared.items.Part.{Part}
use Rattle.lane_histories.specs.declared.items.Part.TheVariants.{Second}
use Rattle.lane_histories.specs.Legal.{IsReached}
use Rattle.lane_histories.specs.Core.{Core, Happens, IsIdle, Runs, appends, cuts_register, history, settles, takes_turn}
use Rattle.lane_tests.specs.Examples.Cuts.{Notes, after_late, drawn_early, drawn_late, nothing_held, opened, register_first, register_short}
use Rattle.lane_tests.specs.Examples.Links.{Task, contents, links, make_at}
use Rattle.lane_tests.specs.Examples.Made.{both_out}
use Rattle.lane_tests.specs.Examples.Tears.{torn_core}
use Rattle.lane_tests.proofs.OfExamples.CutRuns.{no_cut_yet}

nothing : {X : Type 0} (x : X) → None ≡ Some x → ⊥
nothing x e = cc

something : {X : Type 0} (x : X) → Some x ≡ None → ⊥
something x e = cc

never : true ≡ false → ⊥
never e = cc

-- ---- appends and settles

pub short_runs : Runs (cuts_register false ∷ []) opened register_short
short_runs = (register_short, (refl, (record { settled = refl; cuts = no_cut_yet opened refl }, (nothing_held, (λ l o told. told), refl))), refl)

pub no_short : (ok : Bool) (before after moment : ℕ) (new : Notes) → Happens (appends ok before after moment) register_short new → ⊥
no_short ok before after moment new happens = nothing happens.1.reach.p happens.1.register

pub no_drawn : (ok : Bool) (before after moment : ℕ) (new : Notes) → Happens (appends ok before after moment) register_first new → ⊥
no_drawn ok before after moment new happens = nothing happens.1.reach.p happens.1.register

pub no_torn : (ok : Bool) (before after moment : ℕ) (new : Notes) → Happens (appends ok before after moment) torn_core new → ⊥
no_torn ok before after moment new happens = never (happens.1.whole 0 (omega arith))

pub no_pending : (ok : Bool) (before after moment : ℕ) (new : Notes) → Happens (appends ok before after moment) (after_late false) new → ⊥
no_pending ok before after moment new happens = something _ happens.1.idle.settled

pub no_settled : (ok : Bool) (before after moment : ℕ) (new : Notes) → Happens (settles ok before after moment) (after_late true) new → ⊥
no_settled ok before after moment new happens = nothing happens.1.batch happens.1.pending

-- ---- cuts

pub out_late : IsIdle drawn_late → ⊥
out_late idle = (idle.cuts 0 0 9 (omega arith) (inr (inr (inr (inr (inr (inr (inr (inr (inr (inl refl))))))))))).1

pub pending_late : IsIdle (after_late false) → ⊥
pending_late idle = something _ idle.settled

-- ---- turns

no_part : (place : ℕ) (part : Part) (task number c : ℕ) (ts us : List (Ticket ℕ)) → ◌≡◌ {A = List (Ticket ℕ)} (cut_of number c ∷ ts) (part_of place part task ∷ us) → ⊥
no_part place part task number c ts us e = cc

pub no_turn_yet : (y : Outcome ℕ) (new : Notes) → Happens (takes_turn 0 y) drawn_early new → ⊥
no_turn_yet y new happens = let turn = happens.1 in no_part turn.place turn.part turn.task 0 7 _ turn.next.0 turn.next.1

second_is : (place : ℕ) (part : Part) (task : Task) (ts us : List (Ticket Task)) → ◌≡◌ {A = List (Ticket Task)} (part_of 0 (Second 0) (make_at 1) ∷ ts) (part_of place part task ∷ us) → Second 0 ≡ part
second_is place part task ts us e = cc

pub no_second_yet : (y : Outcome Bool) (new : Core links contents) → Happens (takes_turn 1 y) both_out new → ⊥
no_second_yet y new happens =
    let turn = happens.1 in
    let part = second_is turn.place turn.part turn.task _ turn.next.0 turn.next.1 in
    let reached : IsReached links (history both_out) turn.place (Second 0) y = subst (λ (p : Part). IsReached links (history both_out) turn.place p y) (sym part) turn.reached in
    reached.2
