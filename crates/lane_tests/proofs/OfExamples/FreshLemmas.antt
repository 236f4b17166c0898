-- The next serial is a fresh id: what the register gave out before is all that a lane has when the turn comes.
use Rattle.std.proofs.Common.{ℕ, ◌+◌, ◌<◌, Bool, true, false, cond, [], ◌∷◌, subst, sym, arith}
use Rattle.std.specs.Prelude.{◌==◌}
use Rattle.lane_histories.specs.Ready.{AreReady, GivesOut}
use Rattle.lane_tests.specs.Examples.Links.{AreGiven, Register, IsWithout, Needs, Objects, Request, Verdict, drop_all, linked, links, look, make_in, readiness, turns_of, verdict_of}

one_more : (d e : Register) (os : Objects) → d.serial < e.serial + 1 → AreGiven d os → AreGiven e os
one_more d e [] more given = tt
one_more d e (o ∷ os) more given = let below = given.0 in (omega arith, one_more d e os more given.1)

without : (d : Register) (os : Objects) → AreGiven d os → IsWithout d.serial os
without d [] given = tt
without d (o ∷ os) given = let below = given.0 in (omega arith, without d os given.1)

-- a link changes no id
link_given : (d : Register) (group fresh : ℕ) (os : Objects) → AreGiven d os → AreGiven d (linked group fresh os).1
link_given d group fresh [] given = tt
link_given d group fresh (o ∷ os) given = either (o.0 == group) (link_given d group fresh os given.1)
  where
    either : (here : Bool) → AreGiven d (linked group fresh os).1 → AreGiven d (cond {A = Bool × Objects} here (true, (o.0, fresh ∷ o.1) ∷ os) ((linked group fresh os).0, o ∷ (linked group fresh os).1)).1
    either true later = given
    either false later = (given.0, later)

stays_given : (d : Register) (request : Request) (os : Objects) → AreGiven d os → AreGiven (verdict_of d request).1 os
stays_given d look os given = given
stays_given d (make_in group) os given = one_more d (verdict_of d (make_in group)).1 os (omega arith) given
stays_given d drop_all os given = given

finds : (d : Register) (request : Request)
    → AreReady links Needs (AreGiven d) (AreGiven (verdict_of d request).1) (turns_of request (verdict_of d request).0)
finds d look = tt
finds d (make_in group) = (
  (λ os given. (without d os given, link_given d group d.serial os given)),
  (λ os given. (without d os given, (omega arith, stays_given d (make_in group) os given))),
)
finds d drop_all = λ os given. (tt, tt)

pub gives_out : GivesOut links readiness
gives_out = record {
  decided = λ d request verdict os may given. stays_given d request os given;
  drawn = λ d os given. given;
  recorded = λ found d os given. given;
  ready = λ d request verdict may. subst (λ (v : Verdict). AreReady links Needs (AreGiven d) (AreGiven (verdict_of d request).1) (turns_of request v)) (sym may) (finds d request);
}
