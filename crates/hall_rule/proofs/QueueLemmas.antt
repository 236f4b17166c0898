-- Two queues are the same, or have words and slots apart.
use Rattle.std.proofs.Common.{◌^◌, ◌≡◌, ◌≢◌, ◌⊎◌, inl, inr, ℕ, ◌+◌, ◌<◌, ◌≤◌, true, false, eq-eqb, ne_eqb, refl, ap, arith}
use mathlib.Core.Logic.{dite}
use native.Mathlib.Decide.{ℕ_discrete}
use Rattle.hall_rule.specs.declared.queue.Queue.{Queue}
use Rattle.hall_rule.specs.declared.queue.Queue.TheVariants.{OfRegister, OfDesk, OfLane}
use Rattle.hall_rule.specs.Queues.{limit_of, word_of, slot_of, IsQueue, same_queue}

pub record Apart (a b : Queue) : Type 0 where
  pub words : word_of b ≢ word_of a
  pub slots : slot_of b ≢ slot_of a
  pub differ : same_queue a b ≡ false

pub same_self : (q : Queue) → same_queue q q ≡ true
same_self OfRegister = refl
same_self OfDesk = refl
same_self (OfLane lane) = eq-eqb lane lane refl

pub same_or_apart : (a b : Queue) → (a ≡ b) ⊎ Apart a b
same_or_apart OfRegister OfRegister = inl refl
same_or_apart OfRegister OfDesk = inr record {
  words = λ e. absurd (omega (arith, e));
  slots = λ e. absurd (omega (arith, e));
  differ = refl;
}
same_or_apart OfRegister (OfLane l) = inr record {
  words = λ e. absurd (omega (arith, e));
  slots = λ e. absurd (omega (arith, e));
  differ = refl;
}
same_or_apart OfDesk OfRegister = inr record {
  words = λ e. absurd (omega (arith, e));
  slots = λ e. absurd (omega (arith, e));
  differ = refl;
}
same_or_apart OfDesk OfDesk = inl refl
same_or_apart OfDesk (OfLane l) = inr record {
  words = λ e. absurd (omega (arith, e));
  slots = λ e. absurd (omega (arith, e));
  differ = refl;
}
same_or_apart (OfLane l) OfRegister = inr record {
  words = λ e. absurd (omega (arith, e));
  slots = λ e. absurd (omega (arith, e));
  differ = refl;
}
same_or_apart (OfLane l) OfDesk = inr record {
  words = λ e. absurd (omega (arith, e));
  slots = λ e. absurd (omega (arith, e));
  differ = refl;
}
same_or_apart (OfLane a) (OfLane b) = dite (ℕ_discrete a b) (λ e. inl (ap OfLane e))
    (λ ne. inr record { words = λ e. ne (omega (arith, e)); slots = λ e. ne (omega (arith, e)); differ = ne_eqb a b ne })

pub word_in : (lanes : ℕ) (q : Queue) → IsQueue lanes q → (2 ≤ word_of q) × (word_of q < lanes + 4)
word_in lanes OfRegister is = (omega arith, omega arith)
word_in lanes OfDesk is = (omega arith, omega arith)
word_in lanes (OfLane l) is = (omega arith, omega arith)

pub slot_in : (lanes : ℕ) (q : Queue) → IsQueue lanes q → slot_of q < lanes + 2
slot_in lanes OfRegister is = omega arith
slot_in lanes OfDesk is = omega arith
slot_in lanes (OfLane l) is = omega arith

pub limit_small : (q : Queue) → limit_of q ≤ 2 ^ 62
limit_small OfRegister = omega arith
limit_small OfDesk = omega arith
limit_small (OfLane lane) = omega arith
