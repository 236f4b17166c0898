-- The names of passes.
use Rattle.std.proofs.Common.{◌≡◌, ℕ, zero, suc, ◌+◌, ◌-◌, Bool, true, List, [], ◌∷◌, ◌++◌, length, cond, Option, refl, ap, ◌∙◌, arith}
use Rattle.atomic_table.specs.Seated.{TableId}
use Rattle.service_core.specs.Worlds.{State}
use Rattle.hall_rule.specs.Rule.{names, tail_of}
use Rattle.hall_rule.specs.Sums.{upward}
use Rattle.hall.specs.Answers.{ArrayStart}
use Rattle.hall.specs.Passes.{HasBegun, names_of, view_of, who}
use Rattle.hall.specs.declared.desk.AtDesk.{Ghosts}
use Rattle.hall.specs.declared.hall.Hall.{Hall}
use Rattle.hall.specs.declared.pass.Pass.{Pass}
use Rattle.lane_tests.specs.Crowds.{IsGiver}

-- as many as before, where only a split or a join could change them
pub names_still : {D K : Type 0} {g : Ghosts D K} (p q : Pass D K g) → who q ≡ who p → length (names_of q) ≡ length (names_of p)
names_still {K = K} p q same =
    ap (λ (w : TableId × Bool × ℕ × List ℕ × List ℕ × Option (ArrayStart K)). length (cond w.1 (w.2 ∷ (w.3 ++ w.4)) [])) same

-- the first pass of a hall for one
pub first_name : {D K : Type 0} {g : Ghosts D K} (h : Hall D K) (p : Pass D K g) (s : State) → HasBegun h p s 1 → length (names_of p) ≡ 1
first_name h p s begun = ap (λ v. length (names v)) begun.first

-- ---- passes that are given away

length_upward : (a n : ℕ) → length (upward a n) ≡ n
length_upward a zero = refl
length_upward a (suc n) = ap suc (length_upward (a + 1) n)

empty_of_length : (xs : List ℕ) → length xs ≡ 0 → xs ≡ []
empty_of_length [] e = refl
empty_of_length (x ∷ xs) e = absurd (omega (arith, e))

pub some_spare : (xs : List ℕ) (n : ℕ) → length xs ≡ n + 1 → (y : ℕ) × (ys : List ℕ) × (xs ≡ y ∷ ys)
some_spare [] n e = absurd (omega (arith, e))
some_spare (x ∷ xs) n e = (x, xs, refl)

pub one_fewer : (xs : List ℕ) (n : ℕ) → length xs ≡ n + 1 → length (tail_of xs) ≡ n
one_fewer [] n e = absurd (omega (arith, e))
one_fewer (x ∷ xs) n e = omega (arith, e)

pub first_giver : {D K : Type 0} {g : Ghosts D K} (h : Hall D K) (p : Pass D K g) (s : State) (n : ℕ) → HasBegun h p s (n + 1) → IsGiver h n p
first_giver h p s n begun = record {
  of_this_hall = begun.pass;
  spare = ap (λ v. length v.spare) begun.first ∙ length_upward 1 ((n + 1) - 1) ∙ (let e : (n + 1) - 1 ≡ n = omega arith in e);
  joined = ap (λ v. v.joined) begun.first;
}

-- who has given all away has its own name alone
pub last_name : {D K : Type 0} {g : Ghosts D K} (h : Hall D K) (p : Pass D K g) → IsGiver h 0 p → (view_of p).live ≡ true → length (names_of p) ≡ 1
last_name h p giver live =
    let none = empty_of_length (view_of p).spare giver.spare in
    (λ i. length (cond (live i) ((view_of p).number ∷ (none i ++ giver.joined i)) []))
