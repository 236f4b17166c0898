use Rattle.std.proofs.Common.{inl, inr, ◌⊎◌, List, ℕ}
use Rattle.flush_journal.specs.Standing.{HasEither}
use Rattle.flush_journal.proofs.Moments.{joined, weaker}
use Rattle.flush_journal.proofs.laws.runs_join.Goals as goal

pub returns : goal.returns
returns g c = λ before between after x y z first then_.
    let all : List ℕ → Type 0 = λ file. HasEither x y file ⊎ HasEither y z file in
    joined g.D.Disk before between after all
    (weaker g.D.Disk before between (HasEither x y) all (λ file h. inl h) first) (weaker g.D.Disk between after (HasEither y z) all (λ file h. inr h) then_)
