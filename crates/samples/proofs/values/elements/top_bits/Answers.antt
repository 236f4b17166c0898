use Rattle.std.proofs.Common.{◌/◌, ℕ, ap}
use Rattle.samples.specs.Values.Samples.{element}
use Rattle.samples.proofs.values.elements.top_bits.Goals as goal

pub returns-clause-element : goal.returns-clause-element
unfolding element
returns-clause-element c n k h = ap (λ (x : ℕ). x / 8589934592) h
