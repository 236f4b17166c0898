-- The path of the whole document is shown as it is: it has no byte.
use Rattle.std.proofs.Common.{◌≡◌, ℕ, List, [], refl, arith}
use Rattle.documents.specs.Parts.Faults.{fault}
use Rattle.documents.specs.Parts.Paths.{IsShown}
use Rattle.documents.proofs.parts.faults.refused_whole.Goals as goal

shown_top : (text : List ℕ) → text ≡ [] → IsShown [] text
shown_top text none = record {
  end = 0;
  is = none;
  within = omega arith;
  whole = (omega arith, λ inside. absurd (omega arith));
  most = λ i behind within boundary. omega (arith, boundary.0);
}

pub returns-clause-told : goal.returns-clause-told
unfolding fault
returns-clause-told c = (shown_top _ c.top.ensures, refl)
