-- Each list is what stands for it.
use Rattle.std.proofs.Common.{refl}
use Rattle.hyperslab.proofs.GivenLemmas.{lists_judged, lists_syntax, lists_or_none}
use Rattle.hyperslab.proofs.lists.lists_or_fault.Goals as goal

pub returns : goal.returns
returns c = record { scalar = refl; spelled = lists_judged; syntax = lists_syntax; one_of = lists_or_none }
