use Rattle.std.proofs.Common.{string_bytes}
use Rattle.service_core.specs.Worlds.{seen}
use Rattle.samples.proofs.TextLemmas.{IsTold}
use Rattle.samples.proofs.texts.sample_text.Given as goal

abbrev pub invariant-loop-slab : goal.invariant-loop-slab
invariant-loop-slab l = IsTold l.n l.slab (seen l.world) (string_bytes l.text) l.total
