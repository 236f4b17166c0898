use Rattle.std.proofs.Common.{rules, refl}
use Rattle.chunk_owner.proofs.installs.objects.read_slot.Goals as goal

-- src/installs/objects.rt:35:1
pub returns-clause-new : goal.returns-clause-new
returns-clause-new c = record {
  made = search rules;
  number = search rules;
  reads = search rules;
  tracked = c.in_ok-object.ensures.tracked;
  installed = record { mark = refl; still = search rules; kind = search rules; whole = c.is_whole.ensures };
}
