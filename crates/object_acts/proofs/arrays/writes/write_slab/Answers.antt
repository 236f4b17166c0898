use Rattle.std.proofs.Common.{◌∙◌, sym}
use Rattle.std.proofs.lemmas.Bool.{leb-true}
use Rattle.object_acts.specs.Arrays.Faults.{most_new_bytes}
use Rattle.object_acts.specs.Arrays.Marked.{chunk_bytes}
use Rattle.object_acts.proofs.arrays.writes.write_slab.Goals as goal

pub returns-clause-few : goal.returns-clause-few
returns-clause-few c = λ done. record {
  many = c.in_ok-new.new;
  adds = c.in_ok-new.ensures;
  few = leb-true (chunk_bytes c.args.array.now.grid c.in_ok-new.new) most_new_bytes (sym c.are_few.ensures ∙ c.if-not-are_few.false);
}
