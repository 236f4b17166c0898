-- What was kept reads as the value that stood there.
use Rattle.json_trees.proofs.OfKept.KeptLemmas.{read_once}
use Rattle.json_trees.proofs.OfKept.ReadLemmas.{read_shorter}
use Rattle.json_trees.proofs.kept.kept_tree.KeptTree.next.Goals as goal

pub returns-in-Ok : goal.returns-in-Ok
returns-in-Ok c = record {
  told = λ tree rest h. read_once _ _ rest _ tree c.in-Ok.ensures.read h;
  shorter = read_shorter _ _ _ _ c.in-Ok.ensures.read;
}
