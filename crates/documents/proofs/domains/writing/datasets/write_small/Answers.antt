use Rattle.std.proofs.Common.{ap, ◌∙◌}
use Rattle.serde_json.specs.Written.{has_float}
use Rattle.documents.proofs.OfDomains.EntryLemmas.{entry_exact}
use Rattle.documents.proofs.domains.writing.datasets.write_small.Goals as goal

pub write_tree-requires : goal.write_tree-requires
write_tree-requires g c = ap has_float c.in_ok-tree.ensures ∙ entry_exact (g.S.ObjectStore.objects c.args.store.now) c.args.home.now c.args.object.now
