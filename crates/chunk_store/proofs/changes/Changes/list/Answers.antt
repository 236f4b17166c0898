use Rattle.std.proofs.Common.{Some, refl}
use Rattle.chunk_store.proofs.KeyLemmas.{added_more, added_there, find-updated}
use Rattle.chunk_store.proofs.changes.Changes.list.Goals as goal

pub returns-in-Ok-clause-keeps : goal.returns-in-Ok-clause-keeps
returns-in-Ok-clause-keeps c = record {
  all = refl;
  more = added_more c.args.self.now.listed c.insert.new.self c.args.index.now _ (find-updated c.args.self.now.listed c.insert.new.self c.args.index.now (Some _) c.in-Ok.ensures.updates);
}

pub returns-in-Ok-clause-there : goal.returns-in-Ok-clause-there
returns-in-Ok-clause-there c =
    added_there c.args.self.now.listed c.insert.new.self c.args.index.now _ (find-updated c.args.self.now.listed c.insert.new.self c.args.index.now (Some _) c.in-Ok.ensures.updates)
