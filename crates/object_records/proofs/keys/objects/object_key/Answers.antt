use Rattle.std.proofs.Common.{ap, ◌∙◌}
use Rattle.object_ids.specs.IdOrder.{kind_rank}
use Rattle.object_ids.specs.IdValues.{Id}
use Rattle.object_records.proofs.OfKeys.IdLaws.{laid_key}
use Rattle.object_records.proofs.keys.objects.object_key.Goals as goal

pub returns-clause-key : goal.returns-clause-key
returns-clause-key c = laid_key c.rank.result c.id_bytes.result c.args.id.now (c.rank.ensures ∙ ap (λ (id : Id). kind_rank id.kind) c.id.view_is) c.id_bytes.ensures.bytes
