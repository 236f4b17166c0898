use Rattle.chunk_owner.proofs.LawLemmas.{gone_where_given, no_object_elsewhere, others_are_hidden}
use Rattle.chunk_owner.proofs.laws.ids_without_objects.Goals as goal

pub returns : goal.returns
returns c = record { gone = gone_where_given; elsewhere = no_object_elsewhere; hidden = others_are_hidden }
