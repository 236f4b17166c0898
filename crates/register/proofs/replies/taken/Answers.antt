use Rattle.std.proofs.Common.{Err, sym, ap, ◌∙◌}
use Rattle.std.proofs.lemmas.Bool.{false≢true}
use Rattle.object_ids.specs.Names.{is_name}
use Rattle.object_ids.specs.Paths.{most_of_path}
use Rattle.register.proofs.PathNames.{path_is_name}
use Rattle.register.proofs.replies.taken.Goals as goal

pub unreachable-requires : goal.unreachable-requires
unreachable-requires c = false≢true (sym (c.read.ensures.bad (c.in-Err-BadName.is ∙ ap Err c.in-Err-BadName.field-0-is)) ∙ ap (is_name most_of_path) c.text.ensures.value ∙ path_is_name c.args.path.now c.text.ensures.canonical)
