use Rattle.std.proofs.Common.{sym, lit<}
use Rattle.std.proofs.lemmas.Str.Pattern.{strip_suffix_char}
use Rattle.std.specs.Prelude.{None}
use Rattle.object_ids.proofs.PathLemmas.{without_trailing_slash-none}
use Rattle.object_ids.proofs.paths.without_trailing_slash.Goals as goal

pub returns-in-None : goal.returns-in-None
returns-in-None c =
    sym (without_trailing_slash-none c.args.text.now (strip_suffix_char 47 c.args.text.now None c.in-None.ensures.cases (lit< tt)))
