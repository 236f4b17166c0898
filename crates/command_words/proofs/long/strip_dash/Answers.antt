use Rattle.std.proofs.Common.{arith}
use Rattle.std.proofs.lemmas.Str.Pattern.{strip_prefix_char}
use Rattle.clap.proofs.LexerLemmas.{strip_byte-from}
use Rattle.command_words.proofs.long.strip_dash.Goals as goal

pub returns : goal.returns
returns c =
    let rest = c.strip_prefix.result in
    strip_byte-from 45 c.args.word.now rest
    (strip_prefix_char 45 c.args.word.now rest c.strip_prefix.ensures.cases (omega arith))
