use Rattle.std.proofs.Common.{◌∙◌, ap, sym, subst, map, option_and_then, string_bytes, Option}
use Rattle.command_words.specs.Apps.{command_found}
use Rattle.command_words.specs.Commands.{Command}
use Rattle.command_words.specs.Views.{Answers}
use Rattle.command_words.proofs.Whole.{line_is_read}
use Rattle.command_words.proofs.words.read_words.Goals as goal

pub returns-clause-answer : goal.returns-clause-answer
returns-clause-answer c =
    let some = sym c.in_ok-is_line_of_a_command.ensures ∙ c.if-not-branch.false in
    subst (λ (o : Option Command). Answers c.chosen.result o)
    (ap (option_and_then command_found) c.in-Ok.ensures.found
    ∙ (line_is_read (map string_bytes c.args.words.now) some).reads)
    c.chosen.ensures.command
