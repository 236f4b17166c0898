use Rattle.std.proofs.Common.{map, string_bytes}
use Rattle.command_words.proofs.Lines.{command_by_parts}
use Rattle.command_words.proofs.words.wanted.Goals as goal

pub returns-clause-parts : goal.returns-clause-parts
returns-clause-parts c = command_by_parts (map string_bytes c.args.words.now)
