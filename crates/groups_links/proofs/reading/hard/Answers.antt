use Rattle.std.proofs.Common.{rules, option_map, option_and_then, ap, sym, ◌∙◌}
use Rattle.object_ids.specs.Ids.{InRange}
use Rattle.groups_links.specs.IdTexts.{id_of}
use Rattle.groups_links.specs.declared.target.LinkTo.TheVariants.{Hard}
use Rattle.groups_links.proofs.IdLemmas.{id_read, no_id}
use Rattle.groups_links.proofs.reading.hard.Goals as goal

pub returns-in-Some-read_id-clause-reads : goal.returns-in-Some-read_id-clause-reads
returns-in-Some-read_id-clause-reads c =
    let range : InRange c.in-Some-read_id.id = search rules in
    ap (λ text. option_map Hard (option_and_then id_of text)) (sym c.in-Some.ensures)
    ∙ ap (option_map Hard) (id_read c.in-Some.text.now c.in-Some-read_id.id range c.in-Some-read_id.ensures.some)

pub returns-in-None-clause-reads : goal.returns-in-None-clause-reads
returns-in-None-clause-reads c =
    ap (λ text. option_map Hard (option_and_then id_of text)) (sym c.in-Some.ensures)
    ∙ ap (option_map Hard) (no_id c.in-Some.text.now c.in-None.ensures.none)
