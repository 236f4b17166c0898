use Rattle.groups_links.specs.Titles.{most_of_title}
use Rattle.groups_links.proofs.GroupLemmas.{put_links, shorter_name}
use Rattle.groups_links.proofs.group.Links.put.Goals as goal

pub invariant_of-self : goal.invariant_of-self
invariant_of-self c = put_links c.put_within.result c.self.inside.by_title c.put_within.new.self c.args.title c.args.link
    c.requires.title (shorter_name most_of_title c.args.title c.text-text.ensures.name c.requires.title.short) c.requires.link
    c.self.invariant c.put_within.ensures.ok c.put_within.ensures.err c.put_within.ensures.why
