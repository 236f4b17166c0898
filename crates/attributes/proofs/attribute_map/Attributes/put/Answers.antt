use Rattle.attributes.proofs.AttributeLemmas.{name_within, put_whole}
use Rattle.attributes.proofs.attribute_map.Attributes.put.Goals as goal

pub invariant_of-self : goal.invariant_of-self
invariant_of-self c =
    let put = c.put_within.ensures in
    put_whole c.put_within.result c.self.inside.entries c.put_within.new.self c.args.name c.args.attribute c.self.invariant
    (name_within c.args.name c.text-text.ensures.name c.requires.short) c.requires.sound put.ok put.err put.why
