use Rattle.documents.proofs.OfParts.TargetLemmas.{put_targets}
use Rattle.documents.proofs.parts.title_maps.Targets.put.Goals as goal

pub invariant_of-self : goal.invariant_of-self
invariant_of-self c = put_targets c.put_within.result c.self.inside.by_title c.put_within.new.self c.args.title c.args.target
    c.requires.title c.requires.target c.self.invariant c.put_within.ensures.ok c.put_within.ensures.err c.put_within.ensures.why
