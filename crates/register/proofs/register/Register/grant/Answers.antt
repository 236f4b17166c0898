use Rattle.register.proofs.Meetings.{listed}
use Rattle.register.proofs.register.Register.grant.Goals as goal

pub children-requires : goal.children-requires
children-requires c = listed c.args.self.now.catalogue c.args.request.now c.args.class.now c.in-ListNodes.is c.requires.there c.requires.fits
