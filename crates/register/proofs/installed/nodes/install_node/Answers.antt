use Rattle.std.proofs.Common.{Some, ap, sym, ◌∙◌}
use Rattle.register.specs.Installed.Walks.{no_number}
use Rattle.register.proofs.OfInstalled.RegisterWalks.{number_unused, puts}
use Rattle.register.proofs.installed.nodes.install_node.Goals as goal

pub returns-then-not-may_stand-clause-bad : goal.returns-then-not-may_stand-clause-bad
returns-then-not-may_stand-clause-bad c = no_number c.in_ok-node.node c.in_ok-node.ensures.reads (sym c.may_stand.ensures ∙ c.if-not-may_stand.true)

pub put_node-requires-clause-free : goal.put_node-requires-clause-free
put_node-requires-clause-free c = number_unused c.args.catalogue.now c.args.roots.now c.args.run c.args.next c.in_ok-path.path c.in_ok-node.node.class c.requires.roots (sym c.may_stand.ensures ∙ c.if-not-may_stand.false)

pub returns-clause-ok : goal.returns-clause-ok
returns-clause-ok c = puts c.args.run c.args.next c.args.path.now c.in_ok-path.path c.args.body.now c.args.catalogue.now c.args.roots.now c.put_node.new.self c.put_root.new.roots c.in_ok-node.node c.requires.path.canonical (c.requires.path.canonical ∙ ap Some (sym c.in_ok-path.ensures))
    c.in_ok-node.ensures.reads (c.has_place.ensures.exact.0 c.if-not-has_place.false) (sym c.may_stand.ensures ∙ c.if-not-may_stand.false) c.in_ok-put_node.ensures.ok c.in_ok-put_root.ensures.ok
