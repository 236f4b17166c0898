use Rattle.std.proofs.Common.{ℕ, ◌<◌, sym, subst, arith}
use Rattle.object_ids.specs.Paths.{root_path}
use Rattle.domains.specs.Contents.{most_nodes}
use Rattle.register.proofs.OfInstalled.RegisterWalks.{begun_one, begun_others, begun_root, one_alone}
use Rattle.register.proofs.installed.nodes.begin.Goals as goal

pub put_node-requires-clause-room : goal.put_node-requires-clause-room
put_node-requires-clause-room c = subst (λ (n : ℕ). n < most_nodes) (sym (one_alone c.in_ok-catalogue.catalogue c.in_ok-catalogue.catalogue _ c.args.root root_path c.in_ok-catalogue.ensures)) (omega arith)

pub returns-clause-root : goal.returns-clause-root
returns-clause-root c = begun_root c.in_ok-catalogue.catalogue c.put_node.new.self _ c.args.root c.in_ok-path.path c.in_ok-catalogue.ensures c.in_ok-path.ensures c.in_ok-put_node.ensures.ok

pub returns-clause-others : goal.returns-clause-others
returns-clause-others c = begun_others c.in_ok-catalogue.catalogue c.put_node.new.self _ c.args.root c.in_ok-path.path c.in_ok-catalogue.ensures c.in_ok-path.ensures c.in_ok-put_node.ensures.ok

pub returns-clause-one : goal.returns-clause-one
returns-clause-one c = begun_one c.in_ok-catalogue.catalogue c.put_node.new.self _ c.args.root c.in_ok-path.path c.in_ok-catalogue.ensures c.in_ok-path.ensures c.in_ok-put_node.ensures.ok
