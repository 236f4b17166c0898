use Rattle.std.proofs.Common.{◌≡◌, [], ◌∷◌, List, refl, sym, ap, subst, ◌∙◌, vec_items}
use Rattle.std.specs.Map.Iter.{deref_pair}
use Rattle.std.proofs.lemmas.Map.Iter.{rest_more, rest_all}
use Rattle.containers.specs.TextMaps.Keyed.{keyed}
use Rattle.flush_journal.specs.Records.{Record}
use Rattle.register.specs.Installed.Walks.{IsNodeWalk, is_past_nodes}
use Rattle.register.proofs.OfInstalled.NodeWalks.{walk_begin}
use Rattle.register.proofs.OfInstalled.PastNodes.{walk_past}
use Rattle.register.proofs.OfInstalled.RegisterFaults.{least_node, named}
use Rattle.register.proofs.OfInstalled.RegisterWalks.{blames, end_nodes, end_rules, rooted_by}
use Rattle.register.proofs.installed.installs.install_nodes.Goals as goal

pub loop-key-init : goal.loop-key-init
loop-key-init c =
    let same : c.into_iter-key-iterator.result ≡ c.as_tree-records.result.now.entries = c.into_iter-key-iterator.ensures.into_iter_gives.0 in
    walk_begin c.args.kept.now (keyed vec_items c.into_iter-key-iterator.result) c.in-Ok-begin.catalogue c.new-roots.result c.in-Ok.root
    (c.as_tree-records.ensures ∙ ap (keyed vec_items) (sym same)) c.in-Ok.ensures.reads c.in-Ok.ensures.class c.in-Ok-begin.ensures.root c.in-Ok-begin.ensures.others c.in-Ok-begin.ensures.one c.new-roots.ensures

pub returns-then-is_past_nodes-clause-nodes : goal.returns-then-is_past_nodes-clause-nodes
returns-then-is_past_nodes-clause-nodes c =
    let left = rest_more deref_pair c.loop-key.key-iterator c.next.new.self _ (c.in-Some.key, c.in-Some.body) c.in-Some.is c.next.ensures.steps in
    let walk = subst (λ (rest : List Record). IsNodeWalk c.args.kept.now rest c.loop-key.catalogue c.loop-key.roots) (ap (keyed vec_items) left) c.loop-key.invariant in
    let past = ap is_past_nodes (sym c.as_slice-key.ensures.value) ∙ sym c.is_past_nodes.ensures ∙ c.if-is_past_nodes.true in
    end_nodes c.args.kept.now [] c.loop-key.catalogue c.loop-key.roots (walk_past c.args.kept.now (keyed vec_items c.next.new.self) _ c.loop-key.catalogue c.loop-key.roots walk past) refl

pub returns-then-is_past_nodes-clause-rules : goal.returns-then-is_past_nodes-clause-rules
returns-then-is_past_nodes-clause-rules c =
    let left = rest_more deref_pair c.loop-key.key-iterator c.next.new.self _ (c.in-Some.key, c.in-Some.body) c.in-Some.is c.next.ensures.steps in
    let walk = subst (λ (rest : List Record). IsNodeWalk c.args.kept.now rest c.loop-key.catalogue c.loop-key.roots) (ap (keyed vec_items) left) c.loop-key.invariant in
    let past = ap is_past_nodes (sym c.as_slice-key.ensures.value) ∙ sym c.is_past_nodes.ensures ∙ c.if-is_past_nodes.true in
    end_rules c.args.kept.now [] c.loop-key.catalogue c.loop-key.roots (walk_past c.args.kept.now (keyed vec_items c.next.new.self) _ c.loop-key.catalogue c.loop-key.roots walk past) refl

pub returns-in-Err-installed-clause-fault : goal.returns-in-Err-installed-clause-fault
returns-in-Err-installed-clause-fault c =
    let left = rest_more deref_pair c.loop-key.key-iterator c.next.new.self _ (c.in-Some.key, c.in-Some.body) c.in-Some.is c.next.ensures.steps in
    let here = ap (keyed vec_items) left ∙ (λ k. (sym c.as_slice-key.ensures.value k, sym c.bytes.ensures k) ∷ keyed vec_items c.next.new.self) in
    let walk = subst (λ (rest : List Record). IsNodeWalk c.args.kept.now rest c.loop-key.catalogue c.loop-key.roots) here c.loop-key.invariant in
    let rooted = rooted_by c.args.kept.now c.in-Ok.root c.in-Ok.ensures.reads c.in-Ok.ensures.class in
    named c.args.kept.now c.as_slice-key.result.now c.in-Err-installed.fault c.fault_at.result c.fault_at.ensures
    (blames c.in-Err-installed.fault (c.in-Err-installed.ensures.bad c.args.kept.now (keyed vec_items c.next.new.self) c.requires.run c.requires.next rooted walk)
    (λ bad. least_node c.args.kept.now (keyed vec_items c.next.new.self) (c.as_slice-key.result.now, c.bytes.result.now) c.loop-key.catalogue c.loop-key.roots c.args.run c.requires.run rooted walk bad))

pub loop-key-preserved : goal.loop-key-preserved
loop-key-preserved c =
    let left = rest_more deref_pair c.loop-key.key-iterator c.next.new.self _ (c.in-Some.key, c.in-Some.body) c.in-Some.is c.next.ensures.steps in
    let here = ap (keyed vec_items) left ∙ (λ k. (sym c.as_slice-key.ensures.value k, sym c.bytes.ensures k) ∷ keyed vec_items c.next.new.self) in
    let walk = subst (λ (rest : List Record). IsNodeWalk c.args.kept.now rest c.loop-key.catalogue c.loop-key.roots) here c.loop-key.invariant in
    let rooted = rooted_by c.args.kept.now c.in-Ok.root c.in-Ok.ensures.reads c.in-Ok.ensures.class in
    c.in_default.ensures.done c.args.kept.now (keyed vec_items c.next.new.self) c.requires.run c.requires.next rooted walk

pub returns-clause-nodes : goal.returns-clause-nodes
returns-clause-nodes c =
    let none = rest_all deref_pair c.loop-key.key-iterator c.next.new.self _ c.in-None.is c.next.ensures.steps in
    end_nodes c.args.kept.now (keyed vec_items c.loop-key.key-iterator) c.loop-key.catalogue c.loop-key.roots c.loop-key.invariant (ap (keyed vec_items) none)

pub returns-clause-rules : goal.returns-clause-rules
returns-clause-rules c =
    let none = rest_all deref_pair c.loop-key.key-iterator c.next.new.self _ c.in-None.is c.next.ensures.steps in
    end_rules c.args.kept.now (keyed vec_items c.loop-key.key-iterator) c.loop-key.catalogue c.loop-key.roots c.loop-key.invariant (ap (keyed vec_items) none)
