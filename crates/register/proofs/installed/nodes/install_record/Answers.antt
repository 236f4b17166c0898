use Rattle.std.proofs.Common.{◌≢◌, ℕ, ◌≤◌, sym, subst, ◌∙◌}
use Rattle.std.proofs.lemmas.Slice.Eq.{bytes_eq-Decides}
use Rattle.std.proofs.lemmas.Result.{on_ok_weaker}
use Rattle.object_ids.specs.Paths.{root_path}
use Rattle.domains.specs.Contents.{most_nodes}
use Rattle.containers.proofs.Passing.{contrary, err_map}
use Rattle.register.proofs.OfInstalled.NodeWalks.{no_put, walk_put, walk_root, walk_skip}
use Rattle.register.proofs.OfInstalled.RegisterWalks.{blames, key_of_node}
use Rattle.register.proofs.installed.nodes.install_record.Goals as goal

pub returns-then-not-is_node_key-clause-done : goal.returns-then-not-is_node_key-clause-done
returns-then-not-is_node_key-clause-done c = λ held rest is_run is_next rooted w.
    walk_skip held rest (c.args.key.now, c.args.body.now) c.args.catalogue.now c.args.roots.now w (sym c.is_node_key.ensures ∙ c.if-not-is_node_key.true)

pub returns-in_default-clause-bad : goal.returns-in_default-clause-bad
returns-in_default-clause-bad c = λ held rest is_run is_next rooted w.
    let found = key_of_node c.args.key.now (sym c.is_node_key.ensures ∙ c.if-not-is_node_key.false) in
    record { path = found.0; is = found.1; broken = λ r. c.in_default.ensures found.0 r.canonical (sym found.1) }

pub returns-then-eq-clause-done : goal.returns-then-eq-clause-done
returns-then-eq-clause-done c = λ held rest is_run is_next rooted w.
    walk_root held rest (c.args.key.now, c.args.body.now) c.args.catalogue.now c.args.roots.now w c.in-Some.path.now c.in-Some.ensures.0 c.in-Some.ensures.1 rooted
    ((bytes_eq-Decides c.in-Some.path.now root_path).0 (sym c.eq.ensures ∙ c.if-eq.true)) (subst (λ (n : ℕ). n ≤ most_nodes) c.nodes-most.ensures.value c.nodes-most.ensures.most)

pub returns-clause-done : goal.returns-clause-done
returns-clause-done c =
    let other : c.in-Some.path.now ≢ root_path = λ same. contrary _ ⊥ (c.eq.ensures ∙ (bytes_eq-Decides c.in-Some.path.now root_path).1 same) c.if-eq.false in
    on_ok_weaker c.install_node.result (λ p held rest is_run is_next rooted w.
    walk_put held rest (c.args.key.now, c.args.body.now) c.args.catalogue.now c.args.roots.now w c.in-Some.path.now c.in-Some.ensures.0 c.in-Some.ensures.1 c.args.run c.args.next rooted is_run is_next other
    c.install_node.new.catalogue c.install_node.new.roots p) c.install_node.ensures.ok

pub returns-clause-bad : goal.returns-clause-bad
returns-clause-bad c =
    let other : c.in-Some.path.now ≢ root_path = λ same. contrary _ ⊥ (c.eq.ensures ∙ (bytes_eq-Decides c.in-Some.path.now root_path).1 same) c.if-eq.false in
    err_map c.install_node.result _ _ (λ e h held rest is_run is_next rooted w. blames e h (λ n. record {
      path = c.in-Some.path.now;
      is = sym c.in-Some.ensures.1;
      broken = no_put held rest (c.args.key.now, c.args.body.now) c.args.catalogue.now c.args.roots.now w c.in-Some.path.now c.in-Some.ensures.0 c.in-Some.ensures.1 c.args.run c.args.next rooted is_run is_next other n;
    })) c.install_node.ensures.bad
