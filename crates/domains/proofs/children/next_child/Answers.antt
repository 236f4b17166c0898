use Rattle.std.proofs.Common.{◌≡◌, inr, List, ℕ, true, false, bytes_eq, nat_eq, rules, subst}
use Rattle.std.specs.List.{starts_with}
use Rattle.object_ids.specs.Paths.{parent_of}
use Rattle.domains.specs.ChildSteps.{IsFrom}
use Rattle.domains.proofs.ChildWalks.{found_child, from_next, passed_by, walk_ends}
use Rattle.domains.proofs.children.next_child.Goals as goal

pub fact_in-last : goal.fact_in-last
fact_in-last c = c.paths.invariant.2

pub returns-then-not-starts_with-clause-step : goal.returns-then-not-starts_with-clause-step
returns-then-not-starts_with-clause-step c =
    let leaves : starts_with nat_eq c.in-Some.path.now c.args.folder.now ≡ false = cc in
    walk_ends c.args.nodes.now c.args.folder.now c.paths.last.now c.in-Some.path.now c.in-Some.node.now c.paths.invariant.1 c.in-Some.ensures.least.0
    c.in-Some.ensures.step c.args.after.now c.requires.paths c.in-Some.ensures.least.1 c.paths.invariant.0 leaves

pub returns-then-eq-clause-step : goal.returns-then-eq-clause-step
returns-then-eq-clause-step c =
    let parent : bytes_eq (parent_of c.in-Some.path.now) c.args.folder.now ≡ true = cc in
    found_child c.args.nodes.now c.args.folder.now c.paths.last.now c.in-Some.path.now c.in-Some.node.now c.paths.invariant.1 c.in-Some.ensures.least.0
    c.in-Some.ensures.step c.args.after.now c.paths.invariant.0 parent

pub returns-then-eq-clause-behind : goal.returns-then-eq-clause-behind
returns-then-eq-clause-behind c = λ path e.
    let same : c.in-Some.path.now ≡ path = cc in
    subst (λ (p : List ℕ). IsFrom c.args.folder.now p) same
    (inr (from_next c.args.folder.now c.paths.last.now c.in-Some.path.now c.paths.invariant.1 c.in-Some.ensures.least.0))

pub paths-preserved : goal.paths-preserved
paths-preserved c =
    let parent : bytes_eq (parent_of c.in-Some.path.now) c.args.folder.now ≡ false = cc in (
      passed_by c.args.nodes.now c.args.folder.now c.paths.last.now c.in-Some.path.now c.in-Some.node.now c.paths.invariant.1 c.in-Some.ensures.least.0
          c.in-Some.ensures.step c.args.after.now c.paths.invariant.0 parent,
      inr (from_next c.args.folder.now c.paths.last.now c.in-Some.path.now c.paths.invariant.1 c.in-Some.ensures.least.0),
      search rules,
    )
