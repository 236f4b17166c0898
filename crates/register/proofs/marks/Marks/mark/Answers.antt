use Rattle.std.proofs.Common.{◌≡◌, ℕ, List, true, not, ap, subst, ◌∙◌}
use Rattle.std.specs.FinMap.{contains_key, insert}
use Rattle.register.specs.Marks.{Marked, taken_back}
use Rattle.register.proofs.Marking.{back, one_more}
use Rattle.register.proofs.marks.Marks.mark.Goals as goal

pub invariant_of-self-2 : goal.invariant_of-self-2
invariant_of-self-2 c = one_more c.self.inside.paths c.args.path.now c.self.invariant c.put_copy.new.self (c.text-text.ensures.canonical) (c.in_ok-put_copy.ensures.ok ∙ ap (λ (p : List ℕ). insert c.self.inside.paths p true) c.text-text.ensures.value)

pub returns-clause-back : goal.returns-clause-back
returns-clause-back c =
    let m : Marked = record { run = c.self.inside.run; next = c.self.inside.next; all = c.self.inside.all; paths = c.self.inside.paths } in
    subst (λ (x : Marked). taken_back (record m { paths = c.put_copy.new.self }) c.args.path.now (not c.contains_key-fresh.result) ≡ x) c.self.view_is
    (back m c.args.path.now c.put_copy.new.self c.contains_key-fresh.result c.self.invariant (c.in_ok-put_copy.ensures.ok ∙ ap (λ (p : List ℕ). insert c.self.inside.paths p true) c.text-text.ensures.value)
    (c.contains_key-fresh.ensures ∙ ap (contains_key c.self.inside.paths) c.text-text.ensures.value))
