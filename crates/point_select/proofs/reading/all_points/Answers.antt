use Rattle.std.proofs.Common.{◌∷◌, [], length, sym, ap, subst, ◌∙◌}
use Rattle.json.specs.Reads.{token_of}
use Rattle.json_trees.specs.Kept.{Begins}
use Rattle.json_trees.specs.Trees.{list_in}
use Rattle.json.proofs.Found.{Some_inj}
use Rattle.shapes.specs.Shapes.{dims_of}
use Rattle.json_trees.proofs.OfKept.StreamLemmas.{a_list}
use Rattle.point_select.specs.Faults.{GivesPoints, points_from}
use Rattle.point_select.proofs.reading.all_points.Goals as goal

pub returns-in-Some-BeginArray : goal.returns-in-Some-BeginArray
returns-in-Some-BeginArray c ds is many =
    let begun = subst (λ ts. Begins ts c.args.tree.now []) (c.in-Some-BeginArray.ensures.value ∙ ap (λ k. token_of k ∷ c.next.new.self) c.in-Some-BeginArray.field-0-is) c.in_ok-reader.ensures in
    let l = a_list c.next.new.self [] c.args.tree.now begun in
    let same = Some_inj _ ds (sym (ap list_in l.is) ∙ is) in
    subst (λ es. GivesPoints c.each_point.result (points_from (dims_of c.args.shape.now) 0 es)) same (c.each_point.ensures l.trees [] l.items (ap length same ∙ many))
