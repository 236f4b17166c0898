use Rattle.std.proofs.Common.{OnOk, sym, subst}
use Rattle.chunk_store.specs.Buffers.{AreThere, IsGrown}
use Rattle.chunk_store.specs.Picked.{picked}
use Rattle.chunk_store.specs.declared.picks.Picks.{Picks}
use Rattle.chunk_store.proofs.AccessLemmas.{points_picked}
use Rattle.chunk_store.proofs.access.grow.Goals as goal

pub grow_points-requires-clause-ranks : goal.grow_points-requires-clause-ranks
grow_points-requires-clause-ranks c = points_picked c.args.picks.now c.in-Points.points c.args.shape.now _ c.in-Points.is c.requires.picks c.requires.rank

pub returns-in-Slab-clause-there : goal.returns-in-Slab-clause-there
returns-in-Slab-clause-there c =
    subst (λ (x : Picks). OnOk c.grow_selected.result (AreThere c.grow_selected.new.chunks c.args.frame.now (picked x c.args.shape.now))) (sym c.in-Slab.is) c.grow_selected.ensures.there

pub returns-in-Points-clause-there : goal.returns-in-Points-clause-there
returns-in-Points-clause-there c =
    subst (λ (x : Picks). OnOk c.grow_points.result (AreThere c.grow_points.new.chunks c.args.frame.now (picked x c.args.shape.now))) (sym c.in-Points.is) c.grow_points.ensures.there

pub returns-in-Places-clause-there : goal.returns-in-Places-clause-there
returns-in-Places-clause-there c =
    subst (λ (x : Picks). OnOk c.grow_places.result (AreThere c.grow_places.new.chunks c.args.frame.now (picked x c.args.shape.now))) (sym c.in-Places.is) c.grow_places.ensures.there

pub returns-in-Slab-clause-grown : goal.returns-in-Slab-clause-grown
returns-in-Slab-clause-grown c =
    subst (λ (x : Picks). OnOk c.grow_selected.result (IsGrown c.args.chunks.now c.grow_selected.new.chunks c.args.frame.now (picked x c.args.shape.now))) (sym c.in-Slab.is) c.grow_selected.ensures.grown

pub returns-in-Points-clause-grown : goal.returns-in-Points-clause-grown
returns-in-Points-clause-grown c =
    subst (λ (x : Picks). OnOk c.grow_points.result (IsGrown c.args.chunks.now c.grow_points.new.chunks c.args.frame.now (picked x c.args.shape.now))) (sym c.in-Points.is) c.grow_points.ensures.grown

pub returns-in-Places-clause-grown : goal.returns-in-Places-clause-grown
returns-in-Places-clause-grown c =
    subst (λ (x : Picks). OnOk c.grow_places.result (IsGrown c.args.chunks.now c.grow_places.new.chunks c.args.frame.now (picked x c.args.shape.now))) (sym c.in-Places.is) c.grow_places.ensures.grown

pub returns-in-Slab-clause-listed : goal.returns-in-Slab-clause-listed
returns-in-Slab-clause-listed c =
    subst (λ (x : Picks). OnOk c.grow_selected.result (AreThere c.grow_selected.new.changes.listed c.args.frame.now (picked x c.args.shape.now))) (sym c.in-Slab.is) c.grow_selected.ensures.listed

pub returns-in-Points-clause-listed : goal.returns-in-Points-clause-listed
returns-in-Points-clause-listed c =
    subst (λ (x : Picks). OnOk c.grow_points.result (AreThere c.grow_points.new.changes.listed c.args.frame.now (picked x c.args.shape.now))) (sym c.in-Points.is) c.grow_points.ensures.listed

pub returns-in-Places-clause-listed : goal.returns-in-Places-clause-listed
returns-in-Places-clause-listed c =
    subst (λ (x : Picks). OnOk c.grow_places.result (AreThere c.grow_places.new.changes.listed c.args.frame.now (picked x c.args.shape.now))) (sym c.in-Places.is) c.grow_places.ensures.listed
