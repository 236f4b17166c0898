use Rattle.std.proofs.Common.{◌*◌, sym, ap, ◌∙◌}
use Rattle.chunk_store.proofs.AccessLemmas.{points_picked}
use Rattle.chunk_store.proofs.PickLemmas.{many_picked}
use Rattle.chunk_store.proofs.access.write.Goals as goal

pub write_points-requires-clause-ranks : goal.write_points-requires-clause-ranks
write_points-requires-clause-ranks c = points_picked c.args.picks.now c.in-Points.points c.args.shape.now _ c.in-Points.is c.requires.picks c.requires.rank

pub write_places-requires-clause-bytes : goal.write_places-requires-clause-bytes
write_places-requires-clause-bytes c =
    c.requires.bytes ∙ ap (λ n. n * c.args.frame.now.size) (sym (many_picked c.args.picks.now c.in-Places.from c.in-Places.many c.args.shape.now c.in-Places.is c.requires.picks))
