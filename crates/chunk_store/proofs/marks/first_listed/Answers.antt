use Rattle.std.proofs.Common.{option_map, sym, ap, ◌∙◌}
use Rattle.std.specs.List.{filter}
use Rattle.chunk_store.specs.Changes.{is_dirty_in, marked}
use Rattle.chunk_store.specs.Marks.{first_key, flagged, is_later}
use Rattle.chunk_store.proofs.marks.first_listed.Goals as goal

pub loop-index-init : goal.loop-index-init
loop-index-init c =
    sym (ap first_key (c.rest_after-index-items.ensures.same flagged (is_dirty_in c.args.chunks.now)))
    ∙ ap (λ es. first_key (filter (is_later flagged (option_map (λ d. d.now) c.args.after)) (marked (is_dirty_in c.args.chunks.now) es))) (sym c.into_iter-index-iterator.ensures.into_iter_gives)
