use Rattle.std.proofs.Common.{option_map, sym, ap, ◌∙◌}
use Rattle.std.specs.List.{filter}
use Rattle.chunk_store.specs.Buffers.{flags_of}
use Rattle.chunk_store.specs.Marks.{first_key, flagged, is_later}
use Rattle.chunk_store.proofs.marks.first_dirty.Goals as goal

pub loop-index-init : goal.loop-index-init
loop-index-init c =
    sym (ap first_key (c.rest_after-index-items.ensures.same flagged (λ e. e.1.dirty)))
    ∙ ap (λ es. first_key (filter (is_later flagged (option_map (λ d. d.now) c.args.after)) (flags_of es))) (sym c.into_iter-index-iterator.ensures.into_iter_gives)
