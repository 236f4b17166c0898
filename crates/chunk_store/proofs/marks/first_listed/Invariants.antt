use Rattle.std.proofs.Common.{◌≡◌, option_map}
use Rattle.std.specs.List.{filter}
use Rattle.chunk_store.specs.Changes.{is_dirty_in, marked}
use Rattle.chunk_store.specs.Marks.{first_key, flagged, is_later}
use Rattle.chunk_store.proofs.marks.first_listed.Given as goal

abbrev pub invariant-loop-index : goal.invariant-loop-index
invariant-loop-index l =
    let after = option_map (λ d. d.now) l.after in
    first_key (filter (is_later flagged after) (marked (is_dirty_in l.chunks) l.fn.listed.entries)) ≡ first_key (filter (is_later flagged after) (marked (is_dirty_in l.chunks) l.index-iterator))
