use Rattle.std.proofs.Common.{List, ℕ, Option, option_map, IfSome, IsSome, is_some, refl, sym, subst}
use Rattle.std.specs.List.Sorted.{IsStrictlySortedBy}
use Rattle.containers.specs.ShortLists.Order.{list_order}
use Rattle.hdf_types.specs.Views.{elem as kind_of}
use Rattle.chunk_store.specs.Parts.{stored_in}
use Rattle.chunk_store.specs.Indexes.{IsIndex}
use Rattle.chunk_store.specs.Marks.{Stored, IsNextChunk, state}
use Rattle.chunk_store.proofs.PartLemmas.{keys_same, known_indexes}
use Rattle.chunk_store.proofs.NextLemmas.{next_from, next_index, next_known}
use Rattle.chunk_store.proofs.array.Array.next_chunk.Goals as goal

pub returns : goal.returns
returns c =
    let a = c.self.inside in
    let old = stored_in (kind_of a.elem) a.shape a.given a.frame a.chunks in
    let after = option_map (λ d. d.now) c.args.after in
    let indexes = known_indexes (kind_of a.elem) a.shape a.given a.frame a.chunks c.self.invariant.0 in
    let next : IsNextChunk old after c.first_known.result =
    subst (λ (r : Option (List ℕ)). IsNextChunk (stored_in (kind_of a.elem) a.shape a.given a.frame a.chunks) (option_map (λ d. d.now) c.args.after) r) (sym c.first_known.ensures.first)
    (next_from is_some refl old after indexes (subst (IsStrictlySortedBy list_order) (sym (keys_same a.chunks.entries)) c.first_known.ensures.ordered)) in
    record {
      next = subst (λ (s : Stored). IsNextChunk s (option_map (λ d. d.now) c.args.after) c.first_known.result) c.self.view_is next;
      known = subst (λ (s : Stored). IfSome c.first_known.result (λ i. IsSome (state s i))) c.self.view_is (next_known is_some refl old after c.first_known.result next);
      index = subst (λ (s : Stored). IfSome c.first_known.result (λ i. IsIndex s.grid.chunk i)) c.self.view_is (next_index is_some refl old after c.first_known.result indexes next);
    }
