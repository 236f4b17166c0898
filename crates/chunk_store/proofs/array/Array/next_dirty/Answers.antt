use Rattle.std.proofs.Common.{List, ℕ, Option, option_map, IfSome, IsSome, refl, sym, ap, subst, ◌∙◌}
use Rattle.std.specs.List.Sorted.{IsStrictlySortedBy}
use Rattle.containers.specs.ShortLists.Order.{list_order}
use Rattle.hdf_types.specs.Views.{elem as kind_of}
use Rattle.chunk_store.specs.Parts.{stored_in}
use Rattle.chunk_store.specs.Indexes.{IsIndex}
use Rattle.chunk_store.specs.Marks.{Stored, IsNextDirty, flagged, state}
use Rattle.chunk_store.specs.Changes.{is_dirty_in, marked}
use Rattle.chunk_store.proofs.ChangeLemmas.{listed_told, marked_keys}
use Rattle.chunk_store.proofs.PartLemmas.{keys_same, known_indexes, state_flag}
use Rattle.chunk_store.proofs.NextLemmas.{next_from, next_index, next_known, next_told}
use Rattle.chunk_store.proofs.array.Array.next_dirty.Goals as goal

pub returns-then-self : goal.returns-then-self
returns-then-self c =
    let a = c.self.inside in
    let old = stored_in (kind_of a.elem) a.shape a.given a.frame a.chunks in
    let after = option_map (λ d. d.now) c.args.after in
    let indexes = known_indexes (kind_of a.elem) a.shape a.given a.frame a.chunks c.self.invariant.0 in
    let next : IsNextDirty old after c.first_dirty.result =
    subst (λ (r : Option (List ℕ)). IsNextDirty (stored_in (kind_of a.elem) a.shape a.given a.frame a.chunks) (option_map (λ d. d.now) c.args.after) r) (sym c.first_dirty.ensures.first)
    (next_from flagged refl old after indexes (subst (IsStrictlySortedBy list_order) (sym (keys_same a.chunks.entries)) c.first_dirty.ensures.ordered)) in
    record {
      next = subst (λ (s : Stored). IsNextDirty s (option_map (λ d. d.now) c.args.after) c.first_dirty.result) c.self.view_is next;
      known = subst (λ (s : Stored). IfSome c.first_dirty.result (λ i. IsSome (state s i))) c.self.view_is (next_known flagged refl old after c.first_dirty.result next);
      index = subst (λ (s : Stored). IfSome c.first_dirty.result (λ i. IsIndex s.grid.chunk i)) c.self.view_is (next_index flagged refl old after c.first_dirty.result indexes next);
    }

pub returns-else-self : goal.returns-else-self
returns-else-self c =
    let a = c.self.inside in
    let old = stored_in (kind_of a.elem) a.shape a.given a.frame a.chunks in
    let after = option_map (λ d. d.now) c.args.after in
    let indexes = known_indexes (kind_of a.elem) a.shape a.given a.frame a.chunks c.self.invariant.0 in
    let meant = λ (i : List ℕ). listed_told a.shape a.frame a.chunks a.changes c.if-self.false c.self.invariant.1 i ∙ ap flagged (sym (state_flag (kind_of a.elem) a.shape a.given a.frame a.chunks i)) in
    let next : IsNextDirty old after c.first_listed.result =
    subst (λ (r : Option (List ℕ)). IsNextDirty (stored_in (kind_of a.elem) a.shape a.given a.frame a.chunks) (option_map (λ d. d.now) c.args.after) r) (sym c.first_listed.ensures.first)
    (next_told flagged refl old (marked (is_dirty_in a.chunks) a.changes.listed.entries) indexes meant after (subst (IsStrictlySortedBy list_order) (sym (marked_keys (is_dirty_in a.chunks) a.changes.listed.entries)) c.first_listed.ensures.ordered)) in
    record {
      next = subst (λ (s : Stored). IsNextDirty s (option_map (λ d. d.now) c.args.after) c.first_listed.result) c.self.view_is next;
      known = subst (λ (s : Stored). IfSome c.first_listed.result (λ i. IsSome (state s i))) c.self.view_is (next_known flagged refl old after c.first_listed.result next);
      index = subst (λ (s : Stored). IfSome c.first_listed.result (λ i. IsIndex s.grid.chunk i)) c.self.view_is (next_index flagged refl old after c.first_listed.result indexes next);
    }
