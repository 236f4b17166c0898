-- What was kept, and what is still to be read, are what the whole list is read as.
use Rattle.std.proofs.Common.{◌<◌, ◌+◌, ◌∷◌, [], ◌++◌, ℕ, List, length, drop, map, option_map, sym, ap, ◌∙◌, arith}
use Rattle.std.proofs.lemmas.List.{drop_more, drop_all, length-take}
use Rattle.serde_json.specs.View.{view}
use Rattle.serde_json.specs.declared.value.Value.{Value}
use Rattle.json_trees.specs.Trees.{all_in, whole_in}
use Rattle.shapes.specs.declared.TheConstants.{MAX_RANK}
use Rattle.chunk_layout.proofs.LayoutLemmas.{kept_after, kept_step, kept_end}
use Rattle.chunk_layout.proofs.reading.numbers.Goals as goal

pub loop-item-preserved : goal.loop-item-preserved
loop-item-preserved c =
    let items = c.args.items.now in
    let i = c.loop-item.item-index in
    let item = c.item-item.result in
    let within : c.loop-item.item-index < length c.args.items.now = omega arith in
    let more = drop_more items i item within ∙ ap (λ (v : Value). v ∷ drop (i + 1) items) (sym c.item-item.is) in
    let read = sym c.whole_number.ensures ∙ c.in_ok-whole_number.was in
    record {
      read = c.loop-item.invariant.read
          ∙ ap (λ (vs : List Value). option_map (kept_after c.loop-item.kept) (all_in whole_in (map view vs))) more
          ∙ kept_step (map view (drop (i + 1) items)) (view item) c.in_ok-whole_number.field-0 c.loop-item.kept read
          ∙ ap (λ (k : List ℕ). option_map (kept_after k) (all_in whole_in (map view (drop (i + 1) items)))) (sym c.keep.ensures);
      short = omega (arith, ap length c.keep.ensures, length-take MAX_RANK (c.loop-item.kept ++ c.in_ok-whole_number.field-0 ∷ []));
    }

pub returns : goal.returns
returns c =
    let items = c.args.items.now in
    let i = c.loop-item.item-index in
    sym (c.loop-item.invariant.read
    ∙ ap (λ (vs : List Value). option_map (kept_after c.loop-item.kept) (all_in whole_in (map view vs))) (drop_all i items (omega arith))
    ∙ kept_end c.loop-item.kept c.loop-item.invariant.short)
