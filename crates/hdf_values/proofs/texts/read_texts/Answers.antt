-- Text by text.
use Rattle.std.proofs.Common.{◌<◌, ◌+◌, [], ◌∷◌, List, length, map, drop, Ok, sym, ap, ◌∙◌, subst, arith}
use Rattle.std.specs.List.{AllByRecursion}
use Rattle.std.proofs.lemmas.List.{drop_more, drop_all}
use Rattle.serde_json.specs.View.{view}
use Rattle.serde_json.specs.declared.value.Value.{Value}
use Rattle.hdf_types.specs.Elems.{text}
use Rattle.hdf_values.specs.Elements.{Fits}
use Rattle.hdf_values.specs.Nested.{AppendsEach}
use Rattle.hdf_values.proofs.ReadLemmas.{appends_more, appends_none}
use Rattle.hdf_values.proofs.texts.read_texts.Goals as goal

pub loop-item-preserved : goal.loop-item-preserved
loop-item-preserved c =
    let e = text c.args.kind.now in
    let items = c.args.items.now in
    let i = c.loop-item.item-index in
    let item = c.item-item.result in
    let next = c.in_ok-next.next in
    let mid = c.read_text.new.out.items in
    let within : c.loop-item.item-index < length c.args.items.now = omega arith in
    let more = drop_more items i item within ∙ ap (λ (v : Value). v ∷ drop (i + 1) items) (sym c.item-item.is) in
    let here = c.in_ok-next.ensures in
    record {
      place = here.place;
      reads = λ new r h.
          let whole = appends_more e [] (view item) (map view (drop (i + 1) items)) c.loop-item.next next c.loop-item.out.items mid new r here.reads h in
          c.loop-item.invariant.reads new r (subst (λ (vs : List Value). AppendsEach e [] (map view vs) c.loop-item.next c.loop-item.out.items new r) (sym more) whole);
      fits = λ h. c.loop-item.invariant.fits (subst (λ (vs : List Value). AllByRecursion (Fits e) (map view vs)) (sym more) (here.fits, h));
    }

pub returns-clause-reads : goal.returns-clause-reads
returns-clause-reads c =
    let e = text c.args.kind.now in
    let items = c.args.items.now in
    let out = c.loop-item.out.items in
    let next = c.loop-item.next in
    let whole = drop_all c.loop-item.item-index items (omega arith) in
    c.loop-item.invariant.reads out (Ok next) (subst (λ (vs : List Value). AppendsEach e [] (map view vs) next out out (Ok next)) (sym whole) (appends_none e [] next out))
