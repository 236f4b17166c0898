-- Member by member.
use Rattle.std.proofs.Common.{◌<◌, ◌+◌, ◌-◌, ◌∷◌, List, length, map, take, drop, Ok, inr, sym, ap, ◌∙◌, subst, arith}
use Rattle.std.specs.List.{AllByRecursion}
use Rattle.std.proofs.lemmas.List.{drop_more, drop_all, length-drop, length-map, take_all}
use Rattle.std.proofs.lemmas.Result.{IfOk-weaker}
use Rattle.serde_json.specs.View.{view}
use Rattle.serde_json.specs.declared.value.Value.{Value}
use Rattle.hdf_types.specs.Elems.{int as int_type, text as text_type}
use Rattle.hdf_types.specs.Views.{elem}
use Rattle.hdf_values.specs.Elements.{Fits}
use Rattle.hdf_values.specs.Nested.{FitsNested, AppendsEach}
use Rattle.hdf_values.proofs.ReadLemmas.{no_list, members_fit, appends_more, appends_none, elements_fit}
use Rattle.hdf_values.proofs.nested.+reads.Goals as goal
use Rattle.hdf_values.proofs.PieceLemmas.{some_left}

pub read_axes-returns-in_default-clause-reads : goal.read_axes-returns-in_default-clause-reads
read_axes-returns-in_default-clause-reads t c =
    let some = some_left c.args.extents.now c.if-is_empty.ensures in
    inr (no_list (elem c.args.kind.now) c.args.extents.now c.args.place (view c.args.tree.now) some (sym c.in_default.ensures))

pub read_axes-returns-clause-fits : goal.read_axes-returns-clause-fits
read_axes-returns-clause-fits t c =
    let e = elem c.args.kind.now in
    let dims = c.args.extents.now in
    let rest = take (length dims - 1) (drop 1 dims) in
    let items = c.in-Some.items.now in
    let some = some_left dims c.if-is_empty.ensures in
    let behind = take_all (length dims - 1) (drop 1 dims) (omega (arith, length-drop 1 dims)) in
    let count = length-map items view ∙ c.if-got-want.false in
    IfOk-weaker c.read_members.result (λ n. AllByRecursion (FitsNested e rest) (map view items)) (λ n. FitsNested e dims (view c.args.tree.now)) (λ n. members_fit e dims rest (view c.args.tree.now) (map view items) some behind (sym c.in-Some.ensures) count) c.read_members.ensures.fits

pub read_members-loop-item-preserved : goal.read_members-loop-item-preserved
read_members-loop-item-preserved t c =
    let e = elem c.args.kind.now in
    let dims = c.args.extents.now in
    let items = c.args.items.now in
    let i = c.loop-item.item-index in
    let item = c.item-item.result in
    let next = c.in_ok-next.next in
    let mid = c.read_axes.new.out.items in
    let within : c.loop-item.item-index < length c.args.items.now = omega arith in
    let more = drop_more items i item within ∙ ap (λ (v : Value). v ∷ drop (i + 1) items) (sym c.item-item.is) in
    let here = c.in_ok-next.ensures in
    record {
      place = here.place;
      reads = λ new r h.
          let whole = appends_more e dims (view item) (map view (drop (i + 1) items)) c.loop-item.next next c.loop-item.out.items mid new r here.reads h in
          c.loop-item.invariant.reads new r (subst (λ (vs : List Value). AppendsEach e dims (map view vs) c.loop-item.next c.loop-item.out.items new r) (sym more) whole);
      fits = λ h. c.loop-item.invariant.fits (subst (λ (vs : List Value). AllByRecursion (FitsNested e dims) (map view vs)) (sym more) (here.fits, h));
    }

pub read_members-returns-clause-reads : goal.read_members-returns-clause-reads
read_members-returns-clause-reads t c =
    let e = elem c.args.kind.now in
    let dims = c.args.extents.now in
    let items = c.args.items.now in
    let out = c.loop-item.out.items in
    let next = c.loop-item.next in
    let whole = drop_all c.loop-item.item-index items (omega arith) in
    c.loop-item.invariant.reads out (Ok next) (subst (λ (vs : List Value). AppendsEach e dims (map view vs) next out out (Ok next)) (sym whole) (appends_none e dims next out))

pub read_members-returns-in-Int-true-clause-fits : goal.read_members-returns-in-Int-true-clause-fits
read_members-returns-in-Int-true-clause-fits t c =
    let e = elem c.args.kind.now in
    let int = c.in-Int-true.int in
    let ds = map view c.args.items.now in
    IfOk-weaker c.read_ints.result (λ n. AllByRecursion (Fits (int_type int)) ds) (λ n. AllByRecursion (FitsNested e c.args.extents.now) ds)
    (λ n. elements_fit e (int_type int) c.args.extents.now ds (ap elem c.in-Int-true.is-0) c.in-Int-true.ensures) c.read_ints.ensures.fits

pub read_members-returns-in-Text-true-clause-fits : goal.read_members-returns-in-Text-true-clause-fits
read_members-returns-in-Text-true-clause-fits t c =
    let e = elem c.args.kind.now in
    let text = c.in-Text-true.text in
    let ds = map view c.args.items.now in
    IfOk-weaker c.read_texts.result (λ n. AllByRecursion (Fits (text_type text)) ds) (λ n. AllByRecursion (FitsNested e c.args.extents.now) ds)
    (λ n. elements_fit e (text_type text) c.args.extents.now ds (ap elem c.in-Text-true.is-0) c.in-Text-true.ensures) c.read_texts.ensures.fits
