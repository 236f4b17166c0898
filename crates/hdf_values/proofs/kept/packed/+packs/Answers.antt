-- List by list.
use Rattle.std.proofs.Common.{◌≡◌, ◌∷◌, suc, None, Some, refl, sym, ap, subst, ◌∙◌, arith}
use Rattle.json.specs.Json.{after_end_array}
use Rattle.json.specs.Reads.{token_of}
use Rattle.hdf_values.specs.Packed.{Packs}
use Rattle.hdf_values.proofs.OfKept.PackLemmas.{same_extents, row_told, list_told, item_packed, items_closed}
use Rattle.hdf_values.proofs.kept.packed.+packs.Goals as goal

pub read_list-returns-in-Some-Number : goal.read_list-returns-in-Some-Number
read_list-returns-in-Some-Number t c =
    let is = c.in-Some-Number.ensures.value ∙ ap (λ k. token_of k ∷ c.next.new.self) c.in-Some-Number.field-0-is in
    row_told c.read_row.result c.args.depth _ c.next.new.self _ c.in-Some-Number.text.now _ _ (omega arith) is c.read_row.ensures

pub read_lists-loop-got-init : goal.read_lists-loop-got-init
read_lists-loop-got-init t c count more rest new e h =
    let first = rw c.in-Some.is at c.in_ok-extents.ensures in
    item_packed c.args.depth _ c.read_list.new.reader rest c.in-Some.extents more count c.args.numbers.now c.read_list.new.numbers new
    (omega (arith, e)) first h

pub read_lists-returns-then-take_end_array : goal.read_lists-returns-then-take_end_array
read_lists-returns-then-take_end_array t c =
    let l = c.loop-got in
    let dims = c.in-Some.extents in
    let closed : after_end_array c.loop-got.reader ≡ Some c.take_end_array.new.self = grind arith in
    let all = l.invariant l.got 0 c.take_end_array.new.self l.numbers (omega arith) (items_closed c.args.depth l.reader _ dims l.numbers closed) in
    let first = rw c.in-Some.is at c.in_ok-extents.ensures in
    list_told c.longer.result c.args.depth _ c.take_end_array.new.self dims l.got c.args.numbers.now l.numbers l.auto.got first.some c.longer.ensures all

pub read_lists-loop-got-preserved : goal.read_lists-loop-got-preserved
read_lists-loop-got-preserved t c count more rest new e h =
    let l = c.loop-got in
    let dims = c.in-Some.extents in
    let going : (after_end_array l.reader ≡ None) × (c.take_end_array.new.self ≡ l.reader) = grind arith in
    let is = sym going.1 ∙ c.in-Some-BeginArray.ensures.value ∙ ap (λ k. token_of k ∷ c.next.new.self) c.in-Some-BeginArray.field-0-is in
    let same = same_extents c.in-Some-2.others dims c.if-ne.ensures in
    let now = c.read_list-in-loop-got.new.numbers in
    let first = rw c.in-Some-2.is at c.in_ok-others.ensures in
    let here = subst (λ ts. Packs c.args.depth ts c.in-Some-2.others l.numbers now c.read_list-in-loop-got.new.reader) (sym is) first in
    let equal = subst (λ ns. Packs c.args.depth l.reader ns l.numbers now c.read_list-in-loop-got.new.reader) same here in
    l.invariant count (suc more) rest new (omega (arith, e))
    (item_packed c.args.depth l.reader c.read_list-in-loop-got.new.reader rest dims more (suc more) l.numbers now new refl equal h)
