-- Number by number.
use Rattle.std.proofs.Common.{◌≡◌, ◌++◌, ◌∷◌, [], suc, None, Some, refl, sym, ap, subst, ◌∙◌, arith}
use Rattle.std.specs.Int.{w64}
use Rattle.std.proofs.lemmas.Int.{to_z-of_z}
use Rattle.json.specs.Json.{after_end_array}
use Rattle.json.specs.Reads.{token_of}
use Rattle.hdf_values.specs.Packed.{Packs}
use Rattle.hdf_values.proofs.OfKept.PackLemmas.{number_packed, item_packed, items_closed, list_packed}
use Rattle.hdf_values.proofs.kept.packed.read_row.Goals as goal

pub loop-got-init : goal.loop-got-init
loop-got-init c most count more rest new e h =
    let z = c.in-Some.number in
    let old = c.args.numbers.now in
    let added = c.in_ok-push.ensures ∙ ap (λ y. old ++ y ∷ []) (to_z-of_z w64 z c.in-Some.ensures.fits) in
    let first = number_packed most c.args.first.now z c.args.reader.now old _ c.in-Some.ensures.reads added in
    item_packed most _ c.args.reader.now rest [] more count old c.push.new.self new (omega (arith, e)) first h

pub returns-then-take_end_array : goal.returns-then-take_end_array
returns-then-take_end_array c most =
    let l = c.loop-got in
    let closed : after_end_array c.loop-got.reader ≡ Some c.take_end_array.new.self = grind arith in
    let all = l.invariant most l.got 0 c.take_end_array.new.self l.numbers (omega arith) (items_closed most l.reader _ [] l.numbers closed) in
    list_packed most _ _ [] c.repeated.result l.got _ _ l.auto.got tt c.repeated.ensures all

pub loop-got-preserved : goal.loop-got-preserved
loop-got-preserved c most count more rest new e h =
    let l = c.loop-got in
    let going : (after_end_array l.reader ≡ None) × (c.take_end_array.new.self ≡ l.reader) = grind arith in
    let is = sym going.1 ∙ c.in-Some-Number.ensures.value ∙ ap (λ k. token_of k ∷ c.next.new.self) c.in-Some-Number.field-0-is in
    let z = c.in-Some-whole_of.number in
    let now = c.push-in-loop-got.new.self in
    let added = c.in_ok-push-2.ensures ∙ ap (λ y. c.loop-got.numbers ++ y ∷ []) (to_z-of_z w64 z c.in-Some-whole_of.ensures.fits) in
    let first = number_packed most c.in-Some-Number.text.now z c.next.new.self l.numbers now c.in-Some-whole_of.ensures.reads added in
    let here = subst (λ ts. Packs most ts [] c.loop-got.numbers c.push-in-loop-got.new.self c.next.new.self) (sym is) first in
    l.invariant most count (suc more) rest new (omega (arith, e))
    (item_packed most l.reader c.next.new.self rest [] more (suc more) l.numbers now new refl here h)
