-- Element by element, until one is none.
use Rattle.std.proofs.Common.{◌≡◌, ◌+◌, ◌≤◌, take, drop, length, refl, sym, ◌∙◌, subst, arith}
use Rattle.std.proofs.lemmas.Bool.{false≢true}
use Rattle.hdf_types.specs.Reading.{size_of}
use Rattle.hdf_types.specs.Views.{elem}
use Rattle.hdf_values.specs.Elements.{IsEncoded}
use Rattle.hdf_values.specs.Nested.{IsFirstUnencoded}
use Rattle.hdf_values.proofs.PieceLemmas.{one_passed, passed_within, all_passed, first_wrong, too_short, not_all, none_left, some_left, some_size}
use Rattle.hdf_values.proofs.pieces.first_misfit.Goals as goal

room_left : (c : goal.Else-not-is_encoded) → c.loop-left.index + 1 ≤ length c.args.bytes.now
room_left c =
    let some = some_size (elem c.args.kind.now) c.requires.sound.formed in
    omega (arith, some, passed_within (elem c.args.kind.now) c.args.bytes.now c.loop-left.index c.loop-left.left.now c.requires.sound.formed c.loop-left.invariant)

pub overflow_add-index : goal.overflow_add-index
overflow_add-index c = omega (arith, room_left c)

pub loop-left-smaller : goal.loop-left-smaller
loop-left-smaller c =
    let some = some_size (elem c.args.kind.now) c.requires.sound.formed in
    omega (arith, some)

pub loop-left-preserved : goal.loop-left-preserved
loop-left-preserved c =
    let e = elem c.args.kind.now in
    let left = c.loop-left.left.now in
    let front : c.split_at.result.0.now ≡ take (size_of (elem c.args.kind.now)) c.loop-left.left.now = cc in
    let back : c.split_at.result.1.now ≡ drop (size_of (elem c.args.kind.now)) c.loop-left.left.now = cc in
    let here = subst (IsEncoded e) front (c.is_encoded.ensures.0 c.if-not-is_encoded.false) in
    rw back (one_passed e c.args.bytes.now c.loop-left.index left c.loop-left.invariant (omega arith) here)

wrong_here : (c : goal.Then-not-is_encoded) → IsFirstUnencoded (elem c.args.kind.now) c.args.bytes.now c.loop-left.index
wrong_here c =
    let e = elem c.args.kind.now in
    let some = some_size e c.requires.sound.formed in
    let front : c.split_at.result.0.now ≡ take (size_of (elem c.args.kind.now)) c.loop-left.left.now = cc in
    first_wrong e c.args.bytes.now c.loop-left.index c.loop-left.left.now c.loop-left.invariant (omega (arith, some))
    (λ h. false≢true (sym c.if-not-is_encoded.true ∙ c.is_encoded.ensures.1 (subst (IsEncoded e) (sym front) h)))

pub returns-then-not-is_encoded-clause-first : goal.returns-then-not-is_encoded-clause-first
returns-then-not-is_encoded-clause-first c = wrong_here c

pub returns-then-not-is_encoded-clause-none : goal.returns-then-not-is_encoded-clause-none
returns-then-not-is_encoded-clause-none c = (λ e. cc, λ h. absurd (not_all (elem c.args.kind.now) c.args.bytes.now c.loop-left.index _ (wrong_here c) h))

pub returns-then-is_empty-clause-none : goal.returns-then-is_empty-clause-none
returns-then-is_empty-clause-none c = (
  λ e. all_passed (elem c.args.kind.now) c.args.bytes.now c.loop-left.index c.loop-left.left.now c.requires.sound.formed c.loop-left.invariant (none_left c.loop-left.left.now c.if-is_empty.ensures),
  λ h. refl,
)

short_here : (c : goal.Else-is_empty) → IsFirstUnencoded (elem c.args.kind.now) c.args.bytes.now c.loop-left.index
short_here c =
    let e = elem c.args.kind.now in
    let left = c.loop-left.left.now in
    first_wrong e c.args.bytes.now c.loop-left.index left c.loop-left.invariant (some_left left c.if-is_empty.ensures)
    (too_short e left c.requires.sound.formed (omega arith))

pub returns-else-is_empty-clause-first : goal.returns-else-is_empty-clause-first
returns-else-is_empty-clause-first c = short_here c

pub returns-else-is_empty-clause-none : goal.returns-else-is_empty-clause-none
returns-else-is_empty-clause-none c = (λ e. cc, λ h. absurd (not_all (elem c.args.kind.now) c.args.bytes.now c.loop-left.index _ (short_here c) h))
