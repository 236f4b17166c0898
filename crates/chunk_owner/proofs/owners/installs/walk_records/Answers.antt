use Rattle.std.proofs.Common.{◌≡◌, ◌<◌, Bool, List, ℕ, Option, Some, option_map, vec_items, sym, ap, subst}
use Rattle.containers.specs.TextMaps.Nexts.{IsNext}
use Rattle.chunk_owner.specs.Owners.Walks.{TakesOut}
use Rattle.chunk_owner.proofs.OfOwners.DrainLemmas.{IsDrainedTo, next_held, size_at, smaller}
use Rattle.chunk_owner.proofs.OfOwners.WalkLemmas.{IsWalkedTo, Judges, walked_bad, walked_begin, walked_more}
use Rattle.chunk_owner.proofs.owners.installs.walk_records.Goals as goal

pub loop-at-init : goal.loop-at-init
loop-at-init c =
    walked_begin c.args.lanes c.args.run c.args.next c.args.kept.now (option_map vec_items c.in_ok-at.at) c.in_ok-owners.owners.items c.in_ok-at.ensures c.in_ok-owners.ensures.new c.in_ok-owners.ensures.count

pub loop-at-smaller-then-not-branch : goal.loop-at-smaller-then-not-branch
loop-at-smaller-then-not-branch c =
    let held = c.args.kept.now in
    let key = c.in-Some.key.items in
    let at = option_map vec_items c.in_ok-at-2.at in
    let is : option_map vec_items c.loop-at.at ≡ Some key = ap (option_map vec_items) c.in-Some.is in
    let w = subst (λ (o : Option (List ℕ)). IsWalkedTo c.args.lanes c.args.run c.args.next held c.loop-at.kept o c.loop-at.owners.items (option_map vec_items c.loop-at.bad)) is c.loop-at.invariant in
    let after = subst (λ (k : List ℕ). IsNext c.loop-at.kept (Some k) at) c.as_slice.ensures.value c.in_ok-at-2.ensures in
    subst (λ (o : Option (List ℕ)). size_at held at < size_at held o) (sym is) (smaller held key at (next_held held c.loop-at.kept key at w.agrees after))

pub loop-at-preserved-then-not-branch : goal.loop-at-preserved-then-not-branch
loop-at-preserved-then-not-branch c =
    let held = c.args.kept.now in
    let key = c.in-Some.key.items in
    let at = option_map vec_items c.in_ok-at-2.at in
    let is : option_map vec_items c.loop-at.at ≡ Some key = ap (option_map vec_items) c.in-Some.is in
    let w = subst (λ (o : Option (List ℕ)). IsWalkedTo c.args.lanes c.args.run c.args.next held c.loop-at.kept o c.loop-at.owners.items (option_map vec_items c.loop-at.bad)) is c.loop-at.invariant in
    let after = subst (λ (k : List ℕ). IsNext c.loop-at.kept (Some k) at) c.as_slice.ensures.value c.in_ok-at-2.ensures in
    let taken = subst (λ (k : List ℕ). TakesOut k c.loop-at.kept c.take_record.new.kept) c.as_slice-in-Some.ensures.value c.take_record.ensures.kept in
    let judges = subst (λ (k : List ℕ). Judges c.args.lanes c.args.run c.args.next held k c.loop-at.kept c.loop-at.owners.items c.in_ok-take_record.field-0 c.take_record.new.owners.items)
    c.as_slice-in-Some.ensures.value c.in_ok-take_record.ensures.walks in
    walked_bad c.args.lanes c.args.run c.args.next held c.loop-at.kept c.take_record.new.kept key c.loop-at.owners.items c.take_record.new.owners.items (option_map vec_items c.loop-at.bad) w at after
    c.in_ok-take_record.ensures.numbered taken
    (subst (λ (b : Bool). Judges c.args.lanes c.args.run c.args.next held key c.loop-at.kept c.loop-at.owners.items b c.take_record.new.owners.items) c.if-not-branch.true judges)

pub loop-at-smaller : goal.loop-at-smaller
loop-at-smaller c =
    let held = c.args.kept.now in
    let key = c.in-Some.key.items in
    let at = option_map vec_items c.in_ok-at-2.at in
    let is : option_map vec_items c.loop-at.at ≡ Some key = ap (option_map vec_items) c.in-Some.is in
    let w = subst (λ (o : Option (List ℕ)). IsWalkedTo c.args.lanes c.args.run c.args.next held c.loop-at.kept o c.loop-at.owners.items (option_map vec_items c.loop-at.bad)) is c.loop-at.invariant in
    let after = subst (λ (k : List ℕ). IsNext c.loop-at.kept (Some k) at) c.as_slice.ensures.value c.in_ok-at-2.ensures in
    subst (λ (o : Option (List ℕ)). size_at held at < size_at held o) (sym is) (smaller held key at (next_held held c.loop-at.kept key at w.agrees after))

pub loop-at-preserved : goal.loop-at-preserved
loop-at-preserved c =
    let held = c.args.kept.now in
    let key = c.in-Some.key.items in
    let at = option_map vec_items c.in_ok-at-2.at in
    let is : option_map vec_items c.loop-at.at ≡ Some key = ap (option_map vec_items) c.in-Some.is in
    let w = subst (λ (o : Option (List ℕ)). IsWalkedTo c.args.lanes c.args.run c.args.next held c.loop-at.kept o c.loop-at.owners.items (option_map vec_items c.loop-at.bad)) is c.loop-at.invariant in
    let after = subst (λ (k : List ℕ). IsNext c.loop-at.kept (Some k) at) c.as_slice.ensures.value c.in_ok-at-2.ensures in
    let taken = subst (λ (k : List ℕ). TakesOut k c.loop-at.kept c.take_record.new.kept) c.as_slice-in-Some.ensures.value c.take_record.ensures.kept in
    let judges = subst (λ (k : List ℕ). Judges c.args.lanes c.args.run c.args.next held k c.loop-at.kept c.loop-at.owners.items c.in_ok-take_record.field-0 c.take_record.new.owners.items)
    c.as_slice-in-Some.ensures.value c.in_ok-take_record.ensures.walks in
    walked_more c.args.lanes c.args.run c.args.next held c.loop-at.kept c.take_record.new.kept key c.loop-at.owners.items c.take_record.new.owners.items (option_map vec_items c.loop-at.bad) w at after
    c.in_ok-take_record.ensures.numbered taken
    (subst (λ (b : Bool). Judges c.args.lanes c.args.run c.args.next held key c.loop-at.kept c.loop-at.owners.items b c.take_record.new.owners.items) c.if-not-branch.false judges)

pub returns-clause-taken : goal.returns-clause-taken
returns-clause-taken c =
    subst (λ (o : Option (List ℕ)). IsDrainedTo c.loop-at.kept o) (ap (option_map vec_items) c.in_default.is) c.loop-at.invariant.drained
