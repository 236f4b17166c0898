use Rattle.std.proofs.Common.{◌≡◌, ◌<◌, ℕ, List, length, Option, option_map, vec_items, ap, subst, arith}
use Rattle.std.proofs.Common.{None}
use Rattle.std.specs.List.{AllByRecursion}
use Rattle.object_ids.specs.Ids.{lane_of}
use Rattle.chunk_owner.specs.Lanes.{IsWhole, Lane}
use Rattle.chunk_owner.specs.Owners.Walks.{IsWalked}
use Rattle.chunk_owner.proofs.OfOwners.InstallLemmas.{faultless_all}
use Rattle.chunk_owner.proofs.OfOwners.WalkLemmas.{walked_fault, walked_made, walked_sound}
use Rattle.chunk_owner.proofs.owners.installs.install_lanes.Goals as goal

pub returns-in-Some-clause-fault : goal.returns-in-Some-clause-fault
returns-in-Some-clause-fault c =
    walked_fault c.args.lanes c.args.run c.args.next c.args.kept.now c.in-Ok.owners.items c.in-Some.key.items
    (subst (λ (o : Option (List ℕ)). IsWalked c.args.lanes c.args.run c.args.next c.args.kept.now c.in-Ok.owners.items o) (ap (option_map vec_items) c.in-Some.is) c.in-Ok.ensures.walked)

pub returns-in-None-clause-lanes : goal.returns-in-None-clause-lanes
returns-in-None-clause-lanes c =
    let ls = c.in-Ok.owners.items in
    let none : option_map vec_items c.in-Ok.bad ≡ None = ap (option_map vec_items) c.in-None.is in
    let w = subst (λ (o : Option (List ℕ)). IsWalked c.args.lanes c.args.run c.args.next c.args.kept.now ls o) none c.in-Ok.ensures.walked in
    let whole = subst (λ (xs : List Lane). AllByRecursion IsWhole xs) c.as_slice.ensures.value c.are_whole.ensures in
    let made = walked_made c.args.lanes c.args.run c.args.next c.args.kept.now c.records_describe.ensures ls None w whole in
    made.lanes

pub returns-in-None-clause-described : goal.returns-in-None-clause-described
returns-in-None-clause-described c =
    let ls = c.in-Ok.owners.items in
    let none : option_map vec_items c.in-Ok.bad ≡ None = ap (option_map vec_items) c.in-None.is in
    let w = subst (λ (o : Option (List ℕ)). IsWalked c.args.lanes c.args.run c.args.next c.args.kept.now ls o) none c.in-Ok.ensures.walked in
    let whole = subst (λ (xs : List Lane). AllByRecursion IsWhole xs) c.as_slice.ensures.value c.are_whole.ensures in
    let made = walked_made c.args.lanes c.args.run c.args.next c.args.kept.now c.records_describe.ensures ls None w whole in
    let all : length ls ≡ c.args.lanes = w.rest in
    λ id range. made.described id range (let low : lane_of c.args.lanes id < c.args.lanes = omega (arith, c.requires) in omega (arith, low, all))

pub returns-in-None-clause-says : goal.returns-in-None-clause-says
returns-in-None-clause-says c =
    let ls = c.in-Ok.owners.items in
    let none : option_map vec_items c.in-Ok.bad ≡ None = ap (option_map vec_items) c.in-None.is in
    let w = subst (λ (o : Option (List ℕ)). IsWalked c.args.lanes c.args.run c.args.next c.args.kept.now ls o) none c.in-Ok.ensures.walked in
    let whole = subst (λ (xs : List Lane). AllByRecursion IsWhole xs) c.as_slice.ensures.value c.are_whole.ensures in
    let made = walked_made c.args.lanes c.args.run c.args.next c.args.kept.now c.records_describe.ensures ls None w whole in
    made.says

pub returns-in-None-clause-still : goal.returns-in-None-clause-still
returns-in-None-clause-still c =
    let ls = c.in-Ok.owners.items in
    let none : option_map vec_items c.in-Ok.bad ≡ None = ap (option_map vec_items) c.in-None.is in
    let w = subst (λ (o : Option (List ℕ)). IsWalked c.args.lanes c.args.run c.args.next c.args.kept.now ls o) none c.in-Ok.ensures.walked in
    let whole = subst (λ (xs : List Lane). AllByRecursion IsWhole xs) c.as_slice.ensures.value c.are_whole.ensures in
    let made = walked_made c.args.lanes c.args.run c.args.next c.args.kept.now c.records_describe.ensures ls None w whole in
    made.still

pub returns-in-None-clause-given : goal.returns-in-None-clause-given
returns-in-None-clause-given c =
    let ls = c.in-Ok.owners.items in
    let none : option_map vec_items c.in-Ok.bad ≡ None = ap (option_map vec_items) c.in-None.is in
    let w = subst (λ (o : Option (List ℕ)). IsWalked c.args.lanes c.args.run c.args.next c.args.kept.now ls o) none c.in-Ok.ensures.walked in
    let whole = subst (λ (xs : List Lane). AllByRecursion IsWhole xs) c.as_slice.ensures.value c.are_whole.ensures in
    let made = walked_made c.args.lanes c.args.run c.args.next c.args.kept.now c.records_describe.ensures ls None w whole in
    made.given

pub returns-in-None-clause-whole : goal.returns-in-None-clause-whole
returns-in-None-clause-whole c =
    let ls = c.in-Ok.owners.items in
    let none : option_map vec_items c.in-Ok.bad ≡ None = ap (option_map vec_items) c.in-None.is in
    let w = subst (λ (o : Option (List ℕ)). IsWalked c.args.lanes c.args.run c.args.next c.args.kept.now ls o) none c.in-Ok.ensures.walked in
    let whole = subst (λ (xs : List Lane). AllByRecursion IsWhole xs) c.as_slice.ensures.value c.are_whole.ensures in
    let made = walked_made c.args.lanes c.args.run c.args.next c.args.kept.now c.records_describe.ensures ls None w whole in
    made.spelled

pub returns-in-None-clause-rules : goal.returns-in-None-clause-rules
returns-in-None-clause-rules c =
    let ls = c.in-Ok.owners.items in
    let none : option_map vec_items c.in-Ok.bad ≡ None = ap (option_map vec_items) c.in-None.is in
    let w = subst (λ (o : Option (List ℕ)). IsWalked c.args.lanes c.args.run c.args.next c.args.kept.now ls o) none c.in-Ok.ensures.walked in
    walked_sound c.args.lanes c.args.run c.args.next c.args.kept.now ls w

pub returns-in-None-clause-faultless : goal.returns-in-None-clause-faultless
returns-in-None-clause-faultless c =
    let ls = c.in-Ok.owners.items in
    let none : option_map vec_items c.in-Ok.bad ≡ None = ap (option_map vec_items) c.in-None.is in
    let w = subst (λ (o : Option (List ℕ)). IsWalked c.args.lanes c.args.run c.args.next c.args.kept.now ls o) none c.in-Ok.ensures.walked in
    let whole = subst (λ (xs : List Lane). AllByRecursion IsWhole xs) c.as_slice.ensures.value c.are_whole.ensures in
    let made = walked_made c.args.lanes c.args.run c.args.next c.args.kept.now c.records_describe.ensures ls None w whole in
    faultless_all c.args.lanes c.args.run c.args.next c.args.kept.now ls made w.rest
