use Rattle.std.proofs.Common.{◌≡◌, ◌<◌, ℕ, List, length, take, refl, sym, ap, subst, ◌∙◌, arith}
use Rattle.std.proofs.lemmas.Option.{same_Some}
use Rattle.chunk_owner.specs.declared.installs.faults.RecordFault.{RecordFault}
use Rattle.chunk_owner.specs.Installs.Walks.{Blames, subject_of}
use Rattle.chunk_owner.specs.Lanes.{Lane}
use Rattle.chunk_owner.specs.Owners.Walks.{AreNumbered, AreWalks, HasLane, InstallsIn, IsRefusedIn}
use Rattle.chunk_owner.proofs.OfOwners.WalkLemmas.{home_at, numbered_installed, numbered_take, walks_beyond, walks_installed, walks_other, walks_refused, written}
use Rattle.chunk_owner.proofs.owners.installs.take_record.Goals as goal

pub returns-in_default-clause-walks : goal.returns-in_default-clause-walks
returns-in_default-clause-walks c = λ held rest body there h.
    (walks_other c.args.lanes c.args.run c.args.next held rest (c.args.key.now, body) c.args.owners.now.items c.in_default.ensures h, refl)

pub returns-then-lane-len-clause-walks : goal.returns-then-lane-len-clause-walks
returns-then-lane-len-clause-walks c = λ held rest body there h. (
  walks_beyond c.args.lanes c.args.run c.args.next held rest (c.args.key.now, body) (subject_of c.in-Some.of) c.in-Some.ensures.0 c.in-Some.ensures.1 c.lane_of_key-lane.result c.lane_of_key-lane.ensures.lane
      c.args.owners.now.items (omega (arith, c.len.ensures, c.if-lane-len.true)) h,
  refl,
)

pub install_in-requires-clause-own : goal.install_in-requires-clause-own
install_in-requires-clause-own c =
    subst (λ (ls : List Lane). HasLane ls c.lane_of_key-lane.result (subject_of c.in-Some.of)) (sym c.as_mut_slice.ensures.value)
    (home_at c.args.lanes c.lane_of_key-lane.result c.args.owners.now.items (subject_of c.in-Some.of) c.requires.numbered (omega (arith, c.len.ensures, c.if-lane-len.false)) c.lane_of_key-lane.ensures.lane)

pub returns-in-Ok-clause-walks : goal.returns-in-Ok-clause-walks
returns-in-Ok-clause-walks c = λ held rest body there h.
    let items = c.args.owners.now.items in
    let left = c.install_in.new.owners in
    let lane = c.lane_of_key-lane.result in
    let of = subject_of c.in-Some.of in
    let few : lane < length items = omega (arith, c.len.ensures, c.if-lane-len.false) in
    let body_is : c.in-Some-take.body.items ≡ body = same_Some c.in-Some-take.body.items body (c.in-Some-take.ensures.body ∙ there) in
    let done = subst (λ (b : List ℕ). InstallsIn c.args.run c.args.next of b lane items left) body_is
    (subst (λ (ls : List Lane). InstallsIn c.args.run c.args.next of c.in-Some-take.body.items lane ls left) c.as_mut_slice.ensures.value c.in-Ok.ensures.done) in
    subst (λ (ls : List Lane). AreWalks c.args.lanes c.args.run c.args.next held rest 0 ls × (length ls ≡ length items))
    (sym (written _ left _ (c.install_in.auto.owners ∙ c.as_mut_slice.ensures.len))) (
      walks_installed c.args.lanes c.args.run c.args.next held rest (c.args.key.now, body) of c.in-Some.ensures.0 c.in-Some.ensures.1 lane c.lane_of_key-lane.ensures.lane items left few done h,
      c.install_in.ensures.count ∙ ap (λ (ls : List Lane). length ls) c.as_mut_slice.ensures.value,
    )

pub returns-in-Ok-clause-numbered : goal.returns-in-Ok-clause-numbered
returns-in-Ok-clause-numbered c =
    let items = c.args.owners.now.items in
    let left = c.install_in.new.owners in
    let lane = c.lane_of_key-lane.result in
    let of = subject_of c.in-Some.of in
    let done = subst (λ (ls : List Lane). InstallsIn c.args.run c.args.next of c.in-Some-take.body.items lane ls left) c.as_mut_slice.ensures.value c.in-Ok.ensures.done in
    subst (λ (ls : List Lane). AreNumbered c.args.lanes 0 ls) (sym (written _ left _ (c.install_in.auto.owners ∙ c.as_mut_slice.ensures.len)))
    (numbered_installed c.args.lanes c.args.run c.args.next of c.in-Some-take.body.items lane items left c.requires.numbered done)

pub returns-in-Err-BadRecord-clause-walks : goal.returns-in-Err-BadRecord-clause-walks
returns-in-Err-BadRecord-clause-walks c = λ held rest body there h.
    let items = c.args.owners.now.items in
    let left = c.install_in.new.owners in
    let lane = c.lane_of_key-lane.result in
    let of = subject_of c.in-Some.of in
    let few : lane < length items = omega (arith, c.len.ensures, c.if-lane-len.false) in
    let body_is : c.in-Some-take.body.items ≡ body = same_Some c.in-Some-take.body.items body (c.in-Some-take.ensures.body ∙ there) in
    let blamed = subst (λ (f : RecordFault). Blames f (IsRefusedIn c.args.run c.args.next of c.in-Some-take.body.items lane c.as_mut_slice.result.now)) c.in-Err-BadRecord.field-0-is c.in-Err-BadRecord.ensures.bad in
    let bad = subst (λ (b : List ℕ). IsRefusedIn c.args.run c.args.next of b lane items) body_is
    (subst (λ (ls : List Lane). IsRefusedIn c.args.run c.args.next of c.in-Some-take.body.items lane ls) c.as_mut_slice.ensures.value blamed) in
    walks_refused c.args.lanes c.args.run c.args.next held rest (c.args.key.now, body) of c.in-Some.ensures.0 c.in-Some.ensures.1 lane c.lane_of_key-lane.ensures.lane items c.truncate.new.self.items few bad
    (c.truncate.ensures.items ∙ ap (λ (ls : List Lane). take lane ls) (written _ left _ (c.install_in.auto.owners ∙ c.as_mut_slice.ensures.len)) ∙ c.install_in.ensures.front ∙ ap (λ (ls : List Lane). take lane ls) c.as_mut_slice.ensures.value) h

pub returns-in-Err-BadRecord-clause-numbered : goal.returns-in-Err-BadRecord-clause-numbered
returns-in-Err-BadRecord-clause-numbered c =
    let left = c.install_in.new.owners in
    let lane = c.lane_of_key-lane.result in
    subst (λ (ls : List Lane). AreNumbered c.args.lanes 0 ls)
    (sym (c.truncate.ensures.items ∙ ap (λ (ls : List Lane). take lane ls) (written _ left _ (c.install_in.auto.owners ∙ c.as_mut_slice.ensures.len)) ∙ c.install_in.ensures.front ∙ ap (λ (ls : List Lane). take lane ls) c.as_mut_slice.ensures.value))
    (numbered_take c.args.lanes 0 lane c.args.owners.now.items c.requires.numbered)
