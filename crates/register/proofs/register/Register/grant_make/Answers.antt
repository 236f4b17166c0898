use Rattle.std.proofs.Common.{List, ℕ, ◌+◌, ◌<◌, ◌^◌, sym, subst, ◌∙◌}
use Rattle.std.specs.Prelude.{All, slice_index, length}
use Rattle.object_ids.specs.IdValues.{Id}
use Rattle.object_ids.specs.Ids.{lane_of}
use Rattle.register.specs.Decided.{RegisterState}
use Rattle.register.proofs.Counting.{counted_room}
use Rattle.register.proofs.RegisterStates.{recounted, serial_taken}
use Rattle.register.proofs.register.Register.grant_make.Goals as goal

pub issue-second-requires-clause-room : goal.issue-second-requires-clause-room
issue-second-requires-clause-room c =
    let fresh : Id = record { kind = c.kind.result; domain = c.args.number; run = c.self.inside.run; serial = c.self.inside.serial } in
    let Room : List ℕ → Type 0 = λ counts. slice_index counts (lane_of (length counts) fresh) < 2 ^ 63 in
    let Tickets : RegisterState → Type 0 = λ d. All (λ n. n < 2 ^ 62) d.issued in
    subst Room (sym c.issue-first.ensures.counted)
    (counted_room c.self.inside.issued c.in-Some.place.group fresh c.self.invariant.some_lane (subst Tickets (sym c.self.view_is) c.requires.room.tickets))

pub invariant_of-self : goal.invariant_of-self
invariant_of-self c =
    let d : RegisterState = record { catalogue = c.self.inside.catalogue; run = c.self.inside.run; serial = c.self.inside.serial; places = c.self.inside.places; issued = c.self.inside.issued; marks = c.self.inside.marks } in
    serial_taken d c.self.invariant c.if-self-ge-SERIAL_LIMIT.false

pub invariant_of-self-in-None : goal.invariant_of-self-in-None
invariant_of-self-in-None c =
    let d : RegisterState = record { catalogue = c.self.inside.catalogue; run = c.self.inside.run; serial = c.self.inside.serial; places = c.self.inside.places; issued = c.self.inside.issued; marks = c.self.inside.marks } in
    recounted (record d { serial = d.serial + 1 }) c.issue-turn.new.counts (serial_taken d c.self.invariant c.if-self-ge-SERIAL_LIMIT.false)
    c.issue-turn.ensures.lanes

pub invariant_of-self-in-Some : goal.invariant_of-self-in-Some
invariant_of-self-in-Some c =
    let d : RegisterState = record { catalogue = c.self.inside.catalogue; run = c.self.inside.run; serial = c.self.inside.serial; places = c.self.inside.places; issued = c.self.inside.issued; marks = c.self.inside.marks } in
    recounted (record d { serial = d.serial + 1 }) c.issue-second.new.counts (serial_taken d c.self.invariant c.if-self-ge-SERIAL_LIMIT.false)
    (c.issue-second.ensures.lanes ∙ c.issue-first.ensures.lanes)
