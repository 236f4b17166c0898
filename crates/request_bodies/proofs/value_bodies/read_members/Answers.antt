-- Member by member.
use Rattle.std.proofs.Common.{◌≡◌, None, Some, arith}
use Rattle.json.specs.Json.{read_key}
use Rattle.json.proofs.Grammar.{read_key-shorter}
use Rattle.json_trees.proofs.OfKept.ReadLemmas.{read_shorter}
use Rattle.request_bodies.proofs.ValueBodyLemmas.{underway_first, underway_more, underway_over, underway_no_key, underway_no_member}
use Rattle.request_bodies.proofs.value_bodies.read_members.Goals as goal

pub members-init : goal.members-init
members-init c = underway_first c.args.reader.now c.nothing-body.result c.nothing-body.ensures

pub members-smaller : goal.members-smaller
members-smaller c =
    let l = c.members in
    let named : read_key l.reader ≡ Some (Some c.in-Some.key.now, c.next_key.new.self) = grind arith in
    omega (arith, read_shorter 126 _ _ _ c.in_ok-read_member.ensures.read.1, read_key-shorter l.reader _ _ named)

pub members-preserved : goal.members-preserved
members-preserved c =
    let l = c.members in
    let named : read_key l.reader ≡ Some (Some c.in-Some.key.now, c.next_key.new.self) = grind arith in
    let h = c.in_ok-read_member.ensures.read in
    underway_more _ l.reader c.next_key.new.self c.read_member.new.reader l.body c.read_member.new.body c.in-Some.key.now h.0 l.invariant named h.1 h.2

pub returns-in_err-key-clause-refused : goal.returns-in_err-key-clause-refused
returns-in_err-key-clause-refused c refused =
    let l = c.members in
    underway_no_key _ l.reader l.body l.invariant c.in_err-key.ensures.value

pub returns-in_err-read_member-clause-refused : goal.returns-in_err-read_member-clause-refused
returns-in_err-read_member-clause-refused c refused =
    let l = c.members in
    let named : read_key l.reader ≡ Some (Some c.in-Some.key.now, c.next_key.new.self) = grind arith in
    underway_no_member _ l.reader c.next_key.new.self c.in-Some.key.now l.body l.invariant named (c.read_member.ensures.refused (grind arith))

pub returns-clause-read : goal.returns-clause-read
returns-clause-read c =
    let l = c.members in
    let closed : read_key l.reader ≡ Some (None, c.next_key.new.self) = grind arith in
    underway_over _ l.reader c.next_key.new.self l.body l.invariant closed
