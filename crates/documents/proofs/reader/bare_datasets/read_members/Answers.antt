-- Member by member.
use Rattle.std.proofs.Common.{◌≡◌, None, Some, refl, ap, ◌∙◌, arith}
use Rattle.json.specs.Json.{read_key}
use Rattle.serde_json.specs.Data.{no_members, object, put}
use Rattle.serde_json.specs.View.{members_view}
use Rattle.serde_json.proofs.Views.{view-Object}
use Rattle.documents.specs.Reader.Bare.{bare_member}
use Rattle.documents.proofs.OfReader.BareLemmas.{tree_put, value_put}
use Rattle.documents.proofs.OfReader.WalkLemmas.{underway_first, underway_more, underway_no_key, underway_no_member, underway_over}
use Rattle.documents.proofs.reader.bare_datasets.read_members.Goals as goal

pub members-init : goal.members-init
members-init c = (no_members, underway_first 124 c.args.reader.now, ap members_view c.new-tree.ensures.empty, refl)

pub returns-in_err-key-clause-refused : goal.returns-in_err-key-clause-refused
returns-in_err-key-clause-refused c refused =
    let l = c.members in
    underway_no_key 124 _ l.reader l.invariant.0 l.invariant.1 c.in_err-key.ensures.value

pub members-preserved : goal.members-preserved
members-preserved c =
    let l = c.members in
    let key = c.in-Some.key.now in
    let named : read_key l.reader ≡ Some (Some c.in-Some.key.now, c.next_key.new.self) = grind arith in
    let h = c.in_ok-read_member.ensures.read in
    let before = l.invariant.0 in (
      put key h.0 before,
      underway_more 124 _ l.reader c.next_key.new.self c.read_member.new.reader before key h.0 l.invariant.1 named h.1,
      tree_put bare_member key h.0 before _ _ l.invariant.2 h.2,
      value_put key h.0 before _ _ l.invariant.3 h.3,
    )

pub returns-in_err-read_member-clause-refused : goal.returns-in_err-read_member-clause-refused
returns-in_err-read_member-clause-refused c refused =
    let l = c.members in
    let named : read_key l.reader ≡ Some (Some c.in-Some.key.now, c.next_key.new.self) = grind arith in
    underway_no_member 124 _ l.reader c.next_key.new.self c.in-Some.key.now l.invariant.0 l.invariant.1 named (c.read_member.ensures.refused (grind arith))

pub returns-clause-read : goal.returns-clause-read
returns-clause-read c =
    let l = c.members in
    let closed : read_key l.reader ≡ Some (None, c.next_key.new.self) = grind arith in (
      l.invariant.0,
      underway_over 124 125 _ l.reader c.next_key.new.self l.invariant.0 (omega arith) l.invariant.1 closed,
      record { tree = view-Object l.tree ∙ ap object l.invariant.2; value = l.invariant.3 },
    )
