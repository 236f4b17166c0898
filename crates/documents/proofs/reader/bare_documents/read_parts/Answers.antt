-- Part by part.
use Rattle.std.proofs.Common.{◌≡◌, None, Some, ap, ◌∙◌, arith}
use Rattle.json.specs.Json.{read_key}
use Rattle.serde_json.specs.Data.{no_members, object, put}
use Rattle.serde_json.specs.Read.{max_depth}
use Rattle.serde_json.specs.View.{members_view}
use Rattle.serde_json.proofs.Views.{view-Object}
use Rattle.documents.specs.Reader.Bare.{bare_part}
use Rattle.documents.proofs.OfReader.BareLemmas.{tree_put, values_put}
use Rattle.documents.proofs.OfReader.WalkLemmas.{underway_first, underway_more, underway_no_key, underway_no_member, underway_over}
use Rattle.documents.proofs.reader.bare_documents.read_parts.Goals as goal

pub members-init : goal.members-init
members-init c = (no_members, underway_first 126 c.args.reader.now, ap members_view c.new-tree.ensures.empty, tt)

pub returns-in_err-key-clause-refused : goal.returns-in_err-key-clause-refused
returns-in_err-key-clause-refused c refused =
    let l = c.members in
    underway_no_key 126 _ l.reader l.invariant.0 l.invariant.1 c.in_err-key.ensures.value

pub returns-in_err-put_part-clause-refused : goal.returns-in_err-put_part-clause-refused
returns-in_err-put_part-clause-refused c refused =
    let l = c.members in
    let named : read_key l.reader ≡ Some (Some c.in-Some.key.now, c.next_key.new.self) = grind arith in
    underway_no_member 126 _ l.reader c.next_key.new.self c.in-Some.key.now l.invariant.0 l.invariant.1 named (c.put_part.ensures.refused (grind arith))

pub members-preserved : goal.members-preserved
members-preserved c =
    let l = c.members in
    let key = c.in-Some.key.now in
    let named : read_key l.reader ≡ Some (Some c.in-Some.key.now, c.next_key.new.self) = grind arith in
    let h = c.in_ok-put_part.ensures.read c.if-not-branch.false in
    let before = l.invariant.0 in (
      put key h.0 before,
      underway_more 126 _ l.reader c.next_key.new.self c.put_part.new.reader before key h.0 l.invariant.1 named h.1,
      tree_put bare_part key h.0 before _ _ l.invariant.2 h.2.tree,
      values_put key h.0 before _ _ h.2.values l.invariant.3,
    )

pub returns-clause-read : goal.returns-clause-read
returns-clause-read c =
    let l = c.members in
    let closed : read_key l.reader ≡ Some (None, c.next_key.new.self) = grind arith in (
      l.invariant.0,
      underway_over 126 max_depth _ l.reader c.next_key.new.self l.invariant.0 (omega arith) l.invariant.1 closed,
      record { tree = view-Object l.tree ∙ ap object l.invariant.2; values = l.invariant.3 },
    )
