-- Dataset by dataset.
use Rattle.std.proofs.Common.{◌≡◌, None, Some, ap, ◌∙◌, arith}
use Rattle.json.specs.Json.{read_key}
use Rattle.serde_json.specs.Data.{no_members, object, put}
use Rattle.serde_json.specs.View.{members_view}
use Rattle.serde_json.proofs.Views.{view-Object}
use Rattle.documents.specs.Reader.Bare.{bare_dataset}
use Rattle.documents.proofs.OfReader.BareLemmas.{kept_more, rising_put, tree_put}
use Rattle.documents.proofs.OfReader.WalkLemmas.{underway_first, underway_more, underway_no_key, underway_no_member, underway_over}
use Rattle.documents.proofs.reader.bare_datasets.read_objects.Goals as goal

pub members-init : goal.members-init
members-init c = (no_members, underway_first 125 c.args.reader.now, ap members_view c.new-tree.ensures.empty, tt, tt)

pub returns-in_err-id-clause-refused : goal.returns-in_err-id-clause-refused
returns-in_err-id-clause-refused c refused =
    let l = c.members in
    underway_no_key 125 _ l.reader l.invariant.0 l.invariant.1 c.in_err-id.ensures.value

pub returns-in_err-dataset-clause-refused : goal.returns-in_err-dataset-clause-refused
returns-in_err-dataset-clause-refused c refused =
    let l = c.members in
    let named : read_key l.reader ≡ Some (Some c.in-Some.id.now, c.next_key.new.self) = grind arith in
    underway_no_member 125 _ l.reader c.next_key.new.self c.in-Some.id.now l.invariant.0 l.invariant.1 named (c.read_dataset.ensures.refused (grind arith))

pub members-preserved : goal.members-preserved
members-preserved c =
    let l = c.members in
    let id = c.in-Some.id.now in
    let named : read_key l.reader ≡ Some (Some c.in-Some.id.now, c.next_key.new.self) = grind arith in
    let h = rw c.in-Some-2.is at c.in_ok-dataset.ensures.read in
    let before = l.invariant.0 in (
      put id h.0 before,
      underway_more 125 _ l.reader c.next_key.new.self c.read_dataset.new.reader before id h.0 l.invariant.1 named h.1,
      tree_put bare_dataset id h.0 before _ _ l.invariant.2 (c.in_ok-put.ensures.ok ∙ ap (λ x. put id x (members_view l.tree.entries)) h.2.tree),
      kept_more l.values c.put_copy.new.self id h.0 c.in-Some-2.dataset.value before l.invariant.4 l.invariant.3 h.2.value c.in_ok-put_copy.ensures.ok,
      rising_put id h.0 before l.invariant.4,
    )

pub returns-clause-read : goal.returns-clause-read
returns-clause-read c =
    let l = c.members in
    let closed : read_key l.reader ≡ Some (None, c.next_key.new.self) = grind arith in (
      l.invariant.0,
      underway_over 125 126 _ l.reader c.next_key.new.self l.invariant.0 (omega arith) l.invariant.1 closed,
      record { tree = view-Object l.tree ∙ ap object l.invariant.2; values = l.invariant.3 },
    )
