-- Nothing is left: all tokens were written, and what they are is read back.
use Rattle.std.proofs.Common.{◌≡◌, [], subst, arith, drop}
use Rattle.std.proofs.lemmas.List.{drop_all}
use Rattle.std.proofs.lemmas.Result.{on_ok_weaker}
use Rattle.json.specs.Token.{end_array, end_object}
use Rattle.json.specs.Tree.{items_tokens, members_tokens}
use Rattle.serde_json.specs.View.{items_view, members_view}
use Rattle.serde_json.specs.Written.{items_outline, members_outline}
use Rattle.hdf_values.proofs.PrintLemmas.{IsUnderway}
use Rattle.documents.proofs.OfDomains.TokenLemmas.{AreReadBack, MembersReadBack, entries_rise, items_read, members_read, underway_done}
use Rattle.documents.proofs.domains.writing.trees.+trees.Goals as goal

pub write_items-returns : goal.write_items-returns
write_items-returns t c =
    let l = c.loop-item in
    let xs = c.args.items.now in
    let none : drop l.item-index xs ≡ [] = drop_all l.item-index xs (omega arith) in
    let here = subst (λ ys. IsUnderway (items_tokens (items_outline (items_view xs))) c.args.writer.now (items_tokens (items_outline (items_view ys))) l.writer) none l.invariant.0 in
    let each = subst (λ ys. AreReadBack (items_view ys) → AreReadBack (items_view xs)) none l.invariant.1 tt in
    on_ok_weaker c.end_array.result (λ e. record {
      added = underway_done _ _ _ _ end_array here e c.end_array.ensures.room.0;
      exact = items_read (items_view xs) each;
    }) c.end_array.ensures.ok

pub write_members-returns : goal.write_members-returns
write_members-returns t c =
    let l = c.loop-key in
    let es = c.args.members.now.entries in
    let none : l.key-iterator ≡ [] = c.in-None.ensures.steps.0 in
    let here = subst (λ ys. IsUnderway (members_tokens (members_outline (members_view es))) c.args.writer.now (members_tokens (members_outline (members_view ys))) l.writer) none l.invariant.0 in
    let each = subst (λ ys. MembersReadBack (members_view ys) → MembersReadBack (members_view es)) none l.invariant.1 tt in
    on_ok_weaker c.end_object.result (λ e. record {
      added = underway_done _ _ _ _ end_object here e c.end_object.ensures.room.0;
      exact = members_read (members_view es) (entries_rise es c.iter-key-items.ensures.ordered) each;
    }) c.end_object.ensures.ok
