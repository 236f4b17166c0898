use Rattle.std.proofs.Common.{◌≡◌, false, drop}
use Rattle.json.specs.Tree.{items_tokens, members_tokens}
use Rattle.serde_json.specs.View.{items_view, members_view}
use Rattle.serde_json.specs.Written.{items_have_float, items_outline, members_have_float, members_outline}
use Rattle.hdf_values.proofs.PrintLemmas.{IsUnderway}
use Rattle.documents.proofs.OfDomains.TokenLemmas.{AreReadBack, MembersReadBack}
use Rattle.documents.proofs.domains.writing.trees.+trees.Given as goal

-- the tokens of what is left are still to come, and where what is left is read back, so is all
abbrev pub invariant-write_items-loop-item : goal.invariant-write_items-loop-item
invariant-write_items-loop-item l =
    let left = items_view (drop l.item-index l.items) in
    IsUnderway (items_tokens (items_outline (items_view l.items))) l.fn.writer (items_tokens (items_outline left)) l.writer
    × (AreReadBack left → AreReadBack (items_view l.items))
    × (items_have_float left ≡ false)

abbrev pub invariant-write_members-loop-key : goal.invariant-write_members-loop-key
invariant-write_members-loop-key l =
    let left = members_view l.key-iterator in
    IsUnderway (members_tokens (members_outline (members_view l.members.entries))) l.fn.writer (members_tokens (members_outline left)) l.writer
    × (MembersReadBack left → MembersReadBack (members_view l.members.entries))
    × (members_have_float left ≡ false)
