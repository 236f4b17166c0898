use Rattle.std.proofs.Common.{ap, sym, ◌∙◌}
use Rattle.serde_json.specs.Data.{object, no_members}
use Rattle.serde_json.proofs.Views.{view-Object}
use Rattle.access_lists.specs.EntryTrees.{put_all}
use Rattle.access_lists.proofs.Members.{put_entries}
use Rattle.access_lists.proofs.json.list_json.Goals as goal

pub returns : goal.returns
returns c =
    view-Object c.in_ok-members.field-0
    ∙ ap object (c.in_ok-members.ensures ∙ ap (λ es. put_all es no_members) (sym c.as_tree.ensures) ∙ put_entries c.args.list.now)
