-- The links of a group of a document: the first fault in the stated order.
use Rattle.std.specs.Prelude.{ℕ, List, Option, Some, None, Result, Ok, codes, decimal, option_and_then, if◌then◌else◌}
use Rattle.std.specs.Option.{ok_or}
use Rattle.std.specs.FinMap.{empty, insert}
use Rattle.serde_json.specs.Data.{Data, Members}
use Rattle.serde_json.specs.Find.{get, as_str}
use Rattle.json_trees.specs.Faults.{◌>>=◌}
use Rattle.json_trees.specs.Trees.{text_at}
use Rattle.groups_links.specs.GroupLinks.{most_links}
use Rattle.groups_links.specs.Targets.{link_in}
use Rattle.groups_links.specs.declared.target.LinkTo.{LinkTo}
use Rattle.groups_links.specs.declared.target.LinkTo.TheVariants as links
use Rattle.documents.specs.Parts.Faults.{Fault, fault}
use Rattle.documents.specs.Parts.Ids.{is_id}
use Rattle.documents.specs.Parts.Items.{listed_at, members_at}
use Rattle.documents.specs.Parts.Names.{new_title}
use Rattle.documents.specs.Parts.Paths.{under}
use Rattle.documents.specs.Parts.TitleMaps.{TargetMap}
use Rattle.documents.specs.declared.parts.faults.DocCause.TheVariants.{BadLink}
use Rattle.documents.specs.declared.parts.targets.Target.{Target}
use Rattle.documents.specs.declared.parts.targets.Target.TheVariants.{Hard, Soft, External}

-- the link to an object of the document
abbrev pub hard_of : Data → Option (List ℕ) → Option Target
hard_of document None = None
hard_of document (Some id) = if is_id id document then Some (Hard id) else None

-- a link that leads to a path
abbrev pub outward_of : LinkTo → Option Target
outward_of (links.Hard id) = None
outward_of (links.Soft path) = Some (Soft path)
outward_of (links.External path file) = Some (External path file)

-- the link of a tree with this at its key `id`
abbrev pub target_by : Data → Option Data → Data → Option Target
target_by document (Some id) d = hard_of document (as_str id)
target_by document None d = option_and_then outward_of (link_in d)

-- where the link of a tree leads
abbrev pub target_of : Data → Data → Option Target
target_of document d = target_by document (get (codes "id") d) d

abbrev pub target_at : Data → List ℕ → Data → Result Target Fault
target_at document path d = ok_or (target_of document d) (fault path BadLink)

-- one link more
unfoldable pub link_at : Data → List ℕ → TargetMap → Data → Result TargetMap Fault
link_at document path m d =
    members_at path d >>= λ (ms : Members).
    new_title (under path (codes "title")) m (text_at (codes "title") d) >>= λ (title : List ℕ).
    target_at document path d >>= λ (target : Target).
    Ok (insert m title target)

-- the same at an index of a list
abbrev pub link_step : Data → List ℕ → ℕ → TargetMap → Data → Result TargetMap Fault
link_step document path i m d = link_at document (under path (decimal i)) m d

-- the links of a list at a path; an absent one has none
unfoldable pub links_at : Data → List ℕ → Option Data → Result TargetMap Fault
links_at document path o = listed_at most_links path (link_step document path) empty o
