-- Which right a request needs, and at which folder or domain.
use Rattle.std.specs.Prelude.{ℕ, List}
use Rattle.object_ids.specs.Paths.{parent_of}
use Rattle.access_lists.specs.declared.right.Right.{Right}
use Rattle.access_lists.specs.declared.right.Right.TheVariants as right
use Rattle.object_ops.specs.declared.rights.On.{On}
use Rattle.object_ops.specs.declared.rights.On.TheVariants.{Own, Parent}
use Rattle.object_ops.specs.declared.ops.Request.{Request}
use Rattle.object_ops.specs.declared.ops.Op.{Op}
use Rattle.object_ops.specs.declared.ops.Op.TheVariants.{GetNode, PutNode, Flush, DropNode, ListNodes, GetAcls, GetAcl, PutAcl, MakeObject, GetObject, DropObject, ListLinks, GetLink, PutLink, DropLink, ListAttributes, GetAttribute, PutAttribute, DropAttribute, GetShape, PutShape, GetElem, GetValue, PutValue, GetPoints}

-- the parent folder decides over a new folder or domain
abbrev pub on_for : Op → On
on_for (PutNode folder) = Parent
on_for op = Own

abbrev pub right_for : Op → Right
right_for GetNode = right.Read
right_for (PutNode folder) = right.Create
right_for Flush = right.Update
right_for DropNode = right.Delete
right_for ListNodes = right.Read
right_for GetAcls = right.ReadAcl
right_for (GetAcl name) = right.ReadAcl
right_for (PutAcl name rights) = right.UpdateAcl
right_for (MakeObject make link) = right.Create
right_for (GetObject id) = right.Read
right_for (DropObject id) = right.Delete
right_for (ListLinks id) = right.Read
right_for (GetLink id title) = right.Read
right_for (PutLink id title link) = right.Create
right_for (DropLink id title) = right.Delete
right_for (ListAttributes id) = right.Read
right_for (GetAttribute id name) = right.Read
right_for (PutAttribute id name attribute) = right.Create
right_for (DropAttribute id name) = right.Delete
right_for (GetShape id) = right.Read
right_for (PutShape id dims) = right.Update
right_for (GetElem id) = right.Read
right_for (GetValue id select) = right.Read
right_for (PutValue id part value) = right.Update
right_for (GetPoints id points) = right.Read

abbrev pub path_on : On → List ℕ → List ℕ
path_on Own path = path
path_on Parent path = parent_of path

-- the path at which a request is decided
abbrev pub decided_at : Request → List ℕ
decided_at request = path_on (on_for request.op) request.path
