-- What operations name, and what they make.
use Rattle.std.specs.Prelude.{Option, Some, None}
use Rattle.object_ids.specs.IdValues.{Id}
use Rattle.object_ids.specs.declared.ids.Kind.{Kind}
use Rattle.object_ids.specs.declared.ids.Kind.TheVariants as kind
use Rattle.object_ops.specs.declared.ops.Make.{Make}
use Rattle.object_ops.specs.declared.ops.Make.TheVariants as make
use Rattle.object_ops.specs.declared.ops.Op.{Op}
use Rattle.object_ops.specs.declared.ops.Op.TheVariants.{GetObject, DropObject, ListLinks, GetLink, PutLink, DropLink, ListAttributes, GetAttribute, PutAttribute, DropAttribute, GetShape, PutShape, GetElem, GetValue, PutValue, GetPoints}

abbrev pub kind_made : Make → Kind
kind_made make.Group = kind.Group
kind_made (make.Dataset type shape layout fill) = kind.Dataset
kind_made (make.Datatype type) = kind.Datatype

-- the object of an operation on one
abbrev pub id_of : Op → Option Id
id_of (GetObject id) = Some id
id_of (DropObject id) = Some id
id_of (ListLinks id) = Some id
id_of (GetLink id title) = Some id
id_of (PutLink id title link) = Some id
id_of (DropLink id title) = Some id
id_of (ListAttributes id) = Some id
id_of (GetAttribute id name) = Some id
id_of (PutAttribute id name attribute) = Some id
id_of (DropAttribute id name) = Some id
id_of (GetShape id) = Some id
id_of (PutShape id dims) = Some id
id_of (GetElem id) = Some id
id_of (GetValue id select) = Some id
id_of (PutValue id part value) = Some id
id_of (GetPoints id points) = Some id
id_of op = None
