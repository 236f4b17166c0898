-- The six rights.
--     right_name      how a right is written
--     holds right entry      whether an entry has the right
--     all_rights      the entry with all six rights
use Rattle.std.specs.Prelude.{ℕ, List, Bool, true, codes}
use Rattle.access_lists.specs.declared.right.Right.{Right}
use Rattle.access_lists.specs.declared.right.Right.TheVariants.{Create, Read, Update, Delete, ReadAcl, UpdateAcl}
use Rattle.access_lists.specs.declared.rights.Rights.{Rights}

abbrev pub right_name : Right → List ℕ
right_name Create = codes "create"
right_name Read = codes "read"
right_name Update = codes "update"
right_name Delete = codes "delete"
right_name ReadAcl = codes "readACL"
right_name UpdateAcl = codes "updateACL"

abbrev pub holds : Right → Rights → Bool
holds Create entry = entry.create
holds Read entry = entry.read
holds Update entry = entry.update
holds Delete entry = entry.delete
holds ReadAcl entry = entry.read_acl
holds UpdateAcl entry = entry.update_acl

abbrev pub all_rights : Rights
all_rights = record { create = true; read = true; update = true; delete = true; read_acl = true; update_acl = true }
