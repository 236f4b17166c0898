-- What is true of the attributes of every object stays true.
use Rattle.std.proofs.Common.{◌≡◌, ℕ, ◌<◌, ◌≤◌, Bool, true, false, ◌&&◌, List, Some, None, OnOk, OnErr, Result, Ok, Err, length, refl, sym, ap, subst, arith}
use Rattle.std.specs.Prelude.{nat_lt, nat_le, if◌then◌else◌}
use Rattle.std.specs.FinMap.{empty, insert, remove, len, contains_key, len-empty}
use Rattle.std.specs.List.{list_all}
use Rattle.std.proofs.lemmas.Bool.{le-leb, ltb-true}
use Rattle.object_ids.specs.Names.{is_name, is_name_byte}
use Rattle.object_ids.specs.Puts.{put_fault, Blames}
use Rattle.object_ids.specs.declared.puts.PutFault.{PutFault}
use Rattle.object_ids.specs.declared.puts.PutFault.TheVariants.{Taken, Limit}
use Rattle.object_ids.proofs.PutLemmas.{insert_most, remove_most}
use Rattle.containers.specs.TextMaps.Keyed.{text_order}
use Rattle.hdf_values.specs.Attributes.{content, IsSoundAttribute}
use Rattle.hdf_values.specs.declared.attributes.Attribute.{Attribute}
use Rattle.attributes.specs.AttributeMaps.{AttributeMap, AreAttributes, most_attributes, longest_name}
use Rattle.attributes.proofs.MapLemmas.{each_of_none, each_inserted, each_left}

abbrev IsNamed : List ℕ → Attribute → Type 0
IsNamed name a = is_name longest_name name ≡ true

abbrev IsSoundAt : List ℕ → Attribute → Type 0
IsSoundAt name a = IsSoundAttribute (content a)

pub none_whole : AreAttributes empty
none_whole = record {
  few = rw (len-empty text_order Attribute) (omega arith);
  named = each_of_none IsNamed;
  sound = each_of_none IsSoundAt;
}

-- a name within a lower limit
lowered : (a b c d : Bool) → (a && b && c) ≡ true → d ≡ true → (a && d && c) ≡ true
lowered true true true d h e = ap (λ x. x && true) e
lowered true true false d h e = cc
lowered true false c d h e = cc
lowered false b c d h e = cc

pub name_within : (name : List ℕ) → is_name (length name) name ≡ true → length name ≤ longest_name → is_name longest_name name ≡ true
name_within name is short = lowered (nat_lt 0 (length name)) (nat_le (length name) (length name)) (list_all is_name_byte name) _ is (le-leb (length name) longest_name short)

room_at : (there below : Bool) → (if there then Some Taken else (if below then None else Some Limit)) ≡ None → below ≡ true
room_at true below e = cc
room_at false true e = refl
room_at false false e = cc

room_left : (m : AttributeMap) (name : List ℕ) → put_fault most_attributes m name ≡ None → len m < most_attributes
room_left m name e = ltb-true (len m) most_attributes (room_at (contains_key m name) (nat_lt (len m) most_attributes) e)

put_one : (m : AttributeMap) (name : List ℕ) (a : Attribute) → AreAttributes m → is_name longest_name name ≡ true → IsSoundAttribute (content a)
    → len m < most_attributes → AreAttributes (insert m name a)
put_one m name a held is sound room = record {
  few = insert_most most_attributes m name a room;
  named = each_inserted IsNamed m name a is held.named;
  sound = each_inserted IsSoundAt m name a sound held.sound;
}

-- an attribute that was put, or refused
pub put_whole : (r : Result (Unit {0}) PutFault) (old new : AttributeMap) (name : List ℕ) (a : Attribute) → AreAttributes old → is_name longest_name name ≡ true
    → IsSoundAttribute (content a) → OnOk r (new ≡ insert old name a) → OnErr r (new ≡ old) → Blames r (put_fault most_attributes old name) → AreAttributes new
put_whole (Ok x) old new name a held is sound ok err why = subst AreAttributes (sym ok) (put_one old name a held is sound (room_left old name why))
put_whole (Err e) old new name a held is sound ok err why = subst AreAttributes (sym err) held

pub left_whole : (m : AttributeMap) (name : List ℕ) → AreAttributes m → AreAttributes (remove m name)
left_whole m name held = record {
  few = remove_most most_attributes m name held.few;
  named = each_left IsNamed m name held.named;
  sound = each_left IsSoundAt m name held.sound;
}
