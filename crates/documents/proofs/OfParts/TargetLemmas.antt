-- What holds of the links of a group of a document after a change.
use Rattle.std.proofs.Common.{◌≡◌, ℕ, List, nat_lt, Result, Ok, Err, OnOk, OnErr, sym, subst, arith}
use Rattle.std.proofs.lemmas.Bool.{ltb-true}
use Rattle.std.specs.FinMap.{contains_key, empty, insert, len, len-empty}
use Rattle.containers.specs.TextMaps.Keyed.{text_order}
use Rattle.object_ids.specs.Puts.{Blames, put_fault}
use Rattle.object_ids.specs.declared.puts.PutFault.{PutFault}
use Rattle.object_ids.proofs.PutLemmas.{insert_most}
use Rattle.attributes.proofs.MapLemmas.{each_inserted, each_of_none}
use Rattle.groups_links.specs.GroupLinks.{most_links}
use Rattle.groups_links.specs.Titles.{IsGoodTitle}
use Rattle.groups_links.proofs.GroupLemmas.{room_left}
use Rattle.documents.specs.Parts.TitleMaps.{AreTargets, IsSoundTarget, TargetMap}
use Rattle.documents.specs.declared.parts.targets.Target.{Target}

pub no_targets : AreTargets empty
no_targets = record {
  few = rw (len-empty text_order Target) (omega arith);
  titled = each_of_none (λ title target. IsGoodTitle title);
  sound = each_of_none (λ title target. IsSoundTarget target);
}

-- a put that was done or refused
pub put_targets : (r : Result (Unit {0}) PutFault) (old new : TargetMap) (k : List ℕ) (v : Target) → IsGoodTitle k → IsSoundTarget v → AreTargets old
    → OnOk r (new ≡ insert old k v) → OnErr r (new ≡ old) → Blames r (put_fault most_links old k) → AreTargets new
put_targets (Ok x) old new k v title sound held ok err why =
    let few = ltb-true (len old) most_links (room_left (contains_key old k) (nat_lt (len old) most_links) why) in
    subst AreTargets (sym ok) (record {
      few = insert_most most_links old k v few;
      titled = each_inserted (λ title target. IsGoodTitle title) old k v title held.titled;
      sound = each_inserted (λ title target. IsSoundTarget target) old k v sound held.sound;
    })
put_targets (Err e) old new k v title sound held ok err why = subst AreTargets (sym err) held
