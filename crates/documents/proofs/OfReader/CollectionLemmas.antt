-- Collections that are read member by member: what is read is what they spell, and the other way.
use Rattle.std.proofs.Common.{◌≡◌, ℕ, List, [], ◌∷◌, Option, Some, None, IsSome, is_some, Result, Ok, refl, sym, ap, subst, ◌∙◌}
use Rattle.std.specs.List.{AllZip}
use Rattle.std.specs.FinMap.{FinMap, empty, insert}
use Rattle.std.specs.Option.{ok_or}
use Rattle.serde_json.specs.Data.{Data, Members, member, no_members}
use Rattle.serde_json.specs.Find.{as_object}
use Rattle.json_trees.specs.Faults.{◌>>=◌}
use Rattle.json_trees.proofs.FaultLemmas.{bind_ok, ok_or_ok}
use Rattle.containers.specs.TextMaps.Keyed.{text_order, with_entries}
use Rattle.documents.specs.Parts.Faults.{Fault, fault}
use Rattle.documents.specs.Parts.Items.{members_at}
use Rattle.documents.specs.declared.parts.faults.DocCause.TheVariants.{NotADocument}
use Rattle.documents.proofs.OfParts.ListedLemmas.{bind_at, not_ok}
use Rattle.documents.specs.Reader.Collections.{each_member, needed_at, part_at}
use Rattle.documents.specs.Reader.Loads.{IsCollection, IsMember, IsNeeded, IsPart}
use Rattle.containers.proofs.Plain.{some_value, ok_same}
use Rattle.json_trees.specs.Trees.{pairs_of}

pub members_sound : (path : List ℕ) (d : Data) (ms : Members) → members_at path d ≡ Ok ms → as_object d ≡ Some ms
members_sound path d ms e = ok_or_ok (as_object d) (fault path NotADocument) ms e

pub is_some_of : {A : Type 0} (o : Option A) (x : A) → o ≡ Some x → IsSome o
is_some_of o x e = ap is_some e

-- the members of what is an object
pub members_there : (path : List ℕ) (d : Data) → IsSome (as_object d) → (ms : Members) × (members_at path d ≡ Ok ms)
members_there path d h =
    let o = some_value (as_object d) h in
    (o.0, ap (λ (q : Option Members). ok_or q (fault path NotADocument)) o.1)

module _ {X : Type 0} (R : List ℕ → Data → X → Type 0) (step : List ℕ → FinMap text_order X → Data → Result (FinMap text_order X) Fault) where
  -- a step puts what a tree spells at its key
  abbrev pub IsSoundStep : Type 0
  IsSoundStep = (id : List ℕ) (m n : FinMap text_order X) (d : Data) → step id m d ≡ Ok n → (x : X) × R id d x × (n ≡ insert m id x)

  abbrev pub IsCompleteStep : Type 0
  IsCompleteStep = (id : List ℕ) (m : FinMap text_order X) (d : Data) (x : X) → R id d x → step id m d ≡ Ok (insert m id x)

  each_sound : IsSoundStep → (m n : FinMap text_order X) (ms : Members) → each_member step m ms ≡ Ok n
      → (pairs : List (List ℕ × X)) × AllZip (IsMember R) (pairs_of ms) pairs × (n ≡ with_entries m pairs)
  each_sound one m n no_members e = ([], tt, sym (ok_same m n e))
  each_sound one m n (member id d ms) e =
      let a = bind_ok (step id m d) _ n e in
      let l = one id m a.0 d a.1 in
      let rest = each_sound one a.0 n ms a.2 in
      ((id, l.0) ∷ rest.0, ((refl, l.1), rest.1), rest.2 ∙ ap (λ (q : FinMap text_order X). with_entries q rest.0) l.2)

  each_complete : IsCompleteStep → (m : FinMap text_order X) (ms : Members) (pairs : List (List ℕ × X)) → AllZip (IsMember R) (pairs_of ms) pairs → each_member step m ms ≡ Ok (with_entries m pairs)
  each_complete one m no_members [] h = refl
  each_complete one m no_members (p ∷ ps) h = absurd h
  each_complete one m (member id d ms) [] h = absurd h
  each_complete one m (member id d ms) (p ∷ ps) h =
      bind_at (step id m d) _ (insert m p.0 p.1) _
      (one id m d p.1 h.0.1 ∙ ap (λ (k : List ℕ). Ok (insert m k p.1)) (sym h.0.0))
      (each_complete one (insert m p.0 p.1) ms ps h.1)

  collection_sound : IsSoundStep → (path : List ℕ) (d : Data) (m : FinMap text_order X) → (members_at path d >>= λ (ms : Members). each_member step empty ms) ≡ Ok m → IsCollection R (as_object d) m
  collection_sound one path d m e =
      let a = bind_ok (members_at path d) _ m e in
      let s = each_sound one empty m a.0 a.2 in
      subst (λ (q : Option Members). IsCollection R q m) (sym (members_sound path d a.0 a.1)) (record { pairs = s.0; each = s.1; all = s.2 })

  collection_complete : IsCompleteStep → (path : List ℕ) (d : Data) (m : FinMap text_order X) → IsCollection R (as_object d) m → (members_at path d >>= λ (ms : Members). each_member step empty ms) ≡ Ok m
  collection_complete one path d m h = at (as_object d) h where
    at : (q : Option Members) → IsCollection R q m → (ok_or q (fault path NotADocument) >>= λ (ms : Members). each_member step empty ms) ≡ Ok m
    at None h = absurd h
    at (Some ms) h = each_complete one empty ms h.pairs h.each ∙ ap Ok (sym h.all)

  pub part_sound : IsSoundStep → (path : List ℕ) (o : Option Data) (m : FinMap text_order X) → part_at path step empty o ≡ Ok m → IsPart R o m
  part_sound one path None m e = sym (ok_same empty m e)
  part_sound one path (Some d) m e = collection_sound one path d m e

  pub part_complete : IsCompleteStep → (path : List ℕ) (o : Option Data) (m : FinMap text_order X) → IsPart R o m → part_at path step empty o ≡ Ok m
  part_complete one path None m h = ap Ok (sym h)
  part_complete one path (Some d) m h = collection_complete one path d m h

  pub needed_sound : IsSoundStep → (path : List ℕ) (o : Option Data) (m : FinMap text_order X) → needed_at path step empty o ≡ Ok m → IsNeeded R o m
  needed_sound one path None m e = absurd (not_ok (fault path NotADocument) m e)
  needed_sound one path (Some d) m e = collection_sound one path d m e

  pub needed_complete : IsCompleteStep → (path : List ℕ) (o : Option Data) (m : FinMap text_order X) → IsNeeded R o m → needed_at path step empty o ≡ Ok m
  needed_complete one path None m h = absurd h
  needed_complete one path (Some d) m h = collection_complete one path d m h
