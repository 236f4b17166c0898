use Rattle.std.proofs.Common.{◌≡◌, ◌++◌, ℕ, List, Option, Some, None, IfNone, drop, ap, sym, ◌∙◌}
use Rattle.object_ids.specs.Ids.{prefix_of, uuid_of}
use Rattle.object_ids.specs.declared.ids.Kind.{Kind}
use Rattle.object_ids.proofs.texts.read_id.Goals as goal
use Rattle.object_ids.proofs.IdTexts.{drop-prefix_of}

if_none : {A P Q : Type 0} (r : Option A) → (P → Q) → IfNone r P → IfNone r Q
if_none None f p = f p
if_none (Some x) f p = tt

-- the prefix tells the kind, so what stands behind it is the same
same_rest : (k j : Kind) (xs ys : List ℕ) → prefix_of k ++ xs ≡ prefix_of j ++ ys → xs ≡ ys
same_rest k j xs ys e = sym (drop-prefix_of k xs) ∙ ap (drop 2) e ∙ drop-prefix_of j ys

pub returns-in-Some-clause-none : goal.returns-in-Some-clause-none
returns-in-Some-clause-none c = if_none c.read_uuid.result
    (λ none id h e. none id h (same_rest id.kind c.in-Some.kind (uuid_of id) c.in-Some.uuid.now (e ∙ sym (c.in-Some.ensures ∙ c.as_bytes.ensures.value))))
    c.read_uuid.ensures.none
