-- Values that were passed to a writer, built up from their parts.
use Rattle.std.proofs.Common.{◌≡◌, ◌<◌, ◌-◌, ◌++◌, ◌∷◌, ℕ, List, [], Option, Some, None, is_some, true, false, refl, sym, ap, ◌∙◌, append_assoc}
use Rattle.json.specs.Json as json
use Rattle.json.specs.Json.{after_end_array, read_key}
use Rattle.json.specs.Token.{Token, begin_array, end_array, begin_object, end_object, key}
use Rattle.json.specs.Tree.{json_tokens, items_tokens, members_tokens, depth}
use Rattle.json.specs.Written.{Written}
use Rattle.serde_json.specs.Data.{Data, array, object, no_items, item, no_members}
use Rattle.serde_json.specs.Read.{of_json}
use Rattle.json_trees.specs.Trees.{AreTexts}
use Rattle.json_trees.specs.Copied.{Adds, Copies, CopiesItems, CopiesMembers}
use Rattle.json_trees.proofs.OfKept.ReadLemmas.{one_read, array_read, object_read, items_ended, item_before, members_ended, member_before}

-- a value of one token
pub one_token : (most : ℕ) (j : json.Json) (d : Data) (t : Token) (from rest : List Token) (old new : Written) → json_tokens j ≡ t ∷ [] → depth j ≡ 0 → of_json j ≡ Some d → AreTexts d → from ≡ t ∷ rest
    → new.tokens ≡ old.tokens ++ t ∷ [] → new.before ≡ old.before → Copies most from rest old new
one_token most j d t from rest old new is flat reads texts first added kept = record {
  tree = d;
  read = one_read most j d t from rest is flat reads first;
  texts = texts;
  added = record { tokens = added ∙ ap (λ ts. old.tokens ++ ts) (sym is); before = kept };
}

-- behind a bracket
added_behind : (t : Token) (ts : List Token) (old mid new : Written) → mid.tokens ≡ old.tokens ++ t ∷ [] → mid.before ≡ old.before → Adds ts mid new → Adds (t ∷ ts) old new
added_behind t ts old mid new opened kept h = record {
  tokens = h.tokens ∙ ap (λ x. x ++ ts) opened ∙ append_assoc old.tokens (t ∷ []) ts;
  before = h.before ∙ kept;
}

added_both : (ts us : List Token) (old mid new : Written) → Adds ts old mid → Adds us mid new → Adds (ts ++ us) old new
added_both ts us old mid new h k = record {
  tokens = k.tokens ∙ ap (λ x. x ++ us) h.tokens ∙ append_assoc old.tokens ts us;
  before = k.before ∙ h.before;
}

pub array_copied : (most : ℕ) (from next rest : List Token) (old mid new : Written) → 0 < most → from ≡ begin_array ∷ next → mid.tokens ≡ old.tokens ++ begin_array ∷ [] → mid.before ≡ old.before
    → CopiesItems (most - 1) next rest mid new → Copies most from rest old new
array_copied most from next rest old mid new some first opened kept h = record {
  tree = array h.trees;
  read = array_read most from next rest h.trees some first h.read;
  texts = h.texts;
  added = added_behind begin_array (items_tokens h.read.items) old mid new opened kept h.added;
}

pub object_copied : (most : ℕ) (from next rest : List Token) (old mid new : Written) → 0 < most → from ≡ begin_object ∷ next → mid.tokens ≡ old.tokens ++ begin_object ∷ [] → mid.before ≡ old.before
    → CopiesMembers (most - 1) next rest mid new → Copies most from rest old new
object_copied most from next rest old mid new some first opened kept h = record {
  tree = object (h.read.reads no_members).0;
  read = object_read most from next rest some first h.read;
  texts = tt;
  added = added_behind begin_object (members_tokens h.read.members) old mid new opened kept h.added;
}

pub items_closed : (most : ℕ) (from rest : List Token) (old new : Written) → after_end_array from ≡ Some rest → new.tokens ≡ old.tokens ++ end_array ∷ [] → new.before ≡ old.before → CopiesItems most from rest old new
items_closed most from rest old new e added kept = record { trees = no_items; read = items_ended most from rest e; texts = tt; added = record { tokens = added; before = kept } }

pub item_copied : (most : ℕ) (from mid rest : List Token) (old now new : Written) → Copies most from mid old now → CopiesItems most mid rest now new → CopiesItems most from rest old new
item_copied most from mid rest old now new h k = record {
  trees = item h.tree k.trees;
  read = item_before most from mid rest h.tree k.trees h.read k.read;
  texts = (h.texts, k.texts);
  added = added_both (json_tokens h.read.value) (items_tokens k.read.items) old now new h.added k.added;
}

pub members_closed : (most : ℕ) (from rest : List Token) (old new : Written) → read_key from ≡ Some (None, rest) → new.tokens ≡ old.tokens ++ end_object ∷ [] → new.before ≡ old.before → CopiesMembers most from rest old new
members_closed most from rest old new e added kept = record { read = members_ended most from rest e; added = record { tokens = added; before = kept } }

pub member_copied : (most : ℕ) (name : List ℕ) (from next mid rest : List Token) (old named now new : Written) → read_key from ≡ Some (Some name, next) → named.tokens ≡ old.tokens ++ key name ∷ [] → named.before ≡ old.before
    → Copies most next mid named now → CopiesMembers most mid rest now new → CopiesMembers most from rest old new
member_copied most name from next mid rest old named now new e added kept h k = record {
  read = member_before most name from next mid rest h.tree e h.read k.read;
  added = added_behind (key name) (json_tokens h.read.value ++ members_tokens k.read.members) old named new added kept (added_both (json_tokens h.read.value) (members_tokens k.read.members) named now new h.added k.added);
}

-- ---- the number of a text

pub none_found : {A : Type 0} (o : Option A) → is_some o ≡ false → o ≡ None
none_found None absent = refl
none_found (Some x) absent = absurd (cc)

pub one_found : {A : Type 0} (o : Option A) → is_some o ≡ true → (x : A) × (o ≡ Some x)
one_found None present = absurd (cc)
one_found (Some x) present = (x, refl)
