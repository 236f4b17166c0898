-- A code of the data of trees: the steps that build it on a stack.
use Rattle.std.specs.Prelude.{◌≡◌, ◌⊎◌, ℕ, zero, suc, ℤ, Float, true, false, List, [], ◌∷◌, refl}
use Rattle.std.proofs.Common.{ap, ◌∙◌, inl, inr}
use Rattle.std.specs.Coded.{Coded, code_by, coded×, coded⊎, coded_ℕ, coded_ℤ, coded_list}
use base.Stored.{coded_float}
use Rattle.serde_json.specs.Data.{Num, unsigned, negative, float, Data, null, boolean, number, string, array, object, Items, no_items, item, Members, no_members, member}

abbrev num_parts : Num → ℕ ⊎ (ℤ ⊎ Float)
num_parts (unsigned n) = inl n
num_parts (negative z) = inr (inl z)
num_parts (float x) = inr (inr x)

abbrev num_of : ℕ ⊎ (ℤ ⊎ Float) → Num
num_of (inl n) = unsigned n
num_of (inr (inl z)) = negative z
num_of (inr (inr x)) = float x

num_same : (n : Num) → num_of (num_parts n) ≡ n
num_same (unsigned n) = refl
num_same (negative z) = refl
num_same (float x) = refl

-- a number, or what is done and its bytes
abbrev pub Step : Type 0
Step = (ℕ ⊎ (ℤ ⊎ Float)) ⊎ (ℕ × List ℕ)

abbrev mutual
  pub steps_of : Data → List Step → List Step
  steps_of null k = inr (0, []) ∷ k
  steps_of (boolean true) k = inr (1, []) ∷ k
  steps_of (boolean false) k = inr (2, []) ∷ k
  steps_of (number n) k = inl (num_parts n) ∷ k
  steps_of (string s) k = inr (3, s) ∷ k
  steps_of (array ds) k = items_steps ds (inr (4, []) ∷ k)
  steps_of (object ms) k = members_steps ms (inr (5, []) ∷ k)

  pub items_steps : Items → List Step → List Step
  items_steps no_items k = inr (6, []) ∷ k
  items_steps (item d ds) k = steps_of d (items_steps ds (inr (7, []) ∷ k))

  pub members_steps : Members → List Step → List Step
  members_steps no_members k = inr (8, []) ∷ k
  members_steps (member key d ms) k = steps_of d (members_steps ms (inr (9, key) ∷ k))

-- what stands on the stack
pub data Built : Type 0 where
  one : Data → Built
  items : Items → Built
  members : Members → Built

abbrev pub add_item : List Built → List Built
add_item (items ds ∷ one d ∷ st) = items (item d ds) ∷ st
add_item st = st

abbrev pub add_member : List ℕ → List Built → List Built
add_member key (members ms ∷ one d ∷ st) = members (member key d ms) ∷ st
add_member key st = st

abbrev pub close_array : List Built → List Built
close_array (items ds ∷ st) = one (array ds) ∷ st
close_array st = st

abbrev pub close_object : List Built → List Built
close_object (members ms ∷ st) = one (object ms) ∷ st
close_object st = st

abbrev pub done : ℕ → List ℕ → List Built → List Built
done zero s st = one null ∷ st
done (suc zero) s st = one (boolean true) ∷ st
done (suc (suc zero)) s st = one (boolean false) ∷ st
done (suc (suc (suc zero))) s st = one (string s) ∷ st
done (suc (suc (suc (suc zero)))) s st = close_array st
done (suc (suc (suc (suc (suc zero))))) s st = close_object st
done (suc (suc (suc (suc (suc (suc zero)))))) s st = items no_items ∷ st
done (suc (suc (suc (suc (suc (suc (suc zero))))))) s st = add_item st
done (suc (suc (suc (suc (suc (suc (suc (suc zero)))))))) s st = members no_members ∷ st
done (suc (suc (suc (suc (suc (suc (suc (suc (suc n))))))))) s st = add_member s st

abbrev pub step : Step → List Built → List Built
step (inl n) st = one (number (num_of n)) ∷ st
step (inr p) st = done p.0 p.1 st

abbrev pub built : List Step → List Built → List Built
built [] st = st
built (s ∷ k) st = built k (step s st)

mutual
  pub built-steps : (d : Data) (k : List Step) (st : List Built) → built (steps_of d k) st ≡ built k (one d ∷ st)
  built-steps null k st = refl
  built-steps (boolean true) k st = refl
  built-steps (boolean false) k st = refl
  built-steps (number n) k st = ap (λ (m : Num). built k (one (number m) ∷ st)) (num_same n)
  built-steps (string s) k st = refl
  built-steps (array ds) k st = built-items ds (inr (4, []) ∷ k) st
  built-steps (object ms) k st = built-members ms (inr (5, []) ∷ k) st

  pub built-items : (ds : Items) (k : List Step) (st : List Built) → built (items_steps ds k) st ≡ built k (items ds ∷ st)
  built-items no_items k st = refl
  built-items (item d ds) k st = built-steps d (items_steps ds (inr (7, []) ∷ k)) st ∙ built-items ds (inr (7, []) ∷ k) (one d ∷ st)

  pub built-members : (ms : Members) (k : List Step) (st : List Built) → built (members_steps ms k) st ≡ built k (members ms ∷ st)
  built-members no_members k st = refl
  built-members (member key d ms) k st = built-steps d (members_steps ms (inr (9, key) ∷ k)) st ∙ built-members ms (inr (9, key) ∷ k) (one d ∷ st)

abbrev pub first_data : List Built → Data
first_data (one d ∷ st) = d
first_data st = null

abbrev pub coded_data : Coded Data
coded_data = code_by (List Step) (coded_list (coded⊎ (coded⊎ coded_ℕ (coded⊎ coded_ℤ coded_float)) (coded× coded_ℕ (coded_list coded_ℕ)))) (λ d. steps_of d []) (λ k. first_data (built k [])) (λ d. ap first_data (built-steps d [] []))
