-- Types of elements as plain data.
use Rattle.std.specs.Prelude.{◌≡◌, ℕ, zero, suc, max, Bool, true, false, List, [], ◌∷◌, refl}
use Rattle.std.proofs.Common.{ap, ◌∙◌}
use Rattle.std.specs.Coded.{Coded, code_by, coded×, coded_ℕ, coded_list}
use Rattle.hdf_types.specs.declared.IntType.{IntType}
use Rattle.hdf_types.specs.declared.TextType.{TextType}
use Rattle.hdf_types.specs.declared.Pad.{Pad}
use Rattle.hdf_types.specs.declared.Pad.TheVariants.{NullTerm, NullPad, SpacePad}

mutual
  pub data Elem : Type 0 where
    int : IntType → Elem
    text : TextType → Elem
    compound : FieldList → Elem

  -- named parts in order
  pub data FieldList : Type 0 where
    no_fields : FieldList
    field : List ℕ → Elem → FieldList → FieldList

-- how deep compounds nest
abbrev mutual
  pub depth : Elem → ℕ
  depth (int t) = 0
  depth (text t) = 0
  depth (compound fs) = suc (fields_depth fs)

  pub fields_depth : FieldList → ℕ
  fields_depth no_fields = 0
  fields_depth (field n e rest) = max (depth e) (fields_depth rest)

-- ---- a code: the steps that build the data on a stack

abbrev pub bit : Bool → ℕ
bit true = 1
bit false = 0

abbrev pub bool : ℕ → Bool
bool zero = false
bool (suc n) = true

bool-bit : (b : Bool) → bool (bit b) ≡ b
bool-bit true = refl
bool-bit false = refl

abbrev pub pad_number : Pad → ℕ
pad_number NullTerm = 0
pad_number NullPad = 1
pad_number SpacePad = 2

abbrev pub pad_of : ℕ → Pad
pad_of zero = NullTerm
pad_of (suc zero) = NullPad
pad_of (suc (suc n)) = SpacePad

pad_of-number : (p : Pad) → pad_of (pad_number p) ≡ p
pad_of-number NullTerm = refl
pad_of-number NullPad = refl
pad_of-number SpacePad = refl

-- a step: what it does, and its numbers
abbrev pub Step : Type 0
Step = ℕ × List ℕ

abbrev mutual
  pub steps_of : Elem → List Step → List Step
  steps_of (int t) k = (0, bit t.signed ∷ t.bits ∷ bit t.big ∷ []) ∷ k
  steps_of (text t) k = (1, bit t.utf8 ∷ pad_number t.pad ∷ t.len ∷ []) ∷ k
  steps_of (compound fs) k = fields_steps fs ((4, []) ∷ k)

  pub fields_steps : FieldList → List Step → List Step
  fields_steps no_fields k = (2, []) ∷ k
  fields_steps (field n e rest) k = steps_of e (fields_steps rest ((3, n) ∷ k))

-- what stands on the stack
pub data Built : Type 0 where
  one : Elem → Built
  some : FieldList → Built

abbrev pub add_field : List ℕ → List Built → List Built
add_field n (some fs ∷ one e ∷ st) = some (field n e fs) ∷ st
add_field n st = st

abbrev pub close : List Built → List Built
close (some fs ∷ st) = one (compound fs) ∷ st
close st = st

abbrev pub add_int : List ℕ → List Built → List Built
add_int (s ∷ b ∷ g ∷ []) st = one (int (record { signed = bool s; bits = b; big = bool g })) ∷ st
add_int ns st = st

abbrev pub add_text : List ℕ → List Built → List Built
add_text (u ∷ p ∷ n ∷ []) st = one (text (record { utf8 = bool u; pad = pad_of p; len = n })) ∷ st
add_text ns st = st

abbrev pub done : ℕ → List ℕ → List Built → List Built
done zero ns st = add_int ns st
done (suc zero) ns st = add_text ns st
done (suc (suc zero)) ns st = some no_fields ∷ st
done (suc (suc (suc zero))) ns st = add_field ns st
done (suc (suc (suc (suc n)))) ns st = close st

abbrev pub built : List Step → List Built → List Built
built [] st = st
built (s ∷ k) st = built k (done s.0 s.1 st)

int_same : (t : IntType) → int (record { signed = bool (bit t.signed); bits = t.bits; big = bool (bit t.big) }) ≡ int t
int_same t = ap (λ s. int (record { signed = s; bits = t.bits; big = bool (bit t.big) })) (bool-bit t.signed) ∙ ap (λ g. int (record { signed = t.signed; bits = t.bits; big = g })) (bool-bit t.big)

text_same : (t : TextType) → text (record { utf8 = bool (bit t.utf8); pad = pad_of (pad_number t.pad); len = t.len }) ≡ text t
text_same t = ap (λ u. text (record { utf8 = u; pad = pad_of (pad_number t.pad); len = t.len })) (bool-bit t.utf8) ∙ ap (λ p. text (record { utf8 = t.utf8; pad = p; len = t.len })) (pad_of-number t.pad)

mutual
  pub built-steps : (e : Elem) (k : List Step) (st : List Built) → built (steps_of e k) st ≡ built k (one e ∷ st)
  built-steps (int t) k st = ap (λ e. built k (one e ∷ st)) (int_same t)
  built-steps (text t) k st = ap (λ e. built k (one e ∷ st)) (text_same t)
  built-steps (compound fs) k st = built-fields fs ((4, []) ∷ k) st

  pub built-fields : (fs : FieldList) (k : List Step) (st : List Built) → built (fields_steps fs k) st ≡ built k (some fs ∷ st)
  built-fields no_fields k st = refl
  built-fields (field n e rest) k st = built-steps e (fields_steps rest ((3, n) ∷ k)) st ∙ built-fields rest ((3, n) ∷ k) (one e ∷ st)

abbrev pub first_fields : List Built → FieldList
first_fields (some fs ∷ st) = fs
first_fields st = no_fields

abbrev pub first_elem : List Built → Elem
first_elem (one e ∷ st) = e
first_elem st = compound no_fields

abbrev pub coded_fields : Coded FieldList
coded_fields = code_by (List Step) (coded_list (coded× coded_ℕ (coded_list coded_ℕ))) (λ fs. fields_steps fs []) (λ k. first_fields (built k [])) (λ fs. ap first_fields (built-fields fs [] []))

abbrev pub coded_elem : Coded Elem
coded_elem = code_by (List Step) (coded_list (coded× coded_ℕ (coded_list coded_ℕ))) (λ e. steps_of e []) (λ k. first_elem (built k [])) (λ e. ap first_elem (built-steps e [] []))
