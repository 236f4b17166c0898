-- That an attribute has too many cells is told of a list by its member.
use Rattle.std.proofs.Common.{◌≡◌, inl, inr, ℕ, zero, suc, List, [], ◌∷◌, map, drop, Result, Ok, Err, IsErrAnd, sym, subst}
use Rattle.json_trees.specs.Faults.{◌>>=◌}
use Rattle.serde_json.specs.Data.{Data}
use Rattle.documents.specs.Parts.AttributeLists.{AnswersOr, HasManyCells, OneHasManyCells, TellsOr}
use Rattle.documents.specs.Parts.Faults.{Fails, Fault}
use Rattle.documents.specs.declared.parts.faults.AttributesFault.{AttributesFault}
use Rattle.documents.specs.declared.parts.faults.AttributesFault.TheVariants.{Doc, TooManyCells}
use Rattle.documents.specs.declared.parts.faults.DocFault.{DocFault}
use Rattle.documents.proofs.OfParts.ToldLemmas.{no_memory}

-- a fault of a step is one of all that stand behind it
fails_on : {A B : Type 0} (e : DocFault) (r : Result A Fault) (f : A → Result B Fault) → Fails e r → Fails e (r >>= f)
fails_on e (Ok x) f h = no_memory e (f x) h
fails_on e (Err fault) f h = h

told_on : {A B : Type 0} (many more : Type 0) (fault : AttributesFault) (r : Result A Fault) (f : A → Result B Fault) → (many → more) → TellsOr many fault r
    → TellsOr more fault (r >>= f)
told_on many more (Doc e) r f weaker h = fails_on e r f h
told_on many more TooManyCells r f weaker h = weaker h

pub handed_on : {A B : Type 0} (many more : Type 0) (given : Result B AttributesFault) (fault : AttributesFault) (r : Result A Fault) (f : A → Result B Fault)
    (found : Result B Fault) → IsErrAnd given (λ e. e ≡ fault) → (many → more) → TellsOr many fault r → (r >>= f) ≡ found → AnswersOr more given found
handed_on many more (Ok x) fault r f found is weaker h same = absurd is
handed_on many more (Err e) fault r f found is weaker h same =
    subst (λ (q : Result _ Fault). TellsOr more e q) same (subst (λ (x : AttributesFault). TellsOr more x (r >>= f)) (sym is) (told_on many more fault r f weaker h))

-- a member that has too many is one of the list's
pub one_of : {V : Type 0} (view : V → Data) (i : ℕ) (items : List V) (item : V) (rest : List V) → drop i items ≡ item ∷ rest → HasManyCells (view item)
    → OneHasManyCells (map view items)
one_of view zero items item rest e h = subst (λ (xs : List _). OneHasManyCells (map view xs)) (sym e) (inl h)
one_of view (suc i) [] item rest e h = absurd (let no : [] ≡ item ∷ rest = e in cc)
one_of view (suc i) (x ∷ xs) item rest e h = inr (one_of view i xs item rest e h)
