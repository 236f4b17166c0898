-- A request is decided and obeyed, and so it is answered.
use Rattle.std.proofs.Common.{◌≡◌, inl, inr, ℕ, ◌+◌, ◌<◌, Result, Ok, Err, OnOk, OnErr, List, [], ◌∷◌, ◌++◌, length, get_or, take, refl, sym, ap, subst, ◌∙◌, arith}
use Rattle.std.specs.FinMap.{get, insert}
use Rattle.object_ids.specs.IdValues.{Id}
use Rattle.object_ids.specs.Ids.{lane_of}
use Rattle.object_acts.specs.declared.objects.Object.{Object}
use Rattle.domains.specs.Contents.{IsCatalogue}
use Rattle.access_lists.specs.declared.people.Caller.{Caller}
use Rattle.object_ops.specs.declared.ops.Request.{Request}
use Rattle.chunk_owner.specs.Lanes.{Lane}
use Rattle.chunk_owner.proofs.Eaches.{each_empty, each_insert}
use Rattle.register.specs.Decided.{Decides, IsDenial, IsRegister, RegisterState, decided}
use Rattle.register.specs.declared.verdicts.Verdict.{Verdict}
use Rattle.register.specs.declared.verdicts.Verdict.TheVariants as verdict
use Rattle.service_core.specs.declared.answers.Answer.{Answer}
use Rattle.service_core.specs.declared.answers.What.{What}
use Rattle.service_core.specs.declared.answers.What.TheVariants.{Replied, Denied, NoMemory}
use Rattle.chunk_owner.specs.Owners.Joined.{AreLanes, whole}
use Rattle.service_core.specs.Steps.{AreGiven, IsAnswered, IsGiven, Obeys, Steps, StopsAt, World, by_verdict, step}
use Rattle.service_core.specs.Turns.{IsServable}
use Rattle.service_core.specs.Worlds.{IsBuilt, IsNew, State}
use Rattle.service_core.proofs.GivenLemmas.{obeys_given}
use Rattle.chunk_owner.proofs.OfOwners.WholeLemmas.{at_home}
use Rattle.service_core.proofs.DecideLemmas.{decides_is, given_later}
use Rattle.object_acts.specs.Objects.{Objects}

module _ (d new : RegisterState) (m left : Objects) (caller : Caller) (request : Request) where
  abbrev old_world : World
  old_world = record { register = d; objects = m }

  abbrev new_world : World
  new_world = record { register = new; objects = left }

  -- what is answered by the verdict is the step's answer
  replied : (v : Verdict) (what : What) → (v, new) ≡ decided d caller request → (what, left) ≡ by_verdict request.op v m → (what, new_world) ≡ step old_world caller request
  replied v what e h =
      let of_verdict : What × Objects → What × World = λ p. (p.0, record { register = new; objects = p.1 }) in
      let of_decision : Verdict × RegisterState → What × World = λ p. ((by_verdict request.op p.0 m).0, record { register = p.1; objects = (by_verdict request.op p.0 m).1 }) in
      ap of_verdict h ∙ ap of_decision e

  verdict_is : (v : Verdict) → (v, new) ≡ decided d caller request → v ≡ (decided d caller request).0
  verdict_is v e = ap (λ p. p.0) e

  -- memory ran out at a step of what was granted
  stops : (v : Verdict) → (v, new) ≡ decided d caller request → (IsDenial v → ⊥) → StopsAt request.op v m left → IsAnswered old_world caller request NoMemory new_world
  stops v e given h =
      (λ denial. given (subst IsDenial (sym (verdict_is v e)) denial), inr (ap (λ p. p.1) e, subst (λ (w : Verdict). StopsAt request.op w m left) (verdict_is v e) h))

  pub answered : (v : Verdict) (what : What) → Decides d caller request v new → Obeys request.op v m what left → IsAnswered old_world caller request what new_world
  answered (verdict.Granted issue) (Replied r) e h = replied (verdict.Granted issue) (Replied r) e h
  answered (verdict.Granted issue) (Denied right) e h = replied (verdict.Granted issue) (Denied right) e h
  answered (verdict.Granted issue) NoMemory e h = stops (verdict.Granted issue) e (λ none. none) h
  answered (verdict.Answered answer) (Replied r) e h = replied (verdict.Answered answer) (Replied r) e h
  answered (verdict.Answered answer) (Denied right) e h = replied (verdict.Answered answer) (Denied right) e h
  answered (verdict.Answered answer) NoMemory e h = absurd h
  answered (verdict.Denied right) (Replied r) e h = replied (verdict.Denied right) (Replied r) e h
  answered (verdict.Denied right) (Denied other) e h = replied (verdict.Denied right) (Denied other) e h
  answered (verdict.Denied right) NoMemory e h = absurd h
  answered (verdict.Refused refusal) (Replied r) e h = replied (verdict.Refused refusal) (Replied r) e h
  answered (verdict.Refused refusal) (Denied right) e h = replied (verdict.Refused refusal) (Denied right) e h
  answered (verdict.Refused refusal) NoMemory e h = absurd h
  answered verdict.NoMemory what e h =
      subst (λ (w : What). IsAnswered old_world caller request w new_world) (sym h.0) (e.1, inl (e.0, λ i. record { register = e.2 i; objects = h.1 i }))

  -- what was given before, and what was given now
  pub given_after : IsRegister d → IsCatalogue d.catalogue → AreGiven d m → (v : Verdict) (what : What) → Decides d caller request v new → Obeys request.op v m what left → AreGiven new left
  given_after register catalogue all v what e h =
      let decision = decides_is d m register all catalogue caller request v new e in
      obeys_given new request.op v m left what decision.given h (λ q o there. given_later d new decision.grows q (all q o there))

-- ---- the parts of a world

-- what is written over the front is the front
front_taken : (xs ys : List Lane) → take (length xs) (xs ++ ys) ≡ xs
front_taken [] ys = refl
front_taken (x ∷ xs) ys = ap (λ zs. x ∷ zs) (front_taken xs ys)

pub written : (n : ℕ) (new rest : List Lane) → length new ≡ n → take n (new ++ rest) ≡ new
written n new rest e = subst (λ (j : ℕ). take j (new ++ rest) ≡ new) e (front_taken new rest)

module _ (d : RegisterState) (owners : List Lane) (caller : Caller) (request : Request) (register : IsRegister d) (catalogue : IsCatalogue d.catalogue) (built : IsBuilt d owners) where
  -- what is granted can be served
  pub servable_now : (v : Verdict) (new : RegisterState) → Decides d caller request v new → IsServable (length owners) request.op v (whole owners)
  servable_now v new e =
      subst (λ (n : ℕ). IsServable n request.op v (whole owners)) (sym built.count) (decides_is d (whole owners) register built.given catalogue caller request v new e).servable

  pub built_after : (v : Verdict) (what : What) (new : RegisterState) (left : List Lane) → Decides d caller request v new → Obeys request.op v (whole owners) what (whole left)
      → length left ≡ length owners → AreLanes (length owners) 0 left → IsBuilt new left
  built_after v what new left e h same lanes = record {
    count = same ∙ built.count ∙ sym (decides_is d (whole owners) register built.given catalogue caller request v new e).grows.lanes;
    lanes = subst (λ (n : ℕ). AreLanes n 0 left) (sym same) lanes;
    given = given_after d new (whole owners) (whole left) caller request register catalogue built.given v what e h;
  }

pub steps_said : (d new : RegisterState) (owners left taken : List Lane) (old : World) (caller : Caller) (request : Request) (v : Verdict) (answer : Answer)
    → record { register = d; objects = whole owners } ≡ old → taken ≡ left → answer.place ≡ d.places → Decides d caller request v new → Obeys request.op v (whole owners) answer.what (whole left)
    → Steps old caller request answer (record { register = new; objects = whole taken })
steps_said d new owners left taken old caller request v answer is same place e h =
    subst (λ (w : World). Steps w caller request answer (record { register = new; objects = whole taken })) is
    (subst (λ (ls : List Lane). Steps (record { register = d; objects = whole owners }) caller request answer (record { register = new; objects = whole ls })) (sym same)
    (record { place = place; answered = answered d new (whole owners) (whole left) caller request v answer.what e h }))

pub new_built : (d : RegisterState) (owners : List Lane) (n : ℕ) → n ≡ length d.issued → IsNew n owners → IsBuilt d owners
new_built d owners n e new = record {
  count = new.count ∙ e;
  lanes = subst (λ (j : ℕ). AreLanes j 0 owners) (sym new.count) new.lanes;
  given = subst (AreGiven d) (sym new.empty) (each_empty (λ id o. IsGiven d id));
}

-- an object stands in the lane of its id
pub object_in : (d : RegisterState) (owners : List Lane) → IsBuilt d owners → (id : Id) (n i : ℕ) (l : Lane) → n ≡ length d.issued → i ≡ lane_of n id → i < n → get_or owners i l ≡ l
    → get (whole owners) id ≡ get l.objects id
object_in d owners built id n i l lanes lane below is =
    let count : length owners ≡ n = built.count ∙ sym lanes in
    let home : lane_of (length owners) id ≡ 0 + i = (let e : lane_of n id ≡ 0 + i = omega (arith, lane) in subst (λ (j : ℕ). lane_of j id ≡ 0 + i) (sym count) e) in
    at_home (length owners) 0 i owners l built.lanes id home (omega (arith, below, count)) is

-- what is put at an id that was given
pub built_put : {E : Type 0} (d : RegisterState) (owners left : List Lane) (id : Id) (o : Object) (r : Result (Unit {0}) E) → IsBuilt d owners → IsGiven d id → length left ≡ length owners → AreLanes (length owners) 0 left
    → OnOk r (whole left ≡ insert (whole owners) id o) → OnErr r (left ≡ owners) → IsBuilt d left
built_put d owners left id o r built given same lanes ok err = record {
  count = same ∙ built.count;
  lanes = subst (λ (n : ℕ). AreLanes n 0 left) (sym same) lanes;
  given = all r ok err;
} where
  all : {E : Type 0} (r : Result (Unit {0}) E) → OnOk r (whole left ≡ insert (whole owners) id o) → OnErr r (left ≡ owners) → AreGiven d (whole left)
  all (Ok u) ok err = subst (AreGiven d) (sym ok) (each_insert (λ id o. IsGiven d id) (whole owners) id o given built.given)
  all (Err x) ok err = subst (λ (ls : List Lane). AreGiven d (whole ls)) (sym err) built.given

abbrev pub state_of : RegisterState → List Lane → State
state_of d owners = record { register = d; lanes = owners }

pub state_stays : {A E : Type 0} (d : RegisterState) (owners left : List Lane) (r : Result A E) → OnErr r (left ≡ owners) → OnErr r (state_of d left ≡ state_of d owners)
state_stays d owners left (Ok a) same = tt
state_stays d owners left (Err e) same = ap (state_of d) same
