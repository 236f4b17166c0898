-- Answers whose bodies nest no deeper than JSON is read, and the worlds that give them.
use Rattle.std.specs.Prelude.{◌≤◌, ℕ, List}
use Rattle.std.specs.FinMap.{empty}
use Rattle.std.specs.List.{AllByRecursion}
use Rattle.serde_json.specs.Data.{Data, depth}
use Rattle.serde_json.specs.Read.{max_depth}
use Rattle.access_lists.specs.declared.people.Caller.{Caller}
use Rattle.hdf_types.specs.Elems.{Elem, depth as nesting}
use Rattle.hdf_types.specs.Types.{IsSoundType}
use Rattle.hdf_types.specs.Views.{elem}
use Rattle.hdf_types.specs.declared.TheConstants.{MAX_NESTING}
use Rattle.shapes.specs.declared.Shape.{Shape}
use Rattle.shapes.specs.Shapes.{IsSound}
use Rattle.chunk_store.specs.Grids.{Grid}
use Rattle.object_acts.specs.Depths.Shallow.{AreShallowAttributes, IsShallow}
use Rattle.object_ops.specs.Conditions.{IsSoundOp}
use Rattle.object_ops.specs.Refusals.{refusal_tree}
use Rattle.object_ops.specs.declared.ops.Request.{Request}
use Rattle.object_ops.specs.declared.refusals.Refusal.{Refusal}
use Rattle.object_acts.specs.declared.objects.Object.{Object}
use Rattle.object_acts.specs.declared.objects.Body.{Body}
use Rattle.object_acts.specs.declared.objects.Body.TheVariants.{Group, Dataset, Datatype}
use Rattle.chunk_owner.specs.Lanes.{Each}
use Rattle.service_core.specs.declared.answers.Answer.{Answer}
use Rattle.service_core.specs.declared.answers.What.{What}
use Rattle.service_core.specs.Replays.{AreSteps, Call}
use Rattle.service_core.specs.Steps.{Steps, World}
use Rattle.service_core.specs.AnswerTrees.Bodies.{AnswerHas}
use Rattle.object_acts.specs.Objects.{Objects}

-- ---- worlds

-- the type and the shape of an array are within their limits
abbrev pub IsShallowGrid : Grid → Type 0
IsShallowGrid g = IsShallow g.kind g.shape

abbrev pub IsShallowBody : Body → Type 0
IsShallowBody (Group links) = Unit {0}
IsShallowBody (Dataset array) = IsShallowGrid array.grid
IsShallowBody (Datatype type) = nesting (elem type) ≤ MAX_NESTING

-- so are an object's attributes and its body
pub record IsShallowObject (o : Object) : Type 0 where
  pub attributes : AreShallowAttributes o.attributes
  pub body : IsShallowBody o.body

abbrev pub AreShallow : Objects → Type 0
AreShallow = Each (λ id o. IsShallowObject o)

-- ---- answers

-- the text of the tree is read back, as far as its depth matters
abbrev pub ReadsBack : Data → Type 0
ReadsBack body = depth body ≤ max_depth

-- so is the body of what is answered
abbrev pub IsReadable : What → Type 0
IsReadable = AnswerHas (λ status. ReadsBack)

-- whatever the world, where its objects are so, each sound request is answered so
abbrev pub AnswersAreReadable : Type 0
AnswersAreReadable = (w : World) (caller : Caller) (request : Request) (answer : Answer) (v : World)
    → AreShallow w.objects → IsSoundOp request.op → Steps w caller request answer v → IsReadable answer.what

-- whatever is refused, and at which path, the refusal's body is read back
abbrev pub RefusalsAreReadable : Type 0
RefusalsAreReadable = (path : List ℕ) (refusal : Refusal) → ReadsBack (refusal_tree path refusal)

-- ---- which worlds are so

-- a world without objects
abbrev pub NoneAreShallow : Type 0
NoneAreShallow = AreShallow empty

-- a world after a sound request, also where memory ran out
abbrev pub ShallowStaysShallow : Type 0
ShallowStaysShallow = (w : World) (caller : Caller) (request : Request) (answer : Answer) (v : World)
    → AreShallow w.objects → IsSoundOp request.op → Steps w caller request answer v → AreShallow v.objects

-- a type and a shape that can be read
abbrev pub SoundIsShallow : Type 0
SoundIsShallow = (e : Elem) (s : Shape) → IsSoundType e → IsSound s → IsShallow e s

-- ---- calls one after another

-- sound requests on such a world, one after another, whatever they are answered: each body is read back,
-- and the world after the last is such a world
abbrev pub CallsAreReadable : Type 0
CallsAreReadable = (w last : World) (cs : List Call)
    → AreShallow w.objects → AllByRecursion (λ c. IsSoundOp c.request.op) cs → AreSteps w cs last
    → AllByRecursion (λ c. IsReadable c.answer.what) cs × AreShallow last.objects
