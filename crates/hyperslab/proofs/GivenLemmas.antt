-- Lists that are given, and the numbers that stand for them.
use Rattle.std.proofs.Common.{◌≡◌, ℕ, ◌&&◌, ◌⊎◌, false, cond, List, length, replicate, Option, Some, None, option_and_then, option_map, Err, inl, inr, refl, sym, ap, ◌∙◌}
use Rattle.json_trees.proofs.TreeLemmas.{and_then_some, map_some}
use Rattle.serde_json.specs.Data.{Data}
use Rattle.shapes.specs.declared.Shape.{Shape}
use Rattle.shapes.specs.declared.Shape.TheVariants.{Null, Scalar, Simple}
use Rattle.shapes.specs.Shapes.{dims_of}
use Rattle.shapes.proofs.ShapeLemmas.{dims_alone_told, dims_alone_read}
use Rattle.hyperslab.specs.declared.Slab.{Slab}
use Rattle.hyperslab.specs.declared.SlabFault.TheVariants.{Syntax}
use Rattle.hyperslab.specs.Judged.{whole_of, list_or, with_step, with_stop, with_start, lists_in, is_scalar, is_absent, judged, judged_lists, lists_slab}
use Rattle.hyperslab.specs.Outcomes.{StandsFor, AreLists, IsGiven}

stands_read : (ns : List ℕ) (o : Option Data) (ms : List ℕ) → StandsFor ns o ms → list_or ns o ≡ Some ms
stands_read ns None ms h = ap (λ (l : List ℕ). Some l) (sym h)
stands_read ns (Some d) ms h = dims_alone_read d ms h

read_stands : (ns : List ℕ) (o : Option Data) (ms : List ℕ) → list_or ns o ≡ Some ms → StandsFor ns o ms
read_stands ns None ms e = cc
read_stands ns (Some d) ms e = dims_alone_told d ms e

lists_some : (dims : List ℕ) (start stop step : Option Data) (s : Slab) → AreLists dims start stop step s → lists_in dims start stop step ≡ Some s
lists_some dims start stop step s h =
    let zeros = replicate (length dims) 0 in
    let ones = replicate (length dims) 1 in
    let b = list_or dims stop in
    let c = list_or (replicate (length dims) 1) step in
    ap (option_and_then (with_start b c)) (stands_read zeros start s.start h.starts)
    ∙ ap (option_and_then (with_stop c s.start)) (stands_read dims stop s.stop h.stops)
    ∙ ap (option_map (with_step s.start s.stop)) (stands_read ones step s.step h.steps)

same_lists : (a b c : List ℕ) (s : Slab) → with_step a b c ≡ s → (a ≡ s.start) × (b ≡ s.stop) × (c ≡ s.step)
same_lists a b c s e = (ap (λ (t : Slab). t.start) e, ap (λ (t : Slab). t.stop) e, ap (λ (t : Slab). t.step) e)

pub some_lists : (dims : List ℕ) (start stop step : Option Data) (s : Slab) → lists_in dims start stop step ≡ Some s → AreLists dims start stop step s
some_lists dims start stop step s e =
    let zeros = replicate (length dims) 0 in
    let ones = replicate (length dims) 1 in
    let b = list_or dims stop in
    let c = list_or (replicate (length dims) 1) step in
    let one = and_then_some (with_start b c) (list_or zeros start) s e in
    let two = and_then_some (with_stop c one.0) b s one.2 in
    let three = map_some (with_step one.0 two.0) c s two.2 in
    let parts = same_lists one.0 two.0 three.0 s three.2 in
    record {
      starts = read_stands zeros start s.start (one.1 ∙ ap (λ (l : List ℕ). Some l) parts.0);
      stops = read_stands dims stop s.stop (two.1 ∙ ap (λ (l : List ℕ). Some l) parts.1);
      steps = read_stands ones step s.step (three.1 ∙ ap (λ (l : List ℕ). Some l) parts.2);
    }

given_test : (shape : Shape) (start stop step : Option Data) → IsGiven shape start stop step → (is_scalar shape && is_absent start && is_absent stop && is_absent step) ≡ false
given_test Null start stop step h = refl
given_test (Simple dims limits) start stop step h = refl
given_test Scalar (Some d) stop step h = refl
given_test Scalar None (Some d) step h = refl
given_test Scalar None None (Some d) h = refl
given_test Scalar None None None h = absurd (h refl refl refl refl)

given : (shape : Shape) (start stop step : Option Data) → IsGiven shape start stop step → lists_slab shape start stop step ≡ judged_lists shape (lists_in (dims_of shape) start stop step)
given shape start stop step h = ap (λ b. cond b (whole_of shape) (judged_lists shape (lists_in (dims_of shape) start stop step))) (given_test shape start stop step h)

pub lists_judged : (shape : Shape) (start stop step : Option Data) (s : Slab) → IsGiven shape start stop step → AreLists (dims_of shape) start stop step s → lists_slab shape start stop step ≡ judged shape s
lists_judged shape start stop step s h k = given shape start stop step h ∙ ap (judged_lists shape) (lists_some (dims_of shape) start stop step s k)

pub lists_or_none : (dims : List ℕ) (start stop step : Option Data) → ((s : Slab) × AreLists dims start stop step s) ⊎ ((s : Slab) → AreLists dims start stop step s → ⊥)
lists_or_none dims start stop step =
    elim (lists_in dims start stop step) as (λ o. lists_in dims start stop step ≡ o → ((s : Slab) × AreLists dims start stop step s) ⊎ ((s : Slab) → AreLists dims start stop step s → ⊥)) [
      | None ↦ λ e. inr (λ s h. (let some = lists_some dims start stop step s h in let out : ⊥ = cc in out))
      | Some s ↦ λ e. inl (s, some_lists dims start stop step s e)
    ] refl

none_judged : (shape : Shape) (start stop step : Option Data) (o : Option Slab) → lists_in (dims_of shape) start stop step ≡ o → ((s : Slab) → AreLists (dims_of shape) start stop step s → ⊥)
    → judged_lists shape o ≡ Err (Syntax 0)
none_judged shape start stop step None e h = refl
none_judged shape start stop step (Some s) e h = absurd (h s (some_lists (dims_of shape) start stop step s e))

pub lists_syntax : (shape : Shape) (start stop step : Option Data) → IsGiven shape start stop step → ((s : Slab) → AreLists (dims_of shape) start stop step s → ⊥) → lists_slab shape start stop step ≡ Err (Syntax 0)
lists_syntax shape start stop step h none = given shape start stop step h ∙ none_judged shape start stop step (lists_in (dims_of shape) start stop step) refl none
