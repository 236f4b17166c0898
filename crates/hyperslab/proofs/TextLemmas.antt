-- A text is a selection, or it has a first byte after which none can follow.
use Rattle.std.proofs.Common.{◌≡◌, ℕ, zero, suc, ◌+◌, ◌<◌, ◌≤◌, List, [], ◌∷◌, ◌++◌, length, take, drop, Option, Some, None, option_and_then, Ok, Err, ◌⊎◌, inl, inr, refl, sym, ap, subst, ◌∙◌, arith}
use Rattle.std.proofs.lemmas.List.{take_all, append_assoc, take-append-drop}
use Rattle.std.proofs.lemmas.Bool.{cases_lt}
use Rattle.std.proofs.lemmas.Option.{same_Some}
use Rattle.json_trees.proofs.TreeLemmas.{and_then_some}
use Rattle.shapes.specs.declared.Shape.{Shape}
use Rattle.shapes.specs.Shapes.{dims_of}
use Rattle.hyperslab.specs.declared.SlabFault.TheVariants.{Syntax}
use Rattle.hyperslab.specs.declared.reading.Phase.{Phase}
use Rattle.hyperslab.specs.declared.reading.Phase.TheVariants.{Before, Inside, Closed}
use Rattle.hyperslab.specs.declared.reading.Part.{Part}
use Rattle.hyperslab.specs.declared.reading.Moved.{Moved}
use Rattle.hyperslab.specs.declared.reading.Kept.{Kept}
use Rattle.hyperslab.specs.Steps.{step_of, keep_part, nothing_kept, on_moved, read_on, told, text_slab}
use Rattle.hyperslab.specs.Grammar.{IsSelection, CanGoOn, IsFirstBad, parts_slab}
use Rattle.hyperslab.proofs.RunLemmas.{with_more, run, run_append, Goes, goes_then, complete}
use Rattle.hyperslab.proofs.ReadLemmas.{sound, ending, ends}
use Rattle.hyperslab.proofs.KeptLemmas.{keep_all, keep_push, judged_parts}

keep_more : (dims : List ℕ) (k : Kept) (ps : List Part) (o : Option Part) → keep_part dims (keep_all dims k ps) o ≡ keep_all dims k (with_more ps o)
keep_more dims k ps None = refl
keep_more dims k ps (Some p) = sym (keep_push dims k ps p)

-- ---- the reading follows the run

read_goes : (t dims : List ℕ) (i : ℕ) (f : Phase) (ps : List Part) (k : Kept) (g : Phase) (qs : List Part) → Goes f ps t g qs → read_on dims i f (keep_all dims k ps) t ≡ Ok (g, keep_all dims k qs)
read_goes [] dims i f ps k g qs e =
    let same : (f, ps) ≡ (g, qs) = same_Some (f, ps) (g, qs) e in
    ap (λ (r : Phase × List Part). Ok (r.0, keep_all dims k r.1)) same
read_goes (b ∷ bs) dims i f ps k g qs e =
    let found = and_then_some (λ (m : Moved). run m.phase (with_more ps m.part) bs) (step_of f b) (g, qs) e in
    let m = found.0 in
    let h = λ (n : Moved). read_on dims (suc i) n.phase (keep_part dims (keep_all dims k ps) n.part) bs in
    ap (λ (o : Option Moved). on_moved i o h) found.1
    ∙ ap (λ (l : Kept). read_on dims (suc i) m.phase l bs) (keep_more dims k ps m.part)
    ∙ read_goes bs dims (suc i) m.phase (with_more ps m.part) k g qs found.2

-- what became of a run: it ended, or it stuck at a byte
record Ended (f : Phase) (ps : List Part) (t : List ℕ) : Type 0 where
  pub phase : Phase
  pub parts : List Part
  pub goes : Goes f ps t phase parts

record Stuck (dims : List ℕ) (i : ℕ) (f : Phase) (ps : List Part) (k : Kept) (t : List ℕ) : Type 0 where
  pub n : ℕ
  pub within : n < length t
  pub phase : Phase
  pub parts : List Part
  pub goes : Goes f ps (take n t) phase parts
  pub stops : run f ps (take (suc n) t) ≡ None
  pub tells : read_on dims i f (keep_all dims k ps) t ≡ Err (i + n)

ended_step : (f : Phase) (ps : List Part) (b : ℕ) (bs : List ℕ) (m : Moved) → step_of f b ≡ Some m → Ended m.phase (with_more ps m.part) bs → Ended f ps (b ∷ bs)
ended_step f ps b bs m e h = record {
  phase = h.phase;
  parts = h.parts;
  goes = ap (option_and_then (λ (n : Moved). run n.phase (with_more ps n.part) bs)) e ∙ h.goes;
}

stuck_step : (dims : List ℕ) (i : ℕ) (f : Phase) (ps : List Part) (k : Kept) (b : ℕ) (bs : List ℕ) (m : Moved) → step_of f b ≡ Some m → Stuck dims (suc i) m.phase (with_more ps m.part) k bs → Stuck dims i f ps k (b ∷ bs)
stuck_step dims i f ps k b bs m e h =
    let further : suc i + h.n ≡ i + suc h.n = omega arith in
    let g = λ (n : Moved). read_on dims (suc i) n.phase (keep_part dims (keep_all dims k ps) n.part) bs in
    record {
      n = suc h.n;
      within = omega (arith, h.within);
      phase = h.phase;
      parts = h.parts;
      goes = ap (option_and_then (λ (n : Moved). run n.phase (with_more ps n.part) (take h.n bs))) e ∙ h.goes;
      stops = ap (option_and_then (λ (n : Moved). run n.phase (with_more ps n.part) (take (suc h.n) bs))) e ∙ h.stops;
      tells = ap (λ (o : Option Moved). on_moved i o g) e
          ∙ ap (λ (l : Kept). read_on dims (suc i) m.phase l bs) (keep_more dims k ps m.part)
          ∙ h.tells
          ∙ ap (λ n. Err n) further;
    }

stuck_here : (dims : List ℕ) (i : ℕ) (f : Phase) (ps : List Part) (k : Kept) (b : ℕ) (bs : List ℕ) → step_of f b ≡ None → Stuck dims i f ps k (b ∷ bs)
stuck_here dims i f ps k b bs e =
    let g = λ (n : Moved). read_on dims (suc i) n.phase (keep_part dims (keep_all dims k ps) n.part) bs in
    let here : i ≡ i + 0 = omega arith in
    record {
      n = 0;
      within = omega arith;
      phase = f;
      parts = ps;
      goes = refl;
      stops = ap (option_and_then (λ (n : Moved). run n.phase (with_more ps n.part) [])) e;
      tells = ap (λ (o : Option Moved). on_moved i o g) e ∙ ap (λ n. Err n) here;
    }

outcome : (t dims : List ℕ) (i : ℕ) (f : Phase) (ps : List Part) (k : Kept) → Ended f ps t ⊎ Stuck dims i f ps k t
outcome [] dims i f ps k = inl (record { phase = f; parts = ps; goes = refl })
outcome (b ∷ bs) dims i f ps k =
    elim (step_of f b) as (λ o. step_of f b ≡ o → Ended f ps (b ∷ bs) ⊎ Stuck dims i f ps k (b ∷ bs)) [
      | None ↦ λ e. inr (stuck_here dims i f ps k b bs e)
      | Some m ↦ λ e. elim (outcome bs dims (suc i) m.phase (with_more ps m.part) k) [
        | inl h ↦ inl (ended_step f ps b bs m e h)
        | inr h ↦ inr (stuck_step dims i f ps k b bs m e h)
      ]
    ] refl

-- ---- what can follow

goes_on : (t : List ℕ) (f : Phase) (ps : List Part) → Goes Before [] t f ps → CanGoOn t
goes_on t f ps e =
    let last = ends f ps in
    (ending f, (last.0, sound (t ++ ending f) last.0 (goes_then Before [] t f ps (ending f) Closed last.0 e last.1)))

stops_none : (t more : List ℕ) → run Before [] t ≡ None → run Before [] (t ++ more) ≡ None
stops_none t more e = run_append t more Before [] ∙ ap (option_and_then (λ (r : Phase × List Part). run r.0 r.1 more)) e

cannot_go_on : (t : List ℕ) → run Before [] t ≡ None → CanGoOn t → ⊥
cannot_go_on t e h =
    let none = stops_none t h.0 e in
    let some = complete (t ++ h.0) h.1.0 h.1.1 in
    cc

one_run : (t : List ℕ) (f g : Phase) (ps qs : List Part) → Goes Before [] t f ps → Goes Before [] t g qs → (f ≡ g) × (ps ≡ qs)
one_run t f g ps qs d e =
    let same : (f, ps) ≡ (g, qs) = same_Some (f, ps) (g, qs) (sym d ∙ e) in
    (ap (λ (r : Phase × List Part). r.0) same, ap (λ (r : Phase × List Part). r.1) same)

pub one_reading : (t : List ℕ) (ps qs : List Part) → IsSelection t ps → IsSelection t qs → ps ≡ qs
one_reading t ps qs h k = (one_run t Closed Closed ps qs (complete t ps h) (complete t qs k)).1

-- ---- the whole text

pub text_spelled : (t : List ℕ) (shape : Shape) (qs : List Part) → IsSelection t qs → text_slab t shape ≡ parts_slab qs shape
text_spelled t shape qs h =
    ap (told shape (length t)) (read_goes t (dims_of shape) 0 Before [] nothing_kept Closed qs (complete t qs h)) ∙ judged_parts shape qs

-- the text has a first bad byte, which is told
pub record IsBad (text : List ℕ) (shape : Shape) : Type 0 where
  pub byte : ℕ
  pub first : IsFirstBad text byte
  pub tells : text_slab text shape ≡ Err (Syntax byte)

early : (t : List ℕ) (shape : Shape) (f : Phase) (ps : List Part) → (f ≡ Closed → ⊥) → Goes Before [] t f ps → text_slab t shape ≡ Err (Syntax (length t)) → IsBad t shape
early t shape f ps unclosed e tells =
    let whole : take (length t) t ≡ t = take_all (length t) t (omega arith) in
    let P = λ (x : List ℕ). CanGoOn x in
    record {
      byte = length t;
      first = record {
        none = λ qs h. unclosed (one_run t f Closed ps qs e (complete t qs h)).0;
        before = subst P (sym whole) (goes_on t f ps e);
        within = omega arith;
        after = λ less. absurd (omega (arith, less));
      };
      tells = tells;
    }

ended_text : (t : List ℕ) (shape : Shape) (f : Phase) (ps : List Part) → Goes Before [] t f ps → ((qs : List Part) × IsSelection t qs) ⊎ IsBad t shape
ended_text t shape Before ps e = inr (early t shape Before ps (λ h. cc) e (ap (told shape (length t)) (read_goes t (dims_of shape) 0 Before [] nothing_kept Before ps e)))
ended_text t shape (Inside p) ps e = inr (early t shape (Inside p) ps (λ h. cc) e (ap (told shape (length t)) (read_goes t (dims_of shape) 0 Before [] nothing_kept (Inside p) ps e)))
ended_text t shape Closed ps e = inl (ps, sound t ps e)

stuck_none : (t : List ℕ) (n : ℕ) → run Before [] (take (suc n) t) ≡ None → (qs : List Part) → IsSelection t qs → ⊥
stuck_none t n e qs h =
    let none = stops_none (take (suc n) t) (drop (suc n) t) e in
    let P = λ (x : List ℕ). run Before [] x ≡ None in
    let whole = subst P (take-append-drop (suc n) t) none in
    let some = complete t qs h in
    cc

stuck_text : (t : List ℕ) (shape : Shape) → Stuck (dims_of shape) 0 Before [] nothing_kept t → IsBad t shape
stuck_text t shape h =
    let P = λ (n : ℕ). CanGoOn (take n t) → ⊥ in
    let next : suc h.n ≡ h.n + 1 = omega arith in
    let byte : 0 + h.n ≡ h.n = omega arith in
    let bad = subst P next (cannot_go_on (take (suc h.n) t) h.stops) in
    record {
      byte = h.n;
      first = record {
        none = λ qs s. stuck_none t h.n h.stops qs s;
        before = goes_on (take h.n t) h.phase h.parts h.goes;
        within = omega (arith, h.within);
        after = λ less. bad;
      };
      tells = ap (told shape (length t)) h.tells ∙ ap (λ n. Err (Syntax n)) byte;
    }

pub text_told : (t : List ℕ) (shape : Shape) → ((qs : List Part) × IsSelection t qs) ⊎ IsBad t shape
text_told t shape = elim (outcome t (dims_of shape) 0 Before [] nothing_kept) [
  | inl h ↦ ended_text t shape h.phase h.parts h.goes
  | inr h ↦ inr (stuck_text t shape h)
]

-- ---- one first bad byte

front_part : (t : List ℕ) (m n : ℕ) → m ≤ n → (x : List ℕ) × (take n t ≡ take m t ++ x)
front_part t zero n h = (take n t, refl)
front_part [] (suc m) zero h = absurd (omega arith)
front_part [] (suc m) (suc n) h = ([], refl)
front_part (b ∷ t) (suc m) zero h = absurd (omega arith)
front_part (b ∷ t) (suc m) (suc n) h =
    let rest = front_part t m n (omega arith) in
    (rest.0, ap (λ (l : List ℕ). b ∷ l) rest.1)

shorter_front : (t : List ℕ) (m n : ℕ) → m ≤ n → CanGoOn (take n t) → CanGoOn (take m t)
shorter_front t m n h k =
    let rest = front_part t m n h in
    let more = k.0 in
    let P = λ (x : List ℕ). IsSelection x k.1.0 in
    let same : take n t ++ more ≡ take m t ++ (rest.0 ++ more) = ap (λ (l : List ℕ). l ++ more) rest.1 ∙ append_assoc (take m t) rest.0 more in
    (rest.0 ++ more, (k.1.0, subst P same k.1.1))

not_before : (t : List ℕ) (b c : ℕ) → IsFirstBad t b → IsFirstBad t c → c ≤ b
not_before t b c h k = elim (cases_lt b c) [
  | inl less ↦ absurd (h.after (omega (arith, k.within)) (shorter_front t (b + 1) c (omega arith) k.before))
  | inr more ↦ more
]

pub one_bad : (t : List ℕ) (b c : ℕ) → IsFirstBad t b → IsFirstBad t c → b ≡ c
one_bad t b c h k = omega (arith, not_before t b c h k, not_before t c b k h)

pub text_bad : (t : List ℕ) (shape : Shape) (byte : ℕ) → IsFirstBad t byte → text_slab t shape ≡ Err (Syntax byte)
text_bad t shape byte h = elim (text_told t shape) [
  | inl s ↦ absurd (h.none s.0 s.1)
  | inr bad ↦ bad.tells ∙ ap (λ n. Err (Syntax n)) (one_bad t bad.byte byte bad.first h)
]
