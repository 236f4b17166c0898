-- The parts that are kept make the selection.
use Rattle.std.proofs.Common.{◌≡◌, ℕ, suc, ◌+◌, ◌<◌, ◌≤◌, ◌&&◌, Bool, true, false, cond, List, [], ◌∷◌, ◌++◌, length, get_or, Result, Err, inl, inr, nat_eq, nat_lt, refl, sym, ap, ◌∙◌, arith}
use Rattle.std.proofs.lemmas.List.{append-nil, append_assoc, length_push}
use Rattle.std.proofs.lemmas.Bool.{lt-ltb, le-ltb, ne_eqb, eqb-false, cases_lt}
use Rattle.shapes.specs.declared.Shape.{Shape}
use Rattle.shapes.specs.declared.Shape.TheVariants.{Null, Scalar, Simple}
use Rattle.shapes.specs.Shapes.{dims_of}
use Rattle.hyperslab.specs.declared.Slab.{Slab}
use Rattle.hyperslab.specs.declared.SlabFault.{SlabFault}
use Rattle.hyperslab.specs.declared.SlabFault.TheVariants.{Rank}
use Rattle.hyperslab.specs.declared.reading.Part.{Part}
use Rattle.hyperslab.specs.declared.reading.Kept.{Kept}
use Rattle.hyperslab.specs.Judged.{judged, judged_in}
use Rattle.hyperslab.specs.Steps.{or_number, keep_one, judged_kept, nothing_kept}
use Rattle.hyperslab.specs.Grammar.{starts_of, stops_in, steps_of, slab_in, parts_slab}

abbrev pub keep_all : List ℕ → Kept → List Part → Kept
keep_all dims k [] = k
keep_all dims k (p ∷ ps) = keep_all dims (keep_one dims k p) ps

pub keep_push : (dims : List ℕ) (k : Kept) (ps : List Part) (p : Part) → keep_all dims k (ps ++ p ∷ []) ≡ keep_one dims (keep_all dims k ps) p
keep_push dims k [] p = refl
keep_push dims k (q ∷ ps) p = keep_push dims (keep_one dims k q) ps p

-- all of these parts are kept
abbrev fine : List ℕ → List Part → Kept
fine dims ps = record { slab = slab_in dims ps; over = false }

starts_push : (ps : List Part) (p : Part) → starts_of (ps ++ p ∷ []) ≡ starts_of ps ++ p.start ∷ []
starts_push [] p = refl
starts_push (q ∷ ps) p = ap (λ (ns : List ℕ). q.start ∷ ns) (starts_push ps p)

steps_push : (ps : List Part) (p : Part) → steps_of (ps ++ p ∷ []) ≡ steps_of ps ++ p.step ∷ []
steps_push [] p = refl
steps_push (q ∷ ps) p = ap (λ (ns : List ℕ). q.step ∷ ns) (steps_push ps p)

stops_push : (dims : List ℕ) (ps : List Part) (p : Part) → stops_in dims (ps ++ p ∷ []) ≡ stops_in dims ps ++ or_number p.stop (get_or dims (length ps) 0) ∷ []
stops_push [] [] p = refl
stops_push (n ∷ dims) [] p = refl
stops_push [] (q ∷ ps) p = ap (λ (ns : List ℕ). or_number q.stop 0 ∷ ns) (stops_push [] ps p)
stops_push (n ∷ dims) (q ∷ ps) p = ap (λ (ns : List ℕ). or_number q.stop n ∷ ns) (stops_push dims ps p)

abbrev kept_with : List ℕ → List ℕ → List ℕ → Kept
kept_with a b c = record { slab = record { start = a; stop = b; step = c }; over = false }

three : (a b c d e f : List ℕ) → a ≡ d → b ≡ e → c ≡ f → kept_with a b c ≡ kept_with d e f
three a b c d e f h k l = rw (h, k, l) refl

length-starts : (ps : List Part) → length (starts_of ps) ≡ length ps
length-starts [] = refl
length-starts (p ∷ ps) = ap suc (length-starts ps)

keep_fine : (dims : List ℕ) (ps : List Part) (p : Part) → length ps < length dims → keep_one dims (fine dims ps) p ≡ fine dims (ps ++ p ∷ [])
keep_fine dims ps p h =
    let counted = length-starts ps in
    let some : nat_lt (length (starts_of ps)) (length dims) ≡ true = lt-ltb (length (starts_of ps)) (length dims) (omega (arith, counted)) in
    rw some
    (three _ _ _ (starts_of (ps ++ p ∷ [])) (stops_in dims (ps ++ p ∷ [])) (steps_of (ps ++ p ∷ [])) (sym (starts_push ps p))
    (ap (λ n. stops_in dims ps ++ or_number p.stop (get_or dims n 0) ∷ []) counted ∙ sym (stops_push dims ps p)) (sym (steps_push ps p)))

keep_within : (dims : List ℕ) (ps done : List Part) → length done + length ps ≤ length dims → keep_all dims (fine dims done) ps ≡ fine dims (done ++ ps)
keep_within dims [] done h = ap (fine dims) (sym (append-nil done))
keep_within dims (p ∷ ps) done h =
    ap (λ (k : Kept). keep_all dims k ps) (keep_fine dims done p (omega arith))
    ∙ keep_within dims ps (done ++ p ∷ []) (omega (arith, length_push done p))
    ∙ ap (fine dims) (append_assoc done (p ∷ []) ps)

over_one : (b : Bool) (k l : Kept) → k.over ≡ true → l.over ≡ true → (cond b k l).over ≡ true
over_one true k l h g = h
over_one false k l h g = g

keep_over : (dims : List ℕ) (ps : List Part) (k : Kept) → k.over ≡ true → (keep_all dims k ps).over ≡ true
keep_over dims [] k h = h
keep_over dims (p ∷ ps) k h = keep_over dims ps (keep_one dims k p) (over_one (nat_lt (length k.slab.start) (length dims)) _ _ h refl)

keep_past : (dims : List ℕ) (ps done : List Part) → length done ≤ length dims → length dims < length done + length ps → (keep_all dims (fine dims done) ps).over ≡ true
keep_past dims [] done l h = absurd (omega arith)
keep_past dims (p ∷ ps) done l h = elim (cases_lt (length done) (length dims)) [
  | inl more ↦
      let next = keep_past dims ps (done ++ p ∷ []) (omega (arith, length_push done p)) (omega (arith, length_push done p)) in
      ap (λ (k : Kept). (keep_all dims k ps).over) (keep_fine dims done p more) ∙ next
  | inr full ↦
      let none : nat_lt (length (starts_of done)) (length dims) ≡ false = le-ltb (length (starts_of done)) (length dims) (omega (arith, length-starts done)) in
      let here : (keep_one dims (fine dims done) p).over ≡ true = rw none refl in
      keep_over dims ps (keep_one dims (fine dims done) p) here
]

first_fails : (a b c : Bool) (x y : Result Slab SlabFault) → a ≡ false → cond (a && b && c) x y ≡ y
first_fails a b c x y e = rw e refl

judged_rank : (shape : Shape) (s : Slab) → (length s.start ≡ length (dims_of shape) → ⊥) → judged shape s ≡ Err Rank
unfolding judged_in
judged_rank Null s h = refl
judged_rank Scalar s h = refl
judged_rank (Simple dims limits) s h = first_fails (nat_eq (length s.start) (length dims)) _ _ _ (Err Rank) (ne_eqb (length s.start) (length dims) h)

not_over : (shape : Shape) (k : Kept) → k.over ≡ true → judged_kept shape k ≡ Err Rank
not_over shape k h = rw h refl

other_rank : (shape : Shape) (ps : List Part) → (length ps ≡ length (dims_of shape) → ⊥) → parts_slab ps shape ≡ Err Rank
other_rank shape ps h = rw (ne_eqb (length ps) (length (dims_of shape)) h) refl

own_rank : (b : Bool) (x : Result Slab SlabFault) → (b ≡ false → x ≡ Err Rank) → x ≡ cond b x (Err Rank)
own_rank true x h = refl
own_rank false x h = h refl

nothing_fine : (dims : List ℕ) → nothing_kept ≡ fine dims []
nothing_fine dims = refl

over_all : (dims : List ℕ) (ps : List Part) → length dims < length ps → (keep_all dims nothing_kept ps).over ≡ true
over_all dims ps h = ap (λ (k : Kept). (keep_all dims k ps).over) (nothing_fine dims) ∙ keep_past dims ps [] (omega arith) (omega arith)

all_kept : (dims : List ℕ) (ps : List Part) → length ps ≤ length dims → keep_all dims nothing_kept ps ≡ fine dims ps
all_kept dims ps h = ap (λ (k : Kept). keep_all dims k ps) (nothing_fine dims) ∙ keep_within dims ps [] (omega arith)

pub judged_parts : (shape : Shape) (ps : List Part) → judged_kept shape (keep_all (dims_of shape) nothing_kept ps) ≡ parts_slab ps shape
judged_parts shape ps = elim (cases_lt (length (dims_of shape)) (length ps)) [
  | inl past ↦
      not_over shape (keep_all (dims_of shape) nothing_kept ps) (over_all (dims_of shape) ps past) ∙ sym (other_rank shape ps (λ e. omega (arith, e, past)))
  | inr within ↦
      ap (judged_kept shape) (all_kept (dims_of shape) ps within)
      ∙ own_rank (nat_eq (length ps) (length (dims_of shape))) (judged shape (slab_in (dims_of shape) ps))
      (λ e. judged_rank shape (slab_in (dims_of shape) ps) (λ same. eqb-false (length ps) (length (dims_of shape)) e (sym (length-starts ps) ∙ same)))
]
