-- The text of a slab's selection spells the slab.
use Rattle.std.proofs.Common.{◌≡◌, ℕ, ◌+◌, ◌^◌, ◌<◌, ◌≤◌, List, [], ◌∷◌, ◌++◌, codes, Some, Ok, inl, inr, refl, ap, ◌∙◌, arith}
use Rattle.std.specs.Fmt.{decimal, digits}
use Rattle.std.proofs.lemmas.List.{append_assoc}
use Rattle.shapes.specs.declared.Shape.{Shape}
use Rattle.shapes.specs.declared.Shape.TheVariants.{Simple}
use Rattle.hyperslab.specs.Grammar.{IsPart, IsSelection}
use Rattle.hyperslab.specs.Steps.{text_slab}
use Rattle.hyperslab.specs.declared.reading.Part.{Part}
use Rattle.hyperslab.proofs.OutcomeLemmas.{fits_whole, judged_outcome}
use Rattle.hyperslab.proofs.TextLemmas.{text_spelled}
use Rattle.hyperslab.proofs.WrittenLemmas.{numeral}
use Rattle.samples.specs.Trees.{slab_of, slab_text}
use Rattle.samples.proofs.ReadLemmas.{slab_in, slab_is}

-- ---- the two axes

abbrev part : ℕ → ℕ → ℕ → Part
part lo hi by = record { start = lo; stop = Some hi; step = by }

rows : (a b : ℕ) → a < 10 ^ 10 → b < 10 ^ 10 → IsPart (decimal a ++ 58 ∷ decimal b) (part a b 1)
rows a b h k = inr (inl (record {
  first = decimal a;
  second = decimal b;
  start = Some a;
  stop = Some b;
  text_is = refl;
  starts = numeral a h;
  stops = numeral b k;
  part = refl;
}))

columns : IsPart (codes "0:1000:7") (part 0 1000 7)
unfolding digits
columns = inr (inr (record {
  first = codes "0";
  second = codes "1000";
  third = codes "7";
  start = Some 0;
  stop = Some 1000;
  step = 7;
  text_is = refl;
  starts = numeral 0 (omega arith);
  stops = numeral 1000 (omega arith);
  steps = numeral 7 (omega arith);
  part = refl;
}))

bracketed : (a b e : List ℕ) → (((91 ∷ [] ++ a) ++ 58 ∷ []) ++ b) ++ 44 ∷ (e ++ 93 ∷ []) ≡ 91 ∷ (((a ++ 58 ∷ b) ++ 44 ∷ []) ++ (e ++ 93 ∷ []))
bracketed a b e = simp append_assoc

selection : (a : ℕ) → a + 100 ≤ 1000 → IsSelection (slab_text a) (part a (a + 100) 1 ∷ (part 0 1000 7 ∷ []))
selection a h = record {
  front = [];
  texts = (decimal a ++ 58 ∷ decimal (a + 100)) ∷ [];
  last = codes "0:1000:7";
  back = [];
  earlier = part a (a + 100) 1 ∷ [];
  final = part 0 1000 7;
  text_is = bracketed (decimal a) (decimal (a + 100)) (codes "0:1000:7");
  parts_are = refl;
  spaces_front = tt;
  spaces_back = tt;
  are_parts = (rows a (a + 100) (omega arith) (omega arith), tt);
  is_part = columns;
}

pub slab_spelled : (a : ℕ) (shape : Shape) (limits : List ℕ) → a + 100 ≤ 1000 → shape ≡ Simple (1000 ∷ 1000 ∷ []) limits → text_slab (slab_text a) shape ≡ Ok (slab_of a)
slab_spelled a shape limits h is =
    ap (text_slab (slab_text a)) is
    ∙ text_spelled (slab_text a) (Simple (1000 ∷ 1000 ∷ []) limits) (part a (a + 100) 1 ∷ (part 0 1000 7 ∷ [])) (selection a h)
    ∙ (judged_outcome (Simple (1000 ∷ 1000 ∷ []) limits) (slab_of a) (Ok (slab_of a))).1
    (refl, fits_whole (1000 ∷ 1000 ∷ []) (slab_of a) (slab_is a h) (slab_in a limits h), (slab_is a h).room)
