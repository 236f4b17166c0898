use Rattle.std.proofs.Common.{◌≡◌, ◌∙◌, ℕ, ap, take, sym, lit<, arith}
use Rattle.std.specs.Prelude.{None, Some, slice_range}
use Rattle.std.proofs.lemmas.Bool.{cond-true, cond-false, eq-eqb, ne_eqb}
use Rattle.std.proofs.lemmas.Str.Pattern.{rfind_char}
use Rattle.object_ids.proofs.PathLemmas.{IsLastSlash, parent_of-at, parent_of-none}
use Rattle.object_ids.proofs.paths.parent_text.Goals as goal

pub returns-in-Some-eq0 : goal.returns-in-Some-eq0
returns-in-Some-eq0 c =
    let found = rfind_char 47 c.args.path.now (Some c.in-Some-eq0.field-0) c.in-Some-eq0.ensures.cases (lit< tt) in
    let last : IsLastSlash c.args.path.now c.in-Some-eq0.field-0 = record { within = found.0; slash = found.1; after = found.2 } in
    sym (parent_of-at c.args.path.now c.in-Some-eq0.field-0 last ∙ cond-true _ _ _ (eq-eqb c.in-Some-eq0.field-0 0 (omega arith)))

pub returns-in-Some : goal.returns-in-Some
returns-in-Some c =
    let found = rfind_char 47 c.args.path.now (Some c.in-Some.end) c.in-Some.ensures.cases (lit< tt) in
    let last : IsLastSlash c.args.path.now c.in-Some.end = record { within = found.0; slash = found.1; after = found.2 } in
    let e = parent_of-at c.args.path.now c.in-Some.end last ∙ cond-false _ _ _ (ne_eqb c.in-Some.end 0 (omega arith)) in
    let same : slice_range c.args.path.now 0 c.in-Some.end ≡ take c.in-Some.end c.args.path.now = ap (λ (n : ℕ). take n c.args.path.now) (omega arith) in
    c.range.ensures.value ∙ same ∙ sym e

pub returns-in-None : goal.returns-in-None
returns-in-None c = sym (parent_of-none c.args.path.now (rfind_char 47 c.args.path.now None c.in-None.ensures.cases (lit< tt)))
