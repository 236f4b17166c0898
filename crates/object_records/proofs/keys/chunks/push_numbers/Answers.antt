use Rattle.std.proofs.Common.{◌≡◌, ◌∙◌, ◌++◌, ◌∷◌, ℕ, List, [], sym, ap, append_assoc, append-nil}
use Rattle.std.specs.Int.{to_be_bytes, w32}
use Rattle.std.proofs.lemmas.List.{drop_more, drop_all}
use Rattle.object_records.specs.Keys.Numbers.{number_bytes}
use Rattle.object_records.proofs.keys.chunks.push_numbers.Goals as goal

-- the bytes of one number more
one_more : (done pushed : List ℕ) (ns rest : List ℕ) (n : ℕ) → ns ≡ n ∷ rest → pushed ≡ done ++ to_be_bytes w32 n → pushed ++ number_bytes rest ≡ done ++ number_bytes ns
unfolding number_bytes
one_more done pushed ns rest n is written =
    ap (λ (xs : List ℕ). xs ++ number_bytes rest) written ∙ append_assoc done (to_be_bytes w32 n) (number_bytes rest) ∙ ap (λ (xs : List ℕ). done ++ number_bytes xs) (sym is)

none_left : (done ns : List ℕ) → ns ≡ [] → done ++ number_bytes ns ≡ done
unfolding number_bytes
none_left done ns is = ap (λ (xs : List ℕ). done ++ number_bytes xs) is ∙ append-nil done

pub loop-n-preserved : goal.loop-n-preserved
loop-n-preserved c =
    one_more _ _ _ _ _ (drop_more c.args.numbers.now c.loop-n.n-index 0 c.loop-n-test.true)
    (c.in_ok-extend_from_slice.ensures.items ∙ ap (λ (xs : List ℕ). c.loop-n.key.items ++ xs) (c.as_slice.ensures ∙ c.to_be_bytes.ensures))
    ∙ c.loop-n.invariant

pub returns : goal.returns
returns c = sym (none_left _ _ (drop_all _ _ c.loop-n-test.false)) ∙ c.loop-n.invariant
