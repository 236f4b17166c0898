use Rattle.std.proofs.Common.{◌≡◌, ℕ, ◌+◌, ◌-◌, ◌<◌, ◌≤◌, List, [], ◌++◌, length, take, drop, min, ap, ◌∙◌, arith, length-append, length-take, length-drop}
use Rattle.std.proofs.lemmas.List.{drop_all}
use Rattle.edge_traits.proofs.Pieces.{piece_given}
use Rattle.edge_traits.proofs.mem_source.MemSourceSource.read.Goals as goal

-- what a read of at most `most` bytes at this place copies to the front of buf is the front of what was left
given : (at n most : ℕ) (bytes whole copied buf : List ℕ) → at ≤ length bytes → 0 < most → whole ≡ bytes
    → n ≡ min (min (length buf) most) (length bytes - at) → length copied ≡ length (take n buf) → copied ≡ take (at + n - at) (drop at whole)
    → (drop at bytes ≡ take n (copied ++ drop n buf) ++ drop (at + n) bytes)
    × (n ≡ 0 → 0 < length (copied ++ drop n buf) → drop (at + n) bytes ≡ [])
given at n most bytes whole copied buf inside some same is size after =
    let count : length copied ≡ n = omega (arith, length-take n buf) in (
      piece_given at n bytes copied (drop n buf) count
          (after ∙ ap (λ l. take (at + n - at) (drop at l)) same ∙ ap (λ (k : ℕ). take k (drop at bytes)) (let e : at + n - at ≡ n = omega arith in e)),
      λ none room. drop_all (at + n) bytes (omega (arith, length-append copied (drop n buf), length-take n buf, length-drop n buf)),
    )

pub returns-clause-bytes : goal.returns-clause-bytes
returns-clause-bytes c =
    let count = c.min-count.ensures
    ∙ ap (λ (k : ℕ). min k (c.len.result - c.args.self.now.at)) c.min.ensures
    ∙ ap (λ (k : ℕ). min (min (length c.args.buf.now) c.args.self.now.piece) (k - c.args.self.now.at)) (c.len.ensures ∙ c.args.self.now.bytes.ok.0) in
    given _ _ c.args.self.now.piece _ _ _ _ c.args.self.now.inside c.args.self.now.some_piece c.deref.ensures.value
    count c.copy_from_slice.ensures.len c.copy_from_slice.ensures.after
