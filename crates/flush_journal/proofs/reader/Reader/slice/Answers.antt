use Rattle.std.proofs.Common.{◌≡◌, ◌+◌, ◌-◌, ℕ, List, length, take, drop, ◌∙◌, ap, arith}
use Rattle.std.proofs.lemmas.List.{drop-take, drop-drop, take-take}
use Rattle.flush_journal.proofs.reader.Reader.slice.Goals as goal

pub returns-clause-bytes : goal.returns-clause-bytes
returns-clause-bytes g c = λ h.
    let at = c.args.at in
    let file = g.D.Disk.reads c.args.self.now.disk in
    let from = c.args.self.now.from in
    let bytes = c.args.self.now.bytes.items in
    let skip : ℕ = at - from in
    let size : at - from + c.args.size - (at - from) ≡ c.args.size = omega arith in
    let split : length bytes ≡ skip + (length bytes - skip) = omega (arith, c.requires) in
    let place : from + skip ≡ at = omega (arith, c.requires) in
    ap (λ (n : ℕ). take n (drop (at - from) c.deref.result.now)) size
    ∙ ap (λ (l : List ℕ). take c.args.size (drop skip l)) (c.deref.ensures.value ∙ c.args.self.now.shown h ∙ ap (λ (n : ℕ). take n (drop from file)) split)
    ∙ ap (take c.args.size) (drop-take skip (length bytes - skip) (drop from file) ∙ ap (take (length bytes - skip)) (drop-drop skip from file ∙ ap (λ (n : ℕ). drop n file) place))
    ∙ take-take c.args.size (length bytes - skip) (drop at file) (omega (arith, c.requires))
