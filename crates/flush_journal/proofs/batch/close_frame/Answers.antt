use Rattle.std.proofs.Common.{◌≡◌, ◌-◌, ◌++◌, [], ◌∷◌, length, drop, sym, ◌∙◌, ap, arith, append_assoc, length-append, length-drop}
use Rattle.std.proofs.lemmas.List.{drop-append-le, take_at}
use Rattle.flush_journal.specs.Records.{eight_bytes}
use Rattle.flush_journal.specs.Frames.{framed}
use Rattle.flush_journal.proofs.RecordLemmas.{length-eight_bytes}
use Rattle.flush_journal.proofs.batch.close_frame.Goals as goal

pub returns-clause-items : goal.returns-clause-items
unfolding framed eight_bytes
returns-clause-items c =
    let old = c.args.frame.now.items in
    let all : c.as_mut_slice.result.now ≡ old ++ 0 ∷ [] = c.as_mut_slice.ensures.value ∙ c.push_reserved.ensures.items in
    let payload : drop 8 c.as_mut_slice.result.now ≡ drop 8 old ++ 0 ∷ [] = ap (drop 8) all ∙ drop-append-le 8 old (0 ∷ []) (omega (arith, c.requires.front)) in
    let size : c.len-size.result - 8 ≡ length (drop 8 old) = (let e = c.len-size.ensures in omega (arith, length-drop 8 old, e)) in
    let front : c.to_be_bytes.result ≡ eight_bytes (length (drop 8 old)) = c.to_be_bytes.ensures ∙ ap eight_bytes size in
    let whole : c.set_front.new.bytes ≡ eight_bytes (length (drop 8 old)) ++ (drop 8 old ++ 0 ∷ []) = c.set_front.ensures ∙ (λ i. front i ++ payload i) in
    let long : length c.set_front.new.bytes ≡ c.push_reserved.new.self.len =
    ap length whole ∙ length-append (eight_bytes (length (drop 8 old))) (drop 8 old ++ 0 ∷ [])
    ∙ omega (arith, length-eight_bytes (length (drop 8 old)), length-append (drop 8 old) (0 ∷ []), length-drop 8 old, c.requires.front, c.push_reserved.ensures.len) in
    take_at c.set_front.new.bytes _ c.push_reserved.new.self.len long ∙ whole ∙ sym (append_assoc (eight_bytes (length (drop 8 old))) (drop 8 old) (0 ∷ []))
