use Rattle.std.proofs.Common.{◌≡◌, ℕ, ◌≤◌, ◌++◌, List, length, drop, sym, ◌∙◌, ap, arith, append_assoc}
use Rattle.std.proofs.lemmas.List.{drop-append-le}
use Rattle.flush_journal.specs.Records.{four_bytes, encoded}
use Rattle.flush_journal.specs.Frames.{framed}
use Rattle.flush_journal.proofs.batch.add_record.Goals as goal

behind_front : (o a b c d : List ℕ) → 8 ≤ length o → drop 8 (o ++ a ++ b ++ c ++ d) ≡ drop 8 o ++ (a ++ b ++ c ++ d)
behind_front o a b c d long =
    ap (drop 8) (append_assoc (o ++ a ++ b) c d ∙ append_assoc (o ++ a) b (c ++ d) ∙ append_assoc o a (b ++ (c ++ d)))
    ∙ drop-append-le 8 o (a ++ (b ++ (c ++ d))) long
    ∙ ap (λ (l : List ℕ). drop 8 o ++ l) (sym (append_assoc (a ++ b) c d ∙ append_assoc a b (c ++ d)))

pub returns-clause-items : goal.returns-clause-items
unfolding four_bytes
returns-clause-items c =
    let o = c.open_frame.new.frame.items in
    let kl : c.to_be_bytes.result ≡ four_bytes (length c.args.key.now) = c.to_be_bytes.ensures in
    let bl : c.to_be_bytes-2.result ≡ four_bytes (length c.args.body.now) = c.to_be_bytes-2.ensures in
    let all : c.extend_reserved-4.new.frame.items ≡ o ++ four_bytes (length c.args.key.now) ++ c.args.key.now ++ four_bytes (length c.args.body.now) ++ c.args.body.now =
    c.extend_reserved-4.ensures.items ∙ ap (λ (l : List ℕ). l ++ c.args.body.now) (
    c.extend_reserved-3.ensures.items ∙ (λ i. (c.extend_reserved-2.ensures.items ∙ ap (λ (l : List ℕ). l ++ c.args.key.now) (
    c.extend_reserved.ensures.items ∙ ap (λ (l : List ℕ). o ++ l) kl)) i ++ bl i)) in
    c.close_frame.ensures.items ∙ ap framed (
    ap (drop 8) all ∙ behind_front o _ _ _ _ (omega (arith, c.open_frame.ensures.len))
    ∙ ap (λ (l : List ℕ). l ++ encoded (c.args.key.now, c.args.body.now)) c.open_frame.ensures.payload)
