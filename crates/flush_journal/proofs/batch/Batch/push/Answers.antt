use Rattle.std.proofs.Common.{ℕ, ◌++◌, List, refl, sym, ◌∙◌, ap, subst}
use Rattle.std.specs.Prelude.{All}
use Rattle.flush_journal.specs.Records.{IsRecord, encoded}
use Rattle.flush_journal.specs.Frames.{framed, frame_of, payload_of}
use Rattle.flush_journal.proofs.BatchLemmas.{whole_of, pushed}
use Rattle.flush_journal.proofs.BatchFronts.{one_more}
use Rattle.flush_journal.proofs.batch.Batch.push.Goals as goal

pub invariant_of-self-2 : goal.invariant_of-self-2
invariant_of-self-2 c =
    let r : List ℕ × List ℕ = (c.args.key.now, c.args.body.now) in
    let p = pushed c.args.self.now.frame.items c.add_record.new.frame.items _ r (whole_of c.args.self.now.frame.items _ c.args.self.now.whole refl) c.requires.some_key c.requires.short_key c.requires.short_body
    (c.add_record.ensures.items ∙ ap (λ (l : List ℕ). framed (payload_of l ++ encoded r)) c.reserve_frame.ensures.items) in
    let sound = one_more _ r c.args.self.now.sound (record { some = c.requires.some_key; key = c.requires.short_key; body = c.requires.short_body }) in
    record { whole = p.1 ∙ ap frame_of (sym p.0); sound = subst (All IsRecord) (sym p.0) sound }

pub returns-clause-ok : goal.returns-clause-ok
returns-clause-ok c =
    let r : List ℕ × List ℕ = (c.args.key.now, c.args.body.now) in
    (pushed c.args.self.now.frame.items c.add_record.new.frame.items _ r (whole_of c.args.self.now.frame.items _ c.args.self.now.whole refl) c.requires.some_key c.requires.short_key c.requires.short_body
    (c.add_record.ensures.items ∙ ap (λ (l : List ℕ). framed (payload_of l ++ encoded r)) c.reserve_frame.ensures.items)).0
