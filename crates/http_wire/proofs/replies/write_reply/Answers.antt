use Rattle.std.proofs.Common.{◌≡◌, List, ℕ, ◌++◌, length, cond, [], ◌==◌, Bool, subst, refl}
use Rattle.std.specs.Result.{OnOk, OnErr}
use Rattle.std.specs.Io.KnownBytes.{Appends}
use Rattle.http_wire.specs.declared.extra.Extra.{Extra}
use Rattle.http_wire.specs.Replies.{reply_text, reply_head, AppendsFront}
use Rattle.http_wire.proofs.replies.write_reply.Goals as goal

whole : (status : ℕ) (extra : Extra) (body : List ℕ) (close : Bool) (head shown : List ℕ) → head ≡ reply_head status extra (length body) close
    → shown ≡ cond (status == 204) [] body → head ++ shown ≡ reply_text status extra body close
unfolding reply_text
whole status extra body close head shown p q = rw (p, q) refl

pub returns-clause-ok : goal.returns-clause-ok
returns-clause-ok g c =
    subst (λ (l : List ℕ). OnOk c.write_behind.result (Appends (g.K.Sink.held c.args.sink.now) (g.K.Sink.held c.write_behind.new.sink) l))
    (whole c.args.status c.args.extra c.args.body.now c.args.close _ _ c.push_head.ensures.head c.shown_body.ensures) c.write_behind.ensures.ok

pub returns-clause-err : goal.returns-clause-err
returns-clause-err g c =
    subst (λ (l : List ℕ). OnErr c.write_behind.result (AppendsFront (g.K.Sink.held c.args.sink.now) (g.K.Sink.held c.write_behind.new.sink) l))
    (whole c.args.status c.args.extra c.args.body.now c.args.close _ _ c.push_head.ensures.head c.shown_body.ensures) c.write_behind.ensures.err
