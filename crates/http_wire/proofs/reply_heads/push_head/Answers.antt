use Rattle.std.proofs.Common.{◌≡◌, ◌∙◌, ℕ, List, [], ◌++◌}
use Rattle.http_wire.specs.Replies.{reply_head}
use Rattle.http_wire.proofs.reply_heads.push_head.Goals as goal

joined : (a b c d e f line content extra word closing end : List ℕ) → a ≡ [] → b ≡ a ++ line → c ≡ b ++ content → d ≡ c ++ extra
    → word ≡ closing → e ≡ d ++ word → f ≡ e ++ end → f ≡ line ++ content ++ extra ++ closing ++ end
joined a b c d e f line content extra word closing end p q r s w t u = rw (u, t, w, s, r, q, p)

pub returns-clause-head : goal.returns-clause-head
unfolding reply_head
returns-clause-head c =
    joined _ _ _ _ _ _ _ _ _ _ _ _ c.requires c.push_line.ensures.adds c.push_content.ensures.adds c.push_extra.ensures.adds
    (c.as_bytes.ensures.value ∙ c.closing_line.ensures.line) c.push.ensures c.push-2.ensures
