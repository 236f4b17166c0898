use Rattle.std.proofs.Common.{◌≡◌, ℕ, List, ◌++◌, append_assoc}
use Rattle.http_wire.proofs.reply_heads.push_size.Goals as goal

regrouped : (a b c d text digits end : List ℕ) → b ≡ a ++ text → c ≡ b ++ digits → d ≡ c ++ end → d ≡ a ++ ((text ++ digits) ++ end)
regrouped a b c d text digits end p q r = simp (append_assoc, p, q, r)

pub returns-clause-adds : goal.returns-clause-adds
returns-clause-adds c = regrouped _ _ _ _ _ _ _ c.push.ensures c.push_number.ensures.adds c.push-2.ensures
