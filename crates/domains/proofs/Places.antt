-- Whether a look-up found a node.
use Rattle.std.proofs.Common.{◌≡◌, false, is_some, Option, Some, None, option_copied, Bor, refl, ap, true≢false}
use Rattle.domains.specs.declared.classes.Node.{Node}

pub some_there : (r : Option (Bor Node)) (o : Option Node) → option_copied r ≡ o → is_some r ≡ is_some o
some_there None o e = ap is_some e
some_there (Some x) o e = ap is_some e

pub none_there : (o : Option Node) → is_some o ≡ false → o ≡ None
none_there None h = refl
none_there (Some x) h = absurd (true≢false h)
