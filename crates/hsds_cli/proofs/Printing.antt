-- Lines that were printed.
use Rattle.std.proofs.Common.{◌≡◌, ℕ, List, ◌++◌, length, take, Option, sym, subst, append_assoc}
use Rattle.std.specs.Io.KnownBytes.{Appends}
use Rattle.std.proofs.Math.Seq.{take-length}

pub whole_line : (line : List ℕ) (before after : Option (List ℕ)) → Appends before after line → Appends before after (take (length line) line)
whole_line line before after h = subst (λ (l : List ℕ). Appends before after l) (sym (take-length line)) h

-- three numbers behind their words, as `format!` joins them
pub three_joined : (l a m b n d e : List ℕ) → l ++ (a ++ (m ++ (b ++ (n ++ (d ++ e))))) ≡ (((((l ++ a) ++ m) ++ b) ++ n) ++ d) ++ e
three_joined l a m b n d e = simp append_assoc
