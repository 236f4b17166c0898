use Rattle.std.proofs.Common.{◌≡◌, ◌∙◌, ℕ, ◌<◌, List, true, IsUtf8, sym, ap, subst, arith}
use Rattle.std.proofs.lemmas.Bool.Decides.{nat_tests}
use Rattle.std.proofs.lemmas.List.Elements.{All-weaker}
use Rattle.std.proofs.lemmas.Str.{IsUtf8-from_ascii}
use Rattle.std.proofs.lemmas.Str.Ascii.{IsAscii-from_all}
use Rattle.httparse.specs.Grammar.{is_token_byte, IsToken}
use Rattle.httparse.specs.Spans.{span_bytes}
use Rattle.http_wire.proofs.buffer.HeadBuffer.method_of.Goals as goal

token_byte : (b : ℕ) → is_token_byte b ≡ true → b < 128
unfolding is_token_byte
token_byte b token = grind (arith, nat_tests)

-- a token is a text
token_text : (bytes : List ℕ) → IsToken bytes → IsUtf8 bytes
token_text bytes token =
    IsUtf8-from_ascii bytes (IsAscii-from_all bytes (All-weaker (λ b. is_token_byte b ≡ true) (λ b. b < 128) token_byte bytes token.1))

pub returns : goal.returns
returns c h at =
    let same = c.of.ensures ∙ ap (λ l. span_bytes l c.args.spans.method) c.unused.ensures.value ∙ at.method in
    c.text_of.ensures (subst IsUtf8 (sym same) (token_text h.method at.reads.0.method)) ∙ same
