-- The bytes of what is done are told apart from those of other statuses by the first digit.
use Rattle.std.proofs.Common.{◌≡◌, ◌⊎◌, inl, inr, ℕ, List, Bool, get_or, refl, sym, ap, ◌∙◌, subst, arith}
use Rattle.std.specs.Fmt.{digits}
use Rattle.serde_json.specs.Data.{Data}
use Rattle.flush_journal.specs.declared.why.Why.{Why}
use Rattle.flush_journal.specs.declared.why.Why.TheVariants as why
use Rattle.http_wire.specs.Replies.{reply_text, reply_head, no_memory_reply}
use Rattle.http_wire.specs.declared.extra.Extra.{Extra}
use Rattle.object_ops.specs.Refusals.{status_of}
use Rattle.object_ops.specs.declared.refusals.Refusal.{Refusal}
use Rattle.object_ops.specs.declared.refusals.Refusal.TheVariants.{BadHead, HeadTooLong, BadLength, BodyTooLong, TransferCoding, NoRoute, Method, BadToken, BadDomain, BadJson, BadField, UnsupportedType, BadShape, BadName, NoDomain, Forbidden, NoObject, Gone, BadSelect, TooMany, BadValue, Taken, NotEmpty, NoName, Root, Limit, DiskFault, JournalFull}
use Rattle.object_ops.specs.declared.replies.Reply.TheVariants as outcome
use Rattle.service_core.specs.AnswerTrees.Statuses.{HasDoneStatus, IsDoneStatus}
use Rattle.service_core.specs.declared.answers.What.{What}
use Rattle.service_core.specs.declared.answers.What.TheVariants.{Replied}
use Rattle.rest_session.specs.Responses.{HasStatus, IsUnkept, said}

-- the tenth byte, the first of the status
abbrev pub first_digit : List ℕ → ℕ
first_digit bytes = get_or bytes 9 0

pub done_byte : (status : ℕ) (more : Extra) (body : List ℕ) (close : Bool) → IsDoneStatus status → first_digit (reply_text status more body close) ≡ 50
unfolding reply_text reply_head digits
done_byte status more body close (inl e) = subst (λ (n : ℕ). first_digit (reply_text n more body close) ≡ 50) (sym e) refl
done_byte status more body close (inr (inl e)) = subst (λ (n : ℕ). first_digit (reply_text n more body close) ≡ 50) (sym e) refl
done_byte status more body close (inr (inr e)) = subst (λ (n : ℕ). first_digit (reply_text n more body close) ≡ 50) (sym e) refl

pub said_byte : (what : What) (status : ℕ) (body : Data) (path : List ℕ) (close : Bool) → HasDoneStatus what → what ≡ Replied (outcome.Done status body)
    → first_digit (said path what close) ≡ 50
said_byte what status body path close has is =
    subst (λ (x : What). HasDoneStatus x → first_digit (said path x close) ≡ 50) (sym is) (λ done. done_byte status _ _ close done) has

byte_503 : (more : Extra) (body : List ℕ) (close : Bool) → first_digit (reply_text 503 more body close) ≡ 53
unfolding reply_text reply_head digits
byte_503 more body close = refl

pub byte_507 : (more : Extra) (body : List ℕ) (close : Bool) → first_digit (reply_text 507 more body close) ≡ 53
unfolding reply_text reply_head digits
byte_507 more body close = refl

pub has_503 : (bytes : List ℕ) → HasStatus 503 bytes → first_digit bytes ≡ 53
has_503 bytes h = ap first_digit h.written ∙ byte_503 h.more h.body h.close

pub has_507 : (bytes : List ℕ) → HasStatus 507 bytes → first_digit bytes ≡ 53
has_507 bytes h = ap first_digit h.written ∙ byte_507 h.more h.body h.close

pub none_byte : (close : Bool) → first_digit (no_memory_reply close) ≡ 53
unfolding no_memory_reply
none_byte close = byte_507 _ _ close

pub unkept_byte : (w : Why) (close : Bool) (bytes : List ℕ) → IsUnkept w close bytes → first_digit bytes ≡ 53
unkept_byte why.DiskFault close bytes (inl e) = ap first_digit e ∙ byte_503 _ _ close
unkept_byte why.DiskFault close bytes (inr e) = ap first_digit e ∙ none_byte close
unkept_byte (why.JournalFull end need room) close bytes (inl e) = ap first_digit e ∙ byte_503 _ _ close
unkept_byte (why.JournalFull end need room) close bytes (inr e) = ap first_digit e ∙ none_byte close
unkept_byte (why.NotAJournal end) close bytes e = ap first_digit e ∙ none_byte close
unkept_byte why.Exists close bytes e = ap first_digit e ∙ none_byte close
unkept_byte why.NoMemory close bytes e = ap first_digit e ∙ none_byte close

pub apart : (bytes : List ℕ) → first_digit bytes ≡ 50 → first_digit bytes ≡ 53 → ⊥
apart bytes first second = omega (arith, first, second)

-- the first digit of a refusal's status is 4 or 5
abbrev pub IsRefusedByte : ℕ → Type 0
IsRefusedByte byte = (byte ≡ 52) ⊎ (byte ≡ 53)

pub refused_byte : (refusal : Refusal) (more : Extra) (body : List ℕ) (close : Bool) → IsRefusedByte (first_digit (reply_text (status_of refusal) more body close))
unfolding reply_text reply_head digits
refused_byte BadHead more body close = inl refl
refused_byte HeadTooLong more body close = inl refl
refused_byte BadLength more body close = inl refl
refused_byte BodyTooLong more body close = inl refl
refused_byte TransferCoding more body close = inr refl
refused_byte NoRoute more body close = inl refl
refused_byte Method more body close = inl refl
refused_byte BadToken more body close = inl refl
refused_byte BadDomain more body close = inl refl
refused_byte BadJson more body close = inl refl
refused_byte (BadField field) more body close = inl refl
refused_byte (UnsupportedType class) more body close = inl refl
refused_byte (BadShape fault) more body close = inl refl
refused_byte BadName more body close = inl refl
refused_byte NoDomain more body close = inl refl
refused_byte (Forbidden right) more body close = inl refl
refused_byte (NoObject id) more body close = inl refl
refused_byte (Gone id) more body close = inl refl
refused_byte (BadSelect fault axis byte index) more body close = inl refl
refused_byte (TooMany count limit) more body close = inl refl
refused_byte (BadValue fault place got want) more body close = inl refl
refused_byte (Taken name) more body close = inl refl
refused_byte NotEmpty more body close = inl refl
refused_byte (NoName name) more body close = inl refl
refused_byte Root more body close = inl refl
refused_byte (Limit limit what) more body close = inl refl
refused_byte DiskFault more body close = inr refl
refused_byte (JournalFull end need room) more body close = inr refl

pub not_refused : (byte : ℕ) → byte ≡ 50 → IsRefusedByte byte → ⊥
not_refused byte done (inl refused) = omega (arith, done, refused)
not_refused byte done (inr refused) = omega (arith, done, refused)
