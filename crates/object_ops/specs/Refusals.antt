-- The statuses, the reasons and the bodies of refusals.
use Rattle.std.specs.Prelude.{ℕ, List, Bool, true, false, Option, Some, None, codes}
use Rattle.serde_json.specs.Data.{Data, Members, unsigned, object, string, number, member, no_members}
use Rattle.object_ids.specs.Ids.{text_of_id}
use Rattle.object_ids.specs.Limits.{limit_word}
use Rattle.access_lists.specs.RightWords.{right_name}
use Rattle.object_ops.specs.declared.refusals.Refusal.{Refusal}
use Rattle.object_ops.specs.declared.refusals.Refusal.TheVariants.{BadHead, HeadTooLong, BadLength, BodyTooLong, TransferCoding, NoRoute, Method, BadToken, BadDomain, BadJson, BadField, UnsupportedType, BadShape, BadName, NoDomain, Forbidden, NoObject, Gone, BadSelect, TooMany, BadValue, Taken, NotEmpty, NoName, Root, Limit, DiskFault, JournalFull}
use Rattle.object_ops.specs.Words.{field_word, shape_word, select_word, value_word, class_name}

abbrev pub status_of : Refusal → ℕ
status_of BadHead = 400
status_of HeadTooLong = 431
status_of BadLength = 400
status_of BodyTooLong = 413
status_of TransferCoding = 501
status_of NoRoute = 404
status_of Method = 405
status_of BadToken = 401
status_of BadDomain = 400
status_of BadJson = 400
status_of (BadField field) = 400
status_of (UnsupportedType class) = 400
status_of (BadShape fault) = 400
status_of BadName = 400
status_of NoDomain = 404
status_of (Forbidden right) = 403
status_of (NoObject id) = 404
status_of (Gone id) = 410
status_of (BadSelect fault axis byte index) = 400
status_of (TooMany count limit) = 413
status_of (BadValue fault place got want) = 400
status_of (Taken name) = 409
status_of NotEmpty = 409
status_of (NoName name) = 404
status_of Root = 409
status_of (Limit limit what) = 409
status_of DiskFault = 503
status_of (JournalFull end need room) = 503

abbrev pub reason_of : Refusal → List ℕ
reason_of BadHead = codes "bad-head"
reason_of HeadTooLong = codes "head-too-long"
reason_of BadLength = codes "bad-length"
reason_of BodyTooLong = codes "body-too-long"
reason_of TransferCoding = codes "transfer-coding"
reason_of NoRoute = codes "no-route"
reason_of Method = codes "method"
reason_of BadToken = codes "bad-token"
reason_of BadDomain = codes "bad-domain"
reason_of BadJson = codes "bad-json"
reason_of (BadField field) = codes "bad-field"
reason_of (UnsupportedType class) = codes "unsupported-type"
reason_of (BadShape fault) = codes "bad-shape"
reason_of BadName = codes "bad-name"
reason_of NoDomain = codes "no-domain"
reason_of (Forbidden right) = codes "forbidden"
reason_of (NoObject id) = codes "no-object"
reason_of (Gone id) = codes "gone"
reason_of (BadSelect fault axis byte index) = codes "bad-select"
reason_of (TooMany count limit) = codes "too-many"
reason_of (BadValue fault place got want) = codes "bad-value"
reason_of (Taken name) = codes "taken"
reason_of NotEmpty = codes "not-empty"
reason_of (NoName name) = codes "no-name"
reason_of Root = codes "root"
reason_of (Limit limit what) = codes "limit"
reason_of DiskFault = codes "disk-fault"
reason_of (JournalFull end need room) = codes "journal-full"

-- the last member, or the only one
abbrev pub reason_alone : List ℕ → Members
reason_alone word = member (codes "reason") (string word) no_members

abbrev pub text_member : List ℕ → List ℕ → Members → Members
text_member key text rest = member key (string text) rest

abbrev pub number_member : List ℕ → ℕ → Members → Members
number_member key n rest = member key (number (unsigned n)) rest

-- a number where there is one
abbrev pub maybe_member : List ℕ → Option ℕ → Members → Members
maybe_member key None rest = rest
maybe_member key (Some n) rest = number_member key n rest

-- the members of a body with this reason: it, and what it speaks of, in byte order of the keys
abbrev pub members_with : List ℕ → List ℕ → Refusal → Members
members_with word path (BadField field) = text_member (codes "field") (field_word field) (reason_alone word)
members_with word path (UnsupportedType class) = text_member (codes "class") (class_name class) (reason_alone word)
members_with word path (BadShape fault) = text_member (codes "fault") (shape_word fault) (reason_alone word)
members_with word path NoDomain = text_member (codes "domain") path (reason_alone word)
members_with word path (Forbidden right) =
    text_member (codes "domain") path (text_member (codes "reason") word (text_member (codes "right") (right_name right) no_members))
members_with word path (NoObject id) = text_member (codes "id") (text_of_id id) (reason_alone word)
members_with word path (Gone id) = text_member (codes "id") (text_of_id id) (reason_alone word)
members_with word path (BadSelect fault axis byte index) =
    maybe_member (codes "axis") axis (maybe_member (codes "byte") byte (text_member (codes "fault") (select_word fault)
    (maybe_member (codes "index") index (reason_alone word))))
members_with word path (TooMany count limit) = number_member (codes "count") count (number_member (codes "limit") limit (reason_alone word))
members_with word path (BadValue fault place got want) =
    text_member (codes "fault") (value_word fault) (maybe_member (codes "got") got (maybe_member (codes "place") place
    (text_member (codes "reason") word (maybe_member (codes "want") want no_members))))
members_with word path (Taken name) = text_member (codes "name") name (reason_alone word)
members_with word path NotEmpty = text_member (codes "domain") path (reason_alone word)
members_with word path (NoName name) = text_member (codes "name") name (reason_alone word)
members_with word path (Limit limit what) =
    number_member (codes "limit") limit (text_member (codes "reason") word (text_member (codes "what") (limit_word what) no_members))
members_with word path (JournalFull end need room) =
    number_member (codes "end") end (number_member (codes "need") need (text_member (codes "reason") word (number_member (codes "room") room no_members)))
members_with word path refusal = reason_alone word

-- the body of a refusal at a path
abbrev pub refusal_tree : List ℕ → Refusal → Data
refusal_tree path refusal = object (members_with (reason_of refusal) path refusal)

-- what is refused over a folder, a domain or an access list, and so speaks of its path
abbrev pub speaks_of_path : Refusal → Bool
speaks_of_path NoDomain = true
speaks_of_path (Forbidden right) = true
speaks_of_path NotEmpty = true
speaks_of_path refusal = false
