-- The words behind a name, read one by one, are those of a line by its parts.
use Rattle.std.proofs.Common.{◌≡◌, ◌∙◌, ◌↔◌, ◌||◌, ap, ap₂, sym, subst, Bool, true, false, not}
use Rattle.std.proofs.Common.{◌&&◌, List, [], ◌∷◌, ◌++◌, map, Option, Some, None, option_and_then}
use Rattle.std.proofs.Common.{refl, append_assoc}
use Rattle.std.specs.Prelude.{if◌then◌else◌}
use Rattle.std.specs.List.{list_all}
use Rattle.std.specs.Str.{bytes_eq}
use Rattle.std.proofs.lemmas.Bool.{and_from, and_parts, not-true}
use Rattle.std.proofs.lemmas.Slice.Eq.{bytes_eq-Decides}
use Rattle.std.proofs.lemmas.List.{append-nil}
use Rattle.clap.specs.Lexer.{long_of}
use Rattle.command_words.specs.Lines.{Text, Row, Piece, Form, Part, IsLine, apart, joined, alone}
use Rattle.command_words.specs.Lines.{are_new, has, has_piece, is_filled, is_named, is_part}
use Rattle.command_words.specs.Lines.{is_place, is_value, option_word, piece_of, spelling}
use Rattle.command_words.specs.Lines.{spellings}
use Rattle.command_words.specs.Reading.{State, after_word, idle_with, named, opened, pieces_from}
use Rattle.command_words.specs.Reading.{pieces_of, placed, with_piece}
use Rattle.command_words.specs.Commands.{Command, IsCommand, Verb, command_of, meaning_of}
use Rattle.command_words.specs.Commands.{values_of, verb_named}
use Rattle.command_words.proofs.Steps.{plain_value}
use Rattle.command_words.proofs.Follow.{Took, ended_is, took_idle}
use Rattle.command_words.proofs.Spelled.{is_option_name, long_apart, long_joined, long_written}
use Rattle.command_words.proofs.Spelled.{written}
use Rattle.command_words.proofs.Whole.{named_of}

-- ---- what is read is a line

-- the pieces are the earlier ones and those of the parts
record AddsParts (row : Row) (earlier : List Piece) (words : List Text) (all : List Piece) : Type 0 where
  parts : List Part
  spelled : words ≡ spellings parts
  own : list_all (is_part row) parts ≡ true
  once : are_new earlier (map piece_of parts) ≡ true
  all_is : all ≡ earlier ++ map piece_of parts

-- an option that waits has its name in front
abbrev Sound : Row → Option Text → List Piece → List Text → List Piece → Type 0
Sound row None earlier words all = AddsParts row earlier words all
Sound row (Some name) earlier words all = has name row.options ≡ true → AddsParts row earlier (option_word name ∷ words) all

module _ (row : Row) where
  one_more : (form : Form) (name value : Text) (earlier next all : List Piece) (words : List Text)
      → is_named row form name ≡ true → Took name value earlier next
      → AddsParts row next words all → AddsParts row earlier (spelling form name value ++ words) all
  one_more form name value earlier next all words own got r = record {
    parts = record { form = form; name = name; value = value } ∷ r.parts;
    spelled = ap (λ (l : List Text). spelling form name value ++ l) r.spelled;
    own = and_from _ _ (and_from _ _ own got.good) r.own;
    once = and_from _ _ (ap not got.new) (subst (λ (l : List Piece). are_new l (map piece_of r.parts) ≡ true) got.all_is r.once);
    all_is = r.all_is ∙ ap (λ (l : List Piece). l ++ map piece_of r.parts) got.all_is
        ∙ append_assoc earlier ((name, value) ∷ []) (map piece_of r.parts);
  }

  -- a piece that leaves no option waiting
  idle_more : (form : Form) (name value : Text) (earlier all : List Piece) (words : List Text) (s : State)
      → is_named row form name ≡ true
      → idle_with (with_piece name value earlier) ≡ Some s → Sound row s.0 s.1 words all
      → AddsParts row earlier (spelling form name value ++ words) all
  idle_more form name value earlier all words s own e later =
      let got = took_idle name value earlier s e in
      one_more form name value earlier s.1 all words own got.1 (subst (λ (o : Option Text). Sound row o s.1 words all) got.0 later)

  placed_more : (word : Text) (earlier all : List Piece) (rest : List Text) (s : State)
      → placed row.place word earlier ≡ Some s → Sound row s.0 s.1 rest all
      → AddsParts row earlier (word ∷ rest) all
  placed_more word earlier all rest s e later = go row.place refl
    where
      go : (o : Option Text) → row.place ≡ o → AddsParts row earlier (word ∷ rest) all
      go None at = let bad : None ≡ Some s = sym (ap (λ (o : Option Text). placed o word earlier) at)
          ∙ e in cc
      go (Some name) at = idle_more alone name word earlier all rest s (ap (is_place name) at ∙ (bytes_eq-Decides name name).1 refl)
          (sym (ap (λ (o : Option Text). placed o word earlier) at) ∙ e) later

  named_more : (o : Text × Option Text) (earlier all : List Piece) (rest : List Text) (s : State)
      → has o.0 row.options ≡ true → named o.1 o.0 earlier ≡ Some s
      → Sound row s.0 s.1 rest all → AddsParts row earlier (option_word (written o) ∷ rest) all
  named_more (name, None) earlier all rest s own e later =
      let same : (Some name, earlier) ≡ s = cc in
      subst (λ (x : State). Sound row x.0 x.1 rest all) (sym same) later own
  named_more (name, Some value) earlier all rest s own e later = idle_more joined name value earlier all rest s own e later

  option_more : (o : Text × Option Text) (word : Text) (earlier all : List Piece) (rest : List Text) (s : State)
      → word ≡ option_word (written o)
      → opened row (Some o) word earlier ≡ Some s → Sound row s.0 s.1 rest all
      → AddsParts row earlier (word ∷ rest) all
  option_more o word earlier all rest s is e later = go (has o.0 row.options) refl
    where
      go : (b : Bool) → has o.0 row.options ≡ b → AddsParts row earlier (word ∷ rest) all
      go true own = subst (λ (w : Text). AddsParts row earlier (w ∷ rest) all) (sym is)
          (named_more o earlier all rest s own (sym (ap (λ (b : Bool). if b then named o.1 o.0 earlier else None) own) ∙ e) later)
      go false own = let bad : None ≡ Some s = sym (ap (λ (b : Bool). if b then named o.1 o.0 earlier else None) own)
          ∙ e in cc

  word_more : (waiting : Option Text) (word : Text) (earlier all : List Piece) (rest : List Text) (s : State)
      → after_word row waiting word earlier ≡ Some s
      → Sound row s.0 s.1 rest all → Sound row waiting earlier (word ∷ rest) all
  word_more (Some name) word earlier all rest s e later = λ own. idle_more apart name word earlier all rest s own e later
  word_more None word earlier all rest s e later = go (long_of word) refl
    where
      go : (o : Option (Text × Option Text)) → long_of word ≡ o
          → AddsParts row earlier (word ∷ rest) all
      go None is = placed_more word earlier all rest s (sym (ap (λ (o : Option (Text × Option Text)). opened row o word earlier) is) ∙ e) later
      go (Some o) is = option_more o word earlier all rest s (long_written word o is) (sym (ap (λ (o : Option (Text × Option Text)). opened row o word earlier) is) ∙ e) later

  sound : (words : List Text) (waiting : Option Text) (earlier all : List Piece)
      → pieces_from row waiting earlier words ≡ Some all
      → Sound row waiting earlier words all × (is_filled row.place all ≡ true)
  sound [] None earlier all e =
      let end = ended_is row earlier all e in (
        record { parts = []; spelled = refl; own = refl; once = refl; all_is = sym end.0 ∙ sym (append-nil earlier) },
        subst (λ (l : List Piece). is_filled row.place l ≡ true) end.0 end.1,
      )
  sound [] (Some name) earlier all e = cc
  sound (word ∷ rest) waiting earlier all e = go (after_word row waiting word earlier) refl (λ o q. sound rest o q all)
    where
      go : (o : Option State) → after_word row waiting word earlier ≡ o
          → ((o : Option Text) (q : List Piece) → pieces_from row o q rest ≡ Some all → Sound row o q rest all × (is_filled row.place all ≡ true))
          → Sound row waiting earlier (word ∷ rest) all × (is_filled row.place all ≡ true)
      go None is later = let bad : None ≡ Some all = sym (ap (option_and_then (λ (s : State). pieces_from row s.0 s.1 rest)) is)
          ∙ e in cc
      go (Some s) is later =
          let end = later s.0 s.1 (sym (ap (option_and_then (λ (s : State). pieces_from row s.0 s.1 rest)) is) ∙ e) in
          (word_more waiting word earlier all rest s is end.0, end.1)

  -- ---- a line is read

  has_option_name : (names : List Text) (name : Text) → list_all is_option_name names ≡ true
      → has name names ≡ true → is_option_name name ≡ true
  has_option_name [] name all e = cc
  has_option_name (n ∷ names) name all e = go (bytes_eq n name) refl (has_option_name names name)
    where
      both : (is_option_name n ≡ true) × (list_all is_option_name names ≡ true)
      both = and_parts _ _ all

      go : (b : Bool) → bytes_eq n name ≡ b
          → (list_all is_option_name names ≡ true → has name names ≡ true → is_option_name name ≡ true)
          → is_option_name name ≡ true
      go true is later = subst (λ (m : Text). is_option_name m ≡ true) ((bytes_eq-Decides n name).0 is) both.0
      go false is later = later both.1 (sym (ap (λ (b : Bool). b || has name names) is) ∙ e)

  with_new : (name value : Text) (earlier : List Piece) → has_piece name earlier ≡ false
      → is_value value ≡ true → with_piece name value earlier ≡ Some (earlier ++ (name, value) ∷ [])
  with_new name value earlier new good = ap₂ (λ (x y : Bool). if not x && y then Some (earlier ++ (name, value) ∷ []) else None) new good

  place_is : (o : Option Text) (name : Text) → is_place name o ≡ true → o ≡ Some name
  place_is None name e = cc
  place_is (Some place) name e = ap (λ (n : Text). Some n) ((bytes_eq-Decides place name).0 e)

  module _ (names : list_all is_option_name row.options ≡ true) (name value : Text) (earlier : List Piece) (rest : List Text)
      (new : has_piece name earlier ≡ false) (good : is_value value ≡ true) where
    abbrev after : Option (List Piece)
    after = pieces_from row None (earlier ++ (name, value) ∷ []) rest

    abbrev on : Option State → Option (List Piece)
    on = option_and_then (λ s. pieces_from row s.0 s.1 rest)

    took_piece : on (idle_with (with_piece name value earlier)) ≡ after
    took_piece = ap (λ (o : Option (List Piece)). on (idle_with o)) (with_new name value earlier new good)

    part_read : (form : Form) → is_named row form name ≡ true
        → pieces_from row None earlier (spelling form name value ++ rest) ≡ after
    part_read apart own =
        ap (λ (o : Option (Text × Option Text)). option_and_then (λ (s : State). pieces_from row s.0 s.1 (value ∷ rest)) (opened row o (option_word name) earlier))
        (long_apart name (has_option_name row.options name names own))
        ∙ ap (λ (b : Bool). option_and_then (λ (s : State). pieces_from row s.0 s.1 (value ∷ rest)) (if b then named None name earlier else None)) own
        ∙ took_piece
    part_read joined own =
        ap (λ (o : Option (Text × Option Text)). on (opened row o (option_word name ++ 61 ∷ value) earlier))
        (long_joined name value (has_option_name row.options name names own))
        ∙ ap (λ (b : Bool). on (if b then named (Some value) name earlier else None)) own
        ∙ took_piece
    part_read alone own =
        ap (λ (o : Option (Text × Option Text)). on (opened row o value earlier)) (plain_value value good).no_long
        ∙ ap (λ (o : Option Text). on (placed o value earlier)) (place_is row.place name own)
        ∙ took_piece

  complete : (parts : List Part) (earlier : List Piece) → list_all is_option_name row.options ≡ true
      → list_all (is_part row) parts ≡ true
      → are_new earlier (map piece_of parts) ≡ true
      → is_filled row.place (earlier ++ map piece_of parts) ≡ true
      → pieces_from row None earlier (spellings parts) ≡ Some (earlier ++ map piece_of parts)
  complete [] earlier names own once filled =
      ap (λ (b : Bool). if b then Some earlier else None) (ap (is_filled row.place) (sym (append-nil earlier)) ∙ filled)
      ∙ ap (λ (l : List Piece). Some l) (sym (append-nil earlier))
  complete (part ∷ parts) earlier names own once filled =
      let mine = and_parts (is_part row part) (list_all (is_part row) parts) own in
      let this = and_parts (is_named row part.form part.name) (is_value part.value) mine.0 in
      let new = and_parts (not (has_piece part.name earlier)) (are_new (earlier ++ piece_of part ∷ []) (map piece_of parts)) once in
      let same : (earlier ++ piece_of part ∷ []) ++ map piece_of parts ≡ earlier ++ map piece_of (part ∷ parts) =
      append_assoc earlier (piece_of part ∷ []) (map piece_of parts) in
      part_read names part.name part.value earlier (spellings parts) (not-true _ new.0) this.1 part.form this.0
      ∙ complete parts (earlier ++ piece_of part ∷ []) names mine.1 new.1 (ap (is_filled row.place) same ∙ filled)
      ∙ ap (λ (l : List Piece). Some l) same

  -- ---- both

  pub line_of : (words : List Text) (all : List Piece) → pieces_of row words ≡ Some all
      → (parts : List Part) × IsLine row parts words × (all ≡ map piece_of parts)
  line_of words all e =
      let got = sound words None [] all e in (
        got.0.parts,
        record {
          spelled = got.0.spelled;
          own = got.0.own;
          once = got.0.once;
          filled = subst (λ (l : List Piece). is_filled row.place l ≡ true) got.0.all_is got.1;
        },
        got.0.all_is,
      )

  pub line_read : (words : List Text) (parts : List Part)
      → list_all is_option_name row.options ≡ true → IsLine row parts words
      → pieces_of row words ≡ Some (map piece_of parts)
  line_read words parts names line = ap (pieces_of row) line.spelled
      ∙ complete parts [] names line.own line.once line.filled

-- ---- the table

meant_parts : (name : Text) (rest : List Text) (command : Command) (verb : Verb) (all : List Piece)
    → verb_named name ≡ Some verb → pieces_of verb.row rest ≡ Some all
    → verb.meaning (values_of all) ≡ Some command → IsCommand (name ∷ rest) command
meant_parts name rest command verb all at is means =
    let line = line_of verb.row rest all is in
    record {
      name = name;
      rest = rest;
      verb = verb;
      parts = line.0;
      spelled = refl;
      listed = at;
      line = line.1;
      means = ap (λ (l : List Piece). verb.meaning (values_of l)) (sym line.2) ∙ means;
    }

named_parts : (name : Text) (rest : List Text) (command : Command)
    → command_of (name ∷ rest) ≡ Some command → IsCommand (name ∷ rest) command
named_parts name rest command e = found (verb_named name) refl
  where
    read : (verb : Verb) → verb_named name ≡ Some verb → meaning_of verb rest ≡ Some command
        → (o : Option (List Piece)) → pieces_of verb.row rest ≡ o
        → IsCommand (name ∷ rest) command
    read verb at means None is = let bad : None ≡ Some command = sym (ap (option_and_then (λ (l : List Piece). verb.meaning (values_of l))) is)
        ∙ means in cc
    read verb at means (Some all) is =
        meant_parts name rest command verb all at is (sym (ap (option_and_then (λ (l : List Piece). verb.meaning (values_of l))) is) ∙ means)

    found : (o : Option Verb) → verb_named name ≡ o → IsCommand (name ∷ rest) command
    found None at = let bad : None ≡ Some command = sym (ap (option_and_then (λ (v : Verb). meaning_of v rest)) at)
        ∙ e in cc
    found (Some verb) at = read verb at (sym (ap (option_and_then (λ (v : Verb). meaning_of v rest)) at) ∙ e) (pieces_of verb.row rest) refl

parts_of_command : (words : List Text) (command : Command) → command_of words ≡ Some command
    → IsCommand words command
parts_of_command [] command e = cc
parts_of_command (name ∷ rest) command e = named_parts name rest command e

command_of_parts : (words : List Text) (command : Command) → IsCommand words command
    → command_of words ≡ Some command
command_of_parts words command is =
    ap command_of is.spelled ∙ ap (option_and_then (λ (v : Verb). meaning_of v is.rest)) is.listed
    ∙ ap (option_and_then (λ (l : List Piece). is.verb.meaning (values_of l)))
    (line_read is.verb.row is.rest is.parts (named_of is.name is.verb is.listed).1.options is.line)
    ∙ is.means

pub command_by_parts : (words : List Text) (command : Command)
    → (command_of words ≡ Some command) ↔ IsCommand words command
command_by_parts words command = (parts_of_command words command, command_of_parts words command)
