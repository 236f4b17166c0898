-- What `clap` makes of one word, beside what the definition makes of it.
use Rattle.std.proofs.Common.{◌≡◌, ◌∙◌, ◌⊎◌, ap, sym, ℕ, Bool, true, false, not, ◌&&◌, ◌||◌, List}
use Rattle.std.proofs.Common.{[], ◌∷◌, ◌++◌, map, Option, Some, None, option_map, option_and_then}
use Rattle.std.proofs.Common.{refl, inl, inr}
use Rattle.std.specs.Prelude.{cond, ◌==◌, if◌then◌else◌}
use Rattle.std.specs.Option.{option_map_or}
use Rattle.std.specs.Str.{bytes_eq}
use Rattle.std.proofs.lemmas.Slice.Eq.{bytes_eq-Decides}
use Rattle.std.proofs.lemmas.List.{append-nil, map-append}
use Rattle.clap.specs.Lexer.{long_of, long_of_rest, short_of, short_of_rest, strip_byte}
use Rattle.clap.specs.Walk.{Held, Row as Found, Rule, Walk, arg_by_id, at_row, has_row, idle}
use Rattle.clap.specs.Walk.{more_values, option, reading_by, settled, used, used_by_id, with_values}
use Rattle.clap.specs.Simple.{new_rule}
use Rattle.clap.specs.Takes.{settle_passes, use_passes}
use Rattle.clap.specs.declared.builder.action.ArgAction.TheVariants.{Set}
use Rattle.clap.specs.declared.builder.value_parser.ValueParser.TheVariants as vp
use Rattle.clap.specs.declared.parser.matches.ValueSource.TheVariants.{CommandLine}
use Rattle.command_words.specs.Lines.{Text, Row, Piece, has_piece, is_value}

-- the rules of a built command
abbrev pub value_rule : Text → Rule
value_rule name = record (new_rule name) {
  action = Some Set;
  parser = Some vp.String;
  range = Some (record { start_inclusive = 1; end_inclusive = 1 });
}

abbrev pub option_rule : Text → Rule
option_rule name = record (value_rule name) { long = Some name }

abbrev pub place_rule : Text → Rule
place_rule name = record (value_rule name) { index = Some 1 }

abbrev pub place_rules : Option Text → List Rule
place_rules None = []
place_rules (Some name) = place_rule name ∷ []

abbrev pub rules_of : Row → List Rule
rules_of t = map option_rule t.options ++ place_rules t.place

abbrev pub row_for : Piece → Found
row_for p = record {
  id = p.0;
  values = p.1 ∷ [];
  count = None;
  source = Some CommandLine;
  reading = reading_by (value_rule p.0);
}

abbrev pub rows_for : List Piece → List Found
rows_for = map row_for

-- ---- rows

at_missing : (id : Text) (change : Found → List Found) (missing rows : List Found)
    → has_row id rows ≡ false → at_row id change missing rows ≡ rows ++ missing
at_missing id change missing [] e = refl
at_missing id change missing (r ∷ rs) e = go (bytes_eq r.id id) refl (at_missing id change missing rs)
  where
    go : (b : Bool) → bytes_eq r.id id ≡ b
        → (has_row id rs ≡ false → at_row id change missing rs ≡ rs ++ missing)
        → at_row id change missing (r ∷ rs) ≡ (r ∷ rs) ++ missing
    go true is later = let bad : true ≡ false = sym (ap (λ b. b || has_row id rs) is) ∙ e in cc
    go false is later = ap (λ b. cond b (change r ++ rs) (r ∷ at_row id change missing rs)) is
        ∙ ap (λ l. r ∷ l) (later (sym (ap (λ b. b || has_row id rs) is) ∙ e))

pub rows_have : (id : Text) (pieces : List Piece)
    → has_row id (rows_for pieces) ≡ has_piece id pieces
rows_have id [] = refl
rows_have id (p ∷ ps) = ap (λ b. bytes_eq p.0 id || b) (rows_have id ps)

-- a first use of a rule adds its row
pub used_new : (id v : Text) (pieces : List Piece) → has_piece id pieces ≡ false
    → used (value_rule id) (v ∷ []) (rows_for pieces) ≡ rows_for (pieces ++ (id, v) ∷ [])
used_new id v pieces new =
    let fresh : has_row id (rows_for pieces) ≡ false = rows_have id pieces ∙ new in
    ap (with_values id (reading_by (value_rule id)) CommandLine (v ∷ [])) (at_missing id (λ _. []) [] (rows_for pieces) fresh ∙ append-nil (rows_for pieces))
    ∙ at_missing id (more_values CommandLine (v ∷ [])) (row_for (id, v) ∷ []) (rows_for pieces) fresh
    ∙ sym (map-append row_for pieces ((id, v) ∷ []))

pub use_new : (id v : Text) (pieces : List Piece) → has_piece id pieces ≡ false
    → use_passes false (value_rule id) (v ∷ []) (rows_for pieces) ≡ true
use_new id v pieces new = ap (λ b. (not b || false) && true) (rows_have id pieces ∙ new)

-- ---- where a walk stands between two words

abbrev pub held_for : List Piece → Option Piece → Held
held_for g p = record { rows = rows_for g; pending = option_map (λ q. (q.0, q.1 ∷ [])) p; skip = 0 }

-- no option waits; the last piece may not be used yet
abbrev pub stand : List Piece → Option Piece → ℕ → Walk
stand g p k = record { held = held_for g p; waiting = idle; position = k; is_trailing = false; stopped = None }

abbrev pub held_open : List Piece → Text → Held
held_open g id = record { rows = rows_for g; pending = Some (id, []); skip = 0 }

-- an option waits for its value
abbrev pub wait : List Piece → Text → ℕ → Walk
wait g id k = record { held = held_open g id; waiting = option id; position = k; is_trailing = false; stopped = None }

abbrev pub listed : Option Piece → List Piece
listed None = []
listed (Some p) = p ∷ []

abbrev pub IsKnown : List Rule → Text → Type 0
IsKnown c id = (r : Rule) × (arg_by_id c id ≡ Some r) × ((r ≡ option_rule id) ⊎ (r ≡ place_rule id))

abbrev pub IsPending : List Rule → List Piece → Option Piece → Type 0
IsPending c g None = Unit {0}
IsPending c g (Some p) = IsKnown c p.0 × (has_piece p.0 g ≡ false)

used_known : (id v : Text) (g : List Piece) (r : Rule) → (r ≡ option_rule id) ⊎ (r ≡ place_rule id)
    → has_piece id g ≡ false
    → used r (v ∷ []) (rows_for g) ≡ rows_for (g ++ (id, v) ∷ [])
used_known id v g r (inl e) new = ap (λ (a : Rule). used a (v ∷ []) (rows_for g)) e
    ∙ used_new id v g new
used_known id v g r (inr e) new = ap (λ (a : Rule). used a (v ∷ []) (rows_for g)) e
    ∙ used_new id v g new

use_known : (id v : Text) (g : List Piece) (r : Rule) → (r ≡ option_rule id) ⊎ (r ≡ place_rule id)
    → has_piece id g ≡ false
    → use_passes false r (v ∷ []) (rows_for g) ≡ true
use_known id v g r (inl e) new = ap (λ (a : Rule). use_passes false a (v ∷ []) (rows_for g)) e
    ∙ use_new id v g new
use_known id v g r (inr e) new = ap (λ (a : Rule). use_passes false a (v ∷ []) (rows_for g)) e
    ∙ use_new id v g new

pub settled_is : (c : List Rule) (g : List Piece) (p : Option Piece) → IsPending c g p
    → settled c (held_for g p) ≡ held_for (g ++ listed p) None
settled_is c g None h = ap (λ (l : List Piece). held_for l None) (sym (append-nil g))
settled_is c g (Some p) h =
    ap (λ (o : Option Rule). record { rows = used_by_id o (p.1 ∷ []) (rows_for g); pending = None; skip = 0 }) h.0.1
    ∙ ap (λ (rows : List Found). record { rows = rows; pending = None; skip = 0 }) (used_known p.0 p.1 g h.0.0 h.0.2 h.1)

pub settle_true : (c : List Rule) (g : List Piece) (p : Option Piece) → IsPending c g p
    → settle_passes c false (held_for g p) ≡ true
settle_true c g None h = refl
settle_true c g (Some p) h =
    ap (λ (o : Option Rule). option_map_or (λ a. use_passes false a (p.1 ∷ []) (rows_for g)) o true) h.0.1
    ∙ use_known p.0 p.1 g h.0.0 h.0.2 h.1

-- ---- what a word looks like

abbrev pub dashes : Text
dashes = 45 ∷ 45 ∷ []

pub long_is_no_dashes : (word : Text) (o : Text × Option Text) → long_of word ≡ Some o
    → bytes_eq word dashes ≡ false
long_is_no_dashes word o e = go (bytes_eq word dashes) refl
  where
    go : (b : Bool) → bytes_eq word dashes ≡ b → b ≡ false
    go false is = refl
    go true is = let bad : None ≡ Some o = sym (ap long_of ((bytes_eq-Decides word dashes).0 is))
        ∙ e in cc

pub record IsPlain (word : Text) : Type 0 where
  pub no_dashes : bytes_eq word dashes ≡ false
  pub no_long : long_of word ≡ None
  pub no_short : short_of word ≡ None

pub plain_value : (word : Text) → is_value word ≡ true → IsPlain word
plain_value [] e = let bad : false ≡ true = e in cc
plain_value (x ∷ xs) e = go (x == 45) refl
  where
    go : (b : Bool) → (x == 45) ≡ b → IsPlain (x ∷ xs)
    go true is = let bad : false ≡ true = sym (ap not is) ∙ e in cc
    go false is = record {
      no_dashes = ap (λ b. b && bytes_eq xs (45 ∷ [])) is;
      no_long = ap (λ b. option_and_then long_of_rest (option_and_then (strip_byte 45) (if b then Some xs else None))) is;
      no_short = ap (λ b. option_and_then short_of_rest (if b then Some xs else None)) is;
    }
