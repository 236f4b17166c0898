-- The words of a subcommand: where they are pieces, `clap` takes them, and gives their values.
use Rattle.std.proofs.Common.{◌≡◌, ◌∙◌, ap, ap₂, sym, subst, ℕ, Bool, true, false, not, ◌&&◌, ◌||◌}
use Rattle.std.proofs.Common.{List, [], ◌∷◌, ◌++◌, map, Option, Some, None, option_and_then, refl}
use Rattle.std.proofs.Common.{inl, inr, fold}
use Rattle.std.specs.Prelude.{cond, if◌then◌else◌}
use Rattle.std.specs.Str.{bytes_eq}
use Rattle.std.proofs.lemmas.Slice.Eq.{bytes_eq-Decides}
use Rattle.std.proofs.lemmas.List.Folds.{list_any-append}
use Rattle.std.proofs.lemmas.Bool.{and_from}
use Rattle.std.proofs.lemmas.List.{append-nil}
use Rattle.clap.specs.Lexer.{long_of}
use Rattle.clap.specs.Walk.{Rule, Walk, arg_by_id, arg_by_index, arg_by_long, walked}
use Rattle.clap.specs.Takes.{turn_passes, walk_passes}
use Rattle.command_words.specs.Lines.{Text, Row, Piece, has, has_piece, is_filled, is_value}
use Rattle.command_words.specs.Reading.{State, after_word, ended, idle_with, named, opened}
use Rattle.command_words.specs.Reading.{pieces_from, placed, with_piece}
use Rattle.command_words.proofs.Steps.{IsKnown, IsPending, IsPlain, listed, long_is_no_dashes}
use Rattle.command_words.proofs.Steps.{option_rule, place_rule, place_rules, plain_value, rules_of}
use Rattle.command_words.proofs.Steps.{stand, wait}
use Rattle.command_words.proofs.Turns as turn
use Rattle.command_words.proofs.Turns.{leaf}

-- ---- which rule a name finds

by_long : (names : List Text) (rest : List Rule) (name : Text) → has name names ≡ true
    → arg_by_long (map option_rule names ++ rest) name ≡ Some (option_rule name)
by_long [] rest name e = let bad : false ≡ true = e in cc
by_long (n ∷ names) rest name e = go (bytes_eq n name) refl (by_long names rest name)
  where
    go : (b : Bool) → bytes_eq n name ≡ b
        → (has name names ≡ true → arg_by_long (map option_rule names ++ rest) name ≡ Some (option_rule name))
        → arg_by_long (map option_rule (n ∷ names) ++ rest) name ≡ Some (option_rule name)
    go true is later = ap (λ (b : Bool). cond (b || false) (Some (option_rule n)) (arg_by_long (map option_rule names ++ rest) name)) is
        ∙ ap (λ (m : Text). Some (option_rule m)) ((bytes_eq-Decides n name).0 is)
    go false is later = ap (λ (b : Bool). cond (b || false) (Some (option_rule n)) (arg_by_long (map option_rule names ++ rest) name)) is
        ∙ later (sym (ap (λ (b : Bool). b || has name names) is) ∙ e)

by_id : (names : List Text) (rest : List Rule) (name : Text) → has name names ≡ true
    → arg_by_id (map option_rule names ++ rest) name ≡ Some (option_rule name)
by_id [] rest name e = let bad : false ≡ true = e in cc
by_id (n ∷ names) rest name e = go (bytes_eq n name) refl (by_id names rest name)
  where
    go : (b : Bool) → bytes_eq n name ≡ b
        → (has name names ≡ true → arg_by_id (map option_rule names ++ rest) name ≡ Some (option_rule name))
        → arg_by_id (map option_rule (n ∷ names) ++ rest) name ≡ Some (option_rule name)
    go true is later = ap (λ (b : Bool). cond b (Some (option_rule n)) (arg_by_id (map option_rule names ++ rest) name)) is
        ∙ ap (λ (m : Text). Some (option_rule m)) ((bytes_eq-Decides n name).0 is)
    go false is later = ap (λ (b : Bool). cond b (Some (option_rule n)) (arg_by_id (map option_rule names ++ rest) name)) is
        ∙ later (sym (ap (λ (b : Bool). b || has name names) is) ∙ e)

place_by_id : (names : List Text) (rest : List Rule) (name : Text) → has name names ≡ false
    → arg_by_id (map option_rule names ++ place_rule name ∷ rest) name ≡ Some (place_rule name)
place_by_id [] rest name e = ap (λ (b : Bool). cond b (Some (place_rule name)) (arg_by_id rest name)) ((bytes_eq-Decides name name).1 refl)
place_by_id (n ∷ names) rest name e = go (bytes_eq n name) refl (place_by_id names rest name)
  where
    go : (b : Bool) → bytes_eq n name ≡ b
        → (has name names ≡ false → arg_by_id (map option_rule names ++ place_rule name ∷ rest) name ≡ Some (place_rule name))
        → arg_by_id (map option_rule (n ∷ names) ++ place_rule name ∷ rest) name ≡ Some (place_rule name)
    go true is later = let bad : true ≡ false = sym (ap (λ (b : Bool). b || has name names) is)
        ∙ e in cc
    go false is later = ap (λ (b : Bool). cond b (Some (option_rule n)) (arg_by_id (map option_rule names ++ place_rule name ∷ rest) name)) is
        ∙ later (sym (ap (λ (b : Bool). b || has name names) is) ∙ e)

place_by_index : (names : List Text) (rest : List Rule) (name : Text)
    → arg_by_index (map option_rule names ++ place_rule name ∷ rest) 1 ≡ Some (place_rule name)
place_by_index [] rest name = refl
place_by_index (n ∷ names) rest name = place_by_index names rest name

-- ---- the state of the definition, beside that of the walk

-- the name of the place is no option's
abbrev pub IsApart : Row → Type 0
IsApart t = (name : Text) → t.place ≡ Some name → has name t.options ≡ false

abbrev pub IsFree : Row → List Piece → ℕ → Type 0
IsFree t pieces k = (name : Text) → t.place ≡ Some name → has_piece name pieces ≡ false → k ≡ 1

pub record Idle (t : Row) (pieces : List Piece) (w : Walk) : Type 0 where
  pub g : List Piece
  pub p : Option Piece
  pub k : ℕ
  pub split : pieces ≡ g ++ listed p
  pub at : w ≡ stand g p k
  pub pending : IsPending (rules_of t) g p
  pub free : IsFree t pieces k

pub record Waits (t : Row) (id : Text) (pieces : List Piece) (w : Walk) : Type 0 where
  pub k : ℕ
  pub at : w ≡ wait pieces id k
  pub known : IsKnown (rules_of t) id
  pub free : IsFree t pieces k

abbrev pub Stands : Row → Option Text → List Piece → Walk → Type 0
Stands t None pieces w = Idle t pieces w
Stands t (Some id) pieces w = Waits t id pieces w

-- what a piece that was taken tells
pub record Took (name value : Text) (pieces all : List Piece) : Type 0 where
  pub new : has_piece name pieces ≡ false
  pub good : is_value value ≡ true
  pub all_is : all ≡ pieces ++ (name, value) ∷ []

took : (name value : Text) (pieces all : List Piece) → with_piece name value pieces ≡ Some all
    → Took name value pieces all
took name value pieces all e = go (has_piece name pieces) (is_value value) refl refl
  where
    go : (a b : Bool) → has_piece name pieces ≡ a → is_value value ≡ b → Took name value pieces all
    go true b p q = let bad : None ≡ Some all = sym (ap (λ (x : Bool). if not x && is_value value then Some (pieces ++ (name, value) ∷ []) else None) p)
        ∙ e in cc
    go false false p q = let bad : None ≡ Some all = sym (ap₂ (λ (x y : Bool). if not x && y then Some (pieces ++ (name, value) ∷ []) else None) p q)
        ∙ e in cc
    go false true p q = let same : Some (pieces ++ (name, value) ∷ []) ≡ Some all = sym (ap₂ (λ (x y : Bool). if not x && y then Some (pieces ++ (name, value) ∷ []) else None) p q)
        ∙ e in
        record { new = p; good = q; all_is = cc }

pub took_idle : (name value : Text) (pieces : List Piece) (s : State)
    → idle_with (with_piece name value pieces) ≡ Some s → (s.0 ≡ None) × Took name value pieces s.1
took_idle name value pieces s e = go (with_piece name value pieces) refl
  where
    go : (o : Option (List Piece)) → with_piece name value pieces ≡ o
        → (s.0 ≡ None) × Took name value pieces s.1
    go None is = let bad : None ≡ Some s = sym (ap idle_with is) ∙ e in cc
    go (Some all) is = let same : Some (None, all) ≡ Some s = sym (ap idle_with is) ∙ e in
        let pair : (None, all) ≡ s = cc in
        (sym (ap (λ (x : State). x.0) pair), took name value pieces s.1 (is ∙ ap (λ (x : State). Some x.1) pair))

-- one piece more leaves the place's word free where it was
free_after : (t : Row) (name value : Text) (pieces all : List Piece) (k : ℕ) → IsFree t pieces k
    → all ≡ pieces ++ (name, value) ∷ [] → IsFree t all k
free_after t name value pieces all k free is place at none = free place at (go (has_piece place pieces) refl)
  where
    go : (b : Bool) → has_piece place pieces ≡ b → b ≡ false
    go false e = refl
    go true e =
        let bad : true ≡ false = sym (ap (has_piece place) is ∙ list_any-append (λ (p : Piece). bytes_eq p.0 place) pieces ((name, value) ∷ []) ∙ ap (λ (x : Bool). x || (bytes_eq name place || false)) e)
        ∙ none in
        cc

-- the place's word was taken
place_taken : (t : Row) (name value : Text) (pieces all : List Piece) → t.place ≡ Some name
    → all ≡ pieces ++ (name, value) ∷ [] → IsFree t all 2
place_taken t name value pieces all at is place here none =
    let same : Some name ≡ Some place = sym at ∙ here in
    let eq : name ≡ place = cc in
    let bad : true ≡ false = sym (ap (has_piece place) is ∙ list_any-append (λ (p : Piece). bytes_eq p.0 place) pieces ((name, value) ∷ [])
    ∙ ap (λ (x : Bool). has_piece place pieces || (x || false)) ((bytes_eq-Decides name place).1 eq)
    ∙ or_true (has_piece place pieces)) ∙ none in
    absurd (differ bad)
  where
    or_true : (b : Bool) → (b || (true || false)) ≡ true
    or_true true = refl
    or_true false = refl

    differ : true ≡ false → ⊥
    differ e = cc

-- the pieces at the end are those so far
pub ended_is : (t : Row) (pieces all : List Piece) → ended t None pieces ≡ Some all
    → (pieces ≡ all) × (is_filled t.place pieces ≡ true)
ended_is t pieces all e = go (is_filled t.place pieces) refl
  where
    go : (b : Bool) → is_filled t.place pieces ≡ b
        → (pieces ≡ all) × (is_filled t.place pieces ≡ true)
    go true is = let same : Some pieces ≡ Some all = sym (ap (λ (x : Bool). if x then Some pieces else None) is)
        ∙ e in (cc, is)
    go false is = let bad : None ≡ Some all = sym (ap (λ (x : Bool). if x then Some pieces else None) is)
        ∙ e in cc

-- ---- one word

found_place : (t : Row) (name : Text) → t.place ≡ Some name
    → arg_by_index (rules_of t) 1 ≡ Some (place_rule name)
found_place t name at = ap (λ (o : Option Text). arg_by_index (map option_rule t.options ++ place_rules o) 1) at
    ∙ place_by_index t.options [] name

known_place : (t : Row) (name : Text) → IsApart t → t.place ≡ Some name → IsKnown (rules_of t) name
known_place t name apart at =
    (place_rule name, ap (λ (o : Option Text). arg_by_id (map option_rule t.options ++ place_rules o) name) at ∙ place_by_id t.options [] name (apart name at), inr refl)

known_option : (t : Row) (name : Text) → has name t.options ≡ true → IsKnown (rules_of t) name
known_option t name e = (option_rule name, by_id t.options (place_rules t.place) name e, inl refl)

module _ (name : Text) (t : Row) (apart : IsApart t) where
  abbrev pub c : List Rule
  c = rules_of t

  abbrev Next : Walk → Text → State → Type 0
  Next w word s = Stands t s.0 s.1 (walked c [] w word) × (turn_passes (leaf name c) [] w word ≡ true)

  value_next : (id : Text) (pieces : List Piece) (w : Walk) (word : Text) (s : State)
      → Waits t id pieces w → idle_with (with_piece id word pieces) ≡ Some s → Next w word s
  value_next id pieces w word s h e =
      let got = took_idle id word pieces s e in
      let plain : IsPlain word = plain_value word got.1.good in
      let after : Idle t s.1 (walked c [] w word) = record {
        g = pieces;
        p = Some (id, word);
        k = h.k;
        split = got.1.all_is;
        at = ap (λ (x : Walk). walked c [] x word) h.at
            ∙ turn.value_taken name c pieces h.k word id plain h.known;
        pending = (h.known, got.1.new);
        free = free_after t id word pieces s.1 h.k h.free got.1.all_is;
      } in (
        subst (λ (o : Option Text). Stands t o s.1 (walked c [] w word)) (sym got.0) after,
        ap (λ (x : Walk). turn_passes (leaf name c) [] x word) h.at
            ∙ turn.value_passes name c pieces h.k word id plain h.known,
      )

  place_next : (id : Text) (pieces : List Piece) (w : Walk) (word : Text) (s : State)
      → t.place ≡ Some id → Idle t pieces w
      → idle_with (with_piece id word pieces) ≡ Some s → Next w word s
  place_next id pieces w word s at h e =
      let got = took_idle id word pieces s e in
      let plain : IsPlain word = plain_value word got.1.good in
      let first : h.k ≡ 1 = h.free id at got.1.new in
      let new : has_piece id (h.g ++ listed h.p) ≡ false = sym (ap (has_piece id) h.split)
      ∙ got.1.new in
      let after : Idle t s.1 (walked c [] w word) = record {
        g = h.g ++ listed h.p;
        p = Some (id, word);
        k = 2;
        split = got.1.all_is ∙ ap (λ (l : List Piece). l ++ (id, word) ∷ []) h.split;
        at = ap (λ (x : Walk). walked c [] x word) h.at
            ∙ turn.place name c h.g h.p h.k word h.pending id plain first (found_place t id at);
        pending = (known_place t id apart at, new);
        free = place_taken t id word pieces s.1 at got.1.all_is;
      } in (
        subst (λ (o : Option Text). Stands t o s.1 (walked c [] w word)) (sym got.0) after,
        ap (λ (x : Walk). turn_passes (leaf name c) [] x word) h.at
            ∙ turn.place_passes name c h.g h.p h.k word h.pending id plain first (found_place t id at),
      )

  joined_next : (id v : Text) (pieces : List Piece) (w : Walk) (word : Text) (s : State)
      → long_of word ≡ Some (id, Some v) → has id t.options ≡ true → Idle t pieces w
      → idle_with (with_piece id v pieces) ≡ Some s → Next w word s
  joined_next id v pieces w word s is own h e =
      let got = took_idle id v pieces s e in
      let no : bytes_eq word (45 ∷ 45 ∷ []) ≡ false = long_is_no_dashes word (id, Some v) is in
      let found : arg_by_long c id ≡ Some (option_rule id) = by_long t.options (place_rules t.place) id own in
      let new : has_piece id (h.g ++ listed h.p) ≡ false = sym (ap (has_piece id) h.split)
      ∙ got.1.new in
      let after : Idle t s.1 (walked c [] w word) = record {
        g = (h.g ++ listed h.p) ++ (id, v) ∷ [];
        p = None;
        k = h.k;
        split = got.1.all_is ∙ ap (λ (l : List Piece). l ++ (id, v) ∷ []) h.split
            ∙ sym (append-nil ((h.g ++ listed h.p) ++ (id, v) ∷ []));
        at = ap (λ (x : Walk). walked c [] x word) h.at
            ∙ turn.joined name c h.g h.p h.k word h.pending id v no is found new;
        pending = tt;
        free = free_after t id v pieces s.1 h.k h.free got.1.all_is;
      } in (
        subst (λ (o : Option Text). Stands t o s.1 (walked c [] w word)) (sym got.0) after,
        ap (λ (x : Walk). turn_passes (leaf name c) [] x word) h.at
            ∙ turn.joined_passes name c h.g h.p h.k word h.pending id v no is found new,
      )

  opened_next : (id : Text) (pieces : List Piece) (w : Walk) (word : Text) (s : State)
      → long_of word ≡ Some (id, None) → has id t.options ≡ true → Idle t pieces w
      → Some (Some id, pieces) ≡ Some s → Next w word s
  opened_next id pieces w word s is own h e =
      let pair : (Some id, pieces) ≡ s = cc in
      let no : bytes_eq word (45 ∷ 45 ∷ []) ≡ false = long_is_no_dashes word (id, None) is in
      let found : arg_by_long c id ≡ Some (option_rule id) = by_long t.options (place_rules t.place) id own in
      let after : Waits t id pieces (walked c [] w word) = record {
        k = h.k;
        at = ap (λ (x : Walk). walked c [] x word) h.at
            ∙ turn.opened name c h.g h.p h.k word h.pending id no is found
            ∙ ap (λ (l : List Piece). wait l id h.k) (sym h.split);
        known = known_option t id own;
        free = h.free;
      } in
      subst (Next w word) pair (after, ap (λ (x : Walk). turn_passes (leaf name c) [] x word) h.at ∙ turn.opened_passes name c h.g h.p h.k word h.pending id no is found)

  named_next : (id : Text) (value : Option Text) (pieces : List Piece) (w : Walk) (word : Text) (s : State)
      → long_of word ≡ Some (id, value) → has id t.options ≡ true → Idle t pieces w
      → named value id pieces ≡ Some s → Next w word s
  named_next id None pieces w word s is own h e = opened_next id pieces w word s is own h e
  named_next id (Some v) pieces w word s is own h e = joined_next id v pieces w word s is own h e

  option_next : (o : Text × Option Text) (pieces : List Piece) (w : Walk) (word : Text) (s : State)
      → long_of word ≡ Some o → Idle t pieces w
      → opened t (Some o) word pieces ≡ Some s → Next w word s
  option_next o pieces w word s is h e = go (has o.0 t.options) refl
    where
      go : (b : Bool) → has o.0 t.options ≡ b → Next w word s
      go true own = named_next o.0 o.1 pieces w word s is own h (sym (ap (λ (b : Bool). if b then named o.1 o.0 pieces else None) own) ∙ e)
      go false own = let bad : None ≡ Some s = sym (ap (λ (b : Bool). if b then named o.1 o.0 pieces else None) own)
          ∙ e in cc

  plain_next : (pieces : List Piece) (w : Walk) (word : Text) (s : State) → Idle t pieces w
      → placed t.place word pieces ≡ Some s → Next w word s
  plain_next pieces w word s h e = go t.place refl
    where
      go : (o : Option Text) → t.place ≡ o → Next w word s
      go None at = let bad : None ≡ Some s = sym (ap (λ (o : Option Text). placed o word pieces) at)
          ∙ e in cc
      go (Some id) at = place_next id pieces w word s at h (sym (ap (λ (o : Option Text). placed o word pieces) at) ∙ e)

  step : (waiting : Option Text) (pieces : List Piece) (w : Walk) (word : Text) (s : State)
      → Stands t waiting pieces w → after_word t waiting word pieces ≡ Some s → Next w word s
  step (Some id) pieces w word s h e = value_next id pieces w word s h e
  step None pieces w word s h e = go (long_of word) refl
    where
      go : (o : Option (Text × Option Text)) → long_of word ≡ o → Next w word s
      go None is = plain_next pieces w word s h (sym (ap (λ (o : Option (Text × Option Text)). opened t o word pieces) is) ∙ e)
      go (Some o) is = option_next o pieces w word s is h (sym (ap (λ (o : Option (Text × Option Text)). opened t o word pieces) is) ∙ e)

  -- ---- all the words

  abbrev pub Through : List Text → Walk → List Piece → Type 0
  Through words w all = Idle t all (fold (walked c []) w words) × (walk_passes (leaf name c) [] w words ≡ true)

  pub follow : (words : List Text) (waiting : Option Text) (pieces all : List Piece) (w : Walk)
      → Stands t waiting pieces w → pieces_from t waiting pieces words ≡ Some all
      → Through words w all
  unfolding walk_passes
  follow [] None pieces all w h e = (subst (λ (l : List Piece). Idle t l w) (ended_is t pieces all e).0 h, refl)
  follow [] (Some id) pieces all w h e = cc
  follow (word ∷ rest) waiting pieces all w h e = go (after_word t waiting word pieces) refl (λ o q v. follow rest o q all v)
    where
      go : (o : Option State) → after_word t waiting word pieces ≡ o
          → ((o : Option Text) (q : List Piece) (v : Walk) → Stands t o q v → pieces_from t o q rest ≡ Some all → Through rest v all)
          → Through (word ∷ rest) w all
      go None is later = let bad : None ≡ Some all = sym (ap (option_and_then (λ (s : State). pieces_from t s.0 s.1 rest)) is)
          ∙ e in cc
      go (Some s) is later =
          let next = step waiting pieces w word s h is in
          let end = later s.0 s.1 (walked c [] w word) next.0 (sym (ap (option_and_then (λ (s : State). pieces_from t s.0 s.1 rest)) is) ∙ e) in
          (end.0, and_from _ _ next.1 end.1)
