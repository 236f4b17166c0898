-- Token by token.
use Rattle.std.proofs.Common.{◌≡◌, ◌-◌, ◌∷◌, [], length, Some, None, option_map, refl, sym, ap, ap₂, subst, ◌∙◌, arith}
use Rattle.std.proofs.lemmas.Result.{on_ok_weaker}
use Rattle.json.specs.Json as json
use Rattle.json.specs.Json.{parse_map, after_end_array, read_key, items, members, value}
use Rattle.json.specs.Reads.{token_of}
use Rattle.json.specs.Token.{Token}
use Rattle.json.proofs.Grammar.{value_is, value-begin_array, value-begin_object, read_key-shorter}
use Rattle.serde_json.specs.Data.{null, boolean, number, string, array, object, item, no_items, no_members, put}
use Rattle.serde_json.specs.Read.{of_json, converted, number_of}
use Rattle.json_trees.specs.Copied.{Reads}
use Rattle.json_trees.proofs.OfKept.CopyLemmas.{none_found, one_found}
use Rattle.json_trees.proofs.OfKept.ReadLemmas.{one_read, array_read, object_read, items_ended, item_before, members_ended, member_before, read_converted, read_shorter}
use Rattle.json_trees.proofs.OfKept.GrammarLemmas.{converted-array, converted-object, item_read, item_refused, member_read, member_refused, key_refused}
use Rattle.json_trees.proofs.kept.checks.+checks.Goals as goal

pub check_value-returns-in_err-token-clause-refused : goal.check_value-returns-in_err-token-clause-refused
check_value-returns-in_err-token-clause-refused t c refused =
    let empty : c.args.reader.now ≡ [] = grind arith in
    ap (converted of_json) (ap (value c.args.depth) empty ∙ value_is c.args.depth [])

pub check_value-returns-then-depth-eq0-clause-refused : goal.check_value-returns-then-depth-eq0-clause-refused
unfolding value
check_value-returns-then-depth-eq0-clause-refused t c never =
    let first : c.args.reader.now ≡ token_of c.in_ok-token.token ∷ c.next.new.self = grind arith in
    let none : c.args.depth ≡ 0 = omega arith in
    ap (converted of_json) (ap₂ value none (first ∙ ap (λ k. token_of k ∷ c.next.new.self) c.in-BeginArray.is))

pub check_value-returns-then-depth-eq0-2-clause-refused : goal.check_value-returns-then-depth-eq0-2-clause-refused
unfolding value
check_value-returns-then-depth-eq0-2-clause-refused t c never =
    let first : c.args.reader.now ≡ token_of c.in_ok-token.token ∷ c.next.new.self = grind arith in
    let none : c.args.depth ≡ 0 = omega arith in
    ap (converted of_json) (ap₂ value none (first ∙ ap (λ k. token_of k ∷ c.next.new.self) c.in-BeginObject.is))

pub check_value-returns-then-not-has_number-clause-refused : goal.check_value-returns-then-not-has_number-clause-refused
check_value-returns-then-not-has_number-clause-refused t c refused =
    let first : c.args.reader.now ≡ token_of c.in_ok-token.token ∷ c.next.new.self = grind arith in
    let is : c.args.reader.now ≡ Token.number c.in-Number.text.now ∷ c.next.new.self = grind (arith, first) in
    let none : number_of c.in-Number.text.now ≡ None = none_found (number_of c.in-Number.text.now) (sym c.has_number.ensures ∙ c.if-not-has_number.true) in
    ap (converted of_json) (ap (value c.args.depth) is ∙ value_is c.args.depth _) ∙ rw none refl

pub check_value-returns-else-not-has_number-clause-read : goal.check_value-returns-else-not-has_number-clause-read
check_value-returns-else-not-has_number-clause-read t c =
    let first : c.args.reader.now ≡ token_of c.in_ok-token.token ∷ c.next.new.self = grind arith in
    let is : c.args.reader.now ≡ Token.number c.in-Number.text.now ∷ c.next.new.self = grind (arith, first) in
    let s = c.in-Number.text.now in
    let found = one_found (number_of s) (sym c.has_number.ensures ∙ c.if-not-has_number.false) in
    (number found.0, one_read c.args.depth (json.number s) (number found.0) (Token.number s) _ _ refl refl (ap (option_map number) found.1) is)

pub check_value-returns-in-String-clause-read : goal.check_value-returns-in-String-clause-read
check_value-returns-in-String-clause-read t c =
    let first : c.args.reader.now ≡ token_of c.in_ok-token.token ∷ c.next.new.self = grind arith in
    let is : c.args.reader.now ≡ Token.string c.in-String.field-0.now ∷ c.next.new.self = grind (arith, first) in
    let s = c.in-String.field-0.now in
    (string s, one_read c.args.depth (json.string s) (string s) (Token.string s) _ _ refl refl refl is)

pub check_value-returns-in-Bool-clause-read : goal.check_value-returns-in-Bool-clause-read
check_value-returns-in-Bool-clause-read t c =
    let first : c.args.reader.now ≡ token_of c.in_ok-token.token ∷ c.next.new.self = grind arith in
    let is : c.args.reader.now ≡ Token.boolean c.in-Bool.field-0 ∷ c.next.new.self = grind (arith, first) in
    let b = c.in-Bool.field-0 in
    (boolean b, one_read c.args.depth (json.boolean b) (boolean b) (Token.boolean b) _ _ refl refl refl is)

pub check_value-returns-in-Null-clause-read : goal.check_value-returns-in-Null-clause-read
check_value-returns-in-Null-clause-read t c =
    let first : c.args.reader.now ≡ token_of c.in_ok-token.token ∷ c.next.new.self = grind arith in
    let is : c.args.reader.now ≡ Token.null ∷ c.next.new.self = grind (arith, first) in
    (null, one_read c.args.depth json.null null Token.null _ _ refl refl refl is)

pub check_value-returns-in-EndObject-clause-refused : goal.check_value-returns-in-EndObject-clause-refused
check_value-returns-in-EndObject-clause-refused t c refused =
    let first : c.args.reader.now ≡ token_of c.in_ok-token.token ∷ c.next.new.self = grind arith in
    let none : value c.args.depth c.args.reader.now ≡ None = rw (value_is c.args.depth c.args.reader.now, first) (grind arith) in
    ap (converted of_json) none

pub check_value-returns-else-depth-eq0-clause-read : goal.check_value-returns-else-depth-eq0-clause-read
check_value-returns-else-depth-eq0-clause-read t c =
    let first : c.args.reader.now ≡ token_of c.in_ok-token.token ∷ c.next.new.self = grind arith in
    let is = first ∙ ap (λ k. token_of k ∷ c.next.new.self) c.in-BeginArray.is in
    on_ok_weaker c.check_items.result (λ h. (array h.0, array_read c.args.depth c.args.reader.now c.next.new.self _ h.0 (omega arith) is h.1)) c.check_items.ensures.read

pub check_value-returns-else-depth-eq0-clause-refused : goal.check_value-returns-else-depth-eq0-clause-refused
check_value-returns-else-depth-eq0-clause-refused t c refused =
    let first : c.args.reader.now ≡ token_of c.in_ok-token.token ∷ c.next.new.self = grind arith in
    let opened = ap (converted of_json) (ap (value c.args.depth) (first ∙ ap (λ k. token_of k ∷ c.next.new.self) c.in-BeginArray.is) ∙ value-begin_array c.args.depth c.next.new.self (omega arith)) ∙ converted-array (items (value (c.args.depth - 1)) (length c.next.new.self) c.next.new.self) in
    opened ∙ ap (parse_map array) (c.check_items.ensures.refused refused)

pub check_value-returns-else-depth-eq0-2-clause-read : goal.check_value-returns-else-depth-eq0-2-clause-read
check_value-returns-else-depth-eq0-2-clause-read t c =
    let first : c.args.reader.now ≡ token_of c.in_ok-token.token ∷ c.next.new.self = grind arith in
    let is = first ∙ ap (λ k. token_of k ∷ c.next.new.self) c.in-BeginObject.is in
    on_ok_weaker c.check_members.result (λ h. (object (h.reads no_members).0, object_read c.args.depth c.args.reader.now c.next.new.self _ (omega arith) is h)) c.check_members.ensures.read

pub check_value-returns-else-depth-eq0-2-clause-refused : goal.check_value-returns-else-depth-eq0-2-clause-refused
check_value-returns-else-depth-eq0-2-clause-refused t c refused =
    let first : c.args.reader.now ≡ token_of c.in_ok-token.token ∷ c.next.new.self = grind arith in
    let opened = ap (converted of_json) (ap (value c.args.depth) (first ∙ ap (λ k. token_of k ∷ c.next.new.self) c.in-BeginObject.is) ∙ value-begin_object c.args.depth c.next.new.self (omega arith)) ∙ converted-object (members (value (c.args.depth - 1)) (length c.next.new.self) c.next.new.self) in
    opened ∙ ap (parse_map object) (c.check_members.ensures.refused refused no_members)

pub check_items-items-smaller : goal.check_items-items-smaller
check_items-items-smaller t c =
    let l = c.items in
    let going : (after_end_array l.reader ≡ None) × (c.take_end_array.new.self ≡ l.reader) = grind arith in
    omega (arith, read_shorter c.args.depth _ _ _ c.in_ok-check_value.ensures.read.1, ap length going.1)

pub check_items-items-preserved : goal.check_items-items-preserved
check_items-items-preserved t c =
    let l = c.items in
    let p = value c.args.depth in
    let going : (after_end_array l.reader ≡ None) × (c.take_end_array.new.self ≡ l.reader) = grind arith in
    let d = c.in_ok-check_value.ensures.read.0 in
    let here = subst (λ ts. Reads c.args.depth ts d c.check_value.new.reader) going.1 c.in_ok-check_value.ensures.read.1 in
    let n = l.invariant.refused.0 in
    let less = read_shorter c.args.depth _ _ _ here in
    let turn = item_read p n l.reader c.check_value.new.reader d (omega (arith, l.invariant.refused.1, less)) going.0 (read_converted c.args.depth _ _ _ here) in
    record {
      read = λ trees rest h. l.invariant.read (item d trees) rest (item_before c.args.depth _ _ rest d trees here h);
      refused = (n - 1, omega (arith, l.invariant.refused.1, less), λ none. l.invariant.refused.2 (turn ∙ ap (parse_map (item d)) none));
    }

pub check_items-returns-in_err-check_value-clause-refused : goal.check_items-returns-in_err-check_value-clause-refused
check_items-returns-in_err-check_value-clause-refused t c refused =
    let l = c.items in
    let p = value c.args.depth in
    let going : (after_end_array l.reader ≡ None) × (c.take_end_array.new.self ≡ l.reader) = grind arith in
    l.invariant.refused.2 (item_refused p l.invariant.refused.0 l.reader going.0 (rw (← going.1) (c.check_value.ensures.refused (grind arith))))

pub check_items-returns-clause-read : goal.check_items-returns-clause-read
check_items-returns-clause-read t c =
    let l = c.items in
    l.invariant.read no_items _ (items_ended c.args.depth l.reader _ (grind arith))

pub check_members-returns-in_err-_key-clause-refused : goal.check_members-returns-in_err-_key-clause-refused
check_members-returns-in_err-_key-clause-refused t c refused old =
    let l = c.members in
    l.invariant.refused.2 (λ before. key_refused (value c.args.depth) before l.invariant.refused.0 l.reader c.in_err-_key.ensures.value) old

pub check_members-members-smaller : goal.check_members-members-smaller
check_members-members-smaller t c =
    let l = c.members in
    let named : read_key l.reader ≡ Some (Some c.in-Some._key.now, c.next_key.new.self) = grind arith in
    omega (arith, read_shorter c.args.depth _ _ _ c.in_ok-check_value.ensures.read.1, read_key-shorter l.reader _ _ named)

pub check_members-members-preserved : goal.check_members-members-preserved
check_members-members-preserved t c =
    let l = c.members in
    let p = value c.args.depth in
    let k = c.in-Some._key.now in
    let s = c.next_key.new.self in
    let named : read_key l.reader ≡ Some (Some c.in-Some._key.now, c.next_key.new.self) = grind arith in
    let d = c.in_ok-check_value.ensures.read.0 in
    let here = c.in_ok-check_value.ensures.read.1 in
    let n = l.invariant.refused.0 in
    let less = read_shorter c.args.depth _ _ _ here in
    let lesser = read_key-shorter l.reader (Some k) s named in
    record {
      read = λ rest h. l.invariant.read rest (member_before c.args.depth k _ s _ rest d named here h);
      refused = (
        n - 1,
        omega (arith, l.invariant.refused.1, less, lesser),
        λ none. l.invariant.refused.2 (λ old. member_read p old n k l.reader s c.check_value.new.reader d (omega (arith, l.invariant.refused.1, lesser)) named (read_converted c.args.depth _ _ _ here) ∙ none (put k d old)),
      );
    }

pub check_members-returns-in_err-check_value-clause-refused : goal.check_members-returns-in_err-check_value-clause-refused
check_members-returns-in_err-check_value-clause-refused t c refused old =
    let l = c.members in
    let p = value c.args.depth in
    let k = c.in-Some._key.now in
    let s = c.next_key.new.self in
    let named : read_key l.reader ≡ Some (Some c.in-Some._key.now, c.next_key.new.self) = grind arith in
    l.invariant.refused.2 (λ before. member_refused p before l.invariant.refused.0 k l.reader s named (c.check_value.ensures.refused (grind arith))) old

pub check_members-returns-clause-read : goal.check_members-returns-clause-read
check_members-returns-clause-read t c =
    let l = c.members in
    let closed : read_key l.reader ≡ Some (None, c.next_key.new.self) = grind arith in
    l.invariant.read _ (members_ended c.args.depth l.reader _ closed)
