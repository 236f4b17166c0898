-- Token by token.
use Rattle.std.proofs.Common.{◌≡◌, ◌-◌, ◌∷◌, [], length, Some, None, option_map, refl, sym, ap, ap₂, subst, ◌∙◌, arith}
use Rattle.std.proofs.lemmas.Result.{on_ok_weaker}
use Rattle.json.specs.Json as json
use Rattle.json.specs.Json.{parse_map, after_end_array, read_key, items, members, value}
use Rattle.json.specs.Reads.{token_of}
use Rattle.json.specs.Token.{Token}
use Rattle.json.proofs.Grammar.{value_is, value-begin_array, value-begin_object, read_key-shorter}
use Rattle.serde_json.specs.Data.{null, boolean, number, string, array, object, item, no_members, put}
use Rattle.serde_json.specs.Read.{of_json, converted, number_of}
use Rattle.json_trees.specs.Copied.{Copies}
use Rattle.json_trees.proofs.OfKept.CopyLemmas.{none_found, one_found, one_token, array_copied, object_copied, items_closed, item_copied, members_closed, member_copied}
use Rattle.json_trees.proofs.OfKept.ReadLemmas.{read_converted, read_shorter}
use Rattle.json_trees.proofs.OfKept.GrammarLemmas.{converted-array, converted-object, item_read, item_refused, member_read, member_refused, key_refused}
use Rattle.json_trees.proofs.kept.copies.+copies.Goals as goal

pub copy_value-returns-in_err-token-clause-refused : goal.copy_value-returns-in_err-token-clause-refused
copy_value-returns-in_err-token-clause-refused t c refused =
    let empty : c.args.reader.now ≡ [] = grind arith in
    ap (converted of_json) (ap (value c.args.depth) empty ∙ value_is c.args.depth [])

pub copy_value-returns-then-depth-eq0-clause-refused : goal.copy_value-returns-then-depth-eq0-clause-refused
unfolding value
copy_value-returns-then-depth-eq0-clause-refused t c never =
    let first : c.args.reader.now ≡ token_of c.in_ok-token.token ∷ c.next.new.self = grind arith in
    let none : c.args.depth ≡ 0 = omega arith in
    ap (converted of_json) (ap₂ value none (first ∙ ap (λ k. token_of k ∷ c.next.new.self) c.in-BeginArray.is))

pub copy_value-returns-then-depth-eq0-2-clause-refused : goal.copy_value-returns-then-depth-eq0-2-clause-refused
unfolding value
copy_value-returns-then-depth-eq0-2-clause-refused t c never =
    let first : c.args.reader.now ≡ token_of c.in_ok-token.token ∷ c.next.new.self = grind arith in
    let none : c.args.depth ≡ 0 = omega arith in
    ap (converted of_json) (ap₂ value none (first ∙ ap (λ k. token_of k ∷ c.next.new.self) c.in-BeginObject.is))

pub copy_value-returns-then-not-has_number-clause-refused : goal.copy_value-returns-then-not-has_number-clause-refused
copy_value-returns-then-not-has_number-clause-refused t c refused =
    let first : c.args.reader.now ≡ token_of c.in_ok-token.token ∷ c.next.new.self = grind arith in
    let is : c.args.reader.now ≡ Token.number c.in-Number.text.now ∷ c.next.new.self = grind (arith, first) in
    let none : number_of c.in-Number.text.now ≡ None = none_found (number_of c.in-Number.text.now) (sym c.has_number.ensures ∙ c.if-not-has_number.true) in
    ap (converted of_json) (ap (value c.args.depth) is ∙ value_is c.args.depth _) ∙ rw none refl

pub copy_value-returns-in_ok-number-in-Number-clause-copied : goal.copy_value-returns-in_ok-number-in-Number-clause-copied
copy_value-returns-in_ok-number-in-Number-clause-copied t c =
    let first : c.args.reader.now ≡ token_of c.in_ok-token.token ∷ c.next.new.self = grind arith in
    let is : c.args.reader.now ≡ Token.number c.in-Number.text.now ∷ c.next.new.self = grind (arith, first) in
    let s = c.in-Number.text.now in
    let found = one_found (number_of s) (sym c.has_number.ensures ∙ c.if-not-has_number.false) in
    one_token c.args.depth (json.number s) (number found.0) (Token.number s) _ _ _ _ refl refl (ap (option_map number) found.1) tt is c.in_ok-number-in-Number.ensures.ok c.number.ensures.room.0

pub copy_value-returns-in_ok-copy_string-in-String-clause-copied : goal.copy_value-returns-in_ok-copy_string-in-String-clause-copied
copy_value-returns-in_ok-copy_string-in-String-clause-copied t c =
    let first : c.args.reader.now ≡ token_of c.in_ok-token.token ∷ c.next.new.self = grind arith in
    let is : c.args.reader.now ≡ Token.string c.in-String.text.now ∷ c.next.new.self = grind (arith, first) in
    let s = c.in-String.text.now in
    one_token c.args.depth (json.string s) (string s) (Token.string s) _ _ _ _ refl refl refl c.copy_string.ensures.utf8 is c.in_ok-copy_string-in-String.ensures.written.ok c.copy_string.ensures.written.room.0

pub copy_value-returns-in_ok-boolean-in-Bool-clause-copied : goal.copy_value-returns-in_ok-boolean-in-Bool-clause-copied
copy_value-returns-in_ok-boolean-in-Bool-clause-copied t c =
    let first : c.args.reader.now ≡ token_of c.in_ok-token.token ∷ c.next.new.self = grind arith in
    let is : c.args.reader.now ≡ Token.boolean c.in-Bool.b ∷ c.next.new.self = grind (arith, first) in
    let b = c.in-Bool.b in
    one_token c.args.depth (json.boolean b) (boolean b) (Token.boolean b) _ _ _ _ refl refl refl tt is c.in_ok-boolean-in-Bool.ensures.ok c.boolean.ensures.room.0

pub copy_value-returns-in_ok-null-in-Null-clause-copied : goal.copy_value-returns-in_ok-null-in-Null-clause-copied
copy_value-returns-in_ok-null-in-Null-clause-copied t c =
    let first : c.args.reader.now ≡ token_of c.in_ok-token.token ∷ c.next.new.self = grind arith in
    let is : c.args.reader.now ≡ Token.null ∷ c.next.new.self = grind (arith, first) in
    one_token c.args.depth json.null null Token.null _ _ _ _ refl refl refl tt is c.in_ok-null-in-Null.ensures.ok c.null.ensures.room.0

pub copy_value-returns-in-EndObject-clause-refused : goal.copy_value-returns-in-EndObject-clause-refused
copy_value-returns-in-EndObject-clause-refused t c refused =
    let first : c.args.reader.now ≡ token_of c.in_ok-token.token ∷ c.next.new.self = grind arith in
    let none : value c.args.depth c.args.reader.now ≡ None = rw (value_is c.args.depth c.args.reader.now, first) (grind arith) in
    ap (converted of_json) none

pub copy_value-returns-in_ok-begin_array-in-BeginArray-clause-copied : goal.copy_value-returns-in_ok-begin_array-in-BeginArray-clause-copied
copy_value-returns-in_ok-begin_array-in-BeginArray-clause-copied t c =
    let first : c.args.reader.now ≡ token_of c.in_ok-token.token ∷ c.next.new.self = grind arith in
    let is = first ∙ ap (λ k. token_of k ∷ c.next.new.self) c.in-BeginArray.is in
    on_ok_weaker c.copy_items.result (λ h. array_copied c.args.depth c.args.reader.now c.next.new.self _ _ _ _ (omega arith) is c.in_ok-begin_array-in-BeginArray.ensures.ok c.begin_array.ensures.room.0 h) c.copy_items.ensures.copied

pub copy_value-returns-in_ok-begin_array-in-BeginArray-clause-refused : goal.copy_value-returns-in_ok-begin_array-in-BeginArray-clause-refused
copy_value-returns-in_ok-begin_array-in-BeginArray-clause-refused t c refused =
    let first : c.args.reader.now ≡ token_of c.in_ok-token.token ∷ c.next.new.self = grind arith in
    let opened = ap (converted of_json) (ap (value c.args.depth) (first ∙ ap (λ k. token_of k ∷ c.next.new.self) c.in-BeginArray.is) ∙ value-begin_array c.args.depth c.next.new.self (omega arith)) ∙ converted-array (items (value (c.args.depth - 1)) (length c.next.new.self) c.next.new.self) in
    opened ∙ ap (parse_map array) (c.copy_items.ensures.refused refused)

pub copy_value-returns-in_ok-begin_object-in-BeginObject-clause-copied : goal.copy_value-returns-in_ok-begin_object-in-BeginObject-clause-copied
copy_value-returns-in_ok-begin_object-in-BeginObject-clause-copied t c =
    let first : c.args.reader.now ≡ token_of c.in_ok-token.token ∷ c.next.new.self = grind arith in
    let is = first ∙ ap (λ k. token_of k ∷ c.next.new.self) c.in-BeginObject.is in
    on_ok_weaker c.copy_members.result (λ h. object_copied c.args.depth c.args.reader.now c.next.new.self _ _ _ _ (omega arith) is c.in_ok-begin_object-in-BeginObject.ensures.ok c.begin_object.ensures.room.0 h) c.copy_members.ensures.copied

pub copy_value-returns-in_ok-begin_object-in-BeginObject-clause-refused : goal.copy_value-returns-in_ok-begin_object-in-BeginObject-clause-refused
copy_value-returns-in_ok-begin_object-in-BeginObject-clause-refused t c refused =
    let first : c.args.reader.now ≡ token_of c.in_ok-token.token ∷ c.next.new.self = grind arith in
    let opened = ap (converted of_json) (ap (value c.args.depth) (first ∙ ap (λ k. token_of k ∷ c.next.new.self) c.in-BeginObject.is) ∙ value-begin_object c.args.depth c.next.new.self (omega arith)) ∙ converted-object (members (value (c.args.depth - 1)) (length c.next.new.self) c.next.new.self) in
    opened ∙ ap (parse_map object) (c.copy_members.ensures.refused refused no_members)

pub copy_items-items-smaller : goal.copy_items-items-smaller
copy_items-items-smaller t c =
    let l = c.items in
    let going : (after_end_array l.reader ≡ None) × (c.take_end_array.new.self ≡ l.reader) = grind arith in
    omega (arith, read_shorter c.args.depth _ _ _ c.in_ok-copy_value.ensures.copied.read, ap length going.1)

pub copy_items-items-preserved : goal.copy_items-items-preserved
copy_items-items-preserved t c =
    let l = c.items in
    let p = value c.args.depth in
    let going : (after_end_array l.reader ≡ None) × (c.take_end_array.new.self ≡ l.reader) = grind arith in
    let here = subst (λ ts. Copies c.args.depth ts c.copy_value.new.reader l.writer c.copy_value.new.writer) going.1 c.in_ok-copy_value.ensures.copied in
    let n = l.invariant.refused.0 in
    let less = read_shorter c.args.depth _ _ _ here.read in
    let turn = item_read p n l.reader c.copy_value.new.reader here.tree (omega (arith, l.invariant.refused.1, less)) going.0 (read_converted c.args.depth _ _ _ here.read) in
    record {
      copied = λ rest new h. l.invariant.copied rest new (item_copied c.args.depth _ _ rest _ _ new here h);
      refused = (n - 1, omega (arith, l.invariant.refused.1, less), λ none. l.invariant.refused.2 (turn ∙ ap (parse_map (item here.tree)) none));
    }

pub copy_items-returns-in_err-copy_value-clause-refused : goal.copy_items-returns-in_err-copy_value-clause-refused
copy_items-returns-in_err-copy_value-clause-refused t c refused =
    let l = c.items in
    let p = value c.args.depth in
    let going : (after_end_array l.reader ≡ None) × (c.take_end_array.new.self ≡ l.reader) = grind arith in
    l.invariant.refused.2 (item_refused p l.invariant.refused.0 l.reader going.0 (rw (← going.1) (c.copy_value.ensures.refused (grind arith))))

pub copy_items-returns-clause-copied : goal.copy_items-returns-clause-copied
copy_items-returns-clause-copied t c =
    let l = c.items in
    l.invariant.copied _ _ (items_closed c.args.depth l.reader _ l.writer _ (grind arith) c.in_ok-end_array.ensures.ok c.end_array.ensures.room.0)

pub copy_members-returns-in_err-key-clause-refused : goal.copy_members-returns-in_err-key-clause-refused
copy_members-returns-in_err-key-clause-refused t c refused old =
    let l = c.members in
    l.invariant.refused.2 (λ before. key_refused (value c.args.depth) before l.invariant.refused.0 l.reader c.in_err-key.ensures.value) old

pub copy_members-members-preserved : goal.copy_members-members-preserved
copy_members-members-preserved t c =
    let l = c.members in
    let p = value c.args.depth in
    let k = c.in-Some.key.now in
    let s = c.next_key.new.self in
    let named : read_key l.reader ≡ Some (Some c.in-Some.key.now, c.next_key.new.self) = grind arith in
    let here = c.in_ok-copy_value.ensures.copied in
    let n = l.invariant.refused.0 in
    let less = read_shorter c.args.depth _ _ _ here.read in
    let lesser = read_key-shorter l.reader (Some k) s named in
    record {
      copied = λ rest new h. l.invariant.copied rest new (member_copied c.args.depth k _ s _ rest _ c.key.new.self _ new named c.in_ok-key-2.ensures.ok c.key.ensures.room.0 here h);
      refused = (
        n - 1,
        omega (arith, l.invariant.refused.1, less, lesser),
        λ none. l.invariant.refused.2 (λ old. member_read p old n k l.reader s c.copy_value.new.reader here.tree (omega (arith, l.invariant.refused.1, lesser)) named (read_converted c.args.depth _ _ _ here.read) ∙ none (put k here.tree old)),
      );
    }

pub copy_members-returns-in_err-copy_value-clause-refused : goal.copy_members-returns-in_err-copy_value-clause-refused
copy_members-returns-in_err-copy_value-clause-refused t c refused old =
    let l = c.members in
    let p = value c.args.depth in
    let k = c.in-Some.key.now in
    let s = c.next_key.new.self in
    let named : read_key l.reader ≡ Some (Some c.in-Some.key.now, c.next_key.new.self) = grind arith in
    l.invariant.refused.2 (λ before. member_refused p before l.invariant.refused.0 k l.reader s named (c.copy_value.ensures.refused (grind arith))) old

pub copy_members-returns-clause-copied : goal.copy_members-returns-clause-copied
copy_members-returns-clause-copied t c =
    let l = c.members in
    let closed : read_key l.reader ≡ Some (None, c.next_key.new.self) = grind arith in
    l.invariant.copied _ _ (members_closed c.args.depth l.reader _ l.writer _ closed c.in_ok-end_object.ensures.ok c.end_object.ensures.room.0)
