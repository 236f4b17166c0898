use Rattle.std.proofs.Common.{◌≡◌, ◌∷◌, ◌++◌, ◌+◌, ◌≤◌, [], length, length-append, reverse, vec_capacity, vec_len, refl, sym, ap, ◌∙◌, arith}
use Rattle.std.proofs.lemmas.List.{append-nil, append_assoc, reverse-append}
use Rattle.hall.proofs.sharing.taken_out.Goals as goal

pub owners-init : goal.owners-init
owners-init c =
    let owners = c.args.owners.now.owners in
    let none : vec_len c.in_ok-taken.taken ≡ 0 = c.in_ok-taken.ensures.len in
    let cap : c.len.result ≤ vec_capacity c.in_ok-taken.taken = c.in_ok-taken.ensures.capacity in
    let count : c.len.result ≡ length owners = c.len.ensures in record {
      all = sym (ap (λ xs. owners ++ reverse xs) c.in_ok-taken.ensures.items ∙ append-nil owners);
      room = refl;
      fits = omega arith;
    }

pub push_reserved-requires : goal.push_reserved-requires
push_reserved-requires c =
    let fits = c.owners.invariant.fits in
    let left = c.pop.new.self.owners in
    let gone : length c.owners.owners.owners ≡ length left + 1 = ap length c.in-Some.ensures.owners ∙ length-append left (c.in-Some.owner ∷ []) in
    omega arith

pub owners-preserved : goal.owners-preserved
owners-preserved c =
    let i = c.owners.invariant in
    let left = c.pop.new.self.owners in
    let owner = c.in-Some.owner in
    let taken = c.owners.taken.items in
    let fits = i.fits in
    let gone : length c.owners.owners.owners ≡ length left + 1 = ap length c.in-Some.ensures.owners ∙ length-append left (owner ∷ []) in
    let more : vec_len c.push_reserved.new.self ≡ vec_len c.owners.taken + 1 = c.push_reserved.ensures.len in
    let cap : vec_capacity c.push_reserved.new.self ≡ vec_capacity c.owners.taken = c.push_reserved.ensures.capacity in record {
      all = i.all ∙ ap (λ xs. xs ++ reverse taken) c.in-Some.ensures.owners ∙ append_assoc left (owner ∷ []) (reverse taken)
          ∙ ap (λ xs. left ++ xs) (sym (ap reverse c.push_reserved.ensures.items ∙ reverse-append taken (owner ∷ [])));
      room = c.pop.ensures.room ∙ i.room;
      fits = omega arith;
    }

pub owners-smaller : goal.owners-smaller
owners-smaller c =
    let left = c.pop.new.self.owners in
    let gone : length c.owners.owners.owners ≡ length left + 1 = ap length c.in-Some.ensures.owners ∙ length-append left (c.in-Some.owner ∷ []) in
    omega arith

pub returns : goal.returns
returns c =
    let i = c.owners.invariant in
    let none = c.in_default.ensures.owners in record {
      taken = c.reverse.ensures.items ∙ sym (i.all ∙ ap (λ xs. xs ++ reverse c.owners.taken.items) none.0);
      emptied = none.1;
      room = c.pop.ensures.room ∙ i.room;
    }
