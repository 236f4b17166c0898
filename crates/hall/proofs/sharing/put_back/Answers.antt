use Rattle.std.proofs.Common.{◌≡◌, ◌∷◌, ◌++◌, ◌+◌, ◌≤◌, [], length, length-append, refl, sym, ap, ◌∙◌, arith}
use Rattle.std.proofs.lemmas.List.{append_assoc}
use Rattle.hall.proofs.sharing.put_back.Goals as goal

pub loop-owner-init : goal.loop-owner-init
loop-owner-init c = record {
  owners = c.requires.empty;
  room = refl;
  left = ap (λ xs. xs ++ c.into_iter-owner-iterator.result.rest.items) c.requires.empty
      ∙ c.into_iter-owner-iterator.ensures.into_iter_gives.0;
}

pub push-requires : goal.push-requires
push-requires c =
    let i = c.loop-owner.invariant in
    let xs = c.loop-owner.owners.owners in
    let rest = c.next.new.self.rest.items in
    let all : length c.args.taken.items ≡ length xs + (length rest + 1) =
    ap length (sym i.left ∙ ap (λ ys. xs ++ ys) c.in-Some.ensures.steps.0) ∙ length-append xs (c.in-Some.owner ∷ rest) ∙ omega arith in
    let fits : length c.args.taken.items ≤ c.args.owners.now.room = c.requires.room in
    let room : c.loop-owner.owners.room ≡ c.args.owners.now.room = i.room in
    omega arith

pub loop-owner-preserved : goal.loop-owner-preserved
loop-owner-preserved c =
    let i = c.loop-owner.invariant in
    let xs = c.loop-owner.owners.owners in
    let owner = c.in-Some.owner in
    let rest = c.next.new.self.rest.items in record {
      owners = c.push.ensures.owners ∙ ap (λ ys. ys ++ owner ∷ []) i.owners;
      room = c.push.ensures.room ∙ i.room;
      left = ap (λ ys. ys ++ rest) c.push.ensures.owners ∙ append_assoc xs (owner ∷ []) rest
          ∙ ap (λ ys. xs ++ ys) (sym c.in-Some.ensures.steps.0) ∙ i.left;
    }
