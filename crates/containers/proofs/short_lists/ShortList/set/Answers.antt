-- A number replaced among the others leaves the zeros behind them.
use Rattle.std.proofs.Common.{◌≡◌, ℕ, ◌+◌, List, ◌++◌, length, drop, take, slice_set, sym, ap, ◌∙◌}
use Rattle.std.proofs.Math.Seq.{take-append_seam, drop-append_seam}
use Rattle.std.proofs.lemmas.List.{length-set, length-append, take-append-drop}
use Rattle.containers.specs.ShortLists.Filled.{IsFilled, length-shown}
use Rattle.containers.proofs.short_lists.ShortList.set.Goals as goal

-- the front of the room with another number in it
abbrev front : ℕ → List ℕ → ℕ → ℕ → List ℕ
front len room at n = slice_set (take len room) at n

length-front : (cap len : ℕ) (room : List ℕ) (at n : ℕ) → IsFilled cap len room → length (front len room at n) ≡ len
length-front cap len room at n h = length-set (take len room) at n ∙ length-shown cap len room h

IsFilled-replaced : (cap len : ℕ) (room : List ℕ) (at n : ℕ) → IsFilled cap len room → IsFilled cap len (front len room at n ++ drop len room)
IsFilled-replaced cap len room at n h = record {
  within = h.within;
  whole = length-append (front len room at n) (drop len room)
      ∙ ap (λ m. m + length (drop len room)) (length-set (take len room) at n)
      ∙ sym (length-append (take len room) (drop len room))
      ∙ ap length (take-append-drop len room)
      ∙ h.whole;
  zeros = ap (λ m. drop m (front len room at n ++ drop len room)) (sym (length-front cap len room at n h))
      ∙ drop-append_seam (front len room at n) (drop len room)
      ∙ h.zeros;
}

pub invariant_of-self : goal.invariant_of-self
invariant_of-self g c = IsFilled-replaced g.row.N c.self.inside.len c.self.inside.room c.args.at c.args.n c.self.invariant

pub returns : goal.returns
returns g c =
    let len = c.self.inside.len in
    let room = c.self.inside.room in
    let kept = front len room c.args.at c.args.n in
    ap (λ m. take m (kept ++ drop len room)) (sym (length-front g.row.N len room c.args.at c.args.n c.self.invariant))
    ∙ take-append_seam kept (drop len room) ∙ ap (λ (ns : List ℕ). slice_set ns c.args.at c.args.n) c.self.view_is
