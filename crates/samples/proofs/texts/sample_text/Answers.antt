use Rattle.std.proofs.Common.{◌≡◌, ◌++◌, ◌*◌, ◌∙◌, ℕ, List, ap, string_bytes, arith}
use Rattle.service_core.specs.Worlds.{seen}
use Rattle.samples.proofs.TextLemmas.{told_all, told_more, told_none}
use Rattle.samples.proofs.texts.sample_text.Goals as goal

pub loop-slab-init : goal.loop-slab-init
loop-slab-init c = told_none c.args.n (seen c.in_ok-world.world) (string_bytes c.new-text.result) c.new-text.ensures.bytes c.in_ok-world.ensures

pub loop-slab-preserved : goal.loop-slab-preserved
loop-slab-preserved c =
    let before = c.loop-slab.invariant in
    told_more c.args.n c.loop-slab.slab (seen c.loop-slab.world) (seen c.read_slab.new.world) (string_bytes c.loop-slab.text) (string_bytes c.push_str.new.self) (string_bytes c.in_ok-line.line)
    c.loop-slab.total c.in_ok-sum.sum before (c.in_ok-sum.ensures c.args.n (omega arith) before.holds)
    (c.in_ok-push_str.ensures.bytes ∙ ap (λ (bs : List ℕ). string_bytes c.loop-slab.text ++ bs) c.as_str.ensures.value) c.in_ok-line.ensures

pub returns : goal.returns
returns c =
    let all : c.loop-slab.slab ≡ 10 = omega arith in
    told_all c.args.n c.loop-slab.slab (seen c.loop-slab.world) (string_bytes c.loop-slab.text) (string_bytes c.push_str-2.new.self) (string_bytes c.in_ok-last.last) c.loop-slab.total
    c.loop-slab.invariant all (c.in_ok-push_str-2.ensures.bytes ∙ ap (λ (bs : List ℕ). string_bytes c.loop-slab.text ++ bs) c.as_str-2.ensures.value) c.in_ok-last.ensures
