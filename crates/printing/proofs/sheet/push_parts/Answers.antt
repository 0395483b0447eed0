use Rattle.std.proofs.Common.{◌≡◌, ◌+◌, ◌-◌, ◌≤◌, ◌++◌, Ok, string_bytes, ap, ◌∙◌, arith}
use Rattle.code.specs.Numbers.{joined_to}
use Rattle.printing.proofs.Writing.{part_more}
use Rattle.printing.proofs.sheet.push_parts.Goals.{else-loop-i-test, then-loop-i-test+in_ok-next+in_ok-push_str+else-i-n}
use Rattle.printing.proofs.sheet.push_parts.Goals as goal

pub loop-i-preserved : goal.loop-i-preserved
loop-i-preserved g c = (
  omega arith,
  λ texts says.
      let i = c.loop-i.i in
      let in_range : i ≤ c.args.n = omega arith in
      part_more (string_bytes c.args.text.now) texts i (i + 1 - 1) c.loop-i.auto.i (omega arith) (c.loop-i.invariant.1 texts says)
      (c.in_ok-push_str.ensures.bytes ∙ ap (λ bs. string_bytes c.loop-i.text ++ bs) (c.as_str.ensures.value ∙ says i c.loop-i.auto.i in_range (Ok c.in_ok-next.next) c.in_ok-next.ensures)),
)

pub returns : goal.returns
returns g c texts says =
    let n = c.args.n in
    let i = c.loop-i.i in
    elim c.loop-i-test.branch [
      | else-loop-i-test w ↦
          let all : i - 1 ≡ n = omega arith in
          ap string_bytes w.text-is ∙ c.loop-i.invariant.1 texts says ∙ ap (λ k. string_bytes c.args.text.now ++ joined_to texts k) all
      | then-loop-i-test+in_ok-next+in_ok-push_str+else-i-n w ↦
          let in_range : i ≤ n = omega arith in
          let last : i ≡ n = omega arith in
          part_more (string_bytes c.args.text.now) texts i n c.loop-i.auto.i last (c.loop-i.invariant.1 texts says)
          (ap string_bytes w.text-is ∙ w.in_ok-push_str.ensures.bytes ∙ ap (λ bs. string_bytes c.loop-i.text ++ bs) (w.as_str.ensures.value ∙ says i c.loop-i.auto.i in_range (Ok w.in_ok-next.next) w.in_ok-next.ensures))
    ]
