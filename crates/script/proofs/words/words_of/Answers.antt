-- Each turn finds a word, passes a blank or lengthens the word at hand.
use Rattle.std.proofs.Common.{◌≡◌, ◌+◌, [], ◌∷◌, length, vec_items, sym, refl, ap, ◌∙◌, arith}
use Rattle.std.specs.List.{between}
use Rattle.std.proofs.lemmas.Slice.{pushed}
use Rattle.script.specs.Words.{texts}
use Rattle.script.proofs.Cuts.{dark_more, gap_more, word_more, no_last, last_word, carried}
use Rattle.script.proofs.words.words_of.Goals as goal
use Rattle.script.proofs.words.words_of.Goals.{then-is_white, else-is_white, then-start-i+in_ok-push, else-start-i, then-start-line+in_ok-push-2, else-start-line}

pub loop-i-preserved : goal.loop-i-preserved
loop-i-preserved c =
    let line = c.args.line.now in
    let found = vec_items c.loop-i.found in
    let start = c.loop-i.start in
    let i = c.loop-i.i in
    let sofar = c.loop-i.invariant.1 in
    elim c.if-is_white.branch [
      | then-is_white w ↦
          let white = sym w.if-is_white.ensures in
          elim w.if-start-i.branch [
            | then-start-i+in_ok-push p ↦
                carried line (i + 1)
                (ap vec_items (w.found-is ∙ p.found-is) ∙ pushed {xs = found} (_ ∷ []) refl p.in_ok-push.was p.push.ensures.items)
                w.start-is
                (omega arith, word_more line found start i (omega arith) c.loop-i.invariant.0 sofar _ white p.if-start-i.true refl)
            | else-start-i p ↦
                carried line (i + 1) (ap vec_items (w.found-is ∙ p.found-is)) w.start-is
                (omega arith, gap_more line found start i (omega arith) c.loop-i.invariant.0 sofar white p.if-start-i.false)
          ]
      | else-is_white w ↦
          carried line (i + 1) (ap vec_items w.found-is) w.start-is
          (omega arith, dark_more line found start i (omega arith) c.loop-i.invariant.0 sofar (sym w.if-is_white.ensures))
    ]

pub returns : goal.returns
returns c =
    let line = c.args.line.now in
    let found = vec_items c.loop-i.found in
    let start = c.loop-i.start in
    let i = c.loop-i.i in
    let end : length line ≡ i = omega arith in
    elim c.if-start-line.branch [
      | then-start-line+in_ok-push-2 w ↦
          ap (λ v. texts (vec_items v)) w.found-is
          ∙ ap texts (pushed {xs = found} (_ ∷ []) refl w.in_ok-push-2.was w.push-then-start-line.ensures.items)
          ∙ last_word line found start i end c.loop-i.invariant.1 _ (omega (arith, w.if-start-line.true)) (ap (λ n. between start n line) end)
      | else-start-line w ↦
          ap (λ v. texts (vec_items v)) w.found-is ∙ no_last line found start i end c.loop-i.invariant.1 (omega (arith, w.if-start-line.false))
    ]
