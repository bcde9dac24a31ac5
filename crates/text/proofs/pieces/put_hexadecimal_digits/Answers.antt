use Rattle.std.proofs.Common.{◌∷◌, ◌∙◌, ◌/◌, ◌%◌, [], drop, false, ap, ap₂, arith}
use Rattle.std.specs.Fmt.{digit_glyph}
use Rattle.text.proofs.Digits.{length_pairs, pairs_step, written_on}
use Rattle.text.proofs.pieces.put_hexadecimal_digits.Goals as goal

pub put-start-requires-clause-room : goal.put-start-requires-clause-room
put-start-requires-clause-room c =
    let l = c.loop-left in
    omega (arith, l.invariant.2, length_pairs l.left c.loop-left-test.true l.auto.left-fits.fits)

pub put-start-requires-in-loop-left-clause-room : goal.put-start-requires-in-loop-left-clause-room
put-start-requires-in-loop-left-clause-room c =
    let l = c.loop-left in
    omega (arith, c.put-start.ensures.start, l.invariant.2, length_pairs l.left c.loop-left-test.true l.auto.left-fits.fits)

pub loop-left-preserved : goal.loop-left-preserved
loop-left-preserved c =
    let l = c.loop-left in
    let left = l.left in
    let glyphs = digit_glyph false (left % 256 / 16) ∷ digit_glyph false (left % 256 % 16) ∷ [] in
    let step = pairs_step left c.loop-left-test.true l.auto.left-fits.fits in
    let low = c.put-start.ensures in
    let high = c.put-start-in-loop-left.ensures in
    written_on 16 c.args.number left (left / 256) c.args.end l.start c.put-start-in-loop-left.result glyphs c.args.line.now l.line c.put-start-in-loop-left.new.line l.invariant step
    (high.text ∙ ap₂ (λ d xs. d ∷ xs) c.pair-high.ensures.high (low.text ∙ ap (λ d. d ∷ drop l.start l.line) c.pair-high.ensures.low))
    (omega (arith, low.start, high.start)) (λ was. high.ascii (low.ascii was))
