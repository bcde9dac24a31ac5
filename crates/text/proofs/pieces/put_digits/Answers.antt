use Rattle.std.proofs.Common.{◌∷◌, ◌++◌, ◌∙◌, ◌/◌, ◌%◌, [], drop, false, sym, ap, arith}
use Rattle.std.specs.Fmt.{digit_glyph}
use Rattle.text.proofs.Digits.{digits_one, digits_step, length_one, length_step, written_on}
use Rattle.text.proofs.pieces.put_digits.Goals as goal

pub put-start-requires-clause-room : goal.put-start-requires-clause-room
put-start-requires-clause-room c =
    let l = c.loop-left in
    omega (arith, l.invariant.2, length_step c.args.base l.left c.requires.base c.loop-left-test.true l.auto.left-fits.fits)

pub loop-left-preserved : goal.loop-left-preserved
loop-left-preserved c =
    let l = c.loop-left in
    let base = c.args.base in
    let last = digit_glyph false (l.left % base) ∷ [] in
    let step = digits_step base l.left c.requires.base c.loop-left-test.true l.auto.left-fits.fits in
    let put = c.put-start.ensures in
    written_on base c.args.number l.left (l.left / base) c.args.end l.start c.put-start.result last c.args.line.now l.line c.put-start.new.line l.invariant step
    (put.text ∙ ap (λ d. d ∷ drop l.start l.line) c.digit.ensures.text) put.start put.ascii

pub put-requires-clause-room : goal.put-requires-clause-room
put-requires-clause-room c =
    let l = c.loop-left in
    omega (arith, l.invariant.2, length_one c.args.base l.left c.requires.base c.loop-left-test.false)

pub returns-clause-text : goal.returns-clause-text
returns-clause-text c =
    let l = c.loop-left in
    let written = drop l.start l.line in
    c.put.ensures.text ∙ ap (λ d. d ∷ written) c.digit-2.ensures.text
    ∙ ap (λ xs. xs ++ written) (sym (digits_one c.args.base l.left c.requires.base c.loop-left-test.false)) ∙ l.invariant.0

pub returns-clause-start : goal.returns-clause-start
returns-clause-start c =
    let l = c.loop-left in
    omega (arith, l.invariant.1, c.put.ensures.start, length_one c.args.base l.left c.requires.base c.loop-left-test.false)
