use Rattle.std.proofs.Common.{arith}
use Rattle.std.proofs.lemmas.Fmt.{length-decimal-le}
use Rattle.text.proofs.pieces.put_decimal.Goals as goal

pub put_digits-requires-clause-room : goal.put_digits-requires-clause-room
put_digits-requires-clause-room c =
    let fits = c.ranges.number.fits in
    omega (arith, c.requires.room, length-decimal-le 20 c.args.number (omega arith) (omega (arith, fits)) fits)

pub returns-clause-short : goal.returns-clause-short
returns-clause-short c =
    let fits = c.ranges.number.fits in
    omega (arith, c.put_digits.ensures.start, length-decimal-le 20 c.args.number (omega arith) (omega (arith, fits)) fits)
