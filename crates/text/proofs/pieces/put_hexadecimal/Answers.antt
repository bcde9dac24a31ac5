use Rattle.std.proofs.Common.{arith}
use Rattle.text.proofs.Digits.{length_hexadecimal}
use Rattle.text.proofs.pieces.put_hexadecimal.Goals as goal

pub put_hexadecimal_digits-start-requires-clause-room : goal.put_hexadecimal_digits-start-requires-clause-room
put_hexadecimal_digits-start-requires-clause-room c =
    omega (arith, c.requires.room, length_hexadecimal c.args.number c.ranges.number.fits)

pub put-start-requires-clause-room : goal.put-start-requires-clause-room
put-start-requires-clause-room c =
    omega (arith, c.requires.room, c.put_hexadecimal_digits-start.ensures.start, length_hexadecimal c.args.number c.ranges.number.fits)

pub put-requires-clause-room : goal.put-requires-clause-room
put-requires-clause-room c =
    omega (
      arith,
      c.requires.room,
      c.put_hexadecimal_digits-start.ensures.start,
      length_hexadecimal c.args.number c.ranges.number.fits,
      c.put-start.ensures.start,
    )

pub returns-clause-short : goal.returns-clause-short
returns-clause-short c =
    omega (
      arith,
      c.put_hexadecimal_digits-start.ensures.start,
      length_hexadecimal c.args.number c.ranges.number.fits,
      c.put-start.ensures.start,
      c.put.ensures.start,
    )
