use Rattle.std.proofs.Common.{◌/◌, ◌%◌, ◌<◌, subst, sym, arith, ℕ}
use Rattle.text.proofs.Digits.{glyph_ascii, pair_high, pair_low}
use Rattle.text.proofs.pieces.pair.Goals as goal

pub returns-clause-high : goal.returns-clause-high
returns-clause-high c = pair_high c.args.number c.requires

pub returns-clause-low : goal.returns-clause-low
returns-clause-low c = pair_low c.args.number c.requires

pub returns-clause-ascii : goal.returns-clause-ascii
returns-clause-ascii c =
    let number = c.args.number in
    let IsAscii : ℕ → Type 0 = λ n. n < 128 in (
      subst IsAscii (sym (pair_high number c.requires)) (glyph_ascii (number / 16) (omega (arith, c.requires))),
      subst IsAscii (sym (pair_low number c.requires)) (glyph_ascii (number % 16) (omega arith)),
    )
