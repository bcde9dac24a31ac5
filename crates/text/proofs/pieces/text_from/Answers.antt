use Rattle.std.proofs.Common.{◌-◌, drop, arith, take_all, length-drop}
use Rattle.std.proofs.lemmas.Str.{IsUtf8-from_ascii}
use Rattle.text.proofs.pieces.text_from.Goals as goal

pub from_utf8_unchecked-requires : goal.from_utf8_unchecked-requires
from_utf8_unchecked-requires c =
    let start = c.args.start in
    let bytes = c.args.line.now in
    IsUtf8-from_ascii _ (rw (take_all (96 - start) (drop start bytes) (omega (arith, c.told-line, length-drop start bytes))) c.requires.ascii)
