use Rattle.std.proofs.Common.{◌≡◌, length, take}
use Rattle.std.specs.Io.KnownBytes.{Consumes}
use Rattle.pagetab_engine.specs.Lines.{bytes_left}
use Rattle.pagetab_engine.proofs.Breaking.{HasNoFeed}
use Rattle.pagetab_engine.proofs.lines.Lines.next_line.Given as goal

-- the line so far is what was taken, and none of its bytes ends a line
abbrev pub invariant-loop-length : goal.invariant-loop-length
invariant-loop-length g l =
    let left = bytes_left g.R.Read.remaining in
    record {
      taken : Consumes (left l.fn.self) (left l.self) (take l.length l.line);
      open_line : HasNoFeed (take l.length l.line);
      room : length l.line ≡ 256;
      number : l.self.number ≡ l.fn.self.number;
    }
