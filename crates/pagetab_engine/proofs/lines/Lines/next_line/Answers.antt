use Rattle.std.proofs.Common.{rules, sym, ◌≡◌, ◌<◌, false, length, take, arith, Some, None, length-take-le}
use Rattle.std.proofs.lemmas.Bool.Decides.{nat_tests}
use Rattle.pagetab_engine.specs.Lines.{is_line_feed}
use Rattle.pagetab_engine.proofs.Breaking.{ends_empty, ends_last, ends_at_feed, ends_too_long}
use Rattle.pagetab_engine.proofs.lines.Lines.next_line.Goals as goal

pub returns-in-None-clause-line : goal.returns-in-None-clause-line
returns-in-None-clause-line g c =
    ends_empty _ _ _ (rw c.if-length-eq0.true at c.loop-length.invariant.taken) (rw c.in-None.is at c.in_ok-next_byte.ensures.byte)

pub returns-in-None-2-clause-line : goal.returns-in-None-2-clause-line
returns-in-None-2-clause-line g c =
    let loop = c.loop-length in
    let some : 0 < length (take loop.length loop.line) = omega (arith, length-take-le loop.length loop.line (omega arith), c.if-length-eq0.false) in
    ends_last _ _ _ _ loop.invariant.taken (rw c.in-None.is at c.in_ok-next_byte.ensures.byte) some loop.invariant.open_line

pub returns-in-None-2-2-clause-line : goal.returns-in-None-2-2-clause-line
returns-in-None-2-2-clause-line g c =
    let feed : c.in_ok-next_byte.field-0 ≡ Some 10 = search rules in
    ends_at_feed _ _ _ _ c.loop-length.invariant.taken (rw feed at c.in_ok-next_byte.ensures.byte) c.loop-length.invariant.open_line

pub returns-in-Some-2-clause-line : goal.returns-in-Some-2-clause-line
returns-in-Some-2-clause-line g c =
    let loop = c.loop-length in
    let whole : loop.length ≡ 256 = omega (arith, c.loop-length-test.false) in
    let other : is_line_feed c.in-Some-2.field-0 ≡ false = grind (arith, nat_tests) in
    ends_too_long _ _ _ _ c.in-Some-2.field-0 loop.invariant.taken (rw c.in-Some-2.is at c.in_ok-next_byte-2.ensures.byte) other (omega (arith, length-take-le loop.length loop.line (omega arith))) loop.invariant.open_line

pub returns-in-None-3-clause-line : goal.returns-in-None-3-clause-line
returns-in-None-3-clause-line g c =
    let loop = c.loop-length in
    let whole : loop.length ≡ 256 = omega (arith, c.loop-length-test.false) in
    let end : c.in_ok-next_byte-2.field-0 ≡ None = search rules in
    rw (sym whole) (ends_last _ _ _ _ loop.invariant.taken (rw end at c.in_ok-next_byte-2.ensures.byte) (omega (arith, length-take-le loop.length loop.line (omega arith))) loop.invariant.open_line)

pub returns-in-None-3-2-clause-line : goal.returns-in-None-3-2-clause-line
returns-in-None-3-2-clause-line g c =
    let feed : c.in_ok-next_byte-2.field-0 ≡ Some 10 = search rules in
    let whole : c.loop-length.length ≡ 256 = omega (arith, c.loop-length-test.false) in
    rw (sym whole) (ends_at_feed _ _ _ _ c.loop-length.invariant.taken (rw feed at c.in_ok-next_byte-2.ensures.byte) c.loop-length.invariant.open_line)
