use Rattle.std.proofs.Common.{rules, ◌≡◌, ◌≤◌, ◌∙◌, sym, suc, true, false, length, take, arith, Ok, Err, length-take}
use Rattle.pagetab_engine.specs.Commands.{statement_of}
use Rattle.pagetab_engine.specs.Lines.{bytes_left, is_blank}
use Rattle.pagetab_engine.specs.declared.ending.Fault.TheVariants.{Input}
use Rattle.pagetab_engine.specs.declared.lines.Line.TheVariants.{End, Text, TooLong}
use Rattle.pagetab_engine.proofs.Numbering.{behind_blank, begins_behind, blank_passed, blank_line, long_taken, none_taken, short_line, some_lines, statement_taken, bad_taken}
use Rattle.pagetab_engine.proofs.lines.Lines.next_statement.Goals as goal

pub loop-number-init : goal.loop-number-init
loop-number-init g c = record { blank = λ lines may. may; counted = omega arith }

pub loop-number-preserved : goal.loop-number-preserved
loop-number-preserved g c =
    let read : c.next_line.result ≡ Ok (Text c.in-Text.length) = search rules in
    let counted : c.next_line.new.self.number ≡ suc c.loop-number.self.number = omega (arith, c.in-Some.ensures) in
    let short = rw read at c.next_line.ensures.fits in
    let fits : length (take c.in-Text.length c.next_line.new.line) ≤ 256 = omega (arith, length-take c.in-Text.length c.next_line.new.line) in
    let blank : is_blank (take c.in-Text.length c.next_line.new.line) ≡ true = blank_line _ _ fits c.is_blank.ensures ∙ c.if-is_blank.true in
    let passed = blank_passed c.loop-number.self.number _ _ _ _ counted blank (rw read at c.next_line.ensures.line) in
    record {
      blank = λ lines may. c.loop-number.invariant.blank lines (passed lines may);
      counted = omega arith;
    }

pub returns-in-End-clause-next : goal.returns-in-End-clause-next
returns-in-End-clause-next g c =
    let read : c.next_line.result ≡ Ok End = search rules in
    behind_blank _ _ _ _ c.loop-number.invariant.blank (none_taken c.loop-number.self.number _ _ _ (rw read at c.next_line.ensures.line))

pub returns-in-TooLong-clause-why : goal.returns-in-TooLong-clause-why
returns-in-TooLong-clause-why g c =
    let read : c.next_line.result ≡ Ok TooLong = search rules in
    let counted : c.next_line.new.self.number ≡ suc c.loop-number.self.number = omega (arith, c.in-Some.ensures) in
    rw c.fault.ensures (begins_behind _ _ _ c.loop-number.invariant.blank (long_taken g.L.LevelCount.LEVELS c.args.places c.loop-number.self.number _ _ _ counted (rw read at c.next_line.ensures.line)))

pub returns-in-Some-parse-clause-next : goal.returns-in-Some-parse-clause-next
returns-in-Some-parse-clause-next g c =
    let read : c.next_line.result ≡ Ok (Text c.in-Text.length) = search rules in
    let counted : c.next_line.new.self.number ≡ suc c.loop-number.self.number = omega (arith, c.in-Some.ensures) in
    let short = rw read at c.next_line.ensures.fits in
    let fits : length (take c.in-Text.length c.next_line.new.line) ≤ 256 = omega (arith, length-take c.in-Text.length c.next_line.new.line) in
    let some : is_blank (take c.in-Text.length c.next_line.new.line) ≡ false = blank_line _ _ fits c.is_blank.ensures ∙ c.if-is_blank.false in
    behind_blank _ _ _ _ c.loop-number.invariant.blank (statement_taken g.L.LevelCount.LEVELS c.args.places c.loop-number.self.number _ _ _ _ (statement_of g.L.LevelCount.LEVELS g.P5.LevelFiveFlags.bits c.in-Some-parse.statement) counted some
    (rw read at c.next_line.ensures.line) (short_line _ _ _ fits ∙ sym c.in-Some-parse.ensures))

pub returns-in-None-clause-why : goal.returns-in-None-clause-why
returns-in-None-clause-why g c =
    let read : c.next_line.result ≡ Ok (Text c.in-Text.length) = search rules in
    let counted : c.next_line.new.self.number ≡ suc c.loop-number.self.number = omega (arith, c.in-Some.ensures) in
    let short = rw read at c.next_line.ensures.fits in
    let fits : length (take c.in-Text.length c.next_line.new.line) ≤ 256 = omega (arith, length-take c.in-Text.length c.next_line.new.line) in
    let some : is_blank (take c.in-Text.length c.next_line.new.line) ≡ false = blank_line _ _ fits c.is_blank.ensures ∙ c.if-is_blank.false in
    rw c.fault-in-None.ensures (begins_behind _ _ _ c.loop-number.invariant.blank (bad_taken g.L.LevelCount.LEVELS c.args.places c.loop-number.self.number _ _ _ _ counted some
    (rw read at c.next_line.ensures.line) (short_line _ _ _ fits ∙ sym c.in-None.ensures)))

pub returns-in_err-map_err-clause-why : goal.returns-in_err-map_err-clause-why
returns-in_err-map_err-clause-why g c =
    let some = some_lines c.args.self.now.number (bytes_left g.R.Read.remaining c.args.self.now) in
    let told : c.from_residual.result ≡ Err Input = search rules in
    rw told some

pub returns-clause-why : goal.returns-clause-why
returns-clause-why g c = some_lines c.args.self.now.number (bytes_left g.R.Read.remaining c.args.self.now)
