use Rattle.std.proofs.Common.{◌≡◌, ◌∙◌, ◌==◌, OnOk, ap, arith, codes, cond, ne_eqb, subst, sym}
use Rattle.ptdump_engine.specs.Output.{Puts}
use Rattle.ptdump_engine.specs.Program.{last_address, raw_range_text, raw_text}
use Rattle.ptdump_json.specs.Walks.{line}
use Rattle.ptdump_engine.proofs.opening.write_range.Goals as goal

pub returns : goal.returns
returns g c =
    let segment = c.args.segment.now in
    let last : last_address segment ≡ c.saturating_add-last.result = omega (arith, c.saturating_add-last.ensures) in
    let same : raw_text segment ≡ raw_range_text segment.address c.saturating_add-last.result =
    ap (λ b. cond b (codes "the file is read as raw memory, and is empty") (raw_range_text segment.address (last_address segment))) (ne_eqb segment.size 0 c.if-segment-eq0.false)
    ∙ ap (raw_range_text segment.address) last in
    subst (λ text. OnOk c.write_addresses.result (Puts {W = g.row.E.Denot} g.E.Destination.contents c.args.notes.now c.write_addresses.new.notes (line text))) (sym same) c.write_addresses.ensures

pub returns-then-segment-eq0 : goal.returns-then-segment-eq0
returns-then-segment-eq0 g c =
    let segment = c.args.segment.now in
    let empty = codes "the file is read as raw memory, and is empty" in
    let same : raw_text segment ≡ empty =
    ap (λ size. cond (size == 0) empty (raw_range_text segment.address (last_address segment))) c.if-segment-eq0.true in
    subst (λ text. OnOk c.writeln.result (Puts {W = g.row.E.Denot} g.E.Destination.contents c.args.notes.now c.writeln.new.self (line text))) (sym same) c.writeln.ensures.text
