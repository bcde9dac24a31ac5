use Rattle.x86_64_dump.specs.Opened.{opened}
use Rattle.ptdump_engine.specs.Program.{differing_text, file_text}
use Rattle.ptdump_engine.specs.private.Puts.{puts_both}
use Rattle.ptdump_json.proofs.Results.{on_ok}
use Rattle.ptdump_engine.proofs.opening.write_opening.Goals as goal

pub returns-clause-text : goal.returns-clause-text
returns-clause-text g c = λ known.
    let contents = g.E.Destination.contents in
    let dump = opened g.S.ByteSource.bytes c.args.dump.now in
    on_ok c.write_differing.result
    (puts_both contents c.args.notes.now c.write_file.new.notes c.write_differing.new.notes (file_text dump) (differing_text dump.texts) (c.in_ok-write_file.ensures.text known))
    c.write_differing.ensures.text
