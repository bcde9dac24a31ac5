use Rattle.std.proofs.Common.{sym}
use Rattle.pagetab_engine.proofs.Reading.{number_found}
use Rattle.pagetab_engine.proofs.fields.read_number.Goals as goal

pub returns : goal.returns
returns c = sym (number_found c.args.text.now c.parse_number.result c.parse_number.ensures)
