use Rattle.std.proofs.Common.{◌∙◌, ap}
use Rattle.x86_64_dump.specs.VmCoreInfo.{number_in_radix}
use Rattle.x86_64_dump.proofs.Digits.{number_read, no_number}
use Rattle.x86_64_dump.proofs.vmcoreinfo.number_of.Goals as goal

pub returns-in-Ok : goal.returns-in-Ok
returns-in-Ok c = number_read c.args.radix c.in-Ok.text.now _ c.parse_digits.ensures ∙ ap (number_in_radix c.args.radix) c.in-Ok.ensures.cases.0

pub returns-in-Err : goal.returns-in-Err
returns-in-Err c = no_number c.args.radix c.args.digits.now c.requires.upper_bound c.in-Err.ensures.cases.0
