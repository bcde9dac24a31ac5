use Rattle.std.proofs.Common.{arith}
use Rattle.std.proofs.lemmas.Grind.{elements}
use Rattle.x86_64_dump.proofs.tables.loading.copied.Goals as goal

pub returns : goal.returns
returns c = grind (arith, elements)
