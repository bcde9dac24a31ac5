use Rattle.std.proofs.Common.{cond, [], ◌∷◌, ap, lt-ltb}
use Rattle.std.proofs.lemmas.Bool.{le-ltb}
use Rattle.x86_64_tables.specs.FlushRecorder.{page_items}
use Rattle.x86_64_tables.specs.declared.tokens.recorder.FlushItem.TheVariants.{All}
use Rattle.x86_64.proofs.laws.ranges_of_up_to_32_pages_are_flushed_by_page.Goals as goal

pub returns-clause-each : goal.returns-clause-each
returns-clause-each c = λ levels size page count few. ap (λ more. cond more (All ∷ []) (page_items levels size page count)) (le-ltb 32 count few)

pub returns-clause-all : goal.returns-clause-all
returns-clause-all c = λ levels size page count many. ap (λ more. cond more (All ∷ []) (page_items levels size page count)) (lt-ltb 32 count many)
