use Rattle.std.proofs.Common.{◌∙◌, ◌++◌, ap}
use Rattle.std.specs.FinMap as map
use Rattle.x86_64_tables.specs.PhysMemory.{zero_tables_at}
use Rattle.x86_64_tables.proofs.Places.{get-zero_tables}
use Rattle.x86_64_tables.proofs.phys_memory.PhysMemory.with_places.Goals as goal

pub returns-clause-made : goal.returns-clause-made
returns-clause-made c place =
    let numbers = c.in_ok-extend_from_slice.ensures.items ∙ ap (λ xs. xs ++ c.args.places.now) c.new-numbers.ensures.items in
    ap (λ m. map.get m place) (c.in_ok-zero_memory.ensures.made ∙ ap zero_tables_at numbers) ∙ get-zero_tables c.args.places.now place
