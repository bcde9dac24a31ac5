use Rattle.x86_64_tables.proofs.phys_memory.alike.tables_alike_57.Goals as goal

pub returns-in-Some : goal.returns-in-Some
returns-in-Some g c = rw c.in-Some.is (rw (c.new.ensures, c.in-Some.is) at c.is_alike_read.ensures)

pub returns-in-None : goal.returns-in-None
returns-in-None g c = rw c.in-None.is (rw c.new-in-None.ensures at c.is_alike_read-in-None.ensures)
