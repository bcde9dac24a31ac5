use Rattle.std.proofs.Common.{◌∙◌, ◌<◌, ◌≤◌, ℕ, length, Some, ap, sym, arith}
use Rattle.std.specs.List.{position}
use Rattle.std.specs.Ordering.{nat_cmp, eq_by_cmp}
use Rattle.x86_64_tables.proofs.NumberedTables.{keys-numbered, stands, stands_not}
use Rattle.x86_64_tables.proofs.phys_memory.lent_memory.LentMemoryTableMemory.index_of.Goals as goal

pub returns-then-number-self : goal.returns-then-number-self
returns-then-number-self c =
    let tables = c.args.self.now.slice.now in let place : ℕ = c.args.place in
    let near : place < length tables = omega (arith, c.number-number.ensures, c.if-number-self.true) in
    ap Some c.number-number.ensures ∙ stands tables place near ∙ ap (position (eq_by_cmp nat_cmp place)) (sym (keys-numbered tables))

pub returns-else-number-self : goal.returns-else-number-self
returns-else-number-self c =
    let tables = c.args.self.now.slice.now in let place : ℕ = c.args.place in
    let past : length tables ≤ place = omega (arith, c.number-number.ensures, c.if-number-self.false) in
    stands_not tables place past ∙ ap (position (eq_by_cmp nat_cmp place)) (sym (keys-numbered tables))
