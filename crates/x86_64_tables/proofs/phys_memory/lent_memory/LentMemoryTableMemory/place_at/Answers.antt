use Rattle.std.proofs.Common.{◌∙◌, ◌<◌, ◌≤◌, ℕ, List, length, slice_get, Some, ap, sym, arith}
use Rattle.x86_64_tables.proofs.NumberedTables.{keys-numbered, nth_number, no_number}
use Rattle.x86_64_tables.proofs.phys_memory.lent_memory.LentMemoryTableMemory.place_at.Goals as goal

pub returns-then-n-self : goal.returns-then-n-self
returns-then-n-self c =
    let tables = c.args.self.now.slice.now in let n = c.args.n in
    let near : n < length tables = omega (arith, c.if-n-self.true) in
    ap Some c.new.ensures ∙ nth_number tables n near ∙ ap (λ (ks : List ℕ). slice_get ks n) (sym (keys-numbered tables))

pub returns-else-n-self : goal.returns-else-n-self
returns-else-n-self c =
    let tables = c.args.self.now.slice.now in let n = c.args.n in
    let past : length tables ≤ n = omega (arith, c.if-n-self.false) in
    no_number tables n past ∙ ap (λ (ks : List ℕ). slice_get ks n) (sym (keys-numbered tables))
