use Rattle.std.proofs.Common.{◌≡◌, ◌∙◌, ◌-◌, ◌++◌, ℕ, zero, suc, false, [], take, replicate, refl, sym, ap, arith}
use Rattle.x86_64_tables.specs.PhysMemory.{length_keys}
use Rattle.x86_64_tables.proofs.phys_memory.validity.clear_marks.Goals as goal

-- marks that fill an empty list
filled : (n : ℕ) → take n [] ++ replicate (n - 0) false ≡ replicate n false
filled zero = refl
filled (suc n) = let same : suc n - 0 ≡ suc n = omega arith in ap (λ m. replicate m false) same

pub returns-clause-clear : goal.returns-clause-clear
returns-clause-clear g c =
    let items = c.in_ok-resize.ensures.items in
    rw (c.new-marks.ensures.items, c.new-marks.ensures.len) at items ∙ filled c.len.result
    ∙ ap (λ n. replicate n false) (c.len.ensures ∙ sym (length_keys (g.T.TableMemory.tables c.args.memory.now)))
