use Rattle.std.proofs.Common.{◌≡◌, ◌∙◌, ◌++◌, ◌∷◌, [], ap, arith}
use Rattle.std.specs.FinMap as map
use Rattle.std.specs.List.{range_with_len}
use Rattle.std.proofs.lemmas.Result.{IfOk-weaker}
use Rattle.x86_64_tables.specs.PhysMemory.{zero_tables_at}
use Rattle.x86_64_tables.proofs.Places.{range-push, range_rises, get-zero_range}
use Rattle.x86_64_tables.proofs.phys_memory.PhysMemory.new.Goals as goal

pub loop-number-preserved : goal.loop-number-preserved
loop-number-preserved c =
    let number = c.loop-number.number in
    let pushed = c.push_reserved.ensures in
    let before = c.loop-number.invariant in
    record {
      numbers = pushed.items ∙ ap (λ xs. xs ++ number ∷ []) before.numbers ∙ range-push number;
      len = omega (arith, pushed.len, before.len);
      room = omega (arith, pushed.capacity, before.room);
    }

pub zero_memory-requires : goal.zero_memory-requires
zero_memory-requires c = rw c.loop-number.invariant.numbers (range_rises c.loop-number.number)

pub returns-clause-made : goal.returns-clause-made
returns-clause-made c =
    let made : c.loop-number.number ≡ c.args.n = omega (arith, c.loop-number-test.false, c.loop-number.auto.number-end) in
    let numbers = c.loop-number.invariant.numbers ∙ ap (range_with_len 0) made in
    IfOk-weaker c.zero_memory.result _ _ (λ memory is place.
    ap (λ m. map.get m place) (is ∙ ap zero_tables_at numbers) ∙ get-zero_range c.args.n place) c.zero_memory.ensures.made
