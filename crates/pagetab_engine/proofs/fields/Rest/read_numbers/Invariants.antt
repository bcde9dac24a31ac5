use Rattle.std.proofs.Common.{◌≡◌, ◌++◌, length, option_map, take}
use Rattle.pagetab_engine.specs.Fields.{fields_of, numbers_in}
use Rattle.pagetab_engine.proofs.fields.Rest.read_numbers.Given as goal

abbrev pub invariant-loop-count : goal.invariant-loop-count
invariant-loop-count l = (numbers_in (fields_of l.fn.self.text.now) ≡ option_map (λ numbers. take l.count l.numbers ++ numbers) (numbers_in (fields_of l.self.text.now))) × (length l.numbers ≡ 4)
