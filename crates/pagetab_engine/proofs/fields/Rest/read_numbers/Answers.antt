use Rattle.std.proofs.Common.{◌≡◌, ◌<◌, ◌++◌, List, ℕ, take, length, option_map, sym, ap, ◌∙◌, arith}
use Rattle.std.proofs.lemmas.List.{take_more_set, length-take}
use Rattle.std.proofs.Math.ListN.{length-set}
use Rattle.pagetab_engine.specs.Fields.{fields_of, numbers_in}
use Rattle.pagetab_engine.proofs.Reading.{no_number, one_more, too_many}
use Rattle.pagetab_engine.proofs.fields.Rest.read_numbers.Goals as goal

pub returns-in_err-number-in-Some-clause-numbers : goal.returns-in_err-number-in-Some-clause-numbers
returns-in_err-number-in-Some-clause-numbers c =
    let none = sym c.read_number.ensures ∙ c.in_err-number-in-Some.was in
    rw c.from_residual.ensures (sym (no_number _ (take c.loop-count.count c.loop-count.numbers) _ _ _ c.loop-count.invariant.0 (rw c.in-Some.is at c.next_field.ensures) none))

pub loop-count-preserved : goal.loop-count-preserved
loop-count-preserved c =
    let some = sym c.read_number.ensures ∙ c.in_ok-number-in-Some.was in
    let small : c.loop-count.count < length c.loop-count.numbers = omega arith in (
      one_more _ (take c.loop-count.count c.loop-count.numbers) _ _ _ c.loop-count.invariant.0 (rw c.in-Some.is at c.next_field.ensures) c.in_ok-number-in-Some.field-0 some
          ∙ ap (λ (first : List ℕ). option_map (λ ns. first ++ ns) (numbers_in (fields_of c.next_field.new.self.text.now))) (sym (take_more_set c.loop-count.numbers c.loop-count.count c.in_ok-number-in-Some.field-0 small)),
      simp length-set c.loop-count.invariant.1,
    )

pub returns-in-Some-next_field-clause-numbers : goal.returns-in-Some-next_field-clause-numbers
returns-in-Some-next_field-clause-numbers c =
    let four : length (take c.loop-count.count c.loop-count.numbers) ≡ 4 = simp length-take (omega arith) in
    sym (too_many _ (take c.loop-count.count c.loop-count.numbers) _ _ _ c.loop-count.invariant.0 (rw c.in-Some-next_field.is at c.next_field-2.ensures) four)
