use Rattle.std.proofs.Common.{◌≡◌, ◌*◌, ◌^◌, ◌<◌, ◌/◌, ◌++◌, ◌∷◌, [], ℕ, List, ◌∙◌, sym, ap, subst, arith}
use Rattle.std.proofs.lemmas.List.Elements.{All-push}
use Rattle.x86_64_dump.specs.private.FrameNumbers.{has_number, AreFrameNumbers}
use Rattle.x86_64_dump.proofs.Places.{number_more}
use Rattle.x86_64_dump.proofs.tables.loading.add_numbers.Goals as goal
use Rattle.x86_64_dump.proofs.tables.loading.add_numbers.Goals.{In_ok-push}

pushed : (c : In_ok-push) → c.push.new.self.items ≡ c.loop-frame.numbers.items ++ c.frame-item.result / 4096 ∷ []
pushed c =
    let same : c.as_u64.result ≡ c.frame-item.result = c.as_u64.ensures.value ∙ c.start_address.ensures.value in
    c.in_ok-push.ensures.items ∙ ap (λ n. c.loop-frame.numbers.items ++ n / 4096 ∷ []) same

pub loop-frame-preserved : goal.loop-frame-preserved
loop-frame-preserved c = record {
  numbers = λ f is. ap (λ numbers. has_number numbers f) (pushed c)
      ∙ number_more c.loop-frame.numbers.items c.args.numbers.now.items c.args.frames.now c.loop-frame.frame-index c.frame-item.result c.loop-frame-test.true c.frame-item.is
      c.start_address.ensures.aligned_to_4kib c.start_address.ensures.below c.loop-frame.invariant.numbers f is;
  below = λ old. let P : List ℕ → Type 0 = AreFrameNumbers in subst P (sym (pushed c))
      (All-push (λ n. n * 4096 < 2 ^ 52) c.loop-frame.numbers.items (c.frame-item.result / 4096) (c.loop-frame.invariant.below old) (omega (arith, c.start_address.ensures.below)));
}
