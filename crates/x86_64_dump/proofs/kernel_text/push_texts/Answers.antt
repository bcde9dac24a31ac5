use Rattle.std.proofs.Common.{arith, refl}
use Rattle.x86_64_dump.proofs.KernelTexts.{next_page, no_page}
use Rattle.x86_64_dump.proofs.kernel_text.push_texts.Goals as goal

pub loop-rest-preserved : goal.loop-rest-preserved
loop-rest-preserved c = record {
  told = next_page c.loop-rest.at _ c.loop-rest.rest.now c.split_at.result.0.now c.split_at.result.1.now c.loop-rest.texts.items c.push_text.new.texts.items _
      (omega (arith, c.loop-rest-test.true)) c.split_at.ensures.front c.split_at.ensures.back refl c.in_ok-push_text.ensures c.loop-rest.invariant.told;
  place = omega (arith, c.loop-rest.invariant.place, c.split_at.ensures.back_len, c.loop-rest-test.true);
}

pub returns : goal.returns
returns c = no_page c.loop-rest.at c.loop-rest.rest.now c.loop-rest.texts.items _ (omega (arith, c.loop-rest-test.false)) c.loop-rest.invariant.told
