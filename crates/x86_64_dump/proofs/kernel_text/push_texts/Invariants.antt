use Rattle.std.proofs.Common.{◌≡◌, ◌+◌, ◌/◌, ◌++◌, length}
use Rattle.x86_64_dump.specs.KernelTexts.{texts_in}
use Rattle.x86_64_dump.proofs.kernel_text.push_texts.Given as goal

-- the texts so far, followed by those in the pages that are left, are the texts in all pages
abbrev pub invariant-loop-rest : goal.invariant-loop-rest
invariant-loop-rest l = record {
  told : l.texts.items ++ texts_in (length l.rest / 4096) l.at l.rest ≡ l.fn.texts.items ++ texts_in (length l.pages / 4096) l.offset l.pages;
  place : l.at + length l.rest ≡ l.offset + length l.pages;
}

abbrev pub decreases-loop-rest : goal.decreases-loop-rest
decreases-loop-rest l = length l.rest
