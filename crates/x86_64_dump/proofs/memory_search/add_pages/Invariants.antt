use Rattle.std.proofs.Common.{◌≡◌, ◌-◌, ◌≤◌, ◌++◌, drop, length}
use Rattle.x86_64_dump.specs.KernelTexts.{texts_in}
use Rattle.x86_64_dump.proofs.memory_search.add_pages.Given as goal

-- the texts so far are those in the first pages
abbrev pub invariant-loop-done : goal.invariant-loop-done
invariant-loop-done g l =
    let file = g.S.ByteSource.bytes l.source in
    record {
      within : l.done ≤ l.pages;
      buffer : length l.buffer ≡ 1048576;
      told : g.S.ByteSource.IsKnown → l.texts.items ≡ l.fn.texts.items ++ texts_in l.done l.offset (drop l.offset file);
    }

abbrev pub decreases-loop-done : goal.decreases-loop-done
decreases-loop-done g l = l.pages - l.done
