use Rattle.std.proofs.Common.{◌≡◌, ◌||◌, ℕ, true, take}
use Rattle.x86_64_model.specs.Entry.{is_frame}
use Rattle.x86_64_dump.specs.Tables.{is_among}
use Rattle.x86_64_dump.specs.private.FrameNumbers.{has_number, AreFrameNumbers}
use Rattle.x86_64_dump.proofs.tables.loading.add_numbers.Given as goal

-- the numbers of the frames so far have been added
abbrev pub invariant-loop-frame : goal.invariant-loop-frame
invariant-loop-frame l = record {
  numbers : (f : ℕ) → is_frame f ≡ true → has_number l.numbers.items f ≡ (has_number l.fn.numbers.items f || is_among (take l.frame-index l.frames) f);
  below : AreFrameNumbers l.fn.numbers.items → AreFrameNumbers l.numbers.items;
}
