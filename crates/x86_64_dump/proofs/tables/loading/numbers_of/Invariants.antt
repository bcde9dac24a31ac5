use Rattle.std.proofs.Common.{◌≡◌, ℕ, true, take}
use Rattle.std.specs.List.{list_any}
use Rattle.x86_64_model.specs.Entry.{is_frame}
use Rattle.x86_64_dump.specs.Tables.{is_among}
use Rattle.x86_64_dump.specs.private.FrameNumbers.{has_number, AreFrameNumbers}
use Rattle.x86_64_dump.proofs.tables.loading.numbers_of.Given as goal

-- the numbers are those of the frames of the levels so far
abbrev pub invariant-loop-level : goal.invariant-loop-level
invariant-loop-level l = record {
  numbers : (f : ℕ) → is_frame f ≡ true → has_number l.numbers.items f ≡ list_any (λ level. is_among level.items f) (take l.level-index l.frames);
  below : AreFrameNumbers l.numbers.items;
}
