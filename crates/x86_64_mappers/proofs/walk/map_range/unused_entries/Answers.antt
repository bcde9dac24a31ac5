use Rattle.std.proofs.Common.{◌≡◌, ◌+◌, false, get_or, sym, ap, ◌∙◌, arith}
use borrow.Author.Count.{below_more}
use Rattle.x86_64_model.specs.Entry.{used}
use Rattle.x86_64_mappers.proofs.Range.Leaves.{is_used, isnt_used}
use Rattle.x86_64_mappers.proofs.walk.map_range.unused_entries.Goals as goal

pub loop-k-init : goal.loop-k-init
loop-k-init c = record { unused = λ j less. absurd (omega (arith, less)); size = λ some. absurd (omega (arith, some)) }

pub loop-k-preserved : goal.loop-k-preserved
loop-k-preserved c = record {
  unused = below_more (λ j. used (get_or c.args.table.now (c.args.first + j) 0) ≡ false) c.loop-k.k c.loop-k.invariant.unused
      (ap used (sym c.index.ensures.0) ∙ isnt_used _ _ c.is_unused.ensures c.if-not-is_unused.false);
  size = λ some. c.index.ensures.1;
}

pub returns-then-not-is_unused-clause-free : goal.returns-then-not-is_unused-clause-free
returns-then-not-is_unused-clause-free c = record {
  unused = c.loop-k.invariant.unused;
  stops = λ less. ap used (sym c.index.ensures.0) ∙ is_used _ _ c.is_unused.ensures c.if-not-is_unused.true;
}
