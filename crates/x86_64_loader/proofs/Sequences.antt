-- Parts of a segment, one after another.
use Rattle.std.proofs.Common.{◌≡◌, ◌≤◌, ◌+◌, ◌++◌, ℕ, List, inl, inr, subst, arith}
use Rattle.std.proofs.lemmas.Bool.{cases_lt}
use Rattle.x86_64_model.specs.Hierarchy.{Hierarchy, IsMappedAs}
use Rattle.x86_64_model.specs.PageMappings.{PageMapping}
use Rattle.x86_64_model.specs.Refusal.{Refusal}
use Rattle.x86_64_tables.specs.PageTableFlags.{bits_of}
use Rattle.x86_64_mappers.specs.Supplies.{Supply}
use Rattle.x86_64_loader.specs.private.Loads.{IsHalted, SegmentIsMapped}
use Rattle.x86_64_loader.specs.declared.segment.Segment.{Segment}
use Rattle.x86_64_loader.proofs.Holding.{held_reached, held_still, reached_after}
use Rattle.x86_64_loader.proofs.Listed.{all_both_lists, cut_before, cut_behind}
use Rattle.x86_64_loader.proofs.Made.{accepts_then, refuses_then}
use Rattle.x86_64_loader.proofs.Runs.{free_then, kept_then, leaves_then, still_stand}

pub halted_as : {Lent : Type 0} (h after : Hierarchy Lent) (supply rest : Supply) (s : Segment) (pages others : List PageMapping) (low mapped : ℕ) (why : Refusal)
    → pages ≡ others → IsHalted h supply s pages low mapped why after rest → IsHalted h supply s others low mapped why after rest
halted_as h after supply rest s pages others low mapped why same = subst (λ pages. IsHalted h supply s pages low mapped why after rest) same

-- a load of pages that was refused is also one of more pages after them
pub halted_behind : {Lent : Type 0} (h after : Hierarchy Lent) (supply rest : Supply) (s : Segment) (pages more : List PageMapping) (low mapped : ℕ) (why : Refusal)
    → IsHalted h supply s pages low mapped why after rest → IsHalted h supply s (pages ++ more) low mapped why after rest
halted_behind h after supply rest s pages more low mapped why halted = record {
  above = halted.above;
  within = halted.within;
  pages_before = halted.pages_before;
  kept = halted.kept;
  before = halted.before;
  next = halted.next;
  left = halted.left ++ more;
  cut = cut_behind pages more halted.before halted.left halted.next halted.cut;
  page = halted.page;
  refused = halted.refused;
}

module _ {Lent : Type 0} (h now after : Hierarchy Lent) (supply between rest : Supply) (s : Segment) (pages others : List PageMapping) (first size next low : ℕ) (meet : next ≤ first + size) (from : first ≤ low)
    (one : SegmentIsMapped h supply s pages first size now between) where
  -- pages that were mapped, followed by others that are
  pub mapped_then : (more total : ℕ) → low + total ≤ next + more → SegmentIsMapped now between s others next more after rest → SegmentIsMapped h supply s (pages ++ others) low total after rest
  mapped_then more total to two = record {
    held = λ o starts ends. elim (cases_lt o (first + size)) [
      | inl before ↦ held_still now (s.page + o) (s.frame + o) (bits_of s.flags) (one.held o (omega (arith, from, starts)) before) after rest two.leaves
      | inr not_before ↦ two.held o (omega (arith, not_before, meet)) (omega (arith, ends, to))
    ];
    were_free = free_then h now between (s.page + first) size (s.page + next) more (s.page + low) total (omega (arith, from)) (omega (arith, meet)) (omega (arith, to))
        one.were_free one.leaves two.were_free;
    leaves = leaves_then h now after between rest 3 3 3 (omega arith) (omega arith) one.leaves two.leaves;
    stand = all_both_lists (λ x. IsMappedAs after x.level x.page x.frame x.flags) pages others (still_stand now after between rest two.leaves pages one.stand) two.stand;
    accepted = accepts_then h now after supply.frames between.frames rest.frames pages others one.leaves.kept.layout one.accepted two.accepted;
  }

  -- pages that were mapped, followed by others that were refused
  pub halted_then : (mapped : ℕ) (why : Refusal) → low ≤ next → IsHalted now between s others next mapped why after rest → IsHalted h supply s (pages ++ others) low mapped why after rest
  halted_then mapped why after_low halted = record {
    above = let above = halted.above in omega (arith, above, after_low);
    within = halted.within;
    pages_before = λ o starts ends. elim (cases_lt o (first + size)) [
      | inl before ↦ reached_after now after rest s o halted.kept
          (held_reached now (s.page + o) (s.frame + o) (bits_of s.flags) (one.held o (omega (arith, from, starts)) before) one.leaves.kept.fits.valid)
      | inr not_before ↦ halted.pages_before o (omega (arith, not_before, meet)) ends
    ];
    kept = kept_then h now after between rest one.leaves.kept halted.kept;
    before = pages ++ halted.before;
    next = halted.next;
    left = halted.left;
    cut = cut_before pages others halted.before halted.left halted.next halted.cut;
    page = halted.page;
    refused = refuses_then h now after supply.frames between.frames rest.frames pages halted.before one.leaves.kept.layout halted.next why one.accepted halted.refused;
  }
