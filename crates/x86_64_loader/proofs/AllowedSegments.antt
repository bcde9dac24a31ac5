-- Segments that may be loaded are ranges that may be mapped.
use Rattle.std.proofs.Common.{◌≡◌, ◌<◌, ◌*◌, ◌+◌, ◌↔◌, true, refl, sym, ◌∙◌, subst}
use Rattle.x86_64_model.specs.Entry.{present}
use Rattle.x86_64_model.specs.MapRule.{parent_part}
use Rattle.x86_64_model.specs.Hierarchy.{Hierarchy}
use Rattle.x86_64_model.specs.Position.{position_count}
use Rattle.x86_64_model.proofs.Lemmas.Maps.Arrives.{part_has}
use Rattle.x86_64_tables.specs.PageTableFlags.{bits_of}
use Rattle.x86_64_mappers.specs.Ranges.{MayMapRange, range_of}
use Rattle.x86_64_loader.specs.Segments.{IsAllowed}
use Rattle.x86_64_loader.specs.declared.segment.Segment.{Segment}

pub range_is_allowed : {Lent : Type 0} (h : Hierarchy Lent) → h.layout.levels ≡ 4 → (s : Segment)
    → ((present (parent_part (bits_of s.flags)) ≡ true) × MayMapRange h (range_of 1 s.page s.frame (bits_of s.flags) (parent_part (bits_of s.flags))) s.pages) ↔ IsAllowed h s
range_is_allowed h four s = (
  λ may. record {
    is_present = sym (part_has (bits_of s.flags) 1 refl) ∙ may.0;
    each_page = λ k less. record {
      page_there = subst (λ n. s.page + k * 0x1000 < position_count n) four (may.1.pages k less);
      frame_there = may.1.frames k less;
      allowed = may.1.allowed k less;
    };
  },
  λ allowed. (
    part_has (bits_of s.flags) 1 refl ∙ allowed.is_present,
    record {
      pages = λ k less. subst (λ n. s.page + k * 0x1000 < position_count n) (sym four) (allowed.each_page k less).page_there;
      frames = λ k less. (allowed.each_page k less).frame_there;
      allowed = λ k less. (allowed.each_page k less).allowed;
    },
  ),
)
