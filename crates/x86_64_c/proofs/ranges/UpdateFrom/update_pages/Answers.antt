use Rattle.std.proofs.Common.{not, true≢false, refl, sym, ap, ◌∙◌, rules}
use Rattle.x86_64_mappers.specs.Layouts.{direct_at}
use Rattle.x86_64_mappers.specs.RangeChanges.{updates}
use Rattle.x86_64_tables.specs.PageTableFlags.{bits_of}
use Rattle.x86_64_c.proofs.EntryChanges.{plain, valid_over}
use Rattle.x86_64_c.proofs.RangeArguments.{ends_there}
use Rattle.x86_64_c.proofs.RangesSeen.{changes_each, range_is, updates_are}
use Rattle.x86_64_c.proofs.ranges.UpdateFrom.update_pages.Goals as goal

pub returns-clause-updates : goal.returns-clause-updates
returns-clause-updates g c =
    let L = g.L.LevelCount.LEVELS in
    let layout = direct_at L (g.P.PageTableFrameMapping.places c.args.located.mapping) c.args.located.root in
    let given = bits_of c.args.self.now.flags in
    let does = c.update_flags_range-number.ensures.does in
    rw (← c.requires.is_page.level_is, ← c.requires.is_page.position_is) (
      λ refused. let fits = c.has_address_bits.ensures in search rules,
      λ may. (
        _,
        refl,
        record {
          replies = does.0;
          changes = changes_each _ _ layout (g.T.TableMemory.tables c.args.memory.now) _ c.new-mapper.ensures.layout c.new-mapper.ensures.memory (search rules) plain
              (updates g.S.PageSize.LEVEL c.args.page given c.args.self.now.count) does.0
              (updates_are L g.S.PageSize.LEVEL g.S.PageSize.low g.S.PageSize.high g.L.LevelCount.at_least_four c.args.page given c.args.self.now.count) does.1;
          number = does.2;
          status_is = refl;
        },
      ),
    )

pub returns-then-has_address_bits-clause-updates : goal.returns-then-has_address_bits-clause-updates
returns-then-has_address_bits-clause-updates g c = (
  λ refused. (refl, refl),
  λ may. absurd (true≢false (sym c.if-has_address_bits.true ∙ c.has_address_bits.ensures ∙ ap not may)),
)

pub update_flags_range-number-requires-clause-valid : goal.update_flags_range-number-requires-clause-valid
update_flags_range-number-requires-clause-valid g c =
    valid_over _ _ _ _ c.new-mapper.ensures.layout c.new-mapper.ensures.memory c.requires.valid

pub update_flags_range-number-requires-clause-pages : goal.update_flags_range-number-requires-clause-pages
update_flags_range-number-requires-clause-pages g c =
    range_is _ _ _ _ c.new-mapper.ensures.layout _ _ _
    (ends_there g.L.LevelCount.LEVELS g.L.LevelCount.known_levels c.args.self.now.first.now _ _ c.args.self.now.count c.requires.pages c.requires.is_page)
