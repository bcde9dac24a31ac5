use Rattle.std.proofs.Common.{◌≡◌, true≢false, ℕ, true, Option, Some, Result, Ok, Err, IfOk, IfErr, ap, sym, ◌∙◌, refl, rules}
use Rattle.x86_64_mappers.specs.Layouts.{direct_at}
use Rattle.x86_64_c.specs.Ranges.{range_of_request}
use Rattle.x86_64_c.specs.private.RangeMaps.{is_without_number}
use Rattle.x86_64_c.proofs.EntryChanges.{plain, supply_over}
use Rattle.x86_64_c.proofs.RangesSeen.{mapped, maps_are, range_over, range_seen}
use Rattle.x86_64_c.proofs.ranges.RangeMapPoolStep.take.Goals as goal

is_told : {X E : Type 0} (mapped : Result X E) (told : Option ℕ) (all : X → ℕ) (some : E → ℕ) → IfOk mapped (λ x. told ≡ Some (all x)) → IfErr mapped
    (λ e. told ≡ Some (some e))
    → is_without_number told ≡ true → ⊥
is_told (Ok x) told all some is other none = true≢false (sym none ∙ ap is_without_number is)
is_told (Err e) told all some other is none = true≢false (sym none ∙ ap is_without_number is)

pub returns-clause-does : goal.returns-clause-does
returns-clause-does g c =
    let L = g.L.LevelCount.LEVELS in
    let map = c.args.self.now in
    let range = range_of_request g.S.PageSize.LEVEL map in (
      λ refused.
          let may = c.map_range_allowed.ensures.0 c.if-not-map_range_allowed.false in
          absurd (refused (may.0, range_seen _ _ _ c.new-mapper.ensures.layout c.new-mapper.ensures.memory _ _ may.1)),
      λ may.
          mapped _ _ (direct_at L (g.P.PageTableFrameMapping.places c.args.located.mapping) c.args.located.root) (g.T.TableMemory.tables c.args.memory.now) _ c.new-mapper.ensures.layout c.new-mapper.ensures.memory (search rules) plain
          _ _ range
          (maps_are L g.S.PageSize.LEVEL g.S.PageSize.low g.S.PageSize.high g.L.LevelCount.at_least_four range refl) c.requires.fits
          map.page map.count c.map_range-mapped.result c.map_range-mapped.ensures.maps.maps c.map_range-mapped.ensures.pages
          c.tell_mapped.result.status c.tell_mapped.result.done c.tell_mapped.ensures.status c.tell_mapped.ensures.all c.tell_mapped.ensures.some,
    )

pub returns-then-not-map_range_allowed-clause-does : goal.returns-then-not-map_range_allowed-clause-does
returns-then-not-map_range_allowed-clause-does g c = (
  λ refused. (refl, refl),
  λ may.
      let allowed = c.map_range_allowed.ensures.1 (may.0, range_over _ _ _ c.new-mapper.ensures.layout c.new-mapper.ensures.memory _ _ may.1) in
      absurd (true≢false (sym allowed ∙ c.if-not-map_range_allowed.true)),
)

pub map_range-mapped-requires-clause-fits : goal.map_range-mapped-requires-clause-fits
map_range-mapped-requires-clause-fits g c = supply_over _ _ _ _ c.new-mapper.ensures.layout c.new-mapper.ensures.memory _ _ c.requires.fits

pub map_range-mapped-requires-clause-may : goal.map_range-mapped-requires-clause-may
map_range-mapped-requires-clause-may g c = (c.map_range_allowed.ensures.0 c.if-not-map_range_allowed.false).1

pub new-mapper-requires : goal.new-mapper-requires
new-mapper-requires g c = c.requires.fits.valid

pub returns-clause-unchanged : goal.returns-clause-unchanged
returns-clause-unchanged g c = λ none. absurd
    (is_told c.map_range-mapped.result c.tell_mapped.result.done _ _ c.tell_mapped.ensures.all c.tell_mapped.ensures.some none)

pub returns-clause-serves : goal.returns-clause-serves
returns-clause-serves g c = c.map_range-mapped.ensures.maps.serves
