use Rattle.std.proofs.Common.{◌≡◌, ◌<◌, ◌∷◌, length, get_or, [], sym, ap, ap₂, ◌∙◌, arith}
use Rattle.std.proofs.lemmas.List.{get_or_read}
use Rattle.std.proofs.lemmas.Bool.{and_parts}
use Rattle.x86_64_model.specs.Entry.{present}
use Rattle.x86_64_model.specs.Mappings.{maps_page}
use Rattle.x86_64_model.specs.Memory.{words_of}
use Rattle.x86_64_model.specs.Position.{position_count}
use Rattle.x86_64_model.specs.private.Found.{page_at}
use Rattle.x86_64_mappings.specs.private.Cursors.{listed_from}
use Rattle.x86_64_mappings.proofs.Entries.{on_past, past_fits, next_inside}
use Rattle.x86_64_mappings.proofs.Steps.{small_first, there_first, there_last, page_first, none_last, goes_first}
use Rattle.x86_64_mappings.proofs.listing.MappingsInIterator.next.Goals as goal

pub invariant_of-self : goal.invariant_of-self
invariant_of-self g c =
    let L = g.L.LevelCount.LEVELS in
    let s = c.self.inside in
    let words = words_of (g.T.TableMemory.tables s.memory.now) (g.P.PageTableFrameMapping.places s.mapping.now) in
    let at = s.cursor in
    let small = small_first at.level at.rest.now (sym c.if-is_at_small_page.ensures) in
    rw (c.past-self-inside.ensures.rest, c.past-self-inside.ensures.next, c.past-self-inside.ensures.level, c.past-self-inside.ensures.rights)
    (on_past L words s.root at.next at.level at.rights at.rest.now c.self.invariant 1 (omega arith) (let some = small.some in omega (arith, some)))

pub returns-then-is_at_small_page-clause-steps : goal.returns-then-is_at_small_page-clause-steps
returns-then-is_at_small_page-clause-steps g c =
    let L = g.L.LevelCount.LEVELS in
    let s = c.self.inside in
    let words = words_of (g.T.TableMemory.tables s.memory.now) (g.P.PageTableFrameMapping.places s.mapping.now) in
    let at = s.cursor in
    let small = small_first at.level at.rest.now (sym c.if-is_at_small_page.ensures) in
    let entry : get_or at.rest.now 0 c.index-self-0.result ≡ get_or at.rest.now 0 0 =
    sym c.index-self-0.is ∙ get_or_read at.rest.now 0 c.index-self-0.result small.some c.index-self-0.is 0 in
    let page : c.of_page-page.result ≡ page_at at.next at.level at.rights (get_or at.rest.now 0 0) =
    c.of_page-page.ensures ∙ ap₂ (λ level e. page_at at.next level at.rights e) (sym small.level_is) entry in
    sym c.self.view_is ∙ page_first L words s.root at.next at.level at.rights at.rest.now c.self.invariant small.some small.page
    ∙ ap₂ (λ m next. m ∷ listed_from L words s.root next) (sym page) (sym c.past-self-inside.ensures.next)

pub returns-then-is_at_small_page-clause-goes : goal.returns-then-is_at_small_page-clause-goes
returns-then-is_at_small_page-clause-goes g c = goes_first _ _ _ (returns-then-is_at_small_page-clause-steps g c)

pub returns-in_default-clause-steps : goal.returns-in_default-clause-steps
returns-in_default-clause-steps g c =
    let L = g.L.LevelCount.LEVELS in
    let s = c.self.inside in
    let words = words_of (g.T.TableMemory.tables s.memory.now) (g.P.PageTableFrameMapping.places s.mapping.now) in
    let at = c.find_page.new.cursor in
    let last : at.next ≡ position_count L = there_last L at.next at.level at.rest.now c.in_default.ensures.item.3 c.find_page.ensures.there in
    let ended : listed_from L words s.root at.next ≡ [] = ap (listed_from L words s.root) last ∙ none_last L words s.root in
    (sym c.self.view_is ∙ ap (λ at. listed_from L words s.root at.next) (sym c.copied-found.ensures) ∙ c.find_page.ensures.same ∙ ended, ended)

pub invariant_of-self-2 : goal.invariant_of-self-2
invariant_of-self-2 g c =
    let L = g.L.LevelCount.LEVELS in
    let s = c.self.inside in
    let words = words_of (g.T.TableMemory.tables s.memory.now) (g.P.PageTableFrameMapping.places s.mapping.now) in
    let at = c.find_page.new.cursor in
    let some : 0 < length at.rest.now = c.in-Some.ensures.item.3.0 in
    rw (c.past-self-inside-2.ensures.rest, c.past-self-inside-2.ensures.next, c.past-self-inside-2.ensures.level, c.past-self-inside-2.ensures.rights)
    (on_past L words s.root at.next at.level at.rights at.rest.now c.find_page.ensures.on 1 (omega arith) (omega (arith, some)))

pub returns-clause-steps : goal.returns-clause-steps
returns-clause-steps g c =
    let L = g.L.LevelCount.LEVELS in
    let s = c.self.inside in
    let words = words_of (g.T.TableMemory.tables s.memory.now) (g.P.PageTableFrameMapping.places s.mapping.now) in
    let at = c.find_page.new.cursor in
    let some : 0 < length at.rest.now = c.in-Some.ensures.item.3.0 in
    let entry : c.in-Some.entry.now ≡ get_or at.rest.now 0 0 = c.in-Some.ensures.item.3.1 0 in
    let page = sym (there_first L at.next at.level at.rest.now some) ∙ c.find_page.ensures.there in
    sym c.self.view_is ∙ ap (λ at. listed_from L words s.root at.next) (sym c.copied-found.ensures) ∙ c.find_page.ensures.same ∙ page_first L words s.root at.next at.level at.rights at.rest.now c.find_page.ensures.on some page
    ∙ ap₂ (λ m next. m ∷ listed_from L words s.root next) (sym (c.of_page.ensures ∙ ap (page_at at.next at.level at.rights) entry)) (sym c.past-self-inside-2.ensures.next)

pub returns-clause-goes : goal.returns-clause-goes
returns-clause-goes g c = goes_first _ _ _ (returns-clause-steps g c)

pub past-self-inside-requires-clause-room : goal.past-self-inside-requires-clause-room
past-self-inside-requires-clause-room g c =
    let s = c.self.inside in
    let words = words_of (g.T.TableMemory.tables s.memory.now) (g.P.PageTableFrameMapping.places s.mapping.now) in
    let at = s.cursor in
    let small = small_first at.level at.rest.now (sym c.if-is_at_small_page.ensures) in
    past_fits g.L.LevelCount.LEVELS words s.root at.next at.level at.rights at.rest.now c.self.invariant g.L.LevelCount.at_most_five 1 (let some = small.some in omega (arith, some))

pub past-self-inside-requires-2-clause-room : goal.past-self-inside-requires-2-clause-room
past-self-inside-requires-2-clause-room g c =
    let s = c.self.inside in
    let words = words_of (g.T.TableMemory.tables s.memory.now) (g.P.PageTableFrameMapping.places s.mapping.now) in
    let at = c.find_page.new.cursor in
    let some : 0 < length at.rest.now = c.in-Some.ensures.item.3.0 in
    past_fits g.L.LevelCount.LEVELS words s.root at.next at.level at.rights at.rest.now c.find_page.ensures.on g.L.LevelCount.at_most_five 1 (omega (arith, some))

pub of_page-page-requires-clause-inside : goal.of_page-page-requires-clause-inside
of_page-page-requires-clause-inside g c =
    let s = c.self.inside in
    let words = words_of (g.T.TableMemory.tables s.memory.now) (g.P.PageTableFrameMapping.places s.mapping.now) in
    let at = s.cursor in
    let small = small_first at.level at.rest.now (sym c.if-is_at_small_page.ensures) in
    next_inside g.L.LevelCount.LEVELS words s.root at.next at.level at.rights at.rest.now c.self.invariant small.some

pub of_page-requires-clause-low : goal.of_page-requires-clause-low
of_page-requires-clause-low g c = c.find_page.ensures.on.low

pub of_page-requires-clause-page : goal.of_page-requires-clause-page
of_page-requires-clause-page g c =
    let at = c.find_page.new.cursor in
    let some : 0 < length at.rest.now = c.in-Some.ensures.item.3.0 in
    let entry : c.in-Some.entry.now ≡ get_or at.rest.now 0 0 = c.in-Some.ensures.item.3.1 0 in
    let page = sym (there_first g.L.LevelCount.LEVELS at.next at.level at.rest.now some) ∙ c.find_page.ensures.there in
    ap (maps_page at.level) entry ∙ (and_parts (present (get_or at.rest.now 0 0)) (maps_page at.level (get_or at.rest.now 0 0)) page).1

pub of_page-requires-clause-inside : goal.of_page-requires-clause-inside
of_page-requires-clause-inside g c =
    let s = c.self.inside in
    let words = words_of (g.T.TableMemory.tables s.memory.now) (g.P.PageTableFrameMapping.places s.mapping.now) in
    let at = c.find_page.new.cursor in
    next_inside g.L.LevelCount.LEVELS words s.root at.next at.level at.rights at.rest.now c.find_page.ensures.on c.in-Some.ensures.item.3.0
