use Rattle.std.proofs.Common.{◌≡◌, ◌<◌, ◌≤◌, ◌&&◌, false, length, get_or, Some, None, sym, ap, ◌∙◌, subst, arith}
use Rattle.x86_64_model.specs.Entry.{present}
use Rattle.x86_64_model.specs.Mappings.{maps_page, granted}
use Rattle.x86_64_model.specs.Memory.{words_of}
use Rattle.x86_64_tables.specs.EntryTargets.{target_of}
use Rattle.x86_64_mappings.specs.private.Cursors.{table_by}
use Rattle.x86_64_mappings.proofs.Entries.{past_fits}
use Rattle.x86_64_mappings.proofs.Steps.{there_first, past_absent, past_unmapped, past_step, on_below, below_step}
use Rattle.x86_64_mappings.proofs.listing.cursor.step.Goals as goal

pub returns-then-absent-gt0 : goal.returns-then-absent-gt0
returns-then-absent-gt0 g c =
    let L = g.L.LevelCount.LEVELS in
    let words = words_of (g.T.TableMemory.tables c.args.memory.now) (g.P.PageTableFrameMapping.places c.args.mapping.now) in
    let from = c.args.cursor.now in
    let some : 1 ≤ c.count_absent-absent.result = omega (arith, c.if-absent-gt0.true) in
    let few = c.count_absent-absent.ensures.within in
    past_step L words c.args.root from c.past.result g.L.LevelCount.at_most_five c.requires.on c.count_absent-absent.result some few
    c.past.ensures.next c.past.ensures.level c.past.ensures.rights c.past.ensures.rest
    (past_absent L words c.args.root from.next from.level from.rights from.rest.now c.requires.on c.count_absent-absent.result some few c.count_absent-absent.ensures.before)

pub returns-in-Some-table_below : goal.returns-in-Some-table_below
returns-in-Some-table_below g c =
    let L = g.L.LevelCount.LEVELS in
    let words = words_of (g.T.TableMemory.tables c.args.memory.now) (g.P.PageTableFrameMapping.places c.args.mapping.now) in
    let from = c.args.cursor.now in
    let e = get_or from.rest.now 0 0 in
    let some : 0 < length from.rest.now = c.in-Some.ensures.item.3.0 in
    let first : c.in-Some.first.now ≡ e = c.in-Some.ensures.item.3.1 0 in
    let is : table_by words (target_of from.level e) ≡ Some c.in-Some-table_below.table.now =
    subst (λ e. table_by words (target_of from.level e) ≡ Some c.in-Some-table_below.table.now) first (sym c.in-Some-table_below.ensures) in
    let below = on_below L words c.args.root from.next from.level from.rights from.rest.now c.requires.on c.in-Some-table_below.table.now some is c.on.ensures.size in
    let rights = c.on.ensures.rights ∙ c.below-rights.ensures ∙ ap (granted from.rights) first in
    below_step L words c.args.root from c.on.result g.L.LevelCount.at_most_five c.requires.on c.in-Some-table_below.table.now c.on.ensures.size some below.0 below.1
    c.on.ensures.next c.on.ensures.level rights c.on.ensures.rest

pub returns-in-None : goal.returns-in-None
returns-in-None g c =
    let L = g.L.LevelCount.LEVELS in
    let words = words_of (g.T.TableMemory.tables c.args.memory.now) (g.P.PageTableFrameMapping.places c.args.mapping.now) in
    let from = c.args.cursor.now in
    let e = get_or from.rest.now 0 0 in
    let some : 0 < length from.rest.now = c.in-Some.ensures.item.3.0 in
    let first : c.in-Some.first.now ≡ e = c.in-Some.ensures.item.3.1 0 in
    let no_page : (present e && maps_page from.level e) ≡ false = sym (there_first L from.next from.level from.rest.now some) ∙ c.requires.not_there in
    let none : table_by words (target_of from.level e) ≡ None = subst (λ e. table_by words (target_of from.level e) ≡ None) first (sym c.in-None.ensures) in
    past_step L words c.args.root from c.past-in-None.result g.L.LevelCount.at_most_five c.requires.on 1 (omega arith) (omega (arith, some))
    c.past-in-None.ensures.next c.past-in-None.ensures.level c.past-in-None.ensures.rights c.past-in-None.ensures.rest
    (past_unmapped L words c.args.root from.next from.level from.rights from.rest.now c.requires.on some no_page none)

pub past-requires-clause-room : goal.past-requires-clause-room
past-requires-clause-room g c =
    let words = words_of (g.T.TableMemory.tables c.args.memory.now) (g.P.PageTableFrameMapping.places c.args.mapping.now) in
    let from = c.args.cursor.now in
    past_fits g.L.LevelCount.LEVELS words c.args.root from.next from.level from.rights from.rest.now c.requires.on
    g.L.LevelCount.at_most_five c.count_absent-absent.result c.count_absent-absent.ensures.within

pub past-requires-in-None-clause-room : goal.past-requires-in-None-clause-room
past-requires-in-None-clause-room g c =
    let words = words_of (g.T.TableMemory.tables c.args.memory.now) (g.P.PageTableFrameMapping.places c.args.mapping.now) in
    let from = c.args.cursor.now in
    let some : 0 < length from.rest.now = c.in-Some.ensures.item.3.0 in
    past_fits g.L.LevelCount.LEVELS words c.args.root from.next from.level from.rights from.rest.now c.requires.on g.L.LevelCount.at_most_five 1 (omega (arith, some))
