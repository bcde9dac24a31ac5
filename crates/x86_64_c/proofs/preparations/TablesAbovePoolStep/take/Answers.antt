use Rattle.std.proofs.Common.{refl, sym, ap, ◌∙◌}
use Rattle.x86_64_model.specs.Call.{MapToWithTableFlags}
use Rattle.x86_64_mappers.specs.Layouts.{direct_at}
use Rattle.x86_64_mappers.specs.TablesAbove.{tables_refusal}
use Rattle.x86_64_tables.specs.PageTableFlags.{bits_of}
use Rattle.x86_64_c.proofs.EntryChanges.{supply_over}
use Rattle.x86_64_c.proofs.OrNothing.{if_refused}
use Rattle.x86_64_c.proofs.PoolSteps.{seen_allows}
use Rattle.x86_64_c.proofs.Prepared.{not_prepared, page_prepared, prepared_serves, told_status}
use Rattle.x86_64_c.proofs.preparations.TablesAbovePoolStep.take.Goals as goal

pub may_prepare-requires : goal.may_prepare-requires
may_prepare-requires g c = c.requires.fits.valid

pub prepare-prepared-requires-clause-may : goal.prepare-prepared-requires-clause-may
prepare-prepared-requires-clause-may g c =
    let l = direct_at g.L.LevelCount.LEVELS (g.P.PageTableFrameMapping.places c.args.located.mapping) c.args.located.root in
    let map = MapToWithTableFlags g.S.PageSize.LEVEL c.args.self.now.page 0 0 (bits_of c.args.self.now.parent_flags) in
    record {
      fits = supply_over l l _ _ refl c.may_prepare.ensures.kept _ _ c.requires.fits;
      allowed = seen_allows l l _ _ refl c.may_prepare.ensures.kept map ∙ sym c.may_prepare.ensures.answer ∙ c.if-not-may_prepare.false;
    }

pub returns-then-not-may_prepare-clause-does : goal.returns-then-not-may_prepare-clause-does
returns-then-not-may_prepare-clause-does g c =
    let l = direct_at g.L.LevelCount.LEVELS (g.P.PageTableFrameMapping.places c.args.located.mapping) c.args.located.root in
    not_prepared l _ (g.T.TableMemory.tables c.args.memory.now) g.S.PageSize.LEVEL c.args.self.now.page (bits_of c.args.self.now.parent_flags) c.requires.fits
    (sym c.may_prepare.ensures.answer ∙ c.if-not-may_prepare.true) _ c.may_prepare.ensures.kept

pub returns-clause-does : goal.returns-clause-does
returns-clause-does g c =
    let l = direct_at g.L.LevelCount.LEVELS (g.P.PageTableFrameMapping.places c.args.located.mapping) c.args.located.root in
    page_prepared l _ (g.T.TableMemory.tables c.args.memory.now) g.S.PageSize.LEVEL c.args.self.now.page (bits_of c.args.self.now.parent_flags) c.requires.fits _ _ _ c.may_prepare.ensures.kept
    (sym c.may_prepare.ensures.answer ∙ c.if-not-may_prepare.false) (tables_refusal c.prepare-prepared.result) c.prepare-prepared.ensures.prepares _ (c.prepared_status.ensures ∙ told_status c.prepare-prepared.result)

pub returns-clause-unchanged : goal.returns-clause-unchanged
returns-clause-unchanged g c = λ refuses.
    let stay = if_refused _ c.prepare-prepared.result _ c.prepared_status.ensures refuses c.prepare-prepared.ensures.refused in
    (ap g.T.TableMemory.tables stay.0 ∙ c.may_prepare.ensures.kept, stay.1)

pub returns-clause-serves : goal.returns-clause-serves
returns-clause-serves g c = prepared_serves _ _ _ _ g.S.PageSize.LEVEL c.args.self.now.page (bits_of c.args.self.now.parent_flags) c.prepare-prepared.result c.prepare-prepared.ensures.prepares
