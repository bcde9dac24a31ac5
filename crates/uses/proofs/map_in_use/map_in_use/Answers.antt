use Rattle.std.proofs.Common.{◌≡◌, ◌∙◌, true, false, refl, sym, ap, subst}
use Rattle.uses.specs.Owned.{hierarchy}
use Rattle.x86_64_model.specs.Call.{MapToWithTableFlags}
use Rattle.x86_64_model.specs.Hierarchy.{DoesMap, SupplyFits, allows}
use Rattle.x86_64_model.specs.Refusal.{Done}
use Rattle.x86_64_tables.specs.PageTableFlags.{bits_of}
use Rattle.uses.proofs.map_in_use.map_in_use.Goals as goal

pub may_map-requires : goal.may_map-requires
may_map-requires g c = c.requires.valid

pub returns-then-not-may_map-clause-fits : goal.returns-then-not-may_map-clause-fits
returns-then-not-may_map-clause-fits g c =
    subst (λ m. SupplyFits (hierarchy c.args.root m) c.args.pool.now.frames) (sym c.may_map.ensures.kept) c.requires

pub returns-then-not-may_map-clause-allowed : goal.returns-then-not-may_map-clause-allowed
returns-then-not-may_map-clause-allowed g c =
    let h = hierarchy c.args.root (g.T.TableMemory.tables c.args.memory.now) in
    subst (λ more. false ≡ allows h (MapToWithTableFlags 1 c.args.page c.args.frame (bits_of c.args.flags) more)) c.parent_flags.ensures
    c.if-not-may_map.ensures.answer

pub returns-then-not-may_map-clause-kept : goal.returns-then-not-may_map-clause-kept
returns-then-not-may_map-clause-kept g c unmapped = (c.may_map.ensures.kept, refl)

pub map_or_nothing-requires-clause-may : goal.map_or_nothing-requires-clause-may
map_or_nothing-requires-clause-may g c =
    let call = MapToWithTableFlags 1 c.args.page c.args.frame (bits_of c.args.flags) (bits_of c.parent_flags.result) in
    record {
      fits = subst (λ m. SupplyFits (hierarchy c.args.root m) c.args.pool.now.frames) (sym c.may_map.ensures.kept) c.requires;
      allowed = subst (λ m. allows (hierarchy c.args.root m) call ≡ true) (sym c.may_map.ensures.kept) (sym c.if-not-may_map.ensures.answer);
    }

pub returns-in_err-map_or_nothing-clause-fits : goal.returns-in_err-map_or_nothing-clause-fits
returns-in_err-map_or_nothing-clause-fits g c =
    let same = c.in_err-map_or_nothing.ensures.refused in
    subst (λ m. SupplyFits (hierarchy c.args.root m) c.map_or_nothing.new.frame_allocator.frames) (sym (ap g.T.TableMemory.tables same.0 ∙
    c.may_map.ensures.kept))
    (subst (λ pool. SupplyFits (hierarchy c.args.root (g.T.TableMemory.tables c.args.memory.now)) pool.frames) (sym same.1) c.requires)

pub returns-in_err-map_or_nothing-clause-kept : goal.returns-in_err-map_or_nothing-clause-kept
returns-in_err-map_or_nothing-clause-kept g c unmapped =
    let same = c.in_err-map_or_nothing.ensures.refused in
    (ap g.T.TableMemory.tables same.0 ∙ c.may_map.ensures.kept, same.1)

pub returns-clause-fits : goal.returns-clause-fits
returns-clause-fits g c = (c.in_ok-map_or_nothing.ensures.maps.done refl).map.fits

pub returns-clause-allowed : goal.returns-clause-allowed
returns-clause-allowed g c =
    let h = hierarchy c.args.root (g.T.TableMemory.tables c.args.memory.now) in
    subst (λ more. true ≡ allows h (MapToWithTableFlags 1 c.args.page c.args.frame (bits_of c.args.flags) more)) c.parent_flags.ensures
    c.if-not-may_map.ensures.answer

pub returns-clause-maps : goal.returns-clause-maps
returns-clause-maps g c mapped =
    let given = bits_of c.args.flags in
    let now = hierarchy c.args.root (g.T.TableMemory.tables c.map_or_nothing.new.memory) in
    let free = c.args.pool.now.frames in
    let rest = c.map_or_nothing.new.frame_allocator.frames in
    let before = g.T.TableMemory.tables c.args.memory.now in
    subst (λ more. DoesMap (hierarchy c.args.root before) free (MapToWithTableFlags 1 c.args.page c.args.frame given more) (Done
    c.args.frame) now rest) c.parent_flags.ensures
    (subst (λ m. DoesMap (hierarchy c.args.root m) free (MapToWithTableFlags 1 c.args.page c.args.frame given (bits_of c.parent_flags.result))
    (Done c.args.frame) now rest)
    c.may_map.ensures.kept (c.in_ok-map_or_nothing.ensures.maps.done refl).map)
