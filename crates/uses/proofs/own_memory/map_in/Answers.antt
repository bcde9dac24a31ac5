use Rattle.std.proofs.Common.{rules, ◌≡◌, ◌∙◌, ℕ, List, true, false, Some, refl, sym, ap, subst, subst₂}
use Rattle.uses.specs.Owned.{hierarchy}
use Rattle.x86_64_mappers.specs.Layouts.{direct}
use Rattle.x86_64_mappers.specs.PageAnswers.{allows_page}
use Rattle.x86_64_model.specs.Call.{Call, MapTo}
use Rattle.x86_64_model.specs.Hierarchy.{◌laid_in◌, SupplyFits, ArrivesIn, allows, map_outcome, paths}
use Rattle.x86_64_model.specs.Layout.{Layout}
use Rattle.x86_64_model.specs.Memory.{Memory, identity_places}
use Rattle.x86_64_model.specs.Refusal.{Done}
use Rattle.x86_64_tables.specs.PageTableFlags.{bits_of}
use Rattle.uses.proofs.own_memory.map_in.Goals as goal

-- a map to the frame leads from a layout and a memory, and from these free frames, to those
abbrev Leads : (frame : ℕ) → Call → (free : List ℕ) → Layout → Memory → Layout → Memory → (rest : List ℕ) → Type 0
Leads frame call free l m k n rest =
    map_outcome l.levels l.added_flags (paths (l laid_in m)) free call
    ≡ Some (record { paths = paths (k laid_in n); supply = rest; answer = Done frame })

pub returns-then-not-map_allowed-clause-fits : goal.returns-then-not-map_allowed-clause-fits
returns-then-not-map_allowed-clause-fits g c =
    subst (λ m. SupplyFits (hierarchy c.args.root m) c.args.pool.now.frames)
    (sym (search rules ∙ c.drop-mapper.ensures.memory ∙ c.new-mapper.ensures.memory)) c.requires

pub returns-then-not-map_allowed-clause-allowed : goal.returns-then-not-map_allowed-clause-allowed
returns-then-not-map_allowed-clause-allowed g c =
    let mapper = c.new-mapper.result in
    let h = direct identity_places mapper.root laid_in g.T.TableMemory.tables mapper.memory.now in
    let call = MapTo 1 c.args.page c.args.frame (bits_of c.args.flags) in
    subst₂ (λ (l : Layout) (m : Memory). false ≡ allows (l laid_in m) call) c.new-mapper.ensures.layout c.new-mapper.ensures.memory
    (subst (λ more. false ≡ allows_page h 1 c.args.page (bits_of c.args.flags) more) c.parent_flags.ensures c.if-not-map_allowed.ensures)

pub returns-then-not-map_allowed-clause-does : goal.returns-then-not-map_allowed-clause-does
returns-then-not-map_allowed-clause-does g c allowed =
    let no : false ≡ true = returns-then-not-map_allowed-clause-allowed g c ∙ allowed in cc

pub returns-then-not-map_allowed-clause-kept : goal.returns-then-not-map_allowed-clause-kept
returns-then-not-map_allowed-clause-kept g c same = (search rules ∙ c.drop-mapper.ensures.memory ∙ c.new-mapper.ensures.memory, refl)

pub map_to-requires : goal.map_to-requires
map_to-requires g c =
    let mapper = c.new-mapper.result in
    let h = direct identity_places mapper.root laid_in g.T.TableMemory.tables mapper.memory.now in
    let supply = c.args.pool.now.frames in
    record {
      fits = subst₂ (λ (l : Layout) (m : Memory). SupplyFits (l laid_in m) supply) (sym c.new-mapper.ensures.layout)
          (sym c.new-mapper.ensures.memory) c.requires;
      allowed = sym
          (subst (λ more. true ≡ allows_page h 1 c.args.page (bits_of c.args.flags) more) c.parent_flags.ensures c.if-not-map_allowed.ensures);
    }

pub returns-in_err-map_to-clause-fits : goal.returns-in_err-map_to-clause-fits
returns-in_err-map_to-clause-fits g c =
    let step = c.map_to.ensures.does.map in
    let named = sym (ap (λ l. l.0.0) (step.keeps.lent ∙ c.new-mapper.ensures.lent)) in
    let after = g.T.TableMemory.tables c.map_to.new.self.memory.now in
    let rest = c.map_to.new.frame_allocator.frames in
    let dropped = g.T.TableMemory.tables c.drop-mapper-in_err-map_to.new.self.0 in
    subst (λ m. SupplyFits (hierarchy c.args.root m) rest)
    (sym (◌∙◌ {b = dropped} (search (rules, named)) c.drop-mapper-in_err-map_to.ensures.memory))
    (subst (λ l. SupplyFits (l laid_in after) rest) (step.keeps.layout ∙ c.new-mapper.ensures.layout) step.fits)

pub returns-clause-fits : goal.returns-clause-fits
returns-clause-fits g c =
    let step = c.map_to.ensures.does.map in
    let named = sym (ap (λ l. l.0.0) (step.keeps.lent ∙ c.new-mapper.ensures.lent)) in
    let after = g.T.TableMemory.tables c.map_to.new.self.memory.now in
    let rest = c.map_to.new.frame_allocator.frames in
    let dropped = g.T.TableMemory.tables c.drop-mapper-2.new.self.0 in
    subst (λ m. SupplyFits (hierarchy c.args.root m) rest)
    (sym (◌∙◌ {b = dropped} (search (rules, named)) c.drop-mapper-2.ensures.memory))
    (subst (λ l. SupplyFits (l laid_in after) rest) (step.keeps.layout ∙ c.new-mapper.ensures.layout) step.fits)

pub returns-clause-allowed : goal.returns-clause-allowed
returns-clause-allowed g c =
    let mapper = c.new-mapper.result in
    let h = direct identity_places mapper.root laid_in g.T.TableMemory.tables mapper.memory.now in
    let call = MapTo 1 c.args.page c.args.frame (bits_of c.args.flags) in
    subst₂ (λ (l : Layout) (m : Memory). true ≡ allows (l laid_in m) call) c.new-mapper.ensures.layout c.new-mapper.ensures.memory
    (subst (λ more. true ≡ allows_page h 1 c.args.page (bits_of c.args.flags) more) c.parent_flags.ensures c.if-not-map_allowed.ensures)

pub returns-clause-does : goal.returns-clause-does
returns-clause-does g c allowed =
    let leads = Leads c.args.frame (MapTo 1 c.args.page c.args.frame (bits_of c.args.flags)) c.args.pool.now.frames in
    let rest = c.map_to.new.frame_allocator.frames in
    let step = c.in_ok-map_to.ensures.does.map in
    let named = sym (ap (λ l. l.0.0) (step.keeps.lent ∙ c.new-mapper.ensures.lent)) in
    let dropped = g.T.TableMemory.tables c.drop-mapper-2.new.self.0 in
    let one = direct identity_places c.args.root in
    let left = direct identity_places c.map_to.new.self.root in
    let before = g.T.TableMemory.tables c.args.memory.now in
    let after = g.T.TableMemory.tables c.map_to.new.self.memory.now in
    let outcome = map_outcome 4 0 (paths (one laid_in before)) c.args.pool.now.frames (MapTo 1 c.args.page c.args.frame (bits_of c.args.flags)) in
    subst (λ n. outcome ≡ Some (record { paths = paths (hierarchy c.args.root n); supply = rest; answer = Done c.args.frame }))
    (sym (◌∙◌ {b = dropped} (search (rules, named)) c.drop-mapper-2.ensures.memory))
    (subst (λ k. leads one before k after rest) (step.keeps.layout ∙ c.new-mapper.ensures.layout)
    (subst₂ (λ (l : Layout) (m : Memory). leads l m left after rest) c.new-mapper.ensures.layout c.new-mapper.ensures.memory step.outcome))

pub returns-clause-arrives : goal.returns-clause-arrives
returns-clause-arrives g c mapped is_present =
    let given = bits_of c.args.flags in
    let step = c.map_to.ensures.does.map in
    let named = sym (ap (λ l. l.0.0) (step.keeps.lent ∙ c.new-mapper.ensures.lent)) in
    let after = g.T.TableMemory.tables c.map_to.new.self.memory.now in
    let dropped = g.T.TableMemory.tables c.drop-mapper-2.new.self.0 in
    subst (λ m. ArrivesIn (hierarchy c.args.root m) 4096 c.args.page c.args.frame given)
    (sym (◌∙◌ {b = dropped} (search (rules, named)) c.drop-mapper-2.ensures.memory))
    (subst (λ l. ArrivesIn (l laid_in after) 4096 c.args.page c.args.frame given) (step.keeps.layout ∙ c.new-mapper.ensures.layout)
    (c.in_ok-map_to.ensures.arrives is_present))
