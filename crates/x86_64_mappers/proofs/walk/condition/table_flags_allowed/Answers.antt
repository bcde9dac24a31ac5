use Rattle.std.proofs.Common.{◌≡◌, ◌-◌, ◌&&◌, ◌||◌, nat_le, take, Bool, true, false, not, refl, sym, ap, ◌∙◌}
use Rattle.std.proofs.lemmas.Bool.{le-leb, lt-leb}
use Rattle.x86_64_model.specs.Entry.{no_address}
use Rattle.x86_64_model.specs.Hierarchy.{◌laid_in◌, paths, read_entry}
use Rattle.x86_64_model.specs.Path.{front_at}
use Rattle.x86_64_model.specs.Window.{begins_with}
use Rattle.x86_64_tables.specs.PageTableFlags.{bits_of}
use Rattle.x86_64_mappers.proofs.Entry.TableFlagConditions.{low_flags_rule}
use Rattle.x86_64_mappers.specs.private.TableFlags.{keeps_huge}
use Rattle.x86_64_mappers.proofs.walk.condition.table_flags_allowed.Goals as goal

-- the two tests that come first
first_tests : (address window P W : Bool) → address ≡ not P → window ≡ W → (not address && not window) ≡ (P && not W)
first_tests address window P W x y = λ i. (ap not x ∙ twice P) i && not (y i)
  where
    twice : (b : Bool) → not (not b) ≡ b
    twice true = refl
    twice false = refl

pub returns-then-level-LEVEL : goal.returns-then-level-LEVEL
returns-then-level-LEVEL g c =
    let l = (g.M.Tables.hierarchy c.args.mapper.now).layout in
    let m = (g.M.Tables.hierarchy c.args.mapper.now).memory in
    let q = c.args.path.now in
    let level = c.args.level in
    let given = bits_of c.args.flags in
    let own = g.S.PageSize.LEVEL in
    let pass = sym (first_tests c.has_address_bits.result c.is_in_window.result (no_address given) (begins_with l.window q) c.has_address_bits.ensures c.is_in_window.ensures) ∙ c.if-has_address_bits-is_in_window.true in
    let low = le-leb level c.LEVEL.result c.if-level-LEVEL.true in
    low ∙ sym (low_flags_rule l.levels l.window (paths (l laid_in m)) level q given own c.requires.levels c.requires.high
    ∙ λ i. pass i && ((ap (nat_le level) (sym c.LEVEL.ensures) ∙ low) i || keeps_huge (read_entry (l laid_in m)) (front_at l.levels level q) given))

pub returns-else-level-LEVEL : goal.returns-else-level-LEVEL
returns-else-level-LEVEL g c =
    let l = (g.M.Tables.hierarchy c.args.mapper.now).layout in
    let m = (g.M.Tables.hierarchy c.args.mapper.now).memory in
    let q = c.args.path.now in
    let level = c.args.level in
    let given = bits_of c.args.flags in
    let own = g.S.PageSize.LEVEL in
    let pass = sym (first_tests c.has_address_bits.result c.is_in_window.result (no_address given) (begins_with l.window q) c.has_address_bits.ensures c.is_in_window.ensures) ∙ c.if-has_address_bits-is_in_window.true in
    let high = ap (nat_le level) (sym c.LEVEL.ensures) ∙ lt-leb level c.LEVEL.result c.if-level-LEVEL.false in
    let front = c.path_to_level.ensures ∙ ap (λ n. take (n - level) q) c.requires.levels in
    c.keeps_huge.ensures ∙ ap (λ p. keeps_huge (read_entry (l laid_in m)) p given) front
    ∙ sym (low_flags_rule l.levels l.window (paths (l laid_in m)) level q given own c.requires.levels c.requires.high
    ∙ λ i. pass i && (high i || keeps_huge (read_entry (l laid_in m)) (front_at l.levels level q) given))

pub returns-else-has_address_bits-is_in_window : goal.returns-else-has_address_bits-is_in_window
returns-else-has_address_bits-is_in_window g c =
    let l = (g.M.Tables.hierarchy c.args.mapper.now).layout in
    let m = (g.M.Tables.hierarchy c.args.mapper.now).memory in
    let q = c.args.path.now in
    let level = c.args.level in
    let given = bits_of c.args.flags in
    let own = g.S.PageSize.LEVEL in
    let first = first_tests c.has_address_bits.result c.is_in_window.result (no_address given) (begins_with l.window q) c.has_address_bits.ensures c.is_in_window.ensures in
    let tests = c.if-has_address_bits-is_in_window.false in
    tests ∙ sym (low_flags_rule l.levels l.window (paths (l laid_in m)) level q given own c.requires.levels c.requires.high
    ∙ ap (λ b. b && (nat_le level own || keeps_huge (read_entry (l laid_in m)) (front_at l.levels level q) given)) (sym first ∙ tests))
