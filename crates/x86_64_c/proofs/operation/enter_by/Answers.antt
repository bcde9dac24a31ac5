use Rattle.std.proofs.Common.{◌≡◌, ◌⊎◌, ◌∙◌, ℕ, true, List, length, Option, None, Result, Ok, Err, IfOk, OnErr, refl, rules, ap, sym, subst, subst₂}
use Rattle.std.specs.FinMap.{len}
use Rattle.x86_64_model.specs.Memory.{Memory, Places}
use Rattle.x86_64_tables.specs.FrameSegments.{are_in_order}
use Rattle.x86_64_tables.specs.LentMemory.{numbered}
use Rattle.x86_64_mappers.specs.Layouts.{owned_at}
use Rattle.x86_64_c.specs.Arguments.{bad_hierarchy, hierarchy_in, places_given, wrong_root}
use Rattle.x86_64_c.specs.declared.arguments.Hierarchy.{Hierarchy}
use Rattle.x86_64_c.specs.private.Operations.{wrong_call}
use Rattle.x86_64_c.proofs.ArgumentsGiven.{counted, kept, right_levels}
use Rattle.x86_64_c.proofs.operation.enter_by.Goals as goal

-- with a right number of levels and right segments only the root can be wrong
but_root : (h : Hierarchy) (n : ℕ) → (h.levels ≡ 4) ⊎ (h.levels ≡ 5) → are_in_order h.segments.now ≡ true
    → bad_hierarchy h n ≡ wrong_root (places_given h) n h.root
but_root h n levels order = rw (right_levels h.levels levels, order) refl

-- with a right hierarchy only what an operation is asked can be wrong
but_asked : (wrong : (levels tables room : ℕ) → Option ℕ) (h : Hierarchy) (tables : List (List ℕ)) (L room : ℕ)
    → bad_hierarchy h (length tables) ≡ None → h.levels ≡ L
    → wrong_call wrong h (length tables) room ≡ wrong L (len (numbered tables)) room
but_asked wrong h tables L room good levels = rw (good, counted tables, levels) refl

located_in : (h : Hierarchy) (tables : List (List ℕ)) (L : ℕ) (places : Places) (root : ℕ) (memory : Memory)
    → h.levels ≡ L → places ≡ places_given h → root ≡ h.root → memory ≡ numbered tables
    → owned_at L places root memory tt ≡ hierarchy_in h tables
located_in h tables L places root memory levels same_places same_root same_memory =
    λ i. owned_at (sym levels i) (same_places i) (same_root i) (same_memory i) tt

kept_back : {X : Type 0} (result : Result X ℕ) (ts us : List (List ℕ)) (m n : Memory) (Other : Type 0) → m ≡ numbered ts → numbered us ≡ n
    → OnErr result ((n ≡ m) × Other) → OnErr result ((us ≡ ts) × Other)
kept_back (Ok x) ts us m n Other before after unchanged = tt
kept_back (Err why) ts us m n Other before after unchanged = (kept ts us (after ∙ unchanged.0 ∙ before), unchanged.1)

pub returns-in_default-clause-bad : goal.returns-in_default-clause-bad
returns-in_default-clause-bad g c =
    let root = rw c.requires.places at c.in_default.ensures.bad in
    rw (but_root c.args.hierarchy.now (length c.args.tables.now) (rw c.requires.levels g.L.LevelCount.known_levels) c.requires.segments ∙ root) refl

pub execute-requires : goal.execute-requires
execute-requires g c =
    let h = c.args.hierarchy.now in let tables = c.args.tables.now in let L = g.L.LevelCount.LEVELS in
    let root = rw c.requires.places at c.in-Some.ensures.good in
    let good = but_root h (length tables) (rw c.requires.levels g.L.LevelCount.known_levels) c.requires.segments ∙ root in
    let asked = but_asked (g.O.Operation.wrong c.args.operation.now) h tables L (length c.args.array.now) good c.requires.levels in
    let places = ap g.P.PageTableFrameMapping.places c.in-Some.ensures.mapping ∙ c.requires.places in
    let same = located_in h tables L _ _ _ c.requires.levels places c.in-Some.ensures.root c.new-memory.ensures.tables in
    record {
      may = λ right.
          subst (λ there. g.O.Operation.may c.args.operation.now there c.args.array.now) (sym same)
          (c.requires.may (asked ∙ rw c.new-memory.ensures.tables at right));
    }

pub returns-clause-bad : goal.returns-clause-bad
returns-clause-bad g c =
    let h = c.args.hierarchy.now in let tables = c.args.tables.now in let L = g.L.LevelCount.LEVELS in
    let root = rw c.requires.places at c.in-Some.ensures.good in
    let good = but_root h (length tables) (rw c.requires.levels g.L.LevelCount.known_levels) c.requires.segments ∙ root in
    let asked = but_asked (g.O.Operation.wrong c.args.operation.now) h tables L (length c.args.array.now) good c.requires.levels in
    rw asked (rw c.new-memory.ensures.tables at c.execute.ensures.bad)

pub returns-clause-good : goal.returns-clause-good
returns-clause-good g c =
    let h = c.args.hierarchy.now in let tables = c.args.tables.now in let L = g.L.LevelCount.LEVELS in
    let root = rw c.requires.places at c.in-Some.ensures.good in
    let good = but_root h (length tables) (rw c.requires.levels g.L.LevelCount.known_levels) c.requires.segments ∙ root in
    let asked = but_asked (g.O.Operation.wrong c.args.operation.now) h tables L (length c.args.array.now) good c.requires.levels in
    rw asked (rw c.new-memory.ensures.tables at c.execute.ensures.good)

pub returns-clause-unchanged : goal.returns-clause-unchanged
returns-clause-unchanged g c = kept_back c.execute.result c.args.tables.now _ _ _ _ c.new-memory.ensures.tables (search rules)
    c.execute.ensures.unchanged

pub returns-clause-does : goal.returns-clause-does
returns-clause-does g c =
    let h = c.args.hierarchy.now in let L = g.L.LevelCount.LEVELS in
    let places = ap g.P.PageTableFrameMapping.places c.in-Some.ensures.mapping ∙ c.requires.places in
    let before = located_in h c.args.tables.now L _ _ _ c.requires.levels places c.in-Some.ensures.root c.new-memory.ensures.tables in
    subst₂ (λ before after. IfOk c.execute.result
    (λ out. g.O.Operation.does c.args.operation.now before c.args.array.now after c.execute.new.array out)) before
    (located_in h _ L _ _ _ c.requires.levels places c.in-Some.ensures.root (search rules)) c.execute.ensures.does
