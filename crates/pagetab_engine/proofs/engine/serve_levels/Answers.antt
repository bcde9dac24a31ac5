use Rattle.std.proofs.Common.{◌≡◌, ◌∙◌, ℕ, List, Option, sym, ap, subst}
use Rattle.pagetab_engine.specs.Arguments.{count}
use Rattle.pagetab_engine.specs.Lines.{ForSome, IsInput}
use Rattle.pagetab_engine.specs.Program.{levels_in}
use Rattle.pagetab_engine.specs.private.RunParts.{RunsFrom}
use Rattle.pagetab_engine.specs.declared.ending.Ending.{Ending}
use Rattle.pagetab_engine.specs.declared.hierarchy.Hierarchy.{Hierarchy}
use Rattle.pagetab_engine.proofs.engine.serve_levels.Goals as goal

-- a run for a number of levels is one for an equal number
of_levels : (known : Option (List ℕ)) (places : ℕ) (hierarchy : Hierarchy) (old new : Option (List ℕ)) (ending : Ending) (levels also : ℕ) → also ≡ levels
    → ForSome (IsInput known) (λ input. RunsFrom levels places hierarchy input old new ending) → ForSome (IsInput known) (λ input. RunsFrom also places hierarchy input old new ending)
of_levels known places hierarchy old new ending levels also same = subst (λ n. ForSome (IsInput known) (λ input. RunsFrom n places hierarchy input old new ending)) (sym same)

pub returns-in-Four : goal.returns-in-Four
returns-in-Four g c =
    let same : levels_in c.args.arguments.now ≡ 4 = ap count (sym c.levels.ensures ∙ c.in-Four.is) in
    of_levels (g.R.Read.remaining c.args.reader.now) c.args.arguments.now.places c.args.hierarchy.now _ _ _ 4 _ same c.serve_lines.ensures

pub returns-in-Five : goal.returns-in-Five
returns-in-Five g c =
    let same : levels_in c.args.arguments.now ≡ 5 = ap count (sym c.levels.ensures ∙ c.in-Five.is) in
    of_levels (g.R.Read.remaining c.args.reader.now) c.args.arguments.now.places c.args.hierarchy.now _ _ _ 5 _ same c.serve_lines-in-Five.ensures
