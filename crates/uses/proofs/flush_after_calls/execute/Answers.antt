use Rattle.std.proofs.Common.{◌≡◌, true, false, unwrap_or, sym, subst}
use Rattle.x86_64.specs.FlushesDue.{executed}
use Rattle.x86_64.specs.Processors.{LeftBy}
use Rattle.uses.proofs.flush_after_calls.execute.Goals as goal

pub returns-in-Tables : goal.returns-in-Tables
returns-in-Tables g c =
    let p = unwrap_or c.args.page 0 in
    let L = g.L.LevelCount.LEVELS in
    subst (λ f. LeftBy L (executed f p) (g.C.Processor.cached c.args.processor.now) (g.C.Processor.cached c.load_cr3.new.self)) (sym c.in-Tables.is) (c.load_cr3.ensures L)

pub returns-in-None : goal.returns-in-None
returns-in-None g c =
    let p = unwrap_or c.args.page 0 in
    let L = g.L.LevelCount.LEVELS in
    subst (λ f. LeftBy L (executed f p) (g.C.Processor.cached c.args.processor.now) (g.C.Processor.cached c.flush_all.new.self)) (sym c.in-Page.is)
    (λ item left. let is = c.flush_all.ensures L item left in let no : false ≡ true = is.1 in cc)

pub returns-in-Everything : goal.returns-in-Everything
returns-in-Everything g c =
    let p = unwrap_or c.args.page 0 in
    let L = g.L.LevelCount.LEVELS in
    subst (λ f. LeftBy L (executed f p) (g.C.Processor.cached c.args.processor.now) (g.C.Processor.cached c.flush_all-in-Everything.new.self)) (sym c.in-Everything.is) (c.flush_all-in-Everything.ensures L)
