use Rattle.std.proofs.Common.{rules, ◌↔◌, IsTrue}
use Rattle.pagetab_engine.specs.Hierarchy.{FitsImage}
use Rattle.pagetab_engine.proofs.Images.{ends}
use Rattle.pagetab_engine.proofs.hierarchy.Hierarchy.end_image.Goals as goal

pub returns-clause-fits : goal.returns-clause-fits
returns-clause-fits c =
    let before = c.args.self.now in
    let tested : IsTrue c.in_ok-fits.fits ↔ FitsImage before = search rules in
    let cleared = c.clear_self_entry.ensures in
    ends before c.clear_self_entry.new.self c.requires.copy c.requires.reached cleared.memory cleared.pool cleared.mode cleared.twin c.in_ok-fits.fits tested
