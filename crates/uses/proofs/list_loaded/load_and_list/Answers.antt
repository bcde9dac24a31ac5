use Rattle.std.proofs.Common.{rules, sym, subst}
use Rattle.std.specs.List.{All}
use Rattle.uses.specs.Listed.{AreListed}
use Rattle.uses.proofs.Listed.{segments_listed}
use Rattle.uses.proofs.list_loaded.load_and_list.Goals as goal

pub returns-clause-loaded : goal.returns-clause-loaded
returns-clause-loaded g c =
    subst (λ mappings. All (AreListed mappings) c.args.segments.now) (sym c.in_ok-listed.ensures)
    (segments_listed c.args.root _ c.args.segments.now c.load_into.ensures.fits.valid (c.load_into.ensures.loaded (search rules)))
