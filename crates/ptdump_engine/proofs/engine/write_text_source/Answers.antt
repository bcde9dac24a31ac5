use Rattle.std.proofs.Common.{◌++◌, ◌∷◌, [], ap, append_assoc, codes, decimal, subst, sym}
use Rattle.ptdump_engine.specs.Output.{Puts}
use Rattle.ptdump_json.proofs.Results.{on_ok}
use Rattle.ptdump_engine.proofs.engine.write_text_source.Goals as goal

pub returns : goal.returns
returns g c =
    on_ok c.writeln.result (subst (Puts g.E.Destination.contents c.args.notes.now c.writeln.new.self)
    (sym (ap (λ text. codes "the root is the kernel's own, as VMCOREINFO at byte " ++ text) (append_assoc (decimal c.args.offset) (codes " of the file says") (10 ∷ [])))))
    c.writeln.ensures.text
