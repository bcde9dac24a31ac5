use Rattle.std.proofs.Common.{◌≡◌, ◌∙◌, ◌++◌, ℕ, List, [], ◌∷◌, ap, sym, subst, codes, decimal, append_assoc}
use Rattle.ptdump_json.specs.InfoTexts.{mode_told}
use Rattle.ptdump_engine.specs.Output.{Puts}
use Rattle.ptdump_json.proofs.Results.{on_ok}
use Rattle.ptdump_engine.proofs.roots.write_without_tables.Goals as goal

in_five : (a b c d e : List ℕ) → (((a ++ b) ++ c) ++ d) ++ e ≡ a ++ (b ++ (c ++ (d ++ e)))
in_five a b c d e = append_assoc ((a ++ b) ++ c) d e ∙ append_assoc (a ++ b) c (d ++ e) ∙ append_assoc a b (c ++ (d ++ e))

pub returns : goal.returns
returns g c =
    on_ok c.writeln.result (subst (Puts g.E.Destination.contents c.args.notes.now c.writeln.new.self)
    (sym (ap (λ text. codes "processor " ++ text) (in_five (decimal c.args.cpu) (codes " ") (mode_told c.args.mode) (codes ": it is left out") (10 ∷ [])))))
    c.writeln.ensures.text
