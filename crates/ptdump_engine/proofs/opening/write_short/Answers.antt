use Rattle.std.proofs.Common.{Bool, [], append-nil, codes, if◌then◌else◌, subst, sym}
use Rattle.ptdump_engine.specs.Output.{Puts}
use Rattle.ptdump_engine.specs.private.Puts.{puts_both, puts_nothing}
use Rattle.ptdump_json.specs.Walks.{line}
use Rattle.ptdump_engine.proofs.opening.write_short.Goals as goal
use Rattle.ptdump_engine.proofs.opening.write_short.Goals.{then-is_short+in_ok-writeln+in_ok-finish, else-is_short}

pub returns-clause-text : goal.returns-clause-text
returns-clause-text g c = λ known.
    let contents = g.E.Destination.contents in
    let before = c.args.notes.now in
    let told = line (codes "the file is shorter than its headers say: frames behind its end are missing") in
    let PutsIf : Bool → Type 0 = λ is. Puts contents before c.if-is_short.notes (if is then told else []) in
    subst PutsIf (c.is_short.ensures.known known) (elim c.if-is_short.branch [
      | then-is_short+in_ok-writeln+in_ok-finish w ↦
          let after = w.finish.new.self in
          let both = puts_both contents before w.writeln.new.self after told [] w.in_ok-writeln.ensures.text w.in_ok-finish.ensures.same in
          let puts = subst (Puts contents before after) (append-nil told) both in
          subst PutsIf (sym w.if-is_short.true) (subst (λ notes. Puts contents before notes told) (sym w.notes-is) puts)
      | else-is_short w ↦
          subst PutsIf (sym w.if-is_short.false) (subst (λ notes. Puts contents before notes []) (sym w.notes-is) (puts_nothing contents before))
    ])
