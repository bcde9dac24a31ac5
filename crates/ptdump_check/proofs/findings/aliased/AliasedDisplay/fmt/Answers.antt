use Rattle.std.proofs.Common.{◌∙◌, ◌++◌, ap, subst, sym, refl, List, Ok, Option, Some, codes, false, append_assoc, ℕ}
use Rattle.std.proofs.lemmas.Grind.{put_four}
use Rattle.std.specs.Fmt.{◌++?◌, DisplaysOnOk, HasWritten, digits}
use Rattle.ptdump_check.specs.FindingTexts.{rights_there_text}
use Rattle.ptdump_check.proofs.findings.aliased.AliasedDisplay.fmt.Goals as goal

pub returns-clause-writes : goal.returns-clause-writes
returns-clause-writes g c = λ plain ok.
    let took = g.W.Write.write_str_gives in
    let aliased = c.args.self.now in
    let number = c.in_radix.ensures ∙ ap (λ n. Some (digits 16 false n)) c.as_u64-frame.ensures.value in
    let front = codes "frame 0x" ++ (digits 16 false aliased.frame ++ codes " is mapped ") in
    let at = rights_there_text aliased.at in
    let other = rights_there_text aliased.other in
    let one : HasWritten took c.args.f.now front c.write.new.self =
    subst (λ (o : Option (List ℕ)). DisplaysOnOk took c.args.f.now (Ok tt) (Some (codes "frame 0x") ++? o ++? Some
    (codes " is mapped ")) c.write.new.self)
    number c.in_ok-write.ensures.writes plain refl in
    let two = c.in_ok-write_rights.ensures one.plain refl in
    let three = c.in_ok-write_str.ensures.writes two.plain refl in
    put_four took _ _ _ _ _ front at (codes ", and ") other _ one two three (c.write_rights-2.ensures three.plain ok)
    (sym (append_assoc (front ++ at) (codes ", and ") other ∙ append_assoc front at (codes ", and " ++ other)))
