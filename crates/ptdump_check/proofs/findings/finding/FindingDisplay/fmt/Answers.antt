use Rattle.std.proofs.Common.{◌≡◌, ◌∙◌, ◌++◌, ap, subst, sym, refl, ℕ, List, Option, Some, codes, decimal, false, append_assoc, Result, Ok}
use Rattle.std.proofs.lemmas.Grind.{put_two}
use Rattle.std.specs.Fmt.{◌++?◌, DisplaysOnOk, HasWritten, WritesOnOk, digits}
use Rattle.std.specs.declared.fmt.Error.{Error}
use Rattle.std.specs.declared.fmt.Formatter.{Formatter}
use Rattle.text.specs.Numbers.{hexadecimal}
use Rattle.ptdump_check.specs.FindingTexts.{at_text, entry_text, finding_text, for_user_text, slot_text}
use Rattle.ptdump_check.specs.declared.findings.finding.Finding.{Finding}
use Rattle.ptdump_check.proofs.findings.finding.FindingDisplay.fmt.Goals as goal

-- a text that begins with a frame, written in two parts
both : {W : Type 0} (took : W → List ℕ → W → Type 0) (f g h : Formatter W) (r : Result (Unit {0}) Error) (o : Option (List ℕ)) (frame : ℕ)
    (front back : List ℕ) (finding : Finding) → o ≡ Some (digits 16 false frame)
    → finding_text finding ≡ codes "table " ++ hexadecimal frame ++ front ++ back
    → DisplaysOnOk took f (Ok tt) (Some (codes "table 0x") ++? o ++? Some front) g → WritesOnOk took g r back h
    → WritesOnOk took f r (finding_text finding) h
both took f g h r o frame front back finding number is first second =
    subst (λ (text : List ℕ). WritesOnOk took f r text h) (sym is) λ plain ok.
    let one : HasWritten took f (codes "table 0x" ++ (digits 16 false frame ++ front)) g =
    subst (λ (o : Option (List ℕ)). DisplaysOnOk took f (Ok tt) (Some (codes "table 0x") ++? o ++? Some front) g) number first plain refl in
    put_two took f g h _ back _ one (second one.plain ok) refl

pub returns-in-NamedOften-clause-writes : goal.returns-in-NamedOften-clause-writes
returns-in-NamedOften-clause-writes g c =
    let arm = c.in-NamedOften in
    let shown = digits 16 false arm.frame in
    let count = decimal arm.count in
    let frame = c.as_u64-address.ensures.value ∙ c.start_address.ensures.value in
    let number = c.in_radix.ensures ∙ ap (λ n. Some (digits 16 false n)) frame in
    let apart = append_assoc (shown ++ codes " named ") count (codes " times") ∙ append_assoc shown (codes " named ") (count ++ codes " times") in
    subst (λ (text : Option (List ℕ)). DisplaysOnOk g.W.Write.write_str_gives c.args.f.now c.write.result text c.write.new.self)
    (ap (λ o. Some (codes "table 0x") ++? o ++? Some (codes " named ") ++? Some count ++? Some (codes " times")) number
    ∙ ap (λ xs. Some (codes "table 0x" ++ xs)) (sym apart) ∙ ap (λ finding. Some (finding_text finding)) (sym arm.is))
    c.write.ensures.writes

pub returns-in-HugePage-clause-writes : goal.returns-in-HugePage-clause-writes
returns-in-HugePage-clause-writes g c =
    let arm = c.in-HugePage in
    subst (λ (text : List ℕ). WritesOnOk g.W.Write.write_str_gives c.args.f.now c.write-in-HugePage.result text c.write-in-HugePage.new.self)
    (ap (λ xs. codes "HUGE_PAGE at level " ++ xs) (sym (append_assoc (decimal arm.level) (codes " in ") (slot_text arm.slot)))
    ∙ ap finding_text (sym arm.is))
    c.write-in-HugePage.ensures.writes

pub returns-in-ReservedBits-clause-writes : goal.returns-in-ReservedBits-clause-writes
returns-in-ReservedBits-clause-writes g c =
    let arm = c.in-ReservedBits in
    subst (λ (text : List ℕ). WritesOnOk g.W.Write.write_str_gives c.args.f.now c.write-in-ReservedBits.result text c.write-in-ReservedBits.new.self)
    (ap (λ xs. codes "reserved bits at level " ++ xs) (sym (append_assoc (decimal arm.entry.level) (codes " in ") (entry_text arm.entry)))
    ∙ ap finding_text (sym arm.is))
    c.write-in-ReservedBits.ensures.writes

pub returns-in_ok-write-in-NotInDump-clause-writes : goal.returns-in_ok-write-in-NotInDump-clause-writes
returns-in_ok-write-in-NotInDump-clause-writes g c =
    let arm = c.in-NotInDump in
    let frame = c.as_u64-address-in-NotInDump.ensures.value ∙ c.start_address-in-NotInDump.ensures.value in
    both g.W.Write.write_str_gives c.args.f.now c.write-in-NotInDump.new.self c.write-in-NotInDump-2.new.self c.write-in-NotInDump-2.result _
    arm.frame (codes " not in the dump") (codes ", named by " ++ slot_text arm.by) c.args.self.now
    (c.in_radix-in-NotInDump.ensures ∙ ap (λ n. Some (digits 16 false n)) frame) (ap finding_text arm.is)
    c.in_ok-write-in-NotInDump.ensures.writes c.write-in-NotInDump-2.ensures.writes

pub returns-in_ok-write-in-WritableForUser-clause-writes : goal.returns-in_ok-write-in-WritableForUser-clause-writes
returns-in_ok-write-in-WritableForUser-clause-writes g c =
    let arm = c.in-WritableForUser in
    let frame = c.as_u64-address-in-WritableForUser.ensures.value ∙ c.start_address-in-WritableForUser.ensures.value in
    both g.W.Write.write_str_gives c.args.f.now c.write-in-WritableForUser.new.self c.write_for_user.new.f c.write_for_user.result _
    arm.frame (codes " is mapped writable") (for_user_text arm.at) c.args.self.now
    (c.in_radix-in-WritableForUser.ensures ∙ ap (λ n. Some (digits 16 false n)) frame) (ap finding_text arm.is)
    c.in_ok-write-in-WritableForUser.ensures.writes c.write_for_user.ensures

pub returns-in_ok-write-in-MappedForUser-clause-writes : goal.returns-in_ok-write-in-MappedForUser-clause-writes
returns-in_ok-write-in-MappedForUser-clause-writes g c =
    let arm = c.in-MappedForUser in
    let frame = c.as_u64-address-in-MappedForUser.ensures.value ∙ c.start_address-in-MappedForUser.ensures.value in
    both g.W.Write.write_str_gives c.args.f.now c.write-in-MappedForUser.new.self c.write_for_user-in-MappedForUser.new.f c.write_for_user-in-MappedForUser.result _
    arm.frame (codes " is mapped") (for_user_text arm.at) c.args.self.now
    (c.in_radix-in-MappedForUser.ensures ∙ ap (λ n. Some (digits 16 false n)) frame) (ap finding_text arm.is)
    c.in_ok-write-in-MappedForUser.ensures.writes c.write_for_user-in-MappedForUser.ensures

pub returns-in_ok-write-in-WritableOutside-clause-writes : goal.returns-in_ok-write-in-WritableOutside-clause-writes
returns-in_ok-write-in-WritableOutside-clause-writes g c =
    let arm = c.in-WritableOutside in
    let frame = c.as_u64-address-in-WritableOutside.ensures.value ∙ c.start_address-in-WritableOutside.ensures.value in
    both g.W.Write.write_str_gives c.args.f.now c.write-in-WritableOutside.new.self c.write_at.new.f c.write_at.result _
    arm.frame (codes " is mapped writable") (at_text arm.at) c.args.self.now
    (c.in_radix-in-WritableOutside.ensures ∙ ap (λ n. Some (digits 16 false n)) frame) (ap finding_text arm.is)
    c.in_ok-write-in-WritableOutside.ensures.writes c.write_at.ensures
