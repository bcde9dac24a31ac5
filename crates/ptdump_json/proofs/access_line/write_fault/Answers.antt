use Rattle.std.proofs.Common.{◌∙◌, ◌++◌, codes, refl, subst, sym}
use Rattle.std.proofs.Output.{has_written_append}
use Rattle.std.specs.Fmt.{HasWritten}
use Rattle.x86_64_access.specs.Accesses.{fault_of}
use Rattle.ptdump_json.specs.Accesses.{outcome_text}
use Rattle.text.specs.Numbers.{hexadecimal}
use Rattle.ptdump_json.proofs.access_line.write_fault.Goals as goal

pub returns-in_ok-write-in-PageFault : goal.returns-in_ok-write-in-PageFault
returns-in_ok-write-in-PageFault g c = λ plain ok.
    let took = g.W.Write.write_str_gives in
    let one = c.in_ok-write-in-PageFault.ensures.writes plain refl in
    subst (λ fault. HasWritten took c.args.f.now (outcome_text (fault_of fault)) c.write_code.new.f) (sym c.in-PageFault.is)
    (has_written_append took _ _ _ _ _ one (c.write_code.ensures one.plain ok))

pub returns-in_ok-write_hexadecimal-in-NoMemory : goal.returns-in_ok-write_hexadecimal-in-NoMemory
returns-in_ok-write_hexadecimal-in-NoMemory g c = λ plain ok.
    let took = g.W.Write.write_str_gives in
    let after = c.write_str-in-NoMemory.new.self in
    let one = c.in_ok-write_str-in-NoMemory.ensures.writes plain refl in
    let two = has_written_append took _ _ _ _ _ one (c.in_ok-write_hexadecimal-in-NoMemory.ensures one.plain refl) in
    subst (λ fault. HasWritten took c.args.f.now (outcome_text (fault_of fault)) after) (sym c.in-NoMemory.is)
    (subst (λ frame. HasWritten took c.args.f.now (codes " needs the table at " ++ hexadecimal frame ++ codes ", which the dump lacks") after)
    (c.as_u64.ensures.value ∙ c.start_address.ensures.value)
    (has_written_append took _ _ _ _ _ two (c.write_str-in-NoMemory.ensures.writes two.plain ok)))
