use Rattle.std.proofs.Common.{◌∙◌, ◌++◌, List, ap, append_assoc, codes, decimal, refl, subst, sym, ℕ}
use Rattle.std.proofs.Output.{has_written_append}
use Rattle.std.specs.Fmt.{HasWritten}
use Rattle.text.specs.Numbers.{hexadecimal}
use Rattle.ptdump_json.specs.Walks.{word_place_text}
use Rattle.ptdump_json.proofs.word_read.PlaceDisplay.fmt.Goals as goal

pub returns-clause-writes : goal.returns-clause-writes
unfolding word_place_text
returns-clause-writes g c = λ plain ok.
    let took = g.W.Write.write_str_gives in
    let read = c.args.self.now.0 in
    let front = codes "level " ++ decimal read.level ++ codes " " in
    let index = decimal read.index in
    let one = c.in_ok-write.ensures.writes plain refl in
    let two = has_written_append took _ _ _ _ _ one (c.in_ok-write_hexadecimal.ensures one.plain refl) in
    let table = c.as_u64.ensures.value ∙ c.start_address.ensures.value in
    let head = front ++ hexadecimal read.table in
    let apart = append_assoc (head ++ codes "[") index (codes "]") ∙ append_assoc head (codes "[") (index ++ codes "]") in
    subst (λ (text : List ℕ). HasWritten took c.args.f.now text c.write-2.new.self)
    (ap (λ table. front ++ hexadecimal table ++ (codes "[" ++ (index ++ codes "]"))) table ∙ sym apart)
    (has_written_append took _ _ _ _ _ two (c.write-2.ensures.writes two.plain ok))
