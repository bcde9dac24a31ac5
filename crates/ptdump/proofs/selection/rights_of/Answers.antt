use Rattle.std.proofs.Common.{rules, ◌≡◌, true, codes}
use Rattle.clap.specs.Matches.{first_value, found_of}
use Rattle.ptdump.specs.Selections.{are_letters}
use Rattle.ptdump.proofs.Letters.{rights_given}
use Rattle.ptdump.proofs.selection.rights_of.Goals as goal

pub returns-clause-ok : goal.returns-clause-ok
returns-clause-ok c =
    let bytes = c.as_bytes-letters.result.now in
    let are : are_letters bytes ≡ true = search rules in
    rights_given (first_value (found_of c.args.arguments.now) (codes "rights")) c.get_str.result c.in-Some.text bytes c.contains.result c.contains-2.result c.contains-3.result
    c.get_str.ensures c.in-Some.is c.as_bytes-letters.ensures.value are
    c.contains.ensures.value c.contains-2.ensures.value c.contains-3.ensures.value
