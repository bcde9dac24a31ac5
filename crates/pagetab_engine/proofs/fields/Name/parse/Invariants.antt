use Rattle.std.proofs.Common.{◌≡◌, bytes_eq, drop}
use Rattle.std.specs.List.{find}
use Rattle.pagetab_engine.specs.Fields.{name_in, name_text}
use Rattle.pagetab_engine.proofs.fields.Name.parse.Given as goal

abbrev pub invariant-loop-name : goal.invariant-loop-name
invariant-loop-name l = name_in l.fn.field ≡ find (λ name. bytes_eq (name_text name) l.fn.field) (drop l.name-index l.name-items)
