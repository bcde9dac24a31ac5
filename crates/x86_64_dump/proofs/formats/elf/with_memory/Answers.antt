use Rattle.std.proofs.Common.{◌∙◌, ap, cond, sym, Ok, Err}
use Rattle.x86_64_dump.specs.Formats.Elf.{has_memory}
use Rattle.x86_64_dump.specs.declared.error.Fault.TheVariants as faults
use Rattle.x86_64_dump.proofs.formats.elf.with_memory.Goals as goal

pub returns-then-has_memory : goal.returns-then-has_memory
returns-then-has_memory c =
    ap (λ b. cond b (Ok c.args.segments.items) (Err faults.NoMemory)) (sym (ap has_memory c.deref.ensures.value) ∙ sym c.has_memory.ensures ∙ c.if-has_memory.true)

pub returns-else-has_memory : goal.returns-else-has_memory
returns-else-has_memory c =
    ap (λ b. cond b (Ok c.args.segments.items) (Err faults.NoMemory)) (sym (ap has_memory c.deref.ensures.value) ∙ sym c.has_memory.ensures ∙ c.if-has_memory.false)
