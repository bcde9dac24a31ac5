-- Accesses, controls and faults of Rust as those of the definition.
use Rattle.std.specs.Prelude.{ℕ, Result, Ok, Err}
use Rattle.x86_64_model.specs.Access as model
use Rattle.x86_64_access.specs.declared.request.Access.{Access}
use Rattle.x86_64_access.specs.declared.request.AccessKind.{AccessKind}
use Rattle.x86_64_access.specs.declared.request.AccessKind.TheVariants.{Read, Write, Fetch}
use Rattle.x86_64_access.specs.declared.request.Fault.{Fault}
use Rattle.x86_64_access.specs.declared.request.Fault.TheVariants.{PageFault, NoMemory}
use Rattle.x86_64_access.specs.declared.controls.Controls.{Controls}

-- The kind of an access in the model that a kind in Rust stands for.
abbrev pub access_kind : AccessKind → model.Kind
access_kind Read = model.Read
access_kind Write = model.Write
access_kind Fetch = model.Fetch

-- The access in the model that an access in Rust stands for.
abbrev pub access_of : Access → model.Access
access_of a = record { kind = access_kind a.kind; user = a.user }

-- The controls of a processor in the model that the controls in Rust stand for.
abbrev pub controls_of : Controls → model.Controls
controls_of c = record {
  write_protect = c.write_protect;
  no_execute = c.no_execute;
  smep = c.smep;
  smap = c.smap;
  ac = c.ac;
  physical_bits = c.physical_bits;
  no_1gib_pages = c.no_1gib_pages;
  global_reserved = c.global_reserved;
}

-- The outcome of an access in the model that a fault in Rust stands for: a page fault with its code and level, or a table that is
-- missing in the memory.
abbrev pub fault_of : Fault → model.Outcome
fault_of (PageFault code level) = model.Faults code.0 level
fault_of (NoMemory frame) = model.NoMemory frame

-- The outcome of an access in the model that a result in Rust stands for: the physical address at which it arrives, or a fault.
abbrev pub outcome_of : Result ℕ Fault → model.Outcome
outcome_of (Ok address) = model.Arrives address
outcome_of (Err fault) = fault_of fault
