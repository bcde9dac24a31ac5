-- Commands and statements as numbers, for any number of levels.
use Rattle.std.specs.Prelude.{ℕ}
use Rattle.x86_64_model.specs.Call as model
use Rattle.x86_64.specs.Calls.{to_call}
use Rattle.pagetab_engine.specs.declared.slot.Slot.{Slot}
use Rattle.pagetab_engine.specs.declared.statement.Command as rust
use Rattle.pagetab_engine.specs.declared.statement.Command.TheVariants as command
use Rattle.pagetab_engine.specs.declared.statement.ImageLine.{ImageLine}
use Rattle.pagetab_engine.specs.declared.statement.Statement as lines
use Rattle.pagetab_engine.specs.declared.statement.Statement.TheVariants as statement

-- A call on the hierarchy, or a question about it.
pub data Command : Type 0 where
  Call : model.Call → Command
  -- Shows where the page walk of a position (the number of an address counted without the gap) arrives.
  Walk : (position : ℕ) → Command
  -- Shows the word in a slot.
  Show : Slot → Command
  -- Shows the free frames.
  Pool : Command

-- A line of an image, or a command.
pub data Statement : Type 0 where
  Image : ImageLine → Statement
  Asks : Command → Statement

-- ---- those of the program; bits are those of the flags of level five

-- A command of the program in numbers, with these levels of tables. `bits` returns the bits of flags of level five.
abbrev pub command_of : {L P5 : Type 0} → (levels : ℕ) → (bits : P5 → ℕ) → rust.Command L P5 → Command
command_of levels bits (command.Call call) = Call (to_call levels bits call)
command_of levels bits (command.Walk addr) = Walk addr
command_of levels bits (command.Show slot) = Show slot
command_of levels bits command.Pool = Pool

-- A statement of the program in numbers, with these levels of tables. `bits` returns the bits of flags of level five.
abbrev pub statement_of : {L P5 : Type 0} → (levels : ℕ) → (bits : P5 → ℕ) → lines.Statement L P5 → Statement
statement_of levels bits (statement.Image line) = Image line
statement_of levels bits (statement.Command asked) = Asks (command_of levels bits asked)
