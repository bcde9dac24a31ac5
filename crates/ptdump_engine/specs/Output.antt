-- Outputs: text that is collected for a writer, and passed to it in large pieces.
use Rattle.std.specs.Prelude.{◌≡◌, ℕ, List, Option, String, string_bytes, ⊤}
use Rattle.std.specs.Io.KnownBytes.{Appends, append_known}
use Rattle.std.specs.declared.alloc.Global.{Global}
use Rattle.ptdump_engine.specs.declared.failure.Failure.{Failure}
use Rattle.ptdump_engine.specs.declared.failure.Failure.TheVariants as failures
use Rattle.ptdump_engine.specs.declared.output.Output.{Output}
use Rattle.ptdump_engine.specs.declared.output.OutputError.{OutputError}
use Rattle.ptdump_engine.specs.declared.output.OutputError.TheVariants as errors

-- All text that an output has got: the contents of its writer, followed by the text that it still holds back. It is None if the
-- contents aren't known.
abbrev pub put_in : {W : Type 0} → (contents : W → Option (List ℕ)) → Output W (String Global) → Option (List ℕ)
put_in contents output = append_known (contents output.writer.now) (string_bytes output.text)

-- Text was put in an output, behind what it had got before, and the output still has the writer that it had.
pub record Puts {W : Type 0} (contents : W → Option (List ℕ)) (old new : Output W (String Global)) (text : List ℕ) : Type 0 where
  pub writer : new.writer.ghost_name ≡ old.writer.ghost_name
  pub appends : Appends (put_in contents old) (put_in contents new) text

-- The error of an output is that its writer refused a write, and not that memory allocation failed.
abbrev pub IsRefusal : {W : Type 0} → OutputError W → Type 0
IsRefusal errors.OutOfMemory = ⊥
IsRefusal (errors.Write refusal) = ⊤

-- The failure of a run that ends for the error of an output: memory allocation failed, or a write was refused.
abbrev pub output_failure : {W : Type 0} → OutputError W → Failure
output_failure errors.OutOfMemory = failures.OutOfMemory
output_failure (errors.Write refusal) = failures.Output
