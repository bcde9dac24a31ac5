-- Requests with the controls that notes tell: what doesn't depend on these.
use Rattle.std.proofs.Common.{◌≡◌, ◌++◌, ℕ, List, Option, refl, subst}
use Rattle.std.specs.Io.KnownBytes.{Appends}
use Rattle.x86_64_model.specs.Memory.{Words}
use Rattle.ptdump_engine.specs.NotedControls.{command_by}
use Rattle.ptdump_engine.specs.Program.{EndsByTotals, is_image}
use Rattle.ptdump_engine.specs.Reserved.{reserved_note}
use Rattle.ptdump_engine.specs.Totals.{AreTotals, totals_text}
use Rattle.ptdump_json.specs.Walks.{line}
use Rattle.ptdump_json.specs.declared.registers.Registers.{Registers}
use Rattle.ptdump_engine.specs.declared.request.Command.{Command}
use Rattle.ptdump_engine.specs.declared.request.Command.TheVariants as commands
use Rattle.ptdump_engine.specs.declared.totals.Totals.{Totals}

same_note : (registers : Option Registers) (command : Command) (L : ℕ) (T : Words) (root : ℕ) → reserved_note (command_by registers command) L T root ≡ reserved_note command L T root
same_note registers (commands.Regions selection) L T root = refl
same_note registers (commands.Pages selection has_names) L T root = refl
same_note registers (commands.Walk addresses options) L T root = refl
same_note registers (commands.Find addresses) L T root = refl
same_note registers (commands.Check checking) L T root = refl
same_note registers commands.Image L T root = refl
same_note registers commands.Picture L T root = refl
same_note registers commands.Info L T root = refl

-- the last lines on standard error
pub same_ends : (registers : Option Registers) (command : Command) (L : ℕ) (T : Words) (root : ℕ) (before after : Option (List ℕ))
    → EndsByTotals (command_by registers command) L T root before after → EndsByTotals command L T root before after
same_ends registers command L T root before after =
    subst (λ note. (totals : Totals) × AreTotals L T root totals × Appends before after (note ++ line (totals_text totals))) (same_note registers command L T root)

-- whether the report is an image
pub same_image : (registers : Option Registers) (command : Command) → is_image (command_by registers command) ≡ is_image command
same_image registers (commands.Regions selection) = refl
same_image registers (commands.Pages selection has_names) = refl
same_image registers (commands.Walk addresses options) = refl
same_image registers (commands.Find addresses) = refl
same_image registers (commands.Check checking) = refl
same_image registers commands.Image = refl
same_image registers commands.Picture = refl
same_image registers commands.Info = refl
