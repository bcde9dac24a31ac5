-- Words that are equal wherever page walks from a root lead have the same lines of a check, and the same note of reserved bits.
use Rattle.std.proofs.Common.{◌≡◌, ◌++◌, ℕ, if◌then◌else◌, List, [], map, filter, ap, ap₂}
use Rattle.x86_64_dump.specs.Reached.{SameBelow}
use Rattle.x86_64_mappings.specs.Selections.{is_selected}
use Rattle.x86_64_model.specs.Mappings.{mappings_of}
use Rattle.x86_64_model.specs.Memory.{Words}
use Rattle.x86_64_model.specs.Regions.{regions_in}
use Rattle.ptdump_check.specs.declared.checking.Checking.{Checking}
use Rattle.ptdump_check.specs.declared.findings.flaw.Flaw.TheVariants.{WritableAndExecutable, UserInUpperHalf}
use Rattle.ptdump_check.proofs.SameTables.{same_findings, same_reserved}
use Rattle.ptdump_engine.specs.CheckReports.{aliases_asked, finding_lines, flawed_lines, said_of}
use Rattle.ptdump_engine.specs.Reserved.{lists_mappings, reserved_line, reserved_note}
use Rattle.ptdump_engine.specs.declared.request.Command.{Command}

module _ (T W : Words) where
  pub same_lines : (checking : Checking) (L root : ℕ) → mappings_of L T root ≡ mappings_of L W root → SameBelow L T W root → finding_lines checking L T root ≡ finding_lines checking L W root
  unfolding finding_lines
  same_lines checking L root mapped same = ap₂ (λ ms fs. flawed_lines L WritableAndExecutable (filter (is_selected L checking.selection) (regions_in L ms)) ++ flawed_lines L UserInUpperHalf (filter (is_selected L checking.selection) (regions_in L ms)) ++ map said_of fs ++ aliases_asked checking L ms) mapped (same_findings T W checking L root mapped same)

  pub same_note : (command : Command) (L root : ℕ) → SameBelow L T W root → reserved_note command L T root ≡ reserved_note command L W root
  same_note command L root same = ap (λ count. if lists_mappings command then reserved_line count else []) (same_reserved T W L root same)
