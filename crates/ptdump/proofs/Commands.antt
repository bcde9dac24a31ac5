-- Commands that no arguments describe.
use Rattle.std.proofs.Common.{◌≡◌, ◌∙◌, ℕ, List, codes, false, true, Result, IfOk, IfErr, refl, sym, subst}
use Rattle.clap.specs.declared.parser.matches.Found.{Found}
use Rattle.ptdump_check.specs.declared.checking.Checking.{Checking}
use Rattle.ptdump_engine.specs.declared.request.Command.{Command}
use Rattle.ptdump_engine.specs.declared.request.Command.TheVariants.{Regions, Pages, Walk, Find, Check, Image, Picture, Info}
use Rattle.ptdump_json.specs.declared.options.WalkOptions.{WalkOptions}
use Rattle.x86_64_mappings.specs.declared.selection.Selection.{Selection}
use Rattle.ptdump.specs.Asked.{AreAsked}
use Rattle.ptdump.specs.Selections.{IsSelection}
use Rattle.ptdump.specs.Requests.{TextsAreNumbers, IsChecking, IsCommand, IsUnreadArgument, values}
use Rattle.ptdump.specs.declared.stop.Stop.{Stop}
use Rattle.ptdump.proofs.Names.{other_name, same_name}
use Rattle.std.specs.Str.{bytes_eq}

differ : (name a b : List ℕ) → bytes_eq a b ≡ false → name ≡ a → name ≡ b → ⊥
differ name a b apart is other = other_name a b apart (sym is ∙ other)

-- the name of a command
abbrev name_of : Command → List ℕ
name_of (Regions selection) = codes "regions"
name_of (Pages selection names) = codes "pages"
name_of (Walk numbers options) = codes "walk"
name_of (Find numbers) = codes "find"
name_of (Check checking) = codes "check"
name_of Image = codes "image"
name_of Picture = codes "picture"
name_of Info = codes "info"

named : (name : List ℕ) (found : Found) (command : Command) → IsCommand name found command → name ≡ name_of command
named name found (Regions selection) is = is.0
named name found (Pages selection names) is = is.0
named name found (Walk numbers options) is = is.0
named name found (Find numbers) is = is.0
named name found (Check checking) is = is.0
named name found Image is = is
named name found Picture is = is
named name found Info is = is

-- no list of regions can be described
pub no_regions : (name : List ℕ) (found : Found) → name ≡ codes "regions" → ((selection : Selection) → IsSelection found selection → ⊥)
    → (command : Command) → IsCommand name found command → ⊥
no_regions name found regions none (Regions selection) is = none selection is.1
no_regions name found regions none command is = differ name (codes "regions") (name_of command) refl regions (named name found command is)

-- no list of mappings can be described
pub no_pages : (name : List ℕ) (found : Found) → name ≡ codes "pages" → ((selection : Selection) → IsSelection found selection → ⊥)
    → (command : Command) → IsCommand name found command → ⊥
no_pages name found pages none (Pages selection names) is = none selection is.1
no_pages name found pages none command is = differ name (codes "pages") (name_of command) refl pages (named name found command is)

-- no walk can be described
pub no_walk : (name : List ℕ) (found : Found) → name ≡ codes "walk"
    → ((numbers : List ℕ) → (options : WalkOptions) → TextsAreNumbers (values found (codes "addresses")) numbers → AreAsked found options → ⊥)
    → (command : Command) → IsCommand name found command → ⊥
no_walk name found walk none (Walk numbers options) is = none numbers.items options is.1 is.2
no_walk name found walk none command is = differ name (codes "walk") (name_of command) refl walk (named name found command is)

-- no search can be described
pub no_find : (name : List ℕ) (found : Found) → name ≡ codes "find" → ((numbers : List ℕ) → TextsAreNumbers (values found (codes "addresses")) numbers → ⊥)
    → (command : Command) → IsCommand name found command → ⊥
no_find name found find none (Find numbers) is = none numbers.items is.1
no_find name found find none command is = differ name (codes "find") (name_of command) refl find (named name found command is)

-- no command has the name
pub no_name : (name : List ℕ) (found : Found) → bytes_eq name (codes "regions") ≡ false → bytes_eq name (codes "pages") ≡ false → bytes_eq name (codes "walk") ≡ false
    → bytes_eq name (codes "find") ≡ false → bytes_eq name (codes "check") ≡ false → bytes_eq name (codes "image") ≡ false → bytes_eq name (codes "picture") ≡ false
    → bytes_eq name (codes "info") ≡ false → (command : Command) → IsCommand name found command → ⊥
no_name name found a b c d e f g h (Regions selection) is = other_name name (codes "regions") a is.0
no_name name found a b c d e f g h (Pages selection names) is = other_name name (codes "pages") b is.0
no_name name found a b c d e f g h (Walk numbers options) is = other_name name (codes "walk") c is.0
no_name name found a b c d e f g h (Find numbers) is = other_name name (codes "find") d is.0
no_name name found a b c d e f g h (Check checking) is = other_name name (codes "check") e is.0
no_name name found a b c d e f g h Image is = other_name name (codes "image") f is
no_name name found a b c d e f g h Picture is = other_name name (codes "picture") g is
no_name name found a b c d e f g h Info is = other_name name (codes "info") h is

-- no check can be described
pub no_check : (name : List ℕ) (found : Found) → name ≡ codes "check" → ((checking : Checking) → IsChecking found checking → ⊥)
    → (command : Command) → IsCommand name found command → ⊥
no_check name found check none (Check checking) is = none checking is.1
no_check name found check none command is = differ name (codes "check") (name_of command) refl check (named name found command is)

-- the command and the refusal are those of an equal name
pub same_command : (name word : List ℕ) (found : Found) (result : Result Command Stop) → bytes_eq name word ≡ true → IfOk result (IsCommand word found)
    → IfOk result (IsCommand name found)
same_command name word found result is = subst (λ n. IfOk result (IsCommand n found)) (sym (same_name name word is))

pub same_refusal : (name word : List ℕ) (found : Found) (result : Result Command Stop) → bytes_eq name word ≡ true → IfErr result (IsUnreadArgument (IsCommand word found))
    → IfErr result (IsUnreadArgument (IsCommand name found))
same_refusal name word found result is = subst (λ n. IfErr result (IsUnreadArgument (IsCommand n found))) (sym (same_name name word is))
