-- The selections that options describe.
use Rattle.std.specs.Prelude.{◌≡◌, ℕ, ◌==◌, ◌&&◌, nat_eq, not, Bool, true, List, [], length, Option, None, Some, codes}
use Rattle.std.specs.List.{count_by, list_all, list_any}
use Rattle.clap.specs.Matches.{first_value}
use Rattle.clap.specs.declared.parser.matches.Found.{Found}
use Rattle.x86_64_model.specs.Mappings.{Rights}
use Rattle.x86_64_mappings.specs.declared.selection.Selection.{Selection}
use Rattle.ptdump.specs.Options.{IsOption}

-- Whether a letter is in a text.
abbrev pub has_letter : (text : List ℕ) → (letter : ℕ) → Bool
has_letter text letter = list_any (λ c. nat_eq c letter) text

-- Whether a letter is one of r, w, x and u, and is in a text exactly once.
unfoldable pub is_once : (text : List ℕ) → (letter : ℕ) → Bool
is_once text letter = has_letter (codes "rwxu") letter && (count_by (λ c. nat_eq c letter) text == 1)

-- Whether a text has one or more of the letters r, w, x and u, each at most once, and nothing else.
unfoldable pub are_letters : (text : List ℕ) → Bool
are_letters text = not (length text == 0) && list_all (is_once text) text

-- The rights to write, to execute, and of user code, each if its letter w, x or u is in a text.
abbrev pub rights_named : (text : List ℕ) → Rights
rights_named text = record { write = has_letter text 0x77; user = has_letter text 0x75; execute = has_letter text 0x78 }

-- The rights are those whose letters are in the text of --rights, or none if the text is missing.
abbrev pub AreRights : (text : Option (List ℕ)) → Rights → Type 0
AreRights None rights = rights ≡ rights_named []
AreRights (Some text) rights = (are_letters text ≡ true) × (rights ≡ rights_named text)

-- The selection has the first and the last address of --from and --to, and the rights of --rights, as far as these are there.
pub record IsSelection (found : Found) (selection : Selection) : Type 0 where
  pub from : IsOption (first_value found (codes "from")) selection.from
  pub to : IsOption (first_value found (codes "to")) selection.to
  pub rights : AreRights (first_value found (codes "rights")) selection.rights
