-- What the options of a walk ask for.
use Rattle.std.specs.Prelude.{◌≡◌, ◌≤◌, ℕ, Bool, false, not, List, [], ◌∷◌, Option, None, Some, codes, map, option_map, unwrap_or}
use Rattle.std.specs.Borrow.{Bor}
use Rattle.std.specs.List.{find, list_any}
use Rattle.std.specs.Str.{bytes_eq}
use Rattle.clap.specs.Matches.{first_value, matched_of, one_text, raw_values}
use Rattle.clap.specs.declared.parser.matches.Found.{Found}
use Rattle.ptdump_json.specs.Accesses.{access_name}
use Rattle.ptdump_json.specs.declared.options.ControlsSource.{ControlsSource}
use Rattle.ptdump_json.specs.declared.options.ControlsSource.TheVariants.{Given, Assumed}
use Rattle.ptdump_json.specs.declared.options.WalkOptions.{WalkOptions}
use Rattle.ptdump.specs.Options.{IsFlag}
use Rattle.x86_64_access.specs.declared.controls.Controls.{Controls}
use Rattle.x86_64_access.specs.declared.request.Access.{Access}
use Rattle.ptdump.specs.Numbers.{IsNumeral, number_of}

-- The texts of words that are borrowed.
abbrev pub texts_of : Bor (List (Bor (List ℕ))) → List (List ℕ)
texts_of words = map (λ word. word.now) words.now

-- Whether a word is one of some words.
abbrev pub is_listed : (words : List (List ℕ)) → (word : List ℕ) → Bool
is_listed words word = list_any (λ other. bytes_eq other word) words

-- The words that --controls takes: the names of the processor's settings, and `none`.
abbrev pub setting_names : List (List ℕ)
setting_names = codes "wp" ∷ codes "nxe" ∷ codes "smep" ∷ codes "smap" ∷ codes "ac" ∷ codes "none" ∷ []

-- Each of the words is the name of a setting, or `none`.
abbrev pub AreSettings : (words : List (List ℕ)) → Type 0
AreSettings words = find (λ word. not (is_listed setting_names word)) words ≡ None

-- The words are names of settings, or `none`, and those settings are on whose names are among them. The processor has pages of
-- 1GiB, and reserves GLOBAL nowhere.
pub record AreControls (words : List (List ℕ)) (c : Controls) : Type 0 where
  pub known : AreSettings words
  pub write_protect : c.write_protect ≡ is_listed words (codes "wp")
  pub no_execute : c.no_execute ≡ is_listed words (codes "nxe")
  pub smep : c.smep ≡ is_listed words (codes "smep")
  pub smap : c.smap ≡ is_listed words (codes "smap")
  pub ac : c.ac ≡ is_listed words (codes "ac")
  pub giant_pages : c.no_1gib_pages ≡ false
  pub global_ignored : c.global_reserved ≡ false

-- The number of bits of physical addresses is that of the text, which is from 32 to 52, or 52 if the text is missing.
abbrev pub IsBits : (text : Option (List ℕ)) → (bits : ℕ) → Type 0
IsBits None bits = bits ≡ 52
IsBits (Some text) bits = IsNumeral text × (32 ≤ number_of text) × (number_of text ≤ 52) × (bits ≡ number_of text)

-- The names of the settings that are on if there is no --controls.
abbrev pub usual_names : List (List ℕ)
usual_names = codes "wp" ∷ codes "nxe" ∷ codes "smep" ∷ codes "smap" ∷ []

-- The access is the one with this name, or None if the name is missing.
abbrev pub IsAccess : (name : Option (List ℕ)) → Option Access → Type 0
IsAccess None access = access ≡ None
IsAccess (Some name) None = ⊥
IsAccess (Some name) (Some access) = name ≡ access_name access

-- The source of the settings: the words of --controls if there are any, or else assumptions.
abbrev pub source_of : Option (List (List ℕ)) → ControlsSource
source_of None = Assumed
source_of (Some words) = Given

-- The options of a walk are those of --as, --controls, --maxphyaddr and --explain.
pub record AreAsked (found : Found) (options : WalkOptions) : Type 0 where
  pub access : IsAccess (first_value found (codes "as")) options.access
  pub controls : AreControls (unwrap_or (option_map raw_values (matched_of found (codes "controls"))) usual_names) options.controls
  pub source : options.source ≡ source_of (option_map raw_values (matched_of found (codes "controls")))
  pub bits : IsBits (first_value found (codes "maxphyaddr")) options.controls.physical_bits
  pub explains : IsFlag (one_text found (codes "explain")) options.explains
