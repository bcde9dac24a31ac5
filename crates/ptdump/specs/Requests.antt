-- The requests that the words of a command line describe.
use Rattle.std.specs.Prelude.{◌≡◌, ◌⊎◌, ℕ, Bool, true, false, List, [], Option, All, codes, map, option_map, unwrap_or}
use Rattle.clap.specs.Matches.{first_value, matched_of, one_text, raw_values}
use Rattle.clap.specs.declared.parser.matches.Found.{Found}
use Rattle.ptdump_check.specs.declared.checking.Checking.{Checking}
use Rattle.ptdump_engine.specs.declared.request.AreaNames.{AreaNames}
use Rattle.ptdump_engine.specs.declared.request.AreaNames.TheVariants.{OfKernel, Always, By}
use Rattle.ptdump_engine.specs.declared.request.Command.{Command}
use Rattle.ptdump_engine.specs.declared.request.Command.TheVariants.{Regions, Pages, Walk, Find, Check, Image, Picture, Info}
use Rattle.ptdump_json.specs.declared.options.Form.{Form}
use Rattle.ptdump_json.specs.declared.options.Form.TheVariants.{Text, Json}
use Rattle.x86_64_addr.specs.declared.level_count.Levels.{Levels}
use Rattle.ptdump_json.specs.Paging.{level_count}
use Rattle.ptdump_engine.specs.declared.request.Request.{Request}
use Rattle.ptdump_engine.specs.declared.failure.Failure.TheVariants.{OutOfMemory}
use Rattle.ptdump.specs.Asked.{AreAsked, IsBits}
use Rattle.ptdump.specs.Columns.{columns_for}
use Rattle.ptdump.specs.DirectMaps.{IsDirectMap}
use Rattle.ptdump.specs.Options.{IsFlag, IsOption}
use Rattle.ptdump.specs.Placements.{IsPlacement}
use Rattle.ptdump.specs.Selections.{IsSelection}
use Rattle.ptdump.specs.declared.stop.Stop.{Stop}
use Rattle.ptdump.specs.declared.stop.Stop.TheVariants.{Failed}
use Rattle.ptdump.specs.Numbers.{IsNumeral, number_of}

-- Each of the texts is a number, and these are their numbers, in order.
abbrev pub TextsAreNumbers : (texts : List (List ℕ)) → (numbers : List ℕ) → Type 0
TextsAreNumbers texts numbers = All IsNumeral texts × (numbers ≡ map number_of texts)

-- The texts of the arguments with a name, in order, or the empty list if there are none.
abbrev pub values : Found → (name : List ℕ) → List (List ℕ)
values found name = unwrap_or (option_map raw_values (matched_of found name)) []

-- What to check is what the arguments say: the number of bits of physical addresses is that of --maxphyaddr, the direct map that of
-- --direct-map, the selection that of --from and --to, and aliases are found if --aliases is given.
pub record IsChecking (found : Found) (checking : Checking) : Type 0 where
  pub bits : IsBits (first_value found (codes "maxphyaddr")) checking.physical_bits
  pub direct_map : IsDirectMap (first_value found (codes "direct-map")) checking.direct_map
  pub selection : IsSelection found checking.selection
  pub aliases : IsFlag (one_text found (codes "aliases")) checking.aliases

-- The command is the one with this name, and what it takes is what these arguments say.
abbrev pub IsCommand : (name : List ℕ) → Found → Command → Type 0
IsCommand name found (Regions selection) = (name ≡ codes "regions") × IsSelection found selection
IsCommand name found (Pages selection names) = (name ≡ codes "pages") × IsSelection found selection × IsFlag (one_text found (codes "names")) names
IsCommand name found (Walk numbers options) = (name ≡ codes "walk") × TextsAreNumbers (values found (codes "addresses")) numbers.items × AreAsked found options
IsCommand name found (Find numbers) = (name ≡ codes "find") × TextsAreNumbers (values found (codes "addresses")) numbers.items
IsCommand name found (Check checking) = (name ≡ codes "check") × IsChecking found checking
IsCommand name found Image = name ≡ codes "image"
IsCommand name found Picture = name ≡ codes "picture"
IsCommand name found Info = name ≡ codes "info"

-- The number of levels of tables is None if its text is missing, and is the number of its text otherwise.
abbrev pub IsLevels : (text : Option (List ℕ)) → Option Levels → Type 0
IsLevels text levels = IsOption text (option_map level_count levels)

-- Whether output is in the form of JSON, and not of text.
abbrev pub is_json : Form → Bool
is_json Text = false
is_json Json = true

-- Lines name areas in any case if the flag --linux is given, and otherwise if VMCOREINFO says where the root is. A command line
-- gives no layout of areas.
abbrev pub AreNamed : (flag : Option (List ℕ)) → AreaNames → Type 0
AreNamed flag Always = IsFlag flag true
AreNamed flag OfKernel = IsFlag flag false
AreNamed flag (By layout) = ⊥

-- The request is that of the command with this name and these arguments. `is_terminal` says whether standard output is a terminal.
pub record IsRequest (is_terminal : Bool) (name : List ℕ) (found : Found) (request : Request) : Type 0 where
  pub command : IsCommand name found request.command
  pub form : IsFlag (one_text found (codes "json")) (is_json request.form)
  pub columns : request.columns ≡ columns_for is_terminal (first_value found (codes "columns"))
  pub areas : AreNamed (one_text found (codes "linux")) request.areas
  pub cr3 : IsOption (first_value found (codes "cr3")) request.cr3
  pub vmcoreinfo : IsOption (first_value found (codes "vmcoreinfo")) request.vmcoreinfo
  pub levels : IsLevels (first_value found (codes "levels")) request.levels
  pub placement : IsPlacement (first_value found (codes "base")) (values found (codes "range")) request.placement
  pub raw : IsFlag (one_text found (codes "raw")) request.is_raw
  pub cpu : IsOption (first_value found (codes "cpu")) request.cpu
  pub all_cpus : IsFlag (one_text found (codes "all-cpus")) request.all_cpus

-- Memory allocation failed, and that is the reason to stop, or no value has this property.
abbrev pub IsUnreadArgument : {T : Type 0} → (Holds : T → Type 0) → Stop → Type 0
IsUnreadArgument {T} Holds stop = (stop ≡ Failed OutOfMemory) ⊎ ((value : T) → ¬ (Holds value))
