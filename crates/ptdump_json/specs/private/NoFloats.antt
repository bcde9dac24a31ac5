-- Objects of walks, of findings, and of what a dump says of its machine have no floats.
use Rattle.std.proofs.Common.{◌≡◌, ℕ, List, [], ◌∷◌, Option, None, Some, codes, option_map, map, false, refl}
use Rattle.serde_json.specs.Data.{object}
use Rattle.serde_json.specs.View.{items_of}
use Rattle.serde_json.specs.Written.{has_float, items_have_float}
use Rattle.x86_64_access.specs.Accesses.{outcome_of}
use Rattle.linux_areas.specs.declared.area.Area.{Area}
use Rattle.x86_64_access.specs.declared.controls.Controls.{Controls}
use Rattle.x86_64_access.specs.declared.request.Access.{Access}
use Rattle.x86_64_model.specs.Access.{Outcome, Arrives, Faults, NoMemory}
use Rattle.x86_64_model.specs.Mappings.{Mapping}
use Rattle.x86_64_model.specs.Regions.{Region}
use Rattle.ptdump_check.specs.declared.findings.finding.Finding.{Finding}
use Rattle.ptdump_check.specs.declared.findings.finding.Finding.TheVariants.{NamedOften, NotInDump, HugePage, ReservedBits, WritableForUser, MappedForUser, WritableOutside}
use Rattle.ptdump_json.specs.FindingObjects.{json_of_finding}
use Rattle.ptdump_json.specs.InfoObjects.{json_of_processor, json_of_registers, json_of_root, root_members, named_member}
use Rattle.ptdump_json.specs.Json.{json_count, json_of_access, json_of_mapping, json_of_region, json_of_word, json_of_group}
use Rattle.ptdump_json.specs.Paging.{mode_of}
use Rattle.ptdump_json.specs.Walked.{json_of_line, json_of_value}
use Rattle.ptdump_json.specs.declared.access_line.AccessLine.{AccessLine}
use Rattle.ptdump_json.specs.declared.mode.Mode.{Mode}
use Rattle.ptdump_json.specs.declared.mode.Mode.TheVariants.{NoPaging, Paging32, Paging64}
use Rattle.ptdump_json.specs.declared.registers.Registers.{Registers}
use Rattle.ptdump_json.specs.declared.options.ControlsSource.{ControlsSource}
use Rattle.ptdump_json.specs.declared.start.Origin.{Origin}
use Rattle.ptdump_json.specs.declared.start.Origin.TheVariants.{ByRequest, ByProcessor, ByKernel, ByText}
use Rattle.ptdump_json.specs.declared.start.Start.{Start}
use Rattle.ptdump_json.specs.declared.walked.Walk.{Walk as WalkValue}
use Rattle.ptdump_json.specs.declared.walked.WalkEnd.{WalkEnd}
use Rattle.ptdump_json.specs.declared.walked.WalkEnd.TheVariants as ends
use Rattle.ptdump_json.specs.declared.word_read.WordRead.{WordRead}

pub no_float_access : (a : Access) (c : Controls) (source : ControlsSource) (outcome : Outcome) → has_float (json_of_access a c source outcome) ≡ false
no_float_access a c source (Arrives to) = refl
no_float_access a c source (Faults code level) = refl
no_float_access a c source (NoMemory frame) = refl

words_have_none : (words : List WordRead) → items_have_float (items_of (map json_of_word words)) ≡ false
words_have_none [] = refl
words_have_none (w ∷ words) = words_have_none words

without : (address : ℕ) (value : WalkValue) → has_float (json_of_value address value None) ≡ false
without address value = by value.end
  where
    by : (end : WalkEnd) → has_float (json_of_value address (record value { end = end }) None) ≡ false
    by (ends.Arrives at size) = rw (words_have_none value.words.items) refl
    by ends.NotPresent = rw (words_have_none value.words.items) refl
    by (ends.MissingTable frame) = rw (words_have_none value.words.items) refl
    by (ends.HugePage level) = rw (words_have_none value.words.items) refl

pub no_float_walk : (address : ℕ) (value : WalkValue) (access : Option AccessLine) → has_float (json_of_value address value (option_map json_of_line access)) ≡ false
no_float_walk address value None = without address value
no_float_walk address value (Some line) = rw (no_float_access line.access line.controls line.source (outcome_of line.end)) (without address value)

-- ---- findings

pub no_float_finding : (finding : Finding) → has_float (json_of_finding finding) ≡ false
no_float_finding (NamedOften frame times) = refl
no_float_finding (NotInDump frame by) = refl
no_float_finding (HugePage slot level) = refl
no_float_finding (ReservedBits entry) = refl
no_float_finding (WritableForUser frame at) = refl
no_float_finding (MappedForUser frame at) = refl
no_float_finding (WritableOutside frame at) = refl

-- ---- lists

pub no_float_region : (L : ℕ) (area : Option Area) (r : Region) → has_float (json_of_region L area r) ≡ false
no_float_region L None r = refl
no_float_region L (Some area) r = refl

pub no_float_mapping : (L : ℕ) (area : Option Area) (m : Mapping) → has_float (json_of_mapping L area m) ≡ false
no_float_mapping L None m = refl
no_float_mapping L (Some area) m = refl

-- ---- groups of processors

numbers_have_none : (numbers : List ℕ) → items_have_float (items_of (map json_count numbers)) ≡ false
numbers_have_none [] = refl
numbers_have_none (n ∷ numbers) = numbers_have_none numbers

pub no_float_group : (cpus : List ℕ) (root : ℕ) → has_float (json_of_group cpus root) ≡ false
no_float_group cpus root = rw (numbers_have_none cpus) refl

-- ---- what a dump says of its machine

pub no_float_processor : (cpu : ℕ) (registers : Option Registers) → has_float (json_of_processor cpu registers) ≡ false
no_float_processor cpu None = refl
no_float_processor cpu (Some r) = by (mode_of r.cr0 r.cr4)
  where
    by : (mode : Mode) → has_float (named_member (codes "processor") (json_of_registers cpu r mode)) ≡ false
    by NoPaging = refl
    by Paging32 = refl
    by Paging64 = refl

pub no_float_root : (cpu : ℕ) (start : Start) → has_float (json_of_root cpu start) ≡ false
no_float_root cpu start = by start.origin
  where
    by : (origin : Origin) → has_float (named_member (codes "root") (object (root_members cpu start.root start.levels origin))) ≡ false
    by ByRequest = refl
    by ByProcessor = refl
    by ByKernel = refl
    by (ByText offset) = refl
