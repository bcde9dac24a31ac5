-- Reasons of texts, and of the arguments that they are from.
use Rattle.std.proofs.Common.{◌≡◌, ◌<◌, ◌⊎◌, inl, inr, ℕ, List, Option, None, Some, Result, IfErr, codes, length, get_or, map, sym, subst, refl, ap, ◌∙◌}
use Rattle.std.proofs.lemmas.Result.{IfErr-weaker}
use Rattle.std.specs.Borrow.{Bor}
use Rattle.clap.specs.Matches.{first_value}
use Rattle.clap.specs.declared.parser.matches.Found.{Found}
use Rattle.ptdump_check.specs.declared.checking.AddressRange.{AddressRange}
use Rattle.ptdump_json.specs.Accesses.{access_name}
use Rattle.ptdump_engine.specs.declared.failure.Failure.TheVariants.{OutOfMemory}
use Rattle.ptdump.specs.DirectMaps.{IsAddressRange, IsDirectMap}
use Rattle.ptdump.specs.Options.{option_name}
use Rattle.ptdump.specs.Placements.{IsRawRange}
use Rattle.ptdump.specs.Reasons.{IsMistake, IsNoAddress, IsNoPlacement, IsNoRange, IsNoSetting, IsStopReason, IsReasonFor}
use Rattle.ptdump.specs.Requests.{IsUnreadArgument, values}
use Rattle.ptdump.specs.declared.stop.Stop.{Stop}
use Rattle.ptdump.specs.declared.stop.Stop.TheVariants.{NoCommand, NoAddress, NoNumber, NoRange, BaseAndRanges, NoAccess, NoSetting, NoDirectMap, Failed}
use Rattle.x86_64_access.specs.declared.request.Access.{Access}
use Rattle.ptdump.proofs.NumberTexts.{listed_at}

-- one of the texts is no range, or memory allocation failed
pub no_range_at : (texts : List (Bor (List ℕ))) (i : ℕ) (d : Bor (List ℕ)) (stop : Stop) → i < length texts → (stop ≡ Failed OutOfMemory) ⊎ (stop ≡ NoRange (get_or texts i d))
    → IsUnreadArgument (IsRawRange (get_or texts i d).now) stop → IsNoRange (map (λ text. text.now) texts) stop
no_range_at texts i d stop below (inl memory) unread = subst (IsNoRange (map (λ (text : Bor (List ℕ)). text.now) texts)) (sym memory) refl
no_range_at texts i d stop below (inr is) (inl memory) = cc
no_range_at texts i d stop below (inr is) (inr none) = subst (IsNoRange (map (λ (text : Bor (List ℕ)). text.now) texts)) (sym is) (listed_at texts i d below, none)

-- the name of the access is that of none
pub no_access_named : (found : Found) (name : Bor (List ℕ)) (stop : Stop) → first_value found (codes "as") ≡ Some name.now → stop ≡ NoAccess name
    → ((access : Access) → name.now ≡ access_name access → ⊥) → IsMistake found stop
no_access_named found name stop given is none = subst (IsMistake found) (sym is) (given, none)

-- the text of a direct map denotes no range, or memory allocation failed
pub no_direct_map : (found : Found) (text : Bor (List ℕ)) (stop : Stop) → first_value found (codes "direct-map") ≡ Some text.now → (stop ≡ Failed OutOfMemory) ⊎ (stop ≡ NoDirectMap text)
    → IsUnreadArgument (IsAddressRange text.now) stop → IsStopReason found stop
no_direct_map found text stop given (inl memory) unread = subst (IsStopReason found) (sym memory) refl
no_direct_map found text stop given (inr is) (inl memory) = cc
no_direct_map found text stop given (inr is) (inr none) = subst (IsStopReason found) (sym is) (given, none)

-- then there is no direct map
no_range : (text : List ℕ) → ((range : AddressRange) → IsAddressRange text range → ⊥) → (direct_map : Option AddressRange) → IsDirectMap (Some text) direct_map → ⊥
no_range text none None is = is
no_range text none (Some range) is = none range is

pub unread_map : (first : Option (List ℕ)) (text : List ℕ) (stop : Stop) → first ≡ Some text → IsUnreadArgument (IsAddressRange text) stop → IsUnreadArgument (IsDirectMap first) stop
unread_map first text stop given (inl memory) = inl memory
unread_map first text stop given (inr none) = inr (subst (λ o. (direct_map : Option AddressRange) → IsDirectMap o direct_map → ⊥) (sym given) (no_range text none))

-- the ranges of a placement aren't read
pub of_ranges : (base : Option (List ℕ)) (ranges : List (List ℕ)) (stop : Stop) → IsNoRange ranges stop → IsNoPlacement base ranges stop
of_ranges base ranges (NoRange text) is = is
of_ranges base ranges (Failed failure) is = is
of_ranges base ranges stop is = absurd is

-- the reason why addresses, settings or a placement aren't read is that of the arguments
pub of_addresses : (found : Found) (stop : Stop) → IsNoAddress (values found (codes "addresses")) stop → IsStopReason found stop
of_addresses found (NoAddress text) is = is
of_addresses found (Failed failure) is = is
of_addresses found stop is = absurd is

pub of_settings : (found : Found) (stop : Stop) → IsNoSetting (values found (codes "controls")) stop → IsMistake found stop
of_settings found (NoSetting word) is = is
of_settings found stop is = absurd is

pub of_placement : (found : Found) (stop : Stop) → IsNoPlacement (first_value found (codes "base")) (values found (codes "range")) stop → IsStopReason found stop
of_placement found (NoNumber option text) is = (ap (λ o. first_value found (option_name o)) is.0 ∙ is.1, is.2)
of_placement found (NoRange text) is = is
of_placement found BaseAndRanges is = is
of_placement found (Failed failure) is = is
of_placement found stop is = absurd is

-- a wrong argument is a reason
pub of_mistake : (found : Found) (stop : Stop) → IsMistake found stop → IsStopReason found stop
of_mistake found (Failed failure) is = absurd is
of_mistake found stop is = is

-- the reason why arguments aren't read, whatever the name of the command
pub for_any_name : (name : List ℕ) (found : Found) (stop : Stop) → IsStopReason found stop → IsReasonFor name found stop
for_any_name name found (NoCommand word) is = absurd is
for_any_name name found stop is = is

pub reason_for : {T : Type 0} (name : List ℕ) (found : Found) (result : Result T Stop) → IfErr result (IsStopReason found) → IfErr result (IsReasonFor name found)
reason_for name found result = IfErr-weaker result (IsStopReason found) (IsReasonFor name found) (for_any_name name found)

-- likewise of a wrong argument
pub mistake_for_any_name : (name : List ℕ) (found : Found) (stop : Stop) → IsMistake found stop → IsReasonFor name found stop
mistake_for_any_name name found stop is = for_any_name name found stop (of_mistake found stop is)

pub mistake_for : {T : Type 0} (name : List ℕ) (found : Found) (result : Result T Stop) → IfErr result (IsMistake found) → IfErr result (IsReasonFor name found)
mistake_for name found result = IfErr-weaker result (IsMistake found) (IsReasonFor name found) (mistake_for_any_name name found)
