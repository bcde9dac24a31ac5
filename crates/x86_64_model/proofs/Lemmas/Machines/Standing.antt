-- Pages that stand in the hierarchy that a mapper owns, before and after a `map_to`.
use Rattle.std.proofs.Common.{◌≡◌, ◌≢◌, ◌⊎◌, inl, inr, ◌<◌, ◌≤◌, ◌+◌, ◌-◌, ◌%◌, ℕ, true, false, List, length, take, Some, sym, ap, ◌∙◌, subst, arith}
use Rattle.x86_64_model.specs.Call.{MapTo}
use Rattle.x86_64_model.specs.Entry.{IsParentFlags, present, address, writable, user}
use Rattle.x86_64_model.specs.Layout.{Layout}
use Rattle.x86_64_model.specs.MapRule.{AfterMap, map_call, parent_part}
use Rattle.x86_64_model.specs.Hierarchy.{◌laid_in◌, Hierarchy, Valid, MayMap, DoesMap, ArrivesIn, IsMappedAs, paths, path_of}
use Rattle.x86_64_model.specs.Path.{path_at}
use Rattle.x86_64_model.specs.Position.{span, page_path}
use Rattle.x86_64_model.specs.Refusal.{Answer, Done, Refused, ParentEntryHugePage}
use Rattle.x86_64_model.specs.Standing.{IsMappedIn}
use Rattle.x86_64_model.specs.Window.{begins_with}
use Rattle.x86_64_model.proofs.Lemmas.Machines.Effects.{map_may, MapMay}
use Rattle.x86_64_model.proofs.Lemmas.Machines.Owners.{is_mapped}
use Rattle.x86_64_model.proofs.Lemmas.Maps.Mapped.{asks_for, supply_frames}
use Rattle.x86_64_model.proofs.Lemmas.Maps.Standing.{accepted_stands, standing_is_left, standing_arrives, standing_refuses}
use Rattle.x86_64_model.proofs.Lemmas.Paths.Pages.{length_taken, front_of_page}

-- the processor arrives in all of a page that stands, with just the rights that its flags have
pub arrives_where_stands : {Lent : Type 0} (h : Hierarchy Lent) (level page frame given : ℕ) → Valid h → begins_with h.layout.window (path_of h level page) ≡ false
    → page % span level ≡ 0 → IsMappedAs h level page frame given → ArrivesIn h (span level) page frame given
arrives_where_stands h level page frame given valid outside multiple stands offset within =
    let asks = stands.asks in let long = length_taken page (h.layout.levels + 1 - level) h.layout.levels (let low = asks.low in omega (arith, low)) in
    let front = front_of_page h.layout.levels level page offset asks.low (let at = asks.at_level in let some = asks.nonempty in omega (arith, at, some)) multiple within in
    standing_arrives h.layout.levels level h.layout.window _ h.layout.root (paths h) (path_of h level page) frame given valid outside stands (page + offset) front.0
    ∙ ap (λ o. Some (record { address = frame + o; write = writable given; user = user given })) front.1

module _ {Lent : Type 0} (h after : Hierarchy Lent) (supply rest : List ℕ) (level page frame given : ℕ) (answer : Answer) (low : 1 ≤ level) (levels : level ≤ h.layout.levels)
    (may : MayMap h supply (MapTo level page frame given)) (does : DoesMap h supply (MapTo level page frame given) answer after rest) where
  long : length (path_of h level page) ≡ h.layout.levels + 1 - level
  long = length_taken page (h.layout.levels + 1 - level) h.layout.levels (omega (arith, low))

  outcome : map_call h.layout.levels (paths h) supply (parent_part given) h.layout.added_flags (path_of h level page) frame given
      ≡ record { paths = paths (h.layout laid_in after.memory); supply = rest; answer = answer }
  outcome = (is_mapped h supply (path_of h level page) frame given (parent_part given) answer after rest does).outcome

  may_parts : MapMay h.layout.window (paths h) (path_of h level page) given (parent_part given)
  may_parts = map_may h.layout.levels h.layout.window (paths h) (path_of h level page) given (parent_part given) may.allowed

  -- what the rule leaves is what is there afterwards
  to_after : (l p f g : ℕ) → IsMappedIn h.layout.levels l (map_call h.layout.levels (paths h) supply (parent_part given) h.layout.added_flags (path_of h level page) frame given).paths (path_of h l p) f g
      → IsMappedAs after l p f g
  to_after l p f g stands =
      subst (λ (layout : Layout). IsMappedIn layout.levels l (paths (layout laid_in after.memory)) (path_at layout.levels l p) f g) (sym does.keeps.layout)
      (subst (λ (a : AfterMap). IsMappedIn h.layout.levels l a.paths (path_of h l p) f g) outcome stands)

  -- an accepted map with PRESENT makes its page stand
  pub map_to_stands : level ≤ 3 → IsParentFlags h.layout.added_flags → address frame ≡ frame → frame % span level ≡ 0 → present given ≡ true → answer ≡ Done frame → IsMappedAs after level page frame given
  map_to_stands high adds is_frame aligned is_present accepted = to_after level page frame given
      (accepted_stands h.layout.levels level _ h.layout.root (paths h) supply h.layout.added_flags (path_of h level page) frame given may.fits.valid.valid.holds adds
      (supply_frames h.layout h.memory supply may.fits)
      (asks_for h.layout.levels level page frame given low high levels is_present may_parts.no_address_given is_frame aligned)
      (ap (λ (a : AfterMap). a.answer) outcome ∙ accepted))

  -- any map leaves a page that stands, but where a larger page of this size or more refuses it
  pub stands_after : (l p f g : ℕ) → (l ≤ level) ⊎ (answer ≢ Refused ParentEntryHugePage) → IsMappedAs h l p f g → IsMappedAs after l p f g
  stands_after l p f g spared stands = to_after l p f g
      (standing_is_left h.layout.levels l _ h.layout.root (paths h) supply (parent_part given) h.layout.added_flags (path_of h level page) frame given may.fits.valid.valid.holds may_parts.marks
      (omega (arith, long, low)) (path_of h l p) f g stands (by spared))
    where
      by : (l ≤ level) ⊎ (answer ≢ Refused ParentEntryHugePage)
          → (length (path_of h level page) ≤ length (path_of h l p)) ⊎ ((map_call h.layout.levels (paths h) supply (parent_part given) h.layout.added_flags (path_of h level page) frame given).answer ≢ Refused ParentEntryHugePage)
      by (inl no_larger) = inl (let its = length_taken p (h.layout.levels + 1 - l) h.layout.levels (let one = stands.asks.low in omega (arith, one)) in omega (arith, long, its, no_larger))
      by (inr not) = inr (λ is. not (sym (ap (λ (a : AfterMap). a.answer) outcome) ∙ is))

  -- a map of a page that shares a position with one that stands isn't accepted
  pub stands_refuses : (l p f g : ℕ) → page % span level ≡ 0 → p % span l ≡ 0 → IsMappedAs h l p f g → (o o' : ℕ) → o < span level → o' < span l → page + o ≡ p + o' → answer ≢ Done frame
  stands_refuses l p f g multiple its_multiple stands o o' within its_within same accepted =
      standing_refuses h.layout.levels l _ h.layout.root (paths h) supply (parent_part given) h.layout.added_flags (path_of h level page) frame given may.fits.valid.valid.holds
      (omega (arith, long, levels)) (omega (arith, long, low)) (path_of h l p) f g stands (page + o)
      (subst (λ at. take (length (path_of h l p)) (page_path h.layout.levels at) ≡ path_of h l p) (sym same) (front_of_page h.layout.levels l p o' stands.asks.low (let at = stands.asks.at_level in let some = stands.asks.nonempty in omega (arith, at, some)) its_multiple its_within).0)
      (front_of_page h.layout.levels level page o low levels multiple within).0
      (ap (λ (a : AfterMap). a.answer) outcome ∙ accepted)
