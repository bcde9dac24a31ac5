-- The processor's page walks in a memory after a call that maps a page.
use Rattle.std.proofs.Common.{◌≡◌, ◌≤◌, ◌+◌, ◌-◌, ◌*◌, ◌/◌, ◌%◌, ℕ, true, false, List, length, sym, ap, ◌∙◌, subst, arith, eqb-true}
use Rattle.std.specs.List.{AllByRecursion}
use Rattle.std.proofs.Math.Nat.{div-add-mod, mul_comm}
use Rattle.x86_64_model.specs.Allowed.{map_allowed}
use Rattle.x86_64_model.specs.Arrivals.{Arrives, Asks}
use Rattle.x86_64_model.specs.Conserved.{IsFrame}
use Rattle.x86_64_model.specs.Entry.{IsParentFlags, present, address}
use Rattle.x86_64_model.specs.Laws.Maps.{IsMapOf}
use Rattle.x86_64_model.specs.Layout.{Layout}
use Rattle.x86_64_model.specs.Hierarchy.{◌laid_in◌, ArrivesIn, SupplyFits, paths, walk, words}
use Rattle.x86_64_model.specs.Lists.{In}
use Rattle.x86_64_model.specs.MapRule.{AfterMap, map_call, parent_part}
use Rattle.x86_64_model.specs.private.MapperCalls.{MapsPage}
use Rattle.x86_64_model.specs.Memory.{Memory}
use Rattle.x86_64_model.specs.Path.{path_at}
use Rattle.x86_64_model.specs.PathMap.{PathMap}
use Rattle.x86_64_model.specs.Position.{span}
use Rattle.x86_64_model.specs.Refusal.{Answer, Done}
use Rattle.x86_64_model.specs.Window.{begins_with, IsValidFor}
use Rattle.x86_64_model.proofs.Lemmas.Machines.Effects.{map_may}
use Rattle.x86_64_model.proofs.Lemmas.Machines.States.{all_in}
use Rattle.x86_64_model.proofs.Lemmas.Maps.Calls.{map_call_keeps_walks}
use Rattle.x86_64_model.proofs.Lemmas.Paths.Pages.{length_taken, map_to_arrives_in_page}

-- the hierarchy that the rule leaves is the meaning of the words
abbrev pub IsOutcome : (l : Layout) (m : Memory) (supply : List ℕ) (page : List ℕ) (frame given more : ℕ) (answer : Answer) (n : Memory) (rest : List ℕ) → Type 0
IsOutcome l m supply page frame given more answer n rest = map_call l.levels (paths (l laid_in m)) supply more l.added_flags page frame given ≡ record { paths = paths (l laid_in n); supply = rest; answer = answer }

-- the words hold the hierarchy before and after
map_of : (l : Layout) (m : Memory) (supply : List ℕ) (page : List ℕ) (frame given more : ℕ) (answer : Answer) (n : Memory) (rest : List ℕ)
    → SupplyFits (l laid_in m) supply → IsOutcome l m supply page frame given more answer n rest → SupplyFits (l laid_in n) rest
    → IsMapOf l.levels l.window (words (l laid_in m)) (words (l laid_in n)) l.root (paths (l laid_in m)) supply more l.added_flags page frame given
map_of l m supply page frame given more answer n rest before outcome after = record {
  before = before.valid;
  after = subst (λ (M : PathMap). IsValidFor l.levels l.window (words (l laid_in n)) l.root M) (sym (ap (λ (a : AfterMap). a.paths) outcome)) after.valid;
}

-- each walk that arrived still arrives
pub walks_after : (l : Layout) (m : Memory) (supply : List ℕ) (page : List ℕ) (frame given more : ℕ) (answer : Answer) (n : Memory) (rest : List ℕ) → IsParentFlags more
    → SupplyFits (l laid_in m) supply → IsOutcome l m supply page frame given more answer n rest → SupplyFits (l laid_in n) rest → (p : ℕ) → Arrives more (walk (l laid_in m) p) (walk (l laid_in n) p)
walks_after l m supply page frame given more answer n rest marks before outcome after =
    map_call_keeps_walks l.levels l.window (words (l laid_in m)) (words (l laid_in n)) l.root (paths (l laid_in m)) supply more l.added_flags page frame given marks (map_of l m supply page frame given more answer n rest before outcome after)

pub supply_frames : (l : Layout) (m : Memory) (supply : List ℕ) → SupplyFits (l laid_in m) supply → AllByRecursion IsFrame supply
supply_frames l m supply ready = all_in supply (λ f i. record { aligned = eqb-true (address f) f (ready.are_frames f i); not_zero = λ z. ready.not_zero (subst (In supply) z i) })

-- after a page at a multiple of its size is mapped with PRESENT, the processor arrives everywhere in it, with exactly the
-- requested rights
at_multiple : (l : Layout) (level k frame given : ℕ) (m : Memory) (supply : List ℕ) (n : Memory) (rest : List ℕ) → IsParentFlags l.added_flags
    → SupplyFits (l laid_in m) supply → Asks l.levels level (path_at l.levels level (k * span level)) frame given → begins_with l.window (path_at l.levels level (k * span level)) ≡ false
    → MapsPage l m supply (path_at l.levels level (k * span level)) frame given (parent_part given) (Done frame) n rest
    → ArrivesIn (l laid_in n) (span level) (k * span level) frame given
at_multiple l level k frame given m supply n rest adds ready asks outside mapped =
    map_to_arrives_in_page l.levels level l.window (words (l laid_in m)) (words (l laid_in n)) l.root (paths (l laid_in m)) supply l.added_flags k frame given
    (record {
      asks = asks;
      adds = adds;
      outside = outside;
      frames = supply_frames l m supply ready;
      words = map_of l m supply (path_at l.levels level (k * span level)) frame given (parent_part given) (Done frame) n rest ready mapped.outcome mapped.ready;
      answer = ap (λ (a : AfterMap). a.answer) mapped.outcome;
    })

-- what a call asks for that maps a page at a multiple of its size
pub asks_for : (L level start frame given : ℕ) → 1 ≤ level → level ≤ 3 → level ≤ L → present given ≡ true → address given ≡ 0 → address frame ≡ frame → frame % span level ≡ 0
    → Asks L level (path_at L level start) frame given
asks_for L level start frame given low high levels is_present no_address is_frame aligned =
    let long : length (path_at L level start) ≡ L + 1 - level = length_taken start (L + 1 - level) L (omega (arith, low)) in
    record {
      is_present = is_present;
      no_address = no_address;
      at_level = omega (arith, long, levels);
      nonempty = omega (arith, long, levels);
      low = low;
      high = high;
      is_frame = is_frame;
      aligned = aligned;
    }

pub arrives_in_page : (l : Layout) (level start frame given : ℕ) → 1 ≤ level → level ≤ 3 → level ≤ l.levels → start % span level ≡ 0 → address frame ≡ frame → frame % span level ≡ 0
    → IsParentFlags l.added_flags → (m : Memory) (supply : List ℕ) (n : Memory) (rest : List ℕ) → SupplyFits (l laid_in m) supply
    → map_allowed l.levels l.window (paths (l laid_in m)) (path_at l.levels level start) given (parent_part given) ≡ true
    → MapsPage l m supply (path_at l.levels level start) frame given (parent_part given) (Done frame) n rest → present given ≡ true
    → ArrivesIn (l laid_in n) (span level) start frame given
arrives_in_page l level start frame given low high levels multiple is_frame aligned adds m supply n rest ready allowed mapped is_present =
    let may = map_may l.levels l.window (paths (l laid_in m)) (path_at l.levels level start) given (parent_part given) allowed in
    let number : start / span level * span level ≡ start = mul_comm (start / span level) (span level) ∙ (let all = div-add-mod start (span level) in omega (arith, all, multiple)) in
    subst (λ s. Asks l.levels level (path_at l.levels level s) frame given → begins_with l.window (path_at l.levels level s) ≡ false
    → MapsPage l m supply (path_at l.levels level s) frame given (parent_part given) (Done frame) n rest
    → ArrivesIn (l laid_in n) (span level) s frame given)
    number (at_multiple l level (start / span level) frame given m supply n rest adds ready)
    (asks_for l.levels level start frame given low high levels is_present may.no_address_given is_frame aligned) may.outside mapped
