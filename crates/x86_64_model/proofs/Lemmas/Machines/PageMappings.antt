-- Pages that are mapped one after the other: each map is accepted where the pool has a frame for each table that is missing.
use Rattle.std.proofs.Common.{◌≡◌, ◌≢◌, ◌≤◌, ℕ, ◌&&◌, ◌||◌, Bool, true, false, not, if◌then◌else◌, List, [], ◌∷◌, length, map, find, Option, refl, sym, ap, ap₂, ◌∙◌, subst, arith}
use Rattle.std.specs.List.{AllByRecursion}
use Rattle.x86_64_model.specs.Allowed.{map_allowed, parents_present, none_absent}
use Rattle.x86_64_model.specs.Call.{Answered, NotAllowed}
use Rattle.x86_64_model.specs.Conserved.{IsFrame}
use Rattle.x86_64_model.specs.Entry.{used, present, huge, no_address}
use Rattle.x86_64_model.specs.Laws.PageMappings.{IsMappable, HasMissing, MappingsSucceed}
use Rattle.x86_64_model.specs.Lists.{In}
use Rattle.x86_64_model.specs.Machine.{Machine, IsMachine, State, AfterCall, after_map, only_reply, do_call, step, replies_of}
use Rattle.x86_64_model.specs.MapRule.{AfterMap, map_call, leaf_entry, parent_part}
use Rattle.x86_64_model.specs.PageMappings.{PageMapping, AreApart, EachApart, entry_path, map_call_of, map_calls, accepted}
use Rattle.x86_64_model.specs.Path.{parents, is_small}
use Rattle.x86_64_model.specs.PathMap.{PathMap, entry}
use Rattle.x86_64_model.specs.Refusal.{Done}
use Rattle.x86_64_model.specs.Window.{Window, begins_with}
use Rattle.x86_64_model.proofs.Lemmas.Lists.All.{all_mapped, all_both, every_in, at_member}
use Rattle.x86_64_model.proofs.Lemmas.Machines.Effects.{MapMay, map_may, page_at_level}
use Rattle.x86_64_model.proofs.Lemmas.Machines.Fitting.{sound_of_fits}
use Rattle.x86_64_model.proofs.Lemmas.Machines.States.{IsSound, all_in, sound_map}
use Rattle.x86_64_model.proofs.Lemmas.Maps.Accepted.{map_leaves}
use Rattle.x86_64_model.proofs.Lemmas.Maps.Arrives.{part_has}
use Rattle.x86_64_model.proofs.Lemmas.Maps.Down.{Descends}
use Rattle.x86_64_model.proofs.Lemmas.Maps.Missing.{missing, missing_few, map_stays, map_stays_plain, map_succeeds}
use Rattle.x86_64_model.proofs.Lemmas.Maps.Trees.{page_descends}
use Rattle.x86_64_model.proofs.Lemmas.Paths.Apart.{IsPlaced, other_path, no_parent}

-- ---- with PRESENT a map's condition doesn't depend on what is mapped

-- a map's condition, where its parents are as they have to be or not
abbrev with_parents : (L : ℕ) → Option Window → List ℕ → (given : ℕ) → (parents : Bool) → Bool
with_parents L window q given parents =
    no_address given && no_address (parent_part given) && not (huge (parent_part given)) && (not (is_small L q) || not (huge given)) && parents && not (begins_with window q)

pub will_be_present : (paths : PathMap) (q : List ℕ) (given : ℕ) → present given ≡ true → parents_present paths (parent_part given) q ≡ true
will_be_present paths q given is_present =
    ap (λ b. b || none_absent paths (find (λ p. not (present (entry paths p)) || huge (entry paths p)) (parents q))) (part_has given 1 refl ∙ is_present)

pub allowed_again : (L : ℕ) (window : Option Window) (M N : PathMap) (q : List ℕ) (given : ℕ) → present given ≡ true
    → map_allowed L window M q given (parent_part given) ≡ true → map_allowed L window N q given (parent_part given) ≡ true
allowed_again L window M N q given is_present allowed = ap (with_parents L window q given) (will_be_present N q given is_present ∙ sym (will_be_present M q given is_present)) ∙ allowed

-- ---- one map

placed : (m : Machine) (M : PathMap) (x : PageMapping) → IsMappable m M x → IsPlaced m.levels x
placed m M x may = record { low = may.low; levels = may.levels; multiple = may.multiple; inside = may.inside }

module _ (m : Machine) (is : IsMachine m) (root : ℕ) (serves : ℕ → Bool) (s : State) (sound : IsSound m.levels m.window root serves s) (x : PageMapping) (may : IsMappable m s.paths x) where
  abbrev q : List ℕ
  q = entry_path m.levels x

  abbrev more : ℕ
  more = parent_part x.flags

  -- what the map leaves
  abbrev pub after : AfterMap
  after = map_call m.levels s.paths s.pool (parent_part x.flags) m.added_flags (entry_path m.levels x) x.frame x.flags

  parts : MapMay m.window s.paths q x.flags more
  parts = map_may m.levels m.window s.paths q x.flags more may.allowed

  descends : Descends s.paths (parents q) q
  descends = page_descends m.levels root s.paths sound.hierarchy.tree q

  frames : AllByRecursion IsFrame s.pool
  frames = all_in s.pool sound.frames

  pub step_is : step m s (map_call_of x) ≡ after_map after
  unfolding do_call
  step_is = ap (λ b. if b then do_call m s (map_call_of x) else only_reply s NotAllowed) may.allowed

  pub sound_after : IsSound m.levels m.window root serves (after_map after).state
  sound_after = sound_map m.levels m.window root serves s sound more m.added_flags is.adds q x.frame x.flags (page_at_level m.levels x.level x.page may.low may.high may.levels) parts

  pub is_accepted : (ts : List (List ℕ)) → HasMissing m.levels s.paths ts x → missing s.paths ts ≤ length s.pool → (after.answer ≡ Done x.frame) × (missing after.paths ts ≤ length after.supply)
  is_accepted ts among enough = map_succeeds more m.added_flags parts.marks is.adds q (leaf_entry m.levels q x.frame x.flags) x.frame ts s.paths s.pool (parents q) descends (record {
    frames = frames;
    plain = may.unmapped.none_huge;
    among = among;
    unused = may.unmapped.unused;
    enough = enough;
  })

  -- a page that lies apart
  module _ (y : PageMapping) (its : IsMappable m s.paths y) (apart : AreApart x y) where
    abbrev r : List ℕ
    r = entry_path m.levels y

    -- no parent of its path is the page's path
    parents_other : AllByRecursion (λ p. q ≢ p) (parents r)
    parents_other = no_parent m.levels y x (placed m s.paths y its) (placed m s.paths x may) (λ p a b c d. apart p c d a b)

    own_entry : entry after.paths r ≡ entry s.paths r
    own_entry = map_leaves more m.added_flags q (leaf_entry m.levels q x.frame x.flags) x.frame r (other_path m.levels x y (placed m s.paths x may) (placed m s.paths y its) apart) s.paths s.pool (parents q) descends
        (no_parent m.levels x y (placed m s.paths x may) (placed m s.paths y its) apart)

    pub still_mappable : IsMappable m after.paths y
    still_mappable = record {
      low = its.low;
      high = its.high;
      levels = its.levels;
      multiple = its.multiple;
      inside = its.inside;
      is_present = its.is_present;
      unmapped = record {
        unused = ap used own_entry ∙ its.unmapped.unused;
        none_huge = all_both _ _ _ (λ p (h : huge (entry s.paths p) ≡ false) (n : q ≢ p). map_stays_plain more m.added_flags parts.marks is.adds q (leaf_entry m.levels q x.frame x.flags) x.frame p (λ e. n (sym e)) s.paths s.pool (parents q) descends frames h)
            (parents r) its.unmapped.none_huge parents_other;
      };
      allowed = allowed_again m.levels m.window s.paths after.paths r y.flags its.is_present its.allowed;
    }

    pub still_missing : (ts : List (List ℕ)) → HasMissing m.levels s.paths ts y → HasMissing m.levels after.paths ts y
    still_missing ts among = all_both _ _ (λ p. used (entry after.paths p) ≡ false → In ts p) (λ p (h : used (entry s.paths p) ≡ false → In ts p) (n : q ≢ p) u. h (was_unused p n u (used (entry s.paths p)) refl)) (parents r) among parents_other
      where
        was_unused : (p : List ℕ) → q ≢ p → used (entry after.paths p) ≡ false → (b : Bool) → used (entry s.paths p) ≡ b → used (entry s.paths p) ≡ false
        was_unused p n u false e = e
        was_unused p n u true e = absurd (let t : true ≡ false = sym (map_stays more m.added_flags parts.marks is.adds q (leaf_entry m.levels q x.frame x.flags) x.frame p (λ e. n (sym e)) s.paths s.pool (parents q) descends frames e) ∙ u in cc)

-- ---- one after the other

pub all_accepted : (m : Machine) → IsMachine m → (root : ℕ) (serves : ℕ → Bool) (xs : List PageMapping) (s : State) → IsSound m.levels m.window root serves s
    → AllByRecursion (IsMappable m s.paths) xs → EachApart xs → (ts : List (List ℕ)) → AllByRecursion (HasMissing m.levels s.paths ts) xs → missing s.paths ts ≤ length s.pool
    → replies_of m s (map_calls xs) ≡ map accepted xs
all_accepted m is root serves [] s sound may apart ts among enough = refl
all_accepted m is root serves (x ∷ xs) s sound may apart ts among enough =
    let one = is_accepted m is root serves s sound x may.0 ts among.0 enough in
    let now = after m is root serves s sound x may.0 in
    subst (λ (a : AfterCall). a.reply ∷ replies_of m a.state (map_calls xs) ≡ accepted x ∷ map accepted xs) (sym (step_is m is root serves s sound x may.0))
    (ap₂ (λ a rs. Answered a ∷ rs) one.0
    (all_accepted m is root serves xs (after_map now).state (sound_after m is root serves s sound x may.0)
    (all_both _ _ (IsMappable m now.paths) (λ y its its_apart. still_mappable m is root serves s sound x may.0 y its its_apart) xs may.1 apart.0) apart.1 ts
    (every_in (HasMissing m.levels now.paths ts) xs (λ y i. still_missing m is root serves s sound x may.0 y (at_member _ xs may.1 y i) (at_member _ xs apart.0 y i) ts (at_member _ xs among.1 y i))) one.1))

pub mappings_succeed : MappingsSucceed
mappings_succeed m is T root serves s fits xs may apart ts among enough =
    all_accepted m is root serves xs s (sound_of_fits m.levels m.window T root serves s fits) may apart ts among (let few = missing_few s.paths ts in omega (arith, few, enough))

-- ---- as callers come to it

-- paths that have all parents of the pages have those without an entry
pub covers_missing : (L : ℕ) (M : PathMap) (ts : List (List ℕ)) (xs : List PageMapping) → AllByRecursion (λ x. AllByRecursion (In ts) (parents (entry_path L x))) xs → AllByRecursion (HasMissing L M ts) xs
covers_missing L M ts = all_mapped _ _ (λ x (h : AllByRecursion (In ts) (parents (entry_path L x))).
    all_mapped (In ts) (λ p. used (entry M p) ≡ false → In ts p) (λ p i u. i) (parents (entry_path L x)) h)
