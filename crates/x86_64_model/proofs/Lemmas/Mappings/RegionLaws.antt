-- Regions of any mappings that are apart, are not empty and lie in halves of the address space each: they are apart, lie in halves, and hold
-- the mappings.
use Rattle.std.proofs.Common.{◌≡◌, ◌≢◌, ◌⊎◌, inl, inr, ⊎_elim, ◌<◌, ◌≤◌, ◌+◌, ◌-◌, ◌||◌, ℕ, Bool, true, false, cond, List, [], ◌∷◌, find, Some, None, Option, option_map, refl, sym, ap, ◌∙◌, subst, arith}
use Rattle.std.specs.List.{AllByRecursion}
use Rattle.x86_64_model.specs.Position.{lower_half}
use Rattle.x86_64_model.specs.Mappings.{Mapping, Rights, has_position}
use Rattle.x86_64_model.specs.Regions.{Region, region_of, follows, grown_to, is_within, regions_in}
use Rattle.x86_64_model.specs.Laws.Mappings.{InOrder}
use Rattle.x86_64_model.proofs.Lemmas.Lists.All.{all_mapped}
use Rattle.x86_64_model.proofs.Lemmas.Mappings.Regions.{begun, Follows, from_follows, not_follows, regions_are_begun}

abbrev pub LiesInHalf : (L first last : ℕ) → Type 0
LiesInHalf L first last = (last < lower_half L) ⊎ (lower_half L ≤ first)

-- positions that are not empty, in one half of the address space
pub record IsPlaced (L : ℕ) (m : Mapping) : Type 0 where
  pub some : 0 < m.size
  pub half : LiesInHalf L m.start (m.start + m.size - 1)

abbrev pub MappingsApart : List Mapping → Type 0
MappingsApart ms = InOrder (λ m n. (m.start < n.start) × (m.start + m.size ≤ n.start)) ms

-- a mapping ends before each one behind it starts
ends_before : (m : Mapping) (ms : List Mapping) → 0 < m.size → AllByRecursion (λ n. (m.start < n.start) × (m.start + m.size ≤ n.start)) ms
    → AllByRecursion (λ n. m.start + m.size - 1 < n.start) ms
ends_before m ms some order = all_mapped (λ n. (m.start < n.start) × (m.start + m.size ≤ n.start)) (λ n. m.start + m.size - 1 < n.start) (λ n h. omega (arith, some, h.1)) ms order

-- ---- apart

module _ (L : ℕ) where
  abbrev pub RegionApart : Region → Region → Type 0
  RegionApart r s = (r.last < s.first) × (s.first ≡ r.last + 1 → (s.first ≡ lower_half L) ⊎ (r.rights ≢ s.rights))

  -- regions that are apart, the first of which starts at a position with these rights
  abbrev Apart : (first : ℕ) → Rights → List Region → Type 0
  Apart first rights [] = ⊥
  Apart first rights (s ∷ rest) = (s.first ≡ first) × (s.rights ≡ rights) × (s.first ≤ s.last) × AllByRecursion (RegionApart s) rest × InOrder RegionApart rest

  in_order : (first : ℕ) (rights : Rights) (regions : List Region) → Apart first rights regions → InOrder RegionApart regions
  in_order first rights [] h = absurd h
  in_order first rights (s ∷ rest) h = (h.3, h.4)

  apart_from : (r s : Region) (regions : List Region) → r.last < s.first → follows L r s ≡ false → Apart s.first s.rights regions → AllByRecursion (RegionApart r) regions
  apart_from r s [] l f h = absurd h
  apart_from r s (t ∷ rest) l f h = (
    (
      let b : r.last < t.first = omega (arith, l, h.0) in b,
      λ next. ⊎_elim
          (λ e. inl (h.0 ∙ e)) (λ n. inr (λ e. n (e ∙ h.1))) (not_follows L r s f (sym h.0 ∙ next)),
    ),
    all_mapped (RegionApart t) (RegionApart r) (λ u b. (omega (arith, l, h.0, h.2, b.0), λ next. absurd (omega (arith, l, h.0, h.2, b.0, next)))) rest h.3,
  )

  begun_apart : (r : Region) (ms : List Mapping) → r.first ≤ r.last → AllByRecursion (λ m. r.last < m.start) ms → AllByRecursion (IsPlaced L) ms → MappingsApart ms
      → Apart r.first r.rights (begun L r ms)
  unfolding begun
  begun_apart r [] l after placed order = (refl, refl, l, tt, tt)
  begun_apart r (m ∷ ms) l after placed order = elim (follows L r (region_of m)) as (λ b. follows L r (region_of m) ≡ b
      → Apart r.first r.rights (cond b (begun L (grown_to r (region_of m)) ms) (r ∷ begun L (region_of m) ms))) [
        | true ↦ λ f. begun_apart (grown_to r (region_of m)) ms (omega (arith, l, after.0, placed.0.some)) behind placed.1 order.1
        | false ↦ λ f.
            let rest = begun_apart (region_of m) ms (omega (arith, placed.0.some)) behind placed.1 order.1 in
            (refl, refl, l, apart_from r (region_of m) (begun L (region_of m) ms) after.0 f rest, in_order m.start m.rights (begun L (region_of m) ms) rest)
      ] refl
    where
      behind : AllByRecursion (λ n. m.start + m.size - 1 < n.start) ms
      behind = ends_before m ms placed.0.some order.0

  pub regions_apart : (ms : List Mapping) → AllByRecursion (IsPlaced L) ms → MappingsApart ms → InOrder RegionApart (regions_in L ms)
  unfolding regions_in
  regions_apart [] placed order = tt
  regions_apart (m ∷ ms) placed order = subst (InOrder RegionApart) (sym (regions_are_begun L m ms)) (in_order m.start m.rights (begun L (region_of m) ms)
      (begun_apart (region_of m) ms (omega (arith, placed.0.some)) (ends_before m ms placed.0.some order.0) placed.1 order.1))

  -- ---- in halves

  begun_in_halves : (r : Region) (ms : List Mapping) → LiesInHalf L r.first r.last → AllByRecursion (IsPlaced L) ms → AllByRecursion (λ s. LiesInHalf L s.first s.last) (begun L r ms)
  unfolding begun
  begun_in_halves r [] half placed = (half, tt)
  begun_in_halves r (m ∷ ms) half placed = elim (follows L r (region_of m)) as (λ b. follows L r (region_of m) ≡ b
      → AllByRecursion (λ s. LiesInHalf L s.first s.last) (cond b (begun L (grown_to r (region_of m)) ms) (r ∷ begun L (region_of m) ms))) [
        | true ↦ λ f. begun_in_halves (grown_to r (region_of m)) ms (grown (from_follows L r (region_of m) f) half) placed.1
        | false ↦ λ f. (half, begun_in_halves (region_of m) ms placed.0.half placed.1)
      ] refl
    where
      grown : Follows L r (region_of m) → LiesInHalf L r.first r.last → LiesInHalf L r.first (m.start + m.size - 1)
      grown f (inl low) = ⊎_elim (λ l. inl l) (λ h. absurd (f.not_middle (omega (arith, low, h, f.next)))) placed.0.half
      grown f (inr high) = inr high

  pub regions_in_halves : (ms : List Mapping) → AllByRecursion (IsPlaced L) ms → AllByRecursion (λ r. LiesInHalf L r.first r.last) (regions_in L ms)
  unfolding regions_in
  regions_in_halves [] placed = tt
  regions_in_halves (m ∷ ms) placed = subst (AllByRecursion (λ r. LiesInHalf L r.first r.last)) (sym (regions_are_begun L m ms)) (begun_in_halves (region_of m) ms placed.0.half placed.1)

-- ---- the mappings of a region

-- whether a position is within a region that grew is whether it was before, or the mapping that it grew by has it
within_grown : (p : ℕ) (r : Region) (m : Mapping) → r.first ≤ r.last → m.start ≡ r.last + 1 → 0 < m.size → is_within p (grown_to r (region_of m)) ≡ (is_within p r || has_position p m)
within_grown p r m l next some = grind arith

within_mapping : (p : ℕ) (m : Mapping) → 0 < m.size → is_within p (region_of m) ≡ has_position p m
within_mapping p m some = grind arith

-- the rights of what is found first
first_found : {X : Type 0} (f : X → Rights) (b : Bool) (x : X) (rest : Option X) → option_map f (cond b (Some x) rest) ≡ cond b (Some (f x)) (option_map f rest)
first_found f true x rest = refl
first_found f false x rest = refl

either_found : (b c : Bool) (o rest : Option Rights) → cond (b || c) o rest ≡ cond b o (cond c o rest)
either_found true c o rest = refl
either_found false c o rest = refl

abbrev region_rights : ℕ → List Region → Option Rights
region_rights p regions = option_map (λ r. r.rights) (find (is_within p) regions)

abbrev mapping_rights : ℕ → List Mapping → Option Rights
mapping_rights p ms = option_map (λ m. m.rights) (find (has_position p) ms)

module _ (L p : ℕ) where
  mapping_found : (m : Mapping) (ms : List Mapping) → 0 < m.size → cond (is_within p (region_of m)) (Some m.rights) (mapping_rights p ms) ≡ mapping_rights p (m ∷ ms)
  mapping_found m ms some = ap (λ b. cond b (Some m.rights) (mapping_rights p ms)) (within_mapping p m some)
      ∙ sym (first_found (λ m. m.rights) (has_position p m) m (find (has_position p) ms))

  begun_hold : (r : Region) (ms : List Mapping) → r.first ≤ r.last → AllByRecursion (IsPlaced L) ms
      → region_rights p (begun L r ms) ≡ cond (is_within p r) (Some r.rights) (mapping_rights p ms)
  unfolding begun
  begun_hold r [] l placed = first_found (λ r. r.rights) (is_within p r) r None
  begun_hold r (m ∷ ms) l placed = elim (follows L r (region_of m)) as (λ b. follows L r (region_of m) ≡ b
      → region_rights p (cond b (begun L (grown_to r (region_of m)) ms) (r ∷ begun L (region_of m) ms)) ≡ cond (is_within p r) (Some r.rights) (mapping_rights p (m ∷ ms))) [
        | true ↦ λ f. let g = from_follows L r (region_of m) f in
            begun_hold (grown_to r (region_of m)) ms (omega (arith, l, g.next, placed.0.some)) placed.1
            ∙ ap (λ b. cond b (Some r.rights) (mapping_rights p ms)) (within_grown p r m l g.next placed.0.some)
            ∙ either_found (is_within p r) (has_position p m) (Some r.rights) (mapping_rights p ms)
            ∙ ap (λ rights. cond (is_within p r) (Some r.rights) (cond (has_position p m) (Some rights) (mapping_rights p ms))) g.rights
            ∙ ap (cond (is_within p r) (Some r.rights)) (sym (first_found (λ m. m.rights) (has_position p m) m (find (has_position p) ms)))
        | false ↦ λ f. first_found (λ r. r.rights) (is_within p r) r (find (is_within p) (begun L (region_of m) ms))
            ∙ ap (cond (is_within p r) (Some r.rights)) (begun_hold (region_of m) ms (omega (arith, placed.0.some)) placed.1 ∙ mapping_found m ms placed.0.some)
      ] refl

  pub regions_hold : (ms : List Mapping) → AllByRecursion (IsPlaced L) ms → region_rights p (regions_in L ms) ≡ mapping_rights p ms
  unfolding regions_in
  regions_hold [] placed = refl
  regions_hold (m ∷ ms) placed = ap (region_rights p) (regions_are_begun L m ms) ∙ begun_hold (region_of m) ms (omega (arith, placed.0.some)) placed.1 ∙ mapping_found m ms placed.0.some
