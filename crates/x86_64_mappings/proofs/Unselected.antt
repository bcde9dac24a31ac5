-- A table maps nothing that is selected if its span lies outside of the selected addresses, or if none of its mappings has
-- the selected rights.
use Rattle.std.proofs.Common.{◌≡◌, ◌≤◌, ◌+◌, ◌-◌, ◌*◌, ◌%◌, ◌&&◌, ◌||◌, ℕ, Bool, true, false, true≢false, not, cond, List, [], ◌∷◌, filter, map, inl, inr, Option, Some, None, refl, sym, ap, ap₂, ◌∙◌, le-leb, arith}
use Rattle.std.specs.List.{AllByRecursion, list_any}
use Rattle.std.proofs.Math.Bool.{or-true}
use Rattle.std.proofs.lemmas.Bool.{and_from, and_parts, leb-true}
use Rattle.std.proofs.lemmas.Nat.{pow_pos}
use Rattle.x86_64_model.specs.Lists.{In}
use Rattle.x86_64_model.specs.Mappings.{Mapping, Rights}
use Rattle.x86_64_model.specs.Position.{position_count}
use Rattle.x86_64_model.proofs.Lemmas.Lists.All.{all_map, every_in, filter_none}
use Rattle.x86_64_model.proofs.Lemmas.Mappings.Chains.{IsChain, chain_runs}
use Rattle.x86_64_tables.specs.Rights.{both}
use Rattle.x86_64_mappings.specs.Selections.{includes, is_from, is_to, is_mapping_selected}
use Rattle.x86_64_mappings.specs.Summaries.{summary_of}
use Rattle.x86_64_mappings.specs.Wanted.{Asked, asked_mappings}
use Rattle.x86_64_mappings.specs.declared.selection.Selection.{Selection}
use Rattle.x86_64_mappings.specs.private.Placed.{placed}
use Rattle.x86_64_mappings.proofs.Whole.{asked_chain}

-- if one test entails another, and that one fails, the first fails
fails_too : (b c : Bool) → (b ≡ true → c ≡ true) → c ≡ false → b ≡ false
fails_too true c h none = absurd (true≢false (sym (h refl) ∙ none))
fails_too false c h none = refl

-- ---- all that is mapped

-- if no address and no right is asked for, all mappings are selected
pub all_selected : (L : ℕ) (ms : List Mapping) → filter (is_mapping_selected L (record { from = None; to = None; rights = record { write = false; user = false; execute = false } })) ms ≡ ms
all_selected L [] = refl
all_selected L (m ∷ ms) = ap₂ (λ b ns. cond b (m ∷ ns) ns) (has m.rights.write m.rights.user m.rights.execute) (all_selected L ms)
  where
    has : (a b c : Bool) → ((a || true) && (b || true) && (c || true)) ≡ true
    has a b c = and_from _ _ (and_from _ _ (or-true a) (or-true b)) (or-true c)

-- ---- by the addresses

module _ (L : ℕ) where
  pub later : (from : Option ℕ) (p q : ℕ) → p ≤ q → is_from L from p ≡ true → is_from L from q ≡ true
  later None p q le h = refl
  later (Some a) p q le h = let low = leb-true (a % position_count L) p h in le-leb (a % position_count L) q (omega (arith, low, le))

  pub earlier : (to : Option ℕ) (p q : ℕ) → q ≤ p → is_to L to p ≡ true → is_to L to q ≡ true
  earlier None p q le h = refl
  earlier (Some a) p q le h = let high = leb-true p (a % position_count L) h in le-leb q (a % position_count L) (omega (arith, high, le))

-- what holds for each mapping that lies between two positions holds for those of a chain
chain_within : (P : Mapping → Type 0) (a b : ℕ) (ms : List Mapping) → ((m : Mapping) → a ≤ m.start → m.start + m.size ≤ b → P m) → IsChain a b ms → AllByRecursion P ms
chain_within P a b [] f h = tt
chain_within P a b (m ∷ ms) f h =
    let end = chain_runs (m.start + m.size) b ms h.2 in (
      f m h.0 end,
      chain_within P (m.start + m.size) b ms (λ n low high. f n (omega (arith, low, h.0)) high) h.2,
    )

module _ (L : ℕ) (s : Selection) (asked : Asked) (level frame start : ℕ) (above : Rights) where
  abbrev its : List Mapping
  its = map (placed start above) (asked_mappings asked level frame)

  pub none_reached : (last : ℕ) → last ≡ start + (position_count level - 1)
      → (is_from L s.from last && is_to L s.to start) ≡ false → filter (is_mapping_selected L s) its ≡ []
  none_reached last ends none =
      let some = pow_pos (12 + 9 * level) in
      filter_none (is_mapping_selected L s) its (chain_within (λ m. is_mapping_selected L s m ≡ false) start (start + position_count level) its
      (λ m low high. fails_too (is_mapping_selected L s m) _ (λ h.
      let parts = and_parts (is_from L s.from (m.start + m.size - 1) && is_to L s.to m.start) (includes m.rights s.rights) h in
      let reached = and_parts (is_from L s.from (m.start + m.size - 1)) (is_to L s.to m.start) parts.0 in
      and_from _ _ (later L s.from (m.start + m.size - 1) last (omega (arith, high, ends, some)) reached.0) (earlier L s.to m.start start low reached.1)) none)
      (asked_chain asked level frame start above))

-- ---- by the rights

has_more : (b c w : Bool) → (b ≡ true → c ≡ true) → (b || not w) ≡ true → (c || not w) ≡ true
has_more true c w h is = ap (λ c. c || not w) (h refl)
has_more false true w h is = refl
has_more false false w h is = is

-- rights that include others do so if there are more
includes_more : (r q w : Rights) → (r.write ≡ true → q.write ≡ true) → (r.user ≡ true → q.user ≡ true) → (r.execute ≡ true → q.execute ≡ true)
    → includes r w ≡ true → includes q w ≡ true
includes_more r q w write user execute h =
    let parts = and_parts ((r.write || not w.write) && (r.user || not w.user)) (r.execute || not w.execute) h in
    let first = and_parts (r.write || not w.write) (r.user || not w.user) parts.0 in
    and_from _ _ (and_from _ _ (has_more r.write q.write w.write write first.0) (has_more r.user q.user w.user user first.1))
    (has_more r.execute q.execute w.execute execute parts.1)

any_in : (f : Mapping → Bool) (ms : List Mapping) (m : Mapping) → In ms m → f m ≡ true → list_any f ms ≡ true
any_in f [] m i h = absurd i
any_in f (n ∷ ms) m (inl is) h = ap (λ b. b || list_any f ms) (ap f is ∙ h)
any_in f (n ∷ ms) m (inr i) h = by (f n) (any_in f ms m i h)
  where
    by : (b : Bool) → list_any f ms ≡ true → (b || list_any f ms) ≡ true
    by true h = refl
    by false h = h

more_with : (a b c : Bool) → (b ≡ true → c ≡ true) → (a && b) ≡ true → (a && c) ≡ true
more_with a b c h is = let parts = and_parts a b is in and_from a c parts.0 (h parts.1)

module _ (L : ℕ) (s : Selection) (start : ℕ) (above : Rights) (ms : List Mapping) where
  -- if rights that each mapping's rights are among don't include the selected ones
  none_allowed : (most : Rights) → ((m : Mapping) → In ms m → includes (both above m.rights) s.rights ≡ true → includes most s.rights ≡ true)
      → includes most s.rights ≡ false → filter (is_mapping_selected L s) (map (placed start above) ms) ≡ []
  none_allowed most among none =
      filter_none (is_mapping_selected L s) (map (placed start above) ms) (all_map (λ m. is_mapping_selected L s m ≡ false) (placed start above) ms
      (every_in (λ m. is_mapping_selected L s (placed start above m) ≡ false) ms (λ m i. fails_too (is_mapping_selected L s (placed start above m)) _ (λ h.
      among m i (and_parts (is_from L s.from (start + m.start + m.size - 1) && is_to L s.to (start + m.start)) (includes (both above m.rights) s.rights) h).1) none)))

  pub none_allowed_above : includes above s.rights ≡ false → filter (is_mapping_selected L s) (map (placed start above) ms) ≡ []
  none_allowed_above = none_allowed above (λ m i. includes_more (both above m.rights) above s.rights
      (λ h. (and_parts above.write m.rights.write h).0) (λ h. (and_parts above.user m.rights.user h).0) (λ h. (and_parts above.execute m.rights.execute h).0))

  pub none_allowed_below : includes (both above (summary_of ms).some) s.rights ≡ false → filter (is_mapping_selected L s) (map (placed start above) ms) ≡ []
  unfolding summary_of
  none_allowed_below = none_allowed (both above (summary_of ms).some) (λ m i. includes_more (both above m.rights) (both above (summary_of ms).some) s.rights
      (more_with above.write m.rights.write _ (any_in (λ m. m.rights.write) ms m i))
      (more_with above.user m.rights.user _ (any_in (λ m. m.rights.user) ms m i))
      (more_with above.execute m.rights.execute _ (any_in (λ m. m.rights.execute) ms m i)))
