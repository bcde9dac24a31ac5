-- Mappings that fill a span and have equal rights leave no gap.
use Rattle.std.proofs.Common.{◌≡◌, ◌≤◌, ◌+◌, ◌||◌, ℕ, Bool, true, false, cond, List, [], ◌∷◌, filter, map, inl, inr, refl, sym, ap, ◌∙◌, subst, arith}
use Rattle.std.specs.List.{AllByRecursion, list_all, list_any, sum_by}
use Rattle.std.proofs.lemmas.List.Sums.{sum_by-cons}
use Rattle.x86_64_model.specs.Lists.{In}
use Rattle.x86_64_model.specs.Mappings.{Mapping, Rights, mappings_of}
use Rattle.x86_64_model.specs.Position.{span, position_count}
use Rattle.x86_64_model.proofs.Lemmas.Lists.All.{all_in, every_in}
use Rattle.x86_64_model.proofs.Lemmas.Mappings.Chains.{IsChain, chain_wider}
use Rattle.x86_64_model.proofs.Lemmas.Mappings.Positions.{mappings_chain}
use Rattle.x86_64_mappings.specs.declared.summaries.summary.Summary.{Summary}
use Rattle.x86_64_mappings.specs.Summaries.{summary_of}
use Rattle.x86_64_mappings.specs.Wanted.{Asked, is_wanted, asked_mappings}
use Rattle.x86_64_mappings.specs.private.Extents.{AreWhole}
use Rattle.x86_64_mappings.specs.private.Merged.{lessened}
use Rattle.x86_64_mappings.specs.private.Placed.{placed}
use Rattle.x86_64_mappings.proofs.Spans.{span_of_table}
use Rattle.x86_64_mappings.proofs.Summed.{summary-placed}

abbrev pub sizes : List Mapping → ℕ
sizes ms = sum_by (λ m. m.size) ms

sizes-cons : (m : Mapping) (ms : List Mapping) → sizes (m ∷ ms) ≡ m.size + sizes ms
sizes-cons m ms = sum_by-cons (λ m. m.size) m ms

-- ---- chains

pub chain_filter : (p : Mapping → Bool) (a b : ℕ) (ms : List Mapping) → IsChain a b ms → IsChain a b (filter p ms)
chain_filter p a b [] h = h
chain_filter p a b (m ∷ ms) h = let rest = chain_filter p (m.start + m.size) b ms h.2 in
    elim (p m) as (λ t. IsChain a b (cond t (m ∷ filter p ms) (filter p ms))) [
      | true ↦ (h.0, h.1, rest)
      | false ↦ chain_wider a (m.start + m.size) b b (filter p ms) (omega (arith, h.0)) (omega arith) rest
    ]

chain_sizes : (a b : ℕ) (ms : List Mapping) → IsChain a b ms → a + sizes ms ≤ b
chain_sizes a b [] h = omega (arith, h)
chain_sizes a b (m ∷ ms) h = let rest = chain_sizes (m.start + m.size) b ms h.2 in let all = sizes-cons m ms in omega (arith, rest, all, h.0)

whole_chain : (a b : ℕ) (rights : Rights) (ms : List Mapping) → IsChain a b ms → a + sizes ms ≡ b → AllByRecursion (λ m. m.rights ≡ rights) ms → AreWhole a b rights ms
whole_chain a b rights [] h full same = omega (arith, full)
whole_chain a b rights (m ∷ ms) h full same =
    let rest = chain_sizes (m.start + m.size) b ms h.2 in let all = sizes-cons m ms in
    let first : m.start ≡ a = omega (arith, rest, all, full, h.0) in
    (first, h.1, same.0, whole_chain (m.start + m.size) b rights ms h.2 (omega (arith, full, all, first)) same.1)

-- ---- rights

none_in : {X : Type 0} (f : X → Bool) (xs : List X) (x : X) → list_any f xs ≡ false → In xs x → f x ≡ false
none_in f (y ∷ ys) x h (inl e) = ap f (sym e) ∙ first (f y) (list_any f ys) h
  where
    first : (b c : Bool) → (b || c) ≡ false → b ≡ false
    first true c h = h
    first false c h = refl
none_in f (y ∷ ys) x h (inr i) = none_in f ys x (rest (f y) (list_any f ys) h) i
  where
    rest : (b c : Bool) → (b || c) ≡ false → c ≡ false
    rest true c h = absurd (let t : true ≡ false = h in cc)
    rest false c h = h
none_in f [] x h i = absurd i

-- if some mapping has a right exactly if all have it, each mapping has it exactly if all have it
each_alike : (f : Mapping → Bool) (ms : List Mapping) → list_any f ms ≡ list_all f ms → (m : Mapping) → In ms m → f m ≡ list_all f ms
each_alike f ms same m i = by (list_all f ms) refl
  where
    by : (b : Bool) → list_all f ms ≡ b → f m ≡ b
    by true h = all_in f ms m h i
    by false h = none_in f ms m (same ∙ h) i

abbrev pub common_rights : List Mapping → Rights
common_rights ms = record { write = list_all (λ m. m.rights.write) ms; user = list_all (λ m. m.rights.user) ms; execute = list_all (λ m. m.rights.execute) ms }

abbrev pub some_rights : List Mapping → Rights
some_rights ms = record { write = list_any (λ m. m.rights.write) ms; user = list_any (λ m. m.rights.user) ms; execute = list_any (λ m. m.rights.execute) ms }

pub are_whole : (a b : ℕ) (ms : List Mapping) → IsChain a b ms → a + sizes ms ≡ b → some_rights ms ≡ common_rights ms → AreWhole a b (common_rights ms) ms
are_whole a b ms h full same = whole_chain a b (common_rights ms) ms h full (every_in (λ m. m.rights ≡ common_rights ms) ms (λ m i k. record {
  write = each_alike (λ m. m.rights.write) ms (ap (λ r. r.write) same) m i k;
  user = each_alike (λ m. m.rights.user) ms (ap (λ r. r.user) same) m i k;
  execute = each_alike (λ m. m.rights.execute) ms (ap (λ r. r.execute) same) m i k;
}))

-- ---- mappings of a table, placed

placed_chain : (s a b : ℕ) (r : Rights) (ms : List Mapping) → IsChain a b ms → IsChain (s + a) (s + b) (map (placed s r) ms)
placed_chain s a b r [] h = omega (arith, h)
placed_chain s a b r (m ∷ ms) h = (
  omega (arith, h.0),
  h.1,
  chain_wider (s + m.start + m.size) (s + (m.start + m.size)) (s + b) (s + b) (map (placed s r) ms) (omega arith) (omega arith) (placed_chain s (m.start + m.size) b r ms h.2),
)

pub asked_chain : (asked : Asked) (n f s : ℕ) (r : Rights) → IsChain s (s + position_count n) (map (placed s r) (asked_mappings asked n f))
asked_chain asked n f s r =
    let all = chain_filter (is_wanted asked.wanted) 0 (position_count n) (mappings_of n asked.words f) (mappings_chain n asked.words f) in
    subst (λ z. IsChain z (s + position_count n) (map (placed s r) (asked_mappings asked n f))) (let e : s + 0 ≡ s = omega arith in e) (placed_chain s 0 (position_count n) r (asked_mappings asked n f) all)

-- mappings fill the span if their sizes add up to its size
pub whole_span : (asked : Asked) (n f s : ℕ) (r : Rights) (b : Summary) → b ≡ lessened r (summary_of (asked_mappings asked n f)) → b.bytes ≡ span (n + 1) → b.some ≡ b.all
    → AreWhole s (s + position_count n) b.all (map (placed s r) (asked_mappings asked n f))
unfolding summary_of
whole_span asked n f s r b is full same =
    let ms = map (placed s r) (asked_mappings asked n f) in
    let its : b ≡ summary_of ms = is ∙ sym (summary-placed s r (asked_mappings asked n f)) in
    let bytes : sizes ms ≡ position_count n = ap (λ b. b.bytes) (sym its) ∙ full ∙ span_of_table n in
    let rights : some_rights ms ≡ common_rights ms = ap (λ b. b.some) (sym its) ∙ same ∙ ap (λ b. b.all) its in
    subst (λ rights. AreWhole s (s + position_count n) rights ms) (ap (λ b. b.all) (sym its)) (are_whole s (s + position_count n) ms (asked_chain asked n f s r) (ap (λ z. s + z) bytes) rights)
