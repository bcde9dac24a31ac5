-- Mappings of words aren't empty, lie in one half of the address space each, and end among the positions.
use Rattle.std.proofs.Common.{◌≡◌, inl, inr, ⊎_elim, ◌≤◌, ◌+◌, ◌-◌, ◌*◌, ◌^◌, ℕ, List, [], length, sym, ap, ◌∙◌, subst, arith}
use Rattle.std.specs.List.{AllByRecursion}
use Rattle.std.proofs.lemmas.Bool.{cases_lt}
use Rattle.std.proofs.lemmas.Nat.{pow-add}
use Rattle.std.proofs.Math.Nat.{mul-le-mul_right, add-mul}
use Rattle.x86_64_model.specs.Memory.{Words}
use Rattle.x86_64_model.specs.Path.{span_start, span_size, paths_below}
use Rattle.x86_64_model.specs.Position.{lower_half, position_count}
use Rattle.x86_64_model.specs.Mappings.{mapping_at, mapping_of, mappings_of}
use Rattle.x86_64_model.proofs.Lemmas.Paths.Spans.{digits}
use Rattle.x86_64_model.proofs.Lemmas.Paths.Starts.{size_pos}
use Rattle.x86_64_model.proofs.Lemmas.Lists.All.{every_in}
use Rattle.x86_64_model.proofs.Lemmas.Mappings.Chains.{in_chain}
use Rattle.x86_64_model.proofs.Lemmas.Mappings.Positions.{mappings_chain}
use Rattle.x86_64_model.proofs.Lemmas.Mappings.Said.{below_is, from_filter_map, leaf_is, mapping_words}
use Rattle.x86_64_model.proofs.Lemmas.Mappings.RegionLaws.{IsPlaced, LiesInHalf}

placed : (L : ℕ) (q words : List ℕ) → 1 ≤ length q → length q ≤ L → IsPlaced L (mapping_of L q words)
placed L q words some short = record { some = size_pos L q; half = half }
  where
    half : LiesInHalf L (span_start L q) (span_start L q + span_size L q - 1)
    half =
        let s = span_size L q in let v = digits 0 q in let c = 2 ^ (9 * length q - 1) in
        let all : c * s ≡ lower_half L =
        sym (pow-add 2 (9 * length q - 1) (12 + 9 * (L + 1 - length q - 1))) ∙ ap (λ n. 2 ^ n) (let e : 9 * length q - 1 + (12 + 9 * (L + 1 - length q - 1)) ≡ 11 + 9 * L = omega (arith, some, short) in e) in
        ⊎_elim
        (λ l. let most : (v + 1) * s ≤ c * s = mul-le-mul_right s (let l : v + 1 ≤ c = omega (arith, l) in l) in
        let sum : (v + 1) * s ≡ v * s + 1 * s = add-mul v 1 s in inl (omega (arith, most, sum, all, size_pos L q)))
        (λ h. let least : c * s ≤ v * s = mul-le-mul_right s h in inr (omega (arith, least, all)))
        (cases_lt v c)

pub mappings_placed : (L : ℕ) (T : Words) (root : ℕ) → AllByRecursion (IsPlaced L) (mappings_of L T root)
unfolding mappings_of
mappings_placed L T root = every_in (IsPlaced L) (mappings_of L T root) (λ m i.
    let at = from_filter_map (mapping_at L T root) (paths_below L []) m i in
    let path = below_is L [] at.0 tt at.1 in
    let its = mapping_words L T root at.0 m at.2 in
    subst (IsPlaced L) (leaf_is L at.0 its.0 m its.2).1 (placed L at.0 its.0 (omega (arith, path.0)) (omega (arith, path.1))))

-- each ends among the positions that there are
pub mappings_fit : (L : ℕ) (T : Words) (root : ℕ) → AllByRecursion (λ m. m.start + m.size ≤ position_count L) (mappings_of L T root)
mappings_fit L T root = every_in (λ m. m.start + m.size ≤ position_count L) (mappings_of L T root)
    (λ m i. (in_chain 0 (position_count L) (mappings_of L T root) (mappings_chain L T root) m i).2)
