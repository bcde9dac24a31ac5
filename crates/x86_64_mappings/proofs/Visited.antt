-- Visits of the entries of a table, one after the other.
use Rattle.std.proofs.Common.{zero, suc, ◌≡◌, ◌<◌, ◌≤◌, ◌+◌, ◌-◌, ◌*◌, ◌/◌, ◌%◌, ◌&&◌, ℕ, Bool, true, false, cond, List, [], ◌∷◌, ◌++◌, filter, refl, length, get_or, take, sym, ap, ◌∙◌, subst, arith, append-nil}
use Rattle.std.proofs.Math.Nat.{add-mul, add-mul-mod_self_right, div-add-mod, mul-le-mul_right, mul-mod_left, mul_assoc, mul_comm}
use Rattle.std.proofs.lemmas.List.Elements.{filter-append}
use Rattle.x86_64_model.specs.Entry.{present}
use Rattle.x86_64_model.specs.Position.{span}
use Rattle.x86_64_model.specs.Mappings.{Rights, Mapping}
use Rattle.x86_64_model.proofs.Lemmas.Mappings.SpanEnds.{span-next, count-next}
use Rattle.x86_64_mappings.specs.Wanted.{Asked}
use Rattle.x86_64_tables.specs.declared.page_table.target.EntryTarget.TheVariants.{Nothing, Page}
use Rattle.x86_64_tables.specs.EntryTargets.{target_of}
use Rattle.x86_64_mappings.specs.private.Targets.{asked_by, asked_on}
use Rattle.x86_64_mappings.proofs.Tables.{on_more}

-- ---- where the spans of entries start

pub next_start : (s i w : ℕ) → s + i * w + w ≡ s + (i + 1) * w
next_start s i w = let e = add-mul i 1 w in omega (arith, e)

pub start_inside : (s i w most : ℕ) → i < 512 → s + 512 * w ≤ most → s + i * w + w ≤ most
start_inside s i w most less inside =
    let more : (i + 1) * w ≤ 512 * w = mul-le-mul_right w (let l : i + 1 ≤ 512 = omega (arith, less) in l) in
    let next = next_start s i w in omega (arith, more, next, inside)

pub start_aligned : (s i w : ℕ) → s % w ≡ 0 → (s + i * w) % w ≡ 0
start_aligned s i w aligned = add-mul-mod_self_right s i w ∙ aligned

-- the span of an entry is the span of the table below it
pub span_below : (level : ℕ) → 1 < level → span level ≡ 512 * span (level - 1)
span_below zero low = absurd (omega arith)
span_below (suc zero) low = absurd (omega arith)
span_below (suc (suc n)) low = span-next (suc n) ∙ count-next n ∙ ap (λ w. 512 * w) (sym (span-next n) ∙ ap span (let e : suc n ≡ suc (suc n) - 1 = omega arith in e))

pub aligned_below : (level s : ℕ) → 1 < level → s % span level ≡ 0 → s % span (level - 1) ≡ 0
aligned_below level s low aligned =
    let v = span level in let w = span (level - 1) in
    let all = div-add-mod s v in
    let turn = mul_comm v (s / v) in
    let times : s ≡ s / v * v = omega (arith, all, turn, aligned) in
    ap (λ s. s % w) (times ∙ ap (λ v'. s / v * v') (span_below level low) ∙ sym (mul_assoc (s / v) 512 w)) ∙ mul-mod_left (s / v * 512) w

-- ---- small pages

pub small_page : (e : ℕ) → present e ≡ true → Page ≡ target_of 1 e
small_page e there = ap (λ b. cond b Page Nothing) (sym there)

pub small_nothing : (e : ℕ) → present e ≡ false → Nothing ≡ target_of 1 e
small_nothing e absent = ap (λ b. cond b Page Nothing) (sym absent)

-- ---- what holds for the mappings by the entries so far, and by one more

module _ (asked : Asked) (level s : ℕ) (r : Rights) (words : List ℕ) (i : ℕ) (less : i < length words) (P : List Mapping → Type 0) where
  pub visited_more : (back : List Mapping) → asked_by asked level (s + i * span level) r (get_or words i 0) ≡ back
      → P (asked_on asked level s r (take i words) ++ back) → P (asked_on asked level s r (take (i + 1) words))
  visited_more back is p = subst P (sym (on_more asked level s r words i less ∙ ap (λ ms. asked_on asked level s r (take i words) ++ ms) is)) p

  pub visited_same : asked_by asked level (s + i * span level) r (get_or words i 0) ≡ []
      → P (asked_on asked level s r (take i words)) → P (asked_on asked level s r (take (i + 1) words))
  visited_same none p = visited_more [] none (subst P (sym (append-nil (asked_on asked level s r (take i words)))) p)

  -- likewise for those of the mappings that pass a test
  module _ (passes : Mapping → Bool) where
    pub kept_more : (back : List Mapping) → filter passes (asked_by asked level (s + i * span level) r (get_or words i 0)) ≡ back
        → P (filter passes (asked_on asked level s r (take i words)) ++ back) → P (filter passes (asked_on asked level s r (take (i + 1) words)))
    kept_more back is p =
        let front = asked_on asked level s r (take i words) in
        let more = asked_by asked level (s + i * span level) r (get_or words i 0) in
        subst P (ap (filter passes) (sym (on_more asked level s r words i less)))
        (subst P (sym (filter-append passes front more)) (subst (λ back. P (filter passes front ++ back)) (sym is) p))

    pub kept_same : filter passes (asked_by asked level (s + i * span level) r (get_or words i 0)) ≡ []
        → P (filter passes (asked_on asked level s r (take i words))) → P (filter passes (asked_on asked level s r (take (i + 1) words)))
    kept_same none p = kept_more [] none (subst P (sym (append-nil (filter passes (asked_on asked level s r (take i words))))) p)

-- a mapping that has to pass two tests
pub kept_page : (passes : Mapping → Bool) (b : Bool) (m : Mapping) → filter passes (cond b (m ∷ []) []) ≡ cond (b && passes m) (m ∷ []) []
kept_page passes true m = refl
kept_page passes false m = refl
