-- Frames with marks for their numbers: there is room for one more, and adding it changes the marks.
use Rattle.std.proofs.Common.{◌≡◌, inl, inr, ⊎_elim, ℕ, ◌*◌, ◌/◌, ◌%◌, ◌<◌, ◌≤◌, if◌then◌else◌, Bool, true, false, List, [], ◌∷◌, ◌++◌, map, length, slice_set, sym, subst, ◌∙◌, arith}
use Rattle.std.proofs.lemmas.Bool.Decides.{eqb_tells}
use Rattle.std.proofs.lemmas.List.{length-map, get_or-set_other, length-set}
use Rattle.std.proofs.lemmas.Grind.{get_or-set_at}
use Rattle.std.proofs.lemmas.Map.Steps.{length-le_from_distinct_below}
use Rattle.x86_64_model.specs.Lists.{In, EachOnce}
use Rattle.x86_64_model.specs.Pool.{serves_below}
use Rattle.x86_64_model.proofs.Lemmas.Lists.Members.{in_append, in_left, in_right, from_map}
use Rattle.x86_64_model.proofs.Lemmas.Lists.Once.{once_append, once_map}
use Rattle.x86_64_tables.specs.FramePool.{IsMarked}
use Rattle.x86_64_tables.proofs.Pigeonhole.{distinct, found_in}

-- ---- at most as many frames as numbers

-- there are at most `limit` distinct frames with numbers below the limit
at_most : (frames : List ℕ) (limit : ℕ) → EachOnce frames → ((f : ℕ) → In frames f → f % 4096 ≡ 0) → ((f : ℕ) → In frames f → f / 4096 < limit) → length frames ≤ limit
at_most frames limit once aligned below =
    let number : ℕ → ℕ = λ f. f / 4096 in
    let numbers = once_map number frames once (λ f g i j e. let a = aligned f i in let b = aligned g j in omega arith) in
    let fits = length-le_from_distinct_below (map number frames) limit (distinct (map number frames) numbers)
    (λ q h. let more = from_map number frames q (found_in q (map number frames) h) in subst (λ n. n < limit) more.2 (below more.0 more.1)) in
    rw length-map at fits

below_limit : (limit f : ℕ) → serves_below limit f ≡ true → f / 4096 < limit
below_limit limit f h = grind (arith, h)

-- there is room for a frame that is served and not among them
pub room : (frames : List ℕ) (marks : List Bool) (limit f : ℕ) → IsMarked frames marks → ((g : ℕ) → In frames g → serves_below limit g ≡ true)
    → (In frames f → ⊥) → f % 4096 ≡ 0 → serves_below limit f ≡ true → length frames < limit
room frames marks limit f all served out multiple fits =
    let most = at_most (f ∷ frames) limit (out, all.each_once)
    (λ g. ⊎_elim (λ e. subst (λ g. g % 4096 ≡ 0) e multiple) (all.aligned g))
    (λ g. ⊎_elim (λ e. subst (λ g. g / 4096 < limit) e (below_limit limit f fits)) (λ i. below_limit limit g (served g i))) in
    omega arith

-- ---- one more at the back

-- all frames are served, whether one was added or nothing changed
pub served_back : (frames : List ℕ) (limit f : ℕ) (b : Bool) (after : List ℕ) → ((g : ℕ) → In frames g → serves_below limit g ≡ true) → serves_below limit f ≡ true
    → after ≡ (if b then frames ++ f ∷ [] else frames) → (g : ℕ) → In after g → serves_below limit g ≡ true
served_back frames limit f true after served fits e g h =
    ⊎_elim (served g) (λ last. ⊎_elim (λ e. subst (λ g. serves_below limit g ≡ true) e fits) (λ none. absurd none) last) (in_append frames (f ∷ []) g (subst (λ xs. In xs g) e h))
served_back frames limit f false after served fits e g h = served g (subst (λ xs. In xs g) e h)

pub marked_back : (frames : List ℕ) (marks : List Bool) (f : ℕ) → IsMarked frames marks → (In frames f → ⊥) → f % 4096 ≡ 0 → f / 4096 < length marks
    → IsMarked (frames ++ f ∷ []) (slice_set marks (f / 4096) true)
marked_back frames marks f all out multiple below = record {
  aligned = λ g h. ⊎_elim (all.aligned g) (λ last. ⊎_elim (λ e. subst (λ g. g % 4096 ≡ 0) e multiple) (λ none. absurd none) last) (in_append frames (f ∷ []) g h);
  each_once = once_append frames (f ∷ []) all.each_once ((λ h. h), tt) (λ g i last. ⊎_elim (λ e. out (subst (In frames) (sym e) i)) (λ none. none) last);
  marked = λ n h. elim (eqb_tells n (f / 4096)) [
    | inl same ↦ (λ _. in_right frames (f ∷ []) (n * 4096) (inl (let e = same.1 in omega arith)), λ _. get_or-set_at marks (f / 4096) n true false same.1 below)
    | inr other ↦
        let kept = get_or-set_other marks (f / 4096) n true false other.1 in
        let before = all.marked n (rw length-set at h) in (
          λ is. in_left frames (f ∷ []) (n * 4096) (before.0 (sym kept ∙ is)),
          λ i. kept ∙ before.1 (⊎_elim (λ i. i) (λ last. absurd (⊎_elim (λ e. other.1 (omega arith)) (λ none. none) last)) (in_append frames (f ∷ []) (n * 4096) i)),
        )
  ];
}
