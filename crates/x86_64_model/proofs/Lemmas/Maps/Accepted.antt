-- What a map leaves beside the page's path, and what an accepted one leaves on it.
use Rattle.std.proofs.Common.{◌≡◌, ◌≢◌, ℕ, ◌&&◌, Bool, true, false, not, cond, List, [], ◌∷◌, bit_or, refl, sym, ap, ap₂, ◌∙◌, subst}
use Rattle.std.specs.List.{AllByRecursion}
use Rattle.std.proofs.lemmas.Nat.{or_comm}
use Rattle.x86_64_model.specs.Entry.{IsParentFlags, has, used, huge}
use Rattle.x86_64_model.specs.PathMap.{PathMap, entry, put}
use Rattle.x86_64_model.specs.MapRule.{AfterMap, map_rule}
pub use Rattle.x86_64_model.specs.Standing.{IsParent}
use Rattle.x86_64_model.specs.Refusal.{Done, Refused, ParentEntryHugePage, PageAlreadyMapped, FrameAllocationFailed}
use Rattle.x86_64_model.proofs.Lemmas.Entries.Bits.{has_or}
use Rattle.x86_64_model.proofs.Lemmas.Paths.Puts.{entry-put_same, entry-put_other}
use Rattle.x86_64_model.proofs.Lemmas.Maps.Frames.{IsFrame, used_or, used_not_zero, frame_not_huge, flags_or}
use Rattle.x86_64_model.proofs.Lemmas.Maps.Flags.{has_kept}
use Rattle.x86_64_model.proofs.Lemmas.Maps.Down.{Descends, others, descends_same, step_used, step_huge, step_new, step_none, step_last}

module _ (more added : ℕ) (q : List ℕ) (e frame : ℕ) where
  -- what holds of the outcome of each way down, by induction
  pub map_ind : (P : PathMap → List ℕ → List (List ℕ) → AfterMap → Type 0)
      → ((M : PathMap) (s : List ℕ) → used (entry M q) ≡ true → P M s [] (record { paths = M; supply = s; answer = Refused (PageAlreadyMapped frame) }))
      → ((M : PathMap) (s : List ℕ) → used (entry M q) ≡ false → P M s [] (record { paths = put M q e; supply = s; answer = Done frame }))
      → ((M : PathMap) (s p : List ℕ) (ps : List (List ℕ)) → used (entry M p) ≡ true → huge (entry M p) ≡ true → P M s (p ∷ ps) (record { paths = put M p (bit_or (entry M p) more); supply = s; answer = Refused ParentEntryHugePage }))
      → ((M : PathMap) (s p : List ℕ) (ps : List (List ℕ)) → Descends M (p ∷ ps) q → used (entry M p) ≡ true → huge (entry M p) ≡ false → (m : AfterMap) → P (put M p (bit_or (entry M p) more)) s ps m → P M s (p ∷ ps) m)
      → ((M : PathMap) (p : List ℕ) (ps : List (List ℕ)) → used (entry M p) ≡ false → P M [] (p ∷ ps) (record { paths = M; supply = []; answer = Refused FrameAllocationFailed }))
      → ((M : PathMap) (f : ℕ) (fs p : List ℕ) (ps : List (List ℕ)) → Descends M (p ∷ ps) q → used (entry M p) ≡ false → (m : AfterMap) → P (put M p (bit_or f (bit_or more added))) fs ps m → P M (f ∷ fs) (p ∷ ps) m)
      → (M : PathMap) (supply : List ℕ) (ps : List (List ℕ)) → Descends M ps q → P M supply ps (map_rule M supply more added ps q e frame)
  map_ind P full done stop on none new M supply [] d = subst (P M supply []) (sym (step_last more added q e frame M supply))
      (elim (used (entry M q)) as (λ u. used (entry M q) ≡ u → P M supply [] (cond u (record { paths = M; supply = supply; answer = Refused (PageAlreadyMapped frame) }) (record { paths = put M q e; supply = supply; answer = Done frame }))) [
        | true ↦ λ u. full M supply u
        | false ↦ λ u. done M supply u
      ] refl)
  map_ind P full done stop on none new M supply (p ∷ ps) d =
      let below : (x : ℕ) → Descends (put M p x) ps q = λ x. descends_same M _ ps q (others more added q e frame M p x ps d.1) d.3 in
      elim (used (entry M p)) as (λ u. used (entry M p) ≡ u → P M supply (p ∷ ps) (map_rule M supply more added (p ∷ ps) q e frame)) [
        | true ↦ λ u. elim (huge (entry M p)) as (λ h. huge (entry M p) ≡ h → P M supply (p ∷ ps) (map_rule M supply more added (p ∷ ps) q e frame)) [
          | true ↦ λ h. subst (P M supply (p ∷ ps)) (sym (step_huge more added q e frame M p ps d supply u h)) (stop M supply p ps u h)
          | false ↦ λ h. on M supply p ps d u h _ (subst (P (put M p (bit_or (entry M p) more)) supply ps) (sym (step_used more added q e frame M p ps d supply u h))
              (map_ind P full done stop on none new (put M p (bit_or (entry M p) more)) supply ps (below _)))
        ] refl
        | false ↦ λ u. elim supply as (λ s. P M s (p ∷ ps) (map_rule M s more added (p ∷ ps) q e frame)) [
          | [] ↦ subst (P M [] (p ∷ ps)) (sym (step_none more added q e frame M p ps d u)) (none M p ps u)
          | f ∷ fs ↦ new M f fs p ps d u _ (subst (P (put M p (bit_or f (bit_or more added))) fs ps) (sym (step_new more added q e frame M p ps d f fs u))
              (map_ind P full done stop on none new (put M p (bit_or f (bit_or more added))) fs ps (below _)))
        ]
      ] refl

  -- other paths keep their entries
  pub map_leaves : (r : List ℕ) → r ≢ q → (M : PathMap) (supply : List ℕ) (ps : List (List ℕ)) → Descends M ps q → AllByRecursion (λ p. r ≢ p) ps → entry (map_rule M supply more added ps q e frame).paths r ≡ entry M r
  map_leaves r n = map_ind (λ M s ps m. AllByRecursion (λ p. r ≢ p) ps → entry m.paths r ≡ entry M r)
      (λ M s u a. refl)
      (λ M s u a. entry-put_other M q e r n)
      (λ M s p ps u h a. entry-put_other M p _ r a.0)
      (λ M s p ps d u h m ih a. ih a.1 ∙ entry-put_other M p _ r a.0)
      (λ M p ps u a. refl)
      (λ M f fs p ps d u m ih a. ih a.1 ∙ entry-put_other M p _ r a.0)

turned : (p : List ℕ) (ps : List (List ℕ)) → AllByRecursion (λ r. r ≢ p) ps → AllByRecursion (λ r. p ≢ r) ps
turned p [] h = tt
turned p (r ∷ ps) h = (λ e. h.0 (sym e), turned p ps h.1)

-- flags that are added are there
pub added_there : (e m flag : ℕ) → has m flag ≡ true → has (bit_or e m) flag ≡ true
added_there e m flag h = subst (λ x. has x flag ≡ true) (or_comm m e) (has_kept m e flag h)

pub marked_parent : (more e : ℕ) → IsParentFlags more → used e ≡ true → huge e ≡ false → IsParent more (bit_or e more)
marked_parent more e marks u h = record {
  is_table = ap₂ (λ a b. a && not b) (used_or e more (used_not_zero e u)) (has_or e more 0x80 marks.not_huge ∙ h);
  has_flags = λ flag. added_there e more flag;
}

pub new_parent : (more added f : ℕ) → IsParentFlags more → IsParentFlags added → IsFrame f → IsParent more (bit_or f (bit_or more added))
new_parent more added f marks adds frame = record {
  is_table = ap₂ (λ a b. a && not b) (used_or f (bit_or more added) frame.not_zero) (has_or f (bit_or more added) 0x80 (flags_or more added marks adds).not_huge ∙ frame_not_huge f frame.aligned);
  has_flags = λ flag h. added_there f (bit_or more added) flag (has_kept more added flag h);
}

module _ (more added : ℕ) (q : List ℕ) (e frame : ℕ) (marks : IsParentFlags more) (adds : IsParentFlags added) where
  -- an accepted map leaves the entry asked for, below parents that have the parent flags
  pub map_makes : (M : PathMap) (supply : List ℕ) (ps : List (List ℕ)) → Descends M ps q → AllByRecursion IsFrame supply → (map_rule M supply more added ps q e frame).answer ≡ Done frame
      → (entry (map_rule M supply more added ps q e frame).paths q ≡ e) × AllByRecursion (λ p. IsParent more (entry (map_rule M supply more added ps q e frame).paths p)) ps
  map_makes M supply [] d fr a = elim (used (entry M q)) as (λ u. used (entry M q) ≡ u → (entry (map_rule M supply more added [] q e frame).paths q ≡ e) × Unit {0}) [
    | true ↦ λ u. absurd (let t : Refused (PageAlreadyMapped frame) ≡ Done frame = sym (ap (λ m. m.answer) (last u)) ∙ a in cc)
    | false ↦ λ u. (ap (λ m. entry m.paths q) (last u) ∙ entry-put_same M q e, tt)
  ] refl
    where
      last : {b : Bool} → used (entry M q) ≡ b → map_rule M supply more added [] q e frame ≡ cond b (record { paths = M; supply = supply; answer = Refused (PageAlreadyMapped frame) }) (record { paths = put M q e; supply = supply; answer = Done frame })
      last u = step_last more added q e frame M supply ∙ ap (λ b. cond b (record { paths = M; supply = supply; answer = Refused (PageAlreadyMapped frame) }) (record { paths = put M q e; supply = supply; answer = Done frame })) u
  map_makes M supply (p ∷ ps) d fr a =
      let below : (x : ℕ) → Descends (put M p x) ps q = λ x. descends_same M _ ps q (others more added q e frame M p x ps d.1) d.3 in
      let Goal : AfterMap → Type 0 = λ m. m.answer ≡ Done frame → (entry m.paths q ≡ e) × AllByRecursion (λ p. IsParent more (entry m.paths p)) (p ∷ ps) in
      let on : (x : ℕ) (s : List ℕ) → IsParent more x → AllByRecursion IsFrame s → Goal (map_rule (put M p x) s more added ps q e frame) = λ x s is f a.
      let rest = map_makes (put M p x) s ps (below x) f a in
      (rest.0, (subst (IsParent more) (sym (map_leaves more added q e frame p (λ z. d.2 (sym z)) (put M p x) s ps (below x) (turned p ps d.1) ∙ entry-put_same M p x)) is, rest.1)) in
      elim (used (entry M p)) as (λ u. used (entry M p) ≡ u → Goal (map_rule M supply more added (p ∷ ps) q e frame)) [
        | true ↦ λ u. elim (huge (entry M p)) as (λ h. huge (entry M p) ≡ h → Goal (map_rule M supply more added (p ∷ ps) q e frame)) [
          | true ↦ λ h. subst Goal (sym (step_huge more added q e frame M p ps d supply u h)) (λ a. cc)
          | false ↦ λ h. subst Goal (sym (step_used more added q e frame M p ps d supply u h)) (on _ supply (marked_parent more (entry M p) marks u h) fr)
        ] refl
        | false ↦ λ u. elim supply as (λ s. AllByRecursion IsFrame s → Goal (map_rule M s more added (p ∷ ps) q e frame)) [
          | [] ↦ λ _. subst Goal (sym (step_none more added q e frame M p ps d u)) (λ a. cc)
          | f ∷ fs ↦ λ fr. subst Goal (sym (step_new more added q e frame M p ps d f fs u)) (on _ fs (new_parent more added f marks adds fr.0) fr.1)
        ] fr
      ] refl a
