-- A map call takes no walk away: an address where the walk arrived still arrives there, with no right lost and none gained that the parent flags lack.
use Rattle.std.proofs.Common.{◌≡◌, ◌⊎◌, inl, inr, ⊎_elim, ◌+◌, ◌*◌, ◌^◌, ◌%◌, ◌/◌, ℕ, zero, suc, ◌==◌, ◌&&◌, Bool, true, false, cond, List, [], ◌∷◌, ◌++◌, nat_le, Some, None, Option, bit_or, max, refl, sym, ap, ◌∙◌, subst, subst₂, arith}
use Rattle.std.proofs.lemmas.Nat.Bits.{same_from_bits, bit_at_or}
use Rattle.std.proofs.lemmas.Bool.{and_parts, and_from}
use Rattle.std.proofs.lemmas.Option.{same_Some}
use Rattle.std.specs.Int.{bit_at}
use Rattle.x86_64_model.specs.Entry.{has, used, huge, present, writable, user}
use Rattle.x86_64_model.specs.Memory.{Words}
use Rattle.x86_64_model.specs.PathMap.{PathMap, entry, put}
use Rattle.x86_64_model.specs.Window.{Window, windowed, entry_at, IsValidFor}
use Rattle.x86_64_model.specs.Position.{index, span}
use Rattle.x86_64_model.specs.PageWalk.{Walked, arrives, page_walk}
use Rattle.x86_64_model.specs.MapRule.{AfterMap, map_rule}
use Rattle.x86_64_model.specs.Refusal.{Done, Refused, PageAlreadyMapped}
use Rattle.x86_64_model.proofs.Lemmas.Entries.Bits.{used_present}
use Rattle.x86_64_model.proofs.Lemmas.Paths.Puts.{cases_path, entry-put_same, entry-put_other}
use Rattle.x86_64_model.proofs.Lemmas.Walks.Agrees.{reads}
use Rattle.x86_64_model.proofs.Lemmas.Walks.Walked.{walked, page_walk_is}
use Rattle.x86_64_model.proofs.Lemmas.Maps.Frames.{IsParentFlags, used_or, used_not_zero}
use Rattle.x86_64_model.proofs.Lemmas.Maps.Down.{Descends, others, descends_same, step_used, step_huge, step_new, step_none, step_last}
pub use Rattle.x86_64_model.specs.Arrivals.{Better, Arrives}
use Rattle.x86_64_model.proofs.Lemmas.Maps.Flags.{Grown, Same, same_after}

-- ---- the walk over entries that have grown

-- a right that w grants v does too, and it grants no more than w and the flag
abbrev pub Right : Bool → Bool → Bool → Type 0
Right given w v = (w ≡ true → v ≡ true) × (v ≡ true → (w ≡ true) ⊎ (given ≡ true))

pub right_here : (more k e f : ℕ) (w v : Bool) → Same more e f → Right (has more (2 ^ k)) w v → Right (has more (2 ^ k)) (w && has e (2 ^ k)) (v && has f (2 ^ k))
right_here more k e f w v s r = (
  λ h. let parts = and_parts _ _ h in and_from _ _ (r.0 parts.0) (s.still (2 ^ k) parts.1),
  λ h. let parts = and_parts _ _ h in ⊎_elim (λ a. ⊎_elim (λ b. inl (and_from _ _ a b)) (λ g. inr g) (s.gained k parts.1)) (λ g. inr g) (r.1 parts.0),
)

pub none_arrives : (more : ℕ) (y : Option Walked) → Arrives more None y
none_arrives more y w e = absurd (let t : None ≡ Some w = e in cc)

pub arrive_same : (more a b : ℕ) (w u v x : Bool) → b ≡ a → Right (writable more) w v → Right (user more) u x → Arrives more (arrives a w u) (arrives b v x)
arrive_same more a b w u v x ab rw ru walk e = subst (λ walk. (y : Walked) × (arrives b v x ≡ Some y) × Better more walk y) (same_Some _ walk e) (
  record { address = b; write = v; user = x },
  refl,
  record { no_worse = record { same_place = ab; write_kept = rw.0; user_kept = ru.0 }; write_gained = rw.1; user_gained = ru.1 },
)

pub when : (more : ℕ) (b c : Bool) (x y : Option Walked) → (b ≡ true → c ≡ true) → (b ≡ true → Arrives more x y) → Arrives more (cond b x None) (cond c y None)
when more true c x y bc h = subst (λ c. Arrives more x (cond c y None)) (sym (bc refl)) (h refl)
when more false c x y bc h = none_arrives more (cond c y None)

pub either : (more : ℕ) (b c : Bool) (x₀ x₁ y₀ y₁ : Option Walked) → c ≡ b → Arrives more x₀ y₀ → Arrives more x₁ y₁ → Arrives more (cond b x₀ x₁) (cond c y₀ y₁)
either more true c x₀ x₁ y₀ y₁ cb h g = subst (λ c. Arrives more x₀ (cond c y₀ y₁)) (sym cb) h
either more false c x₀ x₁ y₀ y₁ cb h g = subst (λ c. Arrives more x₁ (cond c y₀ y₁)) (sym cb) g

module _ (more p : ℕ) (E F : List ℕ → ℕ) (marks : IsParentFlags more) (grown : (r : List ℕ) → Grown more (E r) (F r)) where
  pub walked_grown : (level : ℕ) (q : List ℕ) (w u v x : Bool) → Right (writable more) w v → Right (user more) u x → Arrives more (walked E p level q w u) (walked F p level q v x)
  walked_grown zero q w u v x rw ru = none_arrives more None
  walked_grown (suc zero) q w u v x rw ru = let r = q ++ index 1 p ∷ [] in
      when more _ _ _ _ (λ h. (same_after more (E r) (F r) marks h (grown r)).is_present) (λ h. let s = same_after more (E r) (F r) marks h (grown r) in
      arrive_same more _ _ _ _ _ _ (ap (λ a. a + p % span 1) s.same_address) (right_here more 1 (E r) (F r) w v s rw) (right_here more 2 (E r) (F r) u x s ru))
  walked_grown (suc (suc n)) q w u v x rw ru = let level = suc (suc n) in let r = q ++ index level p ∷ [] in
      when more _ _ _ _ (λ h. (same_after more (E r) (F r) marks h (grown r)).is_present) (λ h. let s = same_after more (E r) (F r) marks h (grown r) in
      let w' = right_here more 1 (E r) (F r) w v s rw in let u' = right_here more 2 (E r) (F r) u x s ru in
      either more _ _ _ _ _ _ s.same_huge
      (when more (nat_le level 3) _ _ _ (λ b. b) (λ _. arrive_same more _ _ _ _ _ _ (ap (λ a. a / span level * span level + p % span level) s.same_address) w' u'))
      (walked_grown (suc n) r _ _ _ _ w' u'))

-- ---- what a map leaves of used entries

pub or_or : (e m : ℕ) → bit_or (bit_or e m) m ≡ bit_or e m
or_or e m = same_from_bits _ _ (λ i. bit_at_or (bit_or e m) m i ∙ ap (λ x. max x (bit_at m i)) (bit_at_or e m i) ∙ twice (bit_at e i) (bit_at m i) ∙ sym (bit_at_or e m i))
  where
    twice : (a b : ℕ) → max (max a b) b ≡ max a b
    twice a b = omega arith

-- a used entry stays, or gets the parent flags
abbrev pub Grows : ℕ → PathMap → PathMap → Type 0
Grows more M N = (r : List ℕ) → used (entry M r) ≡ true → (entry N r ≡ entry M r) ⊎ (entry N r ≡ bit_or (entry M r) more)

pub grows_nothing : (more : ℕ) (M : PathMap) → Grows more M M
grows_nothing more M r u = inl refl

pub grows_then : (more : ℕ) (A B C : PathMap) → Grows more A B → Grows more B C → Grows more A C
grows_then more A B C x y r u = ⊎_elim
    (λ e. ⊎_elim (λ g. inl (g ∙ e)) (λ g. inr (g ∙ ap (λ x. bit_or x more) e)) (y r (ap used e ∙ u)))
    (λ e. ⊎_elim (λ g. inr (g ∙ e)) (λ g. inr (g ∙ ap (λ x. bit_or x more) e ∙ or_or (entry A r) more)) (y r (ap used e ∙ used_or (entry A r) more (used_not_zero _ u))))
    (x r u)

pub grows_marked : (more : ℕ) (M : PathMap) (p : List ℕ) → Grows more M (put M p (bit_or (entry M p) more))
grows_marked more M p r u = ⊎_elim
    (λ is. inr (ap (entry (put M p (bit_or (entry M p) more))) is ∙ entry-put_same M p _ ∙ ap (λ r. bit_or (entry M r) more) (sym is)))
    (λ n. inl (entry-put_other M p _ r n)) (cases_path r p)

pub grows_new : (more : ℕ) (M : PathMap) (p : List ℕ) (x : ℕ) → used (entry M p) ≡ false → Grows more M (put M p x)
grows_new more M p x n r u = inl (entry-put_other M p x r (λ is. let t : true ≡ false = sym u ∙ ap (λ r. used (entry M r)) is ∙ n in cc))

module _ (more added : ℕ) (q : List ℕ) (e frame : ℕ) where
  pub map_grows : (M : PathMap) (supply : List ℕ) (ps : List (List ℕ)) → Descends M ps q → Grows more M (map_rule M supply more added ps q e frame).paths
  map_grows M supply [] d = subst (λ m. Grows more M m.paths) (sym (step_last more added q e frame M supply))
      (elim (used (entry M q)) as (λ u. used (entry M q) ≡ u → Grows more M (cond {A = AfterMap} u (record { paths = M; supply = supply; answer = Refused (PageAlreadyMapped frame) }) (record { paths = put M q e; supply = supply; answer = Done frame })).paths) [
        | true ↦ λ u. grows_nothing more M
        | false ↦ λ u. grows_new more M q e u
      ] refl)
  map_grows M supply (p ∷ ps) d =
      let below : (x : ℕ) → Descends (put M p x) ps q = λ x. descends_same M _ ps q (others more added q e frame M p x ps d.1) d.3 in
      elim (used (entry M p)) as (λ u. used (entry M p) ≡ u → Grows more M (map_rule M supply more added (p ∷ ps) q e frame).paths) [
        | true ↦ λ u. elim (huge (entry M p)) as (λ h. huge (entry M p) ≡ h → Grows more M (map_rule M supply more added (p ∷ ps) q e frame).paths) [
          | true ↦ λ h. subst (λ m. Grows more M m.paths) (sym (step_huge more added q e frame M p ps d supply u h)) (grows_marked more M p)
          | false ↦ λ h. subst (λ m. Grows more M m.paths) (sym (step_used more added q e frame M p ps d supply u h))
              (grows_then more M _ _ (grows_marked more M p) (map_grows (put M p (bit_or (entry M p) more)) supply ps (below _)))
        ] refl
        | false ↦ λ u. elim supply as (λ s. Grows more M (map_rule M s more added (p ∷ ps) q e frame).paths) [
          | [] ↦ subst (λ m. Grows more M m.paths) (sym (step_none more added q e frame M p ps d u)) (grows_nothing more M)
          | f ∷ fs ↦ subst (λ m. Grows more M m.paths) (sym (step_new more added q e frame M p ps d f fs u))
              (grows_then more M _ _ (grows_new more M p _ u) (map_grows (put M p (bit_or f (bit_or more added))) fs ps (below _)))
        ]
      ] refl

pub windowed_grown : (more : ℕ) (w : Window) (M N : PathMap) → Grows more M N → (r : List ℕ) → Grown more (windowed w M r) (windowed w N r)
windowed_grown more w M N g [] h = inl refl
windowed_grown more w M N g (i ∷ []) h = elim (i == w.index) as (λ b. present (cond b w.self_entry (entry M (i ∷ []))) ≡ true → (cond b w.self_entry (entry N (i ∷ [])) ≡ cond b w.self_entry (entry M (i ∷ []))) ⊎ (cond b w.self_entry (entry N (i ∷ [])) ≡ bit_or (cond b w.self_entry (entry M (i ∷ []))) more)) [
  | true ↦ λ h. inl refl
  | false ↦ λ h. g (i ∷ []) (used_present _ h)
] h
windowed_grown more w M N g (i ∷ j ∷ r) h = elim (i == w.index) as (λ b. present (cond b (windowed w M (j ∷ r)) (entry M (i ∷ j ∷ r))) ≡ true → (cond b (windowed w N (j ∷ r)) (entry N (i ∷ j ∷ r)) ≡ cond b (windowed w M (j ∷ r)) (entry M (i ∷ j ∷ r))) ⊎ (cond b (windowed w N (j ∷ r)) (entry N (i ∷ j ∷ r)) ≡ bit_or (cond b (windowed w M (j ∷ r)) (entry M (i ∷ j ∷ r))) more)) [
  | true ↦ λ h. windowed_grown more w M N g (j ∷ r) h
  | false ↦ λ h. g (i ∷ j ∷ r) (used_present _ h)
] h

pub entry_at_grown : (more : ℕ) (window : Option Window) (M N : PathMap) → Grows more M N → (r : List ℕ) → Grown more (entry_at window M r) (entry_at window N r)
unfolding entry_at
entry_at_grown more None M N g r h = g r (used_present _ h)
entry_at_grown more (Some w) M N g r h = windowed_grown more w M N g r h

-- words that hold what a map leaves: an address where the walk arrived before still arrives there
pub map_keeps_walks : (L : ℕ) (window : Option Window) (T U : Words) (root : ℕ) (M : PathMap) (supply : List ℕ) (more added : ℕ) (ps : List (List ℕ)) (q : List ℕ) (e frame : ℕ)
    → IsParentFlags more → Descends M ps q → IsValidFor L window T root M → IsValidFor L window U root (map_rule M supply more added ps q e frame).paths
    → (p : ℕ) → Arrives more (page_walk L T root p) (page_walk L U root p)
map_keeps_walks L window T U root M supply more added ps q e frame marks d before after p =
    subst₂ (Arrives more) (sym (page_walk_is L T root _ (reads L T root M window before) p)) (sym (page_walk_is L U root _ (reads L U root _ window after) p))
    (walked_grown more p _ _ marks (entry_at_grown more window M _ (map_grows more added q e frame M supply ps d)) L [] true true true true (λ h. h, λ h. inl h) (λ h. h, λ h. inl h))
