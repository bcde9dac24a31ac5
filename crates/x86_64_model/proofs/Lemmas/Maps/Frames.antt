-- Maps conserve frames: the set of free and table frames stays the same, and each frame has one use.
use Rattle.std.proofs.Common.{◌≡◌, ◌≢◌, ◌⊎◌, inl, inr, ⊎_elim, ◌<◌, ℕ, ◌==◌, ◌&&◌, true, false, not, cond, List, [], ◌∷◌, length, Some, None, nat_lt, bit_or, refl, sym, ap, ◌∙◌, subst, arith, lt-ltb}
use Rattle.std.proofs.lemmas.Nat.{and_or_apart, le_or_l}
use Rattle.std.specs.List.{AllByRecursion}
use Rattle.x86_64_model.specs.Entry.{has, used, huge, address}
use Rattle.x86_64_model.specs.PathMap.{PathMap, entry, put, table_of, table_at}
use Rattle.x86_64_model.specs.Lists.{In}
use Rattle.x86_64_model.specs.MapRule.{AfterMap, map_rule}
use Rattle.x86_64_model.specs.Refusal.{Done, Refused, PageAlreadyMapped}
use Rattle.x86_64_model.proofs.Lemmas.Entries.Bits.{has_or, address_or, used_from, no_flag}
use Rattle.x86_64_model.proofs.Lemmas.Paths.Puts.{cases_path}
use Rattle.x86_64_model.proofs.Lemmas.Hierarchies.Held.{table_at-put_other, table_at-put_same}
use Rattle.x86_64_model.proofs.Lemmas.Maps.Down.{Descends, others, step_used, step_huge, step_new, step_none, step_last, descends_same}
use Rattle.x86_64_model.proofs.Lemmas.Hierarchies.Changes.{zero_not_used}
use Rattle.x86_64_model.proofs.Lemmas.Hierarchies.Trees.{no_table_unused}
pub use Rattle.x86_64_model.specs.Entry.{IsParentFlags}
pub use Rattle.x86_64_model.specs.Conserved.{IsFrame, OneEach, Conserves}

pub flags_or : (a b : ℕ) → IsParentFlags a → IsParentFlags b → IsParentFlags (bit_or a b)
flags_or a b p q = record { no_address = address_or a b q.no_address ∙ p.no_address; not_huge = and_or_apart 0x80 a b q.not_huge ∙ p.not_huge }

pub used_or : (e m : ℕ) → e ≢ 0 → used (bit_or e m) ≡ true
used_or e m n = used_from (bit_or e m) (λ z. n (let le = le_or_l e m in omega (arith, le, z)))

pub frame_not_huge : (f : ℕ) → address f ≡ f → huge f ≡ false
unfolding has
frame_not_huge f a = ap (λ x. x == 0x80) (no_flag f 0x80 a refl)

pub used_not_zero : (e : ℕ) → used e ≡ true → e ≢ 0
used_not_zero e u z = let t : true ≡ false = sym u ∙ ap used z ∙ zero_not_used in cc

-- flags leave the table that an entry names
pub table_of_marked : (L : ℕ) (p : List ℕ) (e m : ℕ) → IsParentFlags m → used e ≡ true → table_of L p (bit_or e m) ≡ table_of L p e
unfolding table_of
table_of_marked L p e m is u = λ i. cond ((used_or e m (used_not_zero e u) ∙ sym u) i && not (has_or e m 0x80 is.not_huge i) && nat_lt (length p) L) (Some (address_or e m is.no_address i)) None

-- the entry of a new table
pub table_of_new : (L : ℕ) (p : List ℕ) (f m : ℕ) → IsParentFlags m → IsFrame f → length p < L → table_of L p (bit_or f m) ≡ Some f
unfolding table_of
table_of_new L p f m is frame l = λ i. cond (used_or f m frame.not_zero i && not ((has_or f m 0x80 is.not_huge ∙ frame_not_huge f frame.aligned) i) && lt-ltb (length p) L l i) (Some ((address_or f m is.no_address ∙ frame.aligned) i)) None

pub conserves_nothing : (L root : ℕ) (M : PathMap) (pool : List ℕ) → Conserves L root M pool M pool
conserves_nothing L root M pool = record { same_set = λ f. (λ x. x, λ x. x); one_each = λ o. o }

pub conserves_then : (L root : ℕ) (A : PathMap) (a : List ℕ) (B : PathMap) (b : List ℕ) (C : PathMap) (c : List ℕ) → Conserves L root A a B b → Conserves L root B b C c → Conserves L root A a C c
conserves_then L root A a B b C c x y = record { same_set = λ f. (λ h. (y.same_set f).0 ((x.same_set f).0 h), λ h. (x.same_set f).1 ((y.same_set f).1 h)); one_each = λ o. y.one_each (x.one_each o) }

-- if each path leads to the same table as before, frames are conserved
pub conserves_marked : (L root : ℕ) (M N : PathMap) (pool : List ℕ) → ((q : List ℕ) → table_at L root N q ≡ table_at L root M q) → Conserves L root M pool N pool
conserves_marked L root M N pool same = record {
  same_set = λ f. (
    ⊎_elim (λ i. inl i) (λ t. inr (t.0, same t.0 ∙ t.1)),
    ⊎_elim (λ i. inl i) (λ t. inr (t.0, sym (same t.0) ∙ t.1)),
  );
  one_each = λ o. record {
    own_frames = λ p q f h g. o.own_frames p q f (sym (same p) ∙ h) (sym (same q) ∙ g);
    each_once = o.each_once;
    no_table = λ f i t. o.no_table f i (t.0, sym (same t.0) ∙ t.1);
  };
}

-- a write that leaves the table that the path leads to
pub same_tables : (L root : ℕ) (M : PathMap) (i : ℕ) (p : List ℕ) (e : ℕ) → table_of L (i ∷ p) e ≡ table_at L root M (i ∷ p) → (q : List ℕ) → table_at L root (put M (i ∷ p) e) q ≡ table_at L root M q
same_tables L root M i p e same q = ⊎_elim
    (λ h. ap (table_at L root (put M (i ∷ p) e)) h ∙ table_at-put_same L root M (i ∷ p) e (λ z. cc) ∙ same ∙ sym (ap (table_at L root M) h))
    (table_at-put_other L root M (i ∷ p) e q) (cases_path q (i ∷ p))

-- the first free frame becomes a table
module _ (L root : ℕ) (M : PathMap) (f : ℕ) (fs : List ℕ) (i : ℕ) (p : List ℕ) (e : ℕ) (new : table_of L (i ∷ p) e ≡ Some f) (old : table_at L root M (i ∷ p) ≡ None) where
  here : table_at L root (put M (i ∷ p) e) (i ∷ p) ≡ Some f
  here = table_at-put_same L root M (i ∷ p) e (λ z. cc) ∙ new

  -- a table afterwards is f or one from before
  table_cases : (q : List ℕ) (g : ℕ) → table_at L root (put M (i ∷ p) e) q ≡ Some g → ((q ≡ i ∷ p) × (f ≡ g)) ⊎ (table_at L root M q ≡ Some g)
  table_cases q g h = ⊎_elim
      (λ is. inl (is, let t : Some f ≡ Some g = sym (ap (table_at L root (put M (i ∷ p) e)) is ∙ here) ∙ h in cc))
      (λ n. inr (sym (table_at-put_other L root M (i ∷ p) e q n) ∙ h)) (cases_path q (i ∷ p))

  still : (q : List ℕ) (g : ℕ) → table_at L root M q ≡ Some g → table_at L root (put M (i ∷ p) e) q ≡ Some g
  still q g h = table_at-put_other L root M (i ∷ p) e q (λ is. let t : Some g ≡ None = sym h ∙ ap (table_at L root M) is ∙ old in cc) ∙ h

  pub conserves_taken : Conserves L root M (f ∷ fs) (put M (i ∷ p) e) fs
  conserves_taken = record {
    same_set = λ g. (
      ⊎_elim (⊎_elim (λ is. inr (i ∷ p, here ∙ ap Some is)) (λ h. inl h)) (λ t. inr (t.0, still t.0 g t.1)),
      ⊎_elim (λ h. inl (inr h)) (λ t. ⊎_elim (λ is. inl (inl is.1)) (λ h. inr (t.0, h)) (table_cases t.0 g t.1)),
    );
    one_each = λ o. record {
      own_frames = λ q r g h k. ⊎_elim
          (λ is. ⊎_elim (λ js. is.0 ∙ sym js.0) (λ k. absurd (o.no_table g (inl is.1) (r, k))) (table_cases r g k))
          (λ h. ⊎_elim (λ js. absurd (o.no_table g (inl js.1) (q, h))) (λ k. o.own_frames q r g h k) (table_cases r g k))
          (table_cases q g h);
      each_once = o.each_once.1;
      no_table = λ g h t. ⊎_elim (λ is. o.each_once.0 (subst (In fs) (sym is.1) h)) (λ k. o.no_table g (inr h) (t.0, k)) (table_cases t.0 g t.1);
    };
  }

-- parents from `parents`: nonempty, and of fewer indices than levels
abbrev pub AreParents : ℕ → List (List ℕ) → Type 0
AreParents L ps = AllByRecursion (λ p. (0 < length p) × (length p < L)) ps

module _ (L root more added : ℕ) (marks : IsParentFlags more) (adds : IsParentFlags added) (i : ℕ) (q : List ℕ) (e frame : ℕ)
    (no_table : table_of L (i ∷ q) e ≡ None) where
  abbrev KeepsFrames : PathMap → List ℕ → AfterMap → Type 0
  KeepsFrames M supply m = Conserves L root M supply m.paths m.supply

  marked : (M : PathMap) (supply : List ℕ) (j : ℕ) (p : List ℕ) → used (entry M (j ∷ p)) ≡ true → Conserves L root M supply (put M (j ∷ p) (bit_or (entry M (j ∷ p)) more)) supply
  marked M supply j p u = conserves_marked L root M _ supply (same_tables L root M j p _ (table_of_marked L (j ∷ p) (entry M (j ∷ p)) more marks u))

  pub map_conserves : (M : PathMap) (supply : List ℕ) (ps : List (List ℕ)) → Descends M ps (i ∷ q) → AreParents L ps → AllByRecursion IsFrame supply
      → KeepsFrames M supply (map_rule M supply more added ps (i ∷ q) e frame)
  map_conserves M supply [] d a frames = subst (KeepsFrames M supply) (sym (step_last more added (i ∷ q) e frame M supply))
      (elim (used (entry M (i ∷ q))) as (λ u. used (entry M (i ∷ q)) ≡ u → KeepsFrames M supply (cond u (record { paths = M; supply = supply; answer = Refused (PageAlreadyMapped frame) }) (record { paths = put M (i ∷ q) e; supply = supply; answer = Done frame }))) [
        | true ↦ λ u. conserves_nothing L root M supply
        | false ↦ λ u. conserves_marked L root M _ supply (same_tables L root M i q e (no_table ∙ sym (no_table_unused L root M i q u)))
      ] refl)
  map_conserves M supply ([] ∷ ps) d a frames = absurd (omega (arith, a.0.0))
  map_conserves M supply ((j ∷ p) ∷ ps) d a frames =
      let below : (x : ℕ) → Descends (put M (j ∷ p) x) ps (i ∷ q) = λ x. descends_same M _ ps (i ∷ q) (others more added (i ∷ q) e frame M (j ∷ p) x ps d.1) d.3 in
      elim (used (entry M (j ∷ p))) as (λ u. used (entry M (j ∷ p)) ≡ u → KeepsFrames M supply (map_rule M supply more added ((j ∷ p) ∷ ps) (i ∷ q) e frame)) [
        | true ↦ λ u. elim (huge (entry M (j ∷ p))) as (λ h. huge (entry M (j ∷ p)) ≡ h → KeepsFrames M supply (map_rule M supply more added ((j ∷ p) ∷ ps) (i ∷ q) e frame)) [
          | true ↦ λ h. subst (KeepsFrames M supply) (sym (step_huge more added (i ∷ q) e frame M (j ∷ p) ps d supply u h)) (marked M supply j p u)
          | false ↦ λ h. subst (KeepsFrames M supply) (sym (step_used more added (i ∷ q) e frame M (j ∷ p) ps d supply u h))
              (conserves_then L root M supply _ supply _ _ (marked M supply j p u) (map_conserves (put M (j ∷ p) (bit_or (entry M (j ∷ p)) more)) supply ps (below _) a.1 frames))
        ] refl
        | false ↦ λ u. elim supply as (λ s. AllByRecursion IsFrame s → KeepsFrames M s (map_rule M s more added ((j ∷ p) ∷ ps) (i ∷ q) e frame)) [
          | [] ↦ λ _. subst (KeepsFrames M []) (sym (step_none more added (i ∷ q) e frame M (j ∷ p) ps d u)) (conserves_nothing L root M [])
          | f ∷ fs ↦ λ fr. subst (KeepsFrames M (f ∷ fs)) (sym (step_new more added (i ∷ q) e frame M (j ∷ p) ps d f fs u))
              (conserves_then L root M (f ∷ fs) _ fs _ _
              (conserves_taken L root M f fs j p _ (table_of_new L (j ∷ p) f (bit_or more added) (flags_or more added marks adds) fr.0 a.0.1) (no_table_unused L root M j p u))
              (map_conserves (put M (j ∷ p) (bit_or f (bit_or more added))) fs ps (below _) a.1 fr.1))
        ] frames
      ] refl
