-- A map stated at once is a walk down the parents, one at a time.
use Rattle.std.proofs.Common.{◌≡◌, ◌≢◌, ℕ, suc, ◌&&◌, ◌||◌, Bool, true, false, not, cond, List, [], ◌∷◌, length, drop, filter, nat_lt, bit_or, refl, sym, ap, ap₂, ◌∙◌, arith, lt-ltb, le-ltb, inl, inr, zero-le}
use Rattle.std.proofs.lemmas.Bool.{cases_lt}
use Rattle.std.specs.List.{list_any, AllByRecursion}
use Rattle.x86_64_model.specs.Entry.{used, huge, names_table}
use Rattle.x86_64_model.specs.PathMap.{PathMap, entry, put}
use Rattle.x86_64_model.specs.MapRule.{AfterMap, map_rule, with_flags, with_tables}
use Rattle.x86_64_model.specs.Refusal.{Done, Refused, ParentEntryHugePage, PageAlreadyMapped, FrameAllocationFailed}
use Rattle.x86_64_model.specs.private.WalkDown.{walk_down, with_first}
use Rattle.x86_64_model.proofs.Lemmas.Paths.Puts.{entry-put_other}
use Rattle.x86_64_model.proofs.Lemmas.Lists.All.{all_mapped, all_both, filter_same, any_same, filter_none, any_none}

-- the parents ps are as in a hierarchy: no entry is used below one that names no table
abbrev pub Descends : PathMap → List (List ℕ) → List ℕ → Type 0
Descends M [] q = Unit {0}
Descends M (p ∷ ps) q = (names_table (entry M p) ≡ false → AllByRecursion (λ r. used (entry M r) ≡ false) ps) × AllByRecursion (λ r. r ≢ p) ps × (q ≢ p) × Descends M ps q

pub descends_same : (M N : PathMap) (ps : List (List ℕ)) (q : List ℕ) → AllByRecursion (λ r. entry N r ≡ entry M r) ps → Descends M ps q → Descends N ps q
descends_same M N [] q same d = tt
descends_same M N (p ∷ ps) q same d =
    (λ h. all_both _ _ _ (λ r (u : used (entry M r) ≡ false) (e : entry N r ≡ entry M r). ap used e ∙ u) ps (d.0 (ap names_table (sym same.0) ∙ h)) same.1, d.1, d.2, descends_same M N ps q same.1 d.3)

pub nat_lt-suc : (m n : ℕ) → nat_lt (suc m) (suc n) ≡ nat_lt m n
nat_lt-suc m n = elim (cases_lt m n) [ inl h ↦ lt-ltb (suc m) (suc n) (omega arith) ∙ sym (lt-ltb m n h) | inr h ↦ le-ltb (suc m) (suc n) (omega arith) ∙ sym (le-ltb m n h) ]

module _ (more added : ℕ) (q : List ℕ) (e frame : ℕ) where
  -- `mapped`, from the used parents, the missing ones, and whether one is huge and the entry used
  abbrev core : PathMap → List ℕ → (us ms : List (List ℕ)) → (stops full : Bool) → AfterMap
  core M supply us ms stops full =
      cond stops (record { paths = with_flags M more us; supply = supply; answer = Refused ParentEntryHugePage })
      (cond (nat_lt (length supply) (length ms))
      (record { paths = with_tables (with_flags M more us) (bit_or more added) ms supply; supply = []; answer = Refused FrameAllocationFailed })
      (cond full
      (record { paths = with_tables (with_flags M more us) (bit_or more added) ms supply; supply = drop (length ms) supply; answer = Refused (PageAlreadyMapped frame) })
      (record { paths = put (with_tables (with_flags M more us) (bit_or more added) ms supply) q e; supply = drop (length ms) supply; answer = Done frame })))

  -- as `mapped` goes on at the parents ps, after entries of others were written
  goes_on : (M N : PathMap) (supply : List ℕ) (ps : List (List ℕ)) → AllByRecursion (λ r. entry N r ≡ entry M r) ps → entry N q ≡ entry M q
      → map_rule N supply more added ps q e frame ≡ core N supply (filter (λ p. used (entry M p)) ps) (filter (λ p. not (used (entry M p))) ps) (list_any (λ p. used (entry M p) && huge (entry M p)) ps) (used (entry M q))
  unfolding map_rule
  goes_on M N supply ps same at = λ i. core N supply
      (filter_same (λ p. used (entry N p)) (λ p. used (entry M p)) ps (all_mapped _ _ (λ r (h : entry N r ≡ entry M r). ap used h) ps same) i)
      (filter_same (λ p. not (used (entry N p))) (λ p. not (used (entry M p))) ps (all_mapped _ _ (λ r (h : entry N r ≡ entry M r). ap (λ x. not (used x)) h) ps same) i)
      (any_same (λ p. used (entry N p) && huge (entry N p)) (λ p. used (entry M p) && huge (entry M p)) ps (all_mapped _ _ (λ r (h : entry N r ≡ entry M r). ap (λ x. used x && huge x) h) ps same) i)
      (ap used at i)

  pub others : (M : PathMap) (p : List ℕ) (x : ℕ) (ps : List (List ℕ)) → AllByRecursion (λ r. r ≢ p) ps → AllByRecursion (λ r. entry (put M p x) r ≡ entry M r) ps
  others M p x ps = all_mapped _ _ (λ r (n : r ≢ p). entry-put_other M p x r n) ps

  module _ (M : PathMap) (p : List ℕ) (ps : List (List ℕ)) (d : Descends M (p ∷ ps) q) where
    F : List (List ℕ)
    F = filter (λ p. used (entry M p)) ps

    G : List (List ℕ)
    G = filter (λ p. not (used (entry M p))) ps

    A : Bool
    A = list_any (λ p. used (entry M p) && huge (entry M p)) ps

    at_first : (supply : List ℕ) (u h : Bool) → used (entry M p) ≡ u → huge (entry M p) ≡ h
        → map_rule M supply more added (p ∷ ps) q e frame ≡ core M supply (cond u (p ∷ F) F) (cond (not u) (p ∷ G) G) ((u && h) || A) (used (entry M q))
    unfolding map_rule F G A
    at_first supply u h eu eh = λ i. core M supply (cond (eu i) (p ∷ F) F) (cond (not (eu i)) (p ∷ G) G) ((eu i && eh i) || A) (used (entry M q))

    none_below : names_table (entry M p) ≡ false → (F ≡ []) × (A ≡ false)
    unfolding F A
    none_below h = (filter_none _ ps (d.0 h), any_none (λ p. used (entry M p)) (λ p. huge (entry M p)) ps (d.0 h))

    after : (x : ℕ) (supply : List ℕ) → map_rule (put M p x) supply more added ps q e frame ≡ core (put M p x) supply F G A (used (entry M q))
    unfolding F G A
    after x supply = goes_on M (put M p x) supply ps (others M p x ps d.1) (entry-put_other M p x q d.2)

    -- a used parent that names a table gets the flags
    pub step_used : (supply : List ℕ) → used (entry M p) ≡ true → huge (entry M p) ≡ false
        → map_rule M supply more added (p ∷ ps) q e frame ≡ map_rule (put M p (bit_or (entry M p) more)) supply more added ps q e frame
    step_used supply eu eh = at_first supply true false eu eh ∙ sym (after (bit_or (entry M p) more) supply)

    -- a huge one too, and that is all
    pub step_huge : (supply : List ℕ) → used (entry M p) ≡ true → huge (entry M p) ≡ true
        → map_rule M supply more added (p ∷ ps) q e frame ≡ record { paths = put M p (bit_or (entry M p) more); supply = supply; answer = Refused ParentEntryHugePage }
    step_huge supply eu eh = at_first supply true true eu eh
        ∙ ap (λ us. core M supply (p ∷ us) G true (used (entry M q))) (none_below (ap₂ (λ u h. u && not h) eu eh)).0

    missing : (supply : List ℕ) → used (entry M p) ≡ false → map_rule M supply more added (p ∷ ps) q e frame ≡ core M supply [] (p ∷ G) false (used (entry M q))
    missing supply eu = at_first supply false (huge (entry M p)) eu refl
        ∙ (let n = none_below (ap (λ u. u && not (huge (entry M p))) eu) in λ i. core M supply (n.0 i) (p ∷ G) (n.1 i) (used (entry M q)))

    -- an unused one takes the first frame of the supply
    pub step_new : (f : ℕ) (fs : List ℕ) → used (entry M p) ≡ false
        → map_rule M (f ∷ fs) more added (p ∷ ps) q e frame ≡ map_rule (put M p (bit_or f (bit_or more added))) fs more added ps q e frame
    step_new f fs eu = missing (f ∷ fs) eu ∙ ap body (nat_lt-suc (length fs) (length G))
        ∙ (let n = none_below (ap (λ u. u && not (huge (entry M p))) eu) in λ i. core (put M p (bit_or f (bit_or more added))) fs (sym n.0 i) G (sym n.1 i) (used (entry M q)))
        ∙ sym (after (bit_or f (bit_or more added)) fs)
      where
        body : Bool → AfterMap
        body b = cond b
            (record { paths = with_tables M (bit_or more added) (p ∷ G) (f ∷ fs); supply = []; answer = Refused FrameAllocationFailed })
            (cond (used (entry M q))
            (record { paths = with_tables M (bit_or more added) (p ∷ G) (f ∷ fs); supply = drop (length G) fs; answer = Refused (PageAlreadyMapped frame) })
            (record { paths = put (with_tables M (bit_or more added) (p ∷ G) (f ∷ fs)) q e; supply = drop (length G) fs; answer = Done frame }))

    pub step_none : used (entry M p) ≡ false → map_rule M [] more added (p ∷ ps) q e frame ≡ record { paths = M; supply = []; answer = Refused FrameAllocationFailed }
    step_none eu = missing [] eu ∙ ap body (lt-ltb 0 (suc (length G)) (omega arith))
      where
        body : Bool → AfterMap
        body b = cond b
            (record { paths = M; supply = []; answer = Refused FrameAllocationFailed })
            (cond (used (entry M q))
            (record { paths = M; supply = []; answer = Refused (PageAlreadyMapped frame) })
            (record { paths = put M q e; supply = []; answer = Done frame }))

  pub step_last : (M : PathMap) (supply : List ℕ) → map_rule M supply more added [] q e frame ≡ walk_down more added q e frame M supply []
  unfolding map_rule
  step_last M supply = ap (λ b. cond b (record { paths = M; supply = []; answer = Refused FrameAllocationFailed }) (walk_down more added q e frame M supply [])) (le-ltb (length supply) 0 zero-le)

  pub walked_down : (M : PathMap) (supply : List ℕ) (ps : List (List ℕ)) → Descends M ps q → walk_down more added q e frame M supply ps ≡ map_rule M supply more added ps q e frame
  walked_down M supply [] d = sym (step_last M supply)
  walked_down M supply (p ∷ ps) d = elim (used (entry M p)) as (λ u. used (entry M p) ≡ u → cond u (cond (huge (entry M p)) (record { paths = put M p (bit_or (entry M p) more); supply = supply; answer = Refused ParentEntryHugePage }) (walk_down more added q e frame (put M p (bit_or (entry M p) more)) supply ps))
      (with_first supply (record { paths = M; supply = []; answer = Refused FrameAllocationFailed }) (λ f fs. walk_down more added q e frame (put M p (bit_or f (bit_or more added))) fs ps)) ≡ map_rule M supply more added (p ∷ ps) q e frame) [
        | true ↦ λ eu. elim (huge (entry M p)) as (λ h. huge (entry M p) ≡ h → cond h (record { paths = put M p (bit_or (entry M p) more); supply = supply; answer = Refused ParentEntryHugePage }) (walk_down more added q e frame (put M p (bit_or (entry M p) more)) supply ps) ≡ map_rule M supply more added (p ∷ ps) q e frame) [
          | true ↦ λ eh. sym (step_huge M p ps d supply eu eh)
          | false ↦ λ eh. walked_down (put M p (bit_or (entry M p) more)) supply ps (rest (bit_or (entry M p) more)) ∙ sym (step_used M p ps d supply eu eh)
        ] refl
        | false ↦ λ eu. elim supply as (λ s. with_first s (record { paths = M; supply = []; answer = Refused FrameAllocationFailed }) (λ f fs. walk_down more added q e frame (put M p (bit_or f (bit_or more added))) fs ps) ≡ map_rule M s more added (p ∷ ps) q e frame) [
          | [] ↦ sym (step_none M p ps d eu)
          | f ∷ fs ↦ walked_down (put M p (bit_or f (bit_or more added))) fs ps (rest (bit_or f (bit_or more added))) ∙ sym (step_new M p ps d f fs eu)
        ]
      ] refl
    where
      rest : (x : ℕ) → Descends (put M p x) ps q
      rest x = descends_same M (put M p x) ps q (others M p x ps d.1) d.3
