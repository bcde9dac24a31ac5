-- A page and its parts: accesses arrive alike.
use Rattle.std.proofs.Common.{zero, suc, ◌≡◌, ◌≢◌, ◌⊎◌, inl, inr, ⊎_elim, ◌<◌, ◌≤◌, ◌+◌, ◌*◌, ◌-◌, ◌%◌, ℕ, ◌==◌, ◌&&◌, not, true, false, cond, List, [], ◌∷◌, ◌++◌, length, Some, None, Option, refl, sym, ap, ap₂, ◌∙◌, subst, arith, eq-eqb, eqb-true}
use Rattle.std.proofs.Math.Bool.{and_assoc}
use Rattle.std.proofs.lemmas.Bool.{and_from, and_parts, cases_Bool}
use Rattle.std.proofs.lemmas.List.{same_from_push}
use Rattle.x86_64_model.specs.Entry.{present, writable, user, huge, no_execute, names_table}
use Rattle.x86_64_model.specs.Laws.Splits.{Arrival, AreParts, IsInParts}
use Rattle.x86_64_model.specs.Mappings.{Rights, maps_page, granted}
use Rattle.x86_64_model.specs.PageWalk.{page_start}
use Rattle.x86_64_model.specs.Path.{level_of, begins}
use Rattle.x86_64_model.specs.Position.{span, index}
use Rattle.x86_64_model.proofs.Lemmas.Hierarchies.Trees.{plain_table}
use Rattle.x86_64_model.proofs.Lemmas.Live.Arrivals.{by_word, arrived}
use Rattle.x86_64_model.proofs.Lemmas.Paths.Puts.{cases_path}
use Rattle.x86_64_model.proofs.Lemmas.Walks.Walked.{one_more, index_small}

-- ---- fronts of paths

begins_last : (q c : List ℕ) (j : ℕ) → begins q (c ++ j ∷ []) ≡ true → (begins q c ≡ true) ⊎ (q ≡ c ++ j ∷ [])
begins_last [] c j h = inl refl
begins_last (i ∷ []) [] j h = inr (λ n. first h n ∷ [])
  where
    first : ((i == j) && true) ≡ true → i ≡ j
    first h = eqb-true i j ((and_parts (i == j) true h).0)
begins_last (i ∷ k ∷ q) [] j h = absurd (let z : false ≡ true = (and_parts (i == j) false h).1 in cc)
begins_last (i ∷ q) (k ∷ c) j h = let parts = and_parts (i == k) (begins q (c ++ j ∷ [])) h in ⊎_elim
    (λ b. inl (and_from (i == k) (begins q c) parts.0 b))
    (λ e. inr (λ n. eqb-true i k parts.0 n ∷ e n))
    (begins_last q c j parts.1)

begins_itself : (q : List ℕ) → begins q q ≡ true
begins_itself [] = refl
begins_itself (i ∷ q) = and_from (i == i) (begins q q) (eq-eqb i i refl) (begins_itself q)

granted_parts : (level e t : ℕ) (part : ℕ → ℕ) → AreParts level e t part → (j : ℕ) → j < 512 → (r : Rights)
    → granted (granted r t) (part j) ≡ granted r e
granted_parts level e t part parts j small r = λ n. record {
  write = (and_assoc r.write (writable t) (writable (part j))
      ∙ ap (λ b. r.write && b) (parts.write j small)) n;
  user = (and_assoc r.user (user t) (user (part j)) ∙ ap (λ b. r.user && b) (parts.user j small)) n;
  execute = (and_assoc r.execute (not (no_execute t)) (not (no_execute (part j)))
      ∙ ap (λ b. r.execute && b) (parts.execute j small)) n;
}

-- ---- one level further down

-- a position in a page of level two, or three, by its part of the level below
in_part_2 : (p : ℕ) → index 1 p * span 1 + p % span 1 ≡ p % span 2
unfolding index
in_part_2 p = omega arith

in_part_3 : (p : ℕ) → index 2 p * span 2 + p % span 2 ≡ p % span 3
unfolding index
in_part_3 p = omega arith

-- the level of a large page, and what it says of an entry
large : (n e : ℕ) → 2 ≤ suc n → suc n ≤ 3 → (maps_page (suc n) e ≡ huge e)
    × ((p : ℕ) → index n p * span n + p % span n ≡ p % span (suc n))
large zero e a b = absurd (omega arith)
large (suc zero) e a b = ((elim (huge e) as (λ h. (h && true) ≡ h) [ true ↦ refl | false ↦ refl ]), in_part_2)
large (suc (suc zero)) e a b = (
  (elim (huge e) as
      (λ h. (h && true) ≡ h) [ true ↦ refl | false ↦ refl ]),
  in_part_3,
)
large (suc (suc (suc n))) e a b = absurd (omega arith)

module _ (n : ℕ) (low : 2 ≤ suc n) (high : suc n ≤ 3) (e t : ℕ) (is_page : huge e ≡ true)
    (is_table : names_table t ≡ true) (is_present : present t ≡ true)
    (part : ℕ → ℕ) (parts : AreParts n e t part) (p : ℕ) (r : Rights) where
  abbrev k : ℕ
  k = index n p

  small : k < 512
  small = index_small n p

  by_page : (next : Option Arrival) → by_word (suc n) p r e next
      ≡ cond (present e)
      (Some (record { address = page_start (suc n) e + p % span (suc n); rights = granted r e })) None
  by_page next = ap (λ b. cond (present e)
      (cond b (Some (record { address = page_start (suc n) e + p % span (suc n); rights = granted r e }))
      (cond (huge e) None next)) None) ((large n e low high).0 ∙ is_page)

  by_table : (next : Option Arrival) → by_word (suc n) p r t next ≡ next
  by_table next =
      ap (λ a. cond a (cond (maps_page (suc n) t)
      (Some (record { address = page_start (suc n) t + p % span (suc n); rights = granted r t }))
      (cond (huge t) None next)) None) is_present
      ∙ ap (λ b. cond b
      (Some (record { address = page_start (suc n) t + p % span (suc n); rights = granted r t }))
      (cond (huge t) None next)) ((large n t low high).0 ∙ plain_table t is_table)
      ∙ ap (λ b. cond b None next) (plain_table t is_table)

  same_place : page_start n (part k) + p % span n ≡ page_start (suc n) e + p % span (suc n)
  same_place = let a = parts.frames k small in let b = (large n e low high).1 p in omega (arith, a, b)

  by_part : (next : Option Arrival) → by_word n p (granted r t) (part k) next
      ≡ cond (present e)
      (Some (record { address = page_start (suc n) e + p % span (suc n); rights = granted r e })) None
  by_part next =
      ap (λ b. cond (present (part k)) (cond b
      (Some (record {
        address = page_start n (part k) + p % span n;
        rights = granted (granted r t)
            (part k);
      })) (cond (huge (part k)) None next)) None) (parts.pages k small)
      ∙ (λ i. cond (parts.present k small i)
      (Some (record { address = same_place i; rights = granted_parts n e t part parts k small r i })) None)

  pub by_parts : (next last : Option Arrival)
      → by_word (suc n) p r t (by_word n p (granted r t) (part k) last) ≡ by_word (suc n) p r e next
  by_parts next last = by_table (by_word n p (granted r t) (part k) last) ∙ by_part last ∙ sym (by_page next)

module _ (L p : ℕ) (q : List ℕ) (nonempty : q ≢ []) (E F : List ℕ → ℕ) (t frame : ℕ) (part : ℕ → ℕ)
    (is : IsInParts L q (E q) t frame part)
    (itself : F q ≡ t) (below : (j : ℕ) → j < 512 → F (q ++ j ∷ []) ≡ part j)
    (elsewhere : (r : List ℕ) → r ≢ q → ((j : ℕ) → r ≢ q ++ j ∷ []) → F r ≡ E r) where
  here : (n : ℕ) (c : List ℕ) (r : Rights) → length c + suc n ≡ L → c ++ index (suc n) p ∷ [] ≡ q
      → arrived F p (suc n) c r ≡ arrived E p (suc n) c r
  here zero c r l e = absurd (let low = is.at_least in let long = one_more c
      (index 1 p) in let its = ap length e in omega (arith, low, long, its, l))
  here (suc n) c r l e =
      let d = c ++ index (suc (suc n)) p ∷ [] in
      let level : level_of L q ≡ suc (suc n) =
      (let long = one_more c (index (suc (suc n)) p) in let its = ap length e in omega
      (arith, long, its, l)) in
      let below_level : L - length q ≡ suc n =
      (let long = one_more c (index (suc (suc n)) p) in let its = ap length e in omega
      (arith, long, its, l)) in
      ap₂ (λ x y. by_word (suc (suc n)) p r x
      (by_word (suc n) p (granted r x) y (arrived F p n (d ++ index (suc n) p ∷ [])
      (granted (granted r x) y))))
      (ap F e ∙ itself) (ap (λ d. F (d ++ index (suc n) p ∷ [])) e
      ∙ below (index (suc n) p) (index_small (suc n) p))
      ∙ by_parts (suc n) (subst (λ k. 2 ≤ k) level is.at_least) (subst (λ k. k ≤ 3) level is.at_most)
      (E q) t is.is_page is.is_table is.is_present part
      (subst (λ k. AreParts k (E q) t part) below_level is.parts) p r
      (arrived E p (suc n) d (granted r (E q)))
      (arrived F p n (d ++ index (suc n) p ∷ []) (granted (granted r t) (part (index (suc n) p))))
      ∙ sym (ap (λ x. by_word (suc (suc n)) p r x (arrived E p (suc n) d (granted r x))) (ap E e))

  split_arrived : (n : ℕ) (c : List ℕ) (r : Rights) → length c + n ≡ L → begins q c ≡ false
      → arrived F p n c r ≡ arrived E p n c r
  split_arrived zero c r l off = refl
  split_arrived (suc n) c r l off = ⊎_elim
      (λ e. here n c r l e)
      (λ not. let d = c ++ index (suc n) p ∷ [] in
      let same : F d ≡ E d = elsewhere d not
      (λ j e. let ends : (c ≡ q) × (index (suc n) p ≡ j) = same_from_push c q (index (suc n) p) j e in
      let t : true ≡ false = sym (begins_itself q) ∙ ap (begins q) (sym ends.0) ∙ off in cc) in
      ap₂ (λ e x. by_word (suc n) p r e x) same
      (split_arrived n d (granted r (F d)) (omega (arith, one_more c (index (suc n) p), l))
      (still_off c (index (suc n) p) off not) ∙ ap (λ e. arrived E p n d (granted r e)) same))
      (cases_path (c ++ index (suc n) p ∷ []) q)
    where
      still_off : (c : List ℕ) (j : ℕ) → begins q c ≡ false → c ++ j ∷ [] ≢ q → begins q (c ++ j ∷ []) ≡ false
      still_off c j off not = ⊎_elim
          (λ b. absurd (⊎_elim (λ x. let t : true ≡ false = sym x ∙ off in cc) (λ x. not (sym x))
          (begins_last q c j b)))
          (λ b. b)
          (cases_Bool (begins q (c ++ j ∷ [])))

  pub arrived_in_parts : (r : Rights) → arrived F p L [] r ≡ arrived E p L [] r
  arrived_in_parts r = split_arrived L [] r (omega arith) (none q nonempty)
    where
      none : (q : List ℕ) → q ≢ [] → begins q [] ≡ false
      none [] n = absurd (n refl)
      none (i ∷ q) n = refl
