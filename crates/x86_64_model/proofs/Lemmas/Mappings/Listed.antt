-- The list of mappings, table by table: those of the words of a frame's table, one word after the other, each with all below it.
use Rattle.std.proofs.Common.{zero, suc, ◌≡◌, inl, inr, ◌+◌, ◌-◌, ◌*◌, ℕ, ◌&&◌, Bool, true, false, not, cond, nat_le, List, [], ◌∷◌, ◌++◌, length, Option, Some, None, filter_map, flat_map, option_and_then, refl, sym, ap, ap₂, ◌∙◌, subst, arith, append-nil, append_assoc}
use Rattle.std.specs.List.{cons_option}
use Rattle.std.proofs.lemmas.List.Elements.{filter_map-append}
use Rattle.x86_64_model.specs.Entry.{present, huge, address}
use Rattle.x86_64_model.specs.Lists.{In}
use Rattle.x86_64_model.specs.Memory.{Words}
use Rattle.x86_64_model.specs.PageWalk.{read}
use Rattle.x86_64_model.specs.Position.{span}
use Rattle.x86_64_model.specs.Path.{indices, paths_below, span_start}
use Rattle.x86_64_model.specs.Mappings.{Rights, Mapping, maps_page, mapping_at, mappings_of, every_right, granted}
use Rattle.x86_64_model.specs.private.Found.{page_from}
use Rattle.x86_64_model.proofs.Lemmas.CleanUps.Trees.{goes_below}
use Rattle.x86_64_model.proofs.Lemmas.Paths.Starts.{next_start}
use Rattle.x86_64_model.proofs.Lemmas.Walks.Walked.{one_more}
use Rattle.x86_64_model.proofs.Lemmas.Mappings.Along.{by_last_word, mapped_on, mapping_along}
use Rattle.x86_64_model.proofs.Lemmas.Mappings.Found.{huge_page}

-- ---- lists by parts

filter_map-none : {X Y : Type 0} (h : X → Option Y) (xs : List X) → ((x : X) → In xs x → h x ≡ None) → filter_map h xs ≡ []
filter_map-none h [] none = refl
filter_map-none h (x ∷ xs) none = ap₂ (λ o ys. cons_option o ys) (none x (inl refl)) (filter_map-none h xs (λ y i. none y (inr i)))

filter_map-flat_map : {X Y Z : Type 0} (h : Y → Option Z) (g : X → List Y) (k : X → List Z) → ((x : X) → filter_map h (g x) ≡ k x) → (xs : List X) → filter_map h (flat_map g xs) ≡ flat_map k xs
filter_map-flat_map h g k same [] = refl
filter_map-flat_map h g k same (x ∷ xs) = filter_map-append h (g x) (flat_map g xs) ∙ ap₂ (λ ys zs. ys ++ zs) (same x) (filter_map-flat_map h g k same xs)

-- ---- mappings by tables

-- the mappings by a word, where below are those of the table that it names
abbrev pub listed_by : (start level : ℕ) → Rights → (e : ℕ) → (below : List Mapping) → List Mapping
listed_by start level r e below = cond (present e) (cond (maps_page level e) (page_from start level r e ∷ []) (cond (huge e) [] below)) []

abbrev pub list_and_then : (ℕ → List Mapping) → Option ℕ → List Mapping
list_and_then k None = []
list_and_then k (Some e) = k e

-- the mappings of a frame's table of a level, whose span starts at a position, below words with rights r
abbrev pub listed_on : Words → (level start : ℕ) → Rights → (frame : ℕ) → List Mapping
listed_on T zero s r f = []
listed_on T (suc n) s r f = flat_map
    (λ i. list_and_then (λ e. listed_by (s + i * span (suc n)) (suc n) r e (listed_on T n (s + i * span (suc n)) (granted r e) (address e))) (read T f i))
    indices

module _ (L : ℕ) (T : Words) (root : ℕ) where
  abbrev at : List ℕ → Option Mapping
  at = mapping_at L T root

  none_below : (n : ℕ) (q : List ℕ) → ((j : ℕ) (s : List ℕ) → at (q ++ j ∷ s) ≡ None) → filter_map at (paths_below n q) ≡ []
  none_below n q none = filter_map-none at (paths_below n q) (λ p h. let more = goes_below n q p h in ap at more.2 ∙ none more.0 more.1)

  -- the way along q leads to a frame's table of level n, below words with rights r
  abbrev Leads : (n : ℕ) (q : List ℕ) → Rights → (frame : ℕ) → Type 0
  Leads n q r f = (j : ℕ) (s : List ℕ) → at (q ++ j ∷ s) ≡ mapped_on L T (q ++ j ∷ s) n r f (j ∷ s)

  -- the mapping at an index, and those below it
  abbrev Listed : (n : ℕ) (q : List ℕ) → Rights → (frame i : ℕ) → Option ℕ → Type 0
  Listed n q r f i o = filter_map at (paths_below n (q ++ i ∷ []) ++ (q ++ i ∷ []) ∷ [])
      ≡ list_and_then (λ e. listed_by (span_start L q + i * span (suc n)) (suc n) r e (listed_on T n (span_start L q + i * span (suc n)) (granted r e) (address e))) o

  parts : (n : ℕ) (q : List ℕ) (i : ℕ) (below : List Mapping) (o : Option Mapping) → filter_map at (paths_below n (q ++ i ∷ [])) ≡ below → at (q ++ i ∷ []) ≡ o
      → filter_map at (paths_below n (q ++ i ∷ []) ++ (q ++ i ∷ []) ∷ []) ≡ below ++ cons_option o []
  parts n q i below o h g = filter_map-append at (paths_below n (q ++ i ∷ [])) ((q ++ i ∷ []) ∷ []) ∙ ap₂ (λ ms o. ms ++ cons_option o []) h g

  -- the mapping by the word at an index
  same_page : (n : ℕ) (q : List ℕ) (i : ℕ) (r : Rights) (e : ℕ) → length q + suc n ≡ L → by_last_word L (q ++ i ∷ []) r e ≡ page_from (span_start L q + i * span (suc n)) (suc n) r e
  same_page n q i r e l =
      let level : L + 1 - length (q ++ i ∷ []) ≡ suc n = omega (arith, one_more q i, l) in
      λ k. page_from ((next_start L q i (omega (arith, l)) ∙ ap (λ m. span_start L q + i * span m) level) k) (level k) r e

  none_at : (n : ℕ) (q : List ℕ) (i : ℕ) → ((s : List ℕ) → at (q ++ i ∷ s) ≡ None) → filter_map at (paths_below n (q ++ i ∷ []) ++ (q ++ i ∷ []) ∷ []) ≡ []
  none_at n q i none = parts n q i [] None (none_below n (q ++ i ∷ []) (λ j s. ap at (append_assoc q (i ∷ []) (j ∷ s)) ∙ none (j ∷ s))) (none [])

  -- the same by a word that is present, maps a page and is huge, or not
  abbrev By : (n : ℕ) (q : List ℕ) → Rights → (i e : ℕ) → (there page high : Bool) → Type 0
  By n q r i e b m h = filter_map at (paths_below n (q ++ i ∷ []) ++ (q ++ i ∷ []) ∷ [])
      ≡ cond b (cond m (page_from (span_start L q + i * span (suc n)) (suc n) r e ∷ []) (cond h [] (listed_on T n (span_start L q + i * span (suc n)) (granted r e) (address e)))) []

  -- what a word that is read makes of the way
  module _ (n : ℕ) (q : List ℕ) (r : Rights) (f i e : ℕ) (leads : Leads (suc n) q r f) (is : read T f i ≡ Some e) where
    last : at (q ++ i ∷ []) ≡ cond (present e && maps_page (suc n) e) (Some (by_last_word L (q ++ i ∷ []) r e)) None
    last = leads i [] ∙ ap (option_and_then (λ e. cond (present e && maps_page (suc n) e) (Some (by_last_word L (q ++ i ∷ []) r e)) None)) is

    more : (j : ℕ) (s : List ℕ) → at (q ++ i ∷ j ∷ s) ≡ cond (present e && not (huge e)) (mapped_on L T (q ++ i ∷ j ∷ s) n (granted r e) (address e) (j ∷ s)) None
    more j s = leads i (j ∷ s) ∙ ap (option_and_then (λ e. cond (present e && not (huge e)) (mapped_on L T (q ++ i ∷ j ∷ s) (suc n - 1) (granted r e) (address e) (j ∷ s)) None)) is
        ∙ ap (λ k. cond (present e && not (huge e)) (mapped_on L T (q ++ i ∷ j ∷ s) k (granted r e) (address e) (j ∷ s)) None) (let e : suc n - 1 ≡ n = omega arith in e)

    after : (j : ℕ) (s : List ℕ) → at ((q ++ i ∷ []) ++ j ∷ s) ≡ cond (present e && not (huge e)) (mapped_on L T ((q ++ i ∷ []) ++ j ∷ s) n (granted r e) (address e) (j ∷ s)) None
    after j s = subst (λ p. at p ≡ cond (present e && not (huge e)) (mapped_on L T p n (granted r e) (address e) (j ∷ s)) None) (sym (append_assoc q (i ∷ []) (j ∷ s))) (more j s)

    absent : present e ≡ false → (s : List ℕ) → at (q ++ i ∷ s) ≡ None
    absent h [] = last ∙ ap (λ b. cond (b && maps_page (suc n) e) (Some (by_last_word L (q ++ i ∷ []) r e)) None) h
    absent h (j ∷ s) = more j s ∙ ap (λ b. cond (b && not (huge e)) (mapped_on L T (q ++ i ∷ j ∷ s) n (granted r e) (address e) (j ∷ s)) None) h

    none_after : present e ≡ true → huge e ≡ true → filter_map at (paths_below n (q ++ i ∷ [])) ≡ []
    none_after h g = none_below n (q ++ i ∷ []) (λ j s. after j s ∙ (λ k. cond (h k && not (g k)) (mapped_on L T ((q ++ i ∷ []) ++ j ∷ s) n (granted r e) (address e) (j ∷ s)) None))

    leads_on : present e ≡ true → huge e ≡ false → Leads n (q ++ i ∷ []) (granted r e) (address e)
    leads_on h g j s = after j s ∙ (λ k. cond (h k && not (g k)) (mapped_on L T ((q ++ i ∷ []) ++ j ∷ s) n (granted r e) (address e) (j ∷ s)) None)

    by_absent : present e ≡ false → (m h : Bool) → By n q r i e false m h
    by_absent h m g = none_at n q i (absent h)

    by_huge : length q + suc n ≡ L → present e ≡ true → huge e ≡ true → (m : Bool) → maps_page (suc n) e ≡ m → By n q r i e true m true
    by_huge l h g true page = parts n q i [] _ (none_after h g) (last ∙ (λ k. cond (h k && page k) (Some (by_last_word L (q ++ i ∷ []) r e)) None) ∙ ap Some (same_page n q i r e l))
    by_huge l h g false page = parts n q i [] _ (none_after h g) (last ∙ (λ k. cond (h k && page k) (Some (by_last_word L (q ++ i ∷ []) r e)) None))

    start_next : length q + suc n ≡ L → span_start L (q ++ i ∷ []) ≡ span_start L q + i * span (suc n)
    start_next l = ap (λ m. m.start) (same_page n q i r e l)

  -- a table's word that isn't huge
  by_small : (n : ℕ) (q : List ℕ) (r : Rights) (f i e : ℕ) → Leads (suc n) q r f → read T f i ≡ Some e → length q + suc n ≡ L → present e ≡ true → huge e ≡ false
      → ((q : List ℕ) (r : Rights) (f : ℕ) → length q + n ≡ L → Leads n q r f → filter_map at (paths_below n q) ≡ listed_on T n (span_start L q) r f)
      → By n q r i e true (maps_page (suc n) e) false
  unfolding paths_below
  by_small zero q r f i e leads is l h g below = parts zero q i [] _ refl (last zero q r f i e leads is ∙ ap (λ b. cond (b && true) (Some (by_last_word L (q ++ i ∷ []) r e)) None) h ∙ ap Some (same_page zero q i r e l))
  by_small (suc n) q r f i e leads is l h g below =
      let no_page : maps_page (suc (suc n)) e ≡ false = huge_page n e ∙ ap (λ b. b && nat_le (suc (suc n)) 3) g in
      parts (suc n) q i _ None
      (below (q ++ i ∷ []) (granted r e) (address e) (omega (arith, one_more q i, l)) (leads_on (suc n) q r f i e leads is h g))
      (last (suc n) q r f i e leads is ∙ (λ k. cond (h k && no_page k) (Some (by_last_word L (q ++ i ∷ []) r e)) None))
      ∙ append-nil (listed_on T (suc n) (span_start L (q ++ i ∷ [])) (granted r e) (address e))
      ∙ ap (λ s. listed_on T (suc n) s (granted r e) (address e)) (start_next (suc n) q r f i e leads is l)
      ∙ ap (λ m. cond m (page_from (span_start L q + i * span (suc (suc n))) (suc (suc n)) r e ∷ []) (listed_on T (suc n) (span_start L q + i * span (suc (suc n))) (granted r e) (address e))) (sym no_page)

  by_word : (n : ℕ) (q : List ℕ) (r : Rights) (f i : ℕ) → Leads (suc n) q r f → length q + suc n ≡ L
      → ((q : List ℕ) (r : Rights) (f : ℕ) → length q + n ≡ L → Leads n q r f → filter_map at (paths_below n q) ≡ listed_on T n (span_start L q) r f)
      → (o : Option ℕ) → read T f i ≡ o → Listed n q r f i o
  by_word n q r f i leads l below None is = none_at n q i none
    where
      none : (s : List ℕ) → at (q ++ i ∷ s) ≡ None
      none [] = leads i [] ∙ ap (option_and_then (λ e. cond (present e && maps_page (suc n) e) (Some (by_last_word L (q ++ i ∷ []) r e)) None)) is
      none (j ∷ s) = leads i (j ∷ s) ∙ ap (option_and_then (λ e. cond (present e && not (huge e)) (mapped_on L T (q ++ i ∷ j ∷ s) (suc n - 1) (granted r e) (address e) (j ∷ s)) None)) is
  by_word n q r f i leads l below (Some e) is = by (present e) (huge e) refl refl
    where
      by : (b h : Bool) → present e ≡ b → huge e ≡ h → By n q r i e b (maps_page (suc n) e) h
      by false h there high = by_absent n q r f i e leads is there (maps_page (suc n) e) h
      by true true there high = by_huge n q r f i e leads is l there high (maps_page (suc n) e) refl
      by true false there high = by_small n q r f i e leads is l there high below

  listed_below : (n : ℕ) (q : List ℕ) (r : Rights) (f : ℕ) → length q + n ≡ L → Leads n q r f → filter_map at (paths_below n q) ≡ listed_on T n (span_start L q) r f
  unfolding paths_below
  listed_below zero q r f l leads = refl
  listed_below (suc n) q r f l leads = filter_map-flat_map at (λ i. paths_below n (q ++ i ∷ []) ++ (q ++ i ∷ []) ∷ []) _
      (λ i. by_word n q r f i leads l (listed_below n) (read T f i) refl) indices

  pub mappings_listed : mappings_of L T root ≡ listed_on T L 0 every_right root
  unfolding mappings_of
  mappings_listed = listed_below L [] every_right root (let e : zero + L ≡ L = omega arith in e) (λ j s. mapping_along L T root (j ∷ s))
      ∙ ap (λ s. listed_on T L s every_right root) (let z : 0 * span (L + 1 - 0) ≡ 0 = omega arith in z)
