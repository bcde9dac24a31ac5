-- Where accesses arrive, from the entries at the front parts of a path in place of the words.
use Rattle.std.proofs.Common.{zero, suc, ◌≡◌, ◌+◌, ◌%◌, ℕ, Bool, true, false, cond, List, [], ◌∷◌, ◌++◌, length, Some, None, Option, option_map, option_and_then, refl, sym, ap, ap₂, ◌∙◌, arith}
use Rattle.x86_64_model.specs.Caches.{PartialWalk, start, over, Table, Page, item_over, then_on, walk_with_rights_from}
use Rattle.x86_64_model.specs.Entry.{present, huge, address, names_table}
use Rattle.x86_64_model.specs.Laws.Splits.{Arrival, arrival_of_way, arrival_at}
use Rattle.x86_64_model.specs.Mappings.{Rights, maps_page, every_right, granted}
use Rattle.x86_64_model.specs.Memory.{Words, word}
use Rattle.x86_64_model.specs.PageWalk.{page_start}
use Rattle.x86_64_model.specs.Path.{level_of}
use Rattle.x86_64_model.specs.PathMap.{PathMap, entry}
use Rattle.x86_64_model.specs.Position.{span, index, page_path}
use Rattle.x86_64_model.specs.Window.{Window, entry_at, begins_with, IsValidFor}
use Rattle.x86_64_model.proofs.Lemmas.Walks.Agrees.{reads}
use Rattle.x86_64_model.proofs.Lemmas.Walks.Fronts.{SameOnPath, goes_on, outside_same}
use Rattle.x86_64_model.proofs.Lemmas.Walks.Walked.{Reads, names, one_more}

-- the result by a word of a level, if next is the result from the table that it names
abbrev pub by_word : (level p : ℕ) → Rights → (e : ℕ) → (next : Option Arrival) → Option Arrival
by_word level p r e next = cond (present e)
    (cond (maps_page level e)
    (Some (record { address = page_start level e + p % span level; rights = granted r e }))
    (cond (huge e) None next)) None

abbrev pub arrived : (List ℕ → ℕ) → (p level : ℕ) → List ℕ → Rights → Option Arrival
arrived E p zero c r = None
arrived E p (suc n) c r = let e = E (c ++ index (suc n) p ∷ []) in by_word (suc n) p r e
    (arrived E p n (c ++ index (suc n) p ∷ []) (granted r e))

module _ (L : ℕ) (T : Words) (root : ℕ) (E : List ℕ → ℕ) (is : Reads L T root E) (p : ℕ) where
  -- what a word leads to
  at_word : (n : ℕ) (t : PartialWalk) (i e : ℕ) (walk_on : PartialWalk → Option PartialWalk) (next : Option Arrival)
      → level_of L (t.path ++ i ∷ []) ≡ suc n
      → (present e ≡ true → huge e ≡ false → maps_page (suc n) e ≡ false
      → option_map (arrival_of_way L p) (walk_on (over t i e (address e))) ≡ next)
      → option_map (arrival_of_way L p) (option_and_then (then_on walk_on) (item_over L t i e))
      ≡ by_word (suc n) p t.rights e next
  at_word n t i e walk_on next level on =
      ap (λ k. option_map (arrival_of_way L p)
      (option_and_then (then_on walk_on) (cond (present e)
      (cond (maps_page k e) (Some (Page (over t i e (page_start k e))))
      (cond (huge e) None (Some (Table (over t i e (address e)))))) None))) level
      ∙ by (present e) (maps_page (suc n) e) (huge e) refl refl refl
    where
      by : (a b c : Bool) → present e ≡ a → maps_page (suc n) e ≡ b → huge e ≡ c
          → option_map (arrival_of_way L p) (option_and_then (then_on walk_on)
          (cond a (cond b (Some (Page (over t i e (page_start (suc n) e))))
          (cond c None (Some (Table (over t i e (address e)))))) None))
          ≡ cond a (cond b
          (Some (record {
            address = page_start (suc n) e + p % span
                (suc n);
            rights = granted t.rights e;
          })) (cond c None next)) None
      by false b c x y z = refl
      by true true c x y z = ap (λ k. Some
          (record { address = page_start (suc n) e + p % span k; rights = granted t.rights e })) level
      by true false true x y z = refl
      by true false false x y z = on x z y

  walk_arrives : (n : ℕ) (t : PartialWalk) → length t.path + n ≡ L
      → ((j : ℕ) → word T t.frame j ≡ E (t.path ++ j ∷ []))
      → option_map (arrival_of_way L p) (walk_with_rights_from L T p n t) ≡ arrived E p n t.path t.rights
  unfolding walk_with_rights_from
  walk_arrives zero t l at = refl
  walk_arrives (suc n) t l at =
      let i = index (suc n) p in let e = E (t.path ++ i ∷ []) in
      ap (λ e. option_map (arrival_of_way L p)
      (option_and_then (then_on (λ on. walk_with_rights_from L T p n on)) (item_over L t i e))) (at i)
      ∙ at_word n t i e (λ on. walk_with_rights_from L T p n on) (arrived E p n (t.path ++ i ∷ []) (granted t.rights e))
      (omega (arith, one_more t.path i, l))
      (λ x z y. on n t i e l refl x z y (walk_arrives n (over t i e (address e))
      (omega (arith, one_more t.path i, l))))
    where
      on : (n : ℕ) (t : PartialWalk) (i e : ℕ) → length t.path + suc n ≡ L → e ≡ E (t.path ++ i ∷ [])
          → present e ≡ true → huge e ≡ false → maps_page (suc n) e ≡ false
          → (((j : ℕ) → word T (address e) j ≡ E ((t.path ++ i ∷ []) ++ j ∷ []))
          → option_map (arrival_of_way L p) (walk_with_rights_from L T p n (over t i e (address e)))
          ≡ arrived E p n (t.path ++ i ∷ []) (granted t.rights e))
          → option_map (arrival_of_way L p) (walk_with_rights_from L T p n (over t i e (address e)))
          ≡ arrived E p n (t.path ++ i ∷ []) (granted t.rights e)
      on zero t i e l is_entry x z y rest = absurd
          (let last : maps_page 1 e ≡ true = refl in let c : true ≡ false = sym last ∙ y in cc)
      on (suc n) t i e l is_entry x z y rest = rest
          (λ j. ap (λ e. word T (address e) j) is_entry
          ∙ sym (is.next (t.path ++ i ∷ []) j (ap names_table (sym is_entry) ∙ names e x z)
          (omega (arith, one_more t.path i, l))))

  pub arrival_is : arrival_at L T root p ≡ arrived E p L [] every_right
  arrival_is = walk_arrives L (start root) (omega arith) (λ j. sym (is.first j))

-- outside the window by the map alone
module _ (L p : ℕ) (E F : List ℕ → ℕ) (same : SameOnPath L p E F) where
  at : (n : ℕ) (c : List ℕ) → page_path L p ≡ c ++ page_path (suc n) p
      → E (c ++ index (suc n) p ∷ []) ≡ F (c ++ index (suc n) p ∷ [])
  unfolding page_path
  at n c e = same c (index (suc n) p) (page_path n p) e

  arrived_same : (n : ℕ) (c : List ℕ) (r : Rights) → page_path L p ≡ c ++ page_path n p
      → arrived E p n c r ≡ arrived F p n c r
  arrived_same zero c r way = refl
  arrived_same (suc n) c r way = let d = c ++ index (suc n) p ∷ [] in
      ap₂ (λ e x. by_word (suc n) p r e x) (at n c way)
      (arrived_same n d (granted r (E d)) (goes_on L p n c way)
      ∙ ap (λ e. arrived F p n d (granted r e)) (at n c way))

pub arrival_of_map : (L : ℕ) (window : Option Window) (T : Words) (root : ℕ) (M : PathMap) (p : ℕ)
    → IsValidFor L window T root M → begins_with window (page_path L p) ≡ false
    → arrival_at L T root p ≡ arrived (entry M) p L [] every_right
arrival_of_map L window T root M p valid out =
    arrival_is L T root (entry_at window M) (reads L T root M window valid) p
    ∙ arrived_same L p (entry_at window M) (entry M) (outside_same L window M p out) L [] every_right refl
