-- The walk with all rights is the page walk.
use Rattle.std.proofs.Common.{zero, suc, ◌≡◌, ◌<◌, ◌+◌, ◌%◌, ℕ, ◌&&◌, Bool, true, false, cond, List, [], ◌∷◌, ◌++◌, length, get_or, nat_le, Some, None, Option, option_map, option_and_then, refl, sym, ap, ◌∙◌, arith, lt-ltb}
use Rattle.std.proofs.lemmas.Bool.{cond-false}
use Rattle.x86_64_model.specs.Entry.{present, writable, user, huge, address}
use Rattle.x86_64_model.specs.Memory.{Words, word, word_in}
use Rattle.x86_64_model.specs.Path.{level_of}
use Rattle.x86_64_model.specs.Position.{index, span}
use Rattle.x86_64_model.specs.Mappings.{maps_page}
use Rattle.x86_64_model.specs.PageWalk.{Walked, page_start, arrives, read, walk_on, page_walk}
use Rattle.x86_64_model.specs.Caches.{PartialWalk, start, over, Table, Page, item_over, then_on, walk_with_rights_from, walked_in}
use Rattle.x86_64_model.specs.Laws.Caches.{WalksWithRights}
use Rattle.x86_64_model.proofs.Lemmas.Walks.Walked.{index_small, one_more}
use Rattle.x86_64_model.proofs.Lemmas.Entries.Bits.{zero_absent}
use Rattle.x86_64_model.proofs.Lemmas.Entries.Words.{address_aligned}
use Rattle.x86_64_model.proofs.Lemmas.Maps.Leaves.{rounded}
use Rattle.x86_64_model.proofs.Lemmas.Mappings.Found.{huge_page}

-- a test of the word that fails at 0 needs no table
pub read_or_zero : {X : Type 0} (g : ℕ → Option X) (T : Words) (f i : ℕ) → i < 512 → g 0 ≡ None → option_and_then g (read T f i) ≡ g (word T f i)
unfolding word
read_or_zero g T f i l z = by (T f) ∙ ap (λ b. g (cond b (word_in (T f) i) 0)) (sym (lt-ltb i 512 l))
  where
    by : (o : Option (List ℕ)) → option_and_then g (option_map (λ words. get_or words i 0) o) ≡ g (word_in o i)
    by None = sym z
    by (Some words) = refl

pub next_level : (L n : ℕ) (q : List ℕ) (i : ℕ) → length q + n ≡ L → level_of L (q ++ i ∷ []) ≡ n
next_level L n q i l = omega (arith, one_more q i, l)

module _ (L : ℕ) (T : Words) (p : ℕ) where
  -- at level one, and above
  last : (t : PartialWalk) (i e : ℕ) → level_of L (t.path ++ i ∷ []) ≡ 1 → (on : PartialWalk → Option PartialWalk)
      → cond (present e) (arrives (address e + p % span 1) (t.rights.write && writable e) (t.rights.user && user e)) None ≡ option_map (walked_in L p) (option_and_then (then_on on) (item_over L t i e))
  last t i e lv on = by (present e)
    where
      maps : maps_page (level_of L (t.path ++ i ∷ [])) e ≡ true
      maps = ap (λ l. maps_page l e) lv

      by : (b : Bool) → cond b (arrives (address e + p % span 1) (t.rights.write && writable e) (t.rights.user && user e)) None
          ≡ option_map (walked_in L p) (option_and_then (then_on on) (cond b (cond (maps_page (level_of L (t.path ++ i ∷ [])) e) (Some (Page (over t i e (page_start (level_of L (t.path ++ i ∷ [])) e)))) (cond (huge e) None (Some (Table (over t i e (address e)))))) None))
      by true = ap (λ a. arrives (a + p % span 1) (t.rights.write && writable e) (t.rights.user && user e)) (sym (rounded (address e) 4096 (address_aligned e)))
          ∙ ap (λ l. arrives (page_start l e + p % span l) (t.rights.write && writable e) (t.rights.user && user e)) (sym lv)
          ∙ ap (λ m. option_map (walked_in L p) (option_and_then (then_on on) (cond m (Some (Page (over t i e (page_start (level_of L (t.path ++ i ∷ [])) e)))) (cond (huge e) None (Some (Table (over t i e (address e)))))))) (sym maps)
      by false = refl

  inner : (n : ℕ) (t : PartialWalk) (i e : ℕ) → level_of L (t.path ++ i ∷ []) ≡ suc (suc n) → (on : PartialWalk → Option PartialWalk) (rest : Option Walked) → rest ≡ option_map (walked_in L p) (on (over t i e (address e)))
      → cond (present e) (cond (huge e) (cond (nat_le (suc (suc n)) 3) (arrives (page_start (suc (suc n)) e + p % span (suc (suc n))) (t.rights.write && writable e) (t.rights.user && user e)) None) rest) None
      ≡ option_map (walked_in L p) (option_and_then (then_on on) (item_over L t i e))
  inner n t i e lv on rest same = by (present e) (huge e) (nat_le (suc (suc n)) 3)
      ∙ ap (λ m. option_map (walked_in L p) (option_and_then (then_on on) (cond (present e) (cond m (Some (Page (over t i e (page_start (level_of L (t.path ++ i ∷ [])) e)))) (cond (huge e) None (Some (Table (over t i e (address e)))))) None)))
      (sym (ap (λ l. maps_page l e) lv ∙ huge_page n e))
    where
      by : (b h l : Bool) → cond b (cond h (cond l (arrives (page_start (suc (suc n)) e + p % span (suc (suc n))) (t.rights.write && writable e) (t.rights.user && user e)) None) rest) None
          ≡ option_map (walked_in L p) (option_and_then (then_on on) (cond b (cond (h && l) (Some (Page (over t i e (page_start (level_of L (t.path ++ i ∷ [])) e)))) (cond h None (Some (Table (over t i e (address e)))))) None))
      by true true true = ap (λ l. arrives (page_start l e + p % span l) (t.rights.write && writable e) (t.rights.user && user e)) (sym lv)
      by true true false = refl
      by true false l = same
      by false h l = refl

  absent : (x : Option Walked) → cond (present 0) x None ≡ None
  absent x = cond-false (present 0) x None zero_absent

  walked_from : (n : ℕ) (t : PartialWalk) → length t.path + n ≡ L → walk_on T p n t.rights.write t.rights.user t.frame ≡ option_map (walked_in L p) (walk_with_rights_from L T p n t)
  unfolding walk_on walk_with_rights_from
  walked_from zero t l = refl
  walked_from (suc zero) t l = let i = index 1 p in
      read_or_zero (λ e. cond (present e) (arrives (address e + p % span 1) (t.rights.write && writable e) (t.rights.user && user e)) None) T t.frame i (index_small 1 p) (absent _)
      ∙ last t i (word T t.frame i) (next_level L 1 t.path i l) (λ on. None)
  walked_from (suc (suc n)) t l = let level = suc (suc n) in let i = index level p in let e = word T t.frame i in
      read_or_zero (λ e. cond (present e) (cond (huge e) (cond (nat_le level 3) (arrives (page_start level e + p % span level) (t.rights.write && writable e) (t.rights.user && user e)) None)
      (walk_on T p (suc n) (t.rights.write && writable e) (t.rights.user && user e) (address e))) None) T t.frame i (index_small level p) (absent _)
      ∙ inner n t i e (next_level L level t.path i l) (λ on. walk_with_rights_from L T p (suc n) on) _ (walked_from (suc n) (over t i e (address e)) (omega (arith, one_more t.path i, l)))

pub walks_with_rights : WalksWithRights
unfolding page_walk
walks_with_rights L T root p = walked_from L T p L (start root) (omega arith)
