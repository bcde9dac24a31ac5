-- The page walk, from the entries at the front parts of the path in place of the words.
use Rattle.std.proofs.Common.{zero, suc, ◌≡◌, ◌<◌, ◌+◌, ◌%◌, ℕ, ◌&&◌, Bool, true, false, not, cond, List, [], ◌∷◌, ◌++◌, length, get_or, nat_le, Some, None, Option, IsSome, option_map, option_and_then, refl, sym, ap, ap₂, ◌∙◌, arith, lit<, mod-lt, lt-ltb, length-append}
use Rattle.x86_64_model.specs.Entry.{present, writable, user, huge, address, names_table}
use Rattle.x86_64_model.specs.Memory.{Words, word, word_in}
use Rattle.x86_64_model.specs.Path.{level_of}
use Rattle.x86_64_model.specs.Position.{index, span}
use Rattle.x86_64_model.specs.PageWalk.{page_start, Walked, arrives, read, walk_on, page_walk}
use Rattle.x86_64_model.proofs.Lemmas.Entries.Bits.{used_present}

-- E has the words that are read on the way down, as far as tables lead
pub record Reads (L : ℕ) (tables : Words) (root : ℕ) (E : List ℕ → ℕ) : Type 0 where
  pub first : (i : ℕ) → E (i ∷ []) ≡ word tables root i
  pub next : (q : List ℕ) (j : ℕ) → names_table (E q) ≡ true → length q < L → E (q ++ j ∷ []) ≡ word tables (address (E q)) j
  pub root_there : IsSome (tables root)
  pub there : (q : List ℕ) → names_table (E q) ≡ true → length q < L → IsSome (tables (address (E q)))
  pub none_huge : (q : List ℕ) → 3 < level_of L q → huge (E q) ≡ false

pub read_there : (tables : Words) (f i : ℕ) → i < 512 → IsSome (tables f) → read tables f i ≡ Some (word tables f i)
unfolding word
read_there tables f i l h = by (tables f) h ∙ ap (λ b. Some (cond b (word_in (tables f) i) 0)) (sym (lt-ltb i 512 l))
  where
    by : (o : Option (List ℕ)) → IsSome o → option_map (λ words. get_or words i 0) o ≡ Some (word_in o i)
    by None h = cc
    by (Some words) h = refl

pub index_small : (level p : ℕ) → index level p < 512
unfolding index
index_small level p = mod-lt _ (lit< tt)

pub names : (w : ℕ) → present w ≡ true → huge w ≡ false → names_table w ≡ true
names w h g = ap₂ (λ u h. u && not h) (used_present w h) g

-- ---- the walk, from the entries at the front parts of the path in place of the words

-- the result by a word of level two or more, if next is the walk from the table that it names
abbrev pub passed : (level p : ℕ) → (w u : Bool) → (e : ℕ) → Option Walked → Option Walked
passed level p w u e next = cond (present e)
    (cond (huge e) (cond (nat_le level 3) (arrives (page_start level e + p % span level) (w && writable e) (u && user e)) None) next) None

abbrev pub walked : (List ℕ → ℕ) → (p level : ℕ) → List ℕ → (w u : Bool) → Option Walked
walked E p zero q w u = None
walked E p (suc zero) q w u = let e = E (q ++ index 1 p ∷ []) in
    cond (present e) (arrives (address e + p % span 1) (w && writable e) (u && user e)) None
walked E p (suc (suc n)) q w u = let e = E (q ++ index (suc (suc n)) p ∷ []) in
    passed (suc (suc n)) p w u e (walked E p (suc n) (q ++ index (suc (suc n)) p ∷ []) (w && writable e) (u && user e))

pub on_if_table : (level p e : ℕ) (w u : Bool) (x y : Option Walked) → (present e ≡ true → huge e ≡ false → x ≡ y) → passed level p w u e x ≡ passed level p w u e y
on_if_table level p e w u x y same = by (present e) (huge e) same
  where
    by : (h g : Bool) → (h ≡ true → g ≡ false → x ≡ y)
        → cond h (cond g (cond (nat_le level 3) (arrives (page_start level e + p % span level) (w && writable e) (u && user e)) None) x) None
        ≡ cond h (cond g (cond (nat_le level 3) (arrives (page_start level e + p % span level) (w && writable e) (u && user e)) None) y) None
    by true true s = refl
    by true false s = s refl refl
    by false g s = refl

pub one_more : (q : List ℕ) (i : ℕ) → length (q ++ i ∷ []) ≡ length q + 1
one_more q i = length-append q (i ∷ [])

module _ (L : ℕ) (tables : Words) (root : ℕ) (E : List ℕ → ℕ) (reads : Reads L tables root E) where
  pub next : (q : List ℕ) (j : ℕ) → j < 512 → length q < L → present (E q) ≡ true → huge (E q) ≡ false → read tables (address (E q)) j ≡ Some (E (q ++ j ∷ []))
  next q j s l h g = read_there tables (address (E q)) j s (reads.there q (names (E q) h g) l) ∙ ap Some (sym (reads.next q j (names (E q) h g) l))

  pub walk_is : (p level : ℕ) (q : List ℕ) (w u : Bool) (f : ℕ) → length q + level ≡ L → ((j : ℕ) → j < 512 → read tables f j ≡ Some (E (q ++ j ∷ []))) → walk_on tables p level w u f ≡ walked E p level q w u
  unfolding walk_on
  walk_is p zero q w u f l at = refl
  walk_is p (suc zero) q w u f l at = ap (option_and_then (λ e. cond (present e) (arrives (address e + p % span 1) (w && writable e) (u && user e)) None)) (at (index 1 p) (index_small 1 p))
  walk_is p (suc (suc n)) q w u f l at =
      let i = index (suc (suc n)) p in let e = E (q ++ i ∷ []) in
      ap (option_and_then (λ e. passed (suc (suc n)) p w u e (walk_on tables p (suc n) (w && writable e) (u && user e) (address e)))) (at i (index_small (suc (suc n)) p))
      ∙ on_if_table (suc (suc n)) p e w u _ _ (λ h g. walk_is p (suc n) (q ++ i ∷ []) (w && writable e) (u && user e) (address e)
      (omega (arith, one_more q i, l))
      (λ j s. next (q ++ i ∷ []) j s (omega (arith, one_more q i, l)) h g))

  pub page_walk_is : (p : ℕ) → page_walk L tables root p ≡ walked E p L [] true true
  unfolding page_walk
  page_walk_is p = walk_is p L [] true true root (omega arith) (λ j s. read_there tables root j s reads.root_there ∙ ap Some (sym (reads.first j)))
