-- The mappings of a table, listed from another start and below other words, are the placed mappings of the table alone.
use Rattle.std.proofs.Common.{zero, suc, ◌≡◌, ◌+◌, ◌*◌, ℕ, Bool, true, false, not, cond, List, [], ◌∷◌, ◌++◌, map, flat_map, Option, Some, None, refl, sym, ap, ap₂, ◌∙◌, arith}
use Rattle.std.proofs.Math.Bool.{and_assoc}
use Rattle.std.proofs.lemmas.List.{map-append}
use Rattle.x86_64_model.specs.Entry.{present, writable, user, huge, no_execute, address}
use Rattle.x86_64_model.specs.Memory.{Words}
use Rattle.x86_64_model.specs.PageWalk.{read}
use Rattle.x86_64_model.specs.Position.{span}
use Rattle.x86_64_model.specs.Path.{indices}
use Rattle.x86_64_model.specs.Mappings.{Rights, Mapping, maps_page, mappings_of, every_right, granted}
use Rattle.x86_64_model.specs.private.Found.{page_from}
use Rattle.x86_64_model.proofs.Lemmas.Mappings.Listed.{listed_by, list_and_then, listed_on, mappings_listed}
use Rattle.x86_64_mappings.specs.private.Placed.{placed}

-- ---- lists

flat_map-mapped : {X Y Z : Type 0} (p : Y → Z) (g : X → List Z) (h : X → List Y) → ((x : X) → g x ≡ map p (h x)) → (xs : List X) → flat_map g xs ≡ map p (flat_map h xs)
flat_map-mapped p g h same [] = refl
flat_map-mapped p g h same (x ∷ xs) = ap₂ (λ ys zs. ys ++ zs) (same x) (flat_map-mapped p g h same xs) ∙ sym (map-append p (h x) (flat_map h xs))

pub flat_map-same : {X Y : Type 0} (g h : X → List Y) → ((x : X) → g x ≡ h x) → (xs : List X) → flat_map g xs ≡ flat_map h xs
flat_map-same g h same [] = refl
flat_map-same g h same (x ∷ xs) = ap₂ (λ ys zs. ys ++ zs) (same x) (flat_map-same g h same xs)

-- ---- placed twice

placed_once : (s k : ℕ) (r : Rights) (e : ℕ) (m : Mapping) → placed (s + k) (granted r e) m ≡ placed s r (placed (0 + k) (granted every_right e) m)
placed_once s k r e m =
    let start : s + k + m.start ≡ s + (0 + k + m.start) = omega arith in
    λ i. record {
      start = start i;
      size = m.size;
      frame = m.frame;
      flags = m.flags;
      rights = record {
        write = and_assoc r.write (writable e) m.rights.write i;
        user = and_assoc r.user (user e) m.rights.user i;
        execute = and_assoc r.execute (not (no_execute e)) m.rights.execute i;
      };
    }

-- the mappings of a table below an entry, whose span starts after k positions
map_placed : (s k : ℕ) (r : Rights) (e : ℕ) (ms : List Mapping) → map (placed (s + k) (granted r e)) ms ≡ map (placed s r) (map (placed (0 + k) (granted every_right e)) ms)
map_placed s k r e [] = refl
map_placed s k r e (m ∷ ms) = ap₂ (λ m ms. m ∷ ms) (placed_once s k r e m) (map_placed s k r e ms)

-- a page
page_placed : (s k level : ℕ) (r : Rights) (e : ℕ) → page_from (s + k) level r e ≡ placed s r (page_from (0 + k) level every_right e)
page_placed s k level r e =
    let start : s + k ≡ s + (0 + k) = omega arith in
    λ i. page_from (start i) level r e

module _ (T : Words) where
  -- the mappings by a word that is read
  by_word : (n s k : ℕ) (r : Rights) (o : Option ℕ) → ((s : ℕ) (r : Rights) (f : ℕ) → listed_on T n s r f ≡ map (placed s r) (listed_on T n 0 every_right f))
      → list_and_then (λ e. listed_by (s + k) (suc n) r e (listed_on T n (s + k) (granted r e) (address e))) o
      ≡ map (placed s r) (list_and_then (λ e. listed_by (0 + k) (suc n) every_right e (listed_on T n (0 + k) (granted every_right e) (address e))) o)
  by_word n s k r None below = refl
  by_word n s k r (Some e) below = by (present e) (maps_page (suc n) e) (huge e)
    where
      table : listed_on T n (s + k) (granted r e) (address e) ≡ map (placed s r) (listed_on T n (0 + k) (granted every_right e) (address e))
      table = below (s + k) (granted r e) (address e)
          ∙ map_placed s k r e (listed_on T n 0 every_right (address e))
          ∙ sym (ap (map (placed s r)) (below (0 + k) (granted every_right e) (address e)))

      by : (b m h : Bool) → cond b (cond m (page_from (s + k) (suc n) r e ∷ []) (cond h [] (listed_on T n (s + k) (granted r e) (address e)))) []
          ≡ map (placed s r) (cond b (cond m (page_from (0 + k) (suc n) every_right e ∷ []) (cond h [] (listed_on T n (0 + k) (granted every_right e) (address e)))) [])
      by false m h = refl
      by true true h = ap (λ m. m ∷ []) (page_placed s k (suc n) r e)
      by true false true = refl
      by true false false = table

  listed_placed : (n s : ℕ) (r : Rights) (f : ℕ) → listed_on T n s r f ≡ map (placed s r) (listed_on T n 0 every_right f)
  listed_placed zero s r f = refl
  listed_placed (suc n) s r f = flat_map-mapped (placed s r) _ _ (λ i. by_word n s (i * span (suc n)) r (read T f i) (listed_placed n)) indices

  -- the mappings of a table of a level, from a start and below words with rights r
  pub mappings_placed : (n s : ℕ) (r : Rights) (f : ℕ) → listed_on T n s r f ≡ map (placed s r) (mappings_of n T f)
  mappings_placed n s r f = listed_placed n s r f ∙ ap (map (placed s r)) (sym (mappings_listed n T f))
