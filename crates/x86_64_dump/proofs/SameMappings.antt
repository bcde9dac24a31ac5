-- Words that are equal wherever page walks from a root lead have equal mappings and page walks.
use Rattle.std.proofs.Common.{◌≡◌, ℕ, zero, suc, ◌+◌, ◌*◌, ◌&&◌, Bool, true, false, not, cond, List, [], ◌∷◌, flat_map, get_or, Option, Some, None, option_map, unwrap_or, refl, sym, ap, ◌∙◌}
use Rattle.x86_64_model.specs.Entry.{present, huge, address}
use Rattle.x86_64_model.specs.Mappings.{Rights, Mapping, maps_page, mappings_of, every_right, granted}
use Rattle.x86_64_model.specs.Memory.{Words}
use Rattle.x86_64_model.specs.PageWalk.{read, page_walk}
use Rattle.x86_64_model.specs.Path.{indices}
use Rattle.x86_64_model.specs.Position.{span, index}
use Rattle.x86_64_model.specs.Steps.{Step, arrival_along, leads_on, steps}
use Rattle.x86_64_model.specs.private.Found.{page_from}
use Rattle.x86_64_model.proofs.Lemmas.Mappings.Listed.{listed_by, list_and_then, listed_on, mappings_listed}
use Rattle.x86_64_model.proofs.Lemmas.Walks.Steps.{step, walks_arrive_by_steps}
use Rattle.x86_64_dump.specs.Reached.{SameBelow}

same_read : (T W : Words) (f i : ℕ) → T f ≡ W f → read T f i ≡ read W f i
same_read T W f i same = ap (option_map (λ words. get_or words i 0)) same

-- ---- mappings

-- the mappings that a word lists depend on what is below only if the word names a table
by_word : (start level : ℕ) (r : Rights) (e : ℕ) (xs ys : List Mapping) → (present e ≡ true → huge e ≡ false → xs ≡ ys) → listed_by start level r e xs ≡ listed_by start level r e ys
by_word start level r e xs ys same = by (present e) (maps_page level e) (huge e) refl refl
  where
    by : (there page high : Bool) → present e ≡ there → huge e ≡ high
        → cond there (cond page (page_from start level r e ∷ []) (cond high [] xs)) [] ≡ cond there (cond page (page_from start level r e ∷ []) (cond high [] ys)) []
    by false page high is big = refl
    by true true high is big = refl
    by true false true is big = refl
    by true false false is big = same is big

-- the mappings that a word of a table lists
listed_at : Words → (n start : ℕ) → Rights → (i e : ℕ) → List Mapping
listed_at V n start r i e = listed_by (start + i * span (suc n)) (suc n) r e (listed_on V n (start + i * span (suc n)) (granted r e) (address e))

same_at : (n : ℕ) (T W : Words) (start : ℕ) (r : Rights) (i : ℕ) (o : Option ℕ)
    → ((e : ℕ) → o ≡ Some e → present e ≡ true → huge e ≡ false → listed_on T n (start + i * span (suc n)) (granted r e) (address e) ≡ listed_on W n (start + i * span (suc n)) (granted r e) (address e))
    → list_and_then (listed_at T n start r i) o ≡ list_and_then (listed_at W n start r i) o
unfolding listed_at
same_at n T W start r i None same = refl
same_at n T W start r i (Some e) same = by_word (start + i * span (suc n)) (suc n) r e _ _ (same e refl)

same_listed : (n : ℕ) (T W : Words) (start : ℕ) (r : Rights) (f : ℕ) → SameBelow n T W f → listed_on T n start r f ≡ listed_on W n start r f
unfolding listed_at
same_listed zero T W start r f same = refl
same_listed (suc n) T W start r f same = ap (λ list. flat_map list indices) (λ k i.
    (same_at n T W start r i (read T f i) (λ e is there small. same_listed n T W (start + i * span (suc n)) (granted r e) (address e) (same.1 i e is there small))
    ∙ ap (list_and_then (listed_at W n start r i)) (same_read T W f i same.0)) k)

pub same_mappings : (L : ℕ) (T W : Words) (root : ℕ) → SameBelow L T W root → mappings_of L T root ≡ mappings_of L W root
same_mappings L T W root same = mappings_listed L T root ∙ same_listed L T W 0 every_right root same ∙ sym (mappings_listed L W root)

-- ---- walks

pub same_steps : (T W : Words) (p level f : ℕ) → SameBelow level T W f → steps T p level f ≡ steps W p level f
unfolding steps
same_steps T W p zero f same = refl
same_steps T W p (suc n) f same = by (read T f (index (suc n) p)) refl (λ e there is plain. same_steps T W p n (address e) (same.1 (index (suc n) p) e there is plain))
    ∙ ap (go W) (same_read T W f (index (suc n) p) same.0)
  where
    go : Words → Option ℕ → List Step
    go V o = unwrap_or (option_map (λ e. step p (suc n) f e ∷ cond (leads_on (suc n) e) (steps V p n (address e)) []) o) []

    each : (x y : List Step) (b m h : Bool) → (b ≡ true → h ≡ false → x ≡ y) → cond (b && not m && not h) x [] ≡ cond (b && not m && not h) y []
    each x y true true h alike = refl
    each x y true false true alike = refl
    each x y true false false alike = alike refl refl
    each x y false m h alike = refl

    by : (o : Option ℕ) → read T f (index (suc n) p) ≡ o
        → ((e : ℕ) → read T f (index (suc n) p) ≡ Some e → present e ≡ true → huge e ≡ false → steps T p n (address e) ≡ steps W p n (address e))
        → go T o ≡ go W o
    by None there on = refl
    by (Some e) there on = ap (λ below. step p (suc n) f e ∷ below) (each _ _ (present e) (maps_page (suc n) e) (huge e) (on e there))

pub same_walks : (L : ℕ) (T W : Words) (root p : ℕ) → SameBelow L T W root → page_walk L T root p ≡ page_walk L W root p
same_walks L T W root p same = walks_arrive_by_steps L T root p ∙ ap (arrival_along p) (same_steps T W p L root same) ∙ sym (walks_arrive_by_steps L W root p)
