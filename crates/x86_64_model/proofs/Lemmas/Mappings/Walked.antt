-- The page walk arrives in the mapping that is found.
use Rattle.std.proofs.Common.{zero, suc, ◌≡◌, ◌+◌, ◌%◌, ℕ, ◌&&◌, Bool, true, false, cond, nat_le, Option, Some, None, option_map, option_and_then, refl, sym, ap, ◌∙◌}
use Rattle.std.proofs.Math.Nat.{mod-eq-sub-div-mul}
use Rattle.x86_64_model.specs.Entry.{present, writable, user, huge, address}
use Rattle.x86_64_model.specs.Memory.{Words}
use Rattle.x86_64_model.specs.Position.{index, span}
use Rattle.x86_64_model.specs.PageWalk.{Walked, page_start, arrives, read, walk_on, page_walk}
use Rattle.x86_64_model.specs.Mappings.{Rights, Mapping, every_right, granted}
use Rattle.x86_64_model.specs.Laws.Mappings.{arrival_in}
use Rattle.x86_64_model.specs.private.Found.{page_at, found_on, found}
use Rattle.x86_64_model.proofs.Lemmas.Entries.Words.{address_aligned}
use Rattle.x86_64_model.proofs.Lemmas.Maps.Leaves.{rounded}
use Rattle.x86_64_model.proofs.Lemmas.Mappings.Found.{found_by, huge_page}

-- where the walk arrives by a page
arrives_in : (p level : ℕ) (r : Rights) (e : ℕ) → arrives (page_start level e + p % span level) (r.write && writable e) (r.user && user e) ≡ Some (arrival_in p (page_at p level r e))
arrives_in p level r e = ap (λ o. arrives (page_start level e + o) (r.write && writable e) (r.user && user e)) (mod-eq-sub-div-mul p (span level))

walked_on : (T : Words) (p level : ℕ) (r : Rights) (f : ℕ) → walk_on T p level r.write r.user f ≡ option_map (arrival_in p) (found_on T p level r f)
unfolding walk_on found_on
walked_on T p zero r f = refl
walked_on T p (suc zero) r f = by (read T f (index 1 p))
  where
    each : (e : ℕ) (b : Bool) → cond b (arrives (address e + p % span 1) (r.write && writable e) (r.user && user e)) None ≡ option_map (arrival_in p) (cond b (Some (page_at p 1 r e)) None)
    each e true = ap (λ a. arrives (a + p % span 1) (r.write && writable e) (r.user && user e)) (sym (rounded (address e) 4096 (address_aligned e))) ∙ arrives_in p 1 r e
    each e false = refl

    by : (o : Option ℕ) → option_and_then (λ e. cond (present e) (arrives (address e + p % span 1) (r.write && writable e) (r.user && user e)) None) o
        ≡ option_map (arrival_in p) (option_and_then (λ e. found_by p 1 r e None) o)
    by None = refl
    by (Some e) = each e (present e)
walked_on T p (suc (suc n)) r f = by (read T f (index (suc (suc n)) p)) (λ e. walked_on T p (suc n) (granted r e) (address e))
  where
    each : (e : ℕ) (walk : Option Walked) (below : Option Mapping) → walk ≡ option_map (arrival_in p) below → (b h l : Bool)
        → cond b (cond h (cond l (arrives (page_start (suc (suc n)) e + p % span (suc (suc n))) (r.write && writable e) (r.user && user e)) None) walk) None
        ≡ option_map (arrival_in p) (cond b (cond (h && l) (Some (page_at p (suc (suc n)) r e)) (cond h None below)) None)
    each e walk below same true true true = arrives_in p (suc (suc n)) r e
    each e walk below same true true false = refl
    each e walk below same true false l = same
    each e walk below same false h l = refl

    by : (o : Option ℕ) → ((e : ℕ) → walk_on T p (suc n) (r.write && writable e) (r.user && user e) (address e) ≡ option_map (arrival_in p) (found_on T p (suc n) (granted r e) (address e)))
        → option_and_then (λ e. cond (present e) (cond (huge e) (cond (nat_le (suc (suc n)) 3) (arrives (page_start (suc (suc n)) e + p % span (suc (suc n))) (r.write && writable e) (r.user && user e)) None)
        (walk_on T p (suc n) (r.write && writable e) (r.user && user e) (address e))) None) o
        ≡ option_map (arrival_in p) (option_and_then (λ e. found_by p (suc (suc n)) r e (found_on T p (suc n) (granted r e) (address e))) o)
    by None on = refl
    by (Some e) on = each e _ _ (on e) (present e) (huge e) (nat_le (suc (suc n)) 3)
        ∙ ap (λ m. option_map (arrival_in p) (cond (present e) (cond m (Some (page_at p (suc (suc n)) r e)) (cond (huge e) None (found_on T p (suc n) (granted r e) (address e)))) None)) (sym (huge_page n e))

pub walk_finds : (L : ℕ) (T : Words) (root p : ℕ) → page_walk L T root p ≡ option_map (arrival_in p) (found L T root p)
unfolding page_walk found
walk_finds L T root p = walked_on T p L every_right root
