-- Found mappings, level by level, as a loop goes down the tables.
use Rattle.std.proofs.Common.{zero, suc, ◌≡◌, ◌≤◌, ◌-◌, ℕ, ◌&&◌, ◌||◌, Bool, true, false, cond, nat_le, Option, Some, None, option_and_then, refl, sym, ap, ◌∙◌, arith, ne_eqb}
use Rattle.std.proofs.lemmas.Bool.{and_parts, leb-true, lt-leb}
use Rattle.x86_64_model.specs.Entry.{present, huge, address}
use Rattle.x86_64_model.specs.Memory.{Words}
use Rattle.x86_64_model.specs.PageWalk.{read}
use Rattle.x86_64_model.specs.Position.{index}
use Rattle.x86_64_model.specs.Mappings.{Rights, Mapping, maps_page, every_right, granted}
use Rattle.x86_64_model.specs.private.Found.{page_at, found_on, found, LeadsTo}

-- above level one a page is mapped by a huge word at levels two and three
pub huge_page : (n e : ℕ) → maps_page (suc (suc n)) e ≡ (huge e && nat_le (suc (suc n)) 3)
huge_page zero e = refl
huge_page (suc zero) e = refl
huge_page (suc (suc n)) e =
    let level = suc (suc (suc (suc n))) in
    (λ i. ne_eqb level 1 (λ e. omega (arith, e)) i || (huge e && (ne_eqb level 2 (λ e. omega (arith, e)) i || ne_eqb level 3 (λ e. omega (arith, e)) i)))
    ∙ ap (λ b. huge e && b) (sym (lt-leb level 3 (omega arith)))

-- the mapping of a position by a word, if below is the mapping found from the table that it names
abbrev pub found_by : (p level : ℕ) → Rights → (e : ℕ) → (below : Option Mapping) → Option Mapping
found_by p level r e below = cond (present e) (cond (maps_page level e) (Some (page_at p level r e)) (cond (huge e) None below)) None

pub found_read : (T : Words) (p n : ℕ) (r : Rights) (f e : ℕ) → read T f (index (suc n) p) ≡ Some e
    → found_on T p (suc n) r f ≡ found_by p (suc n) r e (found_on T p n (granted r e) (address e))
unfolding found_on
found_read T p n r f e is = ap (option_and_then (λ e. found_by p (suc n) r e (found_on T p n (granted r e) (address e)))) is

pub found_unread : (T : Words) (p n : ℕ) (r : Rights) (f : ℕ) → read T f (index (suc n) p) ≡ None → found_on T p (suc n) r f ≡ None
unfolding found_on
found_unread T p n r f is = ap (option_and_then (λ e. found_by p (suc n) r e (found_on T p n (granted r e) (address e)))) is

pub neither : (b : Bool) → (let none : Option Mapping = None in cond b none none ≡ None)
neither true = refl
neither false = refl

-- ---- the way down

pub leads_first : (L : ℕ) (T : Words) (root p : ℕ) → LeadsTo L T root p L every_right root
unfolding found
leads_first L T root p = record { on = λ x from to. refl }

-- ---- what is found is the page of a level

pub page_level : (n e : ℕ) → maps_page (suc n) e ≡ true → suc n ≤ 3
page_level zero e h = omega arith
page_level (suc n) e h = leb-true (suc (suc n)) 3 (and_parts (huge e) (nat_le (suc (suc n)) 3) (sym (huge_page n e) ∙ h)).1
