-- One level of the page walk, for code that has the level as a number.
use Rattle.std.proofs.Common.{inl, inr, ◌⊎◌, zero, suc, ⊎_elim, ◌≡◌, ◌<◌, ◌≤◌, ◌+◌, ◌-◌, ◌%◌, ◌^◌, ℕ, ◌&&◌, Bool, true, false, cond, Some, None, Option, option_and_then, nat_le, refl, sym, ap, ◌∙◌, arith}
use Rattle.std.proofs.lemmas.Bool.{cases_lt}
use Rattle.x86_64_model.specs.Entry.{present, writable, user, huge, address}
use Rattle.x86_64_model.specs.Memory.{Words}
use Rattle.x86_64_model.specs.Position.{index, span}
use Rattle.x86_64_model.specs.PageWalk.{page_start, Walked, arrives, read, walk_on}
use Rattle.x86_64_model.proofs.Lemmas.Entries.Words.{address_aligned, address_within}
use Rattle.x86_64_tables.specs.Walks.{ends}

-- where the walk arrives by a word of level one
abbrev pub said_last : (p : ℕ) → (w u : Bool) → ℕ → Option Walked
said_last p w u e = cond (present e) (arrives (address e + p % span 1) (w && writable e) (u && user e)) None

-- where the walk arrives by a present word above level one, by its bit 7
abbrev pub said_present : Words → (p level : ℕ) → (w u : Bool) → ℕ → Bool → Option Walked
said_present T p level w u e h = cond h
    (cond (nat_le level 3) (arrives (page_start level e + p % span level) (w && writable e) (u && user e)) None)
    (walk_on T p (level - 1) (w && writable e) (u && user e) (address e))

-- where the walk arrives by a word above level one
abbrev pub said : Words → (p level : ℕ) → (w u : Bool) → ℕ → Option Walked
said T p level w u e = cond (present e) (said_present T p level w u e (huge e)) None

walk_on_one : (T : Words) (p : ℕ) (w u : Bool) (f : ℕ) → walk_on T p 1 w u f ≡ option_and_then (said_last p w u) (read T f (index 1 p))
unfolding walk_on
walk_on_one T p w u f = refl

walk_on_more : (T : Words) (p level : ℕ) (w u : Bool) (f : ℕ) → 1 < level
    → walk_on T p level w u f ≡ option_and_then (said T p level w u) (read T f (index level p))
unfolding walk_on
walk_on_more T p zero w u f l = absurd (omega arith)
walk_on_more T p (suc zero) w u f l = absurd (omega arith)
walk_on_more T p (suc (suc n)) w u f l = let less : suc n ≡ suc (suc n) - 1 = omega arith in
    ap (λ k. option_and_then (λ e. cond (present e)
    (cond (huge e) (cond (nat_le (suc (suc n)) 3) (arrives (page_start (suc (suc n)) e + p % span (suc (suc n))) (w && writable e) (u && user e)) None)
    (walk_on T p k (w && writable e) (u && user e) (address e))) None) (read T f (index (suc (suc n)) p))) less

-- ---- by the word that is read

pub on_none : (T : Words) (p level : ℕ) (w u : Bool) (f : ℕ) → 1 ≤ level → None ≡ read T f (index level p) → None ≡ walk_on T p level w u f
unfolding walk_on
on_none T p zero w u f l e = absurd (omega arith)
on_none T p (suc zero) w u f l e = ap (option_and_then (said_last p w u)) e
on_none T p (suc (suc n)) w u f l e =
    ap (option_and_then (said T p (suc (suc n)) w u)) e ∙ sym (walk_on_more T p (suc (suc n)) w u f (omega arith))

page_start_one : (e : ℕ) → page_start 1 e ≡ address e
page_start_one e = omega (arith, address_aligned e)

module _ (T : Words) (p level : ℕ) (w u : Bool) (f e : ℕ) (is : Some e ≡ read T f (index level p)) where
  more_says : 1 < level → said T p level w u e ≡ walk_on T p level w u f
  more_says l = ap (option_and_then (said T p level w u)) is ∙ sym (walk_on_more T p level w u f l)

  one_says : level ≡ 1 → said_last p w u e ≡ walk_on T p level w u f
  one_says l = ap (option_and_then (said_last p w u)) (is ∙ ap (λ n. read T f (index n p)) l)
      ∙ sym (ap (λ n. walk_on T p n w u f) l ∙ walk_on_one T p w u f)

  pub on_absent : 1 ≤ level → present e ≡ false → None ≡ walk_on T p level w u f
  on_absent l h = ⊎_elim
      (λ more. sym (ap (λ b. cond b (said_present T p level w u e (huge e)) None) h) ∙ more_says more)
      (λ less. sym (ap (λ b. cond b (arrives (address e + p % span 1) (w && writable e) (u && user e)) None) h)
      ∙ one_says (omega (arith, l, less)))
      (cases_lt 1 level)

  pub on_last : level ≡ 1 → present e ≡ true → ends level p (w && writable e) (u && user e) e ≡ walk_on T p level w u f
  on_last l h = ap (λ n. ends n p (w && writable e) (u && user e) e) l ∙ ap (λ a. arrives (a + p % span 1) (w && writable e) (u && user e)) (page_start_one e)
      ∙ (sym (ap (λ b. cond b (arrives (address e + p % span 1) (w && writable e) (u && user e)) None) h) ∙ one_says l)

  module _ (l : 1 < level) (here : present e ≡ true) where
    to_entry : said_present T p level w u e (huge e) ≡ walk_on T p level w u f
    to_entry = sym (ap (λ b. cond b (said_present T p level w u e (huge e)) None) here) ∙ more_says l

    by_bit : (h : Bool) → huge e ≡ h → said_present T p level w u e h ≡ walk_on T p level w u f
    by_bit h g = sym (ap (said_present T p level w u e) g) ∙ to_entry

    pub on_huge : huge e ≡ true → ends level p (w && writable e) (u && user e) e ≡ walk_on T p level w u f
    on_huge g = by_bit true g

    pub on_table : huge e ≡ false
        → walk_on T p (level - 1) (w && writable e) (u && user e) (address e) ≡ walk_on T p level w u f
    on_table g = by_bit false g

  -- a word that ends the walk: one of level one, or a huge one
  pub on_end : 1 ≤ level → present e ≡ true → (level ≡ 1) ⊎ (huge e ≡ true) → ends level p (w && writable e) (u && user e) e ≡ walk_on T p level w u f
  on_end low here (inl last) = on_last last here
  on_end low here (inr large) = ⊎_elim (λ more. on_huge more here large) (λ less. on_last (omega (arith, low, less)) here) (cases_lt 1 level)

-- an address in a page lies below 2^52
pub arrives_within : (e p level : ℕ) → 1 ≤ level → level ≤ 3 → page_start level e + p % span level < 2 ^ 52
arrives_within e p zero low high = absurd (omega arith)
arrives_within e p (suc zero) low high = omega (arith, address_within e)
arrives_within e p (suc (suc zero)) low high = omega (arith, address_within e)
arrives_within e p (suc (suc (suc zero))) low high = omega (arith, address_within e)
arrives_within e p (suc (suc (suc (suc n)))) low high = absurd (omega arith)
