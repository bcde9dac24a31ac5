-- What has to be flushed after an exchange is told by both words.
use Rattle.std.proofs.Common.{◌≤◌, nat_lt, cond, List, [], ◌∷◌, length, Option, Some, None, option_map, ◌≡◌, ◌↔◌, ◌==◌, ◌&&◌, ◌||◌, ℕ, Bool, true, false, not, refl, sym, ap, ◌∙◌, true≢false, arith, ⊎_elim}
use Rattle.std.specs.Option.{is_some}
use Rattle.std.proofs.lemmas.Bool.{cases_Bool}
use Rattle.x86_64_model.specs.Entry.{used, present, huge, user, address}
use Rattle.x86_64_model.specs.Flushing.{LosesNothing, Due, PageDue, loses_between, due_between, below_due, if_window}
use Rattle.x86_64_model.specs.Path.{level_of}
use Rattle.x86_64_model.specs.Window.{Window}
use Rattle.x86_64_model.proofs.Lemmas.Entries.Bits.{used_present}
use Rattle.x86_64_model.proofs.Lemmas.Caches.Exchanged.{words_tell_losses}
use Rattle.x86_64.proofs.FlushesTold.{is_some_index}
use Rattle.x86_64.specs.FlushesDue.{flush_for}
use Rattle.x86_64.specs.declared.flushing.Flush.{Flush}
use Rattle.x86_64.specs.declared.flushing.Flush.TheVariants.{Nothing, Page, Everything}

no_user : (a b : Bool) → (a ≡ true → b ≡ true) → (a && not b) ≡ false
no_user true b h = ap not (h refl)
no_user false b h = refl

user_stays : (a b : Bool) → (a && not b) ≡ false → a ≡ true → b ≡ true
user_stays true true h u = refl
user_stays true false h u = absurd (true≢false h)
user_stays false b h u = absurd (true≢false (sym u))

-- a present entry loses something, or becomes a user's, as the model says
pub lost_between : (e f : ℕ) (lost comes : Bool) → present e ≡ true
    → (lost ≡ false → used e ≡ true → LosesNothing e f) → (lost ≡ true → (used e ≡ true) × (LosesNothing e f → ⊥))
    → comes ≡ (user f && not (user e)) → (lost || comes) ≡ loses_between e f
lost_between e f lost comes here nothing something is = ⊎_elim
    (λ y. by_yes lost comes y nothing is ∙ sym y)
    (λ n. by_no lost comes (tells.0 n) something is ∙ sym n)
    (cases_Bool (loses_between e f))
  where
    tells : (loses_between e f ≡ false) ↔ (LosesNothing e f × (user f ≡ true → user e ≡ true))
    tells = words_tell_losses e f here

    by_yes : (lost comes : Bool) → loses_between e f ≡ true → (lost ≡ false → used e ≡ true → LosesNothing e f) → comes ≡ (user f && not (user e)) → (lost || comes) ≡ true
    by_yes true comes y nothing is = refl
    by_yes false true y nothing is = refl
    by_yes false false y nothing is =
        absurd (true≢false (sym y ∙ tells.1 (nothing refl (used_present e here), user_stays (user f) (user e) (sym is))))

    by_no : (lost comes : Bool) → LosesNothing e f × (user f ≡ true → user e ≡ true) → (lost ≡ true → (used e ≡ true) × (LosesNothing e f → ⊥)) → comes ≡ (user f && not (user e)) → (lost || comes) ≡ false
    by_no true comes kept something is = absurd ((something refl).1 kept.0)
    by_no false comes kept something is = is ∙ no_user _ _ kept.1

-- the flush for what is due of a page, or below a table
due_by : (q : List ℕ) (frame : ℕ) (h t : Bool) (window : Option Window)
    → flush_for (cond (not h && t) (below_due window q) (PageDue q frame ∷ cond (not t) [] (if_window window))) ≡ cond (t && (not h || is_some window)) Everything Page
due_by q frame true true None = refl
due_by q frame true true (Some w) = refl
due_by q frame true false window = refl
due_by q frame false true None = refl
due_by q frame false true (Some w) = refl
due_by q frame false false window = refl

-- what is due of a present entry that loses something, and the flush for it
abbrev due_lost : (L : ℕ) → Option Window → (path : List ℕ) → (entry : ℕ) → List Due
due_lost L window q e = cond (used e && not (huge e) && nat_lt (length q) L) (below_due window q) (PageDue q (address e) ∷ cond (length q == L) [] (if_window window))

abbrev flush_lost : Option Window → (level entry : ℕ) → Flush
flush_lost window level e = cond (nat_lt 1 level && (not (huge e) || is_some window)) Everything Page

lost_is : (L : ℕ) (window : Option Window) (q : List ℕ) (level e : ℕ) → length q ≤ L → level_of L q ≡ level → used e ≡ true → flush_for (due_lost L window q e) ≡ flush_lost window level e
lost_is L window q level e short at is =
    let small : (length q == L) ≡ not (nat_lt (length q) L) = grind (arith, short) in
    let above : nat_lt (length q) L ≡ nat_lt 1 level = grind (arith, short, at) in
    rw (is, small, above) (due_by q (address e) (huge e) (nat_lt 1 level) window)

-- the flush after an exchange, by whether the old word is present, and whether it loses something
pub flush_told : (L : ℕ) (window : Option Window) (q : List ℕ) (level e f : ℕ) → length q ≤ L → level_of L q ≡ level
    → (lost : Bool) → (present e ≡ true → lost ≡ loses_between e f)
    → flush_for (due_between L window q e f) ≡ cond (present e && lost) (cond (nat_lt 1 level && (not (huge e) || is_some window)) Everything Page) Nothing
flush_told L window q level e f short at lost same = ⊎_elim
    (λ here. ap (λ b. flush_for (cond b (due_lost L window q e) [])) (ap (λ p. p && loses_between e f) here ∙ sym (same here)) ∙ by lost here
    ∙ ap (λ p. cond (p && lost) (flush_lost window level e) Nothing) (sym here))
    (λ gone. ap (λ p. flush_for (cond (p && loses_between e f) (due_lost L window q e) [])) gone ∙ ap (λ p. cond (p && lost) (flush_lost window level e) Nothing) (sym gone))
    (cases_Bool (present e))
  where
    by : (lost : Bool) → present e ≡ true → flush_for (cond lost (due_lost L window q e) []) ≡ cond lost (flush_lost window level e) Nothing
    by true here = lost_is L window q level e short at (used_present e here)
    by false here = refl

-- the same by what a function learns
pub flush_is : (L : ℕ) (window : Option Window) (q : List ℕ) (level e f : ℕ) → length q ≤ L → level_of L q ≡ level
    → (index : Option ℕ) → option_map (λ (w : Window). w.index) window ≡ index → (lost : Bool) → (present e ≡ true → lost ≡ loses_between e f)
    → (p h s : Bool) → p ≡ present e → h ≡ huge e → s ≡ is_some index
    → flush_for (due_between L window q e f) ≡ cond (p && lost) (cond (nat_lt 1 level && (not h || s)) Everything Page) Nothing
flush_is L window q level e f short at index with_index lost same p h s p_is h_is s_is =
    rw (p_is, h_is, s_is ∙ is_some_index window index with_index) (flush_told L window q level e f short at lost same)

pub nothing_due : (p lost : Bool) (flush : Flush) → (not p || not lost) ≡ true → cond (p && lost) flush Nothing ≡ Nothing
nothing_due true true flush h = absurd (true≢false (sym h))
nothing_due true false flush h = refl
nothing_due false lost flush h = refl

pub something_due : (p lost : Bool) (flush : Flush) → (not p || not lost) ≡ false → cond (p && lost) flush Nothing ≡ flush
something_due true true flush h = refl
something_due true false flush h = absurd (true≢false h)
something_due false lost flush h = absurd (true≢false h)
