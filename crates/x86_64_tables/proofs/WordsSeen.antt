-- What a test of a hierarchy reads.
use Rattle.std.proofs.Common.{◌≡◌, ◌≢◌, ◌<◌, ◌==◌, ℕ, Bool, true, false, cond, List, get_or, Some, None, Option, option_map, refl, sym, ap, ap₂, ◌∙◌, ⊎_elim, lt-ltb, eqb-true, eq-eqb, ◌&&◌}
use Rattle.std.proofs.lemmas.Bool.{cases_eq}
use Rattle.std.specs.Prelude.{unwrap_or}
use Rattle.x86_64_model.specs.Entry.{has, used, address, names_table}
use Rattle.x86_64_model.specs.Memory.{Words, word, word_in, set_word}
use Rattle.x86_64_model.specs.PageWalk.{read}
use Rattle.x86_64_model.specs.private.Tables.{without_word}
use Rattle.x86_64_model.proofs.Lemmas.Hierarchies.Held.{word-set_frame, word-set_index}
use Rattle.x86_64_model.proofs.Lemmas.Hierarchies.Unset.{word_unset}
use Rattle.x86_64_tables.specs.Views.{below_word}
use Rattle.x86_64_tables.specs.SelfEntries.{names_frame}

-- a word that is read
pub word-read : (T : Words) (f i : ℕ) → i < 512 → unwrap_or (read T f i) 0 ≡ word T f i
unfolding word
word-read T f i small = by (T f) ∙ sym (ap (λ b. cond b (word_in (T f) i) 0) (lt-ltb i 512 small))
  where
    by : (o : Option (List ℕ)) → unwrap_or (option_map (λ words. get_or words i 0) o) 0 ≡ word_in o i
    by None = refl
    by (Some words) = refl

-- the words, with one of them read as 0
pub word-without_same : (r root : ℕ) (T : Words) (f i : ℕ) → f ≡ root → i ≡ r → 0 ≡ word (without_word (Some r) root T) f i
word-without_same r root T f i e d = sym (ap₂ (λ f i. word (set_word T root r 0) f i) e d ∙ word_unset T root r)

pub word-without_none : (recursive : Option ℕ) (root : ℕ) (T : Words) (f i : ℕ)
    → ((r : ℕ) → recursive ≡ Some r → f ≡ root → i ≢ r) → word T f i ≡ word (without_word recursive root T) f i
word-without_none None root T f i apart = refl
word-without_none (Some r) root T f i apart = ⊎_elim
    (λ e. sym (word-set_index T root r 0 f i (apart r refl e)))
    (λ n. sym (word-set_frame T root r 0 f i n))
    (cases_eq f root)

-- ---- what a word names

pub zero_names_none : None ≡ below_word 0
unfolding used
zero_names_none = refl

pub is_named : (w f : ℕ) → Some f ≡ below_word w → names_table w ≡ true
is_named w f = by (names_table w)
  where
    by : (b : Bool) → Some f ≡ cond b (Some (address w)) None → b ≡ true
    by true h = refl
    by false h = absurd (let t : Some f ≡ None = h in cc)

pub named_at : (w f : ℕ) → Some f ≡ below_word w → f ≡ address w
named_at w f = by (names_table w)
  where
    by : (b : Bool) → Some f ≡ cond b (Some (address w)) None → f ≡ address w
    by true h = let t : Some f ≡ Some (address w) = h in cc
    by false h = absurd (let t : Some f ≡ None = h in cc)

pub is_not_named : (w : ℕ) → None ≡ below_word w → names_table w ≡ false
is_not_named w = by (names_table w)
  where
    by : (b : Bool) → None ≡ cond b (Some (address w)) None → b ≡ false
    by true h = absurd (let t : None ≡ Some (address w) = h in cc)
    by false h = refl

-- the word 0 names no frame, since it isn't present
pub zero_names_no_frame : (f : ℕ) → false ≡ names_frame 0 f
unfolding has
zero_names_no_frame f = refl

-- ---- tests of equality

pub are_equal : (f g : ℕ) (b : Bool) → b ≡ ((f == g) && true) → b ≡ true → f ≡ g
are_equal f g b is h = eqb-true f g (by (f == g) (sym is ∙ h))
  where
    by : (b : Bool) → (b && true) ≡ true → b ≡ true
    by true h = refl
    by false h = h

pub not_equal : (f g : ℕ) (b : Bool) → b ≡ ((f == g) && true) → b ≡ false → f ≢ g
not_equal f g b is h e = let t : true ≡ false = sym (ap (λ b. b && true) (eq-eqb f g e)) ∙ sym is ∙ h in cc
