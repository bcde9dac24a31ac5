-- A write to a table of the memory is a write to the words, and the window stands aside from it.
use Rattle.std.proofs.Common.{◌≡◌, ◌≢◌, ⊎_elim, ℕ, ◌==◌, Bool, true, false, cond, List, set, Some, None, Option, IsSome, option_map, refl, sym, ap, ap₂, ◌∙◌, eq-eqb, eqb-true, ne_eqb}
use Rattle.std.proofs.lemmas.Bool.{cases_eq}
use Rattle.std.proofs.lemmas.List.{set_comm}
use Rattle.std.specs.Ordering.{nat_cmp, eq_by_cmp}
use Rattle.std.specs.Cmp.{nat_cmp_total, unsigned_tied}
use Rattle.std.specs.FinMap.{get, insert, get-insert}
use Rattle.x86_64_model.specs.Entry.{is_frame}
use Rattle.x86_64_model.specs.Laws.Validity.{MappingsShowFrames}
use Rattle.x86_64_model.specs.Memory.{IsMapping, Words, Memory, Places, Distinct, identity_places, words_of, set_word}
use Rattle.x86_64_model.proofs.Lemmas.Entries.Bits.{same_frame}
use Rattle.x86_64_model.specs.Window.{Window, outside_window}

pub same_key : (k : ℕ) → eq_by_cmp nat_cmp k k ≡ true
same_key k = unsigned_tied k k ∙ eq-eqb k k refl

pub other_key : (a b : ℕ) → a ≢ b → eq_by_cmp nat_cmp a b ≡ false
other_key a b n = unsigned_tied a b ∙ ne_eqb a b n

-- a write to word i of the table at a covered frame's place
pub words_of-insert : (memory : Memory) (places : Places) (f i w : ℕ) (words : List ℕ) → Distinct places → places.covers f ≡ true → get memory (places.place f) ≡ Some words
    → words_of (insert memory (places.place f) (set words i w)) places ≡ set_word (words_of memory places) f i w
unfolding set_word
words_of-insert memory places f i w words apart covered is = λ n g. at g n
  where
    there : (g : ℕ) → g ≡ f → cond (places.covers g) (get (insert memory (places.place f) (set words i w)) (places.place g)) None ≡ option_map (λ words. set words i w) (cond (places.covers g) (get memory (places.place g)) None)
    there g e = ap₂ (λ c k. cond c (get (insert memory (places.place f) (set words i w)) k) None) (ap places.covers e ∙ covered) (ap places.place e)
        ∙ get-insert nat_cmp_total memory (places.place f) (set words i w) (places.place f) ∙ ap (λ b. cond b (Some (set words i w)) (get memory (places.place f))) (same_key (places.place f))
        ∙ sym (ap₂ (λ c k. option_map (λ words. set words i w) (cond c (get memory k) None)) (ap places.covers e ∙ covered) (ap places.place e) ∙ ap (option_map (λ words. set words i w)) is)

    elsewhere : (g : ℕ) → g ≢ f → cond (places.covers g) (get (insert memory (places.place f) (set words i w)) (places.place g)) None ≡ cond (places.covers g) (get memory (places.place g)) None
    elsewhere g n = elim (places.covers g) as (λ c. places.covers g ≡ c → cond c (get (insert memory (places.place f) (set words i w)) (places.place g)) None ≡ cond c (get memory (places.place g)) None) [
      | true ↦ λ c. get-insert nat_cmp_total memory (places.place f) (set words i w) (places.place g) ∙ ap (λ b. cond b (Some (set words i w)) (get memory (places.place g))) (other_key _ _ (λ e. n (apart g f c covered e)))
      | false ↦ λ c. refl
    ] refl

    at : (g : ℕ) → words_of (insert memory (places.place f) (set words i w)) places g ≡ cond (g == f) (option_map (λ words. set words i w) (words_of memory places g)) (words_of memory places g)
    at g = ⊎_elim
        (λ e. there g e ∙ sym (ap (λ b. cond b (option_map (λ words. set words i w) (words_of memory places g)) (words_of memory places g)) (eq-eqb g f e)))
        (λ n. elsewhere g n ∙ sym (ap (λ b. cond b (option_map (λ words. set words i w) (words_of memory places g)) (words_of memory places g)) (ne_eqb g f n)))
        (cases_eq g f)

-- two different words
pub set_word_comm : (T : Words) (f i v g j w : ℕ) → ((f ≡ g) → i ≢ j) → set_word (set_word T f i v) g j w ≡ set_word (set_word T g j w) f i v
unfolding set_word
set_word_comm T f i v g j w apart = λ n h. by (h == f) (h == g) (T h) (λ a b. apart (sym (eqb-true h f a) ∙ eqb-true h g b)) n
  where
    by : (a b : Bool) (o : Option (List ℕ)) → (a ≡ true → b ≡ true → i ≢ j)
        → cond b (option_map (λ words. set words j w) (cond a (option_map (λ words. set words i v) o) o)) (cond a (option_map (λ words. set words i v) o) o)
        ≡ cond a (option_map (λ words. set words i v) (cond b (option_map (λ words. set words j w) o) o)) (cond b (option_map (λ words. set words j w) o) o)
    by true true None n = refl
    by true true (Some words) n = ap Some (set_comm words i j v w (n refl refl))
    by true false o n = refl
    by false true o n = refl
    by false false o n = refl

-- a write beside the self-entry, for a recursive index
pub outside_set : (window : Option Window) (root : ℕ) (T : Words) (f i w : ℕ) → ((v : Window) → window ≡ Some v → f ≡ root → i ≢ v.index) → outside_window window root (set_word T f i w) ≡ set_word (outside_window window root T) f i w
outside_set None root T f i w apart = refl
outside_set (Some v) root T f i w apart = set_word_comm T f i w root v.index 0 (apart v refl)

-- a frame that has words is covered
pub covered : (memory : Memory) (places : Places) (f : ℕ) → IsSome (words_of memory places f) → places.covers f ≡ true
covered memory places f h = by (places.covers f) (get memory (places.place f)) h
  where
    by : (b : Bool) (o : Option (List ℕ)) → IsSome (cond b o None) → b ≡ true
    by true o h = refl
    by false o h = cc

pub identity_distinct : Distinct identity_places
identity_distinct f g a b e = same_frame f g a b e

pub identity_is_mapping : IsMapping identity_places
identity_is_mapping = record { frames = λ f h. h; distinct = identity_distinct }

pub mappings_show_frames : MappingsShowFrames
mappings_show_frames memory places mapping f = by (places.covers f) refl
  where
    by : (b : Bool) → places.covers f ≡ b → IsSome (cond b (get memory (places.place f)) None) → is_frame f ≡ true
    by true c h = mapping.frames f c
    by false c h = cc
