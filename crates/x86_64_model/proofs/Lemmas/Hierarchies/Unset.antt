-- What there was before a word was set, and the word that was set to 0.
use Rattle.std.proofs.Common.{◌≡◌, ℕ, zero, suc, ◌==◌, Bool, true, false, cond, List, [], ◌∷◌, get_or, set, Some, None, Option, IsSome, option_map, nat_lt, refl, ap, ◌∙◌, eq-eqb}
use Rattle.x86_64_model.specs.Memory.{Words, word, word_in, set_word}

pub is_some-unset : (T : Words) (f i w g : ℕ) → IsSome (set_word T f i w g) → IsSome (T g)
unfolding set_word
is_some-unset T f i w g h = by (g == f) (T g) h
  where
    by : (b : Bool) (o : Option (List ℕ)) → IsSome (cond b (option_map (λ words. set words i w) o) o) → IsSome o
    by true None h = h
    by true (Some words) h = refl
    by false o h = h

pub get_set_zero : (words : List ℕ) (i : ℕ) → get_or (set words i 0) i 0 ≡ 0
get_set_zero [] i = refl
get_set_zero (x ∷ words) zero = refl
get_set_zero (x ∷ words) (suc i) = get_set_zero words i

pub word_unset : (T : Words) (f i : ℕ) → word (set_word T f i 0) f i ≡ 0
unfolding word set_word
word_unset T f i = by (nat_lt i 512) (T f) (eq-eqb f f refl)
  where
    by : (b : Bool) (o : Option (List ℕ)) {c : Bool} → c ≡ true → cond b (word_in (cond c (option_map (λ words. set words i 0) o) o) i) 0 ≡ 0
    by false o e = refl
    by true None e = ap (λ c. word_in (cond c (option_map (λ words. set words i 0) None) None) i) e
    by true (Some words) e = ap (λ c. word_in (cond c (option_map (λ words. set words i 0) (Some words)) (Some words)) i) e ∙ get_set_zero words i
