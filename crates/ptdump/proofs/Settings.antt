-- Settings that borrowed words name, and refusals of them.
use Rattle.std.proofs.Math.Bool.{or-true}
use Rattle.std.proofs.Common.{◌≡◌, ◌∙◌, ◌||◌, ℕ, List, [], ◌∷◌, Bool, true, false, not, cond, Option, None, Some, map, unwrap_or, ap, refl, subst}
use Rattle.std.specs.Borrow.{Bor}
use Rattle.std.specs.List.{find, list_any}
use Rattle.std.specs.Str.{bytes_eq}
use Rattle.std.proofs.lemmas.Slice.Eq.{bytes_eq-Decides}
use Rattle.ptdump.specs.Reasons.{IsBadSetting}
use Rattle.x86_64_access.specs.declared.controls.Controls.{Controls}
use Rattle.ptdump.specs.Asked.{AreControls, AreSettings, is_listed, setting_names}

pub listed_texts : (words : List (Bor (List ℕ))) (word : List ℕ) → list_any (λ other. bytes_eq other.now word) words ≡ is_listed (map (λ other. other.now) words) word
listed_texts [] word = refl
listed_texts (w ∷ words) word = ap (λ b. bytes_eq w.now word || b) (listed_texts words word)

pub known_texts : (words : List (Bor (List ℕ))) → find (λ word. not (is_listed setting_names word.now)) words ≡ None → AreSettings (map (λ word. word.now) words)
known_texts [] none = refl
known_texts (w ∷ words) none = by (not (is_listed setting_names w.now)) none (known_texts words)
  where
    by : (b : Bool) → cond b (Some w) (find (λ word. not (is_listed setting_names word.now)) words) ≡ None
        → (find (λ word. not (is_listed setting_names word.now)) words ≡ None → AreSettings (map (λ word. word.now) words))
        → cond b (Some w.now) (find (λ word. not (is_listed setting_names word)) (map (λ word. word.now) words)) ≡ None
    by true none rest = cc
    by false none rest = rest none

pub unknown_texts : (words : List (Bor (List ℕ))) (w : Bor (List ℕ)) → find (λ word. not (is_listed setting_names word.now)) words ≡ Some w
    → (c : Controls) → AreControls (map (λ word. word.now) words) c → ⊥
unknown_texts words w some c are = each words some are.known
  where
    each : (words : List (Bor (List ℕ))) → find (λ word. not (is_listed setting_names word.now)) words ≡ Some w → AreSettings (map (λ word. word.now) words) → ⊥
    each [] some none = cc
    each (v ∷ words) some none = by (not (is_listed setting_names v.now)) some none (each words)
      where
        by : (b : Bool) → cond b (Some v) (find (λ word. not (is_listed setting_names word.now)) words) ≡ Some w
            → cond b (Some v.now) (find (λ word. not (is_listed setting_names word)) (map (λ word. word.now) words)) ≡ None
            → (find (λ word. not (is_listed setting_names word.now)) words ≡ Some w → AreSettings (map (λ word. word.now) words) → ⊥) → ⊥
        by true some none rest = cc
        by false some none rest = rest some none

not_listed : (b : Bool) → not b ≡ true → b ≡ false
not_listed true is = cc
not_listed false is = refl

-- the first word that names no setting is one of the words
pub bad_setting : (words : List (Bor (List ℕ))) (w : Bor (List ℕ)) → find (λ word. not (is_listed setting_names word.now)) words ≡ Some w
    → IsBadSetting (map (λ word. word.now) words) w.now
bad_setting [] w some = cc
bad_setting (v ∷ words) w some = by (not (is_listed setting_names v.now)) refl some (bad_setting words w)
  where
    by : (b : Bool) → not (is_listed setting_names v.now) ≡ b → cond b (Some v) (find (λ word. not (is_listed setting_names word.now)) words) ≡ Some w
        → (find (λ word. not (is_listed setting_names word.now)) words ≡ Some w → IsBadSetting (map (λ word. word.now) words) w.now)
        → IsBadSetting (v.now ∷ map (λ word. word.now) words) w.now
    by true is some below =
        let same : v ≡ w = ap (λ (o : Option (Bor (List ℕ))). unwrap_or o v) some in
        subst (λ (u : Bor (List ℕ)). IsBadSetting (v.now ∷ map (λ word. word.now) words) u.now) same
        (ap (λ b. b || is_listed (map (λ word. word.now) words) v.now) ((bytes_eq-Decides v.now v.now).1 refl), not_listed (is_listed setting_names v.now) is)
    by false is some below =
        let rest = below some in
        (ap (λ b. bytes_eq v.now w.now || b) rest.0 ∙ or-true (bytes_eq v.now w.now), rest.1)
