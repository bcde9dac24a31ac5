-- The names of flags, one after the other.
use Rattle.std.proofs.Common.{◌≡◌, ◌∙◌, ◌++◌, ◌==◌, ◌<◌, ◌+◌, ℕ, bit_and, not, Bool, true, false, List, [], ◌∷◌, codes, length, take, get_or, map, ap, sym, refl, cond, append-nil, append_assoc}
use Rattle.std.proofs.lemmas.Bool.{eqb-true}
use Rattle.std.proofs.lemmas.Grind.{flat_map-append}
use Rattle.std.proofs.lemmas.List.{map_more}
use Rattle.std.proofs.lemmas.List.Elements.{filter-append}
use Rattle.std.specs.List.{flat_map, join_by}
use Rattle.ptdump_json.specs.Names.{Flag, set_text}
use Rattle.ptdump_json.specs.declared.names.Flag.{Flag as Listed}
use Rattle.ptdump_json.specs.private.Flags.{named_flag, separator_after, set_in}

-- one more name
join-push : (fs : List Flag) (f : Flag) → join_by (λ g. g.name) (codes ",") (fs ++ f ∷ []) ≡ join_by (λ g. g.name) (codes ",") fs ++ (separator_after fs ++ f.name)
join-push [] f = append-nil f.name
join-push (g ∷ fs) f =
    let rest : Flag → List ℕ = λ h. codes "," ++ h.name in
    ap (λ t. g.name ++ t) (flat_map-append rest fs (f ∷ []) ∙ ap (λ t. flat_map rest fs ++ t) (append-nil (rest f)))
    ∙ sym (append_assoc g.name (flat_map rest fs) (rest f))

separator-push : (fs : List Flag) (f : Flag) → separator_after (fs ++ f ∷ []) ≡ codes ","
separator-push [] f = refl
separator-push (g ∷ fs) f = refl

set-push : (w : ℕ) (fs : List Flag) (f : Flag) (b : Bool) → not (bit_and w f.bit == 0) ≡ b → set_in w (fs ++ f ∷ []) ≡ set_in w fs ++ cond b (f ∷ []) []
set-push w fs f b is = filter-append (λ g. not (bit_and w g.bit == 0)) fs (f ∷ []) ∙ ap (λ d. set_in w fs ++ cond d (f ∷ []) []) is

-- the flags before an index, and one more
module _ (w : ℕ) (fs : List Listed) (i : ℕ) (d : Listed) (below : i < length fs) where
  abbrev before : List Flag
  before = map named_flag (take i fs)

  abbrev next : Flag
  next = named_flag (get_or fs i d)

  pub text_set : not (bit_and w next.bit == 0) ≡ true → set_text w (map named_flag (take (i + 1) fs)) ≡ set_text w before ++ (separator_after (set_in w before) ++ next.name)
  text_set is = ap (set_text w) (map_more named_flag fs i d below) ∙ ap (join_by (λ g. g.name) (codes ",")) (set-push w before next true is) ∙ join-push (set_in w before) next

  pub separator_set : not (bit_and w next.bit == 0) ≡ true → separator_after (set_in w (map named_flag (take (i + 1) fs))) ≡ codes ","
  separator_set is = ap (λ gs. separator_after (set_in w gs)) (map_more named_flag fs i d below) ∙ ap separator_after (set-push w before next true is) ∙ separator-push (set_in w before) next

-- a number that isn't 0
pub is_set : (n : ℕ) → (n ≡ 0 → ⊥) → not (n == 0) ≡ true
is_set n differs = by (n == 0) refl
  where
    by : (b : Bool) → (n == 0) ≡ b → not b ≡ true
    by true is = absurd (differs (eqb-true n 0 is))
    by false is = refl
