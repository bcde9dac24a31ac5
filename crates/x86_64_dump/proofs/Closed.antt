-- The tables by level are closed: each table that a word of one of them names is at the level below, or W lacks it.
use Rattle.std.proofs.Common.{◌≡◌, ◌⊎◌, inl, inr, ℕ, zero, suc, ◌==◌, ◌&&◌, ◌||◌, Bool, true, false, not, cond, List, [], ◌∷◌, ◌++◌, reverse, flat_map, filter_map, get_or, Option, Some, None, IsSome, is_some, option_map, refl, sym, ap, ◌∙◌, subst, eq-eqb, eqb-true}
use Rattle.std.specs.List.{cons_option, fold}
use Rattle.std.specs.Option.{unwrap_or}
use Rattle.std.proofs.lemmas.List.Sorted.{IsPermutation-reverse, list_any-IsPermutation}
use Rattle.x86_64_model.specs.Entry.{has, present, huge, address}
use Rattle.x86_64_model.specs.Lists.{In}
use Rattle.x86_64_model.specs.Memory.{Words}
use Rattle.x86_64_model.specs.PageWalk.{read}
use Rattle.x86_64_model.proofs.Lemmas.Lists.Members.{in_left, in_right, in_flat_map}
use Rattle.x86_64_dump.specs.Reached.{SameBelow}
use Rattle.x86_64_dump.specs.Tables.{table_named, tables_named, is_among, met, each_once, tables_of_levels, if_there, tables_by_level, is_in_levels, words_in_frames}

-- ---- membership as a test

pub in_among : (frames : List ℕ) (f : ℕ) → In frames f → is_among frames f ≡ true
in_among [] f h = absurd h
in_among (g ∷ frames) f (inl is) = ap (λ b. b || is_among frames f) (eq-eqb f g (sym is))
in_among (g ∷ frames) f (inr h) = elim (f == g) as (λ b. (b || is_among frames f) ≡ true) [ true ↦ refl | false ↦ in_among frames f h ]

among_in : (frames : List ℕ) (f : ℕ) → is_among frames f ≡ true → In frames f
among_in [] f h = let none : false ≡ true = h in cc
among_in (g ∷ frames) f h = elim (f == g) as (λ b. (f == g) ≡ b → (b || is_among frames f) ≡ true → In (g ∷ frames) f) [
  | true ↦ λ is _. inl (sym (eqb-true f g is))
  | false ↦ λ _ h. inr (among_in frames f h)
] refl h

-- ---- each once

met_has : (frames : List ℕ) (f : ℕ) → In (met frames f) f
met_has frames f = elim (is_among frames f) as (λ b. is_among frames f ≡ b → In (cond b frames (frames ++ f ∷ [])) f) [
  | true ↦ λ is. among_in frames f is
  | false ↦ λ _. in_right frames (f ∷ []) f (inl refl)
] refl

met_keeps : (frames : List ℕ) (f g : ℕ) → In frames g → In (met frames f) g
met_keeps frames f g h = elim (is_among frames f) as (λ b. In (cond b frames (frames ++ f ∷ [])) g) [ true ↦ h | false ↦ in_left frames (f ∷ []) g h ]

fold_keeps : (seen frames : List ℕ) (g : ℕ) → In seen g → In (fold met seen frames) g
fold_keeps seen [] g h = h
fold_keeps seen (f ∷ frames) g h = fold_keeps (met seen f) frames g (met_keeps seen f g h)

fold_has : (seen frames : List ℕ) (g : ℕ) → In frames g → In (fold met seen frames) g
fold_has seen [] g h = absurd h
fold_has seen (f ∷ frames) g (inl is) = fold_keeps (met seen f) frames g (subst (In (met seen f)) is (met_has seen f))
fold_has seen (f ∷ frames) g (inr h) = fold_has (met seen f) frames g h

-- ---- the tables that words name

-- if W has the table that a present word names, the table is among those that the words name
named_there : (W : Words) (words : List ℕ) (e : ℕ) → In words e → present e ≡ true → huge e ≡ false → IsSome (W (address e)) → In (filter_map (table_named W) words) (address e)
named_there W [] e h is small there = absurd h
named_there W (d ∷ words) e (inl same) is small there =
    let named : table_named W d ≡ Some (address e) = ap (table_named W) same ∙ (λ k. cond (is k && not (small k) && there k) (Some (address e)) None) in
    subst (λ o. In (cons_option o (filter_map (table_named W) words)) (address e)) (sym named) (inl refl)
named_there W (d ∷ words) e (inr h) is small there = skip (table_named W d) (named_there W words e h is small there)
  where
    skip : (o : Option ℕ) → In (filter_map (table_named W) words) (address e) → In (cons_option o (filter_map (table_named W) words)) (address e)
    skip None h = h
    skip (Some f) h = inr h

-- a word that is read and is present is one of the frame's words
read_in : (words : List ℕ) (i : ℕ) → present (get_or words i 0) ≡ true → In words (get_or words i 0)
unfolding has
read_in [] i is = let none : false ≡ true = is in cc
read_in (w ∷ words) zero is = inl refl
read_in (w ∷ words) (suc i) is = inr (read_in words i is)

word_of_frame : (W : Words) (f i e : ℕ) (o : Option (List ℕ)) → W f ≡ o → option_map (λ words. get_or words i 0) o ≡ Some e → present e ≡ true → In (unwrap_or (W f) []) e
word_of_frame W f i e None is read there = let none : None ≡ Some e = read in cc
word_of_frame W f i e (Some words) is read there =
    let same : get_or words i 0 ≡ e = cc in
    subst (λ ws. In ws e) (ap (λ o. unwrap_or o []) (sym is)) (subst (In words) same (read_in words i (ap present same ∙ there)))

-- ---- levels

-- the table that a word of a frame names is at the level below, or W lacks it
below_or_none : (W : Words) (frames : List ℕ) (f i e : ℕ) → In frames f → read W f i ≡ Some e → present e ≡ true → huge e ≡ false
    → In (each_once (flat_map (tables_named W) frames)) (address e) ⊎ (W (address e) ≡ None)
below_or_none W frames f i e h is there small = by (W (address e)) refl
  where
    by : (o : Option (List ℕ)) → W (address e) ≡ o → In (each_once (flat_map (tables_named W) frames)) (address e) ⊎ (W (address e) ≡ None)
    by None none = inr none
    by (Some words) some = inl (fold_has [] _ (address e) (in_flat_map (tables_named W) frames f (address e) h
        (named_there W (unwrap_or (W f) []) e (word_of_frame W f i e (W f) refl is there) there small (ap is_some some))))

-- words are equal below a frame of a level, and below a frame that W lacks, if they are equal in the frames of the levels
same_below : (n : ℕ) (T W : Words) (frames : List ℕ) → ((f : ℕ) → W f ≡ None → T f ≡ None) → ((f : ℕ) → is_in_levels (tables_of_levels n W frames) f ≡ true → T f ≡ W f)
    → (f : ℕ) → In frames f ⊎ (W f ≡ None) → SameBelow n T W f
same_below zero T W frames none same f h = tt
same_below (suc n) T W frames none same f (inl h) =
    let here : T f ≡ W f = same f (ap (λ b. b || is_in_levels (tables_of_levels n W (each_once (flat_map (tables_named W) frames))) f) (in_among frames f h)) in (
      here,
      λ i e is there small. same_below n T W (each_once (flat_map (tables_named W) frames)) none (λ g k. same g (later (is_among frames g) _ k)) (address e)
          (below_or_none W frames f i e h (ap (option_map (λ words. get_or words i 0)) (sym here) ∙ is) there small),
    )
  where
    later : (a b : Bool) → b ≡ true → (a || b) ≡ true
    later true b h = refl
    later false b h = h
same_below (suc n) T W frames none same f (inr lacks) =
    let empty : T f ≡ None = none f lacks in
    (empty ∙ sym lacks, λ i e is there small. absurd (let no : None ≡ Some e = sym (ap (option_map (λ words. get_or words i 0)) empty) ∙ is in cc))

-- ---- from a root

pub none_either : (b : Bool) → cond {A = Option (List ℕ)} b None None ≡ None
none_either true = refl
none_either false = refl

reversed : (levels : List (List ℕ)) (f : ℕ) → is_in_levels (reverse levels) f ≡ is_in_levels levels f
reversed levels f = sym (list_any-IsPermutation (λ frames. is_among frames f) levels (reverse levels) (IsPermutation-reverse levels))

-- the words of the tables by level are equal to those of W below the root
pub same_below_root : (L : ℕ) (W : Words) (root : ℕ) (T : Words) → T ≡ words_in_frames (tables_by_level L W root) W → SameBelow L T W root
unfolding tables_by_level
same_below_root L W root T is = same_below L T W (if_there W root) none same root (by (W root) refl)
  where
    none : (f : ℕ) → W f ≡ None → T f ≡ None
    none f lacks = (λ k. is k f) ∙ ap (λ o. cond (is_in_levels (reverse (tables_of_levels L W (if_there W root))) f) o None) lacks ∙ none_either (is_in_levels (reverse (tables_of_levels L W (if_there W root))) f)

    same : (f : ℕ) → is_in_levels (tables_of_levels L W (if_there W root)) f ≡ true → T f ≡ W f
    same f h = (λ k. is k f) ∙ ap (λ b. cond b (W f) None) (reversed (tables_of_levels L W (if_there W root)) f ∙ h)

    by : (o : Option (List ℕ)) → W root ≡ o → In (if_there W root) root ⊎ (W root ≡ None)
    by None lacks = inr lacks
    by (Some words) has = inl (subst (λ b. In (cond b (root ∷ []) []) root) (sym (ap is_some has)) (inl refl))
