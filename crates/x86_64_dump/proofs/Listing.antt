-- Steps of the loops that list the tables by level.
use Rattle.std.proofs.Common.{◌≡◌, ℕ, zero, suc, ◌+◌, ◌-◌, ◌<◌, ◌≤◌, List, [], ◌∷◌, ◌++◌, length, take, get_or, reverse, flat_map, filter_map, Option, refl, sym, ap, ap₂, ◌∙◌, arith, append_assoc}
use Rattle.std.specs.Prelude.{Vec}
use Rattle.std.specs.List.{cons_option, fold}
use Rattle.std.proofs.lemmas.Grind.{reverse_onto}
use Rattle.std.proofs.lemmas.List.{map-append, take_more}
use Rattle.std.proofs.lemmas.List.Elements.{filter_map-append}
use Rattle.std.proofs.lemmas.List.Sums.{fold-append}
use Rattle.x86_64_model.specs.Memory.{Words}
use Rattle.x86_64_dump.specs.Loaded.{frames_of}
use Rattle.x86_64_dump.specs.Tables.{table_named, tables_named, met, each_once, tables_of_levels, if_there, tables_by_level}

-- one more word of a frame
pub named_more : (W : Words) (before now words : List ℕ) (i d : ℕ) → i < length words → now ≡ fold met before (filter_map (table_named W) (take i words))
    → (o : Option ℕ) → o ≡ table_named W (get_or words i d) → fold met now (cons_option o []) ≡ fold met before (filter_map (table_named W) (take (i + 1) words))
named_more W before now words i d within is o named =
    ap₂ (λ seen o. fold met seen (cons_option o [])) is named
    ∙ sym (fold-append met before (filter_map (table_named W) (take i words)) (filter_map (table_named W) (get_or words i d ∷ [])))
    ∙ ap (fold met before) (sym (filter_map-append (table_named W) (take i words) (get_or words i d ∷ [])))
    ∙ ap (λ ws. fold met before (filter_map (table_named W) ws)) (sym (take_more words i d within))

-- one more level
pub level_more : {A : Type 0} (W : Words) (frames more : List (Vec ℕ A)) (level below : Vec ℕ A) (listed : List ℕ) (n k : ℕ) (all : List (List ℕ)) → k < n → more ≡ frames ++ level ∷ []
    → frames_of frames ++ tables_of_levels (n + 1 - k) W level.items ≡ all → listed ≡ level.items → below.items ≡ each_once (flat_map (tables_named W) listed)
    → frames_of more ++ tables_of_levels (n + 1 - (k + 1)) W below.items ≡ all
level_more W frames more level below listed n k all left pushed so_far same next =
    let rest : n + 1 - k ≡ suc (n + 1 - (k + 1)) = omega arith in
    ap (λ fs. fs ++ tables_of_levels (n + 1 - (k + 1)) W below.items) (ap frames_of pushed ∙ map-append (λ frames. frames.items) frames (level ∷ []))
    ∙ append_assoc (frames_of frames) (level.items ∷ []) (tables_of_levels (n + 1 - (k + 1)) W below.items)
    ∙ ap (λ fs. frames_of frames ++ level.items ∷ tables_of_levels (n + 1 - (k + 1)) W fs) (next ∙ ap (λ fs. each_once (flat_map (tables_named W) fs)) same)
    ∙ ap (λ m. frames_of frames ++ tables_of_levels m W level.items) (sym rest)
    ∙ so_far

frames_of-reverse : {A : Type 0} (levels : List (Vec ℕ A)) → frames_of (reverse levels) ≡ reverse (frames_of levels)
frames_of-reverse [] = refl
frames_of-reverse (level ∷ levels) =
    ap frames_of (reverse_onto levels level [])
    ∙ map-append (λ frames. frames.items) (reverse levels) (level ∷ [])
    ∙ ap (λ fs. fs ++ level.items ∷ []) (frames_of-reverse levels)
    ∙ sym (reverse_onto (frames_of levels) level.items [])

-- the last level
pub all_levels : {A : Type 0} (W : Words) (frames more turned : List (Vec ℕ A)) (level : Vec ℕ A) (n k root : ℕ) → n ≤ k → k ≤ n → more ≡ frames ++ level ∷ [] → turned ≡ reverse more
    → frames_of frames ++ tables_of_levels (n + 1 - k) W level.items ≡ tables_of_levels n W (if_there W root) → frames_of turned ≡ tables_by_level n W root
unfolding tables_by_level
all_levels W frames more turned level n k root low high pushed is so_far =
    let one : n + 1 - k ≡ suc zero = omega arith in
    ap frames_of (is ∙ ap reverse pushed)
    ∙ frames_of-reverse (frames ++ level ∷ [])
    ∙ ap reverse (map-append (λ frames. frames.items) frames (level ∷ []) ∙ ap (λ m. frames_of frames ++ tables_of_levels m W level.items) (sym one) ∙ so_far)
