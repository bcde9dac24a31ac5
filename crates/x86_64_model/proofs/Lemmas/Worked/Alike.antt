-- The worked example of path maps that are alike.
use Rattle.std.proofs.Common.{◌≡◌, ◌⊎◌, inl, inr, ◌<◌, [], ◌∷◌, refl, sym, ◌∙◌, lit<, arith}
use Rattle.std.proofs.lemmas.Bool.{eqb-false}
use Rattle.x86_64_model.specs.Entry.{has, used}
use Rattle.x86_64_model.specs.PathMap.{entry}
use Rattle.x86_64_model.specs.Alike.{Alike, AlikeTables}
use Rattle.x86_64_model.specs.Laws.Worked.{plain_tables, writable_tables, AlikeButForTables}
use Rattle.x86_64_model.proofs.Lemmas.Paths.Puts.{entry-put_same}
use Rattle.x86_64_model.proofs.Lemmas.Pairs.AlikeEntries.{alike_put}

root_tables : AlikeTables 0x2001 0x2003
unfolding has used
root_tables = record { one_names = refl; other_names = refl; same_else = refl }

next_tables : AlikeTables 0x3001 0x3003
unfolding has used
next_tables = record { one_names = refl; other_names = refl; same_else = refl }

last_tables : AlikeTables 0x4001 0x4003
unfolding has used
last_tables = record { one_names = refl; other_names = refl; same_else = refl }

alike : Alike 4 (plain_tables 0x5001) (writable_tables 0x5001)
unfolding plain_tables writable_tables
alike = alike_put 4 _ _ (alike_put 4 _ _ (alike_put 4 _ _ (alike_put 4 _ _ (λ q. inl refl)
    (0 ∷ []) 0x2001 0x2003 (inr (lit< tt, root_tables))) (0 ∷ 0 ∷ []) 0x3001 0x3003 (inr (lit< tt, next_tables)))
    (0 ∷ 0 ∷ 0 ∷ []) 0x4001 0x4003 (inr (lit< tt, last_tables))) (0 ∷ 0 ∷ 0 ∷ 1 ∷ []) 0x5001 0x5001 (inl refl)

-- the page's own entry is of level one, where alike is equal
not_alike : Alike 4 (plain_tables 0x5003) (writable_tables 0x5001) → ⊥
unfolding plain_tables writable_tables
not_alike h = by (h (0 ∷ 0 ∷ 0 ∷ 1 ∷ []))
  where
    by : (entry (plain_tables 0x5003) (0 ∷ 0 ∷ 0 ∷ 1 ∷ []) ≡ entry (writable_tables 0x5001) (0 ∷ 0 ∷ 0 ∷ 1 ∷ []))
        ⊎ ((4 < 4) × AlikeTables (entry (plain_tables 0x5003) (0 ∷ 0 ∷ 0 ∷ 1 ∷ [])) (entry (writable_tables 0x5001) (0 ∷ 0 ∷ 0 ∷ 1 ∷ []))) → ⊥
    by (inl e) = eqb-false 0x5003 0x5001 refl (sym (entry-put_same _ (0 ∷ 0 ∷ 0 ∷ 1 ∷ []) 0x5003) ∙ e ∙ entry-put_same _ (0 ∷ 0 ∷ 0 ∷ 1 ∷ []) 0x5001)
    by (inr t) = let l = t.0 in omega arith

pub alike_but_for_tables : AlikeButForTables
alike_but_for_tables = record { alike = alike; not_alike = not_alike }
