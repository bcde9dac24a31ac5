-- Entries that the page walk uses alike.
use Rattle.std.proofs.Common.{zero, suc, ◌≡◌, ◌+◌, ◌*◌, ◌/◌, ◌%◌, ℕ, ◌==◌, ◌&&◌, Bool, true, false, cond, List, [], ◌∷◌, ◌++◌, nat_le, Some, None, Option, refl, sym, ap₂, ◌∙◌}
use Rattle.x86_64_model.specs.Entry.{writable, user}
use Rattle.x86_64_model.specs.Laws.EntriesInPlace.{AreUsedAlike, WalksIgnoreBits}
use Rattle.x86_64_model.specs.Hierarchy.{◌laid_in◌, paths, words}
use Rattle.x86_64_model.specs.PageWalk.{arrives}
use Rattle.x86_64_model.specs.PathMap.{PathMap, entry}
use Rattle.x86_64_model.specs.Position.{index, span}
use Rattle.x86_64_model.specs.Window.{Window, windowed, entry_at}
use Rattle.x86_64_model.proofs.Lemmas.Walks.Agrees.{reads}
use Rattle.x86_64_model.proofs.Lemmas.Walks.Walked.{walked, page_walk_is}

used_alike : (e : ℕ) → AreUsedAlike e e
used_alike e = record { present = refl; writable = refl; user = refl; huge = refl; address = refl }

either_alike : (b : Bool) (e w f v : ℕ) → AreUsedAlike e w → AreUsedAlike f v
    → AreUsedAlike (cond b e f) (cond b w v)
either_alike true e w f v x y = x
either_alike false e w f v x y = y

module _ (E F : List ℕ → ℕ) (alike : (q : List ℕ) → AreUsedAlike (E q) (F q)) where
  pub walked_alike : (p level : ℕ) (q : List ℕ) (w u : Bool) → walked F p level q w u ≡ walked E p level q w u
  walked_alike p zero q w u = refl
  walked_alike p (suc zero) q w u = let a = alike (q ++ index 1 p ∷ []) in
      λ i. cond (a.present i) (arrives (a.address i + p % span 1) (w && a.writable i) (u && a.user i)) None
  walked_alike p (suc (suc n)) q w u =
      let level = suc (suc n) in let r = q ++ index (suc (suc n)) p ∷ [] in let a = alike r in
      let next = walked_alike p (suc n) r (w && writable (F r)) (u && user (F r))
      ∙ ap₂ (λ x y. walked E p (suc n) r (w && x) (u && y)) a.writable a.user in
      λ i. cond (a.present i) (cond (a.huge i)
      (cond (nat_le level 3) (arrives (a.address i / span level * span level + p % span level)
      (w && a.writable i) (u && a.user i)) None) (next i)) None

windowed_alike : (w : Window) (M N : PathMap) → ((q : List ℕ) → AreUsedAlike (entry M q) (entry N q))
    → (q : List ℕ) → AreUsedAlike (windowed w M q) (windowed w N q)
windowed_alike w M N alike [] = used_alike 0
windowed_alike w M N alike (i ∷ []) = either_alike (i == w.index) w.self_entry w.self_entry
    (entry M (i ∷ [])) (entry N (i ∷ [])) (used_alike w.self_entry) (alike (i ∷ []))
windowed_alike w M N alike (i ∷ j ∷ q) = either_alike (i == w.index) (windowed w M (j ∷ q))
    (windowed w N (j ∷ q)) (entry M (i ∷ j ∷ q)) (entry N (i ∷ j ∷ q)) (windowed_alike w M N alike (j ∷ q))
    (alike (i ∷ j ∷ q))

entries_alike : (window : Option Window) (M N : PathMap)
    → ((q : List ℕ) → AreUsedAlike (entry M q) (entry N q)) → (q : List ℕ)
    → AreUsedAlike (entry_at window M q) (entry_at window N q)
unfolding entry_at
entries_alike None M N alike q = alike q
entries_alike (Some w) M N alike q = windowed_alike w M N alike q

pub walks_ignore_bits : WalksIgnoreBits
walks_ignore_bits l m n serves pool pool' fits fits' alike p =
    let M = paths (l laid_in m) in let N = paths (l laid_in n) in
    page_walk_is l.levels (words (l laid_in n)) l.root (entry_at l.window N)
    (reads l.levels (words (l laid_in n)) l.root N l.window fits'.valid) p
    ∙ walked_alike (entry_at l.window M) (entry_at l.window N)
    (entries_alike l.window M N alike) p l.levels [] true true
    ∙ sym (page_walk_is l.levels (words (l laid_in m)) l.root (entry_at l.window M)
    (reads l.levels (words (l laid_in m)) l.root M l.window fits.valid) p)
