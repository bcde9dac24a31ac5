-- Marks and exchanges of single words, one after another.
use Rattle.std.proofs.Common.{◌≡◌, inl, inr, ⊎_elim, ◌<◌, ◌≤◌, ℕ, ◌&&◌, not, Bool, true, false, List, [], ◌∷◌, length, map, refl, sym, ap, ap₂, ◌∙◌, subst, arith}
use Rattle.std.proofs.lemmas.Bool.{cases_Bool, cases_eq, cases_lt}
use Rattle.x86_64_model.specs.Entry.{huge}
use Rattle.x86_64_model.specs.Laws.EntriesInPlace.{OneChanged, with_word}
use Rattle.x86_64_model.specs.Laws.Live.{IsLiveAfter, LiveTablesFit, MarksMayReplace}
use Rattle.x86_64_model.specs.Layout.{Layout}
use Rattle.x86_64_model.specs.Live.{Happening, Marks, Exchanges, Placed, changed_path, next_word, after_happening, after_happenings, learned, with_learned, words_learned, after_placed, after_all_placed, AllMayTakePlace}
use Rattle.x86_64_model.specs.Hierarchy.{◌laid_in◌, PoolFits, paths, words}
use Rattle.x86_64_model.specs.Memory.{Memory, IsMapping, word}
use Rattle.x86_64_model.specs.Path.{level_of}
use Rattle.x86_64_model.specs.PathMap.{PathMap, entry}
use Rattle.x86_64_model.proofs.Lemmas.Entries.Bits.{has_or, address_or}
use Rattle.x86_64_model.proofs.Lemmas.Live.Changed.{one_changed, seen_there}

learned_first : (M : PathMap) (h : Happening) (hs : List Happening)
    → learned M (h ∷ hs) ≡ with_learned h (entry M (changed_path h)) (learned (after_happening M h) hs)
learned_first M (Marks q mark) hs = refl
learned_first M (Exchanges q next) hs = refl

module _ (l : Layout) (mapping : IsMapping l.places) (some : 0 < l.levels) (serves : ℕ → Bool)
    (pool : List ℕ) where
  -- what one leaves, and all after it
  module _ (m : Memory) (x : Placed) (xs : List Placed) where
    abbrev hs : List Happening
    hs = map (λ (y : Placed). y.what) xs

    abbrev end : Memory
    end = after_all_placed l (after_placed l m x) xs

    abbrev q : List ℕ
    q = changed_path x.what

    abbrev M : PathMap
    M = paths (l laid_in m)

    then_live : (word (words (l laid_in m)) x.frame x.index ≡ entry M q)
        → OneChanged l serves pool m q (next_word x.what (entry M q)) (after_placed l m x)
        → IsLiveAfter l serves pool (after_placed l m x) hs end
        × (words_learned l (after_placed l m x) xs
        ≡ learned (paths (l laid_in (after_placed l m x))) hs)
        → IsLiveAfter l serves pool m (x.what ∷ hs) end
        × (words_learned l m (x ∷ xs) ≡ learned M (x.what ∷ hs))
    then_live seen one rest = (
      record {
        entries = rest.0.entries ∙ ap (λ N. after_happenings N hs) one.changed;
        tables = λ r. rest.0.tables r ∙ one.tables r;
        keeps = record {
          fits = rest.0.keeps.fits;
          conserved = λ f. (
            λ own. (rest.0.keeps.conserved f).0 ((one.keeps.conserved f).0 own),
            λ own.
                (one.keeps.conserved f).1 ((rest.0.keeps.conserved f).1 own),
          );
          others = λ k none. rest.0.keeps.others k (λ f own. none f ((one.keeps.conserved f).1 own))
              ∙ one.keeps.others k none;
        };
      },
      ap₂ (with_learned x.what) seen (rest.1 ∙ ap (λ N. learned N hs) one.changed)
          ∙ sym (learned_first M x.what hs),
    )

  live : (placed : List Placed) (m : Memory) → PoolFits (l laid_in m) serves pool → AllMayTakePlace l m placed
      → IsLiveAfter l serves pool m (map (λ (x : Placed). x.what) placed) (after_all_placed l m placed)
      × (words_learned l m placed ≡ learned (paths (l laid_in m)) (map (λ (x : Placed). x.what) placed))
  live [] m fits may = (
    record {
      entries = refl;
      tables = λ q. refl;
      keeps = record {
        fits = fits;
        conserved = λ f.
            (λ own. own, λ own. own);
        others = λ k none. refl;
      };
    },
    refl,
  )
  live (x ∷ xs) m fits may =
      let q = changed_path x.what in let M = paths (l laid_in m) in
      let seen = seen_there l mapping some serves m pool fits q x.frame x.index
      (next_word x.what (entry M q)) may.0.0 may.0.1 in
      let one : OneChanged l serves pool m q (next_word x.what (entry M q)) (after_placed l m x) =
      subst (λ e. OneChanged l serves pool m q (next_word x.what (entry M q))
      (with_word l m x.frame x.index (next_word x.what e))) (sym seen)
      (one_changed l mapping some serves m pool fits q x.frame x.index
      (next_word x.what (entry M q)) may.0.0 may.0.1) in
      then_live m x xs seen one (live xs (after_placed l m x) one.keeps.fits may.1)

pub live_tables_fit : LiveTablesFit
live_tables_fit l mapping some serves m pool fits placed may = live l mapping some serves pool placed m fits may

pub marks_may_replace : MarksMayReplace
marks_may_replace l serves m pool fits q mark plain is_used long = ⊎_elim
    (λ last. inl (inl last, inl last))
    (λ n. ⊎_elim
    (λ h. let low : level_of l.levels q ≤ 3 = not_high h in inl
    (inr (inr (low, h)), inr (inr (low, has_or e mark 0x80 plain.not_huge ∙ h))))
    (λ h. inr (record {
      is_table = ap₂ (λ u g. u && not g) is_used h;
      above = omega (arith, n, long);
      same_address = address_or e mark plain.no_address;
      not_huge = has_or e mark 0x80 plain.not_huge ∙ h;
    }))
    (cases_Bool (huge e)))
    (cases_eq (length q) l.levels)
  where
    e : ℕ
    e = entry (paths (l laid_in m)) q

    not_high : huge e ≡ true → level_of l.levels q ≤ 3
    not_high h = ⊎_elim (λ up. absurd (let t : true ≡ false = sym h
        ∙ fits.valid.valid.none_huge q up in cc)) (λ low. low) (cases_lt 3 (level_of l.levels q))
