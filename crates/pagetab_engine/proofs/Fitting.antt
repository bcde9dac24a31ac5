-- The test of an image is true if and only if the hierarchy is valid and the free frames fit it.
use Rattle.std.proofs.Common.{◌≡◌, ◌+◌, ◌-◌, ◌≤◌, ◌==◌, ◌&&◌, ◌||◌, ℕ, suc, nat_le, Bool, true, false, not, List, ◌++◌, length, Option, Some, None, is_some, refl, sym, ap, ◌∙◌, subst, arith, true≢false, le-leb, leb-true, IsSome, ◌⊎◌}
use Rattle.std.proofs.lemmas.Bool.Decides.{Decides-and, Decides-or, Decides-eqb}
use Rattle.std.specs.Bool.{Decides}
use Rattle.std.specs.FinMap.{keys}
use Rattle.std.specs.List.{list_all}
use Rattle.x86_64_model.specs.Entry.{present, huge, address, used}
use Rattle.x86_64_model.specs.Validity.{paths_of, read_at}
use Rattle.x86_64_model.specs.Layout.{Layout}
use Rattle.x86_64_model.specs.Hierarchy.{◌laid_in◌, PoolFits}
use Rattle.x86_64_model.specs.Memory.{Memory, Words, IsMapping, OnlyFrames, identity_places, word, words_of}
use Rattle.x86_64_model.specs.Pool.{Fits, serves_below}
use Rattle.x86_64_model.specs.Window.{Window, SelfEntry, outside_window}
use Rattle.x86_64_model.specs.private.Tables.{NoneHuge, SoundTables, tables_from}
use Rattle.x86_64_model.proofs.Lemmas.CleanUps.Keys.{all_at, all_from, key_of_used}
use Rattle.x86_64_model.proofs.Lemmas.Entries.Bits.{unused_zero}
use Rattle.x86_64_model.proofs.Lemmas.Hierarchies.Changes.{zero_not_huge}
use Rattle.x86_64_model.proofs.Lemmas.Hierarchies.Exists.{entry_paths_of}
use Rattle.x86_64_model.proofs.Lemmas.Hierarchies.Memories.{identity_is_mapping, mappings_show_frames}
use Rattle.x86_64_model.proofs.Lemmas.Tables.Meant.{sound_is_fitting}
use Rattle.x86_64_tables.specs.SelfEntries.{window_at}
use Rattle.x86_64_addr.specs.declared.level_count.Levels.{Levels}
use Rattle.x86_64_addr.specs.declared.level_count.Levels.TheVariants.{Four, Five}
use Rattle.pagetab_engine.specs.Arguments.{count}
use Rattle.pagetab_engine.specs.Frames.{direct_layout, recursive_layout}
use Rattle.pagetab_engine.specs.Image.{Loaded, fits}
use Rattle.pagetab_engine.specs.Modes.{image_layout}
use Rattle.pagetab_engine.specs.declared.arguments.Mode.{Mode}
use Rattle.pagetab_engine.specs.declared.arguments.Mode.TheVariants.{Direct, Offset, Recursive, Pair}
use Rattle.pagetab_engine.specs.Fitting.{are_distinct, fits_in, is_sound, is_usable, names_root, none_huge}
use Rattle.pagetab_engine.proofs.Lists.{all_tell, each_once_tells}

not_tells : (b : Bool) → Decides (not b) (b ≡ false)
not_tells true = (λ e. absurd (true≢false (sym e)), λ e. absurd (true≢false e))
not_tells false = (λ _. refl, λ _. refl)

-- ---- huge entries

if_low : (low big : Bool) → (not low || not big) ≡ true → low ≡ true → big ≡ false
if_low true true e is = absurd (true≢false (sym e))
if_low true false e is = refl
if_low false big e is = absurd (true≢false (sym is))

module _ (n : ℕ) (T : Words) (root : ℕ) where
  abbrev word_at : List ℕ → ℕ
  word_at q = read_at (suc n) T root q

  abbrev test : List ℕ → Bool
  test q = not (nat_le (length q + 3) (suc n)) || not (huge (word_at q))

  none_huge_tells : Decides (none_huge n T root) (NoneHuge n T root)
  none_huge_tells = (λ e. record { at = λ q low. at e q low }, λ none. all_from test (keys (paths_of (suc n) T root)) (λ q _. from none q (nat_le (length q + 3) (suc n)) refl))
    where
      at : none_huge n T root ≡ true → (q : List ℕ) → length q + 3 ≤ suc n → huge (word_at q) ≡ false
      at e q low = by (used (word_at q)) refl
        where
          by : (b : Bool) → used (word_at q) ≡ b → huge (word_at q) ≡ false
          by true some =
              let here = key_of_used (paths_of (suc n) T root) q (ap used (entry_paths_of (suc n) T root q) ∙ some) in
              if_low _ _ (all_at test (keys (paths_of (suc n) T root)) q e here) (le-leb (length q + 3) (suc n) low)
          by false none = ap huge (unused_zero (word_at q) none) ∙ zero_not_huge

      from : NoneHuge n T root → (q : List ℕ) → (low : Bool) → nat_le (length q + 3) (suc n) ≡ low → (not low || not (huge (word_at q))) ≡ true
      from none q true is = (not_tells (huge (word_at q))).1 (none.at q (leb-true (length q + 3) (suc n) is))
      from none q false is = refl

-- ---- the tables and the free frames

module _ (n : ℕ) (T : Words) (root limit : ℕ) (free : List ℕ) where
  usable_tells : (f : ℕ) → Decides (is_usable T root limit f) (IsSome (T f) × ((f ≡ root) ⊎ (serves_below limit f ≡ true)))
  usable_tells f = Decides-and (is_some (T f)) ((f == root) || serves_below limit f) (λ e. e, λ e. e) (Decides-or (f == root) (serves_below limit f) (Decides-eqb f root) (λ e. e, λ e. e))

  abbrev frames : List ℕ
  frames = tables_from n T root ++ free

  sound_tells : Decides (is_sound n T root limit free) (SoundTables n T root (serves_below limit) free)
  sound_tells =
      let both = Decides-and (none_huge n T root) (are_distinct frames && list_all (is_usable T root limit) frames) (none_huge_tells n T root)
      (Decides-and (are_distinct frames) (list_all (is_usable T root limit) frames) (each_once_tells frames) (all_tell (is_usable T root limit) frames)) in (
        λ e. let h = both.0 e in record {
          none_huge = h.0;
          each_once = h.1.0;
          in_memory = λ f i. ((usable_tells f).0 (h.1.1 f i)).0;
          served = λ f i. ((usable_tells f).0 (h.1.1 f i)).1;
        },
        λ sound. both.1 (sound.none_huge, (sound.each_once, λ f i. (usable_tells f).1 (sound.in_memory f i, sound.served f i))),
      )

names_root_tells : (window : Option Window) (T : Words) (root : ℕ) → ((w : Window) → window ≡ Some w → w.self_entry ≡ word T root w.index) → Decides (names_root window root) (SelfEntry T root window)
names_root_tells None T root read = (λ _. tt, λ _. refl)
names_root_tells (Some w) T root read =
    let both = Decides-and (present w.self_entry) (not (huge w.self_entry) && (address w.self_entry == root)) (λ e. e, λ e. e)
    (Decides-and (not (huge w.self_entry)) (address w.self_entry == root) (not_tells (huge w.self_entry)) (Decides-eqb (address w.self_entry) root)) in (
      λ e. let h = both.0 e in record { is_word = read w refl; is_present = h.0; not_huge = h.1.0; names_root = h.1.1 },
      λ self. both.1 (self.is_present, (self.not_huge, self.names_root)),
    )

fits_at : (window : Option Window) (T : Words) (root : ℕ) → OnlyFrames T → ((w : Window) → window ≡ Some w → w.self_entry ≡ word T root w.index) → (n limit : ℕ) (free : List ℕ)
    → Decides (names_root window root && is_sound n (outside_window window root T) root limit free) (Fits (suc n) window T root (paths_of (suc n) (outside_window window root T) root) (serves_below limit) free)
fits_at window T root only read n limit free =
    let self = names_root_tells window T root read in
    let sound = sound_tells n (outside_window window root T) root limit free in
    let both = Decides-and (names_root window root) (is_sound n (outside_window window root T) root limit free) self sound in (
      λ e. let h = both.0 e in (sound_is_fitting n window T root limit free only h.0).0 h.1,
      λ fits. both.1 (fits.valid.self, (sound_is_fitting n window T root limit free only fits.valid.self).1 fits),
    )

-- so for the image of each mode
fits_of : (l : Layout) (n : ℕ) → l.levels ≡ suc n → l.places ≡ identity_places → (m : Memory) → ((w : Window) → l.window ≡ Some w → w.self_entry ≡ word (words_of m l.places) l.root w.index) → (limit : ℕ) (free : List ℕ)
    → Decides (fits_in l m limit free) (PoolFits (l laid_in m) (serves_below limit) free)
fits_of l n levels places m read limit free =
    let T : Words = words_of m l.places in let U : Words = outside_window l.window l.root T in
    let less : n ≡ suc n - 1 = omega arith in
    subst (λ L. Decides (names_root l.window l.root && is_sound (L - 1) U l.root limit free) (Fits L l.window T l.root (paths_of L U l.root) (serves_below limit) free)) (sym levels)
    (subst (λ k. Decides (names_root l.window l.root && is_sound k U l.root limit free) (Fits (suc n) l.window T l.root (paths_of (suc n) U l.root) (serves_below limit) free)) less
    (fits_at l.window T l.root (mappings_show_frames m l.places (subst IsMapping (sym places) identity_is_mapping)) read n limit free))

one_less : (levels : Levels) → count levels ≡ suc (count levels - 1)
one_less Four = refl
one_less Five = refl

pub fits_tell : (mode : Mode) (loaded : Loaded) → Decides (fits mode loaded) (PoolFits (image_layout mode loaded.memory laid_in loaded.memory) (serves_below loaded.limit) loaded.free)
fits_tell mode loaded = by mode
  where
    m : Memory
    m = loaded.memory

    recursively : (levels : Levels) (index : ℕ) → Decides (fits_in (recursive_layout (count levels) m index) m loaded.limit loaded.free) (PoolFits (recursive_layout (count levels) m index laid_in m) (serves_below loaded.limit) loaded.free)
    recursively levels index = fits_of (recursive_layout (count levels) m index) (count levels - 1) (one_less levels) refl m
        (λ w is. let e : window_at (words_of m identity_places) 0x1000 index ≡ w = cc in subst (λ (w : Window). w.self_entry ≡ word (words_of m identity_places) 0x1000 w.index) e refl) loaded.limit loaded.free

    directly : (levels : Levels) → Decides (fits_in (direct_layout (count levels)) m loaded.limit loaded.free) (PoolFits (direct_layout (count levels) laid_in m) (serves_below loaded.limit) loaded.free)
    directly levels = fits_of (direct_layout (count levels)) (count levels - 1) (one_less levels) refl m (λ w is. cc) loaded.limit loaded.free

    by : (mode : Mode) → Decides (fits_in (image_layout mode m) m loaded.limit loaded.free) (PoolFits (image_layout mode m laid_in m) (serves_below loaded.limit) loaded.free)
    by (Direct levels) = directly levels
    by (Offset offset) = directly Four
    by (Recursive levels index) = recursively levels index
    by (Pair levels index) = recursively levels index
