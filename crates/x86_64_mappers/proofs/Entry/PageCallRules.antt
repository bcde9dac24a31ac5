-- The calls on the entry of a page, whose rules depend on what the entry decides for a page of its level.
use Rattle.std.proofs.Common.{◌≡◌, ◌<◌, ◌≤◌, ◌+◌, ◌-◌, ◌%◌, ℕ, Bool, true, false, ◌==◌, ◌&&◌, ◌||◌, not, cond, List, [], ◌∷◌, ◌++◌, length, take, get_or, Option, None, Result, Ok, Err, bit_or, refl, sym, ap, ap₂, ◌∙◌, subst, arith, eq-eqb, eqb-true}
use Rattle.std.proofs.lemmas.Bool.{and_parts, not-true}
use Rattle.x86_64_model.specs.Allowed.{update_allowed}
use Rattle.x86_64_model.specs.Entry.{present, used, huge, address}
use Rattle.x86_64_model.specs.Layout.{Layout}
use Rattle.x86_64_model.specs.Hierarchy.{◌laid_in◌, page_translation, paths, read_entry, words}
use Rattle.x86_64_model.proofs.Lemmas.Entries.Bits.{used_present}
use Rattle.x86_64_model.proofs.Lemmas.Entries.Words.{address_aligned}
use Rattle.x86_64_model.proofs.Lemmas.Hierarchies.Changes.{unused_no_table}
use Rattle.x86_64_model.proofs.Lemmas.Machines.Changes.{IsChange, at_front, leaf_none}
use Rattle.x86_64_model.proofs.Lemmas.Maps.Leaves.{none_at_leaf}
use Rattle.x86_64_model.specs.private.MapperCalls.{after_unmap, after_update}
use Rattle.x86_64_model.specs.Memory.{Memory, word}
use Rattle.x86_64_model.specs.PageRules.{unmap, update_flags, translate_page, refused_or}
use Rattle.x86_64_model.specs.PathMap.{PathMap, entry, put, table_of}
use Rattle.x86_64_model.specs.Position.{span}
use Rattle.x86_64_model.specs.Refusal.{Refusal, PageNotMapped, ParentEntryHugePage, InvalidFrameAddress, Done, Refused, first_stop, refused_if, answer_unless, Answer}
use Rattle.x86_64_model.specs.Window.{Window, begins_with}
use Rattle.x86_64_mappers.specs.private.EntryCalls.{word_said}
use Rattle.x86_64_mappers.specs.private.LeafFrames.{leaf_by, leaf_frame, is_page_entry, named_by, named_frame}
use Rattle.x86_64_mappers.specs.private.Stops.{IsFound}
use Rattle.x86_64_mappers.specs.private.PageCalls.{unused_after, unmap_says, page_word, update_says}
use Rattle.x86_64_mappers.proofs.Entry.EntryRules.{after_entry}
use Rattle.x86_64_mappers.proofs.Entry.LeafEntries.{names_frame}
use Rattle.x86_64_mappers.proofs.Way.Pages.{small_page, path_parted}

-- the answer of a call
abbrev pub answer_of : Result ℕ Refusal → Answer
answer_of (Ok frame) = Done frame
answer_of (Err why) = Refused why

-- a page that may be unmapped is outside the window, and so is one whose flags may be updated
pub unmap_outside : (window : Option Window) (q : List ℕ) → not (begins_with window q) ≡ true → begins_with window q ≡ false
unmap_outside window q may = not-true _ may

pub update_outside : (window : Option Window) (q : List ℕ) (given : ℕ) → update_allowed window q given ≡ true → begins_with window q ≡ false
update_outside window q given may = not-true _ (and_parts _ _ may).1

module _ (l : Layout) (m : Memory) (level : ℕ) (q : List ℕ) (at_level : length q + level ≡ l.levels + 1) where
  abbrev M : PathMap
  M = paths (l laid_in m)

  abbrev e : ℕ
  e = read_entry (l laid_in m) q

  abbrev stop : Option Refusal
  stop = first_stop (read_entry (l laid_in m)) q

  small : (length q == l.levels) ≡ (level == 1)
  small = small_page l.levels level q at_level

  same_level : l.levels + 1 - length q ≡ level
  same_level = omega (arith, at_level)

  pub unmap_rule : after_unmap l m q ≡ refused_or M stop (after_entry M q (unmap_says level e))
  unfolding unmap
  unmap_rule =
      ap₂ (λ s k. refused_or M stop (refused_or M (refused_if (not (present e)) PageNotMapped (cond s (refused_if (huge e) ParentEntryHugePage None)
      (refused_if (not (huge e)) ParentEntryHugePage (refused_if (not (address e % span k == 0)) (InvalidFrameAddress (address e)) None)))) (record { paths = put M q 0; answer = Done (address e) }))) small same_level
      ∙ ap (refused_or M stop) (by (present e) (level == 1) (huge e) (address e % span level == 0) (address e))
    where
      by : (p s h a : Bool) (x : ℕ)
          → refused_or M (refused_if (not p) PageNotMapped (cond s (refused_if h ParentEntryHugePage None) (refused_if (not h) ParentEntryHugePage (refused_if (not a) (InvalidFrameAddress x) None)))) (record { paths = put M q 0; answer = Done x })
          ≡ after_entry M q (unused_after (leaf_by p s h a x))
      by false s h a x = refl
      by true true true a x = refl
      by true true false a x = refl
      by true false false a x = refl
      by true false true true x = refl
      by true false true false x = refl

  pub update_rule : (given : ℕ) → after_update l m q given ≡ refused_or M stop (after_entry M q (update_says level given e))
  unfolding update_flags
  update_rule given =
      ap (λ s. refused_or M stop (refused_or M (refused_if (not (used e)) PageNotMapped (cond s None (refused_if (not (huge e)) PageNotMapped None)))
      (record { paths = put M q (bit_or (address e) (cond s given (bit_or given 0x80))); answer = Done (address e) }))) small
      ∙ ap (refused_or M stop) (by (used e) (level == 1) (huge e) (page_word level (address e) given) (address e))
    where
      by : (u s h : Bool) (w x : ℕ)
          → refused_or M (refused_if (not u) PageNotMapped (cond s None (refused_if (not h) PageNotMapped None))) (record { paths = put M q w; answer = Done x })
          ≡ after_entry M q (cond (u && (s || h)) (Ok (w, x)) (Err PageNotMapped))
      by false s h w x = refl
      by true true h w x = refl
      by true false true w x = refl
      by true false false w x = refl

  aligned : (level == 1) ≡ true → (address e % span level == 0) ≡ true
  aligned one = let is = eqb-true level 1 one in eq-eqb (address e % span level) 0 (ap (λ k. address e % span k) is ∙ address_aligned e)

  pub translate_rule : page_translation (l laid_in m) q ≡ answer_unless stop (answer_of (named_frame level e))
  unfolding translate_page
  translate_rule =
      ap₂ (λ s k. answer_unless stop (answer_unless (refused_if (not (used e)) PageNotMapped (cond s None
      (refused_if (not (huge e)) (InvalidFrameAddress (address e)) (refused_if (not (address e % span k == 0)) (InvalidFrameAddress (address e)) None)))) (Done (address e)))) small same_level
      ∙ ap (answer_unless stop) (by (used e) (level == 1) (huge e) (address e % span level == 0) aligned (address e))
    where
      by : (u s h a : Bool) → (s ≡ true → a ≡ true) → (x : ℕ)
          → answer_unless (refused_if (not u) PageNotMapped (cond s None (refused_if (not h) (InvalidFrameAddress x) (refused_if (not a) (InvalidFrameAddress x) None)))) (Done x)
          ≡ answer_of (named_by u (u && (s || h)) a x)
      by false s h a k x = refl
      by true true h true k x = refl
      by true true h false k x = absurd (let t : false ≡ true = k refl in cc)
      by true false true true k x = refl
      by true false true false k x = refl
      by true false false a k x = refl

  module _ (n : ℕ) (long : length q ≡ n + 1) where
    parted : take n q ++ get_or q n 0 ∷ [] ≡ q
    parted = path_parted q n long

    -- a parent stops the translation
    pub translate_stopped : (why : Refusal) → IsFound l m (take n q) (Err why) → page_translation (l laid_in m) q ≡ Refused why
    translate_stopped why found = translate_rule ∙ ap (λ s. answer_unless s (answer_of (named_frame level e))) (ap (first_stop (read_entry (l laid_in m))) (sym parted) ∙ found (get_or q n 0))

    -- no parent stops it: the entry decides, which is the word in the table
    pub translate_told : (g : ℕ) → IsFound l m (take n q) (Ok g) → (r : Result ℕ Refusal) → r ≡ named_frame level (word (words (l laid_in m)) g (get_or q n 0)) → page_translation (l laid_in m) q ≡ answer_of r
    translate_told g found r is = translate_rule ∙ ap (λ s. answer_unless s (answer_of (named_frame level e))) (ap (first_stop (read_entry (l laid_in m))) (sym parted) ∙ found.1 (get_or q n 0))
        ∙ ap (λ e. answer_of (named_frame level e)) (ap (read_entry (l laid_in m)) (sym parted) ∙ found.0.entries (get_or q n 0)) ∙ ap answer_of (sym is)

  -- ---- what is written

  module _ (out : begins_with l.window q ≡ false) (high : level ≤ 3) (some : 0 < length q) where
    entry_is : entry M q ≡ e
    entry_is = sym (at_front l.window M q out some)

    -- the entry of a page becomes that of another page, or unused
    page_change : (w : ℕ) → used e ≡ true → ((level == 1) ≡ false → huge e ≡ true) → table_of l.levels q w ≡ None → IsChange l.levels l.window M q w
    page_change w is_used is_huge none = record {
      is_used = ap used entry_is ∙ is_used;
      outside = out;
      same_table = none ∙ sym (leaf_none l.levels q (entry M q) (λ t. ap huge entry_is ∙ is_huge (sym small ∙ t)));
      low = λ up. absurd (omega (arith, same_level));
    }

    pub unmap_change : (frame : ℕ) → Ok frame ≡ leaf_frame level e → IsChange l.levels l.window M q 0
    unmap_change frame is = let leaf = names_frame level e frame is in page_change 0 (used_present e leaf.is_present) leaf.is_huge (unused_no_table l.levels q)

    pub update_change : (given : ℕ) → is_page_entry level e ≡ true → IsChange l.levels l.window M q (page_word level (address e) given)
    update_change given maps = page_change (page_word level (address e) given) (by_used (used e) _ maps) (λ large. by_huge (used e) (level == 1) (huge e) large maps)
        (ap (λ s. table_of l.levels q (bit_or (address e) (cond s given (bit_or given 0x80)))) (sym small) ∙ none_at_leaf l.levels q (address e) given)
      where
        by_used : (u x : Bool) → (u && x) ≡ true → u ≡ true
        by_used true x t = refl
        by_used false x t = t

        by_huge : (u s h : Bool) → s ≡ false → (u && (s || h)) ≡ true → h ≡ true
        by_huge true true h f t = absurd (let f = f in cc)
        by_huge true false h f t = t
        by_huge false s h f t = absurd (let t = t in cc)

    -- this for the word that the entry decides
    pub unmap_changes : (w frame : ℕ) → unmap_says level e ≡ Ok (w, frame) → IsChange l.levels l.window M q w
    unmap_changes w frame = by (leaf_frame level e) refl
      where
        by : (r : Result ℕ Refusal) → leaf_frame level e ≡ r → unused_after r ≡ Ok (w, frame) → IsChange l.levels l.window M q w
        by (Ok f) is said = let z : 0 ≡ w = ap (word_said w) said in subst (IsChange l.levels l.window M q) z (unmap_change f (sym is))
        by (Err why) is said = absurd (let t = said in cc)

    pub update_changes : (given w frame : ℕ) → update_says level given e ≡ Ok (w, frame) → IsChange l.levels l.window M q w
    update_changes given w frame = by (is_page_entry level e) refl
      where
        says : Bool → Result (ℕ × ℕ) Refusal
        says maps = cond maps (Ok (page_word level (address e) given, address e)) (Err PageNotMapped)

        by : (b : Bool) → is_page_entry level e ≡ b → says b ≡ Ok (w, frame) → IsChange l.levels l.window M q w
        by true maps said = subst (IsChange l.levels l.window M q) (ap (word_said w) said) (update_change given maps)
        by false maps said = absurd (let t = said in cc)
