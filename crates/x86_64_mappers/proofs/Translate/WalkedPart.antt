-- The walk down to the entry that maps an address, one level at a time.
use Rattle.std.proofs.Common.{zero, suc, ◌≡◌, ◌<◌, ◌≤◌, ◌+◌, ◌-◌, ◌%◌, ℕ, ◌&&◌, Bool, true, false, not, cond, List, [], ◌∷◌, ◌++◌, length, take, get_or, nat_le, IsSome, Ok, Err, refl, sym, ap, ap₂, ◌∙◌, subst, add-one, arith}
use Rattle.std.proofs.Math.Seq.{take-suc}
use Rattle.std.proofs.lemmas.Bool.{le-leb, leb-false, leb-true}
use Rattle.x86_64_model.specs.Entry.{used, present, huge, address, flags, names_table}
use Rattle.x86_64_model.specs.Layout.{Layout}
use Rattle.x86_64_model.specs.Hierarchy.{◌laid_in◌, Valid, paths, read_entry, words}
use Rattle.x86_64_model.proofs.Lemmas.Entries.Words.{address_aligned}
use Rattle.x86_64_model.proofs.Lemmas.Walks.Agrees.{reads}
use Rattle.x86_64_model.proofs.Lemmas.Walks.Walked.{Reads, one_more, names}
use Rattle.x86_64_model.specs.Memory.{Memory, Words, word}
use Rattle.x86_64_model.specs.PageWalk.{page_start}
use Rattle.x86_64_model.specs.Position.{index, span, page_path}
use Rattle.x86_64_model.specs.Refusal.{PageNotMapped, ParentEntryHugePage}
use Rattle.x86_64_model.specs.Translation.{Translated, NotMapped, Mapped, translate_on, translate}
use Rattle.x86_64_tables.specs.PageTableEntry.{frame_of}
use Rattle.x86_64_tables.specs.declared.page_table.entry.FrameError.TheVariants.{FrameNotPresent, HugeFrame}
use Rattle.x86_64_mappers.specs.Reached.{IsReached}
use Rattle.x86_64_mappers.specs.private.Stops.{table_below}
use Rattle.x86_64_mappers.proofs.Way.Finds.{NamesTable}
use Rattle.x86_64_mappers.proofs.Way.ReachedSteps.{here_first, reached_next}

-- the translation by an entry of level two or above, if rest is the translation by the entries below it
abbrev says : (p level e : ℕ) → (rest : Translated) → Translated
says p level e rest = cond (present e) (cond (nat_le level 3 && huge e) (Mapped (span level) (page_start level e) (p % span level) (flags e)) rest) NotMapped

one_level : (E : List ℕ → ℕ) (p level : ℕ) (q : List ℕ) → 1 < level
    → translate_on E p level q ≡ says p level (E (q ++ index level p ∷ [])) (translate_on E p (level - 1) (q ++ index level p ∷ []))
unfolding translate_on
one_level E p zero q l = absurd (omega arith)
one_level E p (suc zero) q l = absurd (omega arith)
one_level E p (suc (suc n)) q l =
    ap (λ k. says p (suc (suc n)) (E (q ++ index (suc (suc n)) p ∷ [])) (translate_on E p k (q ++ index (suc (suc n)) p ∷ []))) (let e : suc n ≡ suc (suc n) - 1 = omega arith in e)

-- The entries so far led to the table of a level in a frame, and what is left to read decides the translation.
pub record IsWalked (L : ℕ) (T : Words) (root : ℕ) (E : List ℕ → ℕ) (p level frame : ℕ) : Type 0 where
  pub reads : Reads L T root E
  pub path : List ℕ
  pub here : length path + level ≡ L
  pub entries : (i : ℕ) → E (path ++ i ∷ []) ≡ word T frame i
  pub there : IsSome (T frame)
  pub left : translate_on E p level path ≡ translate L E p

pub starts : (L : ℕ) (T : Words) (root : ℕ) (E : List ℕ → ℕ) (p : ℕ) → Reads L T root E → IsWalked L T root E p L root
unfolding translate
starts L T root E p reads = record { reads = reads; path = []; here = omega arith; entries = reads.first; there = reads.root_there; left = refl }

-- ---- what the frame of an entry says about its flags

pub absent : (e : ℕ) → Err FrameNotPresent ≡ frame_of e → present e ≡ false
absent e is = by (present e) (huge e) is
  where
    by : (h g : Bool) → Err FrameNotPresent ≡ cond (not h) (Err FrameNotPresent) (cond g (Err HugeFrame) (Ok (address e))) → h ≡ false
    by false g is = refl
    by true true is = absurd (let e = is in cc)
    by true false is = absurd (let e = is in cc)

pub large : (e : ℕ) → Err HugeFrame ≡ frame_of e → (present e ≡ true) × (huge e ≡ true)
large e is = by (present e) (huge e) is
  where
    by : (h g : Bool) → Err HugeFrame ≡ cond (not h) (Err FrameNotPresent) (cond g (Err HugeFrame) (Ok (address e))) → (h ≡ true) × (g ≡ true)
    by false g is = absurd (let e = is in cc)
    by true true is = (refl, refl)
    by true false is = absurd (let e = is in cc)

pub next_table : (e table : ℕ) → Ok table ≡ frame_of e → NamesTable e table
next_table e table is = by (present e) (huge e) refl refl is
  where
    by : (h g : Bool) → present e ≡ h → huge e ≡ g → Ok table ≡ cond (not h) (Err FrameNotPresent) (cond g (Err HugeFrame) (Ok (address e))) → NamesTable e table
    by false g eh eg is = absurd (let e = is in cc)
    by true true eh eg is = absurd (let e = is in cc)
    by true false eh eg is = record { is_present = eh; not_huge = eg; address = (let e : table ≡ address e = cc in e) }

-- it is the table below, for the walk down the parents of a page
below : (e table : ℕ) → NamesTable e table → Ok table ≡ table_below e
below e table n = sym ((λ i. cond (not (n.is_present i)) (Err PageNotMapped) (cond (n.not_huge i) (Err ParentEntryHugePage) (Ok (address e)))) ∙ ap Ok (sym n.address))

-- ---- one level

module _ (L : ℕ) (T : Words) (root : ℕ) (E : List ℕ → ℕ) (p level frame : ℕ) (so : IsWalked L T root E p level frame) where
  abbrev w : ℕ
  w = word T frame (index level p)

  pub last : level ≡ 1 → translate L E p ≡ cond (used (word T frame (index 1 p))) (Mapped (span 1) (address (word T frame (index 1 p))) (p % span 1) (flags (word T frame (index 1 p)))) NotMapped
  unfolding translate_on
  last e = sym so.left ∙ ap (λ n. translate_on E p n so.path) e
      ∙ ap (λ e. cond (used e) (Mapped (span 1) (address e) (p % span 1) (flags e)) NotMapped) (so.entries (index 1 p))

  module _ (more : 1 < level) where
    abbrev next_path : List ℕ
    next_path = so.path ++ index level p ∷ []

    told : translate L E p ≡ says p level w (translate_on E p (level - 1) next_path)
    told = sym so.left ∙ one_level E p level so.path more ∙ ap (λ e. says p level e (translate_on E p (level - 1) next_path)) (so.entries (index level p))

    pub ends_absent : present w ≡ false → translate L E p ≡ NotMapped
    ends_absent h = told ∙ ap (λ h. cond h (cond (nat_le level 3 && huge w) (Mapped (span level) (page_start level w) (p % span level) (flags w)) (translate_on E p (level - 1) next_path)) NotMapped) h

    -- no entry above level three is huge
    pub low_enough : huge w ≡ true → level ≤ 3
    low_enough g = by (nat_le level 3) refl
      where
        by : (b : Bool) → nat_le level 3 ≡ b → level ≤ 3
        by true e = leb-true level 3 e
        by false e = absurd (let none = so.reads.none_huge next_path (omega (arith, leb-false level 3 e, one_more so.path (index level p), so.here)) in let same = so.entries (index level p) in let t : false ≡ true = sym none ∙ ap huge same ∙ g in cc)

    pub ends_large : present w ≡ true → huge w ≡ true → translate L E p ≡ Mapped (span level) (page_start level w) (p % span level) (flags w)
    ends_large h g = told ∙ λ x. cond (h x) (cond (le-leb level 3 (low_enough g) x && g x) (Mapped (span level) (page_start level w) (p % span level) (flags w)) (translate_on E p (level - 1) next_path)) NotMapped

    pub goes_on : present w ≡ true → huge w ≡ false → IsWalked L T root E p (level - 1) (address w)
    goes_on h g = record {
      reads = so.reads;
      path = next_path;
      here = omega (arith, one_more so.path (index level p), so.here, more);
      entries = λ i. so.reads.next next_path i named shorter ∙ ap (λ f. word T f i) (ap address (so.entries (index level p)));
      there = (let t = so.reads.there next_path named shorter in rw (so.entries (index level p)) at t);
      left = sym (told ∙ on (nat_le level 3));
    }
      where
        named : names_table (E next_path) ≡ true
        named = names (E next_path) (ap present (so.entries (index level p)) ∙ h) (ap huge (so.entries (index level p)) ∙ g)

        shorter : length next_path < L
        shorter = omega (arith, one_more so.path (index level p), so.here, more)

        rest : Translated
        rest = translate_on E p (level - 1) next_path

        either : (b : Bool) → cond (b && false) (Mapped (span level) (page_start level w) (p % span level) (flags w)) rest ≡ rest
        either true = refl
        either false = refl

        on : (b : Bool) → cond (present w) (cond (b && huge w) (Mapped (span level) (page_start level w) (p % span level) (flags w)) rest) NotMapped ≡ rest
        on b = ap₂ (λ h g. cond h (cond (b && g) (Mapped (span level) (page_start level w) (p % span level) (flags w)) rest) NotMapped) h g ∙ either b

-- ---- this by the frame of an entry

module _ {L : ℕ} {T : Words} {root : ℕ} {E : List ℕ → ℕ} {p level frame : ℕ} (so : IsWalked L T root E p level frame) (e : ℕ) where
  module _ (more : 1 < level) (is : e ≡ word T frame (index level p)) where
    pub found_absent : Err FrameNotPresent ≡ frame_of e → translate L E p ≡ NotMapped
    found_absent none = ends_absent L T root E p level frame so more (ap present (sym is) ∙ absent e none)

    pub found_low : Err HugeFrame ≡ frame_of e → level ≤ 3
    found_low page = low_enough L T root E p level frame so more (ap huge (sym is) ∙ (large e page).1)

    pub found_large : Err HugeFrame ≡ frame_of e → translate L E p ≡ Mapped (span level) (page_start level e) (p % span level) (flags e)
    found_large page =
        ends_large L T root E p level frame so more (ap present (sym is) ∙ (large e page).0) (ap huge (sym is) ∙ (large e page).1)
        ∙ ap (λ e. Mapped (span level) (page_start level e) (p % span level) (flags e)) (sym is)

    pub found_table : (table : ℕ) → Ok table ≡ frame_of e → IsWalked L T root E p (level - 1) table
    found_table table names =
        let next = next_table e table names in
        let way = goes_on L T root E p level frame so more (ap present (sym is) ∙ next.is_present) (ap huge (sym is) ∙ next.not_huge) in
        rw (next.address, is) way

  module _ (low : level ≡ 1) (is : e ≡ word T frame (index 1 p)) where
    told_last : translate L E p ≡ cond (used e) (Mapped (span 1) (address e) (p % span 1) (flags e)) NotMapped
    told_last = last L T root E p level frame so low ∙ ap (λ e. cond (used e) (Mapped (span 1) (address e) (p % span 1) (flags e)) NotMapped) (sym is)

    pub found_unused : used e ≡ false → translate L E p ≡ NotMapped
    found_unused none = told_last ∙ ap (λ u. cond u (Mapped (span 1) (address e) (p % span 1) (flags e)) NotMapped) none

    pub found_small : used e ≡ true → translate L E p ≡ Mapped (span 1) (page_start 1 e) (p % span 1) (flags e)
    found_small some =
        told_last ∙ ap (λ u. cond u (Mapped (span 1) (address e) (p % span 1) (flags e)) NotMapped) some
        ∙ ap (λ start. Mapped (span 1) start (p % span 1) (flags e)) (let e : address e ≡ page_start 1 e = omega (arith, address_aligned e) in e)

-- ---- the walk down by the indices of an address

-- the first k indices are done
pub record IsSoughtAt (l : Layout) (m : Memory) (indices : List ℕ) (p k frame : ℕ) : Type 0 where
  pub way : IsWalked l.levels (words (l laid_in m)) l.root (read_entry (l laid_in m)) p (l.levels - k) frame
  pub reached : IsReached l m (take k indices) frame

pub sought_first : (l : Layout) (m : Memory) (indices : List ℕ) (p : ℕ) → Valid (l laid_in m) → IsSoughtAt l m indices p 0 l.root
sought_first l m indices p valid = let reads = reads l.levels (words (l laid_in m)) l.root (paths (l laid_in m)) l.window valid in record {
  way = subst (λ n. IsWalked l.levels (words (l laid_in m)) l.root (read_entry (l laid_in m)) p n l.root) (let e : l.levels ≡ l.levels - 0 = omega arith in e) (starts l.levels (words (l laid_in m)) l.root (read_entry (l laid_in m)) p reads);
  reached = (here_first l m indices valid).reached;
}

-- the index at position k of a path is that of a level
pub index_at : (L p k : ℕ) → k < L → get_or (page_path L p) k 0 ≡ index (L - k) p
unfolding page_path
index_at zero p k within = absurd (omega arith)
index_at (suc n) p zero within = ap (λ level. index level p) (let e : suc n ≡ suc n - 0 = omega arith in e)
index_at (suc n) p (suc k) within = index_at n p k (omega arith) ∙ ap (λ level. index level p) (let e : n - k ≡ suc n - suc k = omega arith in e)

module _ (l : Layout) (m : Memory) (indices : List ℕ) (p : ℕ) (long : length indices ≡ l.levels) (is : indices ≡ page_path l.levels p) (k : ℕ) (within : k < l.levels) where
  inside : k < length indices
  inside = subst (λ n. k < n) (sym long) within

  pub sought_next : (frame : ℕ) → IsSoughtAt l m indices p k frame → k + 1 < l.levels → (i : ℕ) → i ≡ index (l.levels - k) p → i < 512
      → (e : ℕ) → e ≡ word (words (l laid_in m)) frame i → (table : ℕ) → Ok table ≡ frame_of e → IsSoughtAt l m indices p (k + 1) table
  sought_next frame here more i read small e value table names =
      let level : l.levels - (k + 1) ≡ l.levels - k - 1 = omega (arith, more) in
      let item : i ≡ get_or indices k 0 = read ∙ sym (ap (λ q. get_or q k 0) is ∙ index_at l.levels p k within) in
      let way = found_table here.way e (omega (arith, more)) (value ∙ ap (word (words (l laid_in m)) frame) read) table names in record {
        way = subst (λ n. IsWalked l.levels (words (l laid_in m)) l.root (read_entry (l laid_in m)) p n table) (sym level) way;
        reached = subst (λ t. IsReached l m t table) (sym (ap (λ j. take j indices) (add-one k) ∙ take-suc indices k 0 inside ∙ ap (λ j. take k indices ++ j ∷ []) (sym item)))
            (reached_next l m (take k indices) frame i table here.reached small (below e table (next_table e table names) ∙ ap table_below value) way.there);
      }
