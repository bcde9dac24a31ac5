-- A look down the entries of a page's parents tells what a map of the page answers.
use Rattle.std.proofs.Common.{◌≡◌, ◌≢◌, ◌<◌, ◌≤◌, ◌+◌, ◌-◌, ℕ, suc, ◌&&◌, ◌||◌, Bool, true, false, not, cond, List, [], ◌∷◌, ◌++◌, length, take, drop, get_or, map, filter, nat_lt, Some, None, refl, sym, ap, ap₂, ◌∙◌, subst, subst₂, arith, le-ltb, lt-ltb, zero-le, add-one, append_assoc}
use Rattle.std.proofs.lemmas.List.{length-map, length-append, length-take, map-id, drop_all, length-drop, get_or-take, take-append-drop, take_all}
use Rattle.std.proofs.Math.Seq.{take-suc, drop-cons}
use Rattle.std.specs.List.{list_any, AllByRecursion}
use Rattle.x86_64_mappers.proofs.Translate.WalkedPart.{index_at}
use Rattle.x86_64_model.specs.Entry.{used, huge, address}
use Rattle.x86_64_model.specs.Validity.{Holds, entry_in}
use Rattle.x86_64_mappers.specs.Layouts.{direct_at}
use Rattle.x86_64_live.specs.WouldAnswer.{IsEntryIn, WouldAnswer}
use Rattle.x86_64_model.specs.Hierarchy.{◌laid_in◌, Hierarchy, Valid, paths, path_of, words}
use Rattle.x86_64_model.specs.MapRule.{AfterMap, map_rule}
use Rattle.x86_64_model.specs.Memory.{Memory, Places, Words, word}
use Rattle.x86_64_model.specs.Path.{parents, path_at}
use Rattle.x86_64_model.specs.PathMap.{PathMap, entry, table_at}
use Rattle.x86_64_model.specs.Position.{index, page_path}
use Rattle.x86_64_model.specs.Refusal.{Answer, Done, Refused, ParentEntryHugePage, PageAlreadyMapped, FrameAllocationFailed}
use Rattle.x86_64_model.proofs.Lemmas.Hierarchies.Changes.{map_again, zero_not_used}
use Rattle.x86_64_model.proofs.Lemmas.Hierarchies.Trees.{IsTree, tree_of_holds, tree_descends, tree_below, table_at_is, unused_leads_nowhere}
use Rattle.x86_64_model.proofs.Lemmas.Lists.All.{any_none}
use Rattle.x86_64_model.proofs.Lemmas.Maps.Down.{Descends}
use Rattle.x86_64_model.proofs.Lemmas.Paths.Pages.{length_taken}
use Rattle.x86_64_model.proofs.Lemmas.Paths.Puts.{no_end}
use Rattle.x86_64_model.proofs.Lemmas.Walks.Agrees.{named}

-- ---- the answer by the entries alone

-- the answer, by whether a parent is huge, the number of missing parents, and whether the page's own entry is used
abbrev pub told : (free frame : ℕ) → (stops : Bool) → (missing : ℕ) → (full : Bool) → Answer
told free frame stops missing full = cond stops (Refused ParentEntryHugePage)
    (cond (nat_lt free missing) (Refused FrameAllocationFailed) (cond full (Refused (PageAlreadyMapped frame)) (Done frame)))

-- the answer of a map of the page at q with the parents ps
abbrev pub answer_by : (free frame : ℕ) → PathMap → (ps : List (List ℕ)) → (q : List ℕ) → Answer
answer_by free frame M ps q = told free frame (list_any (λ p. used (entry M p) && huge (entry M p)) ps)
    (length (filter (λ p. not (used (entry M p))) ps)) (used (entry M q))

answer_of : (stops short full : Bool) (a b c d : AfterMap) → (cond stops a (cond short b (cond full c d))).answer ≡ cond stops a.answer (cond short b.answer (cond full c.answer d.answer))
answer_of true short full a b c d = refl
answer_of false true full a b c d = refl
answer_of false false true a b c d = refl
answer_of false false false a b c d = refl

pub answers_by : (M : PathMap) (supply : List ℕ) (more added : ℕ) (ps : List (List ℕ)) (q : List ℕ) (e frame : ℕ)
    → (map_rule M supply more added ps q e frame).answer ≡ answer_by (length supply) frame M ps q
unfolding map_rule
answers_by M supply more added ps q e frame = answer_of (list_any (λ p. used (entry M p) && huge (entry M p)) ps) (nat_lt (length supply) (length (filter (λ p. not (used (entry M p))) ps))) (used (entry M q)) _ _ _ _

-- ---- one parent after another

count_parents : (i : ℕ) (q : List ℕ) → length (parents (i ∷ q)) ≡ length q
count_parents i [] = refl
count_parents i (j ∷ q) = ap suc (length-map (parents (j ∷ q)) (λ p. i ∷ p) ∙ count_parents j q)

all_missing : (M : PathMap) (ps : List (List ℕ)) → AllByRecursion (λ p. used (entry M p) ≡ false) ps → length (filter (λ p. not (used (entry M p))) ps) ≡ length ps
all_missing M [] none = refl
all_missing M (p ∷ ps) none = ap (λ u. length (cond (not u) (p ∷ filter (λ p. not (used (entry M p))) ps) (filter (λ p. not (used (entry M p))) ps))) none.0 ∙ ap suc (all_missing M ps none.1)

module _ (free frame : ℕ) (M : PathMap) (p : List ℕ) (ps : List (List ℕ)) (q : List ℕ) where
  abbrev rest_stops : Bool
  rest_stops = list_any (λ p. used (entry M p) && huge (entry M p)) ps

  abbrev rest_missing : List (List ℕ)
  rest_missing = filter (λ p. not (used (entry M p))) ps

  first : (u h : Bool) → used (entry M p) ≡ u → huge (entry M p) ≡ h
      → answer_by free frame M (p ∷ ps) q ≡ told free frame ((u && h) || rest_stops) (length (cond (not u) (p ∷ rest_missing) rest_missing)) (used (entry M q))
  first u h eu eh = λ i. told free frame ((eu i && eh i) || rest_stops) (length (cond (not (eu i)) (p ∷ rest_missing) rest_missing)) (used (entry M q))

  -- a used one that isn't huge leaves it to the others
  passed : used (entry M p) ≡ true → huge (entry M p) ≡ false → answer_by free frame M (p ∷ ps) q ≡ answer_by free frame M ps q
  passed u h = first true false u h

  stopped : used (entry M p) ≡ true → huge (entry M p) ≡ true → answer_by free frame M (p ∷ ps) q ≡ Refused ParentEntryHugePage
  stopped u h = first true true u h

  -- below an unused one all are missing
  absent : used (entry M p) ≡ false → AllByRecursion (λ p. used (entry M p) ≡ false) ps → used (entry M q) ≡ false
      → answer_by free frame M (p ∷ ps) q ≡ cond (nat_lt free (suc (length ps))) (Refused FrameAllocationFailed) (Done frame)
  absent u none own = first false (huge (entry M p)) u refl
      ∙ (λ i. told free frame (any_none (λ p. used (entry M p)) (λ p. huge (entry M p)) ps none i) (suc (all_missing M ps none i)) (own i))

-- ---- the look

-- `done` leads to the table in a frame, and the answer is up to the parents that are left
pub record IsLooking (L : ℕ) (root : ℕ) (M : PathMap) (free frame : ℕ) (q done left : List ℕ) (table : ℕ) : Type 0 where
  pub leads : table_at L root M done ≡ Some table
  pub decides : answer_by free frame M (parents q) q ≡ answer_by free frame M (map (λ p. done ++ p) (parents left)) (done ++ left)

module _ (L : ℕ) (T : Words) (root : ℕ) (M : PathMap) (holds : Holds L T root M) (free frame : ℕ) (q : List ℕ) where
  pub starts : IsLooking L root M free frame q [] q root
  starts = record { leads = refl; decides = sym (ap (λ ps. answer_by free frame M ps q) (map-id (parents q))) }

  module _ (done : List ℕ) (i table : ℕ) where
    abbrev next : List ℕ
    next = done ++ i ∷ []

    abbrev w : ℕ
    w = word T table i

    some : next ≢ []
    some e = no_end done i (sym e)

    reads : table_at L root M done ≡ Some table → entry M next ≡ w
    reads leads = holds.entries done i ∙ ap (λ t. entry_in T t i) leads

    module _ (j : ℕ) (r : List ℕ) (here : IsLooking L root M free frame q done (i ∷ j ∷ r) table) where
      abbrev below : List (List ℕ)
      below = map (λ p. next ++ p) (parents (j ∷ r))

      value : entry M next ≡ w
      value = reads here.leads

      at_next : answer_by free frame M (parents q) q ≡ answer_by free frame M (next ∷ below) (next ++ j ∷ r)
      at_next = here.decides ∙ ap₂ (λ ps p. answer_by free frame M (next ∷ ps) p) (sym (map_again done i (parents (j ∷ r)))) (sym (append_assoc done (i ∷ []) (j ∷ r)))

      goes_on : used w ≡ true → huge w ≡ false → length next < L → IsLooking L root M free frame q next (j ∷ r) (address w)
      goes_on u h room = record {
        leads = table_at_is L root M next some ∙ named L next (entry M next) (ap₂ (λ u h. u && not h) (ap used value ∙ u) (ap huge value ∙ h)) room ∙ ap (λ e. Some (address e)) value;
        decides = at_next ∙ passed free frame M next below (next ++ j ∷ r) (ap used value ∙ u) (ap huge value ∙ h);
      }

      is_huge : used w ≡ true → huge w ≡ true → answer_by free frame M (parents q) q ≡ Refused ParentEntryHugePage
      is_huge u h = at_next ∙ stopped free frame M next below (next ++ j ∷ r) (ap used value ∙ u) (ap huge value ∙ h)

      is_absent : used w ≡ false → answer_by free frame M (parents q) q ≡ cond (nat_lt free (suc (length r))) (Refused FrameAllocationFailed) (Done frame)
      is_absent u = at_next ∙ absent free frame M next below (next ++ j ∷ r) unused none (ap used (tree_below L root M tree next j r (unused_leads_nowhere L root M next some unused)) ∙ zero_not_used)
          ∙ ap (λ n. cond (nat_lt free (suc n)) (Refused FrameAllocationFailed) (Done frame)) (length-map (parents (j ∷ r)) (λ p. next ++ p) ∙ count_parents j r)
        where
          tree : IsTree L root M
          tree = tree_of_holds L T root M holds

          unused : used (entry M next) ≡ false
          unused = ap used value ∙ u

          descends : Descends M (next ∷ below) (next ++ j ∷ r)
          descends = subst₂ (λ ps p. Descends M (next ∷ ps) p) (sym (map_again done i (parents (j ∷ r)))) (sym (append_assoc done (i ∷ []) (j ∷ r))) (tree_descends L root M tree done (i ∷ j ∷ r))

          none : AllByRecursion (λ p. used (entry M p) ≡ false) below
          none = descends.0 (ap (λ u. u && not (huge (entry M next))) unused)

    ends : IsLooking L root M free frame q done (i ∷ []) table → answer_by free frame M (parents q) q ≡ cond (used w) (Refused (PageAlreadyMapped frame)) (Done frame)
    ends here = here.decides ∙ ap₂ (λ b e. cond b (Refused FrameAllocationFailed) (cond (used e) (Refused (PageAlreadyMapped frame)) (Done frame))) (le-ltb free 0 zero-le) (reads here.leads)

  -- ---- this for the number of parents that were passed

  module _ (low : length q < suc L) (k : ℕ) (within : suc k < length q) (table : ℕ) (here : IsLooking L root M free frame q (take k q) (drop k q) table) (e : ℕ) (is : e ≡ word T table (get_or q k 0)) where
    parted : drop k q ≡ get_or q k 0 ∷ get_or q (suc k) 0 ∷ drop (suc (suc k)) q
    parted = drop-cons q k 0 (omega (arith, within)) ∙ ap (λ d. get_or q k 0 ∷ d) (drop-cons q (suc k) 0 within)

    here_parted : IsLooking L root M free frame q (take k q) (get_or q k 0 ∷ get_or q (suc k) 0 ∷ drop (suc (suc k)) q) table
    here_parted = subst (λ d. IsLooking L root M free frame q (take k q) d table) parted here

    room : length (take k q ++ get_or q k 0 ∷ []) < L
    room = simp length-append (omega (arith, length-take k q, low, within))

    pub passes : used e ≡ true → huge e ≡ false → IsLooking L root M free frame q (take (k + 1) q) (drop (k + 1) q) (address e)
    passes u h = subst (λ n. IsLooking L root M free frame q (take n q) (drop n q) (address e)) (sym (add-one k))
        (subst (λ t. IsLooking L root M free frame q t (drop (suc k) q) (address e)) (sym (take-suc q k 0 (omega (arith, within))))
        (subst (λ d. IsLooking L root M free frame q (take k q ++ get_or q k 0 ∷ []) d (address e)) (sym (drop-cons q (suc k) 0 within))
        (subst (λ e. IsLooking L root M free frame q (take k q ++ get_or q k 0 ∷ []) (get_or q (suc k) 0 ∷ drop (suc (suc k)) q) (address e)) (sym is)
        (goes_on (take k q) (get_or q k 0) table (get_or q (suc k) 0) (drop (suc (suc k)) q) here_parted (ap used (sym is) ∙ u) (ap huge (sym is) ∙ h) room))))

    pub meets_huge : used e ≡ true → huge e ≡ true → answer_by free frame M (parents q) q ≡ Refused ParentEntryHugePage
    meets_huge u h = is_huge (take k q) (get_or q k 0) table (get_or q (suc k) 0) (drop (suc (suc k)) q) here_parted (ap used (sym is) ∙ u) (ap huge (sym is) ∙ h)

    -- so many tables are missing then
    pub meets_absent : used e ≡ false → answer_by free frame M (parents q) q ≡ cond (nat_lt free (length q - suc k)) (Refused FrameAllocationFailed) (Done frame)
    meets_absent u = is_absent (take k q) (get_or q k 0) table (get_or q (suc k) 0) (drop (suc (suc k)) q) here_parted (ap used (sym is) ∙ u)
        ∙ ap (λ n. cond (nat_lt free n) (Refused FrameAllocationFailed) (Done frame)) (let l = length-drop (suc (suc k)) q in omega (arith, l, within))

    -- then nothing is below it
    pub absent_own : used e ≡ false → entry M q ≡ 0
    absent_own u =
        let i = get_or q k 0 in
        let j = get_or q (suc k) 0 in
        let r = drop (suc (suc k)) q in
        let whole : (take k q ++ i ∷ []) ++ j ∷ r ≡ q = append_assoc (take k q) (i ∷ []) (j ∷ r) ∙ ap (λ d. take k q ++ d) (sym parted) ∙ take-append-drop k q in
        ap (entry M) (sym whole) ∙ tree_below L root M (tree_of_holds L T root M holds) (take k q ++ i ∷ []) j r
        (unused_leads_nowhere L root M (take k q ++ i ∷ []) (some (take k q) i table) (ap used (reads (take k q) i table here.leads ∙ sym is) ∙ u))

  pub own_entry : (k : ℕ) → length q ≡ suc k → (table : ℕ) → IsLooking L root M free frame q (take k q) (drop k q) table → entry M q ≡ word T table (get_or q k 0)
  own_entry k long table here =
      ap (entry M) (sym (sym (take-suc q k 0 (omega (arith, long))) ∙ take_all (suc k) q (omega (arith, long)))) ∙ reads (take k q) (get_or q k 0) table here.leads

  pub meets_own : (k : ℕ) → length q ≡ suc k → (table : ℕ) → IsLooking L root M free frame q (take k q) (drop k q) table → (e : ℕ) → e ≡ word T table (get_or q k 0)
      → answer_by free frame M (parents q) q ≡ cond (used e) (Refused (PageAlreadyMapped frame)) (Done frame)
  meets_own k long table here e is =
      ends (take k q) (get_or q k 0) table (subst (λ d. IsLooking L root M free frame q (take k q) d table) (drop-cons q k 0 (omega (arith, long)) ∙ ap (λ d. get_or q k 0 ∷ d) (drop_all (suc k) q (omega (arith, long)))) here)
      ∙ ap (λ e. cond (used e) (Refused (PageAlreadyMapped frame)) (Done frame)) (sym is)

-- ---- the path of a page

-- the index at position k of a page's path is that of a level
pub index_on_path : (L level p k : ℕ) → k < L → k + level ≤ L → get_or (path_at L level p) k 0 ≡ index (L - k) p
index_on_path L level p k within below = get_or-take (L + 1 - level) (page_path L p) k 0 (omega (arith, below)) ∙ index_at L p k within

-- ---- the look at a page

-- the look passed k parents, and is at the table in a frame
abbrev pub LooksAt : {Lent : Type 0} → Hierarchy Lent → (level page frame free k table : ℕ) → Type 0
LooksAt h level page frame free k table = let q = path_of h level page in
    IsLooking h.layout.levels h.layout.root (paths h) free frame q (take k q) (drop k q) table

module _ (L level : ℕ) (at_least_four : 3 < L) (low : 1 ≤ level) (high : level ≤ 3) (places : Places) (root : ℕ) (m : Memory) (valid : Valid (direct_at L places root laid_in m)) (page frame free : ℕ) where
  abbrev h : Hierarchy (Unit {0})
  h = direct_at L places root laid_in m

  abbrev way : List ℕ
  way = path_of h level page

  long : length way ≡ L + 1 - level
  long = length_taken page (L + 1 - level) L (omega (arith, low))

  answer_known : (a : Answer) → answer_by free frame (paths h) (parents way) way ≡ a → WouldAnswer h level page frame free a
  answer_known a is supply given more count = answers_by (paths h) supply more 0 (parents way) way _ frame ∙ ap (λ n. answer_by n frame (paths h) (parents way) way) count ∙ is

  pub look_starts : LooksAt h level page frame free 0 root
  look_starts = starts L (words h) root (paths h) valid.valid.holds free frame way

  -- at a parent, by its entry
  module _ (k table : ℕ) (here : LooksAt h level page frame free k table) (within : k < L - level) (n : ℕ) (levels : n ≡ L) (e : ℕ) (is : e ≡ word (words h) table (index (n - k) page)) where
    read : e ≡ word (words h) table (get_or way k 0)
    read = is ∙ ap (word (words h) table) (ap (λ n. index (n - k) page) levels ∙ sym (index_on_path L level page k (omega (arith, within)) (omega (arith, within))))

    short : length way < suc L
    short = omega (arith, long, low)

    more : suc k < length way
    more = omega (arith, long, within)

    pub look_passes : used e ≡ true → huge e ≡ false → (f : ℕ) → f ≡ address e → LooksAt h level page frame free (k + 1) f
    look_passes u g f names = subst (LooksAt h level page frame free (k + 1)) (sym names) (passes L (words h) root (paths h) valid.valid.holds free frame way short k more table here e read u g)

    pub look_meets_huge : used e ≡ true → huge e ≡ true → WouldAnswer h level page frame free (Refused ParentEntryHugePage)
    look_meets_huge u g = answer_known _ (meets_huge L (words h) root (paths h) valid.valid.holds free frame way short k more table here e read u g)

    absent_answer : used e ≡ false → answer_by free frame (paths h) (parents way) way ≡ cond (nat_lt free (L - k - level)) (Refused FrameAllocationFailed) (Done frame)
    absent_answer u = meets_absent L (words h) root (paths h) valid.valid.holds free frame way short k more table here e read u
        ∙ ap (λ n. cond (nat_lt free n) (Refused FrameAllocationFailed) (Done frame)) (let n : length way - suc k ≡ L - k - level = omega (arith, long, within) in n)

    pub look_lacks_frames : used e ≡ false → free < L - k - level → WouldAnswer h level page frame free (Refused FrameAllocationFailed)
    look_lacks_frames u few = answer_known _ (absent_answer u ∙ ap (λ b. cond b (Refused FrameAllocationFailed) (Done frame)) (lt-ltb free (L - k - level) few))

    pub look_has_frames : used e ≡ false → L - k - level ≤ free → WouldAnswer h level page frame free (Done frame)
    look_has_frames u enough = answer_known _ (absent_answer u ∙ ap (λ b. cond b (Refused FrameAllocationFailed) (Done frame)) (le-ltb free (L - k - level) enough))

    pub look_has_no_entry : used e ≡ false → IsEntryIn h level page None
    look_has_no_entry u = absent_own L (words h) root (paths h) valid.valid.holds free frame way short k more table here e read u

  -- at the page's own entry
  module _ (k table : ℕ) (here : LooksAt h level page frame free k table) (last : k ≡ L - level) (n : ℕ) (own : n ≡ level) (e : ℕ) (is : e ≡ word (words h) table (index n page)) where
    own_index : index n page ≡ get_or way k 0
    own_index = ap (λ n. index n page) (let at : n ≡ L - k = omega (arith, own, last, high, at_least_four) in at)
        ∙ sym (index_on_path L level page k (omega (arith, last, low, at_least_four)) (omega (arith, last, high, at_least_four)))

    pub look_has_entry : IsEntryIn h level page (Some table)
    look_has_entry = own_entry L (words h) root (paths h) valid.valid.holds free frame way k (omega (arith, long, last, high, at_least_four)) table here
        ∙ ap (word (words h) table) (sym own_index ∙ ap (λ n. index n page) own)

    own_answer : answer_by free frame (paths h) (parents way) way ≡ cond (used e) (Refused (PageAlreadyMapped frame)) (Done frame)
    own_answer = meets_own L (words h) root (paths h) valid.valid.holds free frame way k (omega (arith, long, last, high, at_least_four)) table here e (is ∙ ap (word (words h) table) own_index)

    pub look_meets_free : used e ≡ false → WouldAnswer h level page frame free (Done frame)
    look_meets_free u = answer_known _ (own_answer ∙ ap (λ b. cond b (Refused (PageAlreadyMapped frame)) (Done frame)) u)

    pub look_meets_used : used e ≡ true → WouldAnswer h level page frame free (Refused (PageAlreadyMapped frame))
    look_meets_used u = answer_known _ (own_answer ∙ ap (λ b. cond b (Refused (PageAlreadyMapped frame)) (Done frame)) u)
