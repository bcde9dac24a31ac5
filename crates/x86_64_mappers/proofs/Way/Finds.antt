-- Steps down the parents of a page if no table is created.
use Rattle.std.proofs.Common.{Option, ◌≡◌, ◌<◌, ◌≤◌, ◌+◌, ℕ, suc, Bool, true, false, ◌&&◌, not, cond, List, [], ◌∷◌, ◌++◌, length, take, drop, get_or, map, find, Some, None, option_map, IsSome, Ok, Err, refl, sym, ap, ap₂, ◌∙◌, subst, subst₂, arith, add-one, lt-ltb, append_assoc}
use Rattle.std.proofs.lemmas.List.{length-append, length-take, map-id, take_all, drop_all}
use Rattle.std.proofs.Math.Seq.{take-suc, drop-cons}
use Rattle.std.specs.Prelude.{Result}
use Rattle.x86_64_model.specs.Entry.{present, huge, address, names_table}
use Rattle.x86_64_model.specs.Layout.{Layout}
use Rattle.x86_64_model.specs.Hierarchy.{◌laid_in◌, Valid, paths, read_entry, words}
use Rattle.x86_64_model.specs.Memory.{Memory, word}
use Rattle.x86_64_model.specs.Path.{parents}
use Rattle.x86_64_model.specs.PathMap.{table_of}
use Rattle.x86_64_model.specs.Refusal.{Refusal, ParentEntryHugePage, PageNotMapped, first_stop}
use Rattle.x86_64_model.proofs.Lemmas.Hierarchies.Changes.{map_again}
use Rattle.x86_64_model.proofs.Lemmas.Walks.Agrees.{reads}
use Rattle.x86_64_model.proofs.Lemmas.Walks.Walked.{names}
use Rattle.x86_64_mappers.specs.private.Stops.{table_below, table_read, PathLeadsTo, IsFound, StopsBelow}

-- the stop at an entry that names no table, and otherwise the next one
abbrev pub stop_or : Result ℕ Refusal → (next : Option Refusal) → Option Refusal
stop_or (Ok frame) next = next
stop_or (Err why) next = Some why

-- the first stop below the path pre, if r is what is left of the page's path
abbrev pub stop_from : (E : List ℕ → ℕ) → (pre r : List ℕ) → Option Refusal
stop_from E pre r = option_map (λ p. cond (present (E p)) ParentEntryHugePage PageNotMapped)
    (find (λ p. not (present (E p) && not (huge (E p)))) (map (λ x. pre ++ x) (parents r)))

-- the walk so far: done are the indices up to the table in a frame, and left those to come
pub record IsOnWay (l : Layout) (m : Memory) (path done left : List ℕ) (frame : ℕ) : Type 0 where
  pub leads : PathLeadsTo l m done frame
  pub stop : (last : ℕ) → stop_from (read_entry (l laid_in m)) [] (path ++ last ∷ []) ≡ stop_from (read_entry (l laid_in m)) done (left ++ last ∷ [])

-- ---- the first stop, at the next parent

pub next_parents : (pre : List ℕ) (i : ℕ) (left : List ℕ) (x : ℕ) → map (λ y. pre ++ y) (parents ((i ∷ left) ++ x ∷ [])) ≡ (pre ++ i ∷ []) ∷ map (λ y. (pre ++ i ∷ []) ++ y) (parents (left ++ x ∷ []))
next_parents pre i [] x = refl
next_parents pre i (j ∷ left) x = ap (λ ys. (pre ++ i ∷ []) ∷ ys) (sym (map_again pre i (parents (j ∷ left ++ x ∷ []))))

module _ (E : List ℕ → ℕ) (pre : List ℕ) (i : ℕ) where
  abbrev e : ℕ
  e = E (pre ++ i ∷ [])

  -- the entry of the next parent stops the walk, or the stop is further down
  next_stop : (left : List ℕ) (x : ℕ) → stop_from E pre ((i ∷ left) ++ x ∷ []) ≡ stop_or (table_below e) (stop_from E (pre ++ i ∷ []) (left ++ x ∷ []))
  next_stop left x = ap (λ ps. option_map (λ p. cond (present (E p)) ParentEntryHugePage PageNotMapped) (find (λ p. not (present (E p) && not (huge (E p)))) ps)) (next_parents pre i left x)
      ∙ found (not (present e && not (huge e))) ∙ by (present e) (huge e)
    where
      rest : Option Refusal
      rest = stop_from E (pre ++ i ∷ []) (left ++ x ∷ [])

      found : (b : Bool) → option_map (λ p. cond (present (E p)) ParentEntryHugePage PageNotMapped) (cond b (Some (pre ++ i ∷ [])) (find (λ p. not (present (E p) && not (huge (E p)))) (map (λ y. (pre ++ i ∷ []) ++ y) (parents (left ++ x ∷ [])))))
          ≡ cond b (Some (cond (present e) ParentEntryHugePage PageNotMapped)) rest
      found true = refl
      found false = refl

      by : (p h : Bool) → cond (not (p && not h)) (Some (cond p ParentEntryHugePage PageNotMapped)) rest ≡ stop_or (cond (not p) (Err PageNotMapped) (cond h (Err ParentEntryHugePage) (Ok (address e)))) rest
      by false h = refl
      by true true = refl
      by true false = refl

pub stop_from_root : (E : List ℕ → ℕ) (q : List ℕ) → stop_from E [] q ≡ first_stop E q
unfolding first_stop
stop_from_root E q = ap (λ ps. option_map (λ p. cond (present (E p)) ParentEntryHugePage PageNotMapped) (find (λ p. not (present (E p) && not (huge (E p)))) ps)) (map-id (parents q))

-- ---- what an entry says about the table below

pub record NamesTable (e frame : ℕ) : Type 0 where
  pub is_present : present e ≡ true
  pub not_huge : huge e ≡ false
  pub address : frame ≡ address e

pub names_below : (e frame : ℕ) → Ok frame ≡ table_below e → NamesTable e frame
names_below e frame is = by (present e) (huge e) refl refl is
  where
    by : (p h : Bool) → present e ≡ p → huge e ≡ h → Ok frame ≡ cond (not p) (Err PageNotMapped) (cond h (Err ParentEntryHugePage) (Ok (address e))) → NamesTable e frame
    by false h a b is = absurd (let t = is in cc)
    by true true a b is = absurd (let t = is in cc)
    by true false a b is = record { is_present = a; not_huge = b; address = (let t : frame ≡ address e = cc in t) }

-- ---- one step

table_last : (L root : ℕ) (E : List ℕ → ℕ) (p : List ℕ) (i : ℕ) → table_read L root E (p ++ i ∷ []) ≡ table_of L (p ++ i ∷ []) (E (p ++ i ∷ []))
table_last L root E [] i = refl
table_last L root E (j ∷ p) i = refl

pub way_start : (l : Layout) (m : Memory) (path : List ℕ) → Valid (l laid_in m) → IsOnWay l m path [] path l.root
way_start l m path valid = let r = reads l.levels (words (l laid_in m)) l.root (paths (l laid_in m)) l.window valid in record {
  leads = record { table = refl; there = r.root_there; entries = r.first };
  stop = λ last. refl;
}

pub way_end : (l : Layout) (m : Memory) (path : List ℕ) (frame : ℕ) → IsOnWay l m path path [] frame → IsFound l m path (Ok frame)
way_end l m path frame way = (way.leads, λ last. sym (stop_from_root (read_entry (l laid_in m)) (path ++ last ∷ [])) ∙ way.stop last)

module _ (l : Layout) (m : Memory) (valid : Valid (l laid_in m)) (path done left : List ℕ) (i f : ℕ) (room : length (done ++ i ∷ []) < l.levels) (here : IsOnWay l m path done (i ∷ left) f) where
  abbrev E : List ℕ → ℕ
  E = read_entry (l laid_in m)

  same : word (words (l laid_in m)) f i ≡ E (done ++ i ∷ [])
  same = sym (here.leads.entries i)

  way_next : (g : ℕ) → Ok g ≡ table_below (word (words (l laid_in m)) f i) → IsOnWay l m path (done ++ i ∷ []) left g
  unfolding table_of
  way_next g is = record { leads = leads; stop = λ last. here.stop last ∙ next_stop E done i left last ∙ ap (λ r. stop_or r (stop_from E (done ++ i ∷ []) (left ++ last ∷ []))) (sym below) }
    where
      below : Ok g ≡ table_below (E (done ++ i ∷ []))
      below = is ∙ ap table_below same

      n : NamesTable (E (done ++ i ∷ [])) g
      n = names_below (E (done ++ i ∷ [])) g below

      named : names_table (E (done ++ i ∷ [])) ≡ true
      named = names (E (done ++ i ∷ [])) n.is_present n.not_huge

      leads : PathLeadsTo l m (done ++ i ∷ []) g
      leads = let r = reads l.levels (words (l laid_in m)) l.root (paths (l laid_in m)) l.window valid in record {
        table = table_last l.levels l.root E done i ∙ ap₂ (λ b c. cond (b && c) (Some (address (E (done ++ i ∷ [])))) None) named (lt-ltb (length (done ++ i ∷ [])) l.levels room) ∙ ap Some (sym n.address);
        there = subst (λ g. IsSome (words (l laid_in m) g)) (sym n.address) (r.there (done ++ i ∷ []) named room);
        entries = λ j. r.next (done ++ i ∷ []) j named room ∙ ap (λ g. word (words (l laid_in m)) g j) (sym n.address);
      }

  way_stop : (why : Refusal) → Err why ≡ table_below (word (words (l laid_in m)) f i) → IsFound l m path (Err why)
  way_stop why is last = sym (stop_from_root E (path ++ last ∷ [])) ∙ here.stop last ∙ next_stop E done i left last
      ∙ ap (λ r. stop_or r (stop_from E (done ++ i ∷ []) (left ++ last ∷ []))) (sym (is ∙ ap table_below same))

-- ---- a turn of the loop over the parents

module _ (l : Layout) (m : Memory) (valid : Valid (l laid_in m)) (path : List ℕ) (levels : length path < l.levels) (k : ℕ) (within : k < length path) (f : ℕ) (here : IsOnWay l m path (take k path) (drop k path) f) where
  room : length (take k path ++ get_or path k 0 ∷ []) < l.levels
  room = simp length-append (omega (arith, length-take k path))

  parted : IsOnWay l m path (take k path) (get_or path k 0 ∷ drop (suc k) path) f
  parted = subst (λ d. IsOnWay l m path (take k path) d f) (drop-cons path k 0 within) here

  pub find_next : (g : ℕ) → Ok g ≡ table_below (word (words (l laid_in m)) f (get_or path k 0)) → IsOnWay l m path (take (k + 1) path) (drop (k + 1) path) g
  find_next g is = subst (λ j. IsOnWay l m path (take j path) (drop j path) g) (sym (add-one k))
      (subst (λ t. IsOnWay l m path t (drop (suc k) path) g) (sym (take-suc path k 0 within)) (way_next l m valid path (take k path) (drop (suc k) path) (get_or path k 0) f room parted g is))

pub find_end : (l : Layout) (m : Memory) (path : List ℕ) (k g : ℕ) → length path ≤ k → IsOnWay l m path (take k path) (drop k path) g → IsFound l m path (Ok g)
find_end l m path k g past here = way_end l m path g (subst₂ (λ t d. IsOnWay l m path t d g) (take_all k path past) (drop_all k path past) here)

-- ---- the way down to a path, whatever follows

-- the walk so far is the same for each page below
abbrev pub IsOnEachWay : (l : Layout) (m : Memory) (done : List ℕ) (frame : ℕ) → Type 0
IsOnEachWay l m done frame = (left : List ℕ) → IsOnWay l m (done ++ left) done left frame

pub each_way_start : (l : Layout) (m : Memory) → Valid (l laid_in m) → IsOnEachWay l m [] l.root
each_way_start l m valid left = way_start l m left valid

module _ (l : Layout) (m : Memory) (valid : Valid (l laid_in m)) (path : List ℕ) (levels : length path < l.levels) (k : ℕ) (within : k < length path) (f : ℕ) (here : IsOnEachWay l m (take k path) f) where
  abbrev i : ℕ
  i = get_or path k 0

  short : length (take k path ++ i ∷ []) < l.levels
  short = simp length-append (omega (arith, length-take k path))

  next_front : take (k + 1) path ≡ take k path ++ i ∷ []
  next_front = ap (λ j. take j path) (add-one k) ∙ take-suc path k 0 within

  pub each_way_next : (g : ℕ) → Ok g ≡ table_below (word (words (l laid_in m)) f i) → IsOnEachWay l m (take (k + 1) path) g
  each_way_next g is = subst (λ t. IsOnEachWay l m t g) (sym next_front) (λ left. subst (λ p. IsOnWay l m p (take k path ++ i ∷ []) left g) (sym (append_assoc (take k path) (i ∷ []) left))
      (way_next l m valid (take k path ++ i ∷ left) (take k path) left i f short (here (i ∷ left)) g is))

  pub each_way_stop : (why : Refusal) → Err why ≡ table_below (word (words (l laid_in m)) f i) → StopsBelow l m (take (k + 1) path) why
  each_way_stop why is = subst (λ t. StopsBelow l m t why) (sym next_front) (λ left. subst (λ p. IsFound l m p (Err why)) (sym (append_assoc (take k path) (i ∷ []) left))
      (way_stop l m valid (take k path ++ i ∷ left) (take k path) left i f short (here (i ∷ left)) why is))
