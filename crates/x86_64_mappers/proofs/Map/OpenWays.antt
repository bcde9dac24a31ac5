-- The walk down the parents of a page for a map reaches its tables, and stays open with each step.
use Rattle.std.proofs.Common.{zero, suc, ◌≡◌, ◌≢◌, ◌⊎◌, inl, inr, ⊎_elim, ◌<◌, ◌≤◌, ◌+◌, ℕ, Bool, true, false, ◌||◌, not, cond, List, [], ◌∷◌, ◌++◌, length, take, drop, get_or, map, find, bit_or, Option, Some, None, IsSome, refl, sym, ap, ap₂, ◌∙◌, subst, arith, add-one, append_assoc}
use Rattle.std.proofs.lemmas.Bool.{cases_eq}
use Rattle.std.proofs.lemmas.List.{length-append, length-take, map-id, take-append-drop, take_all}
use Rattle.std.proofs.lemmas.Option.{same_Some}
use Rattle.std.proofs.Math.Seq.{take-suc, take-append_seam}
use Rattle.x86_64_model.specs.Allowed.{none_absent, parents_present}
use Rattle.x86_64_model.specs.Arrivals.{leads}
use Rattle.x86_64_model.specs.Entry.{IsParentFlags, used, present, huge, names_table}
use Rattle.x86_64_model.specs.Validity.{entry_in}
use Rattle.x86_64_model.specs.Layout.{Layout}
use Rattle.x86_64_model.specs.Hierarchy.{◌laid_in◌, SupplyFits, Valid, paths, words}
use Rattle.x86_64_model.proofs.Lemmas.Entries.Bits.{unused_absent}
use Rattle.x86_64_model.proofs.Lemmas.Hierarchies.Held.{table_at_last}
use Rattle.x86_64_model.proofs.Lemmas.Hierarchies.Trees.{Names, table_of_gives, plain_table}
use Rattle.x86_64_model.proofs.Lemmas.Maps.Flags.{has_kept}
use Rattle.x86_64_model.proofs.Lemmas.Maps.Frames.{flags_or}
use Rattle.x86_64_model.proofs.Lemmas.Paths.Puts.{append_longer, entry-put_same, entry-put_other}
use Rattle.x86_64_model.proofs.Lemmas.Walks.Agrees.{zero_names_none}
use Rattle.x86_64_model.proofs.Lemmas.Walks.Walked.{read_there}
use Rattle.x86_64_model.specs.Lists.{In}
use Rattle.x86_64_model.specs.Memory.{Memory, Distinct, word}
use Rattle.x86_64_model.specs.Path.{parents}
use Rattle.x86_64_model.specs.PathMap.{PathMap, entry, table_of, table_at}
use Rattle.x86_64_model.specs.Window.{begins_with}
use Rattle.x86_64_mappers.specs.private.Linked.{MayLink, NotOnWay}
use Rattle.x86_64_mappers.specs.private.OpenWay.{WillBePresent, IsOpenWay}
use Rattle.x86_64_mappers.specs.Reached.{IsReached}
use Rattle.x86_64_mappers.proofs.Way.Finds.{next_parents}
use Rattle.x86_64_mappers.proofs.Map.StepOutcomes.{Opens}
use Rattle.x86_64_mappers.proofs.Way.Outside.{beside_at}
use Rattle.x86_64_mappers.proofs.Way.ReachedSteps.{leads_last}
use Rattle.x86_64_mappers.proofs.Memory.WordsRead.{words_read, read_word, there_read}
use Rattle.x86_64_mappers.proofs.Memory.Written.{entry_is}

-- ---- the tables on the way

module _ (l : Layout) (m : Memory) (valid : Valid (l laid_in m)) (more : ℕ) (path : List ℕ) where
  abbrev M : PathMap
  M = paths (l laid_in m)

  -- the table above, which holds the last entry on the path
  record Above (k f : ℕ) : Type 0 where
    pub frame : ℕ
    pub way : IsOpenWay l m more path k frame
    pub is : entry M (take (suc k) path) ≡ word (words_read l m) frame (get_or path k 0)
    pub names : Names l.levels (take (suc k) path) (entry M (take (suc k) path)) f

  above : (k : ℕ) → k < length path → (f : ℕ) → IsOpenWay l m more path (suc k) f → Above k f
  above k within f here = by (table_at l.levels l.root M (take k path)) refl
    where
      i : ℕ
      i = get_or path k 0

      last : take (suc k) path ≡ take k path ++ i ∷ []
      last = take-suc path k 0 within

      names : Names l.levels (take (suc k) path) (entry M (take (suc k) path)) f
      names = table_of_gives l.levels (take (suc k) path) (entry M (take (suc k) path)) f
          (subst (λ q. table_at l.levels l.root M q ≡ Some f → table_of l.levels q (entry M q) ≡ Some f) (sym last) (λ led. sym (table_at_last l.levels l.root M (take k path) i) ∙ led) here.leads)

      is : (o : Option ℕ) → table_at l.levels l.root M (take k path) ≡ o → entry M (take (suc k) path) ≡ entry_in (words_read l m) o i
      is o e = ap (entry M) last ∙ valid.valid.holds.entries (take k path) i ∙ ap (λ o. entry_in (words_read l m) o i) e

      by : (o : Option ℕ) → table_at l.levels l.root M (take k path) ≡ o → Above k f
      by None e = zero_names_none (ap names_table (sym (is None e)) ∙ names.is_table)
      by (Some h) e = record {
        frame = h;
        way = record { leads = e; small = λ j b. here.small j (omega (arith, b)); are_present = λ j b. here.are_present j (omega (arith, b)); to_come = here.to_come };
        is = is (Some h) e;
        names = names;
      }

  -- the tables further above
  upper : (k : ℕ) → k ≤ length path → (f : ℕ) → IsOpenWay l m more path k f → (j : ℕ) → j ≤ k → (h : ℕ) × IsOpenWay l m more path j h
  upper zero within f here j b = (f, subst (λ j. IsOpenWay l m more path j f) (let e : 0 ≡ j = omega (arith, b) in e) here)
  upper (suc k) within f here j b = ⊎_elim
      (λ e. (f, subst (λ j. IsOpenWay l m more path j f) (sym e) here))
      (λ n. let up = above k (omega (arith, within)) f here in upper k (omega (arith, within)) up.frame up.way j (omega (arith, b, n)))
      (cases_eq j (suc k))

  are_plain : (k : ℕ) → k ≤ length path → (f : ℕ) → IsOpenWay l m more path k f → (j : ℕ) → j < k → huge (entry M (take (suc j) path)) ≡ false
  are_plain k within f here j b =
      let up = upper k within f here (suc j) (omega (arith, b)) in
      plain_table (entry M (take (suc j) path)) (above j (omega (arith, b, within)) up.0 up.1).names.is_table

  module _ (outside : begins_with l.window path ≡ false) where
    -- the words lead to the tables of the path map
    words_lead : (k : ℕ) → k ≤ length path → (f : ℕ) → IsOpenWay l m more path k f → leads (words (l laid_in m)) l.root (take k path) ≡ Some f
    words_lead zero within f here = here.leads
    words_lead (suc k) within f here =
        let i = get_or path k 0 in
        let e = entry M (take (suc k) path) in
        let up = above k (omega (arith, within)) f here in
        let beside = beside_at l m valid path k (omega (arith, within)) outside up.frame up.way.leads in
        let there : IsSome (words (l laid_in m) up.frame) = there_read l.window l.root (words (l laid_in m)) up.frame (valid.valid.holds.in_memory (take k path) up.frame up.way.leads) in
        let is : word (words (l laid_in m)) up.frame i ≡ e = sym (up.is ∙ read_word l.window l.root (words (l laid_in m)) up.frame i beside) in
        ap (leads (words (l laid_in m)) l.root) (take-suc path k 0 (omega (arith, within)))
        ∙ leads_last (words (l laid_in m)) l.root (take k path) up.frame i e (words_lead k (omega (arith, within)) up.frame up.way)
        (read_there (words (l laid_in m)) up.frame i (here.small k (omega arith)) there ∙ ap Some is) (here.are_present k (omega arith)) (plain_table e up.names.is_table)
        ∙ ap Some up.names.at

    pub open_reached : (k : ℕ) → k ≤ length path → (f : ℕ) → IsOpenWay l m more path k f → IsReached l m (take k path) f
    open_reached k within f here = record {
      way = words_lead k within f here;
      there = there_read l.window l.root (words (l laid_in m)) f (valid.valid.holds.in_memory (take k path) f here.leads);
      root_there = there_read l.window l.root (words (l laid_in m)) l.root (valid.valid.holds.in_memory [] l.root refl);
      self = valid.self;
    }

    pub open_end : (k : ℕ) → k ≤ length path → length path ≤ k → (f : ℕ) → IsOpenWay l m more path k f → IsReached l m path f
    open_end k within past f here = subst (λ q. IsReached l m q f) (take_all k path past) (open_reached k within f here)

    front : (k : ℕ) (a b : List ℕ) → take k path ≡ a ++ b → take (length a) path ≡ a
    front k a b split =
        ap (take (length a)) (sym (take-append-drop k path) ∙ ap (λ t. t ++ drop k path) split ∙ append_assoc a b (drop k path))
        ∙ take-append_seam a (b ++ drop k path)

    -- no table is met twice on the way
    not_on_way : (k : ℕ) → k ≤ length path → (f : ℕ) → IsOpenWay l m more path k f → NotOnWay (words (l laid_in m)) l.root (take k path) f
    not_on_way k within f here a j b split h led same =
        let shorter : length a < k = (let n = ap length split in let p = length-append a (j ∷ b) in let t = length-take k path in omega (arith, n, p, t, within)) in
        let at_front = front k a (j ∷ b) split in
        let up = upper k within f here (length a) (omega (arith, shorter)) in
        let one_frame : up.0 ≡ h = same_Some up.0 h (sym (words_lead (length a) (omega (arith, shorter, within)) up.0 up.1) ∙ ap (leads (words (l laid_in m)) l.root) at_front ∙ led) in
        let one : a ≡ take k path = valid.valid.own_frames a (take k path) f (ap (table_at l.levels l.root M) (sym at_front) ∙ up.1.leads ∙ ap Some (one_frame ∙ same)) here.leads in
        append_longer a j b (sym split ∙ sym one)

    -- the tables on the way are tables of the path map
    met_on_way : (k : ℕ) → k ≤ length path → (f : ℕ) → IsOpenWay l m more path k f → (a b : List ℕ) → take k path ≡ a ++ b → (h : ℕ) → leads (words (l laid_in m)) l.root a ≡ Some h → table_at l.levels l.root M a ≡ Some h
    met_on_way k within f here a b split h led =
        let short : length a ≤ k = (let n = ap length split in let p = length-append a b in let t = length-take k path in omega (arith, n, p, t, within)) in
        let at_front = front k a b split in
        let up = upper k within f here (length a) short in
        ap (table_at l.levels l.root M) (sym at_front) ∙ up.1.leads
        ∙ sym (words_lead (length a) (omega (arith, short, within)) up.0 up.1) ∙ ap (leads (words (l laid_in m)) l.root) at_front ∙ led

-- ---- the parents to come

module _ (M : PathMap) where
  -- the first path that stops the way down: its entry isn't present, or huge
  abbrev first_stop : List (List ℕ) → Option (List ℕ)
  first_stop = find (λ p. not (present (entry M p)) || huge (entry M p))

  module _ (pre path : List ℕ) (i last : ℕ) (all : none_absent M (first_stop (map (λ x. pre ++ x) (parents ((i ∷ path) ++ last ∷ [])))) ≡ true) where
    abbrev q : List ℕ
    q = pre ++ i ∷ []

    abbrev rest : List (List ℕ)
    rest = map (λ x. q ++ x) (parents (path ++ last ∷ []))

    first : none_absent M (cond (not (present (entry M q)) || huge (entry M q)) (Some q) (first_stop rest)) ≡ true
    first = ap (λ ps. none_absent M (first_stop ps)) (sym (next_parents pre i path last)) ∙ all

    here : present (entry M q) ≡ true
    here = on (present (entry M q)) refl first
      where
        on : (b : Bool) → present (entry M q) ≡ b → none_absent M (cond (not b || huge (entry M q)) (Some q) (first_stop rest)) ≡ true → present (entry M q) ≡ true
        on true e h = e
        on false e h = h

    below : huge (entry M q) ≡ false → none_absent M (first_stop rest) ≡ true
    below plain = ap₂ (λ b g. none_absent M (cond (not b || g) (Some q) (first_stop rest))) (sym here) (sym plain) ∙ first

  all_present : (pre path : List ℕ) (last : ℕ) → none_absent M (first_stop (map (λ x. pre ++ x) (parents (path ++ last ∷ [])))) ≡ true
      → (j : ℕ) → j < length path → ((h : ℕ) → h < j → huge (entry M (pre ++ take (suc h) path)) ≡ false) → present (entry M (pre ++ take (suc j) path)) ≡ true
  all_present pre [] last all j less plain = absurd (omega (arith, less))
  all_present pre (i ∷ path) last all zero less plain = here pre path i last all
  all_present pre (i ∷ path) last all (suc j) less plain = subst (λ q. present (entry M q) ≡ true) (append_assoc pre (i ∷ []) (take (suc j) path))
      (all_present (pre ++ i ∷ []) path last (below pre path i last all (plain 0 (omega arith))) j (omega (arith, less))
      (λ h b. subst (λ q. huge (entry M q) ≡ false) (sym (append_assoc pre (i ∷ []) (take (suc h) path))) (plain (suc h) (omega (arith, b)))))

  -- the condition of a map implies it
  pub will_be_present : (more : ℕ) (path : List ℕ) (last : ℕ) → parents_present M more (path ++ last ∷ []) ≡ true → WillBePresent M more path
  will_be_present more path last h = by (present more) refl h
    where
      by : (b : Bool) → present more ≡ b → (b || none_absent M (first_stop (parents (path ++ last ∷ [])))) ≡ true → WillBePresent M more path
      by true e h = inl e
      by false e h = inr (all_present [] path last (ap (λ ps. none_absent M (first_stop ps)) (map-id (parents (path ++ last ∷ []))) ∙ h))

-- ---- one step

module _ (l : Layout) (m : Memory) (valid : Valid (l laid_in m)) (more : ℕ) (path : List ℕ) (k : ℕ) (within : k < length path) (f : ℕ) (here : IsOpenWay l m more path k f) where
  abbrev p : List ℕ
  p = take k path ++ get_or path k 0 ∷ []

  at : take (suc k) path ≡ p
  at = take-suc path k 0 within

  -- the next parent will be present
  next_present : (present more ≡ true) ⊎ (present (entry (paths (l laid_in m)) p) ≡ true)
  next_present = ⊎_elim (λ x. inl x) (λ all. inr (ap (λ q. present (entry (paths (l laid_in m)) q)) (sym at) ∙ all k within (are_plain l m valid more path k (omega (arith, within)) f here))) here.to_come

  module _ (n : Memory) (opens : Opens (paths (l laid_in m)) more p (paths (l laid_in n))) where
    is_present : present (entry (paths (l laid_in n)) (take (suc k) path)) ≡ true
    is_present = ap (λ q. present (entry (paths (l laid_in n)) q)) at ∙ ap (λ N. present (entry N p)) (sym opens.is) ∙ ap present (entry-put_same (paths (l laid_in m)) p opens.word) ∙ opens.is_present next_present

    other : (j : ℕ) → j < length path → j ≢ k → entry (paths (l laid_in n)) (take (suc j) path) ≡ entry (paths (l laid_in m)) (take (suc j) path)
    other j b apart = ap (λ N. entry N (take (suc j) path)) (sym opens.is)
        ∙ entry-put_other (paths (l laid_in m)) p opens.word (take (suc j) path) (λ e. apart (let t = ap length (e ∙ sym at) in omega (arith, t, length-take (suc j) path, length-take (suc k) path, b, within)))

    -- an entry that had to be present still is
    present_at : (j : ℕ) → j < length path → (j ≢ k → present (entry (paths (l laid_in m)) (take (suc j) path)) ≡ true) → present (entry (paths (l laid_in n)) (take (suc j) path)) ≡ true
    present_at j b was = ⊎_elim
        (λ e. ap (λ j. present (entry (paths (l laid_in n)) (take (suc j) path))) e ∙ is_present)
        (λ apart. ap present (other j b apart) ∙ was apart)
        (cases_eq j k)

    was_plain : (h : ℕ) → h < length path → huge (entry (paths (l laid_in n)) (take (suc h) path)) ≡ false → huge (entry (paths (l laid_in m)) (take (suc h) path)) ≡ false
    was_plain h b plain = ⊎_elim
        (λ e. ap (λ h. huge (entry (paths (l laid_in m)) (take (suc h) path))) e ∙ ap (λ q. huge (entry (paths (l laid_in m)) q)) at ∙ opens.was_plain)
        (λ apart. ap huge (sym (other h b apart)) ∙ plain)
        (cases_eq h k)

    pub open_next : get_or path k 0 < 512 → (g : ℕ) → table_at l.levels l.root (paths (l laid_in n)) p ≡ Some g → IsOpenWay l n more path (k + 1) g
    open_next small g led = subst (λ j. IsOpenWay l n more path j g) (sym (add-one k)) (record {
      leads = ap (table_at l.levels l.root (paths (l laid_in n))) at ∙ led;
      small = λ j b. ⊎_elim (λ e. subst (λ j. get_or path j 0 < 512) (sym e) small) (λ apart. here.small j (omega (arith, b, apart))) (cases_eq j k);
      are_present = λ j b. present_at j (omega (arith, b, within)) (λ apart. here.are_present j (omega (arith, b, apart)));
      to_come = ⊎_elim (λ x. inl x) (λ all. inr (λ j b plain. present_at j b (λ apart. all j b (λ h less. was_plain h (omega (arith, less, b)) (plain h less))))) here.to_come;
    })

-- a frame of the supply may be linked as the table that the next parent lacks
pub may_link : (l : Layout) → Distinct l.places → IsParentFlags l.added_flags → (m : Memory) (s : List ℕ) → SupplyFits (l laid_in m) s → (path : List ℕ) → begins_with l.window path ≡ false → length path < l.levels
    → (more : ℕ) → IsParentFlags more → (k : ℕ) → k < length path → (f : ℕ) → IsOpenWay l m more path k f
    → get_or path k 0 < 512 → used (word (words (l laid_in m)) f (get_or path k 0)) ≡ false → (g : ℕ) → In s g → MayLink l m path k f g (bit_or more l.added_flags)
may_link l apart adds m s ready path outside short more marks k within f here small unused g free =
    let passed : k ≤ length path = omega (arith, within) in
    let beside = beside_at l m ready.valid path k within outside f here.leads in
    let is = entry_is l apart (omega (arith, short)) m (take k path) (get_or path k 0) f here.leads small beside s ready in
    let will : present more ≡ true = ⊎_elim (λ x. x)
    (λ x. absurd (let no = unused_absent (word (words (l laid_in m)) f (get_or path k 0)) unused in let yes = sym (ap present is) ∙ x in let t : true ≡ false = sym yes ∙ no in cc))
    (next_present l m ready.valid more path k within f here) in record {
      reached = open_reached l m ready.valid more path outside k passed f here;
      not_on_way = not_on_way l m ready.valid more path outside k passed f here;
      beside = beside;
      there = ready.in_memory g free;
      unmet = λ a b split h led e. ready.no_table g free (a, met_on_way l m ready.valid more path outside k passed f here a b split h led ∙ ap Some e);
      marks = flags_or more l.added_flags marks adds;
      is_present = has_kept more l.added_flags 0x1 will;
    }
