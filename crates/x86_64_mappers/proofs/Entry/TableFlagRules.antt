-- The call that sets the flags of an entry above a page's own: its answer, and the memory afterwards.
use Rattle.std.proofs.Common.{◌≡◌, ◌≢◌, ◌≤◌, ◌<◌, ◌+◌, ◌-◌, ℕ, nat_le, nat_lt, ◌||◌, Bool, true, false, not, cond, List, [], ◌∷◌, length, take, get_or, is_some, Some, None, Result, Ok, Err, bit_or, refl, sym, ap, ◌∙◌, subst, arith, eqb-true, ltb-true}
use Rattle.std.proofs.lemmas.Bool.{and_parts, not-true, le-leb, lt-leb}
use Rattle.x86_64_model.specs.Allowed.{both_or_none, table_flags_allowed}
use Rattle.x86_64_model.specs.Entry.{used, huge, address, names_table, no_address}
use Rattle.x86_64_model.specs.Layout.{Layout}
use Rattle.x86_64_model.specs.Hierarchy.{◌laid_in◌, Valid, paths, read_entry, words}
use Rattle.x86_64_model.proofs.Lemmas.Machines.Changes.{IsChange, at_front, begins_take, set_huge, set_same_table}
use Rattle.x86_64_model.proofs.Lemmas.Walks.Agrees.{named}
use Rattle.x86_64_model.specs.private.MapperCalls.{after_set_flags}
use Rattle.x86_64_model.specs.Memory.{Memory, Distinct, word}
use Rattle.x86_64_model.specs.PageRules.{AfterChange, refused_or, set_flags}
use Rattle.x86_64_model.specs.Path.{front_at}
use Rattle.x86_64_model.specs.PathMap.{PathMap, entry, put}
use Rattle.x86_64_model.specs.Refusal.{Refusal, PageNotMapped, ParentEntryHugePage, Done, Refused, first_stop, refused_if}
use Rattle.x86_64_model.specs.Window.{begins_with}
use Rattle.x86_64_mappers.specs.private.EntryCalls.{word_said, answer_said}
use Rattle.x86_64_mappers.specs.private.Stops.{IsFound}
use Rattle.x86_64_mappers.specs.private.TableFlags.{keeps_huge, flags_say}
use Rattle.x86_64_mappers.specs.private.Writes.{IsSet}
use Rattle.x86_64_mappers.proofs.Entry.EntryRules.{Ends, after_entry, unchanged_ends, stopped, ended}
use Rattle.x86_64_mappers.proofs.Entry.TableFlagConditions.{front_length, never_stopped, own_level, table_flags_rule}

equal : (a b : Bool) → both_or_none a b ≡ true → a ≡ b
equal true b is = sym is
equal false b is = sym (not-true b is)

-- if a call isn't refused, its condition decides HUGE_PAGE
kept : (E : List ℕ → ℕ) (q : List ℕ) (given : ℕ) → keeps_huge E q given ≡ true → first_stop E q ≡ None → used (E q) ≡ true → huge given ≡ huge (E q)
kept E q given keeps stop u = equal (huge given) (huge (E q)) ((λ i. is_some (sym stop i) || not (sym u i) || both_or_none (huge given) (huge (E q))) ∙ keeps)

-- ---- a page whose own entry is of a level, in a valid hierarchy

module _ (l : Layout) (m : Memory) (valid : Valid (l laid_in m)) (level : ℕ) (page : List ℕ) (given own : ℕ) (at_level : length page + own ≡ l.levels + 1) where
  abbrev M : PathMap
  M = paths (l laid_in m)

  abbrev E : List ℕ → ℕ
  E = read_entry (l laid_in m)

  -- the path of the entry
  abbrev q : List ℕ
  q = front_at l.levels level page

  abbrev after : AfterChange
  after = after_set_flags l m level page given

  abbrev stops_or_says : AfterChange
  stops_or_says = refused_or M (first_stop E q) (refused_or M (refused_if (not (used (E q))) PageNotMapped None) (record { paths = put M q (bit_or (address (E q)) given); answer = Done (address (E q)) }))

  by_level : (b : Bool) → nat_le level own ≡ b → after ≡ cond b (record { paths = M; answer = Refused ParentEntryHugePage }) stops_or_says
  unfolding set_flags
  by_level b is = ap (λ b. cond b (record { paths = M; answer = Refused ParentEntryHugePage }) stops_or_says) (ap (nat_le level) (own_level l.levels l.window M level page given own at_level) ∙ is)

  -- the level isn't above that of the page's own entry
  pub flags_too_low : level ≤ own → Ends l m after (Refused ParentEntryHugePage) m
  flags_too_low low = unchanged_ends l m valid after ParentEntryHugePage (by_level true (le-leb level own low))

  module _ (above : own < level) where
    rule : after ≡ refused_or M (first_stop E q) (after_entry M q (flags_say given (E q)))
    rule = by_level false (lt-leb level own above) ∙ ap (refused_or M (first_stop E q)) (by (used (E q)) (bit_or (address (E q)) given) (address (E q)))
      where
        by : (u : Bool) (w f : ℕ) → refused_or M (refused_if (not u) PageNotMapped None) (record { paths = put M q w; answer = Done f }) ≡ after_entry M q (cond u (Ok (w, f)) (Err PageNotMapped))
        by true w f = refl
        by false w f = refl

    module _ (low : 2 ≤ level) (high : level ≤ l.levels) where
      long : length q ≡ l.levels + 1 - level
      long = front_length l.levels level own page at_level above

      -- an entry above level one names no table in frame 0
      table_nonzero : (p : List ℕ) → 0 < length p → length p < l.levels → names_table (entry M p) ≡ true → address (entry M p) ≢ 0
      table_nonzero [] a b is z = absurd (omega arith)
      table_nonzero (i ∷ p) a b is z = valid.valid.not_zero i p (named l.levels (i ∷ p) (entry M (i ∷ p)) is b ∙ ap Some z)

      module _ (may : table_flags_allowed l.levels l.window M level page given ≡ true) where
        met : ((no_address given ≡ true) × (not (begins_with l.window page) ≡ true)) × (cond (nat_lt 3 level) (not (huge given)) (nat_le level own || keeps_huge E q given) ≡ true)
        met = let p = and_parts _ _ (sym (table_flags_rule l.levels l.window M level page given own at_level) ∙ may) in (and_parts _ _ p.0, p.1)

        -- with these flags, the entry names the same table, or none as before
        flags_change : first_stop E q ≡ None → used (E q) ≡ true → IsChange l.levels l.window M q (bit_or (address (E q)) given)
        flags_change stop u =
            let out = begins_take l.window (l.levels + 1 - level) page (omega arith) (not-true _ met.0.1) in
            let is = at_front l.window M q out (omega (arith, long)) in
            let u = ap used (sym is) ∙ u in
            let same : huge given ≡ huge (entry M q) = by (nat_lt 3 level) refl met.1 is in
            subst (λ e. IsChange l.levels l.window M q (bit_or (address e) given)) (sym is) (record {
              is_used = u;
              outside = out;
              same_table = set_same_table l.levels q (entry M q) given u (eqb-true (address given) 0 met.0.0) same (table_nonzero q (omega (arith, long)) (omega (arith, long)));
              low = λ up. set_huge (entry M q) given ∙ same ∙ valid.valid.none_huge q up;
            })
          where
            by : (b : Bool) → nat_lt 3 level ≡ b → cond b (not (huge given)) (nat_le level own || keeps_huge E q given) ≡ true → E q ≡ entry M q → huge given ≡ huge (entry M q)
            by true three is at = not-true _ is ∙ sym (valid.valid.none_huge q (omega (arith, long, ltb-true 3 level three)))
            by false three is at = kept E q given (ap (λ b. b || keeps_huge E q given) (sym (lt-leb level own above)) ∙ is) stop u ∙ ap huge at

        -- ---- the way down to the entry, whose path has n + 1 indices

        module _ (n : ℕ) (size : length q ≡ n + 1) where
          pub flags_stopped : (why : Refusal) → IsFound l m (take n q) (Err why) → Ends l m after (Refused why) m
          flags_stopped = stopped l m valid q n size (flags_say given) after rule

          pub flags_changes : (g : ℕ) → IsFound l m (take n q) (Ok g) → (w frame : ℕ) → flags_say given (E q) ≡ Ok (w, frame) → IsChange l.levels l.window M q w
          flags_changes g found w frame = by (used (E q)) refl
            where
              says : Bool → Result (ℕ × ℕ) Refusal
              says is_used = cond is_used (Ok (bit_or (address (E q)) given, address (E q))) (Err PageNotMapped)

              by : (u : Bool) → used (E q) ≡ u → says u ≡ Ok (w, frame) → IsChange l.levels l.window M q w
              by true some said = subst (IsChange l.levels l.window M q) (ap (word_said w) said) (flags_change (never_stopped l m q n given size g found) some)
              by false none said = absurd (let t = said in cc)

          -- the entry decided
          pub flags_ended : Distinct l.places → (g : ℕ) → IsFound l m (take n q) (Ok g) → get_or q n 0 < 512
              → (o : Memory) → let e = word (words (l laid_in m)) g (get_or q n 0) in IsSet l.places m g (get_or q n 0) (word_said e (flags_say given e)) o → Ends l m after (answer_said (flags_say given e)) o
          flags_ended apart g found inside = ended l m valid q n size (flags_say given) after rule g found apart (omega (arith, low, high)) inside (flags_changes g found)
