-- Words of the pages of a range that change one after another, and what they leave.
use Rattle.std.proofs.Common.{◌≡◌, ◌≢◌, ◌⊎◌, inl, inr, ⊎_elim, ◌<◌, ◌≤◌, ◌+◌, ◌-◌, ◌*◌, ◌/◌, ◌==◌, ◌&&◌, ◌||◌, ℕ, Bool, true, false, List, [], ◌∷◌, ◌++◌, length, map, drop, Result, Ok, Err, refl, sym, ap, ◌∙◌, subst, arith, eqb-true, Some, IsSome}
use Rattle.std.proofs.lemmas.Bool.{cases_eq, cases_lt}
use Rattle.std.proofs.lemmas.List.{map-append, take-append-drop}
use Rattle.x86_64_live.proofs.PageSpots.{only_here, path_same, path_up, way_reads}
use Rattle.x86_64_mappers.specs.Layouts.{direct_at}
use Rattle.x86_64_live.specs.PageRanges.{HasNoPage, PageEntry, ExchangesPages, exchange_of, is_page}
use Rattle.x86_64_live.specs.private.RangeSteps.{AreAlikeFrom, IsFirstPage, SearchFinds, IsOnWay, IsSpot, KeepPages, leads_down, wanted_by}
use Rattle.x86_64_live.specs.declared.ranges.RangeEnd.{RangeEnd}
use Rattle.x86_64_live.specs.declared.ranges.RangeEnd.TheVariants.{All, More, LargerPage}
use Rattle.x86_64_live.specs.declared.ranges.search.Spot.{Spot}
use Rattle.x86_64_live.specs.declared.ranges.search.Wanted.{Wanted}
use Rattle.x86_64_live.specs.declared.ranges.search.Wanted.TheVariants.{Used, Present}
use Rattle.x86_64_model.specs.Entry.{used, huge}
use Rattle.x86_64_model.specs.Hierarchy.{◌laid_in◌, MayCleanUp, PoolFits, Valid, paths, words}
use Rattle.x86_64_model.specs.Laws.EntriesInPlace.{IsInPlace, MayReplace, NamesNoTable, OneChanged, with_word}
use Rattle.x86_64_model.specs.Laws.Live.{IsLiveAfter}
use Rattle.x86_64_model.specs.Layout.{Layout}
use Rattle.x86_64_model.specs.Live.{Happening, after_happening, after_happenings}
use Rattle.x86_64_model.specs.Memory.{IsMapping, Memory, Places, word}
use Rattle.x86_64_model.specs.Path.{begins, level_of, path_at, span_size}
use Rattle.x86_64_model.specs.PathMap.{PathMap, entry, put, table_at}
use Rattle.x86_64_model.specs.Position.{index, page_path, span, position_count}
use Rattle.x86_64_model.proofs.Lemmas.Entries.Bits.{used_present}
use Rattle.x86_64_model.proofs.Lemmas.Hierarchies.Changes.{zero_not_used}
use Rattle.x86_64_model.proofs.Lemmas.Hierarchies.Trees.{some_is, tree_of_holds, indices_below}
use Rattle.x86_64_model.proofs.Lemmas.Live.Changed.{entries_may_change}
use Rattle.x86_64_model.proofs.Lemmas.Live.Placed.{live_tables_fit}
use Rattle.x86_64_model.proofs.Lemmas.Machines.Writes.{within_words}
use Rattle.x86_64_model.proofs.Lemmas.Mappings.SpanEnds.{same_number}
use Rattle.x86_64_model.proofs.Lemmas.Paths.Begins.{begins_on}
use Rattle.x86_64_model.proofs.Lemmas.Paths.Pages.{length_taken}
use Rattle.x86_64_model.proofs.Lemmas.Paths.Puts.{cases_path, entry-put_other, entry-put_same}
use Rattle.x86_64_model.proofs.Lemmas.Paths.Spans.{spans_are_intervals}
use Rattle.x86_64_model.proofs.Lemmas.Walks.Walked.{index_small}

pub wanted_used : (wanted : Wanted) (e : ℕ) → wanted_by wanted e ≡ true → used e ≡ true
wanted_used Used e is = is
wanted_used Present e is = used_present e is

pub zero_is_none : (level : ℕ) → is_page used level 0 ≡ false
zero_is_none level = ap (λ u. u && ((level == 1) || huge 0)) zero_not_used

-- ---- one after another

after_more : (M : PathMap) (hs : List Happening) (h : Happening) → after_happenings M (hs ++ h ∷ []) ≡ after_happening (after_happenings M hs) h
after_more M [] h = refl
after_more M (x ∷ hs) h = after_more (after_happening M x) hs h

module _ (L : ℕ) (places : Places) (root : ℕ) (mapping : IsMapping places) (some : 0 < L) (next : ℕ → ℕ) where
  abbrev l : Layout
  l = direct_at L places root

  abbrev paths_in : Memory → PathMap
  paths_in m = paths (l laid_in m)

  -- a pool without frames fits
  no_pool : (m : Memory) → Valid (l laid_in m) → PoolFits (l laid_in m) (λ f. true) []
  no_pool m valid = record {
    valid = valid;
    each_once = tt;
    in_memory = λ f none. absurd none;
    are_frames = λ f none. absurd none;
    not_zero = λ none. none;
    no_table = λ f none is. none;
    serves_pool = λ f none. refl;
    serves_tables = λ i q f is. refl;
  }

  pub exchanges_none : (m : Memory) → ExchangesPages l next [] m m
  exchanges_none m serves pool fits = (live_tables_fit l mapping some serves m pool fits [] tt).0

  module _ (pages : List PageEntry) (m n : Memory) (valid : Valid (l laid_in m)) (changed : ExchangesPages l next pages m n) where
    live : IsLiveAfter l (λ f. true) [] m (map (exchange_of L next) pages) n
    live = changed (λ f. true) [] (no_pool m valid)

    pub valid_now : Valid (l laid_in n)
    valid_now = live.keeps.fits.valid

    pub tables_now : (q : List ℕ) → table_at L root (paths_in n) q ≡ table_at L root (paths_in m) q
    tables_now = live.tables

    pub may_clean_now : (serves : ℕ → Bool) (held : List ℕ) → MayCleanUp (l laid_in m) serves held → MayCleanUp (l laid_in n) serves held
    may_clean_now serves held may = record {
      valid = valid_now;
      serves_tables = λ i q f is. may.serves_tables i q f (sym (tables_now (i ∷ q)) ∙ is);
      none_held = λ i q f is. may.none_held i q f (sym (tables_now (i ∷ q)) ∙ is);
    }

    pub way_now : (p level frame : ℕ) → IsOnWay L root (paths_in n) p level frame → IsOnWay L root (paths_in m) p level frame
    way_now p level frame way = record { low = way.low; high = way.high; leads = sym (tables_now (path_at L (level + 1) p)) ∙ way.leads }

    -- ---- what is found behind the pages is what was there

    module _ (from : ℕ) (alike : AreAlikeFrom L (paths_in m) (paths_in n) from) (wanted : ℕ → Bool) where
      pub none_before : (end : ℕ) → end ≤ position_count L → 3 ≤ L → HasNoPage L wanted (paths_in n) from end → HasNoPage L wanted (paths_in m) from end
      none_before end inside three none x level after to low high = ap (is_page wanted level) (sym (alike x level after (omega (arith, to, inside)) low (omega (arith, high, three)))) ∙ none x level after to low high

      pub first_before : (end : ℕ) → end ≤ position_count L → 3 ≤ L → (s : Spot) (relation : Bool) → IsFirstPage L root wanted (paths_in n) from end s relation → IsFirstPage L root wanted (paths_in m) from end s relation
      first_before end inside three s relation found = let to = found.before in record {
        after = found.after;
        before = found.before;
        none = none_before s.position (omega (arith, to, inside)) three found.none;
        spot = record {
          way = way_now s.position s.level s.frame found.spot.way;
          reads = sym (alike s.position s.level found.after (omega (arith, to, inside)) found.spot.way.low found.spot.way.high) ∙ found.spot.reads;
        };
        aligned = found.aligned;
        page = found.page;
        is = found.is;
      }

      pub found_before : {Levels : Type 0} (end : ℕ) → end ≤ position_count L → 3 ≤ L → (r : Result Spot (RangeEnd Levels)) → SearchFinds L root wanted (paths_in n) from end r → SearchFinds L root wanted (paths_in m) from end r
      found_before end inside three (Ok s) found = first_before end inside three s true found
      found_before end inside three (Err All) none = none_before end inside three none
      found_before end inside three (Err (More next)) none = none
      found_before end inside three (Err (LargerPage next)) found = (found.0, found.1, first_before end inside three found.0 false found.2)

    -- ---- a page more

    module _ (s : Spot) (spot : IsSpot L root (paths_in n) s) (is_used : used s.word ≡ true) where
      abbrev q : List ℕ
      q = path_at L s.level s.position

      long : length q ≡ L + 1 - s.level
      long = length_taken s.position (L + 1 - s.level) L (let low = spot.way.low in omega (arith, low))

      in_memory : (table : List ℕ) × (words (l laid_in n) s.frame ≡ Some table)
      in_memory = some_is (words (l laid_in n) s.frame) (valid_now.valid.holds.in_memory (path_at L (s.level + 1) s.position) s.frame spot.way.leads)

      pub there : IsSome (words (l laid_in n) s.frame)
      there = valid_now.valid.holds.in_memory (path_at L (s.level + 1) s.position) s.frame spot.way.leads

      seen : word (words (l laid_in n)) s.frame (index s.level s.position) ≡ s.word
      seen = sym (way_reads L (words (l laid_in n)) root (paths_in n) valid_now.valid s.position s.level s.frame spot.way) ∙ spot.reads

      place : IsInPlace l n q s.frame (index s.level s.position)
      place = record {
        above = path_at L (s.level + 1) s.position;
        is = path_up L s.level s.position spot.way.low spot.way.high;
        leads = spot.way.leads;
        table = in_memory.0;
        there = in_memory.1;
        within = within_words (words (l laid_in n)) s.frame (index s.level s.position) in_memory.0 in_memory.1 (ap used seen ∙ is_used);
        small = index_small s.level s.position;
        outside = refl;
      }

      module _ (high : s.level ≤ 3) (kind : ((s.level == 1) || huge s.word) ≡ true) (keep : KeepPages next) where
        none_named : (w : ℕ) → (huge s.word ≡ true → (w ≡ 0) ⊎ (huge w ≡ true)) → NamesNoTable L q w
        none_named w is = by (s.level == 1) refl kind
          where
            level_is : level_of L q ≤ 3
            level_is = let up = spot.way.high in omega (arith, long, high, up)

            by : (one : Bool) → (s.level == 1) ≡ one → (one || huge s.word) ≡ true → NamesNoTable L q w
            by true at h = inl (let one = eqb-true s.level 1 at in omega (arith, long, one))
            by false at h = ⊎_elim (λ zero. inr (inl zero)) (λ large. inr (inr (level_is, large))) (is h)

        pub may : MayReplace L q (entry (paths_in n) q) (next (entry (paths_in n) q))
        may = subst (λ e. MayReplace L q e (next e)) (sym spot.reads) (inl (none_named s.word (λ large. inr large), none_named (next s.word) (keep s.word)))

        module _ (k : Memory) (is : k ≡ with_word l n s.frame (index s.level s.position) (next s.word)) where
          one : (serves : ℕ → Bool) (pool : List ℕ) → PoolFits (l laid_in n) serves pool → OneChanged l serves pool n q (next (entry (paths_in n) q)) k
          one serves pool fits = subst (OneChanged l serves pool n q (next (entry (paths_in n) q))) (ap (λ e. with_word l n s.frame (index s.level s.position) (next e)) spot.reads ∙ sym is)
              (entries_may_change l mapping some serves n pool fits q s.frame (index s.level s.position) (next (entry (paths_in n) q)) place may).1

          one_alone : OneChanged l (λ f. true) [] n q (next (entry (paths_in n) q)) k
          one_alone = one (λ f. true) [] live.keeps.fits

          abbrev this : PageEntry
          this = record { start = s.position; level = s.level; word = s.word }

          pub exchanges_more : ExchangesPages l next (pages ++ this ∷ []) m k
          exchanges_more serves pool fits =
              let before = changed serves pool fits in let last = one serves pool before.keeps.fits in record {
                entries = last.changed
                    ∙ ap (λ M. put M q (next (entry M q))) before.entries
                    ∙ sym (after_more (paths_in m) (map (exchange_of L next) pages) (exchange_of L next this))
                    ∙ ap (after_happenings (paths_in m)) (sym (map-append (exchange_of L next) pages (this ∷ [])));
                tables = λ r. last.tables r ∙ before.tables r;
                keeps = record {
                  fits = last.keeps.fits;
                  conserved = λ f. (
                    λ own. (last.keeps.conserved f).0 ((before.keeps.conserved f).0 own),
                    λ own. (before.keeps.conserved f).1 ((last.keeps.conserved f).1 own),
                  );
                  others = λ i none. last.keeps.others i (λ f own. none f ((before.keeps.conserved f).1 own)) ∙ before.keeps.others i none;
                };
              }

          pub way_kept : (p level frame : ℕ) → IsOnWay L root (paths_in n) p level frame → IsOnWay L root (paths_in k) p level frame
          way_kept p level frame way = record { low = way.low; high = way.high; leads = one_alone.tables (path_at L (level + 1) p) ∙ way.leads }

          -- entries behind the page stay
          apart : (x level : ℕ) → s.position < position_count L → s.position + span s.level ≤ x → x < position_count L → 1 ≤ level → level ≤ L → path_at L level x ≢ q
          apart x level inside after to low top same =
              let long_x : length (path_at L level x) ≡ L + 1 - level = length_taken x (L + 1 - level) L (omega (arith, low)) in
              let lengths : length (path_at L level x) ≡ length q = ap length same in
              let low_s = spot.way.low in let high_s = spot.way.high in
              let level_is : level ≡ s.level = omega (arith, long, long_x, lengths, low, top, low_s, high_s) in
              let below = indices_below L root (paths_in n) (tree_of_holds L (words (l laid_in n)) root (paths_in n) valid_now.valid.holds) q (ap used spot.reads ∙ is_used) in
              let begin_s = begins_at s.position in
              let begin_x : begins q (page_path L x) ≡ true = subst (λ r. begins r (page_path L x) ≡ true) (ap (λ v. path_at L v x) (sym level_is) ∙ same) (begins_at x) in
              let in_s = (spans_are_intervals L q s.position (omega (arith, long, high_s)) (omega (arith, long, low_s)) below inside).0 begin_s in
              let in_x = (spans_are_intervals L q x (omega (arith, long, high_s)) (omega (arith, long, low_s)) below to).0 begin_x in
              let size : span_size L q ≡ span s.level = ap span (let e : L + 1 - length q ≡ s.level = omega (arith, long, high_s) in e) in
              let a = in_s.0 in let b = in_x.1 in
              absurd (omega (arith, a, b, size, after))
            where
              begins_at : (x : ℕ) → begins (path_at L s.level x) (page_path L x) ≡ true
              begins_at x = subst (λ r. begins (path_at L s.level x) r ≡ true) (take-append-drop (L + 1 - s.level) (page_path L x)) (begins_on (path_at L s.level x) (drop (L + 1 - s.level) (page_path L x)))

          pub alike_more : (from : ℕ) → AreAlikeFrom L (paths_in m) (paths_in n) from → from ≤ s.position → s.position < position_count L → AreAlikeFrom L (paths_in m) (paths_in k) (s.position + span s.level)
          alike_more from alike order inside x level after to low top =
              ap (λ M. entry M (path_at L level x)) one_alone.changed
              ∙ entry-put_other (paths_in n) q (next (entry (paths_in n) q)) (path_at L level x) (apart x level inside after to low top)
              ∙ alike x level (omega (arith, order, after)) to low top

          -- a page whose word becomes 0 is none any more
          module _ (zero : (e : ℕ) → next e ≡ 0) where
            same_or_none : (r : List ℕ) → (entry (paths_in k) r ≡ entry (paths_in n) r) ⊎ (entry (paths_in k) r ≡ 0)
            same_or_none r = ⊎_elim
                (λ is. inr (ap (λ M. entry M r) one_alone.changed ∙ ap (entry (put (paths_in n) q (next (entry (paths_in n) q)))) is
                ∙ entry-put_same (paths_in n) q (next (entry (paths_in n) q)) ∙ zero (entry (paths_in n) q)))
                (λ other. inl (ap (λ M. entry M r) one_alone.changed ∙ entry-put_other (paths_in n) q (next (entry (paths_in n) q)) r other))
                (cases_path r q)

            still_none : (r : List ℕ) (level : ℕ) → is_page used level (entry (paths_in n) r) ≡ false → is_page used level (entry (paths_in k) r) ≡ false
            still_none r level none = ⊎_elim (λ same. ap (is_page used level) same ∙ none) (λ gone. ap (is_page used level) gone ∙ zero_is_none level) (same_or_none r)

            here_none : (x : ℕ) → x / span s.level ≡ s.position / span s.level → is_page used s.level (entry (paths_in k) (path_at L s.level x)) ≡ false
            here_none x same =
                ap (λ r. is_page used s.level (entry (paths_in k) r)) (path_same L s.level s.position x spot.way.low spot.way.high same)
                ∙ ap (λ M. is_page used s.level (entry M q)) one_alone.changed
                ∙ ap (is_page used s.level) (entry-put_same (paths_in n) q (next (entry (paths_in n) q)) ∙ zero (entry (paths_in n) q)) ∙ zero_is_none s.level

            pub none_more : 3 ≤ L → leads_down s.level s.word ≡ false → s.position / span s.level * span s.level ≡ s.position → (from : ℕ)
                → HasNoPage L used (paths_in n) from s.position → HasNoPage L used (paths_in k) from (s.position + span s.level)
            none_more three ends starts from none x level after to low top = ⊎_elim
                (λ less. still_none (path_at L level x) level (none x level after less low top))
                (λ least. let same = same_number s.level s.position x (omega (arith, starts, least)) (omega (arith, starts, to)) in ⊎_elim
                (λ is. subst (λ v. is_page used v (entry (paths_in k) (path_at L v x)) ≡ false) (sym is) (here_none x same))
                (λ other. still_none (path_at L level x) level (only_here L (words (l laid_in n)) root (paths_in n) valid_now.valid s spot ends x same used zero_not_used level low (omega (arith, top, three)) other))
                (cases_eq level s.level))
                (cases_lt x s.position)
