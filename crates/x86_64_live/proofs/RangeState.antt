-- How far a loop has come that changes the words of the pages of a range, one after another.
use Rattle.std.proofs.Common.{◌≡◌, ◌∙◌, ◌<◌, ◌≤◌, ◌+◌, ◌*◌, ◌/◌, ◌%◌, ◌==◌, ◌||◌, ℕ, Bool, true, false, List, [], length, map, Result, Ok, Err, IsSome, inr, refl, sym, ap, subst, subst₂, arith}
use Rattle.std.proofs.lemmas.Bool.{and_parts}
use Rattle.x86_64_live.proofs.PageSpots.{goes_past, none_joined, on_root}
use Rattle.x86_64_live.proofs.PagesBetween.{between_none}
use Rattle.x86_64_live.proofs.PagesListed.{listed_alone, next_is, next_within, page_ends, pages_more, pages_reached, same_up, top, whole_more}
use Rattle.x86_64_live.proofs.PagesChanged.{alike_more, exchanges_more, exchanges_none, found_before, none_more, there, valid_now, way_kept}
use Rattle.x86_64_mappers.specs.Layouts.{direct_at}
use Rattle.x86_64_live.specs.PageRanges.{AllWhole, ExchangesPages, HasNoPage, ListsPages, PageEntry, page_entries, reached, told}
use Rattle.x86_64_live.specs.private.RangeSteps.{AreAlikeFrom, IsFirstPage, IsOnWay, IsSpot, IsWithin, KeepPages, SearchFinds, StartsAt}
use Rattle.x86_64_live.specs.declared.ranges.RangeEnd.{RangeEnd}
use Rattle.x86_64_live.specs.declared.ranges.search.Cursor.{Cursor}
use Rattle.x86_64_live.specs.declared.ranges.search.Spot.{Spot}
use Rattle.x86_64_model.specs.Entry.{huge, used}
use Rattle.x86_64_model.specs.Hierarchy.{◌laid_in◌, Valid, paths, words}
use Rattle.x86_64_model.specs.Laws.EntriesInPlace.{with_word}
use Rattle.x86_64_model.specs.Layout.{Layout}
use Rattle.x86_64_model.specs.Memory.{IsMapping, Memory, Places}
use Rattle.x86_64_model.specs.PathMap.{PathMap}
use Rattle.x86_64_model.specs.Position.{index, position_count, span}

-- the range from `first` to the page at `last`, which ends before `end`, in a memory whose hierarchy is valid
pub record IsRange (L : ℕ) (places : Places) (root : ℕ) (m : Memory) (first last end : ℕ) : Type 0 where
  pub mapping : IsMapping places
  pub three : 3 ≤ L
  pub valid : Valid (direct_at L places root laid_in m)
  pub first_whole : first % 4096 ≡ 0
  pub last_whole : last % 4096 ≡ 0
  pub end_is : end ≡ last + 4096
  pub inside : end ≤ position_count L

pub is_range : {L : ℕ} {places : Places} {root : ℕ} {m : Memory} {first last end place : ℕ} → IsMapping places → 3 < L → Valid (direct_at L places root laid_in m) → place ≡ first → place % 4096 ≡ 0
    → end ≡ last + 4096 → end ≤ position_count L → last % 4096 ≡ 0 → IsRange L places root m first last end
is_range mapping four valid is whole end_is inside last_whole =
    record { mapping = mapping; three = omega (arith, four); valid = valid; first_whole = subst (λ n. n % 4096 ≡ 0) is whole; last_whole = last_whole; end_is = end_is; inside = inside }

-- the words of the wanted pages before the cursor have changed, behind it nothing has, and the cursor is on the way
pub record ComesTo (L : ℕ) (places : Places) (root : ℕ) (m : Memory) (first end : ℕ) (wanted : ℕ → Bool) (next : ℕ → ℕ) (c : Cursor) (n : Memory) : Type 0 where
  pub whole : AllWhole L wanted (paths (direct_at L places root laid_in m)) first c.position
  pub within : IsWithin first end c.position
  pub way : c.position < end → IsOnWay L root (paths (direct_at L places root laid_in n)) c.position c.level c.frame
  pub changes : ExchangesPages (direct_at L places root) next (page_entries L wanted (paths (direct_at L places root laid_in m)) first c.position) m n
  pub alike : AreAlikeFrom L (paths (direct_at L places root laid_in m)) (paths (direct_at L places root laid_in n)) c.position

module _ {L : ℕ} {places : Places} {root : ℕ} {m : Memory} {first last end : ℕ} (r : IsRange L places root m first last end) where
  abbrev l : Layout
  l = direct_at L places root

  abbrev paths_in : Memory → PathMap
  paths_in n = paths (l laid_in n)

  some : 0 < L
  some = let three = r.three in omega (arith, three)

  pub starts : (wanted : ℕ → Bool) (next : ℕ → ℕ) (c : Cursor) → c.position ≡ first → c.frame ≡ root → c.level ≡ L → ComesTo L places root m first end wanted next c m
  starts wanted next c start frame level = record {
    whole = λ x level from to low high page. absurd (omega (arith, start, from, to));
    within = record { from = omega (arith, start); to = inr start; aligned = ap (λ n. n % 4096) start ∙ r.first_whole };
    way = λ less. subst₂ (IsOnWay L root (paths_in m) c.position) (sym level) (sym frame) (on_root L (words (l laid_in m)) root (paths_in m) r.valid.valid c.position some);
    changes = subst (λ ps. ExchangesPages l next ps m m) (sym (ap (page_entries L wanted (paths_in m) first) start ∙ between_none L wanted (paths_in m) first))
        (exchanges_none L places root r.mapping some next m);
    alike = λ x level after to low high. refl;
  }

  module _ {wanted : ℕ → Bool} {next : ℕ → ℕ} {c : Cursor} {n : Memory} (here : ComesTo L places root m first end wanted next c n) where
    abbrev pages : List PageEntry
    pages = page_entries L wanted (paths_in m) first c.position

    pub valid_here : Valid (l laid_in n)
    valid_here = valid_now L places root r.mapping some next pages m n r.valid here.changes

    pub within_range : IsWithin first (last + 4096) c.position
    within_range = subst (λ n. IsWithin first n c.position) r.end_is here.within

    inside : last + 4096 ≤ position_count L
    inside = subst (λ n. n ≤ position_count L) r.end_is r.inside

    pub was_found : {Levels : Type 0} (found : Result Spot (RangeEnd Levels)) → SearchFinds L root wanted (paths_in n) c.position end found → SearchFinds L root wanted (paths_in m) c.position (last + 4096) found
    was_found {Levels} found is =
        found_before L places root r.mapping some next pages m n r.valid here.changes c.position here.alike wanted (last + 4096) inside r.three found
        (subst (λ to. SearchFinds {Levels = Levels} L root wanted (paths_in n) c.position to found) r.end_is is)

    pub was_first : (s : Spot) → IsFirstPage L root wanted (paths_in n) c.position end s true → IsFirstPage L root wanted (paths_in m) c.position (last + 4096) s true
    was_first s is = was_found {Levels = Unit {0}} (Ok s) is

    pub table_there : (s : Spot) → IsSpot L root (paths_in n) s → used s.word ≡ true → IsSome (words (l laid_in n) s.frame)
    table_there s = there L places root r.mapping some next pages m n r.valid here.changes s

    -- the pages up to where the range ends have changed
    module _ (zero : wanted 0 ≡ false) where
      pub listed : ListsPages L wanted (paths_in m) first c.position (length pages) [] (map (told L) pages)
      listed = listed_alone L wanted (paths_in m) (words (l laid_in m)) root r.valid.valid r.three zero first c.position here.whole

      pub changes_all : {Levels : Type 0} (stop : RangeEnd Levels) → SearchFinds L root wanted (paths_in n) c.position end (Err stop)
          → ExchangesPages l next (page_entries L wanted (paths_in m) first (reached last stop)) m n
      changes_all {Levels} stop is =
          subst (λ ps. ExchangesPages l next ps m n)
          (pages_reached L wanted (paths_in m) (words (l laid_in m)) root r.valid.valid r.three zero Levels first last r.first_whole r.last_whole [] c.position (length pages) (map (told L) pages) within_range listed stop
          (was_found (Err stop) is)) here.changes

      pub changes_up : (s : Spot) → IsFirstPage L root wanted (paths_in n) c.position end s true → ExchangesPages l next (page_entries L wanted (paths_in m) first s.position) m n
      changes_up s is = let found = was_first s is in
          subst (λ ps. ExchangesPages l next ps m n) (same_up L wanted (paths_in m) first r.first_whole [] c.position s.position within_range.from found.after within_range.aligned found.none) here.changes

      -- a page more
      module _ (keep : KeepPages next) (s : Spot) (is : IsFirstPage L root wanted (paths_in n) c.position end s true) (is_used : used s.word ≡ true)
          (k : Memory) (written : k ≡ with_word l n s.frame (index s.level s.position) (next s.word)) (past : Cursor)
          (behind : past.position ≡ s.position / span s.level * span s.level + span s.level) (table : StartsAt L root s.frame s.level past) where
        found : IsFirstPage L root wanted (paths_in m) c.position (last + 4096) s true
        found = was_first s is

        kind : ((s.level == 1) || huge s.word) ≡ true
        kind = (and_parts (wanted s.word) ((s.level == 1) || huge s.word) is.page).1

        high : s.level ≤ 3
        high = top L wanted (paths_in m) (words (l laid_in m)) root r.valid.valid r.three zero first last r.first_whole r.last_whole [] c.position (length pages) (map (told L) pages) within_range listed s true found

        goes : past.position ≡ s.position + span s.level
        goes = behind ∙ next_is L wanted (paths_in m) (words (l laid_in m)) root r.valid.valid r.three zero first last r.first_whole r.last_whole [] c.position (length pages) (map (told L) pages) within_range listed s true found refl

        lies : s.position < position_count L
        lies = let before = found.before in let within = inside in omega (arith, before, within)

        pub goes_on : ComesTo L places root m first end wanted next past k
        goes_on = record {
          whole = subst (AllWhole L wanted (paths_in m) first) (sym goes)
              (whole_more L wanted (paths_in m) (words (l laid_in m)) root r.valid.valid r.three zero first last r.first_whole r.last_whole [] c.position (length pages) (map (told L) pages) within_range listed s true found refl);
          within = subst₂ (IsWithin first) (sym r.end_is) (sym goes)
              (next_within L wanted (paths_in m) (words (l laid_in m)) root r.valid.valid r.three zero first last r.first_whole r.last_whole [] c.position (length pages) (map (told L) pages) within_range listed s true found refl);
          way = λ less. way_kept L places root r.mapping some next pages m n r.valid here.changes s is.spot is_used high kind keep k written past.position past.level past.frame
              (goes_past L (words (l laid_in n)) root (paths_in n) valid_here.valid s is.spot (page_ends wanted s.level s.word is.page) some past behind table);
          changes = subst (λ ps. ExchangesPages l next ps m k)
              (sym (ap (page_entries L wanted (paths_in m) first) goes ∙ pages_more L wanted (paths_in m) (words (l laid_in m)) root r.valid.valid r.three zero first last r.first_whole r.last_whole [] c.position (length pages)
              (map (told L) pages) within_range listed s true found refl))
              (exchanges_more L places root r.mapping some next pages m n r.valid here.changes s is.spot is_used high kind keep k written);
          alike = subst (AreAlikeFrom L (paths_in m) (paths_in k)) (sym goes)
              (alike_more L places root r.mapping some next pages m n r.valid here.changes s is.spot is_used high kind keep k written c.position here.alike found.after lies);
        }

        -- none is left, if their words become 0
        pub none_on : ((e : ℕ) → next e ≡ 0) → wanted ≡ used → HasNoPage L used (paths_in n) first c.position → HasNoPage L used (paths_in k) first past.position
        none_on gone same none = subst (HasNoPage L used (paths_in k) first) (sym goes)
            (none_more L places root r.mapping some next pages m n r.valid here.changes s is.spot is_used high kind keep k written gone r.three (page_ends wanted s.level s.word is.page) start first
            (none_joined L (words (l laid_in n)) root (paths_in n) valid_here.valid used first c.position s.position none (subst (λ w. HasNoPage L w (paths_in n) c.position s.position) same is.none)))
          where
            start : s.position / span s.level * span s.level ≡ s.position
            start = let e = sym behind ∙ goes in omega (arith, e)
