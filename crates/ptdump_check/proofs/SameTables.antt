-- Words that are equal wherever page walks from a root lead have the same tables, the same findings and the same reserved bits.
use Rattle.std.proofs.Common.{◌≡◌, ◌∙◌, ◌<◌, ◌+◌, ◌-◌, ◌^◌, ◌==◌, ◌&&◌, ◌++◌, ℕ, zero, suc, Bool, true, false, not, cond, nat_lt, nat_le, List, [], ◌∷◌, reverse, map, filter, length, get_or, Option, Some, None, is_some, min, option_map, option_and_then, refl, sym, ap, ap₂, subst, arith, find}
use Rattle.std.proofs.lemmas.Grind.{reverse_onto}
use Rattle.std.proofs.lemmas.List.{length-reverse}
use Rattle.std.specs.List.{AllByRecursion, cons_option, dedup, dedup_from, filter_map, flat_map, fold}
use Rattle.std.specs.Option.{unwrap_or}
use Rattle.x86_64_dump.specs.Reached.{SameBelow}
use Rattle.x86_64_dump.specs.Tables.{table_named, tables_named, is_among, met, each_once, tables_of_levels, if_there, tables_by_level}
use Rattle.x86_64_mappings.specs.Wanted.{leads_to}
use Rattle.x86_64_model.specs.Entry.{present, huge, address}
use Rattle.x86_64_model.specs.Mappings.{Mapping, Rights, mappings_of}
use Rattle.x86_64_model.specs.Memory.{Words}
use Rattle.x86_64_model.specs.PageWalk.{read}
use Rattle.x86_64_model.specs.Path.{indices}
use Rattle.x86_64_model.specs.Position.{raw}
use Rattle.ptdump_check.specs.Findings as findings
use Rattle.ptdump_check.specs.ReachedTables.{all_reached, first_to, for_user, frames_in_order, reached_at, writable_for_user}
use Rattle.ptdump_check.specs.WritableTables.{all_writable, writable_at, writable_outside}
use Rattle.ptdump_check.specs.Findings.{all_named_often, entries_in, frames_above, flaw_in, flawed_entries, missing, name_by, names_in, names_in_order, processor, processor_of, table_findings, tables_by_address}
use Rattle.ptdump_check.specs.InOrder.{inserted, in_order}
use Rattle.ptdump_check.specs.declared.findings.entry.Table.{Table}
use Rattle.ptdump_check.specs.declared.findings.finding.EntryFlaw.{EntryFlaw}
use Rattle.ptdump_check.specs.declared.findings.finding.EntryFlaw.TheVariants as flaws
use Rattle.ptdump_check.specs.declared.findings.finding.Finding.TheVariants.{NotInDump}
use Rattle.ptdump_check.specs.declared.findings.finding.Finding.{Finding}
use Rattle.ptdump_check.specs.declared.checking.AddressRange.{AddressRange}
use Rattle.ptdump_check.specs.declared.checking.Checking.{Checking}
use Rattle.ptdump_check.specs.declared.findings.names.Name.{Name}
use Rattle.ptdump_check.specs.ReservedEntries.{reserved_count, reserved_entries}

-- ---- what mappings reach

abbrev first_in : (L : ℕ) → Rights → List Mapping → (physical : ℕ) → Option ℕ
first_in L rights ms a = option_map (λ m. raw L (m.start + (a - m.frame))) (first_to rights a ms)

abbrev reached_in : (L : ℕ) → List Mapping → (frame : ℕ) → Option Finding
reached_in L ms f = reached_at f (first_in L writable_for_user ms f) (first_in L for_user ms f)

abbrev writable_in : (L : ℕ) → AddressRange → List Mapping → (frame : ℕ) → Option Finding
writable_in L range ms f = writable_at f (option_map (λ m. raw L (m.start + (f - m.frame))) (find (leads_to f) (writable_outside L range ms)))

-- ---- what holds of every element

all_append : {X : Type 0} (P : X → Type 0) (xs ys : List X) → AllByRecursion P xs → AllByRecursion P ys → AllByRecursion P (xs ++ ys)
all_append P [] ys h g = g
all_append P (x ∷ xs) ys h g = (h.0, all_append P xs ys h.1 g)

all_flat_map : {X Y : Type 0} (P : X → Type 0) (Q : Y → Type 0) (f : X → List Y) → ((x : X) → P x → AllByRecursion Q (f x)) → (xs : List X) → AllByRecursion P xs → AllByRecursion Q (flat_map f xs)
all_flat_map P Q f each [] h = tt
all_flat_map P Q f each (x ∷ xs) h = all_append Q (f x) (flat_map f xs) (each x h.0) (all_flat_map P Q f each xs h.1)

all_placed : {X : Type 0} (P : X → Type 0) (n : X → ℕ) (x : X) (ys : List X) → P x → AllByRecursion P ys → AllByRecursion P (inserted n x ys)
all_placed P n x [] here h = (here, tt)
all_placed P n x (y ∷ ys) here h = elim (nat_le (n x) (n y)) as (λ b. AllByRecursion P (cond b (x ∷ y ∷ ys) (y ∷ inserted n x ys))) [
  | true ↦ (here, h)
  | false ↦ (h.0, all_placed P n x ys here h.1)
]

all_in_order : {X : Type 0} (P : X → Type 0) (n : X → ℕ) (xs : List X) → AllByRecursion P xs → AllByRecursion P (in_order n xs)
all_in_order P n [] h = tt
all_in_order P n (x ∷ xs) h = all_placed P n x (in_order n xs) h.0 (all_in_order P n xs h.1)

all_kept : (P : ℕ → Type 0) (f : ℕ) (fs : List ℕ) → P f → AllByRecursion P fs → AllByRecursion P (dedup_from (λ f g. f == g) f fs)
all_kept P f [] here h = (here, tt)
all_kept P f (g ∷ fs) here h = elim (g == f) as (λ b. AllByRecursion P (cond b (dedup_from (λ f g. f == g) f fs) (f ∷ dedup_from (λ f g. f == g) g fs))) [
  | true ↦ all_kept P f fs here h.1
  | false ↦ (here, all_kept P g fs h.0 h.1)
]

all_dedup : (P : ℕ → Type 0) (fs : List ℕ) → AllByRecursion P fs → AllByRecursion P (dedup (λ f g. f == g) fs)
all_dedup P [] h = tt
all_dedup P (f ∷ fs) h = all_kept P f fs h.0 h.1

all_met : (P : ℕ → Type 0) (seen frames : List ℕ) → AllByRecursion P seen → AllByRecursion P frames → AllByRecursion P (fold met seen frames)
all_met P seen [] h g = h
all_met P seen (f ∷ frames) h g = all_met P (met seen f) frames
    (elim (is_among seen f) as (λ b. AllByRecursion P (cond b seen (seen ++ f ∷ []))) [ true ↦ h | false ↦ all_append P seen (f ∷ []) h (g.0, tt) ]) g.1

flat_map_same : {X Y : Type 0} (f g : X → List Y) (xs : List X) → AllByRecursion (λ x. f x ≡ g x) xs → flat_map f xs ≡ flat_map g xs
flat_map_same f g [] h = refl
flat_map_same f g (x ∷ xs) h = ap₂ (λ ys zs. ys ++ zs) h.0 (flat_map_same f g xs h.1)

filter_map_same : {X Y : Type 0} (f g : X → Option Y) (xs : List X) → AllByRecursion (λ x. f x ≡ g x) xs → filter_map f xs ≡ filter_map g xs
filter_map_same f g [] h = refl
filter_map_same f g (x ∷ xs) h = ap₂ cons_option h.0 (filter_map_same f g xs h.1)

all_and : {X : Type 0} (P Q : X → Type 0) → ((x : X) → P x → Q x) → (xs : List X) → AllByRecursion P xs → AllByRecursion Q xs
all_and P Q f [] h = tt
all_and P Q f (x ∷ xs) h = (f x h.0, all_and P Q f xs h.1)

module _ (T W : Words) where
  -- ---- the tables by level

  -- what is known of a word of a table above level one
  abbrev NamesSame : (n : ℕ) → (e : ℕ) → Type 0
  NamesSame n e = present e ≡ true → huge e ≡ false → SameBelow n T W (address e)

  words_from : (n : ℕ) (words : List ℕ) → ((i : ℕ) → NamesSame n (get_or words i 0)) → AllByRecursion (NamesSame n) words
  words_from n [] h = tt
  words_from n (e ∷ words) h = (h 0, words_from n words (λ i. h (suc i)))

  -- what is known of the words of a frame
  below : (n f : ℕ) → SameBelow (suc n) T W f → AllByRecursion (NamesSame n) (unwrap_or (W f) [])
  below n f same = by (W f) same.0
    where
      by : (o : Option (List ℕ)) → T f ≡ o → AllByRecursion (NamesSame n) (unwrap_or o [])
      by None is = tt
      by (Some words) is = words_from n words (λ i there small. same.1 i (get_or words i 0) (ap (option_map (λ words. get_or words i 0)) is) there small)

  named_same : (n e : ℕ) → NamesSame (suc n) e → table_named T e ≡ table_named W e
  named_same n e h = by (present e) (huge e) refl refl
    where
      by : (a b : Bool) → present e ≡ a → huge e ≡ b → cond (a && not b && is_some (T (address e))) (Some (address e)) None ≡ cond (a && not b && is_some (W (address e))) (Some (address e)) None
      by true true p q = refl
      by true false p q = ap (λ o. cond (is_some o) (Some (address e)) None) (h p q).0
      by false b p q = refl

  tables_same : (n f : ℕ) → SameBelow (suc (suc n)) T W f → tables_named T f ≡ tables_named W f
  tables_same n f same = ap (λ o. filter_map (table_named T) (unwrap_or o [])) same.0
      ∙ filter_map_same (table_named T) (table_named W) (unwrap_or (W f) []) (all_and (NamesSame (suc n)) (λ e. table_named T e ≡ table_named W e) (named_same n) _ (below (suc n) f same))

  named_then : (n e : ℕ) (rest : List ℕ) → NamesSame n e → AllByRecursion (SameBelow n T W) rest → AllByRecursion (SameBelow n T W) (cons_option (table_named W e) rest)
  named_then n e rest same others = by (present e) (huge e) (is_some (W (address e))) refl refl
    where
      by : (a b c : Bool) → present e ≡ a → huge e ≡ b → AllByRecursion (SameBelow n T W) (cons_option (cond (a && not b && c) (Some (address e)) None) rest)
      by true true c p q = others
      by true false true p q = (same p q, others)
      by true false false p q = others
      by false b c p q = others

  named_below : (n : ℕ) (words : List ℕ) → AllByRecursion (NamesSame n) words → AllByRecursion (SameBelow n T W) (filter_map (table_named W) words)
  named_below n [] h = tt
  named_below n (e ∷ words) h = named_then n e (filter_map (table_named W) words) h.0 (named_below n words h.1)

  next_below : (n : ℕ) (frames : List ℕ) → AllByRecursion (SameBelow (suc n) T W) frames → AllByRecursion (SameBelow n T W) (each_once (flat_map (tables_named W) frames))
  next_below n frames h = all_met (SameBelow n T W) [] (flat_map (tables_named W) frames) tt
      (all_flat_map (SameBelow (suc n) T W) (SameBelow n T W) (tables_named W) (λ f same. named_below n (unwrap_or (W f) []) (below n f same)) frames h)

  from_same : (n : ℕ) (frames : List ℕ) → AllByRecursion (SameBelow n T W) frames → tables_of_levels n T frames ≡ tables_of_levels n W frames
  from_same zero frames h = refl
  from_same (suc zero) frames h = refl
  from_same (suc (suc n)) frames h =
      ap (λ fs. frames ∷ tables_of_levels (suc n) T (each_once fs)) (flat_map_same (tables_named T) (tables_named W) frames (all_and (SameBelow (suc (suc n)) T W) (λ f. tables_named T f ≡ tables_named W f) (tables_same n) frames h))
      ∙ ap (λ fs. frames ∷ fs) (from_same (suc n) (each_once (flat_map (tables_named W) frames)) (next_below (suc n) frames h))

  root_below : (n root : ℕ) → SameBelow n T W root → AllByRecursion (SameBelow n T W) (if_there W root)
  root_below n root h = elim (is_some (W root)) as (λ b. AllByRecursion (SameBelow n T W) (cond b (root ∷ []) [])) [ true ↦ (h, tt) | false ↦ tt ]

  pub same_tables : (L root : ℕ) → SameBelow L T W root → tables_by_level L T root ≡ tables_by_level L W root
  unfolding tables_by_level
  same_tables zero root same = refl
  same_tables (suc n) root same = ap reverse (ap (λ o. tables_of_levels (suc n) T (cond (is_some o) (root ∷ []) [])) same.0 ∙ from_same (suc n) (if_there W root) (root_below (suc n) root same))

  -- ---- tables in order

  abbrev LevelsFrom : (level : ℕ) → List (List ℕ) → Type 0
  LevelsFrom level [] = Unit {0}
  LevelsFrom level (frames ∷ above) = AllByRecursion (SameBelow level T W) frames × LevelsFrom (level + 1) above

  one_above : (level : ℕ) (levels : List (List ℕ)) (frames : List ℕ) → LevelsFrom level levels → AllByRecursion (SameBelow (level + length levels) T W) frames → LevelsFrom level (levels ++ frames ∷ [])
  one_above level [] frames h last = let here : level + 0 ≡ level = omega arith in (subst (λ k. AllByRecursion (SameBelow k T W) frames) here last, tt)
  one_above level (first ∷ levels) frames h last =
      let above : level + suc (length levels) ≡ level + 1 + length levels = omega arith in (h.0, one_above (level + 1) levels frames h.1 (subst (λ k. AllByRecursion (SameBelow k T W) frames) above last))

  count_from : (n : ℕ) (frames : List ℕ) → length (tables_of_levels n W frames) ≡ n
  count_from zero frames = refl
  count_from (suc n) frames = ap suc (count_from n (each_once (flat_map (tables_named W) frames)))

  levels_from : (n : ℕ) (frames : List ℕ) → AllByRecursion (SameBelow n T W) frames → LevelsFrom 1 (reverse (tables_of_levels n W frames))
  levels_from zero frames h = tt
  levels_from (suc n) frames h =
      let below = tables_of_levels n W (each_once (flat_map (tables_named W) frames)) in
      let count : length (reverse below) ≡ n = length-reverse below ∙ count_from n _ in
      let top : suc n ≡ 1 + length (reverse below) = omega (arith, count) in
      subst (LevelsFrom 1) (sym (reverse_onto below frames []))
      (one_above 1 (reverse below) frames (levels_from n _ (next_below n frames h)) (subst (λ k. AllByRecursion (SameBelow k T W) frames) top h))

  abbrev TableSame : Table → Type 0
  TableSame t = (T t.frame ≡ W t.frame) × SameBelow t.level T W t.frame

  frame_same : (level f : ℕ) → 0 < level → SameBelow level T W f → T f ≡ W f
  frame_same zero f some same = absurd (omega (arith, some))
  frame_same (suc n) f some same = same.0

  of_level : (level : ℕ) (frames : List ℕ) → 0 < level → AllByRecursion (SameBelow level T W) frames → AllByRecursion TableSame (map (λ f. record { frame = f; level = level }) frames)
  of_level level [] some h = tt
  of_level level (f ∷ frames) some h = ((frame_same level f some h.0, h.0), of_level level frames some h.1)

  of_levels : (level : ℕ) (levels : List (List ℕ)) → 0 < level → LevelsFrom level levels → AllByRecursion TableSame (findings.tables_from_level level levels)
  of_levels level [] some h = tt
  of_levels level (frames ∷ above) some h = all_append TableSame _ _ (of_level level frames some h.0) (of_levels (level + 1) above (omega arith) h.1)

  each_below : (L root : ℕ) → SameBelow L T W root → AllByRecursion TableSame (findings.tables_from_level 1 (tables_by_level L W root))
  unfolding tables_by_level
  each_below L root same = of_levels 1 _ (omega arith) (levels_from L (if_there W root) (root_below L root same))

  tables_below : (L root : ℕ) → SameBelow L T W root → AllByRecursion TableSame (tables_by_address (tables_by_level L W root))
  unfolding tables_by_address
  tables_below L root same = all_in_order TableSame (λ t. t.frame) (findings.tables_from_level 1 (tables_by_level L W root)) (each_below L root same)

  -- ---- names

  -- a frame with a table above level one
  abbrev AboveSame : (frame : ℕ) → Type 0
  AboveSame f = (n : ℕ) × SameBelow (suc (suc n)) T W f

  above_of : (level frame : ℕ) → nat_lt 1 level ≡ true → SameBelow level T W frame → AboveSame frame
  above_of zero f is same = let no : false ≡ true = is in cc
  above_of (suc zero) f is same = let no : false ≡ true = is in cc
  above_of (suc (suc n)) f is same = (n, same)

  all_above : (ts : List Table) → AllByRecursion TableSame ts → AllByRecursion AboveSame (map (λ t. t.frame) (filter (λ t. nat_lt 1 t.level) ts))
  all_above [] h = tt
  all_above (t ∷ ts) h = elim (nat_lt 1 t.level) as (λ b. nat_lt 1 t.level ≡ b → AllByRecursion AboveSame (map (λ t. t.frame) (cond b (t ∷ filter (λ t. nat_lt 1 t.level) ts) (filter (λ t. nat_lt 1 t.level) ts)))) [
    | true ↦ λ is. (above_of t.level t.frame is h.0.1, all_above ts h.1)
    | false ↦ λ other. all_above ts h.1
  ] refl

  abbrev NameSame : Name → Type 0
  NameSame n = T n.frame ≡ W n.frame

  frame_names : (f : ℕ) → AboveSame f → names_in T f ≡ names_in W f
  unfolding names_in
  frame_names f same = ap (λ o. filter_map (λ i. option_and_then (name_by (record { table = f; index = i })) (option_map (λ words. get_or words i 0) o)) indices) same.1.0

  -- the names at an index
  name_then : (n f i e : ℕ) (rest : List Name) → NamesSame (suc n) e → AllByRecursion NameSame rest
      → AllByRecursion NameSame (cons_option (name_by (record { table = f; index = i }) e) rest)
  name_then n f i e rest same others = by (present e) (huge e) refl refl
    where
      by : (a b : Bool) → present e ≡ a → huge e ≡ b → AllByRecursion NameSame (cons_option (cond (a && not b) (Some (record { frame = address e; by = record { table = f; index = i } })) None) rest)
      by true true p q = others
      by true false p q = ((same p q).0, others)
      by false b p q = others

  name_same : (n f : ℕ) → SameBelow (suc (suc n)) T W f → (is : List ℕ) → AllByRecursion NameSame (filter_map (λ i. option_and_then (name_by (record { table = f; index = i })) (read W f i)) is)
  name_same n f same [] = tt
  name_same n f same (i ∷ is) = by (read W f i) (ap (option_map (λ words. get_or words i 0)) same.0) (name_same n f same is)
    where
      by : (o : Option ℕ) → read T f i ≡ o → AllByRecursion NameSame (filter_map (λ i. option_and_then (name_by (record { table = f; index = i })) (read W f i)) is)
          → AllByRecursion NameSame (cons_option (option_and_then (name_by (record { table = f; index = i })) o) (filter_map (λ i. option_and_then (name_by (record { table = f; index = i })) (read W f i)) is))
      by None is_read others = others
      by (Some e) is_read others = name_then n f i e _ (λ there small. same.1 i e is_read there small) others

  frame_name_same : (f : ℕ) → AboveSame f → AllByRecursion NameSame (names_in W f)
  unfolding names_in
  frame_name_same f same = name_same same.0 f same.1 indices

  same_names : (ts : List Table) → AllByRecursion TableSame ts → names_in_order T ts ≡ names_in_order W ts
  unfolding names_in_order
  same_names ts h = ap (in_order (λ n. n.frame)) (flat_map_same (names_in T) (names_in W) (frames_above ts)
      (all_and AboveSame (λ f. names_in T f ≡ names_in W f) frame_names (frames_above ts) (all_dedup AboveSame _ (all_above ts h))))

  names_same : (ts : List Table) → AllByRecursion TableSame ts → AllByRecursion NameSame (names_in_order W ts)
  unfolding names_in_order
  names_same ts h = all_in_order NameSame (λ n. n.frame) _ (all_flat_map AboveSame NameSame (names_in W) frame_name_same (frames_above ts) (all_dedup AboveSame _ (all_above ts h)))

  -- ---- findings

  abbrev EntriesSame : EntryFlaw → Table → Type 0
  EntriesSame flaw t = filter_map (flaw_in flaw) (entries_in T t) ≡ filter_map (flaw_in flaw) (entries_in W t)

  table_entries : (flaw : EntryFlaw) (t : Table) → TableSame t → EntriesSame flaw t
  unfolding entries_in
  table_entries flaw t same = ap (λ o. filter_map (flaw_in flaw) (filter_map (λ i. option_map (λ e. record { slot = record { table = t.frame; index = i }; level = t.level; word = e }) (option_map (λ words. get_or words i 0) o)) indices)) same.0

  same_entries : (flaw : EntryFlaw) (ts : List Table) → AllByRecursion TableSame ts → flawed_entries flaw T ts ≡ flawed_entries flaw W ts
  same_entries flaw ts all = flat_map_same (λ t. filter_map (flaw_in flaw) (entries_in T t)) (λ t. filter_map (flaw_in flaw) (entries_in W t)) ts (all_and TableSame (EntriesSame flaw) (table_entries flaw) ts all)

  same_reached : (L root : ℕ) (ts : List Table) → mappings_of L T root ≡ mappings_of L W root → all_reached L T root ts ≡ all_reached L W root ts
  unfolding all_reached
  same_reached L root ts mapped = ap (λ ms. filter_map (reached_in L ms) (frames_in_order ts)) mapped

  same_writable : (L root : ℕ) (direct_map : Option AddressRange) (ts : List Table) → mappings_of L T root ≡ mappings_of L W root → all_writable L T root direct_map ts ≡ all_writable L W root direct_map ts
  unfolding all_writable
  same_writable L root None ts mapped = refl
  same_writable L root (Some range) ts mapped = ap (λ ms. filter_map (writable_in L range ms) (frames_in_order ts)) mapped

  pub same_findings : (checking : Checking) (L root : ℕ) → mappings_of L T root ≡ mappings_of L W root → SameBelow L T W root → table_findings checking L T root ≡ table_findings checking L W root
  unfolding table_findings
  same_findings checking L root maps same =
      let processor = processor_of checking in
      let mapped : Words → List Table → List Finding = λ V ts. all_reached L V root ts ++ all_writable L V root checking.direct_map ts in
      let ts = tables_by_address (tables_by_level L W root) in
      let all = tables_below L root same in
      let lacks = filter_map_same (missing T) (missing W) (names_in_order W ts)
      (all_and NameSame (λ n. missing T n ≡ missing W n) (λ n is. ap (λ o. cond (is_some o) None (Some (NotInDump n.frame n.by))) is) _ (names_same ts all)) in
      ap (λ levels. findings.findings_by processor T root (tables_by_address levels) (names_in_order T (tables_by_address levels)) ++ mapped T (tables_by_address levels)) (same_tables L root same)
      ∙ ap (λ ns. findings.findings_by processor T root ts ns ++ mapped T ts) (same_names ts all)
      ∙ ap (λ fs. findings.findings_by processor T root ts (names_in_order W ts) ++ fs) (ap₂ (λ fs gs. fs ++ gs) (same_reached L root ts maps) (same_writable L root checking.direct_map ts maps))
      ∙ (λ i. (all_named_often (names_in_order W ts) root ++ lacks i ++ same_entries flaws.HugePage ts all i ++ same_entries (flaws.ReservedBits processor) ts all i) ++ mapped W ts)

  -- ---- reserved bits

  pub same_reserved : (L root : ℕ) → SameBelow L T W root → reserved_count L T root ≡ reserved_count L W root
  unfolding reserved_count
  same_reserved L root same =
      let ts = findings.tables_from_level 1 (tables_by_level L W root) in
      let all = each_below L root same in
      ap (λ levels. min (length (reserved_entries T (findings.tables_from_level 1 levels))) (2 ^ 64 - 1)) (same_tables L root same)
      ∙ (λ i. min (length (same_entries flaws.HugePage ts all i ++ same_entries (flaws.ReservedBits processor) ts all i)) (2 ^ 64 - 1))
