-- A page of 4KiB that stands (is mapped as `map_to` maps it) is a mapping, and is listed.
use Rattle.std.proofs.Common.{◌≡◌, inl, inr, ⊎_elim, ◌<◌, ◌+◌, ◌*◌, ◌/◌, ◌-◌, ◌%◌, ◌^◌, ◌&&◌, ℕ, Bool, true, false, not, cond, List, [], ◌∷◌, Option, Some, None, filter_map, get_or, bit_and, bit_or, refl, sym, ap, ◌∙◌, subst, subst₂, arith}
use Rattle.std.proofs.lemmas.Bool.{and_from, and_parts, and_right}
use Rattle.std.specs.List.{All, cons_option, list_all, range_with_len}
use Rattle.x86_64_model.specs.Entry.{has, present, no_execute, flags, address}
use Rattle.x86_64_model.specs.Validity.{paths_of}
use Rattle.x86_64_model.specs.Laws.Mappings.{entries_along}
use Rattle.x86_64_model.specs.Hierarchy.{◌laid_in◌, Valid}
use Rattle.x86_64_model.specs.Lists.{In}
use Rattle.x86_64_model.specs.MapRule.{parent_part}
use Rattle.x86_64_model.specs.Mappings.{Mapping, is_leaf, leaf_of, mapping_at, mapping_of, mappings_of}
use Rattle.x86_64_model.specs.Memory.{Memory, Words, identity_places, words_of}
use Rattle.x86_64_model.specs.PageMappings.{PageMapping}
use Rattle.x86_64_model.specs.Path.{AllBelow, path_at, paths_below}
use Rattle.x86_64_model.specs.PathMap.{PathMap, entry}
use Rattle.x86_64_model.specs.Position.{index, page_path, position_count, span}
use Rattle.x86_64_model.specs.Standing.{IsParent, IsMappedIn}
use Rattle.x86_64_model.specs.Window.{IsValidFor}
use Rattle.x86_64_tables.specs.PageTableFlags.{bits_of}
use Rattle.x86_64_mappers.specs.Layouts.{direct, owned}
use Rattle.x86_64_loader.specs.Segments.{IsLoaded, page_mapping as page_mapping, small_pages}
use Rattle.x86_64_loader.specs.declared.segment.Segment.{Segment}
use Rattle.uses.specs.Listed.{AreListed, IsListed}
use Rattle.x86_64_model.proofs.Lemmas.Entries.Bits.{address_or, and_or_distrib, no_flag, only_flags}
use Rattle.x86_64_model.proofs.Lemmas.Hierarchies.Exists.{in_paths_below}
use Rattle.x86_64_model.proofs.Lemmas.Lists.All.{at_member}
use Rattle.x86_64_model.proofs.Lemmas.Lists.Members.{in_map, in_range}
use Rattle.x86_64_model.proofs.Lemmas.Mappings.Chains.{find_member, has_from}
use Rattle.x86_64_model.proofs.Lemmas.Mappings.EntriesAlong.{mappings_are_leaves}
use Rattle.x86_64_model.proofs.Lemmas.Mappings.Positions.{mappings_chain}
use Rattle.x86_64_model.proofs.Lemmas.Maps.Arrives.{part_has}
use Rattle.x86_64_model.proofs.Lemmas.Walks.Walked.{index_small}
use Rattle.x86_64_mappers.proofs.Way.PagePaths.{start_of_path}

-- what h returns for an element is in the list of all its results
in_filter_map : {X Y : Type 0} (h : X → Option Y) (xs : List X) (x : X) (y : Y) → In xs x → h x ≡ Some y → In (filter_map h xs) y
in_filter_map h [] x y i is = absurd i
in_filter_map {X} {Y} h (z ∷ xs) x y i is = ⊎_elim
    (λ same. let here : h z ≡ Some y = ap h same ∙ is in subst (λ o. In (cons_option o (filter_map h xs)) y) (sym here) (inl refl))
    (λ i. by (h z) (in_filter_map h xs x y i is)) i
  where
    by : (o : Option Y) → In (filter_map h xs) y → In (cons_option o (filter_map h xs)) y
    by None i = i
    by (Some w) i = inr i

-- all words have a right if and only if the last one has it, provided that each word above then has it too
all_but_last : (right : ℕ → Bool) (a b c e : ℕ) (v : Bool) → right e ≡ v → (v ≡ true → (right a ≡ true) × (right b ≡ true) × (right c ≡ true)) → list_all right (a ∷ b ∷ c ∷ e ∷ []) ≡ v
all_but_last right a b c e true last above = let on = above refl in and_from _ _ on.0 (and_from _ _ on.1 (and_from _ _ on.2 (and_from _ _ last refl)))
all_but_last right a b c e false last above =
    and_right (right a) _ (and_right (right b) _ (and_right (right c) _ (ap (λ x. x && true) last)))

-- ---- the mapping of a path

module _ (T : Words) (root : ℕ) (M : PathMap) (valid : IsValidFor 4 None T root M) (i j k l frame given : ℕ) (below : AllBelow (i ∷ j ∷ k ∷ l ∷ []))
    (stands : IsMappedIn 4 1 M (i ∷ j ∷ k ∷ l ∷ []) frame given) where
  abbrev path : List ℕ
  path = i ∷ j ∷ k ∷ l ∷ []

  abbrev Parent : ℕ → Type 0
  Parent = IsParent (parent_part given)

  own_is : entry M path ≡ bit_or frame given
  own_is = stands.own_entry

  is_frame : address frame ≡ frame
  is_frame = stands.asks.is_frame

  -- the words of the path are those of a leaf
  parent_goes_on : (n e f : ℕ) (words : List ℕ) → Parent e → is_leaf (n - 1) (f ∷ words) ≡ true → is_leaf n (e ∷ f ∷ words) ≡ true
  unfolding is_leaf
  parent_goes_on n e f words parent rest =
      and_from _ _ (and_from _ _ (parent.has_flags 1 (part_has given 1 refl ∙ stands.asks.is_present)) (and_parts _ _ parent.is_table).1) rest

  own_leaf : is_leaf 1 (entry M path ∷ []) ≡ true
  unfolding is_leaf
  own_leaf = and_from _ _ (ap present own_is ∙ only_flags frame given 1 is_frame refl ∙ stands.asks.is_present) refl

  leaf : is_leaf 4 (entries_along M path) ≡ true
  leaf =
      parent_goes_on 4 _ _ _ stands.below.0 (
      parent_goes_on 3 _ _ _ stands.below.1.0 (
      parent_goes_on 2 _ _ _ stands.below.1.1.0 own_leaf))

  abbrev mapping : Mapping
  mapping = mapping_of 4 path (entries_along M path)

  pub is_mapped : mapping_at 4 T root path ≡ Some mapping
  unfolding leaf_of
  is_mapped =
      mappings_are_leaves 4 T root M None valid path (λ is. cc) below refl
      ∙ ap (λ b. cond b (Some mapping) None) leaf

  pub mapping_listed : In (mappings_of 4 T root) mapping
  unfolding mappings_of
  mapping_listed = in_filter_map (mapping_at 4 T root) (paths_below 4 []) path mapping (in_paths_below 4 [] i (j ∷ k ∷ l ∷ []) (omega arith) below) is_mapped

  -- the mapping's contents
  pub frame_is : mapping.frame ≡ frame
  frame_is =
      ap (λ e. address e / 4096 * 4096) own_is
      ∙ ap (λ f. f / 4096 * 4096) (address_or frame given stands.asks.no_address ∙ is_frame)
      ∙ (let whole = stands.asks.aligned in omega (arith, whole))

  pub flags_are : mapping.flags ≡ flags given
  unfolding flags
  flags_are = ap (λ e. bit_and e 0xfff0_0000_0000_0fff) own_is ∙ and_or_distrib frame given 0xfff0_0000_0000_0fff
      ∙ ap (λ n. bit_or n (bit_and given 0xfff0_0000_0000_0fff)) (no_flag frame 0xfff0_0000_0000_0fff is_frame refl)

  granted : (flag : ℕ) → bit_and 7 flag ≡ flag → bit_and 0x000f_ffff_ffff_f000 flag ≡ 0 → list_all (λ e. has e flag) (entries_along M path) ≡ has given flag
  granted flag low no_address =
      all_but_last (λ e. has e flag) _ _ _ _ (has given flag) (ap (λ e. has e flag) own_is ∙ only_flags frame given flag is_frame no_address) (λ on.
      let part = part_has given flag low ∙ on in (stands.below.0.has_flags flag part, stands.below.1.0.has_flags flag part, stands.below.1.1.0.has_flags flag part))

  pub not_executed : no_execute given ≡ true → mapping.rights.execute ≡ false
  not_executed on =
      let last : not (no_execute (entry M path)) ≡ false = ap (λ e. not (no_execute e)) own_is ∙ ap not (only_flags frame given 0x8000_0000_0000_0000 is_frame refl ∙ on) in
      let executes : ℕ → Bool = λ e. not (no_execute e) in
      and_right (executes (entry M (i ∷ []))) _ (and_right (executes (entry M (i ∷ j ∷ []))) _ (and_right (executes (entry M (i ∷ j ∷ k ∷ []))) _ (ap (λ x. x && true) last)))

-- ---- the mapping of a page

module _ (T : Words) (root : ℕ) (M : PathMap) (valid : IsValidFor 4 None T root M) (page frame given : ℕ) (aligned : page % 0x1000 ≡ 0) (inside : page < 2 ^ 48) where
  pub page_listed : IsMappedIn 4 1 M (path_at 4 1 page) frame given → IsListed (mappings_of 4 T root) page frame given
  unfolding page_path
  page_listed stands =
      let i = index 4 page in let j = index 3 page in let k = index 2 page in let l = index 1 page in
      let below : AllBelow (i ∷ j ∷ k ∷ l ∷ []) = (index_small 4 page, (index_small 3 page, (index_small 2 page, (index_small 1 page, tt)))) in
      let m = mapping_of 4 (i ∷ j ∷ k ∷ l ∷ []) (entries_along M (i ∷ j ∷ k ∷ l ∷ [])) in
      let start : m.start ≡ page = start_of_path 4 page (omega arith) inside aligned in
      record {
        mapping = m;
        found = λ p from to. find_member p 0 (position_count 4) (mappings_of 4 T root) (mappings_chain 4 T root) m (mapping_listed T root M valid i j k l frame given below stands)
            (has_from p m (omega (arith, start, from)) (omega (arith, start, to)));
        start = start;
        size = refl;
        frame = frame_is T root M valid i j k l frame given below stands;
        flags = flags_are T root M valid i j k l frame given below stands;
        write = granted T root M valid i j k l frame given below stands 2 refl refl;
        user = granted T root M valid i j k l frame given below stands 4 refl refl;
        execute = not_executed T root M valid i j k l frame given below stands;
      }

-- ---- the pages of segments

pub segments_listed : (root : ℕ) (memory : Memory) (segments : List Segment) → Valid (direct identity_places root laid_in memory)
    → All (IsLoaded small_pages (owned identity_places root memory (tt {0}))) segments → All (AreListed (mappings_of 4 (words_of memory identity_places) root)) segments
segments_listed root memory segments valid loaded n d within k below =
    let s = get_or segments n d in
    let its = loaded n d within in
    let T = words_of memory identity_places in
    let M = paths_of 4 T root in
    let P : ℕ → ℕ → Type 0 = λ page frame. IsMappedIn 4 1 M (path_at 4 1 page) frame (bits_of s.flags) in
    let at : ℕ → PageMapping = λ k. page_mapping 1 (s.page + 0 * 0x1000 + k * span 1) (s.frame + 0 * 0x1000 + k * span 1) (bits_of s.flags) in
    let stands = at_member (λ x. IsMappedIn 4 x.level M (path_at 4 x.level x.page) x.frame x.flags) (small_pages s) its.stand (at (0 + k)) (in_map at (range_with_len 0 s.pages) (0 + k) (in_range s.pages 0 k below)) in
    let number : (start : ℕ) → start + 0 * 0x1000 + (0 + k) * 0x1000 ≡ start + k * 0x1000 = λ start. omega arith in
    page_listed T root M valid (s.page + k * 0x1000) (s.frame + k * 0x1000) (bits_of s.flags) (let start = its.aligned in omega (arith, start)) (its.there (k * 0x1000) (omega (arith, below)))
    (subst₂ P (number s.page) (number s.frame) stands)
