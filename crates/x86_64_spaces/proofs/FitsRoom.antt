-- The tables of address spaces and a pool are sound and few enough for an array exactly if these are address spaces with room.
use Rattle.std.proofs.Common.{◌≡◌, ◌↔◌, inl, inr, ⊎_elim, ◌<◌, ◌≤◌, ◌+◌, ◌^◌, ℕ, zero, suc, None, get_or, Bool, true, List, [], ◌∷◌, ◌++◌, length, reverse, Some, IsSome, refl, ap, ◌∙◌, subst, arith}
use Rattle.std.proofs.lemmas.List.{length-append}
use Rattle.std.proofs.lemmas.List.Elements.{All-from_get_or}
use Rattle.std.specs.List.{All}
use Rattle.x86_64_model.specs.Entry.{is_frame}
use Rattle.x86_64_model.specs.Layout.{Layout}
use Rattle.x86_64_model.specs.Hierarchy.{◌laid_in◌, paths, words}
use Rattle.x86_64_model.specs.Lists.{In, EachOnce}
use Rattle.x86_64_model.specs.Memory.{Memory, Places, Words, IsMapping, words_of}
use Rattle.x86_64_model.specs.PathMap.{table_at}
use Rattle.x86_64_model.specs.Pool.{serves_below}
use Rattle.x86_64_model.specs.Spaces.{ArePaired}
use Rattle.x86_64_model.proofs.Lemmas.Hierarchies.Memories.{mappings_show_frames}
use Rattle.x86_64_model.proofs.Lemmas.Lists.Members.{in_left, in_right, in_append, in_map}
use Rattle.x86_64_model.proofs.Lemmas.Tables.Exact.{inside_window}
use Rattle.x86_64_spaces.specs.declared.space.Space.{Space}
use Rattle.x86_64_spaces.specs.Room.{AreSpacesWithRoom, ArePairedWithRoom}
use Rattle.x86_64_spaces.specs.SpaceGroups.{Grouped, spaces_of, sharing_of}
use Rattle.x86_64_spaces.specs.SpaceLayouts.{space_layout, layouts_of, roots_of, spaces_at}
use Rattle.x86_64_spaces.specs.private.SpaceTables.{space_tables, SoundSpaces}
use Rattle.x86_64_spaces.proofs.Sound.{sound_is_spaces, table_listed, led_to, in_layouts, from_layouts}
use Rattle.x86_64_tables.specs.LentPool.{is_in}
use Rattle.x86_64_tables.proofs.Pigeonhole.{members_fit}
use Rattle.x86_64_tables.proofs.Rooms.{in_reverse, once_reverse, once_back, served}
use Rattle.x86_64_tables.proofs.Stacks.{in_list, is_in_list}

-- spaces stay with a rearranged pool, and with other frames that are served, if these are all that must be
other_pool : (sharing : (root other : ℕ) → ℕ → Bool) (m : Memory) (serves serves' : ℕ → Bool) (pool pool' : List ℕ) (layouts : List Layout) → EachOnce pool' → ((f : ℕ) → In pool' f → In pool f)
    → ((a : Layout) → In layouts a → (f : ℕ) → In pool f → serves' f ≡ true)
    → ((a : Layout) → In layouts a → (i : ℕ) (q : List ℕ) (f : ℕ) → table_at a.levels a.root (paths (a laid_in m)) (i ∷ q) ≡ Some f → serves' f ≡ true)
    → ArePaired sharing m serves pool layouts → ArePaired sharing m serves' pool' layouts
other_pool sharing m serves serves' pool pool' layouts once same serves_pool serves_tables are = record {
  fits = λ a i. let was = are.fits a i in record {
    valid = was.valid;
    each_once = once;
    in_memory = λ f h. was.in_memory f (same f h);
    are_frames = λ f h. was.are_frames f (same f h);
    not_zero = λ h. was.not_zero (same 0 h);
    no_table = λ f h. was.no_table f (same f h);
    serves_pool = λ f h. serves_pool a i f (same f h);
    serves_tables = serves_tables a i;
  };
  own_roots = are.own_roots;
  share = λ a b i j apart. let was = are.share a b i j apart in record {
    places = was.places;
    levels = was.levels;
    valid = was.valid;
    root_entries = was.root_entries;
    apart = λ q f off leads. ⊎_elim (λ h. was.apart q f off leads (inl (same f h))) (λ t. was.apart q f off leads (inr t));
  };
}

module _ (n : ℕ) (places : Places) (mapping : IsMapping places) (m : Memory) (spaces : List Grouped) (first : Grouped) (member : In spaces first) (capacity : ℕ) (pool : List ℕ) where
  abbrev T : Words
  T = words_of m places

  abbrev layout : Grouped → Layout
  layout s = space_layout (suc (suc n)) places m s.space

  abbrev layouts : List Layout
  layouts = layouts_of (suc (suc n)) places m (spaces_of spaces)

  abbrev sharing : (root other : ℕ) → ℕ → Bool
  sharing = sharing_of spaces

  abbrev all : List ℕ
  all = space_tables spaces n T

  abbrev Sound : Type 0
  Sound = SoundSpaces spaces n T (serves_below (2 ^ 40)) pool

  abbrev HasRoom : Type 0
  HasRoom = EachOnce (roots_of (spaces_of spaces)) × ArePairedWithRoom sharing m capacity (reverse pool) layouts

  means : Sound ↔ EachOnce (roots_of (spaces_of spaces)) × ArePaired sharing m (serves_below (2 ^ 40)) pool layouts
  means = sound_is_spaces n places mapping m spaces (2 ^ 40) pool first member

  owned : (f : ℕ) → In all f → is_in (all ++ pool) f ≡ true
  owned f h = is_in_list (all ++ pool) f (in_left all pool f h)

  has_room : Sound × (length all + length pool ≤ capacity) → HasRoom
  has_room x =
      let are = means.0 x.0 in
      let listed : (a : Layout) → In layouts a → (q : List ℕ) (f : ℕ) → table_at a.levels a.root (paths (a laid_in m)) q ≡ Some f → In all f = λ a i.
      let s = from_layouts n places mapping m spaces (2 ^ 40) pool a i in
      subst (λ (a : Layout). (q : List ℕ) (f : ℕ) → table_at a.levels a.root (paths (a laid_in m)) q ≡ Some f → In all f) s.2
      (table_listed n places mapping m spaces (2 ^ 40) pool x.0 s.0 s.1) in (
        are.0,
        record {
          own = all ++ pool;
          few = let sum = length-append all pool in let most = x.1 in omega (arith, sum, most);
          roots = λ a i. owned a.root (listed a i [] a.root refl);
          spaces = other_pool sharing m (serves_below (2 ^ 40)) (is_in (all ++ pool)) pool (reverse pool) layouts
              (once_reverse pool (are.1.fits (layout first) (in_layouts n places mapping m spaces (2 ^ 40) pool first member)).each_once) (λ f. (in_reverse pool f).0)
              (λ a i f h. is_in_list (all ++ pool) f (in_right all pool f h))
              (λ a i k q f leads. owned f (listed a i (k ∷ q) f leads)) are.1;
        },
      )

  module _ (room : HasRoom) where
    of_pool : (f : ℕ) → In pool f → In (reverse pool) f
    of_pool f = (in_reverse pool f).1

    are_spaces : ArePaired sharing m (serves_below (2 ^ 40)) pool layouts
    are_spaces = other_pool sharing m (is_in room.1.own) (serves_below (2 ^ 40)) (reverse pool) pool layouts
        (once_back pool (room.1.spaces.fits (layout first) (in_layouts n places mapping m spaces (2 ^ 40) pool first member)).each_once) of_pool
        (λ a i f h. let fits = room.1.spaces.fits a i in served f (fits.are_frames f h) (λ zero. fits.not_zero (subst (In (reverse pool)) zero h)))
        (λ a i k q f leads.
        let fits = room.1.spaces.fits a i in
        let s = from_layouts n places mapping m spaces (2 ^ 40) pool a i in
        let frames : (f : ℕ) → IsSome (words (a laid_in m) f) → is_frame f ≡ true = subst (λ (a : Layout). (f : ℕ) → IsSome (words (a laid_in m) f) → is_frame f ≡ true) s.2 (mappings_show_frames m places mapping) in
        served f (frames f (inside_window a.window a.root (words (a laid_in m)) f (fits.valid.valid.holds.in_memory (k ∷ q) f leads)))
        (λ zero. fits.valid.valid.not_zero k q (leads ∙ ap Some zero)))
        room.1.spaces

    sound : Sound
    sound = means.1 (room.0, are_spaces)

    in_own : (f : ℕ) → In all f → In room.1.own f
    in_own f h =
        let led = led_to n places mapping m spaces (2 ^ 40) pool room.0 are_spaces f h in
        in_list room.1.own f (by led.0 led.1 led.2.0 led.2.1)
      where
        by : (s : Grouped) → In spaces s → (q : List ℕ) → table_at (suc (suc n)) s.space.root (paths (layout s laid_in m)) q ≡ Some f → is_in room.1.own f ≡ true
        by s i [] e = let is : s.space.root ≡ f = cc in subst (λ f. is_in room.1.own f ≡ true) is (room.1.roots (layout s) (in_layouts n places mapping m spaces (2 ^ 40) pool s i))
        by s i (k ∷ q) e = (room.1.spaces.fits (layout s) (in_layouts n places mapping m spaces (2 ^ 40) pool s i)).serves_tables k q f e

    few_enough : length all + length pool ≤ capacity
    few_enough =
        let fit = members_fit (all ++ pool) room.1.own sound.each_once
        (λ f h. ⊎_elim (in_own f) (λ i. in_list room.1.own f ((room.1.spaces.fits (layout first) (in_layouts n places mapping m spaces (2 ^ 40) pool first member)).serves_pool f (of_pool f i))) (in_append all pool f h)) in
        let sum = length-append all pool in let most = room.1.few in omega (arith, fit, sum, most)

  room_means : Sound × (length all + length pool ≤ capacity) ↔ HasRoom
  room_means = (has_room, λ room. (sound room, few_enough room))

  -- with the number of levels as the caller has it
  pub room_at : (L : ℕ) → suc (suc n) ≡ L → Sound × (length all + length pool ≤ capacity)
      ↔ EachOnce (roots_of (spaces_of spaces)) × ArePairedWithRoom sharing m capacity (reverse pool) (layouts_of L places m (spaces_of spaces))
  room_at L more = subst (λ L. Sound × (length all + length pool ≤ capacity)
      ↔ EachOnce (roots_of (spaces_of spaces)) × ArePairedWithRoom sharing m capacity (reverse pool) (layouts_of L places m (spaces_of spaces))) more room_means

-- the roots of address spaces are frames
in_get : (xs : List ℕ) (i : ℕ) → i < length xs → In xs (get_or xs i 0)
in_get [] i h = absurd (omega arith)
in_get (x ∷ xs) zero h = inl refl
in_get (x ∷ xs) (suc i) h = inr (in_get xs i (omega (arith, h)))

pub all_frames : (shared : ℕ → Bool) (L : ℕ) (places : Places) → IsMapping places → (m : Memory) (capacity : ℕ) (pool roots : List ℕ)
    → AreSpacesWithRoom shared m capacity pool (layouts_of L places m (spaces_at roots)) → All (λ root. is_frame root ≡ true) roots
all_frames shared L places mapping m capacity pool roots room = All-from_get_or (λ root. is_frame root ≡ true) roots 0 (λ i small.
    let root = get_or roots i 0 in
    let at : ℕ → Space = λ root. record { root = root; recursive = None } in
    let fits = room.spaces.fits (space_layout L places m (at root)) (in_map (space_layout L places m) (spaces_at roots) (at root) (in_map at roots root (in_get roots i small))) in
    mappings_show_frames m places mapping root (fits.valid.valid.holds.in_memory [] root refl))
