-- What an unmap of a page leaves of the processes' mappings.
use Rattle.std.proofs.Common.{◌≡◌, ◌≢◌, inl, inr, ⊎_elim, ◌+◌, ◌*◌, ◌/◌, ◌%◌, ◌&&◌, ℕ, true, false, true≢false, List, [], ◌∷◌, ◌++◌, nat_le, nat_lt, Option, Some, None, Err, option_map, option_and_then, refl, sym, ap, ◌∙◌, subst, lit<, arith}
use Rattle.std.proofs.lemmas.Bool.{and_from, cases_eq, le-leb, lt-ltb, not-false}
use Rattle.x86_64_mappers.specs.Layouts.{direct}
use Rattle.x86_64_model.specs.Call as machine
use Rattle.x86_64_model.specs.Call.{Answered, Unmap}
use Rattle.x86_64_model.specs.Entry.{address, has, present}
use Rattle.x86_64_model.specs.Lists.{In}
use Rattle.x86_64_model.specs.Machine.{AfterCall, State, after_change, do_call, step}
use Rattle.x86_64_model.specs.Hierarchy.{◌laid_in◌, machine_of, state_in, paths}
use Rattle.x86_64_model.specs.Memory.{Memory, identity_places}
use Rattle.x86_64_model.specs.PageRules.{AfterChange, unmap, unmap_refusal}
use Rattle.x86_64_model.specs.Path.{path_at}
use Rattle.x86_64_model.specs.PathMap.{PathMap, entry, put}
use Rattle.x86_64_model.specs.Position.{page_path}
use Rattle.x86_64_model.specs.Refusal.{Done, Refused, first_stop}
use Rattle.x86_64_model.specs.Window.{entry_at}
use Rattle.x86_64_model.proofs.Lemmas.Entries.Bits.{is_frame_address}
use Rattle.x86_64_model.proofs.Lemmas.Lists.Members.{in_append, in_map}
use Rattle.x86_64_model.proofs.Lemmas.Machines.Changes.{refused_by, not_refused}
use Rattle.x86_64_model.proofs.Lemmas.Machines.Effects.{step_cases}
use Rattle.x86_64_model.proofs.Lemmas.Paths.Puts.{cases_path, entry-put_same, entry-put_other}
use Rattle.x86_64_tables.proofs.FrameAddresses.{frame_bounds}
use Rattle.x86_64.specs.Replies.{Reply, reply_of, unmap_error}
use Rattle.x86_64.specs.declared.call_values.PageReply.TheVariants as page_reply
use Rattle.x86_64.specs.declared.call_values.MapperReply.TheVariants as replies
use Rattle.x86_64_tables.specs.declared.errors.UnmapError.{UnmapError}
use Rattle.x86_64.specs.Runs.{AfterStep, step_by}
use Rattle.uses.specs.SpacesBeside.{OtherSpacesStay}
use Rattle.uses.specs.SwitchingKernel.{MapsInto, IsMappedOnce, FrameIsUnmapped, LessIsMapped, space_of, process_spaces, unmapped_frame}
use Rattle.uses.specs.declared.switching_kernel.Process.{Process}

-- ---- one path map

-- An unmap does nothing, or it makes the page's entry unused, which was present.
data IsUnmapOf (M : PathMap) (q : List ℕ) (after : AfterCall) : Type 0 where
  Refuses : after.state.paths ≡ M → ((f : ℕ) → after.reply ≢ Answered (Done f)) → IsUnmapOf M q after
  Unmaps : present (entry M q) ≡ true → after.state.paths ≡ put M q 0 → after.reply ≡ Answered (Done (address (entry M q))) → IsUnmapOf M q after

unmap_does : (L : ℕ) (M : PathMap) (pool : List ℕ) (q : List ℕ) → IsUnmapOf M q (after_change pool (unmap L (entry_at None M) M q))
unfolding unmap entry_at
unmap_does L M pool q = refused_by P M (first_stop (entry_at None M) q) _ refuses (λ s.
    refused_by P M (unmap_refusal L q (entry M q)) _ refuses (λ t. let p = not_refused _ _ _ t in Unmaps (not-false _ p.0) refl refl))
  where
    P : AfterChange → Type 0
    P x = IsUnmapOf M q (after_change pool x)

    refuses : (why : _) → P (record { paths = M; answer = Refused why })
    refuses why = Refuses refl (λ f e. cc)

unmap_is : (root : ℕ) (take_back : List ℕ → ℕ → List ℕ) (s : State) (p : ℕ) → IsUnmapOf s.paths (path_at 4 1 p) (step (machine_of (direct identity_places root) take_back) s (Unmap 1 p))
unfolding do_call
unmap_is root take_back s p = step_cases (machine_of (direct identity_places root) take_back) s (Unmap 1 p) (IsUnmapOf s.paths (path_at 4 1 p))
    (λ allowed. unmap_does 4 s.paths s.pool (path_at 4 1 p))
    (Refuses refl (λ f e. cc))

-- the entry maps a page in its own frame
page_inside : (a : ℕ) → a % 4096 ≡ 0 → (nat_le (a / 4096 * 4096) (a + 0) && nat_lt (a + 0) (a / 4096 * 4096 + 4096)) ≡ true
page_inside a multiple = let same : a / 4096 * 4096 ≡ a = omega arith in
    subst (λ x. (nat_le x (a + 0) && nat_lt (a + 0) (x + 4096)) ≡ true) (sym same)
    (and_from (nat_le a (a + 0)) (nat_lt (a + 0) (a + 4096)) (le-leb a (a + 0) (omega arith)) (lt-ltb (a + 0) (a + 4096) (omega arith)))

maps_own_frame : (p e : ℕ) → present e ≡ true → MapsInto (path_at 4 1 p) e (address e)
unfolding page_path
maps_own_frame p e here = record { here = here; page = refl; offset = 0; low = lit< tt; inside = page_inside (address e) (frame_bounds (address e) (is_frame_address e)).1 }

-- ---- the processes

module _ (processes : List Process) (m n : Memory) (a : Process) (ia : In processes a) (p : ℕ) (take_back : List ℕ → ℕ → List ℕ) (pool rest : List ℕ) (reply : Reply)
    (steps : step_by (machine_of (space_of a) take_back) (state_in (space_of a) m pool) (Unmap 1 p) ≡ record { state = state_in (space_of a) n rest; reply = Some reply })
    (stay : OtherSpacesStay (process_spaces processes) (space_of a) m n) where
  abbrev q : List ℕ
  q = path_at 4 1 p

  abbrev M : PathMap
  M = paths (space_of a laid_in m)

  abbrev after : AfterCall
  after = step (machine_of (space_of a) take_back) (state_in (space_of a) m pool) (Unmap 1 p)

  is : IsUnmapOf M q after
  is = unmap_is a.root take_back (state_in (space_of a) m pool) p

  now : after.state.paths ≡ paths (space_of a laid_in n)
  now = ap (λ (x : AfterStep Reply). x.state.paths) steps

  no_entry : (r : List ℕ) (f : ℕ) → MapsInto r 0 f → ⊥
  unfolding has
  no_entry r f maps = let no : false ≡ true = maps.here in true≢false (sym no)

  own_less : (r : List ℕ) (f : ℕ) → MapsInto r (entry (paths (space_of a laid_in n)) r) f → MapsInto r (entry M r) f
  own_less r f maps = by is (subst (λ (N : PathMap). MapsInto r (entry N r) f) (sym now) maps)
    where
      by : IsUnmapOf M q after → MapsInto r (entry after.state.paths r) f → MapsInto r (entry M r) f
      by (Refuses same none) maps = subst (λ (N : PathMap). MapsInto r (entry N r) f) same maps
      by (Unmaps here same done) maps = let then = subst (λ (N : PathMap). MapsInto r (entry N r) f) same maps in ⊎_elim
          (λ e. absurd (no_entry r f (subst (λ w. MapsInto r w f) (ap (entry (put M q 0)) e ∙ entry-put_same M q 0) then)))
          (λ apart. subst (λ w. MapsInto r w f) (entry-put_other M q 0 r apart) then)
          (cases_path r q)

  pub less_is_mapped : LessIsMapped processes m n
  less_is_mapped b ib r f maps = ⊎_elim
      (λ same. subst (λ root. MapsInto r (entry (paths (direct identity_places root laid_in m)) r) f) same
      (own_less r f (subst (λ root. MapsInto r (entry (paths (direct identity_places root laid_in n)) r) f) (sym same) maps)))
      (λ apart. subst (λ (N : PathMap). MapsInto r (entry N r) f) (stay (space_of b) (in_map space_of processes b ib) apart) maps)
      (cases_eq a.root b.root)

  -- the reply's frame is that of the machine's
  told_frame : (r : machine.Reply) (f : ℕ) → option_and_then unmapped_frame (reply_of (Unmap 1 p) r) ≡ Some f → r ≡ Answered (Done f)
  told_frame (machine.Answered (Done g)) f e = let same : g ≡ f = cc in ap (λ g. Answered (Done g)) same
  told_frame (machine.Answered (Refused why)) f e = by (unmap_error why) e
    where
      by : (o : Option UnmapError) → option_and_then unmapped_frame (option_map replies.Of4KiB (option_map (λ error. page_reply.Unmap (Err error)) o)) ≡ Some f
          → Answered (Refused why) ≡ Answered (Done f)
      by None e = let no : None ≡ Some f = e in cc
      by (Some x) e = let no : None ≡ Some f = e in cc
  told_frame machine.NotAllowed f e = let no : None ≡ Some f = e in cc
  told_frame (machine.Position t) f e = let no : None ≡ Some f = e in cc
  told_frame (machine.Address t) f e = let no : None ≡ Some f = e in cc
  told_frame machine.Cleaned f e = let no : None ≡ Some f = e in cc

  frame_done : (f : ℕ) → unmapped_frame reply ≡ Some f → after.reply ≡ Answered (Done f)
  frame_done f told = told_frame after.reply f (ap (λ (x : AfterStep Reply). option_and_then unmapped_frame x.reply) steps ∙ told)

  pub then_unmapped : (f : ℕ) → unmapped_frame reply ≡ Some f → IsMappedOnce processes m f → FrameIsUnmapped processes n f
  then_unmapped f is_frame once b ib r maps = by is
    where
      by : IsUnmapOf M q after → ⊥
      by (Refuses same none) = none f (frame_done f is_frame)
      by (Unmaps here same done) =
          let answer : Answered (Done (address (entry M q))) ≡ Answered (Done f) = sym done ∙ frame_done f is_frame in
          let at : address (entry M q) ≡ f = cc in
          let alike = once b a ib ia r q (less_is_mapped b ib r f maps) (subst (MapsInto q (entry M q)) at (maps_own_frame p (entry M q) here)) in
          let mine = subst (λ root. MapsInto r (entry (paths (direct identity_places root laid_in n)) r) f) alike.0 maps in
          no_entry r f (subst (λ w. MapsInto r w f) (ap (λ N. entry N r) (sym now ∙ same) ∙ ap (entry (put M q 0)) alike.1 ∙ entry-put_same M q 0) mine)

-- ---- page after page

pub less_then : (processes : List Process) (m n o : Memory) → LessIsMapped processes m n → LessIsMapped processes n o → LessIsMapped processes m o
less_then processes m n o one next a ia r f maps = one a ia r f (next a ia r f maps)

-- of these frames no process maps one in the memory n that it mapped only once in the memory m
abbrev pub AreUnmapped : List Process → (m n : Memory) → (freed : List ℕ) → Type 0
AreUnmapped processes m n freed = (frame : ℕ) → In freed frame → IsMappedOnce processes m frame → FrameIsUnmapped processes n frame

pub still_unmapped : (processes : List Process) (m n o : Memory) (freed : List ℕ) → LessIsMapped processes n o → AreUnmapped processes m n freed → AreUnmapped processes m o freed
still_unmapped processes m n o freed less are f i once a ia r maps = are f i once a ia r (less a ia r f maps)

pub one_more_unmapped : (processes : List Process) (m n o : Memory) (freed : List ℕ) (frame : ℕ) → LessIsMapped processes m n → LessIsMapped processes n o
    → (IsMappedOnce processes n frame → FrameIsUnmapped processes o frame) → AreUnmapped processes m n freed → AreUnmapped processes m o (freed ++ frame ∷ [])
one_more_unmapped processes m n o freed frame before less gone are f i once = ⊎_elim
    (λ i. still_unmapped processes m n o freed less are f i once)
    (λ i. by i once)
    (in_append freed (frame ∷ []) f i)
  where
    by : In (frame ∷ []) f → IsMappedOnce processes m f → FrameIsUnmapped processes o f
    by (inl same) once = subst (FrameIsUnmapped processes o) same (gone (subst (IsMappedOnce processes n) (sym same)
        (λ a b ia ib q r x y. once a b ia ib q r (before a ia q f x) (before b ib r f y))))
    by (inr i) once = absurd i
