-- What calls of a process do to other processes.
use Rattle.std.proofs.Common.{◌≡◌, ◌≢◌, inl, inr, zero, suc, ◌<◌, ◌≤◌, ◌+◌, ◌-◌, ◌&&◌, ℕ, Bool, true, false, nat_le, nat_lt, cond, List, [], ◌∷◌, ◌++◌, take, Some, None, IsSome, Result, Ok, Err, OnOk, OnErr, IfErr, lit<, lit≤, refl, sym, ap, ◌∙◌, subst, arith, append_assoc}
use Rattle.std.proofs.lemmas.Bool.{and_parts, leb-true, lt-leb}
use Rattle.std.proofs.lemmas.List.{append-nil}
use Rattle.std.specs.Prelude.{if◌then◌else◌}
use Rattle.std.specs.FinMap.{get}
use Rattle.x86_64_model.specs.Call.{Call, CleanUp}
use Rattle.x86_64_model.specs.Laws.Spaces.{IsNewRoot, Led}
use Rattle.x86_64_model.specs.Layout.{Layout}
use Rattle.x86_64_model.specs.Lists.{In}
use Rattle.x86_64_model.specs.Machine.{state_after}
use Rattle.x86_64_model.specs.Hierarchy.{◌laid_in◌, machine_of, state_in, Owns, PoolFits, paths, words}
use Rattle.x86_64_model.specs.Memory.{Memory, words_of, identity_places}
use Rattle.x86_64_model.specs.Path.{path_at, span_start, span_size}
use Rattle.x86_64_model.specs.PathMap.{table_at}
use Rattle.x86_64_model.specs.Pool.{serves_below}
use Rattle.x86_64_model.specs.Position.{index, page_path}
use Rattle.x86_64_model.specs.Spaces.{is_shared, AreSpaces, Avoids}
use Rattle.x86_64_model.specs.Store.{Store, KeepsPool}
use Rattle.x86_64_model.proofs.Lemmas.Hierarchies.Exists.{law_paths_of}
use Rattle.x86_64_model.proofs.Lemmas.Hierarchies.Memories.{covered, identity_is_mapping}
use Rattle.x86_64_model.proofs.Lemmas.Runs.Runs.{state_append}
use Rattle.x86_64_model.proofs.Lemmas.Spaces.NewOnes.{unchanged_paths}
use Rattle.x86_64_model.proofs.Lemmas.Tables.Exact.{inside_window}
use Rattle.x86_64_mappers.specs.Layouts.{direct}
use Rattle.x86_64_spaces.specs.declared.giving_up.GiveUpError.{GiveUpError}
use Rattle.x86_64_spaces.specs.declared.giving_up.GiveUpError.TheVariants.{EntryUsed, FrameZero}
use Rattle.x86_64_spaces.specs.SpaceCalls.{IsGivenUp, IsReason}
use Rattle.x86_64.specs.Pairs.{put_first}
use Rattle.x86_64.specs.Replies.{Reply}
use Rattle.x86_64.specs.Runs.{AfterStep, step_by}
use Rattle.x86_64.proofs.EmptyRoots.{alike}
use Rattle.x86_64.proofs.Keeping.{keeps_nothing, keeps_then}
use Rattle.uses.specs.SpacesBeside.{LeavesSpaces}
use Rattle.uses.specs.Processes.{is_kernels, if_own, own_unmap, unmap_calls, lower_clean_up, ProcessIsStarted, IsServed, IsUsed, IsEnded}

-- ---- the records of a layout, memories and lists of frames

abbrev pub with_frames : (serves : ℕ → Bool) → (pool : List ℕ) → Store
with_frames serves pool = record { frames = pool; serves = serves; take_back = put_first }

abbrev pub Served : Layout → List Call → (serves : ℕ → Bool) → Memory → (pool : List ℕ) → Memory → (rest : List ℕ) → Type 0
Served process calls serves m pool n rest = IsServed (process laid_in m) (with_frames serves pool) calls (process laid_in n) rest

abbrev pub Started : (kernel process : Layout) → (serves : ℕ → Bool) → Memory → (pool : List ℕ) → Memory → (rest : List ℕ) → Type 0
Started kernel process serves m pool n rest = ProcessIsStarted (kernel laid_in m) (with_frames serves pool) (process laid_in n) rest

abbrev pub Ended : Layout → (serves : ℕ → Bool) → Memory → (pool : List ℕ) → Memory → (rest : List ℕ) → Type 0
Ended process serves m pool n rest = IsEnded (process laid_in m) (with_frames serves pool) n rest

abbrev pub Leaves : Layout → (serves : ℕ → Bool) → List Call → Memory → (pool : List ℕ) → Memory → (rest : List ℕ) → Type 0
Leaves one serves calls m pool n rest = LeavesSpaces (one laid_in m) (with_frames serves pool) calls n rest

-- ---- one call after another

pub served_nothing : (process : Layout) (serves : ℕ → Bool) (m : Memory) (pool : List ℕ) → PoolFits (process laid_in m) serves pool → Served process [] serves m pool m pool
served_nothing process serves m pool fits = record { state = refl; keeps = keeps_nothing process serves m pool fits; others = λ spaces member are. (are, λ other i apart. refl) }

pub served_then : (process : Layout) (serves : ℕ → Bool) (m n o : Memory) (pool rest last : List ℕ) (calls more : List Call) → Served process calls serves m pool n rest → Served process more serves n rest o last
    → Served process (calls ++ more) serves m pool o last
served_then process serves m n o pool rest last calls more one next = record {
  state = next.state ∙ ap (λ s. state_after (machine_of process put_first) s more) one.state ∙ sym (state_append (machine_of process put_first) (state_in process m pool) calls more);
  keeps = keeps_then process serves m n o pool rest last one.keeps next.keeps;
  others = λ spaces member are.
      let between = one.others spaces member are in
      let after = next.others spaces member between.0 in
      (after.0, λ other i apart. after.1 other i apart ∙ between.1 other i apart);
}

pub served_still : (process : Layout) (serves : ℕ → Bool) (m n o : Memory) (pool rest last : List ℕ) (calls : List Call) → o ≡ n → last ≡ rest → Served process calls serves m pool n rest → Served process calls serves m pool o last
served_still process serves m n o pool rest last calls same kept served = subst (λ o. Served process calls serves m pool o last) (sym same) (subst (λ last. Served process calls serves m pool n last) (sym kept) served)

-- some pages were unmapped, and these are left
pub record SoFar (process : Layout) (pages left : List ℕ) (serves : ℕ → Bool) (m : Memory) (pool : List ℕ) (n : Memory) (rest : List ℕ) : Type 0 where
  pub done : List Call
  pub all : done ++ unmap_calls left ≡ unmap_calls pages
  pub served : Served process done serves m pool n rest

pub none_so_far : (process : Layout) (pages : List ℕ) (serves : ℕ → Bool) (m : Memory) (pool : List ℕ) → PoolFits (process laid_in m) serves pool → SoFar process pages pages serves m pool m pool
none_so_far process pages serves m pool fits = record { done = []; all = refl; served = served_nothing process serves m pool fits }

pub one_more : (process : Layout) (pages left rest_of : List ℕ) (page : ℕ) (serves : ℕ → Bool) (m n o : Memory) (pool rest last : List ℕ) → left ≡ page ∷ rest_of → SoFar process pages left serves m pool n rest
    → Served process (own_unmap page) serves n rest o last → SoFar process pages rest_of serves m pool o last
one_more process pages left rest_of page serves m n o pool rest last is one next = record {
  done = one.done ++ own_unmap page;
  all = append_assoc one.done (own_unmap page) (unmap_calls rest_of) ∙ ap (λ left. one.done ++ unmap_calls left) (sym is) ∙ one.all;
  served = served_then process serves m n o pool rest last one.done (own_unmap page) one.served next;
}

pub then_cleaned : (process : Layout) (pages left : List ℕ) (serves : ℕ → Bool) (m n o : Memory) (pool rest last : List ℕ) → left ≡ [] → SoFar process pages left serves m pool n rest
    → Served process (lower_clean_up ∷ []) serves n rest o last → Served process (unmap_calls pages ++ lower_clean_up ∷ []) serves m pool o last
then_cleaned process pages left serves m n o pool rest last none one next =
    let all : one.done ≡ unmap_calls pages = sym (append-nil one.done) ∙ ap (λ left. one.done ++ unmap_calls left) (sym none) ∙ one.all in
    subst (λ calls. Served process (calls ++ lower_clean_up ∷ []) serves m pool o last) all
    (served_then process serves m n o pool rest last one.done (lower_clean_up ∷ []) one.served next)

-- ---- calls that avoid the kernel's half

pub served_by : (root : ℕ) (serves : ℕ → Bool) (call : Call) (m n : Memory) (pool rest : List ℕ) → Led (direct identity_places root) put_first m pool (call ∷ []) n rest
    → KeepsPool (direct identity_places root) serves m pool n rest → Leaves (direct identity_places root) serves (call ∷ []) m pool n rest → Avoids 4 is_kernels call
    → Served (direct identity_places root) (call ∷ []) serves m pool n rest
served_by root serves call m n pool rest state keeps leaves avoids = record { state = state; keeps = keeps; others = λ spaces member are. leaves.users is_kernels spaces member are (avoids, tt) }

pub step_led : (root : ℕ) (call : Call) (reply : Reply) (m n : Memory) (pool rest : List ℕ)
    → step_by (machine_of (direct identity_places root) put_first) (state_in (direct identity_places root) m pool) call ≡ record { state = state_in (direct identity_places root) n rest; reply = Some reply }
    → Led (direct identity_places root) put_first m pool (call ∷ []) n rest
step_led root call reply m n pool rest step = sym (ap (λ (x : AfterStep Reply). x.state) step)

first_is_shared : (shared : ℕ → Bool) (L level p : ℕ) → 3 < L → level ≤ 3 → is_shared shared (path_at L level p) ≡ shared (index L p)
unfolding page_path
first_is_shared shared zero level p some low = absurd (omega (arith, some))
first_is_shared shared (suc n) level p some low =
    let one : suc n + 1 - level ≡ suc (n + 1 - level) = omega (arith, some, low) in
    ap (λ k. is_shared shared (take k (index (suc n) p ∷ page_path n p))) one

-- a call on a page of its own half
pub served_own : (root page : ℕ) (call : Call) (serves : ℕ → Bool) (m n : Memory) (pool rest : List ℕ) → is_kernels (index 4 page) ≡ false → Served (direct identity_places root) (call ∷ []) serves m pool n rest
    → Served (direct identity_places root) (if_own page call) serves m pool n rest
served_own root page call serves m n pool rest low = subst (λ b. Served (direct identity_places root) (if b then [] else call ∷ []) serves m pool n rest) (sym low)

pub page_avoids : (p : ℕ) → is_kernels (index 4 p) ≡ false → is_shared is_kernels (path_at 4 1 p) ≡ false
page_avoids p low = first_is_shared is_kernels 4 1 p (lit< tt) (lit≤ tt) ∙ low

-- a clean up of the lower half meets nothing of the upper half
middle : (a b c : Bool) → b ≡ false → (a && b && c) ≡ false
middle true true c e = cc
middle true false c e = refl
middle false b c e = refl

pub lower_half_avoids : (low high : ℕ) → high < 0x8000_0000_0000 → Avoids 4 is_kernels (CleanUp low high)
lower_half_avoids low high below i upper =
    let some : 256 ≤ i = leb-true 256 i (and_parts (nat_le 256 i) (nat_lt i 512) upper).0 in
    middle (nat_le low high) (nat_le (span_start 4 (i ∷ [])) high) (nat_lt low (span_start 4 (i ∷ []) + span_size 4 (i ∷ []))) (lt-leb (span_start 4 (i ∷ [])) high (omega (arith, some, below)))

pub served_cleaned : (root : ℕ) (serves : ℕ → Bool) (low high : ℕ) (m n : Memory) (pool rest : List ℕ) → low ≡ 0 → high ≡ 0x7fff_ffff_ffff → Led (direct identity_places root) put_first m pool (CleanUp low high ∷ []) n rest
    → KeepsPool (direct identity_places root) serves m pool n rest → Leaves (direct identity_places root) serves (CleanUp low high ∷ []) m pool n rest
    → Served (direct identity_places root) (lower_clean_up ∷ []) serves m pool n rest
served_cleaned root serves low high m n pool rest first last state keeps leaves =
    subst (λ high. Served (direct identity_places root) (CleanUp 0 high ∷ []) serves m pool n rest) last
    (subst (λ low. Served (direct identity_places root) (CleanUp low high ∷ []) serves m pool n rest) first
    (served_by root serves (CleanUp low high) m n pool rest state keeps leaves (lower_half_avoids low high (omega (arith, last)))))

-- ---- one frame's words change

-- every place keeps its words but those of these frames
abbrev KeepsAround : (frames : ℕ → Type 0) → Memory → Memory → Type 0
KeepsAround frames m n = (k : ℕ) → ((f : ℕ) → frames f → identity_places.place f ≢ k) → get n k ≡ get m k

-- an address space keeps its path map if no word changed but those of a free frame
module _ (a : Layout) (at : a.places ≡ identity_places) (some : 0 < a.levels) (serves : ℕ → Bool) (f : ℕ) (pool : List ℕ) (m n : Memory) (fits : PoolFits (a laid_in m) serves pool) (free : In pool f)
    (others : KeepsAround (λ g. g ≡ f) m n) where
  there : (g : ℕ) → IsSome (words (a laid_in m) g) → identity_places.covers g ≡ true
  there g some = covered m identity_places g (subst (λ places. IsSome (words_of m places g)) at some)

  same_words : (q : List ℕ) (g : ℕ) → table_at a.levels a.root (paths (a laid_in m)) q ≡ Some g → words (a laid_in n) g ≡ words (a laid_in m) g
  same_words q g leads = subst (λ places. words_of n places g ≡ words_of m places g) (sym at) (ap (λ o. cond (identity_places.covers g) o None)
      (others (identity_places.place g) (λ h e p.
      let same : f ≡ g = identity_is_mapping.distinct f g (there f (fits.in_memory f free))
      (there g (inside_window a.window a.root (words (a laid_in m)) g (fits.valid.valid.holds.in_memory q g leads))) (ap identity_places.place (sym e) ∙ p) in
      fits.no_table f free (q, leads ∙ ap Some (sym same)))))

  pub same_paths : paths (a laid_in n) ≡ paths (a laid_in m)
  same_paths = sym (unchanged_paths a some m n fits.valid same_words)

-- ---- the start

pub started : (kernel root : ℕ) (serves : ℕ → Bool) (m n : Memory) (pool rest : List ℕ) → pool ≡ root ∷ rest → IsNewRoot is_kernels (direct identity_places kernel) m n (direct identity_places root)
    → ((spaces : List Layout) → In spaces (direct identity_places kernel) → AreSpaces is_kernels m serves pool spaces → AreSpaces is_kernels n serves rest (direct identity_places root ∷ spaces))
    → Started (direct identity_places kernel) (direct identity_places root) serves m pool n rest
started kernel root serves m n pool rest takes made makes = record {
  taken = takes;
  empty = λ i low. law_paths_of 4 (words_of n identity_places) root (lit< tt) [] i ∙ made.empty i low;
  others = λ spaces member are. (
    makes spaces member are,
    λ a i.
        let like = alike is_kernels spaces serves m pool are (direct identity_places kernel) a member i in
        same_paths a like.0 (subst (λ L. 0 < L) (sym like.1) (lit< tt)) serves root pool m n (are.fits a i) (subst (λ p. In p root) (sym takes) (inl refl)) made.others,
  );
}

-- ---- the end

module _ (root : ℕ) (calls : List Call) (serves : ℕ → Bool) (m n o : Memory) (pool rest last : List ℕ) where
  abbrev gone : Layout
  gone = direct identity_places root

  -- what a space that is given up leaves
  abbrev Gives : Type 0
  Gives = (spaces : List Layout) → (In spaces gone → ⊥) → AreSpaces is_kernels n serves rest (gone ∷ spaces) → AreSpaces is_kernels o serves last spaces

  abbrev LosesNone : Type 0
  LosesNone = (spaces : List Layout) (other : Layout) → (In spaces gone → ⊥) → In spaces other → AreSpaces is_kernels n serves rest (gone ∷ spaces) → (f : ℕ) → Owns (gone laid_in n) rest f → Owns (other laid_in o) last f

  ended : Served gone calls serves m pool n rest → last ≡ root ∷ rest → KeepsAround (λ f. f ≡ root) n o → Gives → LosesNone → Ended gone serves m pool o last
  ended served back others gives none_lost = record {
    others = λ spaces apart are.
        let now = served.others (gone ∷ spaces) (inl refl) are in
        let left = gives spaces apart now.0 in (
          left,
          λ a i.
              let like = alike is_kernels (gone ∷ spaces) serves m pool are gone a (inl refl) (inr i) in
              sym (same_paths a like.0 (subst (λ L. 0 < L) (sym like.1) (lit< tt)) serves root last o n (left.fits a i) (subst (λ p. In p root) (sym back) (inl refl)) (λ k none. sym (others k none)))
              ∙ now.1 a (inr i) (λ e. apart (subst (In spaces) (sym (are.own_roots gone a (inl refl) (inr i) e)) i)),
        );
    none_lost = λ spaces other i apart are f own. none_lost spaces other apart i (served.others (gone ∷ spaces) (inl refl) are).0 f ((served.keeps.conserved f).0 own);
  }

  pub ended_if : {X E : Type 0} (now : ℕ → Bool) (back : List ℕ → ℕ → List ℕ) (r : Result X E) → Served gone calls serves m pool n rest
      → OnOk r (IsGivenUp is_kernels (gone laid_in n) (with_frames serves rest) o (record { frames = last; serves = now; take_back = back })) → OnOk r (Ended gone serves m pool o last)
  ended_if now back (Ok x) served is = ended served is.given_back is.others is.spaces is.none_lost
  ended_if now back (Err e) served is = tt

  -- a space that isn't given up goes on, and some entry of its own half is used
  pub goes_on_if : {X E : Type 0} (r : Result X E) → OnErr r ((o ≡ n) × (last ≡ rest)) → OnErr r (IsUsed gone n) → Served gone calls serves m pool n rest → OnErr r (Served gone calls serves m pool o last × IsUsed gone o)
  goes_on_if (Ok x) same is_used served = tt
  goes_on_if (Err e) same is_used served = (served_still gone serves m n o pool rest last calls same.0 same.1 served, subst (λ o. IsUsed gone o) (sym same.0) is_used)

pub used_if : (root : ℕ) (n : Memory) {X : Type 0} (r : Result X GiveUpError) → IfErr r (λ why. IsReason is_kernels (direct identity_places root laid_in n) why) → root ≢ 0
    → OnErr r (IsUsed (direct identity_places root) n)
used_if root n (Ok x) reason none = tt
used_if root n (Err EntryUsed) reason none = reason
used_if root n (Err FrameZero) reason none = absurd (none reason.1)

pub served_not_zero : (limit root : ℕ) → serves_below limit root ≡ true → root ≢ 0
served_not_zero limit root serves none = let z : serves_below limit 0 ≡ true = subst (λ f. serves_below limit f ≡ true) none serves in cc
