-- Two machines with path maps that are alike give the same replies, and stay alike.
use Rattle.std.proofs.Common.{◌≡◌, ◌≤◌, ◌+◌, ◌-◌, ℕ, suc, zero, ◌==◌, ◌&&◌, ◌||◌, Bool, true, false, not, cond, List, [], ◌∷◌, length, take, find, Some, Option, nat_lt, refl, sym, ap, ap₂, ◌∙◌, subst, subst₂, arith}
use Rattle.std.specs.List.{AllByRecursion}
use Rattle.std.proofs.lemmas.Bool.{and_parts}
use Rattle.x86_64_model.specs.Entry.{present, huge, no_address}
use Rattle.x86_64_model.specs.PathMap.{PathMap, entry}
use Rattle.x86_64_model.specs.Path.{parents, IsPage, path_at}
use Rattle.x86_64_model.specs.Window.{Window, entry_at, begins_with}
use Rattle.x86_64_model.specs.Position.{page_path, lower_half}
use Rattle.x86_64_model.specs.Translation.{translate, address_of}
use Rattle.x86_64_model.specs.MapRule.{map_call, parent_part}
use Rattle.x86_64_model.specs.PageRules.{AfterChange}
use Rattle.x86_64_model.specs.Pool.{TakesBack, with_returned}
use Rattle.x86_64_model.specs.Call.{IsCall, Call, MapTo, MapToWithTableFlags, IdentityMap, Unmap, UpdateFlags, SetFlags, TranslatePage, Translate, TranslateAddress, CleanUp, NotAllowed, Answered, Position, Address}
use Rattle.x86_64_model.specs.Machine.{State, AfterCall, only_reply, do_call, step, replies_of, state_after}
use Rattle.x86_64_model.specs.Allowed.{none_absent, map_allowed, refuses, both_or_none, allowed}
use Rattle.x86_64_model.specs.Alike.{Alike, names_index}
use Rattle.x86_64_model.proofs.Lemmas.Maps.Frames.{IsFrame}
use Rattle.x86_64_model.proofs.Lemmas.Hierarchies.Trees.{IsTree}
use Rattle.x86_64_model.proofs.Lemmas.Maps.Trees.{parents_begin}
use Rattle.x86_64_model.proofs.Lemmas.Machines.Effects.{page_of_level, map_may, MapMay, machine}
use Rattle.x86_64_model.proofs.Lemmas.Maps.Arrives.{entry_outside, first_alone}
use Rattle.x86_64_model.proofs.Lemmas.Machines.States.{IsSound, step_sound, all_in}
use Rattle.x86_64_model.specs.Laws.Steps.{AllCalls}
use Rattle.x86_64_model.proofs.Lemmas.Machines.Spares.{translate_outside}
pub use Rattle.x86_64_model.specs.Laws.Pairs.{IsAdded, NoneNames, AlikeRuns}
use Rattle.x86_64_model.specs.Machine
use Rattle.x86_64_model.proofs.Lemmas.Pairs.AlikeEntries.{LikeAt, like, alike_translated}
use Rattle.x86_64_model.proofs.Lemmas.Pairs.AlikeMaps.{map_alike}
use Rattle.x86_64_model.proofs.Lemmas.Pairs.AlikeRules.{ReadAlike, AlikeChanged, unmap_alike, update_alike, page_alike, set_alike, clean_alike, back_same}
use Rattle.x86_64_model.proofs.Lemmas.Lists.All.{all_mapped, every}

-- ---- one call

pub none_among : (M N : PathMap) (ps : List (List ℕ)) → AllByRecursion (λ p. LikeAt (entry M p) (entry N p)) ps
    → none_absent N (find (λ p. not (present (entry N p)) || huge (entry N p)) ps) ≡ none_absent M (find (λ p. not (present (entry M p)) || huge (entry M p)) ps)
none_among M N [] a = refl
none_among M N (p ∷ ps) a = by _ _ _ _ (λ i. not (a.0.same_present i) || a.0.same_huge i) a.0.same_present (none_among M N ps a.1)
  where
    by : (b c : Bool) (x y : Option (List ℕ)) → c ≡ b → present (entry N p) ≡ present (entry M p) → none_absent N x ≡ none_absent M y → none_absent N (cond c (Some p) x) ≡ none_absent M (cond b (Some p) y)
    by true c x y cb h g = ap (λ c. none_absent N (cond c (Some p) x)) cb ∙ h
    by false c x y cb h g = ap (λ c. none_absent N (cond c (Some p) x)) cb ∙ g

pub record AlikeResults (L : ℕ) (x y : AfterCall) : Type 0 where
  pub paths : Alike L x.state.paths y.state.paths
  pub pools : x.state.pool ≡ y.state.pool
  pub replies : x.reply ≡ y.reply

module _ (L : ℕ) (v w : Option Window) (M N : PathMap) (alike : Alike L M N) where
  pub read_alike : (q : List ℕ) → 1 ≤ length q → begins_with v q ≡ false → begins_with w q ≡ false → ReadAlike (entry_at v M) (entry_at w N) q
  read_alike [] l a b = absurd (omega arith)
  read_alike (i ∷ s) l a b = record {
    at = both s;
    above = all_mapped (λ p. (t : List ℕ) × (p ≡ i ∷ t)) (λ p. LikeAt (entry_at v M p) (entry_at w N p)) (λ p h. subst (λ p. LikeAt (entry_at v M p) (entry_at w N p)) (sym h.1) (both h.0)) (parents (i ∷ s)) (parents_begin i s);
  }
    where
      both : (t : List ℕ) → LikeAt (entry_at v M (i ∷ t)) (entry_at w N (i ∷ t))
      both t = subst₂ LikeAt (sym (entry_outside v M i t (first_alone v i s t a))) (sym (entry_outside w N i t (first_alone w i s t b))) (like L M N alike (i ∷ t))

  pub page_read : (q : List ℕ) → IsPage L q → begins_with v q ≡ false → begins_with w q ≡ false → ReadAlike (entry_at v M) (entry_at w N) q
  page_read q page a b = read_alike q page.nonempty a b

  pub front_read : (n : ℕ) (q : List ℕ) → 1 ≤ n → IsPage L q → begins_with v q ≡ false → begins_with w q ≡ false → ReadAlike (entry_at v M) (entry_at w N) (take n q)
  front_read zero q l page a b = absurd (omega arith)
  front_read (suc n) [] l page a b = absurd (let l = page.nonempty in omega arith)
  front_read (suc n) (i ∷ q) l page a b = read_alike (i ∷ take n q) (omega arith) (first_alone v i q (take n q) a) (first_alone w i q (take n q) b)

  pub map_allowed_same : (q : List ℕ) (given more : ℕ) → begins_with v q ≡ false → begins_with w q ≡ false → map_allowed L w N q given more ≡ map_allowed L v M q given more
  map_allowed_same q given more a b = λ i. no_address given && no_address more && not (huge more) && (not (length q == L) || not (huge given))
      && (present more || none_among M N (parents q) (every _ (like L M N alike) (parents q)) i) && not ((b ∙ sym a) i)

  pub allowed_same : (call : Call) → IsCall L call → names_index L v call ≡ false → names_index L w call ≡ false → allowed L w N call ≡ allowed L v M call
  allowed_same (MapTo level page frame given) is a b = let q = path_at L level page in map_allowed_same q given _ a b
  allowed_same (MapToWithTableFlags level page frame given more) is a b = let q = path_at L level page in map_allowed_same q given more a b
  allowed_same (IdentityMap level frame given) is a b = by (nat_lt frame (lower_half L)) a b
    where
      by : (low : Bool) → (low && begins_with v (path_at L level frame)) ≡ false → (low && begins_with w (path_at L level frame)) ≡ false
          → (low && map_allowed L w N (path_at L level frame) given (parent_part given)) ≡ (low && map_allowed L v M (path_at L level frame) given (parent_part given))
      by true a b = map_allowed_same (path_at L level frame) given _ a b
      by false a b = refl
  allowed_same (Unmap level page) is a b = λ i. not ((b ∙ sym a) i)
  allowed_same (UpdateFlags level page given) is a b = λ i. no_address given && not ((b ∙ sym a) i)
  allowed_same (SetFlags at level page given) is a b = let q = path_at L level page in let low = is.0 in let top = is.1 in let r = front_read (L + 1 - at) q (omega arith) (page_of_level L level page is.2) a b in let s = set_alike L (entry_at v M) (entry_at w N) M N alike at q given r in
      λ i. no_address given && not ((b ∙ sym a) i) && cond (nat_lt 3 at) (not (huge given)) (refuses (sym s.answer i) || both_or_none (huge given) (r.at.same_huge i))
  allowed_same (TranslatePage level page) is a b = refl
  allowed_same (Translate p) is a b = refl
  allowed_same (TranslateAddress p) is a b = refl
  allowed_same (CleanUp low high) is a b = refl

  pub translate_same : (p : ℕ) → begins_with v (page_path L p) ≡ false → begins_with w (page_path L p) ≡ false → translate L (entry_at v M) p ≡ translate L (entry_at w N) p
  translate_same p a b = translate_outside L v M p a ∙ sym (alike_translated L M N alike p) ∙ sym (translate_outside L w N p b)

  module _ (added added' : ℕ) (ia : IsAdded added) (ib : IsAdded added') (take_back : List ℕ → ℕ → List ℕ) (root root' : ℕ) (tree : IsTree L root M) (tree' : IsTree L root' N) (pool : List ℕ) (frames : AllByRecursion IsFrame pool) where
    map_results : (q : List ℕ) (frame given more : ℕ) → IsPage L q → MapMay v M q given more
        → AlikeResults L (Machine.after_map (map_call L M pool more added q frame given)) (Machine.after_map (map_call L N pool more added' q frame given))
    map_results q frame given more page may = let m = map_alike L more added added' may.marks ia ib root root' M N tree tree' pool q frame given page.at_most alike may.parents frames in
        record { paths = m.paths; pools = m.supply; replies = ap Answered m.answer }

    change_results : (c d : AfterChange) → AlikeChanged L c d → AlikeResults L (Machine.after_change pool c) (Machine.after_change pool d)
    change_results c d a = record { paths = a.paths; pools = refl; replies = ap Answered a.answer }

    do_pair : (call : Call) → IsCall L call → names_index L v call ≡ false → names_index L w call ≡ false → allowed L v M call ≡ true
        → AlikeResults L (do_call (machine L v added take_back) (record { paths = M; pool = pool }) call) (do_call (machine L w added' take_back) (record { paths = N; pool = pool }) call)
    unfolding do_call
    do_pair (MapTo level page frame given) is a b h = let q = path_at L level page in map_results q frame given (parent_part given) (page_of_level L level page is) (map_may L v M q given _ h)
    do_pair (MapToWithTableFlags level page frame given more) is a b h = let q = path_at L level page in map_results q frame given more (page_of_level L level page is) (map_may L v M q given more h)
    do_pair (IdentityMap level frame given) is a b h = map_results (path_at L level frame) frame given (parent_part given) (page_of_level L level frame is) (map_may L v M (path_at L level frame) given _ (and_parts _ _ h).1)
    do_pair (Unmap level page) is a b h = let q = path_at L level page in change_results _ _ (unmap_alike L (entry_at v M) (entry_at w N) M N alike q (page_read q (page_of_level L level page is) a b))
    do_pair (UpdateFlags level page given) is a b h = let q = path_at L level page in change_results _ _ (update_alike L (entry_at v M) (entry_at w N) M N alike q (page_read q (page_of_level L level page is) a b) given)
    do_pair (SetFlags at level page given) is a b h = let q = path_at L level page in let low = is.0 in let top = is.1 in change_results _ _ (set_alike L (entry_at v M) (entry_at w N) M N alike at q given (front_read (L + 1 - at) q (omega arith) (page_of_level L level page is.2) a b))
    do_pair (TranslatePage level page) is a b h = let q = path_at L level page in record { paths = alike; pools = refl; replies = ap Answered (sym (page_alike L (entry_at v M) (entry_at w N) M N alike q (page_read q (page_of_level L level page is) a b))) }
    do_pair (Translate p) is a b h = record { paths = alike; pools = refl; replies = ap Position (translate_same p a b) }
    do_pair (TranslateAddress p) is a b h = record { paths = alike; pools = refl; replies = ap (λ t. Address (address_of t)) (translate_same p a b) }
    do_pair (CleanUp low high) is a b h = record { paths = clean_alike L root root' M N tree tree' alike low high; pools = ap (with_returned take_back pool) (sym (back_same L root root' M N tree tree' alike low high)); replies = refl }

    pub step_pair : (call : Call) → IsCall L call → names_index L v call ≡ false → names_index L w call ≡ false
        → AlikeResults L (step (machine L v added take_back) (record { paths = M; pool = pool }) call) (step (machine L w added' take_back) (record { paths = N; pool = pool }) call)
    step_pair call is a b = subst (λ x. AlikeResults L (step (machine L v added take_back) (record { paths = M; pool = pool }) call) (cond x (do_call (machine L w added' take_back) (record { paths = N; pool = pool }) call) (only_reply (record { paths = N; pool = pool }) NotAllowed)))
        (sym (allowed_same call is a b))
        (elim (allowed L v M call) as (λ x. allowed L v M call ≡ x → AlikeResults L (cond x (do_call (machine L v added take_back) (record { paths = M; pool = pool }) call) (only_reply (record { paths = M; pool = pool }) NotAllowed))
        (cond x (do_call (machine L w added' take_back) (record { paths = N; pool = pool }) call) (only_reply (record { paths = N; pool = pool }) NotAllowed))) [
          | true ↦ λ h. do_pair call is a b h
          | false ↦ λ h. record { paths = alike; pools = refl; replies = refl }
        ] refl)

-- ---- lists of calls

-- two machines with path maps that are alike and with equal pools give the same replies, and end alike with equal pools, if no
-- call names a recursive index of either
pub run_pair : (L : ℕ) (v w : Option Window) (added added' : ℕ) → IsAdded added → IsAdded added' → (take_back : List ℕ → ℕ → List ℕ) → TakesBack take_back → (root root' : ℕ) (serves serves' : ℕ → Bool)
    → (calls : List Call) → AllCalls L calls → NoneNames L v calls → NoneNames L w calls → (s t : State) → IsSound L v root serves s → IsSound L w root' serves' t → Alike L s.paths t.paths → s.pool ≡ t.pool
    → AlikeRuns L (state_after (machine L v added take_back) s calls) (state_after (machine L w added' take_back) t calls) (replies_of (machine L v added take_back) s calls) (replies_of (machine L w added' take_back) t calls)
run_pair L v w added added' ia ib take_back gives root root' serves serves' [] is a b s t x y alike pools = record { paths = alike; pools = pools; replies = refl }
run_pair L v w added added' ia ib take_back gives root root' serves serves' (call ∷ calls) is a b s t x y alike pools =
    let one : AlikeResults L (step (machine L v added take_back) s call) (step (machine L w added' take_back) t call) = subst (λ pool. AlikeResults L (step (machine L v added take_back) s call) (step (machine L w added' take_back) (record { paths = t.paths; pool = pool }) call)) pools
    (step_pair L v w s.paths t.paths alike added added' ia ib take_back root root' x.hierarchy.tree y.hierarchy.tree s.pool (all_in s.pool x.frames) call is.0 a.0 b.0) in
    let rest = run_pair L v w added added' ia ib take_back gives root root' serves serves' calls is.1 a.1 b.1 (step (machine L v added take_back) s call).state (step (machine L w added' take_back) t call).state
    (step_sound L v root serves s x added ia.adds take_back gives call is.0) (step_sound L w root' serves' t y added' ib.adds take_back gives call is.0) one.paths one.pools in
    record { paths = rest.paths; pools = rest.pools; replies = ap₂ (λ r rs. r ∷ rs) one.replies rest.replies }
