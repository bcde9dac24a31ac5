-- The way down the parents of a page, a step at a time, and the whole map.
use Rattle.std.proofs.Common.{◌≡◌, false, ◌<◌, ◌+◌, ℕ, suc, List, [], ◌∷◌, ◌++◌, length, take, drop, get_or, Result, Ok, Err, sym, ap, ◌∙◌, subst, add-one, arith}
use Rattle.std.proofs.lemmas.List.{map-id, length-append, length-take}
use Rattle.std.proofs.Math.Seq.{take-suc, drop-cons}
use Rattle.x86_64_model.specs.Entry.{IsParentFlags}
use Rattle.x86_64_model.specs.Layout.{Layout}
use Rattle.x86_64_model.specs.Hierarchy.{◌laid_in◌, paths}
use Rattle.x86_64_model.specs.MapRule.{map_rule}
use Rattle.x86_64_model.specs.Memory.{Memory, Distinct}
use Rattle.x86_64_model.specs.Path.{parents}
use Rattle.x86_64_model.specs.Refusal.{Refusal, Answer, Refused}
use Rattle.x86_64_model.specs.Window.{begins_with}
use Rattle.x86_64_mappers.specs.private.MapSteps.{mapped_from, IsAt, IsDown}
use Rattle.x86_64_mappers.specs.private.Linked.{Beside}
use Rattle.x86_64_mappers.specs.private.Writes.{IsTableMade, IsLeafSet}
use Rattle.x86_64_mappers.proofs.Map.OwnedWays.{owned_then}
use Rattle.x86_64_mappers.proofs.Map.StepOutcomes.{Reached, Stopped, IsStep, IsPathMapped, IsLeaf}
use Rattle.x86_64_mappers.proofs.Way.Outside.{beside_on, beside_at}
use Rattle.x86_64_mappers.proofs.Map.Steps.{step, leaf}

module _ (l : Layout) (m : Memory) (s : List ℕ) (more : ℕ) (path : List ℕ) where
  module _ (done left : List ℕ) (i : ℕ) (n : Memory) (rest : List ℕ) (f : ℕ) (here : IsAt l m s more path done (i ∷ left) n rest f) (o : Memory) (fs : List ℕ) where
    at_next : (g : ℕ) → Reached l n rest more done i o fs g → IsAt l m s more path (done ++ i ∷ []) left o fs g
    at_next g r = record { owned = owned_then l m s n rest o fs here.owned r.owned; leads = r.leads; outcome = λ x e frame. here.outcome x e frame ∙ on left x e frame }
      where
        on : (left : List ℕ) (x e frame : ℕ) → mapped_from (paths (l laid_in n)) rest more l.added_flags done ((i ∷ left) ++ x ∷ []) e frame ≡ mapped_from (paths (l laid_in o)) fs more l.added_flags (done ++ i ∷ []) (left ++ x ∷ []) e frame
        on [] x e frame = r.outcome x [] e frame
        on (j ∷ left) x e frame = r.outcome j (left ++ x ∷ []) e frame

    at_stop : (why : Refusal) → Stopped l n rest more done i o fs why → IsDown l m s more path (Err why) o fs
    at_stop why r = record { owned = owned_then l m s n rest o fs here.owned r.owned; outcome = λ x e frame. here.outcome x e frame ∙ on left x e frame }
      where
        on : (left : List ℕ) (x e frame : ℕ) → mapped_from (paths (l laid_in n)) rest more l.added_flags done ((i ∷ left) ++ x ∷ []) e frame ≡ record { paths = paths (l laid_in o); supply = fs; answer = Refused why }
        on [] x e frame = r.outcome x [] e frame
        on (j ∷ left) x e frame = r.outcome j (left ++ x ∷ []) e frame

  -- this for the number of parents that are done
  module _ (k : ℕ) (within : k < length path) (n : Memory) (rest : List ℕ) (f : ℕ) (here : IsAt l m s more path (take k path) (drop k path) n rest f) (o : Memory) (fs : List ℕ) where
    abbrev item : ℕ
    item = get_or path k 0

    split : IsAt l m s more path (take k path) (item ∷ drop (suc k) path) n rest f
    split = subst (λ d. IsAt l m s more path (take k path) d n rest f) (drop-cons path k 0 within) here

    pub index_next : (g : ℕ) → IsStep l n rest more (take k path) item (Ok g) o fs → IsAt l m s more path (take (k + 1) path) (drop (k + 1) path) o fs g
    index_next g r = subst (λ j. IsAt l m s more path (take j path) (drop j path) o fs g) (sym (add-one k))
        (subst (λ t. IsAt l m s more path t (drop (suc k) path) o fs g) (sym (take-suc path k 0 within)) (at_next (take k path) (drop (suc k) path) item n rest f split o fs g r))

    pub index_stop : (why : Refusal) → IsStep l n rest more (take k path) item (Err why) o fs → IsDown l m s more path (Err why) o fs
    index_stop why r = at_stop (take k path) (drop (suc k) path) item n rest f split o fs why r

-- a turn of the loop over the parents, at the index i
module _ (l : Layout) (apart : Distinct l.places) (adds : IsParentFlags l.added_flags) (m : Memory) (s : List ℕ) (more : ℕ) (path : List ℕ) (outside : begins_with l.window path ≡ false) (marks : IsParentFlags more) (short : length path < l.levels)
    (k : ℕ) (within : k < length path) (n : Memory) (rest : List ℕ) (f : ℕ) (here : IsAt l m s more path (take k path) (drop k path) n rest f) (i : ℕ) (is : i ≡ get_or path k 0) (small : i < 512) (o : Memory) (fs : List ℕ) where
  room : length (take k path ++ i ∷ []) < l.levels
  room = simp length-append (omega (arith, length-take k path))

  pub made : (r : Result ℕ Refusal) → IsTableMade l.places more l.added_flags n rest f i r o fs → IsStep l n rest more (take k path) (get_or path k 0) r o fs
  made r h = subst (λ i. IsStep l n rest more (take k path) i r o fs) is
      (step l apart n (take k path) i f here.leads small (subst (Beside l.window l.root f) (sym is) (beside_at l n here.owned.ready.valid path k within outside f here.leads)) more marks adds room rest here.owned.ready r o fs h)

  pub turn : (g : ℕ) → IsTableMade l.places more l.added_flags n rest f i (Ok g) o fs → IsAt l m s more path (take (k + 1) path) (drop (k + 1) path) o fs g
  turn g h = index_next l m s more path k within n rest f here o fs g (made (Ok g) h)

  pub stop : (why : Refusal) → IsTableMade l.places more l.added_flags n rest f i (Err why) o fs → IsDown l m s more path (Err why) o fs
  stop why h = index_stop l m s more path k within n rest f here o fs why (made (Err why) h)

-- the whole map
module _ (l : Layout) (apart : Distinct l.places) (m : Memory) (s : List ℕ) (more : ℕ) (path : List ℕ) (last e frame : ℕ) where
  -- all of a path's parents
  whole : map_rule (paths (l laid_in m)) s more l.added_flags (parents (path ++ last ∷ [])) (path ++ last ∷ []) e frame ≡ mapped_from (paths (l laid_in m)) s more l.added_flags [] (path ++ last ∷ []) e frame
  whole = sym (ap (λ ps. map_rule (paths (l laid_in m)) s more l.added_flags ps (path ++ last ∷ []) e frame) (map-id (parents (path ++ last ∷ []))))

  pub path_mapped : 0 < l.levels → begins_with l.window (path ++ last ∷ []) ≡ false → last < 512 → IsLeaf l.levels (path ++ last ∷ []) e
      → (n : Memory) (rest : List ℕ) (g : ℕ) → IsDown l m s more path (Ok g) n rest → (answer : Answer) (o : Memory) → IsLeafSet l.places n g last e frame answer o
      → IsPathMapped l m s more (path ++ last ∷ []) e frame answer o rest
  path_mapped at_least_four outside small is n rest g here answer o k =
      let x = leaf l apart n path last g here.leads small (beside_on l n here.owned.ready.valid path last [] outside g here.leads) more at_least_four rest here.owned.ready e frame is answer o k in record {
        owned = owned_then l m s n rest o rest here.owned x.0;
        outcome = whole ∙ here.outcome last e frame ∙ x.1;
      }

  pub path_refused : (n : Memory) (rest : List ℕ) (why : Refusal) → IsDown l m s more path (Err why) n rest → IsPathMapped l m s more (path ++ last ∷ []) e frame (Refused why) n rest
  path_refused n rest why h = record { owned = h.owned; outcome = whole ∙ h.outcome last e frame }
