-- Exchanges of one word may happen, and tell what is due.
use Rattle.std.proofs.Common.{◌≡◌, ◌≢◌, ⊎_elim, ◌<◌, nat_lt, ℕ, ◌&&◌, Bool, true, false, cond, List, [], length, option_map, set, Some, sym, ap, ◌∙◌, subst, ne_eqb}
use Rattle.std.proofs.lemmas.Bool.{and_from, cases_Bool}
use Rattle.x86_64_model.specs.Entry.{address, names_table}
use Rattle.x86_64_model.specs.Memory.{Words, word, set_word}
use Rattle.x86_64_model.specs.PathMap.{PathMap, entry, put}
use Rattle.x86_64_model.specs.Pool.{Fits}
use Rattle.x86_64_model.specs.Machine.{Machine}
use Rattle.x86_64_model.specs.Flushing.{System, MayPut, MayExchange, Exchanges, after_event, loses_between, below_due, page_due}
use Rattle.x86_64_model.specs.Laws.Caches.{ExchangesMayHappen, ExchangesTell}
use Rattle.x86_64_model.specs.Laws.Steps.{FitsState}
use Rattle.x86_64_model.proofs.Lemmas.Live.InPlace.{Replaces, replaces, word_seen, nonzero, fits_written}
use Rattle.x86_64_model.proofs.Lemmas.Caches.Exchanged.{told_nothing}
use Rattle.x86_64_model.proofs.Lemmas.Caches.Whole.{same_zeros}

-- other frames keep their words
other_frame : (T : Words) (f i w g : ℕ) → g ≢ f → set_word T f i w g ≡ T g
unfolding set_word
other_frame T f i w g n = ap (λ b. cond b (option_map (λ words. set words i w) (T g)) (T g)) (ne_eqb g f n)

module _ (m : Machine) (root : ℕ) (serves : ℕ → Bool) (s : System) (fits : FitsState m s.words root serves s.state)
    (q : List ℕ) (w : ℕ) (may : MayPut m root s q w) (table : List ℕ) (there : s.words may.in_table.frame ≡ Some table) (within : may.in_table.index < length table) where
  abbrev U : Words
  U = set_word s.words may.in_table.frame may.in_table.index w

  fits_now : Fits m.levels m.window s.words root s.paths serves s.state.pool
  fits_now = subst (λ (M : PathMap). Fits m.levels m.window s.words root M serves s.state.pool) (sym may.done) fits

  new : Replaces m.levels q (entry s.paths q) w
  new = replaces m.levels q (entry s.paths q) w
      (nonzero m.levels m.window s.words root s.paths q may.in_table.above may.in_table.index may.in_table.frame w may.in_table.is may.in_table.leads table there within may.in_table.small may.in_table.outside fits_now.valid)
      may.replaces

  fits_after : Fits m.levels m.window U root (put s.paths q w) serves s.state.pool
  fits_after = fits_written m.levels m.window s.words root s.paths q may.in_table.above may.in_table.index may.in_table.frame w may.in_table.is may.in_table.leads table there within may.in_table.small may.in_table.outside fits_now.valid new serves s.state.pool fits_now

  happens : MayExchange m root s q w U
  happens = record {
    may_put = may;
    holds = fits_after.valid;
    keeps = λ f unflushed free zeros. same_zeros s.words U f
        (other_frame s.words may.in_table.frame may.in_table.index w f (λ e. fits_now.no_table f free (may.in_table.above, may.in_table.leads ∙ ap Some (sym e)))) zeros;
  }

  pub all_holds : (word s.words may.in_table.frame may.in_table.index ≡ entry s.paths q) × MayExchange m root s q w U
      × FitsState m U root serves (after_event m s (Exchanges q w U)).state
  all_holds = (
    word_seen m.levels m.window s.words root s.paths q may.in_table.above may.in_table.index may.in_table.frame w may.in_table.is may.in_table.leads table there within may.in_table.small may.in_table.outside fits_now.valid,
    happens,
    subst (λ (M : PathMap). Fits m.levels m.window U root (put M q w) serves s.state.pool) may.done fits_after,
  )

pub exchanges_may_happen : ExchangesMayHappen
exchanges_may_happen m root serves s fits q w may table there within = all_holds m root serves s fits q w may table there within

pub exchanges_tell : ExchangesTell
exchanges_tell L window q e f h none = ⊎_elim
    (λ l. absurd (some_due _ (ap (λ b. cond b (cond (names_table e && nat_lt (length q) L) (below_due window q) (page_due L window q (address e))) []) (sym (and_from _ _ h l)) ∙ none)))
    (λ l. told_nothing e f l)
    (cases_Bool (loses_between e f))
  where
    some_due : (c : Bool) → cond c (below_due window q) (page_due L window q (address e)) ≡ [] → ⊥
    some_due true n = cc
    some_due false n = cc
