-- Marks that lie in an entry, or in what an exchange learned.
use Rattle.std.proofs.Common.{◌≡◌, ◌≢◌, ◌⊎◌, inl, inr, ⊎_elim, ◌≤◌, ℕ, ◌==◌, Bool, true, false, cond, List, [], ◌∷◌, length, length-set, get_or, set, nat_lt, Some, None, Option, option_map, bit_and, bit_or, min, max, refl, sym, ap, ap₂, ◌∙◌, subst, arith, eqb-true, eq-eqb}
use Rattle.std.specs.List.{AllByRecursion}
use Rattle.std.proofs.lemmas.Bool.{cases_Bool, cases_eq, cases_lt}
use Rattle.std.proofs.lemmas.List.{get_or_past, get_or-set_same}
use Rattle.std.proofs.lemmas.Nat.Bits.{same_from_bits, bit_at_and, bit_at_or}
use Rattle.std.specs.Int.{bit_at}
use Rattle.x86_64_model.specs.Entry.{has}
use Rattle.x86_64_model.specs.Laws.Live.{NoMarkIsLost, DoesntWrite, WhoTakesFlagsSeesThem, MarkIsLost, EntryIsPutBack}
use Rattle.x86_64_model.specs.Lists.{In}
use Rattle.x86_64_model.specs.Live as live
use Rattle.x86_64_model.specs.Live.{Happening, Marks, changed_path, next_word, after_happening, after_happenings, learned}
use Rattle.x86_64_model.specs.Memory.{Words, word, word_in, set_word}
use Rattle.x86_64_model.specs.PathMap.{PathMap, entry, put}
use Rattle.x86_64_model.specs.Turns.{Touch, Reads, Writes, Exchanges, Sees, after_touch, Turn, AllSee, after_turns}
use Rattle.x86_64_model.proofs.Lemmas.Hierarchies.Held.{word-set_same, word-set_frame, word-set_index}
use Rattle.x86_64_model.proofs.Lemmas.Live.InPlace.{set_table}
use Rattle.x86_64_model.proofs.Lemmas.Paths.Puts.{cases_path, entry-put_same, entry-put_other}

-- ---- flags that are added

stays_by : (a b c : ℕ) → min a c ≡ c → min (max a b) c ≡ c
stays_by a b c h = omega (arith, h)

added_by : (a c : ℕ) → min (max a c) c ≡ c
added_by a c = omega arith

has_more : (e more flags : ℕ) → has e flags ≡ true → has (bit_or e more) flags ≡ true
unfolding has
has_more e more flags h = eq-eqb _ _ (same_from_bits _ _ (λ i.
    bit_at_and (bit_or e more) flags i ∙ ap (λ x. min x (bit_at flags i)) (bit_at_or e more i)
    ∙ stays_by (bit_at e i) (bit_at more i) (bit_at flags i)
    (sym (bit_at_and e flags i) ∙ ap (λ n. bit_at n i) (eqb-true (bit_and e flags) flags h))))

has_added : (e flags : ℕ) → has (bit_or e flags) flags ≡ true
unfolding has
has_added e flags = eq-eqb _ _ (same_from_bits _ _ (λ i.
    bit_at_and (bit_or e flags) flags i ∙ ap (λ x. min x (bit_at flags i)) (bit_at_or e flags i)
    ∙ added_by (bit_at e i) (bit_at flags i)))

-- ---- entries

abbrev Found : PathMap → List ℕ → (mark : ℕ) → List Happening → Type 0
Found M q mark hs = (has (entry (after_happenings M hs) q) mark ≡ true)
    ⊎ ((e : ℕ) × In (learned M hs) (q, e) × (has e mark ≡ true))

still_found : (M : PathMap) (q : List ℕ) (mark : ℕ) (hs : List Happening) → has (entry M q) mark ≡ true
    → Found M q mark hs
still_found M q mark [] h = inl h
still_found M q mark (Marks r more ∷ hs) h = still_found (after_happening M (Marks r more)) q mark hs (⊎_elim
    (λ e. ap (λ x. has x mark) (ap (entry (put M r (bit_or (entry M r) more))) e
    ∙ entry-put_same M r (bit_or (entry M r) more) ∙ ap (λ r. bit_or (entry M r) more) (sym e))
    ∙ has_more (entry M q) more mark h)
    (λ n. ap (λ x. has x mark) (entry-put_other M r (bit_or (entry M r) more) q n) ∙ h)
    (cases_path q r))
still_found M q mark (live.Exchanges r next ∷ hs) h = ⊎_elim
    (λ e. inr (entry M q, inl (λ i. (sym e i, entry M (sym e i))), h))
    (λ n. ⊎_elim (λ there. inl there) (λ x. inr (x.0, inr x.1, x.2))
    (still_found (after_happening M (live.Exchanges r next)) q mark hs
    (ap (λ x. has x mark) (entry-put_other M r (next (entry M r)) q n) ∙ h)))
    (cases_path q r)

pub no_mark_is_lost : NoMarkIsLost
no_mark_is_lost M q mark since = still_found (after_happening M (Marks q mark)) q mark since
    (ap (λ x. has x mark) (entry-put_same M q (bit_or (entry M q) mark)) ∙ has_added (entry M q) mark)

-- ---- words

abbrev TakenAway : (f i given : ℕ) → List Turn → Type 0
TakenAway f i given turns = (k seen value : ℕ)
    × In turns (record { processor = k; touch = Exchanges f i seen value }) × (has seen given ≡ true)
    × (has value given ≡ false)

later : (f i given : ℕ) (t : Turn) (T : Words) (ts : List Turn) → (has (word T f i) given ≡ true)
    ⊎ TakenAway f i given ts → (has (word T f i) given ≡ true) ⊎ TakenAway f i given (t ∷ ts)
later f i given t T ts (inl h) = inl h
later f i given t T ts (inr x) = inr (x.0, x.1, x.2, inr x.3, x.4, x.5)

-- a word that is set is the one given, or, outside the table, stays
set_or_stays : (T : Words) (f i w : ℕ) → (word (set_word T f i w) f i ≡ w)
    ⊎ (word (set_word T f i w) f i ≡ word T f i)
unfolding set_word word
set_or_stays T f i w = by (T f) (f == f)
  where
    inside : (words : List ℕ) → (get_or (set words i w) i 0 ≡ w)
        ⊎ (get_or (set words i w) i 0 ≡ get_or words i 0)
    inside words = ⊎_elim
        (λ l. inl (get_or-set_same words i w 0 l))
        (λ l. inr (get_or_past (set words i w) i 0 (subst (λ n. n ≤ i) (sym (length-set words i w)) l)
        ∙ sym (get_or_past words i 0 l)))
        (cases_lt i (length words))

    small : (b : Bool) (o n : Option (List ℕ)) → (word_in n i ≡ w) ⊎ (word_in n i ≡ word_in o i)
        → (cond b (word_in n i) 0 ≡ w) ⊎ (cond b (word_in n i) 0 ≡ cond b (word_in o i) 0)
    small true o n h = h
    small false o n h = inr refl

    by : (o : Option (List ℕ)) (c : Bool)
        → (cond (nat_lt i 512) (word_in (cond c (option_map (λ words. set words i w) o) o) i) 0 ≡ w)
        ⊎ (cond (nat_lt i 512) (word_in (cond c (option_map (λ words. set words i w) o) o) i) 0
        ≡ cond (nat_lt i 512) (word_in o i) 0)
    by None true = inr refl
    by None false = inr refl
    by (Some words) true = small (nat_lt i 512) (Some words) (Some (set words i w)) (inside words)
    by (Some words) false = inr refl

elsewhere : (T : Words) (f i g j w : ℕ) → (f ≢ g) ⊎ (i ≢ j) → word (set_word T g j w) f i ≡ word T f i
elsewhere T f i g j w (inl n) = word-set_frame T g j w f i n
elsewhere T f i g j w (inr n) = word-set_index T g j w f i n

same_spot : (f i g j : ℕ) → ((f ≡ g) × (i ≡ j)) ⊎ ((f ≢ g) ⊎ (i ≢ j))
same_spot f i g j = ⊎_elim (λ a. ⊎_elim (λ b. inl (a, b)) (λ n. inr (inr n)) (cases_eq i j))
    (λ n. inr (inl n)) (cases_eq f g)

abbrev Ends : (T : Words) (f i given : ℕ) → List Turn → Type 0
Ends T f i given turns = (has (word (after_turns T turns) f i) given ≡ true) ⊎ TakenAway f i given turns

more : (f i given : ℕ) (t : Turn) (T : Words) (ts : List Turn) → Ends (after_touch T t.touch) f i given ts
    → Ends T f i given (t ∷ ts)
more f i given t T ts h = later f i given t (after_turns (after_touch T t.touch) ts) ts h

-- one turn, and what holds of the rest if the flags are still there
one_turn : (t : Turn) (ts : List Turn) (T : Words) (f i given : ℕ) → has (word T f i) given ≡ true
    → Sees T t.touch → DoesntWrite f i t
    → (has (word (after_touch T t.touch) f i) given ≡ true → Ends (after_touch T t.touch) f i given ts)
    → Ends T f i given (t ∷ ts)
one_turn t ts T f i given h see none rest = by t.processor t.touch refl see
  where
    go_on : has (word (after_touch T t.touch) f i) given ≡ true → Ends T f i given (t ∷ ts)
    go_on kept = more f i given t T ts (rest kept)

    by : (k : ℕ) (touch : Touch) → t ≡ record { processor = k; touch = touch } → Sees T t.touch
        → Ends T f i given (t ∷ ts)
    by k (Reads g j seen) is s = go_on (ap (λ (u : Turn). has (word (after_touch T u.touch) f i) given) is
        ∙ h)
    by k (Writes g j w) is s = ⊎_elim
        (λ at. absurd
        (none k w (is ∙ (λ n. record { processor = k; touch = Writes (sym at.0 n) (sym at.1 n) w }))))
        (λ n. go_on (ap (λ (u : Turn). has (word (after_touch T u.touch) f i) given) is
        ∙ ap (λ x. has x given) (elsewhere T f i g j w n) ∙ h))
        (same_spot f i g j)
    by k (Exchanges g j seen w) is s = ⊎_elim
        (λ at. ⊎_elim
        (λ has_them. go_on (ap (λ (u : Turn). has (word (after_touch T u.touch) f i) given) is
        ∙ ap₂ (λ g j. has (word (set_word T g j w) f i) given) (sym at.0) (sym at.1)
        ∙ ⊎_elim (λ e. ap (λ x. has x given) e ∙ has_them) (λ e. ap (λ x. has x given) e ∙ h)
        (set_or_stays T f i w)))
        (λ gone. inr (
          k,
          seen,
          w,
          inl (is ∙ (λ n. record { processor = k; touch = Exchanges (sym at.0 n) (sym at.1 n) seen w })),
          ap (λ x. has x given) (sym (subst (λ (u : Turn). Sees T u.touch) is s)
              ∙ sym (ap₂ (word T) at.0 at.1)) ∙ h,
          gone,
        ))
        (cases_Bool (has w given)))
        (λ n. go_on (ap (λ (u : Turn). has (word (after_touch T u.touch) f i) given) is
        ∙ ap (λ x. has x given) (elsewhere T f i g j w n) ∙ h))
        (same_spot f i g j)

takes : (turns : List Turn) (T : Words) (f i given : ℕ) → has (word T f i) given ≡ true → AllSee T turns
    → AllByRecursion (DoesntWrite f i) turns → Ends T f i given turns
takes [] T f i given h see none = inl h
takes (t ∷ ts) T f i given h see none = one_turn t ts T f i given h see.0 none.0
    (λ kept. takes ts (after_touch T t.touch) f i given kept see.1 none.1)

pub who_takes_flags_sees_them : WhoTakesFlagsSeesThem
who_takes_flags_sees_them T f i given turns h see none = takes turns T f i given h see none

-- ---- worked examples

pub mark_is_lost : MarkIsLost
unfolding has
mark_is_lost T f i table there within small is =
    let marked = set_table T f i 0x5067 f i table there within in (
      (is, (is, (tt, tt))),
      word-set_same (set_word T f i 0x5067) f i 0x5005 marked.0 marked.1 marked.2 small,
      refl,
      refl,
      (is, (is, (word-set_same T f i 0x5067 table there within small, tt))),
      refl,
    )

pub entry_is_put_back : EntryIsPutBack
entry_is_put_back T f i table there within small is =
    let taken = set_table T f i 0 f i table there within in
    ((is, (is, (tt, tt))), word-set_same (set_word T f i 0) f i 0x5067 taken.0 taken.1 taken.2 small)
