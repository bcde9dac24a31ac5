-- Lines: the value of a key in a text, line by line.
use Rattle.std.proofs.Common.{◌≡◌, ℕ, zero, suc, add-one, ◌+◌, ◌-◌, ◌==◌, ◌≢◌, Bool, true, false, true≢false, cond, is_some, arith, ltb-true, ltb-false, List, [], ◌∷◌, Some, None, length, drop, take, refl, ap, sym, ◌∙◌, nat_lt}
use Rattle.std.specs.List.{after_first, before_first, find, onto_first, position, position_or_len, slice_split}
use Rattle.std.specs.Option.{option_map}
use Rattle.std.proofs.lemmas.List.{length-drop, take_all}
use Rattle.std.proofs.lemmas.List.Sums.{fails_before_first}
use Rattle.std.proofs.lemmas.List.Splits.{slice_split_first, slice_split_none}
use Rattle.x86_64_dump.specs.VmCoreInfo.{all_but_last, has_prefix, text_lines, value_of}

abbrev is_end : ℕ → Bool
is_end byte = byte == 10

-- a part before some parts isn't the last
not_last : (part : List ℕ) (text : List ℕ) → all_but_last (part ∷ slice_split is_end text) ≡ part ∷ all_but_last (slice_split is_end text)
not_last part text =
    let (first, parts, is) = some_part text in
    ap (λ ps. all_but_last (part ∷ ps)) is ∙ ap (λ ps. part ∷ all_but_last ps) (sym is)
  where
    some_part : (text : List ℕ) → (first : List ℕ) × (parts : List (List ℕ)) × (slice_split is_end text ≡ first ∷ parts)
    some_part [] = ([], [], refl)
    some_part (byte ∷ text) = by (is_end byte) (some_part text)
      where
        by : (b : Bool) → (first : List ℕ) × (parts : List (List ℕ)) × (slice_split is_end text ≡ first ∷ parts)
            → (f : List ℕ) × (ps : List (List ℕ)) × (cond b ([] ∷ slice_split is_end text) (onto_first byte (slice_split is_end text)) ≡ f ∷ ps)
        by true _ = ([], slice_split is_end text, refl)
        by false (first, parts, is) = (byte ∷ first, parts, ap (onto_first byte) is)

-- the place of the first line feed
placed : (b : Bool) (n i : ℕ) → Some i ≡ cond b (Some n) None → (b ≡ true) × (i ≡ n)
placed true n i is = (refl, cc)
placed false n i is = absurd (some_not_none i is)
  where
    some_not_none : (i : ℕ) → Some i ≢ None
    some_not_none i is = true≢false (ap is_some is)

nowhere : (b : Bool) (n : ℕ) → None ≡ cond b (Some n) None → b ≡ false
nowhere true n is = absurd (true≢false (sym (ap is_some is)))
nowhere false n is = refl

-- the lines are the one before the first line feed, and those behind it
first_line : (text : List ℕ) (i : ℕ) → Some i ≡ position is_end text → text_lines text ≡ take i text ∷ text_lines (drop (i + 1) text)
first_line text i is =
    let (below, at) = placed (nat_lt (position_or_len is_end text) (length text)) (position_or_len is_end text) i is in
    ap all_but_last (slice_split_first is_end text 0 (ltb-true _ _ below))
    ∙ not_last (before_first is_end text) (after_first is_end text)
    ∙ ap (λ n. take n text ∷ text_lines (drop (n + 1) text)) (sym at)

no_line : (text : List ℕ) → None ≡ position is_end text → text_lines text ≡ []
no_line text is =
    let past = ltb-false _ _ (nowhere (nat_lt (position_or_len is_end text) (length text)) (position_or_len is_end text) is) in
    ap all_but_last (slice_split_none is_end text (λ k d below. fails_before_first is_end text k d (omega (arith, below, past))))

drop_further : (i : ℕ) (xs : List ℕ) → drop 1 (drop i xs) ≡ drop (suc i) xs
drop_further zero xs = refl
drop_further (suc i) [] = refl
drop_further (suc i) (x ∷ xs) = drop_further i xs

-- what is behind the element at a place
pub behind_is : (text behind : List ℕ) (i : ℕ) → behind ≡ drop i text → take (length behind - 1) (drop 1 behind) ≡ drop (i + 1) text
behind_is text behind i is =
    take_all (length behind - 1) (drop 1 behind) (omega (arith, length-drop 1 behind))
    ∙ ap (drop 1) is ∙ drop_further i text ∙ ap (λ n. drop n text) (sym (add-one i))

module _ (text prefix : List ℕ) where
  -- if the first line begins with the prefix
  pub value_here : (i : ℕ) → Some i ≡ position is_end text → has_prefix (take i text) prefix ≡ true → Some (drop (length prefix) (take i text)) ≡ value_of text prefix
  unfolding value_of
  value_here i is begins =
      sym (ap (λ lines. option_map (drop (length prefix)) (find (λ line. has_prefix line prefix) lines)) (first_line text i is)
      ∙ ap (λ b. option_map (drop (length prefix)) (cond b (Some (take i text)) (find (λ line. has_prefix line prefix) (text_lines (drop (i + 1) text))))) begins)

  -- if it doesn't
  pub value_behind : (i : ℕ) → Some i ≡ position is_end text → has_prefix (take i text) prefix ≡ false → value_of (drop (i + 1) text) prefix ≡ value_of text prefix
  unfolding value_of
  value_behind i is differs =
      sym (ap (λ lines. option_map (drop (length prefix)) (find (λ line. has_prefix line prefix) lines)) (first_line text i is)
      ∙ ap (λ b. option_map (drop (length prefix)) (cond b (Some (take i text)) (find (λ line. has_prefix line prefix) (text_lines (drop (i + 1) text))))) differs)

  -- if there is no line
  pub value_nowhere : None ≡ position is_end text → None ≡ value_of text prefix
  unfolding value_of
  value_nowhere is = sym (ap (λ lines. option_map (drop (length prefix)) (find (λ line. has_prefix line prefix) lines)) (no_line text is))
