-- The mapping of a path, word by word down its tables.
use Rattle.std.proofs.Common.{◌≡◌, ◌-◌, ℕ, ◌&&◌, Bool, true, false, not, cond, List, [], ◌∷◌, Option, Some, None, option_map, option_and_then, refl, sym, ap, ◌∙◌}
use Rattle.std.proofs.Math.Bool.{and-true, and_assoc}
use Rattle.x86_64_model.specs.Entry.{present, writable, user, huge, no_execute, address, flags}
use Rattle.x86_64_model.specs.Memory.{Words}
use Rattle.x86_64_model.specs.PageWalk.{read, page_start}
use Rattle.x86_64_model.specs.Path.{level_of, span_start, span_size}
use Rattle.x86_64_model.specs.Mappings.{Rights, Mapping, words_along, maps_page, is_leaf, rights_of, last_word, leaf_of, mapping_at, every_right, granted}
use Rattle.x86_64_model.specs.private.Found.{page_from}
use Rattle.x86_64_model.proofs.Lemmas.Mappings.Found.{neither}

-- the mapping by the last word of a path, below words with rights r
abbrev pub by_last_word : (L : ℕ) (q : List ℕ) → Rights → (e : ℕ) → Mapping
by_last_word L q r e = page_from (span_start L q) (level_of L q) r e

-- the mapping of a path q, on from a frame's table of a level, below words with rights r, by the rest of the path
abbrev pub mapped_on : (L : ℕ) → Words → (q : List ℕ) (level : ℕ) → Rights → (frame : ℕ) → (rest : List ℕ) → Option Mapping
mapped_on L T q level r f [] = None
mapped_on L T q level r f (i ∷ []) = option_and_then (λ e. cond (present e && maps_page level e) (Some (by_last_word L q r e)) None) (read T f i)
mapped_on L T q level r f (i ∷ j ∷ s) = option_and_then (λ e. cond (present e && not (huge e)) (mapped_on L T q (level - 1) (granted r e) (address e) (j ∷ s)) None) (read T f i)

abbrev pub both : Rights → Rights → Rights
both r s = record { write = r.write && s.write; user = r.user && s.user; execute = r.execute && s.execute }

-- the same by all words of the rest
abbrev said : (L : ℕ) (q : List ℕ) (level : ℕ) → Rights → (words : List ℕ) → Option Mapping
said L q level r ws = cond (is_leaf level ws)
    (Some (record { start = span_start L q; size = span_size L q; frame = page_start (level_of L q) (last_word ws); flags = flags (last_word ws); rights = both r (rights_of ws) }))
    None

pub both_last : (r : Rights) (e : ℕ) → both r (rights_of (e ∷ [])) ≡ granted r e
both_last r e = λ i. record {
  write = r.write && and-true (writable e) i;
  user = r.user && and-true (user e) i;
  execute = r.execute && and-true (not (no_execute e)) i;
}

pub both_more : (r : Rights) (e : ℕ) (ws : List ℕ) → both r (rights_of (e ∷ ws)) ≡ both (granted r e) (rights_of ws)
both_more r e ws = λ i. record {
  write = sym (and_assoc r.write (writable e) (rights_of ws).write) i;
  user = sym (and_assoc r.user (user e) (rights_of ws).user) i;
  execute = sym (and_assoc r.execute (not (no_execute e)) (rights_of ws).execute) i;
}

module _ (L : ℕ) (T : Words) (q : List ℕ) where
  -- one word more before those of the rest
  said_more : (level : ℕ) (r : Rights) (e f : ℕ) (ws : List ℕ) → said L q level r (e ∷ f ∷ ws) ≡ cond (present e && not (huge e)) (said L q (level - 1) (granted r e) (f ∷ ws)) None
  unfolding is_leaf
  said_more level r e f ws = by (present e && not (huge e)) ∙ ap (λ s. cond (present e && not (huge e)) (cond (is_leaf (level - 1) (f ∷ ws)) (Some (mapping s)) None) None) (both_more r e (f ∷ ws))
    where
      mapping : Rights → Mapping
      mapping s = record { start = span_start L q; size = span_size L q; frame = page_start (level_of L q) (last_word (f ∷ ws)); flags = flags (last_word (f ∷ ws)); rights = s }

      by : (b : Bool) → (let m : Option Mapping = Some (mapping (both r (rights_of (e ∷ f ∷ ws)))) in cond (b && is_leaf (level - 1) (f ∷ ws)) m None ≡ cond b (cond (is_leaf (level - 1) (f ∷ ws)) m None) None)
      by true = refl
      by false = refl

  along : (s : List ℕ) (level : ℕ) (r : Rights) (f : ℕ) → option_and_then (said L q level r) (words_along T f s) ≡ mapped_on L T q level r f s
  unfolding words_along is_leaf
  along [] level r f = refl
  along (i ∷ []) level r f = by (read T f i)
    where
      by : (o : Option ℕ) → option_and_then (said L q level r) (option_and_then (λ e. option_map (λ below. e ∷ below) (Some [])) o)
          ≡ option_and_then (λ e. cond (present e && maps_page level e) (Some (by_last_word L q r e)) None) o
      by None = refl
      by (Some e) = ap (λ s. cond (present e && maps_page level e) (Some (record { start = span_start L q; size = span_size L q; frame = page_start (level_of L q) e; flags = flags e; rights = s })) None) (both_last r e)
  along (i ∷ j ∷ s) level r f = by (read T f i) (λ e. along (j ∷ s) (level - 1) (granted r e) (address e))
    where
      -- the word after e is there or not
      after : (e : ℕ) (o : Option ℕ) → option_and_then (said L q level r) (option_map (λ below. e ∷ below) (option_and_then (λ e. option_map (λ below. e ∷ below) (words_along T (address e) s)) o))
          ≡ cond (present e && not (huge e)) (option_and_then (said L q (level - 1) (granted r e)) (option_and_then (λ e. option_map (λ below. e ∷ below) (words_along T (address e) s)) o)) None
      after e None = sym (neither (present e && not (huge e)))
      after e (Some g) = rest (words_along T (address g) s)
        where
          rest : (o : Option (List ℕ)) → option_and_then (said L q level r) (option_map (λ below. e ∷ below) (option_map (λ below. g ∷ below) o))
              ≡ cond (present e && not (huge e)) (option_and_then (said L q (level - 1) (granted r e)) (option_map (λ below. g ∷ below) o)) None
          rest None = sym (neither (present e && not (huge e)))
          rest (Some ws) = said_more level r e g ws

      by : (o : Option ℕ) → ((e : ℕ) → option_and_then (said L q (level - 1) (granted r e)) (words_along T (address e) (j ∷ s)) ≡ mapped_on L T q (level - 1) (granted r e) (address e) (j ∷ s))
          → option_and_then (said L q level r) (option_and_then (λ e. option_map (λ below. e ∷ below) (words_along T (address e) (j ∷ s))) o)
          ≡ option_and_then (λ e. cond (present e && not (huge e)) (mapped_on L T q (level - 1) (granted r e) (address e) (j ∷ s)) None) o
      by None on = refl
      by (Some e) on = after e (read T (address e) j) ∙ ap (λ m. cond (present e && not (huge e)) m None) (on e)

pub mapping_along : (L : ℕ) (T : Words) (root : ℕ) (q : List ℕ) → mapping_at L T root q ≡ mapped_on L T q L every_right root q
unfolding mapping_at leaf_of
mapping_along L T root q = along L T q q L every_right root
