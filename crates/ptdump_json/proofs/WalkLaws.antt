-- Written walks arrive if and only if the page walks do, and are equal in words that agree on the way.
use Rattle.std.proofs.Common.{◌≡◌, ◌∙◌, ◌+◌, ◌%◌, ◌&&◌, ℕ, Bool, true, false, cond, List, [], ◌∷◌, map, Option, Some, None, is_some, refl, sym, ap}
use Rattle.std.specs.List.{last_or}
use Rattle.x86_64_dump.specs.Reached.{SameBelow}
use Rattle.x86_64_dump.proofs.SameMappings.{same_steps}
use Rattle.x86_64_model.specs.Entry.{present, huge, address}
use Rattle.x86_64_model.specs.Mappings.{Rights, maps_page, rights_of}
use Rattle.x86_64_model.specs.Memory.{Words}
use Rattle.x86_64_model.specs.PageWalk.{page_start, arrives, page_walk}
use Rattle.x86_64_model.specs.Position.{span}
use Rattle.x86_64_model.specs.Steps.{Step, steps, rights_in, last_arrival}
use Rattle.x86_64_model.proofs.Lemmas.Walks.Steps.{walks_arrive_by_steps}
use Rattle.ptdump_json.specs.Laws.{WrittenWalksArrive}
use Rattle.ptdump_json.specs.Walks.{End, Walk, arrives_at, not_present, huge_page, no_table, arrival_with, arrival_of, read_word, walk_end, walk_of, walk_rights}
use Rattle.ptdump_json.specs.declared.walked.Walk.{Walk as WalkValue}
use Rattle.ptdump_json.specs.Walked.{IsWalk, page_size, walk_end_at}

-- the words of steps are those that are read
words_read : (read : List Step) → map (λ w. w.word) (map read_word read) ≡ map (λ s. s.word) read
words_read [] = refl
words_read (s ∷ read) = ap (λ words. s.word ∷ words) (words_read read)

pub written_walks_arrive : WrittenWalksArrive
unfolding walk_of
written_walks_arrive L T root p = let read = steps T p L root in
    ap (λ words. arrival_with (rights_of words) (walk_end p root (last_or None read))) (words_read read)
    ∙ by (rights_in read) (last_or None read) ∙ sym (walks_arrive_by_steps L T root p)
  where
    by : (r : Rights) (o : Option Step) → arrival_with r (walk_end p root o) ≡ last_arrival p r o
    by r None = refl
    by r (Some s) = each (present s.word) (maps_page s.level s.word) (huge s.word)
      where
        each : (b m h : Bool) → arrival_with r (cond b (cond m (arrives_at (page_start s.level s.word + p % span s.level) (span s.level)) (cond h (huge_page s.level) (no_table (address s.word)))) not_present)
            ≡ cond (b && m) (arrives (page_start s.level s.word + p % span s.level) r.write r.user) None
        each true true h = refl
        each true false true = refl
        each true false false = refl
        each false m h = refl

-- a walk arrives in a page if and only if the page walk does
pub page-walk : (L : ℕ) (T : Words) (root p : ℕ) → is_some (page_size (walk_of L T root p).end) ≡ is_some (page_walk L T root p)
page-walk L T root p = by (walk_of L T root p) ∙ ap is_some (written_walks_arrive L T root p)
  where
    each : (r : Rights) (end : End) → is_some (page_size end) ≡ is_some (arrival_with r end)
    each r (arrives_at to size) = refl
    each r not_present = refl
    each r (no_table frame) = refl
    each r (huge_page level) = refl

    by : (walk : Walk) → is_some (page_size walk.end) ≡ is_some (arrival_of walk)
    by walk = each (walk_rights walk) walk.end

-- walks are equal in words that agree on the way
pub same_walk : (T W : Words) (p level f : ℕ) → SameBelow level T W f → walk_of level T f p ≡ walk_of level W f p
unfolding walk_of
same_walk T W p level f same = ap (λ read. record { words = map read_word read; end = walk_end p f (last_or None read) }) (same_steps T W p level f same)

-- the value of a walk, by the words that it reads and the rights that they grant
pub is_walk : (L : ℕ) (T : Words) (root p : ℕ) (value : WalkValue) (r : Rights) → let all = steps T p L root in
    value.words.items ≡ map read_word all → r ≡ rights_in all → value.end ≡ walk_end_at r (walk_end p root (last_or None all)) → IsWalk (walk_of L T root p) value
unfolding walk_of
is_walk L T root p value r words rights end = let all = steps T p L root in record {
  words = words;
  end = end ∙ ap (λ (k : Rights). walk_end_at k (walk_end p root (last_or None all))) (rights ∙ sym (ap rights_of (words_read all)));
}
