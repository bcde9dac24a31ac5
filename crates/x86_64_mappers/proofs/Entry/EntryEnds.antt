-- The result of a mapper's call on one entry, from the result of the call on the entry.
use Rattle.std.proofs.Common.{◌≡◌, ℕ, true, List, Option, Some, None, sym, ap, ap₂, ◌∙◌, subst}
use Rattle.x86_64_model.proofs.Lemmas.Machines.Owners.{does_unmap, does_update, does_set_flags}
use Rattle.x86_64_model.specs.Allowed.{refuses}
use Rattle.x86_64_model.specs.Entry.{address}
use Rattle.x86_64_model.specs.Path.{front_at}
use Rattle.x86_64_model.specs.private.MapperCalls.{ChangesBy, after_unmap, after_update, after_set_flags}
use Rattle.x86_64_model.specs.Hierarchy.{Hierarchy, read_entry}
use Rattle.x86_64_model.specs.Refusal.{Refusal, Answer, Done, Refused, refusal_of, answer_unless}
use Rattle.x86_64_mappers.specs.private.PathCalls.{UnmapsPath}
use Rattle.x86_64_mappers.proofs.Entry.EntryRules.{Ends, IfRefused}

-- a hierarchy with the same layout and loan differs only in the memory
pub with_memory : {Lent : Type 0} (h after : Hierarchy Lent) → after.layout ≡ h.layout → after.lent ≡ h.lent → record h { memory = after.memory } ≡ after
with_memory h after l e = ap₂ (λ layout lent. record { layout = layout; memory = after.memory; lent = lent }) (sym l) (sym e)

refused_still : {P : Type 0} (answer : Answer) → IfRefused answer P → refuses answer ≡ true → P
refused_still (Done frame) still is = cc
refused_still (Refused why) still is = still

-- this if only the refusal is known
told_still : {P : Type 0} (answer : Answer) (why : Option Refusal) (frame : ℕ) → why ≡ refusal_of answer → IfRefused answer P → refuses (answer_unless why (Done frame)) ≡ true → P
told_still (Done f) None frame told still is = cc
told_still (Done f) (Some v) frame told still is = cc
told_still (Refused w) why frame told still is = still

module _ {Lent : Type 0} (h after : Hierarchy Lent) (layout : after.layout ≡ h.layout) (lent : after.lent ≡ h.lent) (q : List ℕ) where
  pub ends_unmap : (answer : Answer) → Ends h.layout h.memory (after_unmap h.layout h.memory q) answer after.memory → UnmapsPath h q answer after
  ends_unmap answer ends = subst (UnmapsPath h q answer) (with_memory h after layout lent)
      (does_unmap h q answer after.memory (sym ends.answers) ends.changed (refused_still answer ends.unchanged))

  pub ends_update : (given : ℕ) (why : Option Refusal) (answer : Answer) → why ≡ refusal_of answer → Ends h.layout h.memory (after_update h.layout h.memory q given) answer after.memory
      → ChangesBy h (after_update h.layout h.memory q given) (answer_unless why (Done (address (read_entry h q)))) after
  ends_update given why answer told ends =
      let frame = address (read_entry h q) in
      subst (ChangesBy h (after_update h.layout h.memory q given) (answer_unless why (Done frame))) (with_memory h after layout lent)
      (does_update h q given why after.memory (told ∙ ap refusal_of (sym ends.answers)) ends.changed (told_still answer why frame told ends.unchanged))

  pub ends_set_flags : (level given : ℕ) (why : Option Refusal) (answer : Answer) → why ≡ refusal_of answer
      → Ends h.layout h.memory (after_set_flags h.layout h.memory level q given) answer after.memory
      → ChangesBy h (after_set_flags h.layout h.memory level q given) (answer_unless why (Done (address (read_entry h (front_at h.layout.levels level q))))) after
  ends_set_flags level given why answer told ends =
      let frame = address (read_entry h (front_at h.layout.levels level q)) in
      subst (ChangesBy h (after_set_flags h.layout h.memory level q given) (answer_unless why (Done frame))) (with_memory h after layout lent)
      (does_set_flags h level q given why after.memory (told ∙ ap refusal_of (sym ends.answers)) ends.changed (told_still answer why frame told ends.unchanged))
