use Rattle.std.proofs.Common.{◌≡◌, ◌+◌, ◌++◌, ◌∷◌, [], take, sym, ap, ◌∙◌, subst, slice_set, add-one}
use Rattle.std.proofs.lemmas.List.{get_or_read}
use Rattle.std.proofs.Math.Seq.{take-suc}
use Rattle.x86_64_mappers.specs.AccessLending.{table_in}
use Rattle.x86_64_mappers.proofs.Map.Linking.{linked_reached}
use Rattle.x86_64_mappers.specs.Reached.{IsReached}
use Rattle.x86_64_mappers.specs.private.Linked.{Beside}
use Rattle.x86_64_model.proofs.Lemmas.Hierarchies.Memories.{covered}
use Rattle.x86_64_mappers.specs.private.Writes.{IsSet}
use Rattle.x86_64_mappers.proofs.Memory.EntryWrites.{parents_not_huge}
use Rattle.x86_64_mappers.proofs.walk.map.name_table.Goals as goal

pub set_frame-requires : goal.set_frame-requires
set_frame-requires g c = parents_not_huge c.args.flags.0 c.requires.may.marks

pub returns-clause-reached : goal.returns-clause-reached
returns-clause-reached g c =
    let s = c.args.mapper.now in
    let l = (g.M.Tables.hierarchy s).layout in
    let m = (g.M.Tables.hierarchy s).memory in
    let q = c.args.parents.now in
    let k = c.args.k in
    let i = c.index-parents-k.result in
    let item = get_or_read q k i c.requires.within c.index-parents-k.is 0 in
    let is_mapping = g.met.M.Tables.is_mapping s in
    let t = g.M.TableAccess.with_table s c.args.table (slice_set (table_in l m c.args.table) i c.set_frame.new.self) in
    let n = (g.M.Tables.hierarchy t).memory in
    let set = subst (λ w. IsSet l.places m c.args.table i w n) c.set_frame.ensures (c.entry_mut.ensures.set c.set_frame.new.self) in
    let path : take (k + 1) q ≡ take k q ++ i ∷ [] = ap (λ j. take j q) (add-one k) ∙ take-suc q k 0 c.requires.within ∙ ap (λ j. take k q ++ j ∷ []) (sym item) in
    subst (λ l. IsReached l n (take (k + 1) q) c.args.frame) (sym (g.met.M.TableAccess.keeps_layout s c.args.table _))
    (subst (λ p. IsReached l n p c.args.frame) (sym path)
    (linked_reached l is_mapping.distinct m (take k q) c.args.table i c.entry_mut.ensures.index c.requires.may.reached c.requires.may.not_on_way (subst (Beside l.window l.root c.args.table) (sym item) c.requires.may.beside)
    c.args.frame c.args.flags.0 (is_mapping.frames c.args.frame (covered m l.places c.args.frame c.requires.may.there)) c.requires.may.marks c.requires.may.is_present c.requires.may.there n set))
