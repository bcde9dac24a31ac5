-- `of` makes a value of no bytes, whose list is the one that the contract names. A walk by hand: code has no such list. Assumes `Logic`.
use Rattle.std.proofs.Common.{List, [], ◌∷◌, refl}
use seplogic.Ra.Ura.{Ura}
use mir.Val.{Val, vstruct, vnil}
use base.Fml.{ftrue}
use types.Logic.{Logic}
use types.Kit.{Goal, Step, Item, step, ‵, raw, ◌⊛◌, ◌$◌, ◌∵◌, !, qed, move, keep, drop, split, fjoin, fpack, feq_i, suffices, done}
use types.Part.{agg}
use types.Run.{enter, returns, no_more}
use types.ByLocal.{alloc_all, pass_all, free_all, look_at, sets}
use denote.RattleType.{RattleType, Valss, owns}
use denote.Signature.{types_at}
use denote.Steps.{nothing}
use denote.Struct.Struct.{Struct, within}
use denote.Triple.Walked.{says, ends_at}
use Rattle.std.proofs.raw_atomic.Walks.{proved}
use Rattle.x86_64_tables.specs.contracts.frame_alloc.lent_pool.OwnFrames as own
use Rattle.x86_64_tables.specs.contracts.frame_alloc.lent_pool.OwnFrames.of as f
use Rattle.x86_64_tables.proofs.frame_alloc.lent_pool.OwnFrames.of.Statement.{statement}
use Rattle.x86_64_tables.proofs.frame_alloc.lent_pool.OwnFrames.of.Code as code

abbrev none : Val
none = vstruct vnil

abbrev fieldless : RattleType
fieldless = Struct (record { name = []; args = []; types = []; fields = [] })

none_made : {M : Type 1} {𝓤 : Ura M} {𝓛 : Logic 𝓤} {K : Type 0} {Γ : List (Item 𝓤)} {G : Goal 𝓤 𝓛.H} → K → Step K 𝓛 (‵ (fieldless.own_val tt (none ∷ [])) ∷ Γ) G Γ G
none_made t = step (λ s.
    nothing t $ feq_i t (List Val) (none ∷ []) (none ∷ []) refl $ fjoin t $
    fpack t (Valss []) (within (record { name = []; args = []; types = []; fields = [] }) tt (none ∷ [])) tt $ s)

pub of_spec : {M : Type 1} → statement M
of_spec 𝓤 𝓛 𝓜 𝓡 wired =
    let c = f.clauses 𝓛 𝓜.mem 𝓡.returns in
    proved 𝓛 f.ended tt c 𝓜 𝓡 tt f.Key.name code.function (code.unfolded 𝓤 𝓛.H 𝓜 𝓡 wired) (λ κs. tt) (λ κs. tt)
    (λ κs qs bounds a g are.
    let made : own.the_row.Denot = record { frames = g } in
    qed 𝓛 ((‵ ftrue ⊛ ‵ (owns (types_at f.ended.signature.params κs) a tt)) ∷ raw ((c κs a).requires g) ∷ []) ∵
    keep ! (0 ∷ []) $ split ! $ move ! (1 ∷ []) $ drop ! $
    enter ! _ _ _ _ _ $ alloc_all ! (λ l. pass_all ! refl tt $
    sets ! (agg ! (no_more !)) refl (tt, tt) $
    nothing ! $ none_made ! $ fjoin ! $
    returns ! (look_at ! 0 refl) $ free_all ! refl $
    suffices ! _ (ends_at 𝓛 f.ended tt c ((κs, qs, bounds, a, tt), g) none made tt tt) $ says ! refl $
    nothing ! $ move ! (2 ∷ 0 ∷ 1 ∷ []) $ done !))
