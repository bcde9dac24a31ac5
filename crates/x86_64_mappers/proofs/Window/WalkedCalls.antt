-- Lemmas for this crate's walks by hand. Assumes `Logic`.
use Rattle.std.proofs.Common.{◌≡◌, ℕ, zero, suc, List, [], ◌∷◌, refl}
use lib.Dec.{T}
use seplogic.Ra.Ura.{Ura}
use mir.Syntax.{Ty, Local, local, ty_unit}
use mir.Val.{Val, has_ty, WT}
use base.Logic.{via}
use types.Logic.{Logic}
use contract.Lifetimes.{Lfts}
use denote.Exit.{Kept, Last, left}
use denote.Laws.{Typed}
use denote.Param.Mute.{blank, had}
use denote.Signature.{Slot}
use denote.Triple.Walked.{Goes, stay_dropped}

-- a parameter of which nothing remains at exit
pub goes_blank : {M : Type 1} {𝓤 : Ura M} (𝓛 : Logic 𝓤) (n : ℕ) (s : Slot n) (k : Kept)
    → ((κs : Lfts n) (x : (s.row κs).Denot) (f : Last ((s.row κs).exit k) x) → T (blank (left ((s.row κs).exit k) x f))) → Goes 𝓛 n s k (stay_dropped s k)
goes_blank {𝓤 = 𝓤} 𝓛 n s k is κs x f vs ok = via 𝓤 _ (had 𝓛 (left ((s.row κs).exit k) x f) (is κs x f)) (𝓛.laws.⇛_intro _)

-- a list of machine values of one type is one value of it
pub one : (τ : Ty) (vs : List Val) → Typed (τ ∷ []) vs → (v : Val) × (vs ≡ v ∷ []) × (T (has_ty τ v) × WT v)
one τ [] t = absurd t
one τ (v ∷ []) t = (v, refl, t.0)
one τ (v ∷ w ∷ vs) t = absurd t.1

abbrev pub type_of : Local → Ty
type_of (local τ h) = τ

-- the type of a local, by its number
abbrev pub nth_type : List Local → ℕ → Ty
nth_type [] n = ty_unit
nth_type (l ∷ ls) zero = type_of l
nth_type (l ∷ ls) (suc n) = nth_type ls n
