-- The result of a mapper's call is the machine's step.
use Rattle.std.proofs.Common.{◌≡◌, ℕ, List, Option, Some, option_map, refl, ap, sym, ◌∙◌, subst}
use Rattle.x86_64_model.specs.Memory.{Memory}
use Rattle.x86_64_model.specs.Layout.{Layout}
use Rattle.x86_64_model.specs.Hierarchy.{◌laid_in◌, read_entry}
use Rattle.x86_64_model.specs.Translation.{Translated, translate, address_of}
use Rattle.x86_64_model.specs.Call as machine
use Rattle.x86_64_model.specs.Call.{Call}
use Rattle.x86_64_model.specs.Machine.{do_call}
use Rattle.x86_64_tables.specs.Translations.{translation_of}
use Rattle.x86_64_tables.specs.declared.translation.MappedFrame.TheVariants.{Size4KiB, Size2MiB, Size1GiB}
use Rattle.x86_64_tables.specs.declared.translation.TranslateResult.{TranslateResult}
use Rattle.x86_64_tables.specs.declared.translation.TranslateResult.TheVariants.{Mapped, NotMapped, InvalidFrameAddress}
use Rattle.x86_64.specs.declared.call_values.MapperReply.TheVariants as reply
use Rattle.x86_64.specs.Replies.{translate_result}
use Rattle.x86_64.specs.Runs.{machine_of, state_in, step_by}

some_same : {t u : Translated} → Some t ≡ Some u → t ≡ u
some_same e = cc

translation_back : (r : TranslateResult) (t : Translated) → translation_of r ≡ Some t → Some r ≡ translate_result t
translation_back (Mapped (Size4KiB start) offset flags) t e = subst (λ t. Some (Mapped (Size4KiB start) offset flags) ≡ translate_result t) (some_same e) refl
translation_back (Mapped (Size2MiB start) offset flags) t e = subst (λ t. Some (Mapped (Size2MiB start) offset flags) ≡ translate_result t) (some_same e) refl
translation_back (Mapped (Size1GiB start) offset flags) t e = subst (λ t. Some (Mapped (Size1GiB start) offset flags) ≡ translate_result t) (some_same e) refl
translation_back NotMapped t e = subst (λ t. Some NotMapped ≡ translate_result t) (some_same e) refl
translation_back (InvalidFrameAddress address) t e = cc

module _ (l : Layout) (take_back : List ℕ → ℕ → List ℕ) (m : Memory) (pool : List ℕ) (c : Call) (addr : ℕ) where
  pub translate_served : c ≡ machine.Translate addr → (r : TranslateResult) → translation_of r ≡ Some (translate l.levels (read_entry (l laid_in m)) addr)
      → step_by (machine_of l take_back) (state_in l m pool) c ≡ record { state = state_in l m pool; reply = Some (reply.Translate r) }
  unfolding do_call
  translate_served is r e = ap (step_by (machine_of l take_back) (state_in l m pool)) is ∙ ap (λ o. record { state = state_in l m pool; reply = option_map reply.Translate o }) (sym (translation_back r _ e))

  pub address_served : c ≡ machine.TranslateAddress addr → (a : Option ℕ) → a ≡ address_of (translate l.levels (read_entry (l laid_in m)) addr)
      → step_by (machine_of l take_back) (state_in l m pool) c ≡ record { state = state_in l m pool; reply = Some (reply.Address a) }
  unfolding do_call
  address_served is a e = ap (step_by (machine_of l take_back) (state_in l m pool)) is ∙ ap (λ a. record { state = state_in l m pool; reply = Some (reply.Address a) }) (sym e)
