-- The bytes of a writer after several writes, and what is left of a line.
use Rattle.std.proofs.Common.{◌≡◌, ◌<◌, ◌-◌, ◌∙◌, ℕ, List, [], ◌∷◌, ◌++◌, Option, Some, None, sym, ap, arith, length, take, drop, append-nil, append_assoc, length-append, take-append-drop}
use Rattle.std.proofs.lemmas.List.{take_rest}
use Rattle.std.specs.Io.KnownBytes.{Appends}
use Rattle.pagetab_engine.specs.private.RunParts.{AppendsFront}
use Rattle.pagetab_engine.specs.Reply.{Reply}
use Rattle.pagetab_engine.specs.Texts.{reply_line, reply_text}

pub appends_nothing : (held : Option (List ℕ)) → Appends held held []
appends_nothing None = tt
appends_nothing (Some bytes) = sym (append-nil bytes)

pub appends_both : (old between new : Option (List ℕ)) (one next : List ℕ) → Appends old between one → Appends between new next → Appends old new (one ++ next)
appends_both None between new one next first second = tt
appends_both (Some xs) None new one next first second = absurd first
appends_both (Some xs) (Some ys) None one next first second = absurd second
appends_both (Some xs) (Some ys) (Some zs) one next first second = second ∙ ap (λ bytes. bytes ++ next) first ∙ append_assoc xs one next

-- if a first part of the line was written and not all of it, the line is cut short
pub cut_short : (old new : Option (List ℕ)) (line done rest : List ℕ) → line ≡ done ++ rest → 0 < length rest → Appends old new done → AppendsFront old new line
cut_short old new line done [] split some appends = absurd (omega arith)
cut_short old new line done (byte ∷ left) split some appends = (done, (byte, left, split), appends)

-- if more of the rest was written, the rest is shorter
pub moves_on : (line done rest : List ℕ) (n : ℕ) → line ≡ done ++ rest → line ≡ (done ++ take n rest) ++ take (length rest - n) (drop n rest)
moves_on line done rest n split =
    split ∙ ap (λ bytes. done ++ bytes) (sym (take-append-drop n rest)) ∙ sym (append_assoc done (take n rest) (drop n rest))
    ∙ ap (λ bytes. (done ++ take n rest) ++ bytes) (sym (take_rest rest n))

-- the line of a reply ends with a line feed
pub some_line : (reply : Reply) → 0 < length (reply_line reply)
some_line reply = omega (arith, length-append (reply_text reply) (10 ∷ []))
