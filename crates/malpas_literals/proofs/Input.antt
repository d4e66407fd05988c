-- What is found of the text of an input is found of the source that had it.
use Rattle.std.proofs.Common.{◌≡◌, ℕ, ◌≤◌, inl, List, length, Option, None, Some, IfSome, subst}
use Rattle.il_edge.specs.Known.{IsAtEnd}
use Rattle.malpas_literals.specs.Answer.{text_limit, IsTextOf, FindsIn, FindsOf, Finds}
use Rattle.malpas_literals.specs.declared.text.Found.{Found}
use Rattle.malpas_literals.specs.declared.text.Found.TheVariants as found

-- an input with its text and what is found of it
record IsFound (found : Found) (input : List ℕ) : Type 0 where
  short : length input ≤ text_limit
  text : (text : List ℕ) × IsTextOf input text × FindsIn text found

of_input : (old new : Option (List ℕ)) (input : List ℕ) (f : Found) → IsAtEnd new → IfSome old (λ left. input ≡ left) → IsFound f input → FindsOf old new f
of_input None new input f end same is = (end, tt)
of_input (Some left) new input f end same is = let moved = subst (IsFound f) same is in (end, (moved.short, moved.text))

by_kind : (old new : Option (List ℕ)) (earlier now : ℕ) (text : List ℕ) (f : Found) → FindsIn text f → FindsOf old new f → Finds old new earlier now f
by_kind old new earlier now text (found.Threats all) finds of = of
by_kind old new earlier now text (found.Refused refusal) finds of = inl of
by_kind old new earlier now text found.ReadFault finds of = absurd finds
by_kind old new earlier now text found.NoMemory finds of = tt

pub finds_of : (old new : Option (List ℕ)) (earlier now : ℕ) (input text : List ℕ) (f : Found) → IsAtEnd new → IfSome old (λ left. input ≡ left) → length input ≤ text_limit
    → IsTextOf input text → FindsIn text f → Finds old new earlier now f
finds_of old new earlier now input text f end same short is finds =
    by_kind old new earlier now text f finds (of_input old new input f end same (record { short = short; text = (text, is, finds) }))
