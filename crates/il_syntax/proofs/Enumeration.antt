-- The names of an enumeration that are read, with those that are still to be read.
use Rattle.std.proofs.Common.{◌≡◌, ℕ, List, [], ◌∷◌, ◌++◌, true, refl, sym, ap, append_assoc}
use Rattle.std.specs.Prelude.{Option, Some, None}
use Rattle.std.specs.Option.{option_map}
use Rattle.il_core.specs.declared.token.TokenKind.{TokenKind}
use Rattle.il_syntax.specs.FormReading.{names_of, name_in, is_comma}

-- names in front of those that are read, where any are
abbrev pub with_front : List (List ℕ) → Option (List (List ℕ)) → Option (List (List ℕ))
with_front names others = option_map (λ ns. names ++ ns) others

-- one more name in front
more : (names : List (List ℕ)) (name : List ℕ) (others : Option (List (List ℕ))) → with_front names (option_map (λ ns. name ∷ ns) others) ≡ with_front (names ++ name ∷ []) others
more names name None = refl
more names name (Some ns) = ap Some (sym (append_assoc names (name ∷ []) ns))

-- a name and a comma are read
pub goes_on : (names : List (List ℕ)) (word mark : TokenKind) (after : List TokenKind) (name : List ℕ) → name_in word ≡ Some name → is_comma mark ≡ true
    → with_front names (names_of (word ∷ mark ∷ after)) ≡ with_front (names ++ name ∷ []) (names_of after)
goes_on names word mark after name e f = rw (e, f) (more names name (names_of after))
