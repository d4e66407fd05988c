-- A name is a letter, then letters, digits and underscores, 40 bytes in all at most.
use Rattle.std.specs.Prelude.{ℕ, Bool, false, ◌==◌, ◌||◌, ◌&&◌, nat_le, List, [], ◌∷◌, length}
use Rattle.std.specs.List.{list_all}
use Rattle.std.specs.Char.{is_ascii_alphabetic, is_ascii_alphanumeric}

-- a letter, a digit or an underscore
abbrev pub is_name_part : ℕ → Bool
is_name_part b = is_ascii_alphanumeric b || (b == 95)

abbrev pub starts_with_letter : List ℕ → Bool
starts_with_letter [] = false
starts_with_letter (b ∷ bs) = is_ascii_alphabetic b

-- the spelling of a name or keyword, however long
abbrev pub is_word : List ℕ → Bool
is_word bs = starts_with_letter bs && list_all is_name_part bs

abbrev pub is_name : List ℕ → Bool
is_name bs = nat_le (length bs) 40 && is_word bs
