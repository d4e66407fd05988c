-- The first piece of a list of tokens.
use Rattle.std.proofs.Common.{◌≡◌, ℕ, suc, ◌<◌, ◌≤◌, List, [], ◌∷◌, length, take, drop, Bool, true, false, refl, ap, arith}
use Rattle.std.specs.Prelude.{if◌then◌else◌}
use Rattle.il_core.specs.declared.token.Token.{Token}
use Rattle.il_syntax.specs.Parse.{is_semicolon, joined, pieces}
use Rattle.il_syntax.specs.StatementReading.{piece_len}

-- a token is put before the first piece
before_piece : (t : Token) (ts : List Token) → (0 < length ts → pieces ts ≡ take (piece_len ts) ts ∷ pieces (drop (piece_len ts) ts))
    → joined t (pieces ts) ≡ (t ∷ take (piece_len ts) ts) ∷ pieces (drop (piece_len ts) ts)
before_piece t [] claim = refl
before_piece t (u ∷ us) claim = ap (joined t) (claim (omega arith))

-- the first piece, where a token ends it and where not
with_end : (t : Token) (ts : List Token) (b : Bool) → joined t (pieces ts) ≡ (t ∷ take (piece_len ts) ts) ∷ pieces (drop (piece_len ts) ts)
    → (if b then (t ∷ []) ∷ pieces ts else joined t (pieces ts)) ≡ take (if b then 1 else suc (piece_len ts)) (t ∷ ts) ∷ pieces (drop (if b then 1 else suc (piece_len ts)) (t ∷ ts))
with_end t ts true e = refl
with_end t ts false e = e

-- the first piece is the tokens up to and with the first `;`
pub first_piece : (ts : List Token) → 0 < length ts → pieces ts ≡ take (piece_len ts) ts ∷ pieces (drop (piece_len ts) ts)
first_piece [] h = absurd (omega arith)
first_piece (t ∷ ts) h = with_end t ts (is_semicolon t.kind) (before_piece t ts (λ more. first_piece ts more))

-- the length of the first piece, where a token ends it and where not
len_with_end : (b : Bool) (n len : ℕ) → n ≤ len → (if b then 1 else suc n) ≤ suc len
len_with_end true n len h = omega arith
len_with_end false n len h = omega arith

pub piece_within : (ts : List Token) → piece_len ts ≤ length ts
piece_within [] = omega arith
piece_within (t ∷ ts) = len_with_end (is_semicolon t.kind) (piece_len ts) (length ts) (piece_within ts)

some_with_end : (b : Bool) (n : ℕ) → 0 < (if b then 1 else suc n)
some_with_end true n = omega arith
some_with_end false n = omega arith

-- the first piece has a token
pub piece_some : (ts : List Token) → 0 < length ts → 0 < piece_len ts
piece_some [] h = absurd (omega arith)
piece_some (t ∷ ts) h = some_with_end (is_semicolon t.kind) (piece_len ts)
