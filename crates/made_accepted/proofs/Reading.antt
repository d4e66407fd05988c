-- Lines one behind the other are read as their statements, and those of a made text are in order.
use Rattle.std.proofs.Common.{◌≡◌, ℕ, zero, suc, ◌+◌, ◌-◌, ◌^◌, ◌<◌, ◌≤◌, Bool, true, false, cond, ◌&&◌, List, [], ◌∷◌, ◌++◌, length, refl, sym, ap, ◌∙◌, subst, arith, append_assoc}
use Rattle.std.specs.Prelude.{codes, decimal, pos, Option, Some, None, nat_lt, slice_get}
use Rattle.std.specs.List.{flat_map, range_with_len, list_all, prefix_len}
use Rattle.std.specs.Option.{option_map_or}
use Rattle.std.proofs.lemmas.Bool.{ltb-true}
use Rattle.std.proofs.lemmas.List.Folds.{list_all-append}
use Rattle.il_core.specs.Statement.{Statement, Placed, title, procedure, variable, pre, post}
use Rattle.il_core.specs.Tree as tree
use Rattle.il_core.specs.declared.statement.Bound.TheVariants as bound
use Rattle.il_core.specs.declared.statement.Mode.TheVariants as mode
use Rattle.il_core.specs.declared.statement.TypeUse.TheVariants as type
use Rattle.il_core.specs.declared.token.Symbol.TheVariants as symbols
use Rattle.il_core.specs.declared.token.Token.{Token}
use Rattle.il_core.specs.declared.token.TokenKind.{TokenKind}
use Rattle.il_core.specs.declared.token.TokenKind.TheVariants.{Key, Ident, Number, Symbol}
use Rattle.il_lexer.specs.Cut.{token_of}
use Rattle.il_lexer.specs.Limit.{limit_behind, limit_at, kind_at, IsWithin, AreWithinLimits}
use Rattle.il_lexer.specs.Reading.{high_place}
use Rattle.il_syntax.specs.Order.{IsInOrder}
use Rattle.il_syntax.specs.Parse.{pieces, AreStatements}
use Rattle.made_text.specs.Made.{text_of, lines, made_text}
use Rattle.made_text.specs.Made as made
use Rattle.made_accepted.specs.Laws.{IsSaid}
use Rattle.made_accepted.specs.Statements.{placed_from, said, round, closing, statements, at_least}
use Rattle.made_accepted.proofs.Cutting.{Hop, Hops, hop_tokens, are_cuts, cuts_then}
use Rattle.made_accepted.proofs.Digits.{is_low}
use Rattle.made_accepted.proofs.Lines.{reached, AreSmall, IsSmall, IsLine, title_line, procedure_line, variable_line, pre_line, post_line, loop_line, exit_line, assign_line, end_loop_line, end_procedure_line, finish_line}

-- each line is the statement beside it
abbrev AreLines : List (List ℕ) → List Statement → Type 0
AreLines [] [] = Unit {0}
AreLines (l ∷ ls) (s ∷ ss) = IsLine l s × AreLines ls ss
AreLines _ _ = ⊥

record AreRead (at : ℕ) (text : List ℕ) (stmts : List Placed) : Type 0 where
  steps : List Hop
  cut : Hops text steps []
  are : AreStatements (pieces (hop_tokens at steps)) stmts
  small : AreSmall (hop_tokens at steps)
  low : list_all is_low text ≡ true

tokens_then : (at : ℕ) (a b : List Hop) → hop_tokens at (a ++ b) ≡ hop_tokens at a ++ hop_tokens (reached at a) b
tokens_then at [] b = refl
tokens_then at (s ∷ a) b =
    ap (λ ts. token_of at s.len s.kind ++ ts) (tokens_then (at + s.len) a b) ∙ sym (append_assoc (token_of at s.len s.kind) (hop_tokens (at + s.len) a) _)

small_then : (a b : List Token) → AreSmall a → AreSmall b → AreSmall (a ++ b)
small_then [] b h g = g
small_then (t ∷ a) b h g = (h.0, small_then a b h.1 g)

both_low : (a b : List ℕ) → list_all is_low a ≡ true → list_all is_low b ≡ true → list_all is_low (a ++ b) ≡ true
both_low a b h g = list_all-append is_low a b ∙ ap (λ t. t && list_all is_low b) h ∙ g

lines_read : (at : ℕ) (ls : List (List ℕ)) (ss : List Statement) → AreLines ls ss → AreRead at (text_of ls) (placed_from at ls ss)
lines_read at [] [] h = record { steps = []; cut = refl; are = tt; small = tt; low = refl }
lines_read at (l ∷ ls) [] h = absurd h
lines_read at [] (s ∷ ss) h = absurd h
lines_read at (l ∷ ls) (s ∷ ss) h =
    let r = lines_read (at + length l + 1) ls ss h.1 in
    let tokens : hop_tokens at (h.0.steps ++ r.steps) ≡ hop_tokens at h.0.steps ++ hop_tokens (at + length l + 1) r.steps =
    tokens_then at h.0.steps r.steps ∙ ap (λ n. hop_tokens at h.0.steps ++ hop_tokens n r.steps) (h.0.ends at) in
    let stmts = placed_from at (l ∷ ls) (s ∷ ss) in
    record {
      steps = h.0.steps ++ r.steps;
      cut = cuts_then ((l ++ codes "\n") ++ text_of ls) h.0.steps r.steps (text_of ls) [] (h.0.cut (text_of ls)) r.cut;
      are = subst (λ ts. AreStatements (pieces ts) stmts) (sym tokens)
          (subst (λ ps. AreStatements ps stmts) (sym (h.0.one_piece at (hop_tokens (at + length l + 1) r.steps)))
          (record { derived = h.0.derived at; place = sym (h.0.starts at) }, r.are));
      small = subst AreSmall (sym tokens) (small_then (hop_tokens at h.0.steps) _ (h.0.small at) r.small);
      low = both_low (l ++ codes "\n") (text_of ls) h.0.low r.low;
    }

-- the lines of a made text
rounds_are_lines : (a n : ℕ) → a + n ≤ 201 → AreLines (flat_map made.round (range_with_len a n) ++ made.closing) (flat_map round (range_with_len a n) ++ closing)
rounds_are_lines a zero h = (end_procedure_line, (finish_line, tt))
rounds_are_lines a (suc n) h = (loop_line, (exit_line a (omega arith), (assign_line, (end_loop_line, rounds_are_lines (a + 1) n (omega arith)))))

are_lines : (n : ℕ) → n ≤ 200 → AreLines (lines n) (said n)
are_lines n h = (title_line, (procedure_line, (variable_line, (pre_line, (post_line n h, rounds_are_lines 1 n (omega arith))))))

-- their order
abbrev five : ℕ → List Placed → List Placed
five n rest = record { place = 0; says = title (codes "gen") } ∷ record { place = 11; says = procedure (codes "p") }
    ∷ record { place = 19; says = variable mode.InOut (codes "x") (type.Range (bound.Number (pos 0)) (bound.Number (pos 200))) }
    ∷ record { place = 39; says = pre (tree.constant true) } ∷ record { place = 49; says = post (at_least n) } ∷ rest

rounds_in_order : (n at : ℕ) (ks : List ℕ) → IsInOrder (five n (placed_from at (flat_map made.round ks ++ made.closing) (flat_map round ks ++ closing)))
rounds_in_order n at [] = refl
rounds_in_order n at (k ∷ ks) = rounds_in_order n (at + length (codes "LOOP;") + 1 + length (codes "EXIT WHEN x >= " ++ (decimal k ++ codes ";")) + 1 + length (codes "x := x + 1;") + 1 + length (codes "ENDLOOP;") + 1) ks

in_order : (n : ℕ) → IsInOrder (statements n)
in_order n = rounds_in_order n _ (range_with_len 1 n)

-- no byte is high
low_run : (text : List ℕ) → list_all is_low text ≡ true → prefix_len is_low text ≡ length text
low_run [] h = refl
low_run (b ∷ bs) h =
    (elim (is_low b) as (λ t. (t && list_all is_low bs) ≡ true → cond t (1 + prefix_len is_low bs) 0 ≡ length (b ∷ bs)) [
      | true ↦ λ g. (let claim : prefix_len is_low bs ≡ length bs = low_run bs g in omega (arith, claim))
      | false ↦ λ g. absurd (let z : false ≡ true = g in cc)
    ]) h

not_below : (n : ℕ) → nat_lt n n ≡ false
not_below n = by (nat_lt n n) refl
  where
    by : (b : Bool) → nat_lt n n ≡ b → b ≡ false
    by true e = let h : n < n = ltb-true n n e in absurd (omega arith)
    by false e = refl

none_high : (text : List ℕ) → list_all is_low text ≡ true → high_place text ≡ None
none_high text h =
    let run = low_run text h in
    ap (λ n. cond (nat_lt n (length text)) (Some n) None) run ∙ ap (λ t. cond t (Some (length text)) None) (not_below (length text))

-- small numbers are within each limit
least_limit : (k : TokenKind) → 2 ^ 63 - 1 ≤ limit_behind k
least_limit (Symbol symbols.Minus) = omega arith
least_limit _ = omega arith

limit_is : (tokens : List Token) (i : ℕ) → 2 ^ 63 - 1 ≤ limit_at tokens i
limit_is tokens zero = omega arith
limit_is tokens (suc i) = by (kind_at tokens i)
  where
    by : (o : Option TokenKind) → 2 ^ 63 - 1 ≤ option_map_or limit_behind o (2 ^ 63 - 1)
    by None = omega arith
    by (Some k) = least_limit k

small_within : (limit : ℕ) (k : TokenKind) → 2 ^ 63 - 1 ≤ limit → IsSmall k → IsWithin limit k
small_within limit (Number v) h s value e = let same : v ≡ value = cc in omega arith
small_within limit (Key w) h s value e = cc
small_within limit (Ident w) h s value e = cc
small_within limit (Symbol w) h s value e = cc

small_at : (tokens : List Token) (i : ℕ) (t : Token) → AreSmall tokens → slice_get tokens i ≡ Some t → IsSmall t.kind
small_at [] i t h e = absurd (let z : ◌≡◌ {A = Option Token} None (Some t) = e in cc)
small_at (x ∷ xs) zero t h e = let same : x ≡ t = cc in subst (λ (y : Token). IsSmall y.kind) same h.0
small_at (x ∷ xs) (suc i) t h e = small_at xs i t h.1 e

within_limits : (tokens : List Token) → AreSmall tokens → AreWithinLimits tokens
within_limits tokens h i t e = small_within (limit_at tokens i) t.kind (limit_is tokens i) (small_at tokens i t h e)

pub is_said : (n : ℕ) → n ≤ 200 → IsSaid n
unfolding made_text
is_said n h =
    let r = lines_read 0 (lines n) (said n) (are_lines n h) in
    record {
      tokens = hop_tokens 0 r.steps;
      read = (none_high (text_of (lines n)) r.low, are_cuts 0 (text_of (lines n)) r.steps [] r.cut, within_limits (hop_tokens 0 r.steps) r.small);
      parsed = (r.are, in_order n);
    }
