-- Where the lines, the origins and the places that a written line becomes stand in an expansion.
use Rattle.std.proofs.Common.{◌≡◌, ℕ, zero, suc, ◌+◌, ◌-◌, ◌<◌, List, [], ◌∷◌, ◌++◌, length, map, take, drop, refl, ap, ◌∙◌, subst, arith}
use Rattle.std.specs.Prelude.{sum_by, count_by, slice_get, Option, None, Some}
use Rattle.std.specs.Option.{option_map}
use Rattle.std.proofs.lemmas.List.{length-append, length-map}
use Rattle.std.proofs.lemmas.Option.{slice_get-map}
use Rattle.il_core.specs.Procedure.{Instruction}
use Rattle.il_core.specs.Run.{inout_from}
use Rattle.il_core.specs.declared.line.Place.{Place}
use Rattle.il_called.specs.Called.{Passed, WrittenLine, own, call, WrittenProcedure}
use Rattle.il_called.specs.Expansion.{Callee, moved, inlined, variables_in, is_returned, entered, copied, handed_back, body_of, entry_of, call_lines, call_width, entry_width, width_of, start_of, brings, base_of, own_place, each_from, lines_of, origin_at, repeated, origins_of, call_number, brought, places_of}
use Rattle.il_called.specs.declared.called.Origin.{Origin}
use Rattle.il_inline.specs.Calls.{CallFits, AllCall}
use Rattle.il_inline.proofs.Held.{width_held, origins_held}
use Rattle.il_inline.proofs.Shape.{behind, each_at, line_calls, start_next}
use Rattle.il_inline.proofs.Sizes.{length_entered, length_copied, length_handed, length_line, length_brought}
use Rattle.il_inline.proofs.Texts.{kept_left}
use Rattle.il_inline.proofs.Together.{HasOrigins, line_origins, length_repeated}

pub front : {X : Type 0} (xs ys : List X) (n : ℕ) → n < length xs → slice_get (xs ++ ys) n ≡ slice_get xs n
front [] ys n h = absurd (omega arith)
front (x ∷ xs) ys zero h = refl
front (x ∷ xs) ys (suc n) h = front xs ys n (omega arith)

pub dropped : {X : Type 0} (n : ℕ) (xs : List X) (m : ℕ) → slice_get (drop n xs) m ≡ slice_get xs (n + m)
dropped zero xs m = ap (slice_get xs) (let e : m ≡ 0 + m = omega arith in e)
dropped (suc n) [] m = refl
dropped (suc n) (x ∷ xs) m = dropped n xs m ∙ ap (slice_get (x ∷ xs)) (let e : suc (n + m) ≡ suc n + m = omega arith in e)

-- the members of a list stand in another from a place on
pub record Sit {X : Type 0} (all : List X) (l : ℕ) (xs : List X) : Type 0 where
  pub at : (j : ℕ) (x : X) → slice_get xs j ≡ Some x → slice_get all (l + j) ≡ Some x

pub sit_first : {X : Type 0} (all : List X) (l : ℕ) (x : X) (xs : List X) → Sit all l (x ∷ xs) → slice_get all l ≡ Some x
sit_first all l x xs h = ap (slice_get all) (let e : l ≡ l + 0 = omega arith in e) ∙ h.at 0 x refl

pub sit_rest : {X : Type 0} (all : List X) (l : ℕ) (x : X) (xs : List X) → Sit all l (x ∷ xs) → Sit all (l + 1) xs
sit_rest all l x xs h = record { at = λ j y e. ap (slice_get all) (let f : (l + 1) + j ≡ l + suc j = omega arith in f) ∙ h.at (suc j) y e }

pub sit_left : {X : Type 0} (all : List X) (l : ℕ) (xs ys : List X) → Sit all l (xs ++ ys) → Sit all l xs
sit_left all l xs ys h = record { at = λ j x e. h.at j x (kept_left xs ys j x e) }

pub sit_right : {X : Type 0} (all : List X) (l n : ℕ) (xs ys : List X) → length xs ≡ n → Sit all l (xs ++ ys) → Sit all (l + n) ys
sit_right all l n xs ys size h = record {
  at = λ j x e. ap (slice_get all) (let f : (l + n) + j ≡ l + (n + j) = omega arith in f) ∙ h.at (n + j) x (behind xs ys n j (n + j) x size refl e);
}

pub sit_moved : {X : Type 0} (all : List X) (l m : ℕ) (xs : List X) → l ≡ m → Sit all l xs → Sit all m xs
sit_moved all l m xs e h = subst (λ k. Sit all k xs) e h

-- what a written line becomes
pub line_sits : (before : List Callee) (p : WrittenProcedure) (n : ℕ) (line : WrittenLine) → AllCall before p.lines → slice_get p.lines n ≡ Some line
    → Sit (each_from (lines_of before p) 0 p.lines) (start_of before p.lines n) (lines_of before p n line)
line_sits before p n line calls e = record {
  at = λ j i h. each_at (lines_of before p) (width_of before) 0 p.lines (λ m k x at. length_line before p m x (line_calls before p.lines k x calls at)) n j n line i e (omega arith) h;
}

pub own_sits : (before : List Callee) (p : WrittenProcedure) (n : ℕ) (i : Instruction) → AllCall before p.lines → slice_get p.lines n ≡ Some (own i)
    → slice_get (each_from (lines_of before p) 0 p.lines) (start_of before p.lines n) ≡ Some (moved (own_place before p) (start_of before p.lines) i)
own_sits before p n i calls e = sit_first _ _ _ _ (line_sits before p n (own i) calls e)

pub origins_sit : (before : List Callee) (k : ℕ) (p : WrittenProcedure) (n : ℕ) (line : WrittenLine) → AllCall before p.lines
    → ((c : ℕ) (y : Callee) → slice_get before c ≡ Some y → HasOrigins y) → slice_get p.lines n ≡ Some line
    → Sit (each_from (origins_of before k) 0 p.lines) (start_of before p.lines n) (origins_of before k n line)
origins_sit before k p n line calls each e = record {
  at = λ j o h. each_at (origins_of before k) (width_of before) 0 p.lines (λ m i x at. line_origins before k m x each (line_calls before p.lines i x calls at)) n j n line o e (omega arith) h;
}

pub own_origin : (before : List Callee) (k : ℕ) (p : WrittenProcedure) (n : ℕ) (i : Instruction) → AllCall before p.lines
    → ((c : ℕ) (y : Callee) → slice_get before c ≡ Some y → HasOrigins y) → slice_get p.lines n ≡ Some (own i)
    → slice_get (each_from (origins_of before k) 0 p.lines) (start_of before p.lines n) ≡ Some (origin_at k n)
own_origin before k p n i calls each e = sit_first _ _ _ _ (origins_sit before k p n (own i) calls each e)

repeated_at : (o : Origin) (n j : ℕ) → j < n → slice_get (repeated o n) j ≡ Some o
repeated_at o zero j h = absurd (omega arith)
repeated_at o (suc n) zero h = refl
repeated_at o (suc n) (suc j) h = repeated_at o n j (omega arith)

abbrev pub back_count : Callee → ℕ
back_count y = count_by (λ v. is_returned v.mode) (variables_in y.written.places)

-- the lines of a call in its procedure's expansion, with their origins
pub record CallSits (before : List Callee) (k : ℕ) (p : WrittenProcedure) (n : ℕ) (arguments : List Passed) (y : Callee) (all : List Instruction) (from : List Origin) : Type 0 where
  pub enters : Sit all (start_of before p.lines n) (entered p.places (own_place before p) (base_of before p n) (variables_in y.written.places) arguments)
  pub copies : Sit all (start_of before p.lines n + length (variables_in y.written.places))
      (copied y.written.places (base_of before p n) (base_of before p n + (length y.expanded.places - length (inout_from 0 y.written.places))) (inout_from 0 y.written.places))
  pub body : (j : ℕ) (i : Instruction) → slice_get y.expanded.lines j ≡ Some i → slice_get all ((start_of before p.lines n + entry_width y) + j)
      ≡ Some (inlined (λ q. base_of before p n + q) (λ l. (start_of before p.lines n + entry_width y) + l) i)
  pub leaves : Sit all (start_of before p.lines n + (entry_width y + length y.expanded.lines)) (handed_back (own_place before p) (base_of before p n) (variables_in y.written.places) arguments)
  pub next : start_of before p.lines (n + 1)
      ≡ (start_of before p.lines n + (entry_width y + length y.expanded.lines)) + length (handed_back (own_place before p) (base_of before p n) (variables_in y.written.places) arguments)
  pub entry_origin : (j : ℕ) → j < entry_width y → slice_get from (start_of before p.lines n + j) ≡ Some (origin_at k n)
  pub body_origin : (j : ℕ) (o : Origin) → slice_get y.expanded.origins j ≡ Some o → slice_get from ((start_of before p.lines n + entry_width y) + j) ≡ Some o
  pub exit_origin : (j : ℕ) → j < length (handed_back (own_place before p) (base_of before p n) (variables_in y.written.places) arguments)
      → slice_get from ((start_of before p.lines n + (entry_width y + length y.expanded.lines)) + j) ≡ Some (origin_at k n)

pub call_sits : (before : List Callee) (k : ℕ) (p : WrittenProcedure) (n c : ℕ) (arguments : List Passed) (fits : CallFits before c arguments) → AllCall before p.lines
    → ((c : ℕ) (y : Callee) → slice_get before c ≡ Some y → HasOrigins y) → slice_get p.lines n ≡ Some (call c arguments)
    → CallSits before k p n arguments fits.callee (each_from (lines_of before p) 0 p.lines) (each_from (origins_of before k) 0 p.lines)
call_sits before k p n c arguments fits calls each e = record {
  enters = sit_left _ _ _ _ entry;
  copies = sit_right _ _ _ _ _ (length_entered p.places (own_place before p) base vs arguments) entry;
  body = λ j i at. (sit_right all start (entry_width y) _ _ entry_size (sit_left _ _ _ _ lines)).at j _
      (slice_get-map (inlined (λ q. base + q) (λ l. (start + entry_width y) + l)) y.expanded.lines j ∙ ap (option_map (inlined (λ q. base + q) (λ l. (start + entry_width y) + l))) at);
  leaves = sit_right all start (entry_width y + length y.expanded.lines) _ _ middle_size lines;
  next = let s = start_next before p.lines n (call c arguments) e in let b = back_size in let w = width in omega arith;
  entry_origin = λ j h. (sit_left _ _ _ _ (sit_left _ _ _ _ origins)).at j _ (repeated_at (origin_at k n) (entry_width y) j h);
  body_origin = λ j o h. (sit_right from start (entry_width y) _ _ (length_repeated (origin_at k n) (entry_width y)) (sit_left _ _ _ _ origins)).at j o h;
  exit_origin = λ j h. (sit_right from start (entry_width y + length y.expanded.lines) _ _ origin_size origins).at j _
      (repeated_at (origin_at k n) (back_count y) j (let b = back_size in omega arith));
}
  where
    y : Callee
    y = fits.callee

    vs : List Place
    vs = variables_in y.written.places

    base : ℕ
    base = base_of before p n

    start : ℕ
    start = start_of before p.lines n

    all : List Instruction
    all = each_from (lines_of before p) 0 p.lines

    from : List Origin
    from = each_from (origins_of before k) 0 p.lines

    lines : Sit all start (call_lines p.places (own_place before p) base start y arguments)
    lines = subst (Sit all start) (ap (λ (o : Option Callee). elim o [ None ↦ [] | Some it ↦ call_lines p.places (own_place before p) base start it arguments ]) fits.there)
        (line_sits before p n (call c arguments) calls e)

    entry : Sit all start (entry_of p.places (own_place before p) base y arguments)
    entry = sit_left _ _ _ _ (sit_left _ _ _ _ lines)

    entry_size : length (entry_of p.places (own_place before p) base y arguments) ≡ entry_width y
    entry_size =
        let inouts = inout_from 0 y.written.places in
        let a = length_entered p.places (own_place before p) base vs arguments in
        let b = length_copied y.written.places base (base + (length y.expanded.places - length inouts)) inouts in
        let l = length-append (entered p.places (own_place before p) base vs arguments) (copied y.written.places base (base + (length y.expanded.places - length inouts)) inouts) in
        omega arith

    middle_size : length (entry_of p.places (own_place before p) base y arguments ++ body_of base (start + entry_width y) y) ≡ entry_width y + length y.expanded.lines
    middle_size =
        let a = entry_size in
        let b : length (body_of base (start + entry_width y) y) ≡ length y.expanded.lines = length-map y.expanded.lines (inlined (λ q. base + q) (λ l. (start + entry_width y) + l)) in
        let l = length-append (entry_of p.places (own_place before p) base y arguments) (body_of base (start + entry_width y) y) in
        omega arith

    back_size : length (handed_back (own_place before p) base vs arguments) ≡ back_count y
    back_size = length_handed (own_place before p) base vs arguments fits.suits

    width : width_of before (call c arguments) ≡ call_width y
    width = width_held before c arguments y fits.there

    origins : Sit from start (repeated (origin_at k n) (entry_width y) ++ y.expanded.origins ++ repeated (origin_at k n) (back_count y))
    origins = subst (Sit from start) (origins_held before k n c arguments y fits.there) (origins_sit before k p n (call c arguments) calls each e)

    origin_size : length (repeated (origin_at k n) (entry_width y) ++ y.expanded.origins) ≡ entry_width y + length y.expanded.lines
    origin_size =
        let a = length_repeated (origin_at k n) (entry_width y) in
        let b = each c y fits.there in
        let l = length-append (repeated (origin_at k n) (entry_width y)) y.expanded.origins in
        omega arith

-- the places that a call brings
pub place_sits : (before : List Callee) (p : WrittenProcedure) (n c : ℕ) (arguments : List Passed) (fits : CallFits before c arguments) (j : ℕ) (place : Place)
    → slice_get p.lines n ≡ Some (call c arguments) → slice_get fits.callee.expanded.places j ≡ Some place
    → slice_get (variables_in p.places ++ each_from (places_of before p) 0 p.lines) (base_of before p n + j) ≡ Some (brought (call_number p.lines n) place)
place_sits before p n c arguments fits j place e h =
    behind (variables_in p.places) (each_from (places_of before p) 0 p.lines) (length (variables_in p.places)) (sum_by (brings before) (take n p.lines) + j) (base_of before p n + j)
    (brought (call_number p.lines n) place) refl (omega arith)
    (each_at (places_of before p) (brings before) 0 p.lines (λ m i x at. length_brought before p m x tt) n j n (call c arguments) (brought (call_number p.lines n) place) e (omega arith)
    (ap (λ (o : Option Callee). slice_get {X = Place} (elim o [ None ↦ [] | Some it ↦ map (brought (call_number p.lines n)) it.expanded.places ]) j) fits.there
    ∙ slice_get-map (brought (call_number p.lines n)) fits.callee.expanded.places j ∙ ap (option_map (brought (call_number p.lines n))) h))
