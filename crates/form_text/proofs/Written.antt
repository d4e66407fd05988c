-- What writes, one behind the other, do to the bytes that a sink holds.
use Rattle.std.proofs.lemmas.Bool.{false≢true}
use Rattle.std.proofs.Common.{◌≡◌, ℕ, ◌+◌, ◌<◌, ◌≤◌, List, [], ◌∷◌, ◌++◌, length, take, drop, get_or, Option, Result, Ok, Err, sym, ap, ◌∙◌, append_assoc, append-nil, add-one, take-append-drop, zero, suc, arith, refl}
use Rattle.std.proofs.KnownBytes.{Appends-trans}
use Rattle.std.proofs.Math.Seq.{take-suc}
use Rattle.std.proofs.lemmas.Grind.{flat_map-append}
use Rattle.std.specs.List.{flat_map}
use Rattle.std.specs.Result.{IsErr}
use Rattle.il_edge.specs.Known.{SameTold, Appends, AppendsPrefix}
use Rattle.form_text.specs.Lists.{numbered}
use Rattle.form_text.specs.Pieces.{Writes}

-- After some writes: `text` is written, the faults have not fallen, and what is settled is as before.
pub record IsSoFar (before now : Option (List ℕ)) (settled_before settled_now : Option ℕ) (faults_before faults_now : ℕ) (text : List ℕ) : Type 0 where
  pub wrote : Appends before now text
  pub told : SameTold before now
  pub settled : settled_now ≡ settled_before
  pub later : faults_before ≤ faults_now

-- A prefix of a text is a prefix of the text with more behind it.
pub prefix_more : (old new : Option (List ℕ)) (text more : List ℕ) → AppendsPrefix old new text → AppendsPrefix old new (text ++ more)
prefix_more old new text more (front, rest, parts, wrote) = (front, rest ++ more, ap (λ l. l ++ more) parts ∙ append_assoc front rest more, wrote)

-- A prefix behind a whole text is a prefix of both together.
pub prefix_behind : (old mid new : Option (List ℕ)) (text more : List ℕ) → Appends old mid text → AppendsPrefix mid new more → AppendsPrefix old new (text ++ more)
prefix_behind old mid new text more whole (front, rest, parts, wrote) =
    (text ++ front, rest, ap (λ l. text ++ l) parts ∙ sym (append_assoc text front rest), Appends-trans old mid new text front whole wrote)

-- A write behind a whole text writes both together.
pub writes_behind : {T E : Type 0} (old mid new : Option (List ℕ)) (result : Result T E) (text more : List ℕ) → Appends old mid text → Writes mid new result more
    → Writes old new result (text ++ more)
writes_behind old mid new (Ok done) text more whole wrote = Appends-trans old mid new text more whole wrote
writes_behind old mid new (Err failed) text more whole part = prefix_behind old mid new text more whole part

-- A call that failed after a prefix of the text writes the text as far as it went.
pub writes_failed : {T E : Type 0} (old new : Option (List ℕ)) (result : Result T E) (text : List ℕ) → IsErr result → AppendsPrefix old new text → Writes old new result text
writes_failed old new (Ok done) text failed part = absurd (false≢true failed)
writes_failed old new (Err failed) text is part = part

-- The pieces up to the next one are those before it and that one.
pub pieces_next : {X : Type 0} (f : X → List ℕ) (xs : List X) (i : ℕ) (d : X) → i < length xs → flat_map f (take (i + 1) xs) ≡ flat_map f (take i xs) ++ f (get_or xs i d)
pieces_next f xs i d h =
    rw (add-one, take-suc xs i d h) (flat_map-append f (take i xs) (get_or xs i d ∷ []) ∙ ap (λ l. flat_map f (take i xs) ++ l) (append-nil (f (get_or xs i d))))

-- The pieces up to the next one stand in front of all of them.
pub pieces_split : {X : Type 0} (f : X → List ℕ) (xs : List X) (i : ℕ) → flat_map f xs ≡ flat_map f (take i xs) ++ flat_map f (drop i xs)
pieces_split f xs i = ap (flat_map f) (sym (take-append-drop i xs)) ∙ flat_map-append f (take i xs) (drop i xs)

-- A prefix of the next piece behind whole pieces is a prefix of all pieces.
pub prefix_among : {X : Type 0} (f : X → List ℕ) (xs : List X) (i : ℕ) (d : X) (old mid new : Option (List ℕ)) → i < length xs
    → Appends old mid (flat_map f (take i xs)) → AppendsPrefix mid new (f (get_or xs i d)) → AppendsPrefix old new (flat_map f xs)
prefix_among f xs i d old mid new h whole part =
    let first : AppendsPrefix old new (flat_map f (take (i + 1) xs)) = rw (pieces_next f xs i d h) (prefix_behind old mid new _ _ whole part) in
    rw (pieces_split f xs (i + 1)) (prefix_more old new _ (flat_map f (drop (i + 1) xs)) first)

-- What is numbered from k on, up to the next one, is what is before it and that one: by the next place as a successor.
numbered_suc : {X : Type 0} (f : ℕ → X → List ℕ) (k : ℕ) (xs : List X) (i : ℕ) (d : X) (n : ℕ) → n ≡ k + i → i < length xs
    → numbered f k (take (suc i) xs) ≡ numbered f k (take i xs) ++ f n (get_or xs i d)
numbered_suc f k [] i d n e h = absurd (omega (arith, h))
numbered_suc f k (x ∷ xs) zero d n e h = let same : n ≡ k = omega arith in rw same (append-nil (f k x))
numbered_suc f k (x ∷ xs) (suc i) d n e h =
    let same : n ≡ suc k + i = omega arith in let within : i < length xs = omega arith in
    ap (λ l. f k x ++ l) (numbered_suc f (suc k) xs i d n same within) ∙ sym (append_assoc (f k x) (numbered f (suc k) (take i xs)) (f n (get_or xs i d)))

-- The same, by the next place as a sum.
pub numbered_next : {X : Type 0} (f : ℕ → X → List ℕ) (k : ℕ) (xs : List X) (i : ℕ) (d : X) (n : ℕ) → n ≡ k + i → i < length xs
    → numbered f k (take (i + 1) xs) ≡ numbered f k (take i xs) ++ f n (get_or xs i d)
numbered_next f k xs i d n e h = rw add-one (numbered_suc f k xs i d n e h)

-- What is numbered from k on, up to some place, stands in front of all of it.
numbered_split : {X : Type 0} (f : ℕ → X → List ℕ) (k : ℕ) (xs : List X) (i : ℕ) → (rest : List ℕ) × (numbered f k xs ≡ numbered f k (take i xs) ++ rest)
numbered_split f k xs zero = (numbered f k xs, refl)
numbered_split f k [] (suc i) = ([], refl)
numbered_split f k (x ∷ xs) (suc i) =
    let (rest, e) = numbered_split f (suc k) xs i in
    (rest, ap (λ l. f k x ++ l) e ∙ sym (append_assoc (f k x) (numbered f (suc k) (take i xs)) rest))

-- A prefix of the next numbered piece behind whole ones is a prefix of all of them.
pub prefix_numbered : {X : Type 0} (f : ℕ → X → List ℕ) (k : ℕ) (xs : List X) (i : ℕ) (d : X) (n : ℕ) (old mid new : Option (List ℕ)) → n ≡ k + i → i < length xs
    → Appends old mid (numbered f k (take i xs)) → AppendsPrefix mid new (f n (get_or xs i d)) → AppendsPrefix old new (numbered f k xs)
prefix_numbered f k xs i d n old mid new e h whole part =
    let first : AppendsPrefix old new (numbered f k (take (i + 1) xs)) = rw (numbered_next f k xs i d n e h) (prefix_behind old mid new _ _ whole part) in
    let (rest, split) = numbered_split f k xs (i + 1) in
    rw split (prefix_more old new _ rest first)
