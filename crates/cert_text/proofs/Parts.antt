-- Bytes fall into two parts at the first byte of a kind, in one way.
use Rattle.std.proofs.Common.{◌≡◌, ℕ, zero, suc, ◌+◌, ◌-◌, ◌<◌, ◌≤◌, ◌==◌, nat_lt, Bool, true, false, cond, not, List, [], ◌∷◌, ◌++◌, length, take, drop, refl, sym, ◌∙◌, ap, subst, arith, length-drop, eq-eqb}
use Rattle.std.proofs.lemmas.Bool.{ltb-true, ltb-false}
use Rattle.std.proofs.Math.Seq.{take-length}
use Rattle.std.specs.Prelude.{Option, Some, None, position}
use Rattle.std.specs.List.{position_or_len}
use Rattle.std.specs.Option.{option_map}
use borrow.Author.Tests.{eqb-true}
use Rattle.cert_text.specs.LineReading.{parted}
use Rattle.cert_text.proofs.Options.{not_some}

-- none of the bytes is this one
abbrev pub Without : ℕ → List ℕ → Type 0
Without end [] = Unit {0}
Without end (b ∷ bs) = ((b == end) ≡ false) × Without end bs

-- one more byte before the end
abbrev more : ℕ → List ℕ × List ℕ → List ℕ × List ℕ
more b x = (b ∷ x.0, x.1)

abbrev step : ℕ → List ℕ → Option (List ℕ × List ℕ) → Bool → Option (List ℕ × List ℕ)
step b bs rest t = cond t (Some ([], bs)) (option_map (more b) rest)

pub parted-front : (end : ℕ) (a x : List ℕ) → Without end a → parted end (a ++ end ∷ x) ≡ Some (a, x)
unfolding parted
parted-front end [] x w = ap (step end x (parted end x)) (eq-eqb end end refl)
parted-front end (b ∷ bs) x w =
    ap (step b (bs ++ end ∷ x) (parted end (bs ++ end ∷ x))) w.0 ∙ ap (option_map (more b)) (parted-front end bs x w.1)

pub parted-none : (end : ℕ) (a : List ℕ) → Without end a → parted end a ≡ None
unfolding parted
parted-none end [] w = refl
parted-none end (b ∷ bs) w = ap (step b bs (parted end bs)) w.0 ∙ ap (option_map (more b)) (parted-none end bs w.1)

-- what the parts are
pub parted-some : (end : ℕ) (text a x : List ℕ) → parted end text ≡ Some (a, x) → (text ≡ a ++ end ∷ x) × Without end a
unfolding parted
parted-some end [] a x e = absurd (not_some (a, x) e)
parted-some end (b ∷ bs) a x e = by (λ c y f. parted-some end bs c y f) (b == end) refl (parted end bs) refl e
  where
    by : ((c y : List ℕ) → parted end bs ≡ Some (c, y) → (bs ≡ c ++ end ∷ y) × Without end c) → (t : Bool) → (b == end) ≡ t → (o : Option (List ℕ × List ℕ)) → parted end bs ≡ o → step b bs o t ≡ Some (a, x) → (b ∷ bs ≡ a ++ end ∷ x) × Without end a
    by claim true f o g h =
        let i : ◌≡◌ {A = List ℕ × List ℕ} ([], bs) (a, x) = (let j : ◌≡◌ {A = Option (List ℕ × List ℕ)} (Some ([], bs)) (Some (a, x)) = h in cc) in
        subst (λ (y : List ℕ × List ℕ). (b ∷ bs ≡ y.0 ++ end ∷ y.1) × Without end y.0) i (ap (λ c. c ∷ bs) (eqb-true b end f), tt)
    by claim false f None g h = absurd (not_some (a, x) h)
    by claim false f (Some y) g h =
        let i : more b y ≡ (a, x) = (let j : ◌≡◌ {A = Option (List ℕ × List ℕ)} (Some (more b y)) (Some (a, x)) = h in cc) in
        let inner = claim y.0 y.1 g in
        subst (λ (z : List ℕ × List ℕ). (b ∷ bs ≡ z.0 ++ end ∷ z.1) × Without end z.0) i (ap (λ ys. b ∷ ys) inner.0, (f, inner.1))

-- bytes without the end have no parts, and the other way round
pub none-without : (end : ℕ) (text : List ℕ) → parted end text ≡ None → Without end text
unfolding parted
none-without end [] e = tt
none-without end (b ∷ bs) e = by (λ f. none-without end bs f) (b == end) refl (parted end bs) refl e
  where
    by : (parted end bs ≡ None → Without end bs) → (t : Bool) → (b == end) ≡ t → (o : Option (List ℕ × List ℕ)) → parted end bs ≡ o → step b bs o t ≡ None → ((b == end) ≡ false) × Without end bs
    by claim true f o g h = absurd (let i : ◌≡◌ {A = Option (List ℕ × List ℕ)} None (Some ([], bs)) = sym h in cc)
    by claim false f None g h = (f, claim g)
    by claim false f (Some y) g h = absurd (let i : ◌≡◌ {A = Option (List ℕ × List ℕ)} None (Some (more b y)) = sym h in cc)

-- the two parts at one end are the same
pub same_parts : (end : ℕ) (a b x y : List ℕ) → Without end a → Without end b → a ++ end ∷ x ≡ b ++ end ∷ y → (a ≡ b) × (x ≡ y)
same_parts end a b x y v w e =
    let f : ◌≡◌ {A = Option (List ℕ × List ℕ)} (Some (a, x)) (Some (b, y)) = sym (parted-front end a x v) ∙ ap (parted end) e ∙ parted-front end b y w in
    let g : ◌≡◌ {A = List ℕ × List ℕ} (a, x) (b, y) = cc in
    (ap (λ z. z.0) g, ap (λ z. z.1) g)

pub without-append : (end : ℕ) (a b : List ℕ) → Without end a → Without end b → Without end (a ++ b)
without-append end [] b v w = w
without-append end (x ∷ xs) b v w = (v.0, without-append end xs b v.1 w)

-- the parts by the place of the first such byte
at_place : (end : ℕ) (text : List ℕ) (n : ℕ) → n ≡ position_or_len (λ b. b == end) text → n < length text → parted end text ≡ Some (take n text, drop (suc n) text)
unfolding parted
at_place end [] n e h = absurd (omega arith)
at_place end (b ∷ bs) n e h = by (λ m f g. at_place end bs m f g) (b == end) refl e
  where
    deeper : ((m : ℕ) → m ≡ position_or_len (λ c. c == end) bs → m < length bs → parted end bs ≡ Some (take m bs, drop (suc m) bs)) → (m : ℕ) → m ≡ 1 + position_or_len (λ c. c == end) bs → m < suc (length bs) → option_map (more b) (parted end bs) ≡ Some (take m (b ∷ bs), drop (suc m) (b ∷ bs))
    deeper claim zero f i = absurd (omega arith)
    deeper claim (suc m) f i = ap (option_map (more b)) (claim m (omega arith) (omega arith))

    by : ((m : ℕ) → m ≡ position_or_len (λ c. c == end) bs → m < length bs → parted end bs ≡ Some (take m bs, drop (suc m) bs)) → (t : Bool) → (b == end) ≡ t → n ≡ cond (not t) (1 + position_or_len (λ c. c == end) bs) 0 → step b bs (parted end bs) (b == end) ≡ Some (take n (b ∷ bs), drop (suc n) (b ∷ bs))
    by claim true f g = ap (step b bs (parted end bs)) f ∙ ap (λ (m : ℕ). Some (take m (b ∷ bs), drop (suc m) (b ∷ bs))) (sym g)
    by claim false f g = ap (step b bs (parted end bs)) f ∙ deeper claim n g h

past_end : (end : ℕ) (text : List ℕ) → length text ≤ position_or_len (λ b. b == end) text → parted end text ≡ None
unfolding parted
past_end end [] h = refl
past_end end (b ∷ bs) h = by (λ g. past_end end bs g) (b == end) refl h
  where
    by : (length bs ≤ position_or_len (λ c. c == end) bs → parted end bs ≡ None) → (t : Bool) → (b == end) ≡ t → suc (length bs) ≤ cond (not t) (1 + position_or_len (λ c. c == end) bs) 0 → step b bs (parted end bs) (b == end) ≡ None
    by claim true f g = absurd (omega arith)
    by claim false f g = ap (step b bs (parted end bs)) f ∙ ap (option_map (more b)) (claim (omega arith))

-- what is parted at a place, and where there is no place
abbrev at : List ℕ → Option ℕ → Option (List ℕ × List ℕ)
at text o = option_map (λ n. (take n text, drop (suc n) text)) o

parted-at : (end : ℕ) (text : List ℕ) → parted end text ≡ at text (position (λ b. b == end) text)
parted-at end text = by (nat_lt (position_or_len (λ b. b == end) text) (length text)) refl
  where
    by : (t : Bool) → nat_lt (position_or_len (λ b. b == end) text) (length text) ≡ t → parted end text ≡ at text (cond t (Some (position_or_len (λ b. b == end) text)) None)
    by true f = at_place end text (position_or_len (λ b. b == end) text) refl (ltb-true _ _ f)
    by false f = past_end end text (ltb-false _ _ f)

pub parted-some_place : (end : ℕ) (text : List ℕ) (place : ℕ) → Some place ≡ position (λ b. b == end) text → place < length text
    → parted end text ≡ Some (take place text, take (length text - (place + 1)) (drop (place + 1) text))
parted-some_place end text place e h =
    let next : suc place ≡ place + 1 = omega arith in
    let whole : drop (suc place) text ≡ take (length text - (place + 1)) (drop (place + 1) text) =
    ap (λ n. drop n text) next ∙ sym (ap (λ n. take n (drop (place + 1) text)) (sym (length-drop (place + 1) text)) ∙ take-length (drop (place + 1) text)) in
    parted-at end text ∙ ap (at text) (sym e) ∙ ap (λ rest. Some (take place text, rest)) whole

pub parted-no_place : (end : ℕ) (text : List ℕ) → None ≡ position (λ b. b == end) text → parted end text ≡ None
parted-no_place end text e = parted-at end text ∙ ap (at text) (sym e)
