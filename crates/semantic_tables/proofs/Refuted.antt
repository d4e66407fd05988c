-- What is known of a prefix: which of its first literals are plainly refuted.
use Rattle.std.proofs.Common.{◌≡◌, refl, sym, ap, ◌∙◌, subst, ℕ, ◌+◌, ◌≤◌, Bool, true, false, Option, Some, None, List, [], ◌∷◌, ◌++◌, map, length, take, drop, arith}
use Rattle.std.specs.Prelude.{is_some, MatchBool}
use Rattle.std.proofs.lemmas.List.{length-append, length-map, take-append-le, take-append-drop, take-map, take_all}
use Rattle.il_core.specs.Evaluation.{State}
use Rattle.il_core.specs.declared.line.Place.{Place}
use Rattle.sym_simplify.specs.Literal.{LiteralForm, literal_form_of}
use Rattle.sym_simplify.specs.declared.normal.LitForm.{LitForm}
use Rattle.path_inputs.specs.Least.{IsPlainlyRefuted}
use Rattle.path_inputs.specs.Laws.{RefutedStaysRefuted}
use Rattle.semantic_tables.specs.Hazards.{IsLeastOf}
use Rattle.semantic_tables.specs.Walk.{IsSamePrefix, IsRefutedFirst, IsKnown, IsLeftOut, prefix_forms}
use Rattle.semantic_tables.specs.declared.exploration.Exploration.{Exploration}
use Rattle.semantic_tables.specs.declared.prefix.Prefix.{Prefix}

-- what is known of a prefix is known with one literal more
pub known_added : (g : Exploration) (old new : Prefix) (f : LiteralForm) → prefix_forms new ≡ prefix_forms old ++ f ∷ [] → new.refuted ≡ old.refuted → IsKnown g old → IsKnown g new
known_added g old new f e r k count h =
    let was = k count (sym r ∙ h) in
    let same : take count (prefix_forms old ++ f ∷ []) ≡ take count (prefix_forms old) = take-append-le count (prefix_forms old) (f ∷ []) was.0 in
    let size : length (prefix_forms old ++ f ∷ []) ≡ length (prefix_forms old) + 1 = length-append (prefix_forms old) (f ∷ []) in
    subst (λ (fs : List LiteralForm). IsRefutedFirst g.proc.now.places g.line fs count) (sym e)
    (omega (arith, was.0, size), subst (IsPlainlyRefuted g.proc.now.places g.line) (sym same) was.1)

-- and without its last literal, what is known of fewer
pub known_back : (g : Exploration) (old mid new : Prefix) (f : LiteralForm) → prefix_forms mid ≡ prefix_forms old ++ f ∷ [] → prefix_forms new ≡ prefix_forms old
    → ((count : ℕ) → new.refuted ≡ Some count → (mid.refuted ≡ Some count) × (count ≤ length new.literals.items)) → IsKnown g mid → IsKnown g new
known_back g old mid new f e d r k count h =
    let back = r count h in
    let was = k count back.0 in
    let size : length new.literals.items ≡ length (prefix_forms old) = sym (length-map new.literals.items literal_form_of) ∙ ap length d in
    let few : count ≤ length (prefix_forms old) = omega (arith, back.1, size) in
    let same : take count (prefix_forms mid) ≡ take count (prefix_forms old) = ap (take count) e ∙ take-append-le count (prefix_forms old) (f ∷ []) few in
    subst (λ (fs : List LiteralForm). IsRefutedFirst g.proc.now.places g.line fs count) (sym d) (few, subst (IsPlainlyRefuted g.proc.now.places g.line) same was.1)

-- where something is known, all literals are refuted
pub known_refuted : RefutedStaysRefuted → (g : Exploration) (x : Prefix) → IsKnown g x → is_some x.refuted ≡ true → IsPlainlyRefuted g.proc.now.places g.line (prefix_forms x)
known_refuted law g x k some = by_count x.refuted refl some
  where
    by_count : (o : Option ℕ) → x.refuted ≡ o → is_some o ≡ true → IsPlainlyRefuted g.proc.now.places g.line (prefix_forms x)
    by_count None e h = absurd (cc)
    by_count (Some count) e h =
        subst (IsPlainlyRefuted g.proc.now.places g.line) (take-append-drop count (prefix_forms x))
        (law g.proc.now.places g.line (take count (prefix_forms x)) (drop count (prefix_forms x)) (k count e).1)

-- the first literals of a list, all of which are refuted
pub all_refuted : (places : List Place) (pc : ℕ) (ls : List LitForm) (count : ℕ) → count ≡ length ls → IsPlainlyRefuted places pc (map literal_form_of ls)
    → IsRefutedFirst places pc (map literal_form_of ls) count
all_refuted places pc ls count e h =
    let size : length (map literal_form_of ls) ≡ length ls = length-map ls literal_form_of in
    let same : take count (map literal_form_of ls) ≡ map literal_form_of ls = take_all count (map literal_form_of ls) (omega (arith, e, size)) in
    (omega (arith, e, size), subst (IsPlainlyRefuted places pc) (sym same) h)

-- fewer of them that have no least input
pub fewer_refuted : (places : List Place) (pc : ℕ) (ls : List LitForm) (count : ℕ) (least : Option State) → count ≤ length ls → is_some least ≡ false
    → IsLeastOf places pc (map literal_form_of (take count ls)) least → IsRefutedFirst places pc (map literal_form_of ls) count
fewer_refuted places pc ls count (Some s) low e h = absurd (cc)
fewer_refuted places pc ls count None low e h =
    let size : length (map literal_form_of ls) ≡ length ls = length-map ls literal_form_of in
    (omega (arith, low, size), subst (IsPlainlyRefuted places pc) (sym (take-map literal_form_of count ls)) h)

-- no long row is left out
pub none_left : (long : Bool) (places : List Place) (pc : ℕ) (fs : List LiteralForm) → long ≡ true → IsLeftOut long places pc fs → ⊥
none_left true places pc fs e o = o
none_left false places pc fs e o = absurd (cc)

-- those of the table are where they have no least input
pub left_told : (long : Bool) (places : List Place) (pc : ℕ) (fs : List LiteralForm) (least : Option State) → long ≡ false → IsLeastOf places pc fs least
    → MatchBool (is_some least) (IsLeftOut long places pc fs → ⊥) (IsLeftOut long places pc fs)
left_told true places pc fs least e h = absurd (cc)
left_told false places pc fs None e h = h
left_told false places pc fs (Some s) e h = λ r. h.not_refuted r

-- a prefix with the same decisions and literals has the same forms
pub forms_of_same : (old new : Prefix) → IsSamePrefix old new → prefix_forms new ≡ prefix_forms old
forms_of_same old new same = ap (map literal_form_of) same.literals

pub same_then : (old mid new : Prefix) → IsSamePrefix old mid → IsSamePrefix mid new → IsSamePrefix old new
same_then old mid new a b = record { path = b.path ∙ a.path; sides = b.sides ∙ a.sides; literals = b.literals ∙ a.literals }
