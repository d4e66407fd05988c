-- The ranks of marked steps, and their definitions one by one.
use Rattle.std.proofs.Common.{◌≡◌, refl, sym, ap, ◌∙◌, inl, inr, subst, ℕ, zero, suc, ◌+◌, ◌<◌, Bool, true, false, Option, Some, List, [], ◌∷◌, ◌++◌, length, slice_get, get_or, arith}
use Rattle.std.proofs.lemmas.Bool.{cases_lt}
use Rattle.std.proofs.lemmas.List.{length_push}
use Rattle.std.proofs.lemmas.List.Sums.{count_by_more_yes, count_by_more_no}
use Rattle.std.proofs.lemmas.Option.{slice_get_within, same_Some}
use Rattle.flow_graph.specs.Search.{IsMarked}
use Rattle.regular_algebra.specs.declared.steps.Step.{Step}
use Rattle.path_expr.specs.declared.report.Def.{Def}
use Rattle.path_expr.specs.declared.report.Ref.{Ref}
use Rattle.path_expr.specs.Definitions.{rank, AreRanks, ref_of, def_of, whole_of, MarksUsed, AreDefinitions}
use Rattle.path_expr.specs.Marks.{DefineMarked}

pub rank_yes : (used : List Bool) (i : ℕ) → i < length used → get_or used i false ≡ true → rank used (i + 1) ≡ rank used i + 1
rank_yes used i l h = count_by_more_yes (λ b. b) used i false l h

pub rank_no : (used : List Bool) (i : ℕ) → i < length used → get_or used i false ≡ false → rank used (i + 1) ≡ rank used i
rank_no used i l h = count_by_more_no (λ b. b) used i false l h

-- an element of a front stays as a list grows
stays : {A : Type 0} (xs ys : List A) (k : ℕ) (x : A) → slice_get xs k ≡ Some x → slice_get (xs ++ ys) k ≡ Some x
stays [] ys k x h = absurd (cc)
stays (z ∷ zs) ys zero x h = h
stays (z ∷ zs) ys (suc k) x h = stays zs ys k x h

comes_last : {A : Type 0} (xs : List A) (y : A) → slice_get (xs ++ y ∷ []) (length xs) ≡ Some y
comes_last [] y = refl
comes_last (x ∷ xs) y = comes_last xs y

-- a step that is not marked adds no definition
pub define_skip : (live : List ℕ) (steps : List Step) (used : List Bool) (ranks : List ℕ) (i : ℕ) (defs : List Def) → i < length used
    → DefineMarked live steps used ranks i defs → get_or used i false ≡ false → DefineMarked live steps used ranks (i + 1) defs
define_skip live steps used ranks i defs l d f = record {
  size = d.size ∙ sym (rank_no used i l f);
  each = λ k s b m g. elim (cases_lt k i) [
    | inl low ↦ d.each k s low m g
    | inr high ↦ let same : k ≡ i = omega arith in let m' : get_or used i false ≡ true = subst (λ (x : ℕ). IsMarked used x) same m in absurd (cc)
  ];
}

-- a marked step adds its own behind those before it
pub define_more : (live : List ℕ) (steps : List Step) (used : List Bool) (ranks : List ℕ) (i : ℕ) (s : Step) (defs now : List Def) → i < length used
    → DefineMarked live steps used ranks i defs → get_or used i false ≡ true → slice_get steps i ≡ Some s → now ≡ defs ++ def_of (ref_of live ranks) s ∷ []
    → DefineMarked live steps used ranks (i + 1) now
define_more live steps used ranks i s defs now l d m g is = record {
  size = ap length is ∙ length_push defs (def_of (ref_of live ranks) s) ∙ ap (λ (x : ℕ). x + 1) d.size ∙ sym (rank_yes used i l m);
  each = each;
}
  where
    each : (k : ℕ) (t : Step) → k < i + 1 → IsMarked used k → slice_get steps k ≡ Some t → slice_get now (rank used k) ≡ Some (def_of (ref_of live ranks) t)
    each k t b h e = elim (cases_lt k i) [
      | inl low ↦
          subst (λ (ds : List Def). slice_get ds (rank used k) ≡ Some (def_of (ref_of live ranks) t)) (sym is)
          (stays defs (def_of (ref_of live ranks) s ∷ []) (rank used k) (def_of (ref_of live ranks) t) (d.each k t low h e))
      | inr high ↦
          let same : k ≡ i = omega arith in
          let f : t ≡ s = same_Some t s (sym e ∙ subst (λ (x : ℕ). slice_get steps x ≡ Some s) (sym same) g) in
          let at : length defs ≡ rank used k = d.size ∙ ap (rank used) (sym same) in
          subst (λ (ds : List Def). slice_get ds (rank used k) ≡ Some (def_of (ref_of live ranks) t)) (sym is)
          (subst (λ (x : ℕ). slice_get (defs ++ def_of (ref_of live ranks) s ∷ []) x ≡ Some (def_of (ref_of live ranks) t)) at
          (comes_last defs (def_of (ref_of live ranks) s) ∙ ap (λ (x : Step). Some (def_of (ref_of live ranks) x)) (sym f)))
    ]

-- the definitions of an answer, from the marks, the ranks and the definitions of all marked steps
pub all_defined : (live : List ℕ) (steps : List Step) (answer : Option ℕ) (used : List Bool) (ranks : List ℕ) (defs : List Def) (whole : Ref)
    (used_a used_b : List Bool) (ranks_a ranks_b : List ℕ) → used_a ≡ used → used_b ≡ used → ranks_a ≡ ranks → ranks_b ≡ ranks
    → MarksUsed (length live) steps answer used → AreRanks used_a ranks → DefineMarked live steps used_b ranks_a (length steps) defs
    → whole ≡ whole_of (ref_of live ranks_b) answer → AreDefinitions live steps answer defs whole
all_defined live steps answer used ranks defs whole used_a used_b ranks_a ranks_b ua ub ra rb m r d w =
    let d' : DefineMarked live steps used ranks (length steps) defs =
    subst (λ (us : List Bool). DefineMarked live steps us ranks (length steps) defs) ub (subst (λ (rs : List ℕ). DefineMarked live steps used_b rs (length steps) defs) ra d) in
    record {
      used = used;
      marks = m;
      ranks = ranks;
      are_ranks = subst (λ (us : List Bool). AreRanks us ranks) ua r;
      size = d'.size;
      each = λ k s h g. d'.each k s (slice_get_within steps k s g) h g;
      whole_is = subst (λ (rs : List ℕ). whole ≡ whole_of (ref_of live rs) answer) rb w;
    }
