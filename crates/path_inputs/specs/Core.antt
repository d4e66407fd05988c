-- The core of a list of forms: its easy forms other than `/=`, and the first eight of its easy `/=`.
use Rattle.std.specs.Prelude.{◌≡◌, ◌⊎◌, ◌≤◌, ℕ, Bool, true, false, not, ◌&&◌, List, [], ◌∷◌, ◌++◌, length, take, drop, filter, slice_get, Some}
use Rattle.il_core.specs.declared.operator.Relation.{Relation}
use Rattle.il_core.specs.declared.operator.Relation.TheVariants.{Lt, Gt}
use Rattle.sym_simplify.specs.Literal.{LiteralForm, always, never, keep}
use Rattle.sym_simplify.specs.Easy.{is_easy, is_unequal}

-- an easy form other than `/=`
abbrev pub is_plain : LiteralForm → Bool
is_plain f = is_easy f && not (is_unequal f)

-- an easy disequality
abbrev pub is_disequality : LiteralForm → Bool
is_disequality f = is_easy f && is_unequal f

-- the first eight easy `/=`
abbrev pub core_disequalities : List LiteralForm → List LiteralForm
core_disequalities fs = take 8 (filter is_disequality fs)

-- the easy `/=` outside the core
abbrev pub other_disequalities : List LiteralForm → List LiteralForm
other_disequalities fs = drop 8 (filter is_disequality fs)

abbrev pub core : List LiteralForm → List LiteralForm
core fs = filter is_plain fs ++ core_disequalities fs

-- the form at position i is hard, or an easy `/=` outside the core
abbrev pub IsLoose : List LiteralForm → ℕ → Type 0
IsLoose fs i = (f : LiteralForm) × (slice_get fs i ≡ Some f)
    × ((is_easy f ≡ false) ⊎ ((is_disequality f ≡ true) × (8 ≤ length (filter is_disequality (take i fs)))))

abbrev pub with_relation : Relation → LiteralForm → LiteralForm
with_relation r always = always
with_relation r never = never
with_relation r (keep n s bound) = keep n r bound

-- a split chooses a side of each `/=` of the core: `<` where true, `>` where false
abbrev pub sided : Bool → LiteralForm → LiteralForm
sided true f = with_relation Lt f
sided false f = with_relation Gt f

abbrev pub all_sided : List Bool → List LiteralForm → List LiteralForm
all_sided [] fs = []
all_sided (b ∷ bs) [] = []
all_sided (b ∷ bs) (f ∷ fs) = sided b f ∷ all_sided bs fs

-- the core with the chosen sides in place of its `/=`
abbrev pub split_by : List Bool → List LiteralForm → List LiteralForm
split_by choice fs = filter is_plain fs ++ all_sided choice (core_disequalities fs)
