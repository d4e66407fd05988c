-- The links of the statements up to one, and with it.
use Rattle.std.proofs.Common.{◌≡◌, ◌+◌, ◌<◌, ℕ, zero, suc, List, [], ◌∷◌, ◌++◌, length, slice_get, refl, sym, ◌∙◌, ap, subst, arith}
use Rattle.std.specs.Prelude.{Option, Some}
use Rattle.std.proofs.lemmas.Option.{slice_get_within}
use Rattle.std.proofs.lemmas.List.{length-append}
use borrow.Author.Count.{below_more}
use Rattle.il_core.specs.Statement.{Placed}
use Rattle.il_core.specs.declared.statement.Link.{Link}
use Rattle.il_blocks.specs.BlockFault.{HasNoFault}
use Rattle.il_blocks.specs.BlockLink.{IsLink, AreLinks}

get_before : (ls : List Link) (l : Link) (x : ℕ) → x < length ls → slice_get (ls ++ l ∷ []) x ≡ slice_get ls x
get_before [] l x h = absurd (omega (arith, h))
get_before (k ∷ ks) l zero h = refl
get_before (k ∷ ks) l (suc x) h = let m : x < length ks = omega (arith, h) in get_before ks l x m

get_last : (ls : List Link) (l : Link) → slice_get (ls ++ l ∷ []) (length ls) ≡ Some l
get_last [] l = refl
get_last (k ∷ ks) l = get_last ks l

abbrev IsLinkAt : List Placed → List Link → ℕ → Type 0
IsLinkAt ss links x = (s : Placed) (l : Link) → slice_get ss x ≡ Some s → slice_get links x ≡ Some l → IsLink ss x s.says l

pub record LinksSoFar (ss : List Placed) (n : ℕ) (links : List Link) : Type 0 where
  pub long : length links ≡ n
  pub each : (x : ℕ) → x < n → (s : Placed) (l : Link) → slice_get ss x ≡ Some s → slice_get links x ≡ Some l → IsLink ss x s.says l

pub no_links : (ss : List Placed) → LinksSoFar ss 0 []
no_links ss = record { long = refl; each = λ x h. absurd (omega (arith, h)) }

pub links_more : (ss : List Placed) (n : ℕ) (s : Placed) (l : Link) (links : List Link) → slice_get ss n ≡ Some s → IsLink ss n s.says l → LinksSoFar ss n links
    → LinksSoFar ss (n + 1) (links ++ l ∷ [])
links_more ss n s l links at is f = record {
  long = length-append links (l ∷ []) ∙ ap (λ (k : ℕ). k + 1) f.long;
  each = below_more (IsLinkAt ss (links ++ l ∷ [])) n
      (λ x h t m there has. let within : x < length links = omega (arith, f.long) in f.each x h t m there (sym (get_before links l x within) ∙ has))
      here;
}
  where
    here : IsLinkAt ss (links ++ l ∷ []) n
    here t m there has =
        let z : ◌≡◌ {A = Option Placed} (Some s) (Some t) = sym at ∙ there in
        let same : s ≡ t = cc in
        let y : ◌≡◌ {A = Option Link} (Some l) (Some m) = sym (get_last links l) ∙ ap (slice_get (links ++ l ∷ [])) f.long ∙ has in
        let one : l ≡ m = cc in
        subst (λ (p : Placed). IsLink ss n p.says m) same (subst (λ (k : Link). IsLink ss n s.says k) one is)

pub links_whole : (ss : List Placed) (n : ℕ) (links : List Link) → n ≡ length ss → HasNoFault ss → LinksSoFar ss n links → AreLinks ss links
links_whole ss n links e h f = record {
  matched = h;
  long = f.long ∙ e;
  each = λ x s l at has. let within : x < length ss = slice_get_within ss x s at in let low : x < n = omega arith in f.each x low s l at has;
}
