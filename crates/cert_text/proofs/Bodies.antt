-- The lines of certificates fall into certificates in one way.
use Rattle.std.proofs.Common.{◌≡◌, ℕ, List, [], ◌∷◌, ◌++◌, map, refl, sym, ◌∙◌, ap, append_assoc}
use Rattle.std.specs.List.{flat_map}
use Rattle.il_core.specs.Certificate.{Certificate, sum, split}
use Rattle.il_core.specs.declared.certificate.Share.{Share}
use Rattle.cert_text.specs.declared.line.Line.{Line}
use Rattle.cert_text.specs.declared.line.Line.TheVariants as lines
use Rattle.cert_text.specs.Text.{Named, body_lines, cert_lines}
use Rattle.cert_text.specs.Progress.{share_lines}

pub not_cons : {A : Type 0} (x : A) (xs : List A) → ◌≡◌ {A = List A} [] (x ∷ xs) → ⊥
not_cons x xs e = cc

pub same_head : {A : Type 0} (x y : A) (xs ys : List A) → x ∷ xs ≡ y ∷ ys → (x ≡ y) × (xs ≡ ys)
same_head x y xs ys e = (cc, cc)

-- the lines of a sum with others behind them
shares_end : (a b : List Share) (x y : List Line) → map lines.Share a ++ (lines.End ∷ x) ≡ map lines.Share b ++ (lines.End ∷ y) → (a ≡ b) × (x ≡ y)
shares_end [] [] x y e = (refl, (same_head _ _ _ _ e).1)
shares_end [] (t ∷ b) x y e = absurd (let f : lines.End ≡ lines.Share t = (same_head _ _ _ _ e).0 in cc)
shares_end (s ∷ a) [] x y e = absurd (let f : lines.Share s ≡ lines.End = (same_head _ _ _ _ e).0 in cc)
shares_end (s ∷ a) (t ∷ b) x y e =
    let h = same_head _ _ _ _ e in
    let f : lines.Share s ≡ lines.Share t = h.0 in
    let g : s ≡ t = cc in
    let i = shares_end a b x y h.1 in
    (ap (λ z. z ∷ a) g ∙ ap (λ zs. t ∷ zs) i.0, i.1)

pub ended : (shares : List Share) (x : List Line) → share_lines shares ++ x ≡ map lines.Share shares ++ (lines.End ∷ x)
ended shares x = append_assoc (map lines.Share shares) (lines.End ∷ []) x

pub same_shares : (a b : List Share) (x y : List Line) → share_lines a ++ x ≡ share_lines b ++ y → (a ≡ b) × (x ≡ y)
same_shares a b x y e = shares_end a b x y (sym (ended a x) ∙ e ∙ ended b y)

pub same_body : (a b : Certificate) (x y : List Line) → body_lines a ++ x ≡ body_lines b ++ y → (a ≡ b) × (x ≡ y)
same_body (sum s) (sum t) x y e = let h = same_shares s t x y (same_head _ _ _ _ e).1 in (ap sum h.0, h.1)
same_body (sum s) (split i l h) x y e = absurd (let f : lines.Sum ≡ lines.Split i = (same_head _ _ _ _ e).0 in cc)
same_body (split i l h) (sum s) x y e = absurd (let f : lines.Split i ≡ lines.Sum = (same_head _ _ _ _ e).0 in cc)
same_body (split i l h) (split j m k) x y e =
    let top = same_head _ _ _ _ e in
    let f : lines.Split i ≡ lines.Split j = top.0 in
    let at : i ≡ j = cc in
    let low = same_body l m (body_lines h ++ x) (body_lines k ++ y) (sym (append_assoc (body_lines l) (body_lines h) x) ∙ top.1 ∙ append_assoc (body_lines m) (body_lines k) y) in
    let high = same_body h k x y low.1 in
    (ap (λ n. split n l h) at ∙ ap (λ z. split j z h) low.0 ∙ ap (split j m) high.0, high.1)

pub same_cert : (a b : Named) (x y : List Line) → cert_lines a ++ x ≡ cert_lines b ++ y → (a ≡ b) × (x ≡ y)
same_cert a b x y e =
    let top = same_head _ _ _ _ e in
    let f : lines.Head a.procedure a.threat ≡ lines.Head b.procedure b.threat = top.0 in
    let p : a.procedure ≡ b.procedure = cc in
    let t : a.threat ≡ b.threat = cc in
    let body = same_body a.body b.body x y top.1 in
    let made : List ℕ → ℕ → Certificate → Named = λ q u c. record { procedure = q; threat = u; body = c } in
    (ap (λ q. made q a.threat a.body) p ∙ ap (λ u. made b.procedure u a.body) t ∙ ap (made b.procedure b.threat) body.0, body.1)

-- what follows the lines of some certificates among those of others
pub record Follows (front all : List Named) (behind : List Line) : Type 0 where
  pub others : List Named
  pub all_is : all ≡ front ++ others
  pub behind_is : behind ≡ flat_map cert_lines others

pub certs_follow : (a b : List Named) (x : List Line) → flat_map cert_lines a ++ x ≡ flat_map cert_lines b → Follows a b x
certs_follow [] b x e = record { others = b; all_is = refl; behind_is = e }
certs_follow (c ∷ cs) [] x e = absurd (not_cons _ _ (sym e))
certs_follow (c ∷ cs) (d ∷ ds) x e =
    let h = same_cert c d (flat_map cert_lines cs ++ x) (flat_map cert_lines ds) (sym (append_assoc (cert_lines c) (flat_map cert_lines cs) x) ∙ e) in
    let i = certs_follow cs ds x h.1 in
    record { others = i.others; all_is = ap (λ z. z ∷ ds) (sym h.0) ∙ ap (λ zs. c ∷ zs) i.all_is; behind_is = i.behind_is }
