-- The points to which events lead tell the patterns of the events.
use Rattle.std.proofs.Common.{◌≡◌, ◌⊎◌, ◌↔◌, inl, inr, refl, sym, ap, subst, List, [], ◌∷◌, ◌++◌}
use Rattle.il_core.specs.LineGraph.{IsIn}
use Rattle.data_use.specs.Events.{Event, read, write}
use Rattle.data_use.specs.Facts.{IsReadFirst, IsOverwritten, IsWrittenLast, IsRead, IsWritten}
use Rattle.data_use.specs.Points.{after, Leads}
use Rattle.data_use.specs.declared.points.Point.{Point}
use Rattle.data_use.specs.declared.points.Point.TheVariants.{Fresh, ReadFirst, Any, ReadOnce, WrittenOnce, JustWritten, Overwritten}

-- events lead one after the other
pub leads-join : (xs ys : List Event) (p m q : Point) → Leads xs p m → Leads ys m q → Leads (xs ++ ys) p q
leads-join [] ys p m q h k = subst (λ i. Leads ys i q) (sym h) k
leads-join (e ∷ xs) ys p m q h k = (h.0, h.1, leads-join xs ys h.0 m q h.2 k)

pub leads-split : (xs ys : List Event) (p q : Point) → Leads (xs ++ ys) p q → (m : Point) × Leads xs p m × Leads ys m q
leads-split [] ys p q h = (p, refl, h)
leads-split (e ∷ xs) ys p q h = let r = leads-split xs ys h.0 q h.2 in (r.0, (h.0, h.1, r.1), r.2)

-- a point that each event leads to itself alone is never left
rests : (s : Point) → ((e : Event) → after e s ≡ s ∷ []) → (es : List Event) (q : Point) → Leads es s q ↔ (s ≡ q)
rests s stays [] q = (λ h. h, λ h. h)
rests s stays (e ∷ es) q = (
  λ h. elim (subst (λ l. IsIn l h.0) (stays e) h.1) [ inl same ↦ (rests s stays es q).0 (subst (λ m. Leads es m q) (sym same) h.2) | inr none ↦ absurd none ],
  λ same. (s, subst (λ l. IsIn l s) (sym (stays e)) (inl refl), (rests s stays es q).1 same),
)

read_first_stays : (e : Event) → after e ReadFirst ≡ ReadFirst ∷ []
read_first_stays read = refl
read_first_stays write = refl

read_once_stays : (e : Event) → after e ReadOnce ≡ ReadOnce ∷ []
read_once_stays read = refl
read_once_stays write = refl

written_once_stays : (e : Event) → after e WrittenOnce ≡ WrittenOnce ∷ []
written_once_stays read = refl
written_once_stays write = refl

overwritten_stays : (e : Event) → after e Overwritten ≡ Overwritten ∷ []
overwritten_stays read = refl
overwritten_stays write = refl

-- what was read before any write began with a read
pub leads-read_first : (es : List Event) → Leads es Fresh ReadFirst ↔ IsReadFirst es
leads-read_first [] = (λ h. absurd (cc), λ h. absurd (let e = h.1 in cc))
leads-read_first (read ∷ es) = (λ h. (es, refl), λ h. (ReadFirst, inr (inl refl), (rests ReadFirst read_first_stays es ReadFirst).1 refl))
leads-read_first (write ∷ es) = (λ h. absurd h.1, λ h. absurd (let e = h.1 in cc))

-- what is not written yet never was
pub leads-unwritten : (es : List Event) → Leads es Fresh Fresh ↔ (IsWritten es → ⊥)
leads-unwritten [] = (λ h w. w, λ h. refl)
leads-unwritten (read ∷ es) = (
  λ h w.
      elim h.1 [
        | inl same ↦ elim w [ inl e ↦ absurd (cc) | inr later ↦ (leads-unwritten es).0 (subst (λ m. Leads es m Fresh) (sym same) h.2) later ]
        | inr k ↦ elim k [
          | inl same ↦ absurd (let e = (rests ReadFirst read_first_stays es Fresh).0 (subst (λ m. Leads es m Fresh) (sym same) h.2) in cc)
          | inr none ↦ absurd none
        ]
      ],
  λ h. (Fresh, inl refl, (leads-unwritten es).1 (λ w. h (inr w))),
)
leads-unwritten (write ∷ es) = (λ h w. h.1, λ h. absurd (h (inl refl)))

-- after a write there is nothing, or another write
from_write : (es : List Event) (q : Point) → Leads es JustWritten q
    → ((es ≡ []) × (q ≡ JustWritten)) ⊎ ((rest : List Event) × (es ≡ write ∷ rest) × (q ≡ Overwritten))
from_write [] q h = inl (refl, sym h)
from_write (read ∷ es) q h = absurd h.1
from_write (write ∷ es) q h =
    elim h.1 [
      | inl same ↦ inr (es, refl, sym ((rests Overwritten overwritten_stays es q).0 (subst (λ m. Leads es m q) (sym same) h.2)))
      | inr none ↦ absurd none
    ]

-- where a read of what may be anything leads
any_read : (es : List Event) (q : Point) → Leads (read ∷ es) Any q ↔ (Leads es Any q ⊎ (ReadOnce ≡ q))
any_read es q = (
  λ h.
      elim h.1 [
        | inl same ↦ inl (subst (λ m. Leads es m q) (sym same) h.2)
        | inr k ↦ elim k [
          | inl same ↦ inr ((rests ReadOnce read_once_stays es q).0 (subst (λ m. Leads es m q) (sym same) h.2))
          | inr none ↦ absurd none
        ]
      ],
  λ h. elim h [ inl l ↦ (Any, inl refl, l) | inr e ↦ (ReadOnce, inr (inl refl), (rests ReadOnce read_once_stays es q).1 e) ],
)

-- and where a write leads
any_write : (es : List Event) (q : Point) → Leads (write ∷ es) Any q ↔ (Leads es Any q ⊎ ((WrittenOnce ≡ q) ⊎ Leads es JustWritten q))
any_write es q = (
  λ h.
      elim h.1 [
        | inl same ↦ inl (subst (λ m. Leads es m q) (sym same) h.2)
        | inr k ↦ elim k [
          | inl same ↦ inr (inl ((rests WrittenOnce written_once_stays es q).0 (subst (λ m. Leads es m q) (sym same) h.2)))
          | inr j ↦ elim j [ inl same ↦ inr (inr (subst (λ m. Leads es m q) (sym same) h.2)) | inr none ↦ absurd none ]
        ]
      ],
  λ h.
      elim h [
        | inl l ↦ (Any, inl refl, l)
        | inr k ↦ elim k [
          | inl e ↦ (WrittenOnce, inr (inl refl), (rests WrittenOnce written_once_stays es q).1 e)
          | inr l ↦ (JustWritten, inr (inr (inl refl)), l)
        ]
      ],
)

-- what was read at some time has a read
pub leads-read : (es : List Event) → Leads es Any ReadOnce ↔ IsRead es
leads-read [] = (λ h. absurd (cc), λ h. absurd h)
leads-read (read ∷ es) = (λ h. inl refl, λ h. (any_read es ReadOnce).1 (inr refl))
leads-read (write ∷ es) = (
  λ h.
      elim ((any_write es ReadOnce).0 h) [
        | inl l ↦ inr ((leads-read es).0 l)
        | inr k ↦ elim k [
          | inl e ↦ absurd (cc)
          | inr l ↦ elim (from_write es ReadOnce l) [ inl n ↦ absurd (let e = n.1 in cc) | inr w ↦ absurd (let e = w.2 in cc) ]
        ]
      ],
  λ h. elim h [ inl e ↦ absurd (cc) | inr later ↦ (any_write es ReadOnce).1 (inl ((leads-read es).1 later)) ],
)

-- what was written at some time has a write
pub leads-written : (es : List Event) → Leads es Any WrittenOnce ↔ IsWritten es
leads-written [] = (λ h. absurd (cc), λ h. absurd h)
leads-written (read ∷ es) = (
  λ h. elim ((any_read es WrittenOnce).0 h) [ inl l ↦ inr ((leads-written es).0 l) | inr e ↦ absurd (cc) ],
  λ h. elim h [ inl e ↦ absurd (cc) | inr later ↦ (any_read es WrittenOnce).1 (inl ((leads-written es).1 later)) ],
)
leads-written (write ∷ es) = (λ h. inl refl, λ h. (any_write es WrittenOnce).1 (inr (inl refl)))

-- what was just written ends with a write
pub leads-written_last : (es : List Event) → Leads es Any JustWritten ↔ IsWrittenLast es
leads-written_last [] = (λ h. absurd (cc), λ h. absurd (none h.0 h.1))
  where
    none : (before : List Event) → [] ≡ before ++ write ∷ [] → ⊥
    none [] e = cc
    none (b ∷ before) e = cc
leads-written_last (read ∷ es) = (
  λ h. elim ((any_read es JustWritten).0 h) [ inl l ↦ let r = (leads-written_last es).0 l in (read ∷ r.0, ap (λ t. read ∷ t) r.1) | inr e ↦ absurd (cc) ],
  λ h. (any_read es JustWritten).1 (inl ((leads-written_last es).1 (before_read h.0 h.1))),
)
  where
    before_read : (before : List Event) → read ∷ es ≡ before ++ write ∷ [] → IsWrittenLast es
    before_read [] e = absurd (cc)
    before_read (b ∷ before) e = (before, cc)
leads-written_last (write ∷ es) = (
  λ h.
      elim ((any_write es JustWritten).0 h) [
        | inl l ↦ let r = (leads-written_last es).0 l in (write ∷ r.0, ap (λ t. write ∷ t) r.1)
        | inr k ↦ elim k [
          | inl e ↦ absurd (cc)
          | inr l ↦ elim (from_write es JustWritten l) [ inl n ↦ ([], ap (λ t. write ∷ t) n.0) | inr w ↦ absurd (let e = w.2 in cc) ]
        ]
      ],
  λ h. (any_write es JustWritten).1 (elim (before_write h.0 h.1) [ inl n ↦ inr (inr (subst (λ t. Leads t JustWritten JustWritten) (sym n) refl)) | inr r ↦ inl ((leads-written_last es).1 r) ]),
)
  where
    before_write : (before : List Event) → write ∷ es ≡ before ++ write ∷ [] → (es ≡ []) ⊎ IsWrittenLast es
    before_write [] e = inl (cc)
    before_write (b ∷ before) e = inr (before, cc)

-- what was overwritten has two writes with no read between
pub leads-overwritten : (es : List Event) → Leads es Any Overwritten ↔ IsOverwritten es
leads-overwritten [] = (λ h. absurd (cc), λ h. absurd (none h.0 h.1 h.2))
  where
    none : (before later : List Event) → [] ≡ before ++ write ∷ write ∷ later → ⊥
    none [] later e = cc
    none (b ∷ before) later e = cc
leads-overwritten (read ∷ es) = (
  λ h. elim ((any_read es Overwritten).0 h) [ inl l ↦ let r = (leads-overwritten es).0 l in (read ∷ r.0, r.1, ap (λ t. read ∷ t) r.2) | inr e ↦ absurd (cc) ],
  λ h. (any_read es Overwritten).1 (inl ((leads-overwritten es).1 (before_read h.0 h.1 h.2))),
)
  where
    before_read : (before later : List Event) → read ∷ es ≡ before ++ write ∷ write ∷ later → IsOverwritten es
    before_read [] later e = absurd (cc)
    before_read (b ∷ before) later e = (before, later, cc)
leads-overwritten (write ∷ es) = (
  λ h.
      elim ((any_write es Overwritten).0 h) [
        | inl l ↦ let r = (leads-overwritten es).0 l in (write ∷ r.0, r.1, ap (λ t. write ∷ t) r.2)
        | inr k ↦ elim k [
          | inl e ↦ absurd (cc)
          | inr l ↦ elim (from_write es Overwritten l) [ inl n ↦ absurd (let e = n.1 in cc) | inr w ↦ ([], w.0, ap (λ t. write ∷ t) w.1) ]
        ]
      ],
  λ h.
      (any_write es Overwritten).1
      (elim (before_write h.0 h.1 h.2) [
        | inl n ↦ inr (inr (subst (λ t. Leads t JustWritten Overwritten) (sym n.1) (Overwritten, inl refl, (rests Overwritten overwritten_stays n.0 Overwritten).1 refl)))
        | inr r ↦ inl ((leads-overwritten es).1 r)
      ]),
)
  where
    before_write : (before later : List Event) → write ∷ es ≡ before ++ write ∷ write ∷ later → ((rest : List Event) × (es ≡ write ∷ rest)) ⊎ IsOverwritten es
    before_write [] later e = inl (later, cc)
    before_write (b ∷ before) later e = inr (before, later, cc)
