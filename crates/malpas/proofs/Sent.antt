-- What stands in a sink, and what of it is settled, when one more part is written or the sink fails in it.
use Rattle.std.proofs.Common.{◌≡◌, ℕ, ◌+◌, ◌-◌, ◌<◌, ◌≤◌, ◌==◌, List, [], ◌∷◌, ◌++◌, length, drop, slice_get, Option, None, Some, inl, inr, take-append-drop, refl, sym, ap, subst, ◌∙◌, append_assoc, append-nil, arith, if◌then◌else◌}
use Rattle.std.proofs.KnownBytes.{Appends-trans, Appends-nil}
use Rattle.std.proofs.lemmas.Bool.Decides.{nat_tests}
use Rattle.std.proofs.lemmas.Grind.{flat_map-append}
use Rattle.std.proofs.lemmas.List.{length_push, take_at, drop_at, drop_more, drop_all, length-append}
use Rattle.std.proofs.lemmas.Option.{slice_get_cases, slice_get_within, get_or_from_slice_get}
use Rattle.il_core.specs.declared.certificate.NamedCert.{NamedCert}
use Rattle.il_edge.specs.Faults.{Rose}
use Rattle.il_inline.specs.Expanded.{WholeExpansion}
use Rattle.il_edge.specs.Known.{SameTold, Appends, AppendsPrefix, IsSettled}
use Rattle.report.specs.declared.report.ProcReport.{ProcReport}
use Rattle.report.specs.declared.report.Report.{Report}
use Rattle.request.specs.declared.selection.Selection.{Selection}
use Rattle.report_text.specs.Report.{head_text, part_text, parts_text}
use Rattle.form_text.proofs.Written.{prefix_behind}
use Rattle.report.specs.Headline.{IsTold}
use Rattle.malpas.specs.Parts.{before_last, last_alone, text_with, first_text, next_text, SettledPast, KeepsParts, IsSettledBehind, AreSent, AreCut}

-- Two reports with the same title and profile have the same head.
same_head : (a b : Report) → a.title ≡ b.title → a.profile ≡ b.profile → head_text a ≡ head_text b
unfolding head_text
same_head a b title profile = cc

-- They have the same text with the same parts.
same_text : (sections : Selection) (a b : Report) (ps : List ProcReport) → a.title ≡ b.title → a.profile ≡ b.profile → text_with sections a ps ≡ text_with sections b ps
same_text sections a b [] title profile = refl
same_text sections a b (p ∷ ps) title profile = ap (λ l. l ++ parts_text sections (p ∷ ps)) (same_head a b title profile)

-- Where there is a part, the text is the head and the parts.
pub text_with_some : (sections : Selection) (report : Report) (ps : List ProcReport) → 0 < length ps → text_with sections report ps ≡ head_text report ++ parts_text sections ps
text_with_some sections report [] some = absurd (omega arith)
text_with_some sections report (p ∷ ps) some = refl

-- The procedures before the one that is added last are those before.
before_pushed : (ps : List ProcReport) (p : ProcReport) → before_last (ps ++ p ∷ []) ≡ ps
before_pushed ps p = take_at ps (p ∷ []) (length (ps ++ p ∷ []) - 1) (omega (arith, length_push ps p))

-- The last procedure alone is then the one that is added.
last_pushed : (ps : List ProcReport) (p : ProcReport) → last_alone (ps ++ p ∷ []) ≡ p ∷ []
last_pushed ps p = drop_at ps (p ∷ []) (length (ps ++ p ∷ []) - 1) (omega (arith, length_push ps p))

-- The last procedure alone is the list of it.
last_is : (ps : List ProcReport) (p : ProcReport) → slice_get ps (length ps - 1) ≡ Some p → last_alone ps ≡ p ∷ []
last_is ps p last =
    let inside = slice_get_within ps (length ps - 1) p last in
    drop_more ps (length ps - 1) p inside
    ∙ ap (λ x. x ∷ drop (length ps - 1 + 1) ps) (get_or_from_slice_get ps (length ps - 1) p p last)
    ∙ ap (λ l. p ∷ l) (drop_all (length ps - 1 + 1) ps (omega arith))

-- What the last procedure adds is the head, where it is the first, and its part.
pub next_is : (sections : Selection) (report : Report) (items : List ProcReport) (p : ProcReport) → items ≡ report.procs → slice_get items (length items - 1) ≡ Some p
    → next_text sections report ≡ first_text report ++ part_text sections p
next_is sections report items p same last =
    let at : slice_get report.procs (length report.procs - 1) ≡ Some p = rw (← same) last in
    ap (λ l. first_text report ++ parts_text sections l) (last_is report.procs p at) ∙ ap (λ l. first_text report ++ l) (append-nil (part_text sections p))

-- The head of a report stands before its first part,
first_of : (head : List ℕ) (n : ℕ) → n ≡ 1 → (if n == 1 then head else []) ≡ head
first_of head n one = rw one refl

-- and before no later one.
later_of : (head : List ℕ) (n : ℕ) → 1 < n → (if n == 1 then head else []) ≡ []
later_of head n more = grind (arith, nat_tests)

-- One more part stands behind the text with those before it.
text_more : (sections : Selection) (report : Report) (ps : List ProcReport) (p : ProcReport) → report.procs ≡ ps ++ p ∷ []
    → text_with sections report (ps ++ p ∷ []) ≡ text_with sections report ps ++ (first_text report ++ parts_text sections (p ∷ []))
text_more sections report [] p procs = ap (λ l. l ++ parts_text sections (p ∷ [])) (sym (first_of (head_text report) (length report.procs) (ap length procs)))
text_more sections report (q ∷ ps) p procs =
    let more : 1 < length report.procs = rw procs (omega (arith, length_push ps p)) in
    ap (λ l. head_text report ++ l) (flat_map-append (part_text sections) (q ∷ ps) (p ∷ [])) ∙ sym (append_assoc (head_text report) (parts_text sections (q ∷ ps)) (parts_text sections (p ∷ [])))
    ∙ ap (λ l. text_with sections report (q ∷ ps) ++ (l ++ parts_text sections (p ∷ []))) (sym (later_of (head_text report) (length report.procs) more))

-- The text of a report with one more procedure is that of the report before, and what the last procedure adds.
text_next : (sections : Selection) (before now : Report) (p : ProcReport) → now.title ≡ before.title → now.profile ≡ before.profile → now.procs ≡ before.procs ++ p ∷ []
    → text_with sections now now.procs ≡ text_with sections before before.procs ++ next_text sections now
text_next sections before now p title profile procs =
    ap (text_with sections now) procs ∙ text_more sections now before.procs p procs
    ∙ ap (λ l. text_with sections now before.procs ++ (first_text now ++ parts_text sections l)) (sym (ap last_alone procs ∙ last_pushed before.procs p))
    ∙ ap (λ l. l ++ next_text sections now) (same_text sections now before before.procs title profile)

-- What was held and a text behind it is settled where all that is held then is settled.
settled_past : (old new : Option (List ℕ)) (settled : Option ℕ) (text : List ℕ) → Appends old new text → IsSettled new settled → SettledPast old settled text
settled_past None new settled text wrote settles = tt
settled_past (Some held) None settled text wrote settles = absurd wrote
settled_past (Some held) (Some now) None text wrote settles = absurd (cc)
settled_past (Some held) (Some now) (Some count) text wrote settles = let all : count ≡ length now = cc in omega (arith, all, ap length wrote)

-- Where all is settled, it is so behind any parts.
pub settled_behind : (ps : List ProcReport) (held : Option (List ℕ)) (settled : Option ℕ) → IsSettled held settled → IsSettledBehind ps held settled
settled_behind [] held settled settles = tt
settled_behind (p ∷ ps) held settled settles = settles

-- Where a text with more behind it is settled, the text is.
settled_less : (old : Option (List ℕ)) (settled : Option ℕ) (text rest : List ℕ) → SettledPast old settled (text ++ rest) → SettledPast old settled text
settled_less None settled text rest past = tt
settled_less (Some held) None text rest past = past
settled_less (Some held) (Some count) text rest past = omega (arith, length-append held (text ++ rest), length-append text rest, length-append held text)

-- Parts in front of what is written and settled are kept while more is written behind it.
pub keeps : (sections : Selection) (old mid new : Option (List ℕ)) (settled : Option ℕ) (report : Report) (ps : List ProcReport) (text rest more : List ℕ) → text ≡ text_with sections report ps ++ rest
    → Appends old mid text → IsSettledBehind ps mid settled → Appends mid new more → KeepsParts sections old new settled report ps
keeps sections old mid new settled report [] text rest more parts wrote settles behind = tt
keeps sections old mid new settled report (p ∷ ps) text rest more parts wrote settles behind =
    let front = text_with sections report (p ∷ ps) in
    let both : text ++ more ≡ front ++ (rest ++ more) = ap (λ l. l ++ more) parts ∙ append_assoc front rest more in (
      (rest ++ more, subst (Appends old new) both (Appends-trans old mid new text more wrote behind)),
      settled_less old settled front rest (subst (SettledPast old settled) parts (settled_past old mid settled text wrote settles)),
    )

-- No part is written at first.
pub sent_none : (sections : Selection) (held : Option (List ℕ)) (settled : Option ℕ) (report : Report) → report.procs ≡ [] → AreSent sections held held settled report
sent_none sections held settled report none =
    let Holds : List ProcReport → Type 0 = λ ps. Appends held held (text_with sections report ps) × IsSettledBehind ps held settled in
    let all = subst Holds (sym none) (Appends-nil held, tt) in
    record { wrote = all.0; settles = all.1 }

-- The part of the next procedure is written and settled.
pub sent_more : (sections : Selection) (old mid new : Option (List ℕ)) (settled_mid settled : Option ℕ) (before now : Report) (p : ProcReport)
    → now.title ≡ before.title → now.profile ≡ before.profile → now.procs ≡ before.procs ++ p ∷ []
    → AreSent sections old mid settled_mid before → Appends mid new (next_text sections now) → IsSettled new settled → AreSent sections old new settled now
sent_more sections old mid new settled_mid settled before now p title profile procs sent wrote settles = record {
  wrote = subst (Appends old new) (sym (text_next sections before now p title profile procs)) (Appends-trans old mid new _ _ sent.wrote wrote);
  settles = settled_behind now.procs new settled settles;
}

-- The sink fails in the part of the next procedure.
pub cut_in : (sections : Selection) (old mid new : Option (List ℕ)) (settled_mid settled : Option ℕ) (faults_old faults_mid faults_new : ℕ) (before now : Report) (p : ProcReport)
    → now.title ≡ before.title → now.profile ≡ before.profile → now.procs ≡ before.procs ++ p ∷ []
    → AreSent sections old mid settled_mid before → AppendsPrefix mid new (next_text sections now) → settled ≡ settled_mid → faults_old ≤ faults_mid → Rose faults_mid faults_new
    → AreCut sections old new settled faults_old faults_new now
cut_in sections old mid new settled_mid settled faults_old faults_mid faults_new before now p title profile procs sent part same later rose =
    let some : 0 < length now.procs = rw procs (omega (arith, length_push before.procs p)) in
    let text : text_with sections before before.procs ++ next_text sections now ≡ head_text now ++ parts_text sections now.procs =
    sym (text_next sections before now p title profile procs) ∙ text_with_some sections now now.procs some in
    let wrote : Appends old mid (text_with sections now before.procs) = subst (Appends old mid) (sym (same_text sections now before before.procs title profile)) sent.wrote in
    let settles : IsSettledBehind before.procs mid settled = subst (IsSettledBehind before.procs mid) (sym same) sent.settles in
    record {
      some = some;
      part = subst (AppendsPrefix old new) text (prefix_behind old mid new _ _ sent.wrote part);
      kept = subst (KeepsParts sections old new settled now) (sym (ap before_last procs ∙ before_pushed before.procs p)) (keeps sections old mid new settled now before.procs _ [] part.0 (sym (append-nil _)) wrote settles part.3);
      rose = omega (arith, later, rose);
    }

-- The parts before the last one stand in front of all.
pub parts_before : (sections : Selection) (report : Report) → 0 < length report.procs → (rest : List ℕ) × (text_with sections report report.procs ≡ text_with sections report (before_last report.procs) ++ rest)
parts_before sections report some =
    let procs = report.procs in
    elim (slice_get_cases procs (length procs - 1)).1 [
      | inl here ↦
          let parts : procs ≡ before_last procs ++ here.0 ∷ [] =
          sym (take-append-drop (length procs - 1) procs) ∙ ap (λ l. before_last procs ++ l) (last_is procs here.0 here.2) in
          (first_text report ++ parts_text sections (here.0 ∷ []), ap (text_with sections report) parts ∙ text_more sections report (before_last procs) here.0 parts)
      | inr past ↦ absurd (omega arith)
    ]

-- After the parts of the first procedures of a text: they are written and settled, and the faults have not fallen.
pub record AreSoFar (sections : Selection) (old now : Option (List ℕ)) (settled : Option ℕ) (faults_old faults_now : ℕ) (certs : List NamedCert) (x : WholeExpansion) (count : ℕ) (report : Report) : Type 0 where
  pub told_of : IsTold certs x report
  pub made : length report.procs ≡ count
  pub sent : AreSent sections old now settled report
  pub told : SameTold old now
  pub later : faults_old ≤ faults_now
