use Rattle.std.proofs.Common.{◌≡◌, ◌++◌, ℕ, codes, List, append_assoc}
use Rattle.data_use.specs.declared.row.UseRow.{UseRow}
use Rattle.il_core.specs.declared.line.Place.{Place}
use Rattle.form_text.specs.Lists.{place_at}
use Rattle.report_text.specs.Sections.{use_text, yes}
use Rattle.report_text.proofs.usage.put_use.Goals as goal

-- The line of a variable in its pieces.
in_pieces : (places : List Place) (row : UseRow) (mark name rf ow lw nr nw eu : List ℕ) → place_at places row.place ≡ mark ++ name → rf ≡ yes row.read_first
    → ow ≡ yes row.overwritten → lw ≡ yes row.last_write → nr ≡ yes row.never_read → nw ≡ yes row.never_written → eu ≡ yes row.end_unwritten
    → use_text places row ≡ codes "VAR " ++ (mark ++ (name ++ (codes " RF=" ++ (rf ++ (codes " OW=" ++ (ow ++ (codes " LW=" ++ (lw ++ (codes " NR=" ++ (nr
    ++ (codes " NW=" ++ (nw ++ (codes " EU=" ++ (eu ++ codes "\n"))))))))))))))
unfolding use_text
in_pieces places row mark name rf ow lw nr nw eu place a b c d e f = rw (place, a, b, c, d, e, f) (simp append_assoc)

pub returns-clause-text : goal.returns-clause-text
returns-clause-text g c =
    rw (in_pieces c.args.places.now c.args.row.now c.place_name.result.0.now c.place_name.result.1.now _ _ _ _ _ _ c.place_name.ensures c.letter_of.ensures
    c.letter_of-2.ensures c.letter_of-3.ensures c.letter_of-4.ensures c.letter_of-5.ensures c.letter_of-6.ensures)
    c.put.ensures.text
