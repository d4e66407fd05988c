use Rattle.cert_text.proofs.reading.+read_body.Given as goal

abbrev pub decreases-read_body : goal.decreases-read_body
decreases-read_body l = l.room
