use Rattle.threat_certs.proofs.quantity.quantity_of.Goals as goal

pub returns-in-Up : goal.returns-in-Up
returns-in-Up c = rw c.in-Up.is c.up_at.ensures

pub returns-in-Down : goal.returns-in-Down
returns-in-Down c = rw c.in-Down.is c.down_at.ensures

pub returns-in-Low : goal.returns-in-Low
returns-in-Low c = rw c.in-Low.is c.low.ensures

pub returns-in-High : goal.returns-in-High
returns-in-High c = rw c.in-High.is c.high.ensures

pub returns-in-OldUp : goal.returns-in-OldUp
returns-in-OldUp c = rw c.in-OldUp.is c.old_up.ensures

pub returns-in-OldDown : goal.returns-in-OldDown
returns-in-OldDown c = rw c.in-OldDown.is c.old_down.ensures
