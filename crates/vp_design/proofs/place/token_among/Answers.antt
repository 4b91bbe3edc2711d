use Rattle.vp_design.proofs.place.token_among.Goals as goal

pub returns : goal.returns
returns c = (c.in_ok-number.number, c.in_ok-number.ensures, c.token_of.ensures)
