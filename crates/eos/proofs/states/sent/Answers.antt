use Rattle.eos.proofs.states.sent.Goals as goal

pub returns : goal.returns
returns g c = rw (g.met.D.DualNum.from_is _ _ c.from.ensures, c.constants.ensures, c.constants-2.ensures)
