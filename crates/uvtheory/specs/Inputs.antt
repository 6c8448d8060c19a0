-- How a mixture and a state, as the code holds them, enter the formulas: a mixture by its doubles as sent, each a constant of the arithmetic; a state by its values.
use Rattle.std.specs.Prelude.{Float}
use Rattle.arithmetic.specs.Arithmetic.{Arithmetic}
use Rattle.arithmetic.specs.Constants.{zero_d}
use Rattle.uvtheory.specs.declared.parameters.Mixture.{Mixture}
use Rattle.uvtheory.specs.declared.parameters.State.{State as HeldState}
use Rattle.uvtheory.specs.Parameters.{UVTheoryParameters, UVTheoryPars, State, mapped, new}
use Rattle.uvtheory.specs.Rows.{doubles, row, row_of, place}

-- a mixture in a state, as the code holds them
pub record MixtureState (Value : Type 0) : Type 0 where
  pub mixture : Mixture
  pub state : HeldState Value

abbrev pub sent : Mixture → UVTheoryParameters
sent m = record {
  n = m.n;
  rep = doubles m.rep;
  att = doubles m.att;
  sigma = doubles m.sigma;
  epsilon_k = doubles m.epsilon_k;
  k_ij = λ i j. doubles m.k_ij (place m.n i j);
  l_ij = λ i j. row_of zero_d m.l_ij (place m.n i j);
}

abbrev pub held : HeldState Float → State Float
held s = record { temperature = s.temperature; partial_density = doubles s.partial_density; molefracs = doubles s.molefracs }

module _ {Value : Type 0} (A : Arithmetic Value) where
  abbrev pub parameters : Mixture → UVTheoryPars Value
  parameters m = new A (sent m)

  -- in values of the arithmetic
  abbrev pub state_of : HeldState Value → State Value
  state_of s = record { temperature = s.temperature; partial_density = row A s.partial_density; molefracs = row A s.molefracs }

  -- in doubles, as sent
  abbrev pub state : HeldState Float → State Value
  state s = mapped A.constant (held s)
