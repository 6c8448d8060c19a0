-- The lengths of WCA as the code holds them, by the formulas: of the components, and of the pairs.
use Rattle.std.specs.Prelude.{List}
use Rattle.arithmetic.specs.Arithmetic.{Arithmetic}
use Rattle.uvtheory.specs.Parameters.{UVTheoryPars}
use Rattle.uvtheory.specs.Rows.{Row, Matrix}
use Rattle.uvtheory.specs.Wca.HardSphere.{rm_of, diameter_wca, dimensionless_length_scale, dimensionless_diameter_q_wca}

module _ {Value : Type 0} (A : Arithmetic Value) (p : UVTheoryPars Value) where
  abbrev pub Minima : List Value → Type 0
  Minima rm = Row A p.n rm (λ i. rm_of A (p.rep i) (p.att i))

  abbrev pub MinimaOfPairs : List Value → Type 0
  MinimaOfPairs rm = Matrix A p.n rm (λ i j. rm_of A (p.rep_ij i j) (p.att_ij i j))

  pub record ComponentLengths (t : Value) (rm d length : List Value) : Type 0 where
    pub rm_are : Minima rm
    pub d_are : Row A p.n d (diameter_wca A p t)
    pub length_are : Row A p.n length (dimensionless_length_scale A p t)

  pub record PairLengths (t : Value) (rm q : List Value) : Type 0 where
    pub rm_are : MinimaOfPairs rm
    pub q_are : Matrix A p.n q (λ i j. dimensionless_diameter_q_wca A (A.div t (p.eps_k_ij i j)) (p.rep_ij i j) (p.att_ij i j))
