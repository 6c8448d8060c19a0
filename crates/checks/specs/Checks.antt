-- The checks of a case record, in stages: the envelope, the substances, the state. The calls put them together in document 01's order, and stop behind the stage that they need.
use Rattle.std.specs.Prelude.{ℕ, zero, suc, ◌+◌, ◌-◌, ◌^◌, ◌≡◌, refl, Bool, true, false, not, ◌&&◌, cond, List, [], ◌∷◌, length, get_or, leb, eqb, Float, Result, Ok, Err}
use Rattle.std.specs.Float.{nan, inf, binary64}
use Rattle.std.specs.Float.Ieee.{of_bits, to_bits, round, le}
use Rattle.arithmetic.specs.Constants.{bits}
use Rattle.arithmetic.specs.Doubles.{guarded}
use Rattle.uvtheory.specs.declared.parameters.Mixture.{Mixture}
use Rattle.uvtheory.specs.declared.parameters.State.{State}
use Rattle.uvtheory.specs.declared.eos.Perturbation.{Perturbation}
use Rattle.uvtheory.specs.declared.eos.Perturbation.TheVariants.{BarkerHenderson, WeeksChandlerAndersen, WeeksChandlerAndersenB3}
use Rattle.case_record.specs.declared.case.Case.{Case}
use Rattle.case_record.specs.Layout.{length_field, header_of, is_perturbation, pairs, length_of}
use Rattle.refusal.specs.declared.Refusal.{Refusal}
use Rattle.refusal.specs.declared.Refusal.TheVariants as Due
use Rattle.checks.specs.declared.Interval.{Interval}

-- ---- "Intervals are closed. NaN and infinities lie in none; −0 counts as 0."
abbrev pub inside : Interval → Float → Bool
inside i x = le i.0 x && le x i.1

-- each of the first n values of an array
unfoldable pub all_first : (Float → Bool) → ℕ → List Float → Bool
all_first p zero xs = true
all_first p (suc n) xs = all_first p n xs && p (get_or xs n nan)

abbrev pub all_inside : Interval → ℕ → List Float → Bool
all_inside i = all_first (inside i)

-- from x to y
infix 5 ◌‥◌
abbrev pub ◌‥◌ : Float → Float → Interval
x ‥ y = record { 0 = x; 1 = y }

-- "rep not in 8..48, att 5..7, sigma 0.5..10, epsilon_k 0.1..5000, k_ij −0.9..0.9"
abbrev pub rep : Interval
rep = bits 0x4020000000000000 ‥ bits 0x4048000000000000

abbrev pub att : Interval
att = bits 0x4014000000000000 ‥ bits 0x401C000000000000

-- M-101: "BH records now need each att equal to 6"
abbrev pub att_bh : Interval
att_bh = bits 0x4018000000000000 ‥ bits 0x4018000000000000

abbrev pub sigma : Interval
sigma = bits 0x3FE0000000000000 ‥ bits 0x4024000000000000

abbrev pub epsilon_k : Interval
epsilon_k = bits 0x3FB999999999999A ‥ bits 0x40B3880000000000

abbrev pub k_ij : Interval
k_ij = bits 0xBFECCCCCCCCCCCCD ‥ bits 0x3FECCCCCCCCCCCCD

-- M-104: "in −0.5..0.5, under code 7"
abbrev pub l_ij : Interval
l_ij = bits 0xBFE0000000000000 ‥ bits 0x3FE0000000000000

-- "temperature not in 1..5000, a density 0..2, a fraction 0..1; or the fractions' vector sum (below) not in 1−2^−40..1+2^−40"
abbrev pub temperature : Interval
temperature = bits 0x3FF0000000000000 ‥ bits 0x40B3880000000000

abbrev pub density : Interval
density = bits 0x0000000000000000 ‥ bits 0x4000000000000000

abbrev pub fraction : Interval
fraction = bits 0x0000000000000000 ‥ bits 0x3FF0000000000000

abbrev pub fraction_sum : Interval
fraction_sum = bits 0x3FEFFFFFFFFFE000 ‥ bits 0x3FF0000000001000

-- each limit is the double nearest to document 01's digits
abbrev nearest : ℕ → ℕ → Float
nearest num den = round binary64 false num den

pub limits : (rep ≡ (nearest 8 1 ‥ nearest 48 1))
    × (att ≡ (nearest 5 1 ‥ nearest 7 1))
    × (att_bh ≡ (nearest 6 1 ‥ nearest 6 1))
    × (sigma ≡ (nearest 5 10 ‥ nearest 10 1))
    × (epsilon_k ≡ (nearest 1 10 ‥ nearest 5000 1))
    × (k_ij ≡ (round binary64 true 9 10 ‥ nearest 9 10))
    × (l_ij ≡ (round binary64 true 5 10 ‥ nearest 5 10))
    × (temperature ≡ (nearest 1 1 ‥ nearest 5000 1))
    × (density ≡ (nearest 0 1 ‥ nearest 2 1))
    × (fraction ≡ (nearest 0 1 ‥ nearest 1 1))
    × (fraction_sum ≡ (nearest (2 ^ 40 - 1) (2 ^ 40) ‥ nearest (2 ^ 40 + 1) (2 ^ 40)))
unfolding of_bits round
limits = (refl, refl, refl, refl, refl, refl, refl, refl, refl, refl, refl)

-- NaN and the infinities lie in none, and −0 lies where 0 does
abbrev none_holds : Float → List Interval → Bool
none_holds x [] = true
none_holds x (i ∷ is) = not (inside i x) && none_holds x is

abbrev intervals : List Interval
intervals = rep ∷ att ∷ att_bh ∷ sigma ∷ epsilon_k ∷ k_ij ∷ l_ij ∷ temperature ∷ density ∷ fraction ∷ fraction_sum ∷ []

pub in_none : (none_holds nan intervals ≡ true) × (none_holds (inf false) intervals ≡ true) × (none_holds (inf true) intervals ≡ true)
unfolding of_bits le
in_none = (refl, refl, refl)

pub minus_zero : (inside k_ij (bits 0x8000000000000000) ≡ true) × (inside l_ij (bits 0x8000000000000000) ≡ true) × (inside density (bits 0x8000000000000000) ≡ true) × (inside fraction (bits 0x8000000000000000) ≡ true)
unfolding of_bits le
minus_zero = (refl, refl, refl, refl)

-- of M-101 the double 6 passes, and the doubles beside it do not
pub only_six : (inside att_bh (bits 0x4017FFFFFFFFFFFF) ≡ false) × (inside att_bh (bits 0x4018000000000000) ≡ true) × (inside att_bh (bits 0x4018000000000001) ≡ false)
unfolding of_bits le
only_six = (refl, refl, refl)

-- ---- the tests of a mixture and of a state
-- the substances and their pairs
unfoldable pub substances_inside : Mixture → Bool
substances_inside m =
    all_inside rep m.n m.rep &&
    all_inside att m.n m.att &&
    all_inside sigma m.n m.sigma &&
    all_inside epsilon_k m.n m.epsilon_k &&
    all_inside k_ij (pairs m.n) m.k_ij &&
    all_inside l_ij (pairs m.n) m.l_ij

-- M-101: "BH records now need each att equal to 6. WCA and B3 keep 5 to 7."
unfoldable pub attraction_fits : Perturbation → Mixture → Bool
attraction_fits BarkerHenderson m = all_inside att_bh m.n m.att
attraction_fits WeeksChandlerAndersen m = true
attraction_fits WeeksChandlerAndersenB3 m = true

-- the state of n substances
unfoldable pub state_inside : ℕ → State Float → Bool
state_inside n t =
    inside temperature t.temperature &&
    all_inside density n t.partial_density &&
    all_inside fraction n t.molefracs &&
    inside fraction_sum (guarded.sum n (λ i. get_or t.molefracs i nan))

-- ---- the stages of document 01's table: each code (crate `refusal`) with a test, which fails where the code applies
abbrev pub Checks : Type 0
Checks = List (Refusal × Bool)

-- "record under 5 bytes, or length is not its bytes less 2", "not 1", "above 2", "n not 1 to 8", "length not that of n". M-104: "3 now means neither 1 nor 2", and at a move that the
-- record is not of the version that it starts from: so the versions from `oldest` to `newest` pass.
abbrev pub envelope : ℕ → ℕ → List ℕ → Checks
envelope oldest newest s =
    let h = header_of s in
    (Due.Envelope, leb 5 (length s) && eqb (length_field s) (length s - 2)) ∷
    (Due.Version, leb oldest h.version && leb h.version newest) ∷
    (Due.Perturbation, is_perturbation h.perturbation) ∷
    (Due.Components, leb 1 h.n && leb h.n 8) ∷
    (Due.Size, eqb (length_field s) (length_of h)) ∷
    []

-- M-101: "12, perturbation 0 and an att other than 6, tested between 7 and 8"
abbrev pub substances : Case → Checks
substances c =
    (Due.Substances, substances_inside c.mixture) ∷
    (Due.Attraction, attraction_fits c.perturbation c.mixture) ∷
    []

abbrev pub state : Case → Checks
state c = (Due.State, state_inside c.mixture.n c.state) ∷ []

-- M-104: "The move back needs every l_ij to be +0 by bits." "13, the move back met another l_ij, tested after 8 and 12"
abbrev pub plus_zero : Float → Bool
plus_zero x = eqb (to_bits binary64 x) 0

abbrev pub pair_constants : Case → Checks
pair_constants c = (Due.PairConstant, all_first plus_zero (pairs c.mixture.n) c.mixture.l_ij) ∷ []

-- what the first test that fails is due to, if one does
abbrev pub first_failing : Checks → Result (Unit {0}) Refusal
first_failing [] = Ok tt
first_failing ((refusal, passes) ∷ rest) = cond passes (first_failing rest) (Err refusal)
