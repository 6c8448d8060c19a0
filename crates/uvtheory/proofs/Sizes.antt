-- The structs of a number type's values fit in memory: a value has few bytes, and few bytes of padding stand before an array.
use Rattle.std.proofs.Common.{ℕ, ◌+◌, ◌-◌, ◌*◌, ◌%◌, ◌^◌, ◌<◌, ◌≤◌, max, le_refl, le_trans, mul-le-mul, arith}
use Rattle.std.proofs.Math.Nat.{mod-le, sub-le, add-le-add, max-le, lt_of_le_of_lt}
use prog.Memory.{pad, up}

pad_le : (k e : ℕ) → pad k e ≤ k
pad_le k e = le_trans (mod-le (k - e % k) k) (sub-le k (e % k))

pub up_le : {k e c b : ℕ} → k ≤ c → e ≤ b → up k e ≤ b + c
up_le {k} {e} h l = add-le-add l (le_trans (pad_le k e) h)

-- by the alignment a and the size s of a value
module _ (a s : ℕ) (aligned : a ≤ 2 ^ 32) (small : s ≤ 2 ^ 32) where
  -- behind the next array, of m values
  pub next : (m : ℕ) {e b : ℕ} → m ≤ 64 → e ≤ b → up a e + m * s ≤ b + 2 ^ 32 + 2 ^ 38
  next m few l = add-le-add (up_le aligned l) (let z : m * s ≤ 64 * 2 ^ 32 = mul-le-mul few small in omega (arith, z))

  wider : {b : ℕ} → b ≤ 2 ^ 32 → max a b ≤ 2 ^ 32
  wider = max-le aligned

  -- a mixture, with the rows and the matrices of its values
  pub parameters_fit :
      up (max 8 (max a (max a (max a (max a (max a (max a (max a (max a 1)))))))))
      (up a (up a (up a (up a (up a (up a (up a (up a 712 + 8 * s) + 8 * s) + 8 * s) + 8 * s) + 64 * s) + 64 * s) + 64 * s) + 64 * s) < 2 ^ 63
  parameters_fit =
      let eight : 8 ≤ 64 = omega arith in
      let all = le_refl 64 in
      let rows = next 8 eight (next 8 eight (next 8 eight (next 8 eight (le_refl 712)))) in
      let end = next 64 all (next 64 all (next 64 all (next 64 all rows))) in
      let padded = up_le (max-le (let z : 8 ≤ 2 ^ 32 = omega arith in z) (wider (wider (wider (wider (wider (wider (wider (wider (let z : 1 ≤ 2 ^ 32 = omega arith in z)))))))))) end in
      lt_of_le_of_lt padded (omega arith)

  -- a state
  pub state_fits : up (max a (max a (max a 1))) (up a (up a (up a 0 + s) + 8 * s) + 8 * s) < 2 ^ 63
  state_fits =
      let eight : 8 ≤ 64 = omega arith in
      let first : up a 0 + s ≤ 0 + 2 ^ 32 + 2 ^ 32 = add-le-add (up_le aligned (le_refl 0)) small in
      let padded = up_le (wider (wider (wider (let z : 1 ≤ 2 ^ 32 = omega arith in z)))) (next 8 eight (next 8 eight first)) in
      lt_of_le_of_lt padded (omega arith)
