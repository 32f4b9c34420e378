-- Products of two bytes are small: what code computes of them fits.
-- Assumes nothing.
use Prim.Native.Nat.{ℕ, ◌+◌, ◌*◌, ◌≤◌, ◌<◌}
use native.Mathlib.Nat.{mul-le-mul}
use native.Mathlib.Omega.{arith}
use mir.Syntax.{w64}
use mir.Val.{Fits}

pub bytes_mul : (a b : ℕ) → a < 256 → b < 256 → a * b ≤ 65025
bytes_mul a b ha hb = mul-le-mul {n₂ = 255} {m₂ = 255} (omega arith) (omega arith)

pub product_fits : (a b : ℕ) → a < 256 → b < 256 → Fits w64 (a * b)
product_fits a b ha hb = omega (arith, bytes_mul a b ha hb)

pub place_fits : (a b c : ℕ) → a < 256 → b < 256 → c < 256 → Fits w64 (a * b + c)
place_fits a b c ha hb hc = omega (arith, bytes_mul a b ha hb)
