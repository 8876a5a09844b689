-- How high a built tree may be (document 01, "From key to slot"): H = 1 for n <= 4, else 1 + H(ceil(n/3)). Definitions only.
use Rattle.std.specs.Prelude.{ℕ, zero, suc, ◌+◌, ◌/◌, leb}
use Rattle.laws.specs.Pick.{pick}

-- ceil(n/3)
abbrev pub third : ℕ → ℕ
third n = (n + 2) / 3

-- by fuel: the argument falls at each step, so n steps suffice for n
unfoldable pub height_by : ℕ → ℕ → ℕ
height_by zero n = 1
height_by (suc f) n = pick (leb n 4) 1 (1 + height_by f (third n))

unfoldable pub height : ℕ → ℕ
height n = height_by n n
