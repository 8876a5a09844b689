-- A thing that is so or not, turned into a number by the code, is the number of the definitions. Assumes nothing.
use Rattle.std.proofs.Common.{◌≡◌, Bool, true, false, refl}
use mir.Val.{bool_byte}
use Rattle.laws.specs.Answers.{as_number}

pub converted : (b : Bool) → bool_byte b ≡ as_number b
converted true = refl
converted false = refl
