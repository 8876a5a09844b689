-- The bytes of a list from a up to b, copied to its front. Assumes nothing.
use Rattle.std.proofs.Common.{◌≡◌, ℕ, ◌+◌, ◌-◌, ◌≤◌, List, length, take, drop, sym, ◌∙◌, arith}
use Rattle.std.proofs.Math.Seq.{take_at}
use Rattle.std.proofs.lemmas.List.{drop-take, length-drop, length-take-le}
use Rattle.std.specs.List.{copy_within}

pub copied_front : (l m : List ℕ) (a b : ℕ) → a ≤ b → b ≤ length l → m ≡ copy_within l a b 0 → take (b - a) m ≡ drop a (take b l)
copied_front l m a b h k e =
    let n : a + (b - a) ≡ b = omega arith in
    let w : length (take (b - a) (drop a l)) ≡ b - a = length-take-le (b - a) (drop a l) (omega (arith, length-drop a l)) in
    rw e (take_at (take (b - a) (drop a l)) _ (b - a) w ∙ rw n at (sym (drop-take a (b - a) l)))
