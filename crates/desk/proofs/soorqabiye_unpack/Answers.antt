-- `desk::soorqabiye_unpack` meets its contract: the leaf's answer, passed on. Assumes nothing.
use Rattle.std.specs.Prelude.{Result, ℤ}
use mir.Syntax.{w64}
use mir.Val.{SFits}
use mir.ValLaws.{to_z-of_z}
use borrow.Author.Rules.{rules}
use mathlib.Core.Path.{sym, ap, ◌∙◌}
use Rattle.sounding.specs.Studio.{unpacked}
use Rattle.sounding.specs.declared.OutOfRange.{OutOfRange}
use Rattle.sounding.specs.declared.Sounding.{Sounding}
use Rattle.desk.specs.Passing.{pass_sounding}
use Rattle.desk.proofs.soorqabiye_unpack.Goals as goal

pub returns-in-Ok : goal.returns-in-Ok
unfolding pass_sounding unpacked
returns-in-Ok c =
    let s = c.in-Ok.sounding in
    let f : SFits w64 s.depth = search rules in
    ap (λ (d : ℤ). record { number = 0; depth = d; sounding = s.number }) (to_z-of_z w64 s.depth f) ∙ ap pass_sounding c.in-Ok.ensures

pub returns-in-Err : goal.returns-in-Err
unfolding pass_sounding unpacked
returns-in-Err c = ap (λ (p : Result Sounding OutOfRange). pass_sounding (unpacked p)) (sym c.in-Err.is) ∙ ap pass_sounding c.unpack.ensures
