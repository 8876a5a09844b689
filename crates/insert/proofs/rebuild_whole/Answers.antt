-- `insert::rebuild_whole` meets its contract, way by way (proofs/Tidies). Assumes nothing.
use Rattle.std.specs.Prelude.{None}
use mathlib.Core.Path.{◌≡◌, sym, ◌∙◌}
use native.Mathlib.Omega.{arith}
use Rattle.insert.proofs.Tidies.{ready_rebuildable, whole-damage, whole-done, whole-roomless}
use Rattle.insert.proofs.rebuild_whole.Goals as goal

pub returns-then-not-is_sound : goal.returns-then-not-is_sound
returns-then-not-is_sound c = whole-damage _ _ _ _ _ _ c.new.ensures (sym c.is_sound.ensures ∙ c.if-not-is_sound.true)

pub rebuild-requires : goal.rebuild-requires
rebuild-requires c =
    ready_rebuildable c.args.h _ _ _ _ _ c.requires (omega arith) (sym c.is_sound.ensures ∙ c.if-not-is_sound.false)

pub returns-in-Some : goal.returns-in-Some
returns-in-Some c = whole-done _ _ _ _ _ _ (sym c.is_sound.ensures ∙ c.if-not-is_sound.false) _ _ _ c.rebuild.ensures _ c.in-Some.is c.done.ensures

pub returns-in-None : goal.returns-in-None
returns-in-None c =
    let e : c.rebuild.result ≡ None = cc in
    whole-roomless _ _ _ _ _ _ (sym c.is_sound.ensures ∙ c.if-not-is_sound.false) _ _ _ c.rebuild.ensures e c.new-in-None.ensures
