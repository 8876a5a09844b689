-- `store::load_afresh` meets its contract: the pools are zeros, so the build is the definition's, and it has room (proofs/Loads).
-- Assumes nothing.
use Rattle.std.specs.Prelude.{None}
use mathlib.Core.Path.{◌≡◌, ◌∙◌, ap}
use native.Mathlib.Omega.{arith}
use Rattle.build.specs.Building.{build}
use Rattle.pool.specs.Memory.{Mem}
use Rattle.walk.specs.Walks.{longest_path}
use Rattle.store.proofs.Loads.{empty-sized, load-done, load_cannot}
use Rattle.store.proofs.load_afresh.Goals as goal

pub build_node-g-requires : goal.build_node-g-requires
build_node-g-requires c =
    let l = c.requires.loadable in record { rising = l.rising; payloads_len = l.same; keys_len_bound = l.few; sized = empty-sized 0 _ _ _ l _ c.empty_pools.ensures; hinted = record { record-within = omega arith; slot-within = omega arith; records-used = λ r h. absurd (omega arith); slots-used = λ q h. absurd (omega arith) } }

pub returns-in-Some : goal.returns-in-Some
returns-in-Some c =
    let g = c.build_node-g in
    load-done _ _ _ _ c.requires.loadable c.requires.roomy g.result.built _
    (g.ensures.is ∙ ap (λ (m : Mem). build longest_path c.args.keys.now c.args.payloads.now m) c.empty_pools.ensures)
    _ _ c.in-Some.is c.new.ensures

pub returns-in-None : goal.returns-in-None
returns-in-None c =
    let g = c.build_node-g in
    let e : g.result.built ≡ None = cc in
    absurd (load_cannot 0 _ _ _ c.requires.loadable c.requires.roomy g.result.built _
    (g.ensures.is ∙ ap (λ (m : Mem). build longest_path c.args.keys.now c.args.payloads.now m) c.empty_pools.ensures) e)
