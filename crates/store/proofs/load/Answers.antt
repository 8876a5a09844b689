-- `store::load` meets its contract: a law for each way out (proofs/Loads). Assumes nothing.
use mathlib.Core.Path.{sym, ◌∙◌}
use Rattle.store.proofs.Loads.{loadable, load-sizes, load_full, load-fault, load_tree-load_of}
use Rattle.store.proofs.load.Goals as goal

pub returns-then-not-load_fits : goal.returns-then-not-load_fits
returns-then-not-load_fits c = load-sizes _ _ _ _ (sym c.load_fits.ensures ∙ c.if-not-load_fits.true)

pub returns-then-capacity-keys : goal.returns-then-capacity-keys
returns-then-capacity-keys c = load_full _ _ _ _ (sym c.load_fits.ensures ∙ c.if-not-load_fits.false) c.if-capacity-keys.true

pub load_rising-requires : goal.load_rising-requires
load_rising-requires c =
    loadable _ _ _ _ (sym c.load_fits.ensures ∙ c.if-not-load_fits.false) c.if-capacity-keys.false (sym c.first_fault.ensures ∙ c.in_default.is)

pub returns-in-Some : goal.returns-in-Some
returns-in-Some c =
    rw c.from.ensures (load-fault _ _ _ _ (sym c.load_fits.ensures ∙ c.if-not-load_fits.false) c.if-capacity-keys.false _ (sym c.first_fault.ensures ∙ c.in-Some.is))

pub returns : goal.returns
returns c =
    load_tree-load_of _ _ _ _ (sym c.load_fits.ensures ∙ c.if-not-load_fits.false) c.if-capacity-keys.false _ (sym c.first_fault.ensures ∙ c.in_default.is) c.load_rising.ensures
