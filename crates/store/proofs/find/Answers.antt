-- `store::find` meets its contract: a law for each way out (proofs/Searching). Assumes nothing.
use mathlib.Core.Path.{refl, sym, ◌∙◌}
use native.Mathlib.Omega.{arith}
use Rattle.store.specs.Calls.{search_end}
use Rattle.store.proofs.Searching.{search_sizes, search_range, search_ends, search_same, search_other}
use Rattle.store.proofs.find.Goals as goal

pub returns-then-not-fits : goal.returns-then-not-fits
returns-then-not-fits c = search_sizes _ _ _ (sym c.fits.ensures ∙ c.if-not-fits.true)

pub returns-then-key-ge-BOUND : goal.returns-then-key-ge-BOUND
returns-then-key-ge-BOUND c = search_range _ _ _ (sym c.fits.ensures ∙ c.if-not-fits.false) c.if-key-ge-BOUND.true

pub returns-then-k-key : goal.returns-then-k-key
returns-then-k-key c =
    search_ends _ _ _ (sym c.fits.ensures ∙ c.if-not-fits.false) (omega arith) c.follow-f.result c.follow-f.ensures _ c.in-Key.is _ (search_other _ _ _ _ c.if-k-key.true)

pub returns-in-Empty : goal.returns-in-Empty
unfolding search_end
returns-in-Empty c =
    search_ends _ _ _ (sym c.fits.ensures ∙ c.if-not-fits.false) (omega arith) c.follow-f.result c.follow-f.ensures _ c.in-Empty.is _ refl

pub returns-else-k-key : goal.returns-else-k-key
returns-else-k-key c =
    search_ends _ _ _ (sym c.fits.ensures ∙ c.if-not-fits.false) (omega arith) c.follow-f.result c.follow-f.ensures _ c.in-Key.is _ (search_same _ _ _ _ c.if-k-key.false)

pub returns-in-Damage : goal.returns-in-Damage
unfolding search_end
returns-in-Damage c =
    search_ends _ _ _ (sym c.fits.ensures ∙ c.if-not-fits.false) (omega arith) c.follow-f.result c.follow-f.ensures _ c.in-Damage.is _ refl
