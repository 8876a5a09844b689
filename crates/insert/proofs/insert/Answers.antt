-- `insert::insert` meets its contract, way by way (proofs/Endings). Assumes nothing.
use mathlib.Core.Path.{sym, ◌∙◌}
use Rattle.insert.proofs.Endings.{ready, empty-ends, key-ends, insert-sizes, insert-scratch, insert-range, insert-damage, insert-null-full, insert-null, insert-held, insert-full, insert-whole, insert-conflict}
use Rattle.insert.proofs.insert.Goals as goal

pub returns-then-not-fits : goal.returns-then-not-fits
returns-then-not-fits c = insert-sizes _ _ _ _ _ _ c.new.ensures (sym c.fits.ensures ∙ c.if-not-fits.true)

pub returns-then-not-scratch_fits : goal.returns-then-not-scratch_fits
returns-then-not-scratch_fits c = insert-scratch _ _ _ _ _ (sym c.fits.ensures ∙ c.if-not-fits.false) _ c.new-then-not-scratch_fits.ensures (sym c.scratch_fits.ensures ∙ c.if-not-scratch_fits.true)

pub returns-then-key-ge-BOUND : goal.returns-then-key-ge-BOUND
returns-then-key-ge-BOUND c = insert-range _ _ _ _ _ (sym c.fits.ensures ∙ c.if-not-fits.false) (sym c.scratch_fits.ensures ∙ c.if-not-scratch_fits.false) _ c.new-then-key-ge-BOUND.ensures c.if-key-ge-BOUND.true

pub returns-then-h : goal.returns-then-h
returns-then-h c = insert-null-full _ _ _ _ _ (sym c.fits.ensures ∙ c.if-not-fits.false) (sym c.scratch_fits.ensures ∙ c.if-not-scratch_fits.false) c.if-key-ge-BOUND.false _ c.trace-t.ensures _ c.in-Empty.is _ c.new-then-h.ensures c.if-h.true

pub settle-requires : goal.settle-requires
settle-requires c = record { ready = ready _ _ _ _ _ _ (sym c.fits.ensures ∙ c.if-not-fits.false) (sym c.scratch_fits.ensures ∙ c.if-not-scratch_fits.false) c.if-key-ge-BOUND.false c.if-h.false; ends = empty-ends _ _ _ _ c.trace-t.ensures _ c.in-Empty.is }

pub returns-then-k-key : goal.returns-then-k-key
returns-then-k-key c = insert-held _ _ _ _ _ (sym c.fits.ensures ∙ c.if-not-fits.false) (sym c.scratch_fits.ensures ∙ c.if-not-scratch_fits.false) c.if-key-ge-BOUND.false _ c.trace-t.ensures _ _ c.in-Key.is _ c.new-then-k-key.ensures c.if-k-key.true

pub returns-then-h-2 : goal.returns-then-h-2
returns-then-h-2 c = insert-full _ _ _ _ _ (sym c.fits.ensures ∙ c.if-not-fits.false) (sym c.scratch_fits.ensures ∙ c.if-not-scratch_fits.false) c.if-key-ge-BOUND.false _ c.trace-t.ensures _ _ c.in-Key.is c.if-k-key.false _ c.new-then-h-2.ensures c.if-h-2.true

pub rebuild_whole-requires : goal.rebuild_whole-requires
rebuild_whole-requires c = ready _ _ _ _ _ _ (sym c.fits.ensures ∙ c.if-not-fits.false) (sym c.scratch_fits.ensures ∙ c.if-not-scratch_fits.false) c.if-key-ge-BOUND.false c.if-h-2.false

pub returns-then-path-ge-LONGEST : goal.returns-then-path-ge-LONGEST
returns-then-path-ge-LONGEST c = insert-whole _ _ _ _ _ (sym c.fits.ensures ∙ c.if-not-fits.false) (sym c.scratch_fits.ensures ∙ c.if-not-scratch_fits.false) c.if-key-ge-BOUND.false _ c.trace-t.ensures _ _ c.in-Key.is c.if-k-key.false c.if-h-2.false _ c.if-path-ge-LONGEST.true c.rebuild_whole.ensures

pub settle-requires-in-Key : goal.settle-requires-in-Key
settle-requires-in-Key c = record { ready = ready _ _ _ _ _ _ (sym c.fits.ensures ∙ c.if-not-fits.false) (sym c.scratch_fits.ensures ∙ c.if-not-scratch_fits.false) c.if-key-ge-BOUND.false c.if-h-2.false; ends = key-ends _ _ _ _ c.trace-t.ensures _ _ c.in-Key.is c.if-key-ge-BOUND.false c.if-k-key.false }

pub returns-in-Damage : goal.returns-in-Damage
returns-in-Damage c = insert-damage _ _ _ _ _ (sym c.fits.ensures ∙ c.if-not-fits.false) (sym c.scratch_fits.ensures ∙ c.if-not-scratch_fits.false) c.if-key-ge-BOUND.false _ c.trace-t.ensures _ _ c.new-in-Damage.ensures c.in-Damage.is

pub returns-else-h : goal.returns-else-h
returns-else-h c = insert-null _ _ _ _ _ (sym c.fits.ensures ∙ c.if-not-fits.false) (sym c.scratch_fits.ensures ∙ c.if-not-scratch_fits.false) c.if-key-ge-BOUND.false _ c.trace-t.ensures _ c.in-Empty.is _ c.if-h.false c.settle.ensures

pub returns-else-path-ge-LONGEST : goal.returns-else-path-ge-LONGEST
returns-else-path-ge-LONGEST c = insert-conflict _ _ _ _ _ (sym c.fits.ensures ∙ c.if-not-fits.false) (sym c.scratch_fits.ensures ∙ c.if-not-scratch_fits.false) c.if-key-ge-BOUND.false _ c.trace-t.ensures _ _ c.in-Key.is c.if-k-key.false c.if-h-2.false _ c.if-path-ge-LONGEST.false c.settle-in-Key.ensures
