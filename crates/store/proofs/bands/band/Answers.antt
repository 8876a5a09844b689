-- `store::bands::band` meets its contract, way by way (proofs/BandWays). Assumes nothing.
use mathlib.Core.Path.{sym, ◌∙◌}
use Rattle.std.proofs.lemmas.Result.{err_from_is_err_and}
use native.Mathlib.Omega.{arith}
use Rattle.store.specs.Bands.{band_items}
use Rattle.store.proofs.BandWays.{band-sizes, band_unequal, band-first-out, band_last_out, band-reversed, band-done, band-damage}
use Rattle.listing.proofs.Counts.{counted_fits}
use Rattle.listing.proofs.Listings.{listing-within}
use Rattle.store.proofs.bands.band.Goals as goal

pub returns-then-not-fits : goal.returns-then-not-fits
returns-then-not-fits c = band-sizes _ _ _ _ _ _ (sym c.fits.ensures ∙ c.if-not-fits.true)

pub returns-then-keys-payloads : goal.returns-then-keys-payloads
returns-then-keys-payloads c = band_unequal _ _ _ _ _ _ (sym c.fits.ensures ∙ c.if-not-fits.false) c.if-keys-payloads.true

pub returns-then-u-ge-BOUND : goal.returns-then-u-ge-BOUND
returns-then-u-ge-BOUND c = band-first-out _ _ _ _ _ _ (sym c.fits.ensures ∙ c.if-not-fits.false) c.if-keys-payloads.false c.if-u-ge-BOUND.true

pub returns-then-v-ge-BOUND : goal.returns-then-v-ge-BOUND
returns-then-v-ge-BOUND c = band_last_out _ _ _ _ _ _ (sym c.fits.ensures ∙ c.if-not-fits.false) c.if-keys-payloads.false c.if-u-ge-BOUND.false c.if-v-ge-BOUND.true

pub returns-then-v-u : goal.returns-then-v-u
returns-then-v-u c = band-reversed _ _ _ _ _ _ (sym c.fits.ensures ∙ c.if-not-fits.false) c.if-keys-payloads.false c.if-u-ge-BOUND.false c.if-v-ge-BOUND.false c.if-v-u.true

pub write-end-requires : goal.write-end-requires
write-end-requires c =
    let f = counted_fits _ _ _ _ _ (sym c.in_ok-listed.was ∙ rw c.records.ensures at c.count.ensures) in
    let low = c.if-u-ge-BOUND.false in
    let high = c.if-v-ge-BOUND.false in
    let same = c.if-keys-payloads.false in record { span_fits = (omega (arith, low, high), omega (arith, low, high)); above_lt_longest_path = omega arith; count_bound = omega (arith, f); r_in_bounds = listing-within _ _ _ _ _ _ (omega (arith, f)); payloads_len = omega (arith, same) }

pub returns : goal.returns
unfolding band_items
returns c =
    band-done _ _ _ _ _ _ (sym c.fits.ensures ∙ c.if-not-fits.false) c.if-keys-payloads.false c.if-u-ge-BOUND.false c.if-v-ge-BOUND.false c.if-v-u.false _ (sym c.in_ok-listed.was ∙ rw c.records.ensures at c.count.ensures) _ _ (rw c.records.ensures at c.write-end.ensures.keys_after) (rw c.records.ensures at c.write-end.ensures.payloads_after)

pub returns-in_err-listed : goal.returns-in_err-listed
unfolding band_items
returns-in_err-listed c =
    let p = err_from_is_err_and c.from_residual.result c.from_residual.ensures.1 in
    rw (p.1, p.2) (band-damage _ _ _ _ _ _ (sym c.fits.ensures ∙ c.if-not-fits.false) c.if-keys-payloads.false c.if-u-ge-BOUND.false c.if-v-ge-BOUND.false c.if-v-u.false _ (sym c.in_err-listed.was ∙ rw c.records.ensures at c.count.ensures))
