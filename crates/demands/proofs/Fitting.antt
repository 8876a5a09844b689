-- The handle's sizes and those of the pools: what Good says of them, and how it holds again after a call. Assumes nothing.
use mathlib.Core.Bool.{true}
use mathlib.Core.Path.{◌≡◌, sym, ◌∙◌}
use native.Mathlib.Omega.{arith}
use Prim.Native.Nat.{◌≤◌}
use borrow.Author.Tests.{le-leb}
use Rattle.pool.specs.Memory.{Mem}
use Rattle.store.proofs.Fitting.{Limits, limits_pass, pools_pass, fits_given, fits_count}
use Rattle.store.specs.Handles.{handle_fits}
use Rattle.store.specs.declared.Handle.{Handle}
use Rattle.demands.specs.Map.{size}
use Rattle.demands.specs.Placed.{Head, sub, Forest, flat_f, Good}
use Rattle.demands.proofs.Walking.{Sized, Kept}

pub fits-sized : (h : Handle) (m : Mem) → handle_fits h m ≡ true → Sized h.records h.slots m
fits-sized h m e =
    let f = fits_given h m e in
    record { nodes = f.pools.nodes-are; slots = f.pools.slots-are; used = f.pools.map_is; few = omega (arith, f.limits.records-most) }

-- a handle of the same sizes, over pools of the same sizes
pub fits_again : (h : Handle) (m : Mem) → Limits h.capacity h.records h.slots → h.count ≤ h.capacity → Sized h.records h.slots m → handle_fits h m ≡ true
fits_again h m l c s =
    sym (fits_count h m (sym (limits_pass _ _ _ l)) (sym (pools_pass _ _ _ (record { nodes-are = s.nodes; slots-are = s.slots; map_is = s.used })))) ∙ le-leb _ _ c

pub good_kept : (h : Handle) (m : Mem) (t : Head) (g : Forest) → Good h m t g → Kept h.records h.slots m (sub t g)
good_kept h m t g d = record { image = d.image; okay = d.okay; deep = d.deep; sized = fits-sized h m d.fits; words = d.words }

pub kept_good : (h : Handle) (m : Mem) (t : Head) (g : Forest) → Limits h.capacity h.records h.slots → h.count ≤ h.capacity → h.root ≡ t.at → h.count ≡ size (flat_f g)
    → Kept h.records h.slots m (sub t g) → Good h m t g
kept_good h m t g l b r c k = record {
  fits = fits_again h m l b k.sized;
  root = r;
  count = c;
  image = k.image;
  okay = k.okay;
  deep = k.deep;
  words = k.words;
}
