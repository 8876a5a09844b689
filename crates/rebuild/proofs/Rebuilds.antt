-- A rebuild: what was gathered is built in place, and all that was written to scratch is zeros again. Assumes nothing.
use Rattle.std.specs.Prelude.{Option}
use mathlib.Core.List.{List}
use mathlib.Core.Path.{◌≡◌, ap, ◌∙◌}
use Prim.Native.Nat.{ℕ, ◌-◌, ◌≤◌}
use native.Mathlib.Omega.{arith}
use lib.ListN.{length, take, replicate, length-replicate}
use lib.Seq.{sets, length-sets}
use Rattle.build.proofs.NodeSizes.{sizes-few}
use Rattle.build.proofs.Undoing.{wiped-same}
use Rattle.build.specs.Building.{out}
use Rattle.build.specs.Sizes.{sizes_of}
use Rattle.pool.proofs.Sets.{sets_past}
use Rattle.pool.specs.Memory.{Mem}
use Rattle.rebuild.specs.Judging.{Judgeable, Sound, Judges, Gathers, Rebuildable}
use Rattle.rebuild.specs.Rebuilding.{keys_with, payloads_with, in_place, Scratch, scratch, wiped, rebuilt, rebuild_over, rebuild_of}
use Rattle.rebuild.specs.Zeroing.{nodes_below}
use Rattle.rebuild.proofs.Gathering.{with_rising, with_few, with_some, with_same}
use Rattle.rebuild.proofs.Judging.{front_is}
use Rattle.walk.specs.Walks.{longest_path}

-- zeros over what was written at the front, and over as many places as there are of it
wiped_front : (l vs : List ℕ) (n : ℕ) → length vs ≤ n → n ≤ length l → sets (sets l 0 vs) 0 (replicate n 0) ≡ sets l 0 (replicate n 0)
wiped_front l vs n h f = wiped-same (sets l 0 vs) l n (length-sets l 0 vs) f (λ j le. sets_past l 0 vs j (omega arith))

pub judged_sound : (capacity k above top : ℕ) (m : Mem) (s : Scratch) → Rebuildable capacity k above top m s → Sound above top m
judged_sound capacity k above top m s r = record { capacity = capacity; key = k; sound = r.sound }

module _ (capacity k p above top : ℕ) (m : Mem) (s : Scratch) (r : Rebuildable capacity k above top m s) where
  -- the keys and the payloads of the rebuild
  abbrev ks : List ℕ
  ks = keys_with capacity k above top m

  abbrev ps : List ℕ
  ps = payloads_with capacity k p above top m

  few : length ks ≤ capacity
  few = with_few capacity k above top m r.gather.least

  module _ (keys₁ payloads₁ : List ℕ) (n : ℕ) (g : Gathers capacity k p above top m s.keys s.payloads keys₁ payloads₁ n) where
    pub within-keys : n ≤ length keys₁
    within-keys =
        let e : length keys₁ ≡ length s.keys = ap length g.keys-are ∙ length-sets s.keys 0 ks in
        omega (arith, g.count, few, r.gather.room, e)

    pub within-payloads : n ≤ length payloads₁
    within-payloads =
        let e : length payloads₁ ≡ length s.payloads = ap length g.payloads-are ∙ length-sets s.payloads 0 ps in
        omega (arith, g.count, few, r.gather.room, r.gather.same, e)

    pub within-places : n ≤ length s.places
    within-places = omega (arith, g.count, few, r.gather.room, r.places)

    keys_part : take (n - 0) keys₁ ≡ ks
    keys_part =
        let e : n - 0 ≡ length ks = omega (arith, g.count) in
        rw (e, g.keys-are) (front_is s.keys ks (omega (arith, few, r.gather.room)))

    payloads_part : take (n - 0) payloads₁ ≡ ps
    payloads_part =
        let e : n - 0 ≡ length ps = omega (arith, g.count, with_same capacity k above top m p) in
        rw (e, g.payloads-are) (front_is s.payloads ps (omega (arith, few, r.gather.room, r.gather.same, with_same capacity k above top m p)))

    pub gathered_judgeable : Judgeable (take (n - 0) keys₁) (take (n - 0) payloads₁) m s.places
    gathered_judgeable =
        rw (keys_part, payloads_part)
        (record {
          rising = with_rising capacity k above top m r.gather.is_key;
          same = with_same capacity k above top m p;
          some = with_some capacity k above top m;
          few = omega (arith, few, r.gather.most);
          pools = r.pools;
          room = omega (arith, few, r.gather.room, r.places);
        })

    pub rebuild_is : (m' : Mem) (places₁ keys₂ payloads₂ places₂ : List ℕ) (b : Option ℕ)
        → Judges above top (take (n - 0) keys₁) (take (n - 0) payloads₁) m s.places m' places₁ b
        → keys₂ ≡ sets keys₁ 0 (replicate n 0) → payloads₂ ≡ sets payloads₁ 0 (replicate n 0) → places₂ ≡ sets places₁ 0 (replicate n 0)
        → rebuilt (out b m') (scratch keys₂ payloads₂ places₂) ≡ rebuild_of capacity k p above top m s
    unfolding rebuild_of rebuild_over wiped
    rebuild_is m' places₁ keys₂ payloads₂ places₂ b j c d e =
        let o : out b m' ≡ in_place above (nodes_below above top m) ks ps m = rw (keys_part, payloads_part) at j.is in
        let l : places₁ ≡ sets s.places 0 (replicate (length (sizes_of longest_path ks)) 0) = rw keys_part at j.list in
        let z : length (replicate {A = ℕ} (length (sizes_of longest_path ks)) 0) ≡ length (sizes_of longest_path ks) = length-replicate _ 0 in
        let x : keys₂ ≡ sets s.keys 0 (replicate (length ks) 0) =
        rw (c, g.keys-are, g.count) (wiped_front s.keys ks (length ks) (omega arith) (omega (arith, few, r.gather.room)))
        in
        let y : payloads₂ ≡ sets s.payloads 0 (replicate (length ks) 0) =
        rw (d, g.payloads-are, g.count) (wiped_front s.payloads ps (length ks) (omega (arith, with_same capacity k above top m p)) (omega (arith, few, r.gather.room, r.gather.same)))
        in
        let w : places₂ ≡ sets s.places 0 (replicate (length ks) 0) =
        rw (e, l, g.count)
        (wiped_front s.places (replicate (length (sizes_of longest_path ks)) 0) (length ks)
        (omega (arith, z, sizes-few longest_path ks (with_rising capacity k above top m r.gather.is_key) (with_some capacity k above top m)))
        (omega (arith, few, r.gather.room, r.places)))
        in
        rw (o, x, y, w)
