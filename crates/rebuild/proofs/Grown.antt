-- The live keys of a subtree in a memory that has grown since (pool's Growth): where no rule is broken in the subtree, they and their
-- payloads are those of the memory before. A build, of the two-key node or of a whole tree, is such a growth, on every memory. Assumes
-- nothing.
use mathlib.Core.Bool.{Bool, true}
use mathlib.Core.List.{List, [], ◌∷◌}
use mathlib.Core.Path.{◌≡◌, refl, ap, ◌∙◌}
use Prim.Native.Nat.{ℕ, ◌+◌}
use native.Mathlib.Omega.{arith}
use lib.Dec.{ltb, leb}
use Rattle.build.proofs.Kept.{build_grows}
use Rattle.build.specs.Sizes.{depth_of}
use Rattle.laws.proofs.Tests.{both}
use Rattle.listing.proofs.Places.{All, sound_unbroken, places-all}
use Rattle.listing.specs.Listing.{listing}
use Rattle.pool.proofs.Growth.{Grows, grows_same, grows_payload}
use Rattle.pool.specs.Memory.{Mem, records_in}
use Rattle.rebuild.specs.Pairs.{pair_of, pair_if}
use Rattle.rebuild.specs.Rebuilding.{rebuild_rules, live_items, last_key, sound_below, lower_live, upper_live, payloads_in, keys_with, payloads_with, afresh}
use Rattle.rebuild.specs.Zeroing.{nodes_met, nodes_below}
use Rattle.walk.proofs.Grown.{Unbroken, Marked, grown_events, grown-items, held_marked}
use Rattle.walk.specs.Events.{events_of}
use Rattle.walk.specs.Items.{items}
use Rattle.walk.specs.Walks.{longest_path}
use Rattle.walk.specs.declared.Item.{Item}
use Rattle.walk.specs.declared.Rules.{Rules}
use Rattle.walk.specs.declared.Span.TheVariants.{Whole}

-- the two-key node takes unused places alone
pub pair_grows : (conflict : Bool) (a p b q : ℕ) (m : Mem) → Grows m (pair_if conflict a p b q m).memory
unfolding pair_if pair_of
pair_grows conflict a p b q m =
    both conflict
    (λ t. both (ltb a b) (λ l. rw (t, l) (build_grows longest_path _ _ m)) (λ l. rw (t, l) (build_grows longest_path _ _ m)))
    (λ t. rw t (grows_same m))

-- and so does a tree built afresh
pub afresh_grows : (above : ℕ) (ks ps : List ℕ) (m : Mem) → Grows m (afresh above ks ps m).memory
unfolding afresh
afresh_grows above ks ps m =
    both (leb (above + depth_of longest_path ks) longest_path) (λ t. rw t (build_grows longest_path ks ps m)) (λ t. rw t (grows_same m))

-- the payloads of marked slots
payloads_stay : (m m' : Mem) → Grows m m' → (qs : List ℕ) → All (Marked m) qs → payloads_in m' qs ≡ payloads_in m qs
payloads_stay m m' g [] a = refl
payloads_stay m m' g (q ∷ qs) a = rw (grows_payload m m' g q a.0.slot a.0.used, payloads_stay m m' g qs a.1)

module _ (capacity k above top : ℕ) (m : Mem) (sound : sound_below capacity k above top m ≡ true) where
  abbrev rules : Rules
  rules = rebuild_rules (records_in m.nodes) capacity k

  pub live_unbroken : Unbroken (items m rules (events_of Whole m above top))
  unfolding sound_below live_items
  live_unbroken = sound_unbroken m 0 last_key capacity rules (events_of Whole m above top) refl (omega arith) sound

  module _ (m' : Mem) (g : Grows m m') where
    -- the reading meets the same, and makes the same of it
    pub grown_reading : events_of Whole m' above top ≡ events_of Whole m above top
    grown_reading = grown_events m m' g Whole above top rules refl live_unbroken

    -- so the nodes met are the same
    pub grown-nodes : nodes_below above top m' ≡ nodes_below above top m
    unfolding nodes_below
    grown-nodes = ap nodes_met grown_reading

    pub grown_live : live_items capacity k above top m' ≡ live_items capacity k above top m
    unfolding live_items
    grown_live = rw g.keeps.nodes (grown-items m m' g Whole above top rules refl live_unbroken)

    pub grown-sound : sound_below capacity k above top m' ≡ true
    unfolding sound_below
    grown-sound = ap (λ (is : List Item). (listing 0 last_key capacity is).sound) grown_live ∙ sound

    pub grown-keys : keys_with capacity k above top m' ≡ keys_with capacity k above top m
    unfolding keys_with lower_live upper_live
    grown-keys = rw grown_live

    part_payloads : (u v : ℕ) → payloads_in m' (listing u v capacity (live_items capacity k above top m)).places ≡ payloads_in m (listing u v capacity (live_items capacity k above top m)).places
    unfolding live_items
    part_payloads u v =
        payloads_stay m m' g (listing u v capacity (live_items capacity k above top m)).places (places-all m u v (Marked m) capacity rules (events_of Whole m above top) (held_marked m m' g Whole above top rules refl live_unbroken))

    pub grown-payloads : (p : ℕ) → payloads_with capacity k p above top m' ≡ payloads_with capacity k p above top m
    unfolding payloads_with lower_live upper_live
    grown-payloads p = rw (grown_live, part_payloads 0 k, part_payloads k last_key)
