-- A subtree in which no rule of a rebuild is broken was read without damage, and reads the same in a memory that has grown. So its release
-- zeroes just the nodes that were read, also once new nodes have their places. Assumes nothing.
use Rattle.std.specs.Prelude.{Err, Ok, Result}
use mathlib.Core.Bool.{true}
use mathlib.Core.List.{List, [], ◌∷◌, ◌++◌}
use mathlib.Core.Path.{◌≡◌, ap, ◌∙◌}
use Prim.Native.Nat.{ℕ, zero, suc, ◌+◌, ◌-◌}
use Rattle.build.specs.Releasing.{release}
use Rattle.laws.proofs.Tests.{both}
use Rattle.pool.proofs.Growth.{Grows}
use Rattle.pool.specs.Memory.{Mem, records_in}
use Rattle.pool.specs.Reading.{node_at, slot_at}
use Rattle.pool.specs.declared.Node.{Node}
use Rattle.pool.specs.declared.Slot.{Slot}
use Rattle.pool.specs.declared.Slot.TheVariants.{Null, Data, Child}
use Rattle.rebuild.specs.Rebuilding.{rebuild_rules, sound_below}
use Rattle.rebuild.specs.Zeroing.{Met, nodes_below, zeroed}
use Rattle.rebuild.proofs.Grown.{live_unbroken, grown-nodes, grown-sound}
use Rattle.rebuild.proofs.Releases.{Undamaged, release_zeroes}
use Rattle.walk.proofs.Grown.{Unbroken}
use Rattle.walk.specs.Events.{first_in, count_in, in_slot, in_slots, in_record, too_long, events_at, events_of}
use Rattle.walk.specs.Items.{may_enter, may_hold, entered, holding, items}
use Rattle.walk.specs.Walks.{longest_path}
use Rattle.walk.specs.declared.Event.{Event}
use Rattle.walk.specs.declared.Event.TheVariants.{Enter, Element, Damage, End}
use Rattle.walk.specs.declared.Rules.{Rules}
use Rattle.walk.specs.declared.Span.{Span}
use Rattle.walk.specs.declared.Span.TheVariants.{Whole}
use Rattle.pool.specs.declared.Rule.{Rule}

-- no end stands among the events of a reading
abbrev Endless : List Event → Type 0
Endless [] = Unit
Endless (Enter r n ∷ es) = Endless es
Endless (Element q k ∷ es) = Endless es
Endless (Damage c ∷ es) = Endless es
Endless (End ∷ es) = ⊥

endless_both : (es fs : List Event) → Endless es → Endless fs → Endless (es ++ fs)
endless_both [] fs a b = b
endless_both (Enter r n ∷ es) fs a b = endless_both es fs a b
endless_both (Element q k ∷ es) fs a b = endless_both es fs a b
endless_both (Damage c ∷ es) fs a b = endless_both es fs a b
endless_both (End ∷ es) fs a b = absurd a

module _ (m : Mem) (deeper : ℕ → List Event) (below : (c : ℕ) → Endless (deeper c)) where
  slot_endless : (q : ℕ) (s : Result Slot Rule) → Endless (in_slot deeper q s)
  unfolding in_slot
  slot_endless q (Ok Null) = tt
  slot_endless q (Ok (Data k)) = tt
  slot_endless q (Ok (Child c)) = below c
  slot_endless q (Err c) = tt

  slots_endless : (n : Node) (count j : ℕ) → Endless (in_slots deeper m n count j)
  unfolding in_slots
  slots_endless n zero j = tt
  slots_endless n (suc count) j =
      endless_both (in_slot deeper (n.start + j) (slot_at m.slots n j)) (in_slots deeper m n count (j + 1))
      (slot_endless (n.start + j) (slot_at m.slots n j))
      (slots_endless n count (j + 1))

  record_endless : (s : Span) (r : ℕ) (x : Result Node Rule) → Endless (in_record s deeper m r x)
  unfolding in_record
  record_endless s r (Ok n) = slots_endless n (count_in s n.model) (first_in s n.model)
  record_endless s r (Err c) = tt

long_endless : (x : Result Node Rule) → Endless (too_long x)
unfolding too_long
long_endless (Ok n) = tt
long_endless (Err c) = tt

events_endless : (s : Span) (m : Mem) (d r : ℕ) → Endless (events_at s m d r)
unfolding events_at
events_endless s m zero r = long_endless (node_at m r)
events_endless s m (suc d) r = record_endless m (events_at s m d) (events_endless s m d) s r (node_at m r)

unbroken_undamaged : (m : Mem) (es : List Event) (ru : Rules) → Endless es → Unbroken (items m ru es) → Undamaged es
unfolding items
unbroken_undamaged m [] ru z h = tt
unbroken_undamaged m (Enter r n ∷ es) ru z h =
    both (may_enter m ru n) (λ t. unbroken_undamaged m es (entered ru) z (rw t at h)) (λ t. absurd (rw t at h))
unbroken_undamaged m (Element q k ∷ es) ru z h =
    both (may_hold ru k) (λ t. unbroken_undamaged m es (holding ru k) z (rw t at h)) (λ t. absurd (rw t at h))
unbroken_undamaged m (Damage c ∷ es) ru z h = h
unbroken_undamaged m (End ∷ es) ru z h = absurd z

module _ (capacity k above top : ℕ) (m : Mem) (sound : sound_below capacity k above top m ≡ true) where
  pub sound_undamaged : Undamaged (events_of Whole m above top)
  unfolding events_of
  sound_undamaged =
      unbroken_undamaged m (events_at Whole m (longest_path - above) top) (rebuild_rules (records_in m.nodes) capacity k) (events_endless Whole m (longest_path - above) top) (live_unbroken capacity k above top m sound)

  pub sound-release : release longest_path m top ≡ zeroed (nodes_below above top m) m
  sound-release = release_zeroes above top m sound_undamaged

-- in a memory that has grown since
pub grown-release : (capacity k above top : ℕ) (m : Mem) → sound_below capacity k above top m ≡ true → (after : Mem) → Grows m after
    → release longest_path after top ≡ zeroed (nodes_below above top m) after
grown-release capacity k above top m sound after g =
    sound-release capacity k above top after (grown-sound capacity k above top m sound after g) ∙ ap (λ (old : List Met). zeroed old after) (grown-nodes capacity k above top m sound after g)
