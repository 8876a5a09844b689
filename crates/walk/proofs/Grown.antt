-- Reading a memory that has grown (pool's Growth): where a reading under the rules of a rebuild meets no broken rule, it enters used records
-- alone, with runs that are wholly marked, so nothing of what it reads is another in the grown memory. Its events are the same, its items
-- are, and every element lies in a slot that is marked. Assumes nothing.
use Rattle.std.specs.Prelude.{Err, Ok, Result}
use mathlib.Core.Bool.{true}
use mathlib.Core.List.{List, [], ◌∷◌, ◌++◌, append-nil, append_assoc}
use mathlib.Core.Path.{◌≡◌, refl, sym, ap, subst, subst⁻¹, ◌∙◌}
use Prim.Native.Nat.{ℕ, zero, suc, ◌+◌, ◌-◌, ◌<◌, ◌≤◌}
use native.Mathlib.Omega.{arith}
use lib.Dec.{leb}
use Rattle.laws.proofs.Tests.{both, and_both}
use Rattle.marks.proofs.Runs.{full_run_at}
use Rattle.marks.specs.Used.{used_at, full_run}
use Rattle.pool.proofs.Growth.{Grows, grows_good, grows_slot, grows_full}
use Rattle.pool.proofs.Nodes.{good-node}
use Rattle.pool.specs.Memory.{Mem, slots_in, slot_place}
use Rattle.pool.specs.Reading.{node_at, slot_at}
use Rattle.pool.specs.declared.Node.{Node}
use Rattle.pool.specs.declared.Slot.{Slot}
use Rattle.pool.specs.declared.Slot.TheVariants.{Null, Data, Child}
use Rattle.walk.specs.Events.{first_in, last_in, count_in, in_slot, in_slots, in_record, too_long, events_at, events_of}
use Rattle.walk.specs.Items.{may_enter, may_hold, entered, holding, items}
use Rattle.walk.specs.Walks.{longest_path}
use Rattle.walk.specs.declared.Event.{Event}
use Rattle.walk.specs.declared.Event.TheVariants.{Enter, Element, Damage, End}
use Rattle.walk.specs.declared.Item.{Item}
use Rattle.walk.specs.declared.Item.TheVariants.{Held, Broken, End as ItemEnd}
use Rattle.walk.specs.declared.Rules.{Rules}
use Rattle.walk.specs.declared.Span.{Span}
use Rattle.walk.proofs.Elements.{Each, each_both}
use Rattle.walk.proofs.Readings.{last_within}
use Rattle.walk.proofs.Siftings.{enters_marked, enters_some}
use Rattle.pool.specs.declared.Rule.{Rule}

-- no rule is broken
abbrev pub Unbroken : List Item → Type 0
Unbroken [] = Unit
Unbroken (Held q k ∷ is) = Unbroken is
Unbroken (Broken ∷ is) = ⊥
Unbroken (ItemEnd ∷ is) = Unit

-- a slot is one of the pool's, and marked
pub record Marked (m : Mem) (q : ℕ) : Type 0 where
  pub slot : q < slots_in m.slots
  pub used : used_at m.used (slot_place m.nodes q) ≡ true

-- the run of a node that a rebuild may enter is wholly marked
pub entered-full : (m : Mem) (ru : Rules) (n : Node) → ru.rebuild ≡ true → may_enter m ru n ≡ true → full_run m.used (slot_place m.nodes n.start) n.model.l ≡ true
unfolding may_enter
entered-full m ru n r e = rw r at (and_both (leb 1 ru.nodes) _ e).1

module _ (m m' : Mem) (g : Grows m m') where
  -- some events break no rule of a rebuild
  record Goes (es : List Event) : Type 0 where
    rules : Rules
    rebuild : rules.rebuild ≡ true
    unbroken : Unbroken (items m rules es)

  -- the events es, before others: the grown memory gives the same, their elements are marked, and the others break no rule either
  record Same (es' es fs : List Event) : Type 0 where
    same : es' ≡ es
    marked : Each (λ (q k : ℕ). Marked m q) es
    rest : Goes fs

  element_goes : (q k : ℕ) (fs : List Event) → Goes (Element q k ∷ fs) → Goes fs
  unfolding items
  element_goes q k fs h =
      both (may_hold h.rules k)
      (λ t. record { rules = holding h.rules k; rebuild = h.rebuild; unbroken = rw t at h.unbroken })
      (λ t. absurd (rw t at h.unbroken))

  enter_goes : (r : ℕ) (n : Node) (fs : List Event) → Goes (Enter r n ∷ fs) → (full_run m.used (slot_place m.nodes n.start) n.model.l ≡ true) × Goes fs
  unfolding items
  enter_goes r n fs h =
      both (may_enter m h.rules n)
      (λ t. (entered-full m h.rules n h.rebuild t, record { rules = entered h.rules; rebuild = h.rebuild; unbroken = rw t at h.unbroken }))
      (λ t. absurd (rw t at h.unbroken))

  damage-stops : (c : Rule) (fs : List Event) → Goes (Damage c ∷ fs) → ⊥
  unfolding items
  damage-stops c fs h = h.unbroken

  -- the slots of a node, below each of which it is so
  module _ (deeper deeper' : ℕ → List Event) (below : (c : ℕ) (fs : List Event) → Goes (deeper c ++ fs) → Same (deeper' c) (deeper c) fs) where
    slot-goes : (q : ℕ) → Marked m q → (x : Result Slot Rule) (fs : List Event) → Goes (in_slot deeper q x ++ fs) → Same (in_slot deeper' q x) (in_slot deeper q x) fs
    unfolding in_slot
    slot-goes q k (Ok Null) fs h = record { same = refl; marked = tt; rest = h }
    slot-goes q k (Ok (Data x)) fs h = record { same = refl; marked = (k, tt); rest = element_goes q x fs h }
    slot-goes q k (Ok (Child c)) fs h = below c fs h
    slot-goes q k (Err c) fs h = absurd (damage-stops c fs h)

    slots_go : (n : Node) (count j : ℕ) → ((i : ℕ) → j ≤ i → i < j + count → Marked m (n.start + i))
        → (fs : List Event) → Goes (in_slots deeper m n count j ++ fs) → Same (in_slots deeper' m' n count j) (in_slots deeper m n count j) fs
    unfolding in_slots
    slots_go n zero j k fs h = record { same = refl; marked = tt; rest = h }
    slots_go n (suc count) j k fs h =
        let here : Marked m (n.start + j) = k j (omega arith) (omega arith) in
        let slot : slot_at m'.slots n j ≡ slot_at m.slots n j = grows_slot m m' g n j here.slot here.used in
        let es = in_slot deeper (n.start + j) (slot_at m.slots n j) in
        let first = slot-goes (n.start + j) here (slot_at m.slots n j) (in_slots deeper m n count (j + 1) ++ fs) (subst Goes (append_assoc es (in_slots deeper m n count (j + 1)) fs) h) in
        let after = slots_go n count (j + 1) (λ i a b. k i (omega arith) (omega arith)) fs first.rest in
        record {
          same = rw (slot, first.same, after.same);
          marked = each_both (λ (q k : ℕ). Marked m q) es (in_slots deeper m n count (j + 1)) first.marked after.marked;
          rest = after.rest;
        }

    record-goes : (s : Span) (r : ℕ) (x : Result Node Rule) → node_at m r ≡ x → (fs : List Event) → Goes (in_record s deeper m r x ++ fs)
        → Same (in_record s deeper' m' r (node_at m' r)) (in_record s deeper m r x) fs
    unfolding in_record count_in
    record-goes s r (Ok n) e fs h =
        let good = good-node m r n e in
        let enter = enter_goes r n _ h in
        let last : last_in s n.model < n.model.l = last_within n.model s good.range in
        let full = full_run_at m.used (slot_place m.nodes n.start) n.model.l enter.0 in
        let after = slots_go n (last_in s n.model + 1 - first_in s n.model) (first_in s n.model)
        (λ i a b. record { slot = omega (arith, good.fits, last); used = rw (sym (place i)) (full (slot_place m.nodes n.start + i) (omega arith) (omega (arith, last))) })
        fs enter.1 in
        rw (grows_good m m' g r n e) (record { same = ap (λ (es : List Event). Enter r n ∷ es) after.same; marked = after.marked; rest = after.rest })
      where
        place : (i : ℕ) → slot_place m.nodes n.start + i ≡ slot_place m.nodes (n.start + i)
        place i = omega arith
    record-goes s r (Err c) e fs h = absurd (damage-stops c fs h)

  long-stops : (x : Result Node Rule) (fs : List Event) → Goes (too_long x ++ fs) → ⊥
  unfolding too_long
  long-stops (Ok n) fs h = damage-stops _ fs h
  long-stops (Err c) fs h = damage-stops c fs h

  events_go : (s : Span) (d r : ℕ) (fs : List Event) → Goes (events_at s m d r ++ fs) → Same (events_at s m' d r) (events_at s m d r) fs
  unfolding events_at
  events_go s zero r fs h = absurd (long-stops (node_at m r) fs h)
  events_go s (suc d) r fs h = record-goes (events_at s m d) (events_at s m' d) (events_go s d) s r (node_at m r) refl fs h

  -- a reading of a rebuild that breaks no rule
  module _ (s : Span) (above r : ℕ) (ru : Rules) (rebuild : ru.rebuild ≡ true) (unbroken : Unbroken (items m ru (events_of s m above r))) where
    whole : Same (events_of s m' above r) (events_of s m above r) []
    unfolding events_of
    whole = events_go s (longest_path - above) r [] (subst⁻¹ Goes (append-nil _) (record { rules = ru; rebuild = rebuild; unbroken = unbroken }))

    pub grown_events : events_of s m' above r ≡ events_of s m above r
    grown_events = whole.same

    pub held_marked : Each (λ (q k : ℕ). Marked m q) (events_of s m above r)
    held_marked = whole.marked

  -- a node that may be entered may be in the grown memory
  grown_enters : (ru : Rules) (n : Node) → ru.rebuild ≡ true → may_enter m ru n ≡ true → may_enter m' ru n ≡ true
  grown_enters ru n e t =
      sym (enters_marked m' ru n (enters_some m ru n t) e true (sym (rw g.keeps.nodes (grows_full m m' g _ _ (entered-full m ru n e t)))))

  -- of the same events the grown memory makes the same items
  pub grown_sifts : (ru : Rules) (es : List Event) → ru.rebuild ≡ true → Unbroken (items m ru es) → items m' ru es ≡ items m ru es
  unfolding items
  grown_sifts ru [] e h = refl
  grown_sifts ru (Enter r n ∷ es) e h =
      both (may_enter m ru n)
      (λ t. rw (t, grown_enters ru n e t) (grown_sifts (entered ru) es e (rw t at h)))
      (λ t. absurd (rw t at h))
  grown_sifts ru (Element q k ∷ es) e h =
      both (may_hold ru k)
      (λ t. rw t (ap (λ (is : List Item). Held q k ∷ is) (grown_sifts (holding ru k) es e (rw t at h))))
      (λ t. absurd (rw t at h))
  grown_sifts ru (Damage c ∷ es) e h = refl
  grown_sifts ru (End ∷ es) e h = refl

  pub grown-items : (s : Span) (above r : ℕ) (ru : Rules) → ru.rebuild ≡ true → Unbroken (items m ru (events_of s m above r))
      → items m' ru (events_of s m' above r) ≡ items m ru (events_of s m above r)
  grown-items s above r ru e h = ap (items m' ru) (grown_events s above r ru e h) ∙ grown_sifts ru (events_of s m above r) e h
