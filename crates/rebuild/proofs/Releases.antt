-- Releasing a subtree zeroes just the nodes that its reading met, also where runs overlap, and where one node is reached by two slots.
-- Whatever was released before a slot is read, all below it went too: so a slot that became NULL has nothing left below it, and any other
-- reads as it did. Assumes nothing but a reading without damage.
use Rattle.std.specs.Prelude.{Err, Ok, Result}
use mathlib.Core.List.{List, [], ◌∷◌, ◌++◌}
use mathlib.Core.Logic.{◌⊎◌, inl, inr, ⊎_elim}
use mathlib.Core.Path.{◌≡◌, refl, sym, ap, subst, subst⁻¹, ◌∙◌}
use Prim.Native.Nat.{ℕ, zero, suc, ◌+◌, ◌-◌, ◌<◌, ◌≤◌}
use native.Mathlib.Omega.{arith}
use Rattle.build.proofs.Releasing.{release-broken, release-good}
use Rattle.build.specs.Releasing.{drop_node, release_slot, release_slots, release_record, release}
use Rattle.laws.proofs.Tests.{le_or_lt}
use Rattle.model.specs.Slots.{InRange}
use Rattle.model.specs.declared.Model.{Model}
use Rattle.pool.proofs.Nodes.{good-node}
use Rattle.pool.specs.Memory.{Mem}
use Rattle.pool.specs.Reading.{node_at, slot_at}
use Rattle.pool.specs.declared.Node.{Node}
use Rattle.pool.specs.declared.Slot.{Slot}
use Rattle.pool.specs.declared.Slot.TheVariants.{Null, Data, Child}
use Rattle.rebuild.specs.Zeroing.{Met, met_at, nodes_met, nodes_below, node_alone, zeroed}
use Rattle.rebuild.proofs.Zeroing.{In, in_left, in_right, in_either, Has, has_in, has_or_not, zeroed_both, zeroed-swap, zeroed_in, record_gone, record_kept, Emptied, zeroed-slot, child_elsewhere}
use Rattle.walk.specs.Events.{first_in, last_in, count_in, in_slot, in_slots, in_record, too_long, events_at, events_of}
use Rattle.walk.specs.Walks.{longest_path}
use Rattle.walk.specs.declared.Event.{Event}
use Rattle.walk.specs.declared.Event.TheVariants.{Enter, Element, Damage, End}
use Rattle.walk.specs.declared.Span.TheVariants.{Whole}
use Rattle.pool.specs.declared.Rule.{Rule}
use Rattle.pool.specs.declared.Rule.TheVariants.{UnusedRecord}

-- a reading that met no damage
abbrev pub Undamaged : List Event → Type 0
Undamaged [] = Unit
Undamaged (Enter r n ∷ es) = Undamaged es
Undamaged (Element q k ∷ es) = Undamaged es
Undamaged (Damage c ∷ es) = ⊥
Undamaged (End ∷ es) = Undamaged es

undamaged_parts : (es fs : List Event) → Undamaged (es ++ fs) → Undamaged es × Undamaged fs
undamaged_parts [] fs u = (tt, u)
undamaged_parts (Enter r n ∷ es) fs u = undamaged_parts es fs u
undamaged_parts (Element q k ∷ es) fs u = undamaged_parts es fs u
undamaged_parts (Damage c ∷ es) fs u = absurd u
undamaged_parts (End ∷ es) fs u = undamaged_parts es fs u

nodes_both : (es fs : List Event) → nodes_met (es ++ fs) ≡ nodes_met es ++ nodes_met fs
unfolding nodes_met
nodes_both [] fs = refl
nodes_both (Enter r n ∷ es) fs = ap (λ (l : List Met). met_at r n ∷ l) (nodes_both es fs)
nodes_both (Element q k ∷ es) fs = nodes_both es fs
nodes_both (Damage c ∷ es) fs = nodes_both es fs
nodes_both (End ∷ es) fs = nodes_both es fs

-- the nodes that two parts of a reading met
in_parts : (x : Met) (es fs : List Event) → In x (nodes_met (es ++ fs)) → In x (nodes_met es) ⊎ In x (nodes_met fs)
in_parts x es fs h = in_either x (nodes_met es) (nodes_met fs) (subst (In x) (nodes_both es fs) h)

in_first : (x : Met) (es fs : List Event) → In x (nodes_met es) → In x (nodes_met (es ++ fs))
in_first x es fs h = subst⁻¹ (In x) (nodes_both es fs) (in_left x (nodes_met es) (nodes_met fs) h)

in_second : (x : Met) (es fs : List Event) → In x (nodes_met fs) → In x (nodes_met (es ++ fs))
in_second x es fs h = subst⁻¹ (In x) (nodes_both es fs) (in_right x (nodes_met es) (nodes_met fs) h)

-- a whole reading takes every slot
whole-slots : (m : Model) → InRange m → count_in Whole m ≡ m.l
unfolding count_in last_in first_in
whole-slots m r = omega arith

whole-first : (m : Model) → first_in Whole m ≡ 0
unfolding first_in
whole-first m = refl

good_events : (m : Mem) (d r : ℕ) (n : Node) → node_at m r ≡ Ok n → events_at Whole m (suc d) r ≡ Enter r n ∷ in_slots (events_at Whole m d) m n n.model.l 0
unfolding events_at in_record
good_events m d r n e = rw (e, whole-slots n.model (good-node m r n e).range, whole-first n.model)

-- the record of an undamaged reading is a node's
undamaged_good : (m : Mem) (d r : ℕ) (x : Result Node Rule) → node_at m r ≡ x → Undamaged (events_at Whole m (suc d) r) → (c : Rule) → x ≡ Err c → ⊥
unfolding events_at in_record
undamaged_good m d r x e u c f = subst (λ (y : Result Node Rule). Undamaged (in_record Whole (events_at Whole m d) m r y)) (e ∙ f) u

undamaged_deep : (m : Mem) (r : ℕ) (x : Result Node Rule) → node_at m r ≡ x → Undamaged (events_at Whole m zero r) → ⊥
unfolding events_at too_long
undamaged_deep m r (Ok n) e u = subst (λ (y : Result Node Rule). Undamaged (too_long y)) e u
undamaged_deep m r (Err c) e u = subst (λ (y : Result Node Rule). Undamaged (too_long y)) e u

module _ (m : Mem) where
  -- nodes that were read, and all their children among them
  pub record Closed (xs : List Met) : Type 0 where
    pub reads : (x : Met) → In x xs → node_at m x.at ≡ Ok x.node
    pub children : (x : Met) → In x xs → (j c : ℕ) → j < x.node.model.l → slot_at m.slots x.node j ≡ Ok (Child c) → Has c xs

  closed_same : (xs ys : List Met) → ((x : Met) → In x xs → In x ys) → ((x : Met) → In x ys → In x xs) → Closed xs → Closed ys
  closed_same xs ys to back k = record {
    reads = λ x h. k.reads x (back x h);
    children = λ x h j c l e. has_in {q = c} to (k.children x (back x h) j c l e);
  }

  -- all below a node of theirs is theirs
  module _ (xs : List Met) (k : Closed xs) (deeper : ℕ → List Event) (below : (c : ℕ) → Has c xs → (y : Met) → In y (nodes_met (deeper c)) → In y xs) (x : Met) (h : In x xs) (y : Met) where
    slot_theirs : (j : ℕ) (s : Result Slot Rule) → j < x.node.model.l → slot_at m.slots x.node j ≡ s → In y (nodes_met (in_slot deeper (x.node.start + j) s)) → In y xs
    unfolding in_slot nodes_met
    slot_theirs j (Ok Null) l e i = absurd i
    slot_theirs j (Ok (Data v)) l e i = absurd i
    slot_theirs j (Ok (Child c)) l e i = below c (k.children x h j c l e) y i
    slot_theirs j (Err c) l e i = absurd i

    slots_theirs : (n j : ℕ) → j + n ≤ x.node.model.l → In y (nodes_met (in_slots deeper m x.node n j)) → In y xs
    unfolding in_slots nodes_met
    slots_theirs zero j l i = absurd i
    slots_theirs (suc n) j l i =
        let s = slot_at m.slots x.node j in
        ⊎_elim
        (λ a. slot_theirs j s (omega arith) refl a)
        (λ a. slots_theirs n (j + 1) (omega arith) a)
        (in_parts y (in_slot deeper (x.node.start + j) s) (in_slots deeper m x.node n (j + 1)) i)

  below_theirs : (xs : List Met) → Closed xs → (d c : ℕ) → Has c xs → (y : Met) → In y (nodes_met (events_at Whole m d c)) → In y xs
  unfolding events_at too_long nodes_met
  below_theirs xs k zero c h y i =
      let e : node_at m c ≡ Ok h.one.node = rw (← h.at) (k.reads h.one h.among) in
      absurd (subst (λ (z : Result Node Rule). In y (nodes_met (too_long z))) e i)
  below_theirs xs k (suc d) c h y i =
      let e : node_at m c ≡ Ok h.one.node = rw (← h.at) (k.reads h.one h.among) in
      let f : In y (met_at c h.one.node ∷ nodes_met (in_slots (events_at Whole m d) m h.one.node h.one.node.model.l 0)) = subst (λ (es : List Event). In y (nodes_met es)) (good_events m d c h.one.node e) i in
      ⊎_elim
      (λ a. subst⁻¹ (λ (z : Met). In z xs) (a ∙ ap (λ (q : ℕ). met_at q h.one.node) (sym h.at)) h.among)
      (λ a. slots_theirs xs k (events_at Whole m d) (below_theirs xs k d) h.one h.among y h.one.node.model.l 0 (omega arith) a)
      f

  -- What is left once the reading es was released, after the nodes xs: memory without its nodes too, and all their children are among them.
  pub record Released (xs : List Met) (es : List Event) (o : Mem) : Type 0 where
    pub is : o ≡ zeroed (nodes_met es) (zeroed xs m)
    pub closed : Closed (nodes_met es ++ xs)

  -- where its nodes are theirs already, nothing is to be released
  passed : (xs : List Met) → Closed xs → (es : List Event) → ((y : Met) → In y (nodes_met es) → In y xs) → Released xs es (zeroed xs m)
  passed xs k es h = record {
    is = sym (zeroed_in (nodes_met es) xs m h);
    closed = closed_same xs (nodes_met es ++ xs) (λ x i. in_right x (nodes_met es) xs i) (λ x i. ⊎_elim (λ a. h x a) (λ a. a) (in_either x (nodes_met es) xs i)) k;
  }

  nothing-met : (xs : List Met) → Closed xs → (es : List Event) → nodes_met es ≡ [] → Released xs es (zeroed xs m)
  nothing-met xs k es e = passed xs k es (λ y i. absurd (subst (In y) e i))

  -- what lies below the slots of a node, and its release
  module _ (deeper : ℕ → List Event) (below : Mem → ℕ → Mem)
      (theirs : (xs : List Met) → Closed xs → (c : ℕ) → Has c xs → (y : Met) → In y (nodes_met (deeper c)) → In y xs)
      (releases : (xs : List Met) → Closed xs → (c : ℕ) → Undamaged (deeper c) → Released xs (deeper c) (below (zeroed xs m) c)) where
    -- a slot that reads as it did
    same-slot : (xs : List Met) → Closed xs → (q : ℕ) (s : Result Slot Rule) → Undamaged (in_slot deeper q s) → Released xs (in_slot deeper q s) (release_slot below (zeroed xs m) s)
    unfolding in_slot release_slot nodes_met
    same-slot xs k q (Ok Null) u = nothing-met xs k [] refl
    same-slot xs k q (Ok (Data v)) u = nothing-met xs k (Element q v ∷ []) refl
    same-slot xs k q (Ok (Child c)) u = releases xs k c u
    same-slot xs k q (Err c) u = absurd u

    -- a slot that became NULL, in the run of a node of theirs
    null-slot : (xs : List Met) → Closed xs → (n : Node) (j : ℕ) → Emptied xs n j → (s : Result Slot Rule) → slot_at m.slots n j ≡ s → Undamaged (in_slot deeper (n.start + j) s)
        → Released xs (in_slot deeper (n.start + j) s) (zeroed xs m)
    unfolding in_slot nodes_met
    null-slot xs k n j h (Ok Null) e u = nothing-met xs k [] refl
    null-slot xs k n j h (Ok (Data v)) e u = nothing-met xs k (Element (n.start + j) v ∷ []) refl
    null-slot xs k n j h (Ok (Child c)) e u =
        let b = h.one.node in
        let i : ℕ = n.start + j - b.start in
        let f : n.start + j ≡ b.start + i = omega (arith, h.from) in
        passed xs k (deeper c) (theirs xs k c (k.children h.one h.among i c (omega (arith, h.from, h.to)) (child_elsewhere m.slots n b j i c f e)))
    null-slot xs k n j h (Err c) e u = absurd u

    slot_released : (xs : List Met) → Closed xs → (n : Node) (j : ℕ) → Undamaged (in_slot deeper (n.start + j) (slot_at m.slots n j))
        → Released xs (in_slot deeper (n.start + j) (slot_at m.slots n j)) (release_slot below (zeroed xs m) (slot_at (zeroed xs m).slots n j))
    unfolding release_slot
    slot_released xs k n j u =
        ⊎_elim
        (λ e. rw e (same-slot xs k (n.start + j) (slot_at m.slots n j) u))
        (λ e. rw e.0 (null-slot xs k n j e.1 (slot_at m.slots n j) refl u))
        (zeroed-slot xs m n j)

    slots_released : (n : Node) (count j : ℕ) (xs : List Met) → Closed xs → Undamaged (in_slots deeper m n count j)
        → Released xs (in_slots deeper m n count j) (release_slots below n count j (zeroed xs m))
    unfolding in_slots release_slots nodes_met
    slots_released n zero j xs k u = nothing-met xs k [] refl
    slots_released n (suc count) j xs k u =
        let es = in_slot deeper (n.start + j) (slot_at m.slots n j) in
        let fs = in_slots deeper m n count (j + 1) in
        let w = undamaged_parts es fs u in
        let a = slot_released xs k n j w.0 in
        let b = slots_released n count (j + 1) (nodes_met es ++ xs) a.closed w.1 in
        let p : zeroed (nodes_met es ++ xs) m ≡ zeroed (nodes_met es) (zeroed xs m) = zeroed_both (nodes_met es) xs m in
        record {
          is =
              ap (λ (o : Mem). release_slots below n count (j + 1) o) (a.is ∙ sym p)
              ∙ b.is
              ∙ ap (λ (o : Mem). zeroed (nodes_met fs) o) p
              ∙ zeroed-swap (nodes_met fs) (nodes_met es) (zeroed xs m)
              ∙ sym (zeroed_both (nodes_met es) (nodes_met fs) (zeroed xs m))
              ∙ ap (λ (l : List Met). zeroed l (zeroed xs m)) (sym (nodes_both es fs));
          closed =
              closed_same (nodes_met fs ++ (nodes_met es ++ xs)) (nodes_met (es ++ fs) ++ xs)
              (λ x i. ⊎_elim
              (λ c. in_left x (nodes_met (es ++ fs)) xs (in_second x es fs c))
              (λ c. ⊎_elim (λ d. in_left x (nodes_met (es ++ fs)) xs (in_first x es fs d)) (λ d. in_right x (nodes_met (es ++ fs)) xs d) (in_either x (nodes_met es) xs c))
              (in_either x (nodes_met fs) (nodes_met es ++ xs) i))
              (λ x i. ⊎_elim
              (λ c. ⊎_elim
              (λ d. in_right x (nodes_met fs) (nodes_met es ++ xs) (in_left x (nodes_met es) xs d))
              (λ d. in_left x (nodes_met fs) (nodes_met es ++ xs) d)
              (in_parts x es fs c))
              (λ c. in_right x (nodes_met fs) (nodes_met es ++ xs) (in_right x (nodes_met es) xs c))
              (in_either x (nodes_met (es ++ fs)) xs i))
              b.closed;
        }

    -- a child of the node is met
    module _ (first : (c : ℕ) → Undamaged (deeper c) → Has c (nodes_met (deeper c))) where
      slot_meets : (q c : ℕ) (s : Result Slot Rule) → s ≡ Ok (Child c) → Undamaged (in_slot deeper q s) → Has c (nodes_met (in_slot deeper q s))
      unfolding in_slot
      slot_meets q c s e u = rw e (first c (subst (λ (t : Result Slot Rule). Undamaged (in_slot deeper q t)) e u))

      slots-meet : (n : Node) (count j i c : ℕ) → j ≤ i → i < j + count → slot_at m.slots n i ≡ Ok (Child c) → Undamaged (in_slots deeper m n count j) → Has c (nodes_met (in_slots deeper m n count j))
      unfolding in_slots
      slots-meet n zero j i c a b e u = absurd (omega arith)
      slots-meet n (suc count) j i c a b e u =
          let es = in_slot deeper (n.start + j) (slot_at m.slots n j) in
          let fs = in_slots deeper m n count (j + 1) in
          let w = undamaged_parts es fs u in
          ⊎_elim
          (λ h. has_in {q = c} (λ x k. in_second x es fs k) (slots-meet n count (j + 1) i c h (omega arith) e w.1))
          (λ h.
          let d : j ≡ i = omega arith in
          has_in {q = c} (λ x k. in_first x es fs k) (slot_meets (n.start + j) c (slot_at m.slots n j) (rw d e) w.0))
          (le_or_lt (j + 1) i)

  -- an undamaged reading meets the node that it starts from
  met-first : (d r : ℕ) (x : Result Node Rule) → node_at m r ≡ x → Undamaged (events_at Whole m d r) → Has r (nodes_met (events_at Whole m d r))
  unfolding nodes_met
  met-first zero r x e u = absurd (undamaged_deep m r x e u)
  met-first (suc d) r (Ok n) e u = rw (good_events m d r n e) (record { one = met_at r n; among = inl refl; at = refl })
  met-first (suc d) r (Err c) e u = absurd (undamaged_good m d r (Err c) e u c refl)

  -- a node not released before: its slots, then the node itself
  module _ (d fuel : ℕ) (releases : (xs : List Met) → Closed xs → (c : ℕ) → Undamaged (events_at Whole m d c) → Released xs (events_at Whole m d c) (release fuel (zeroed xs m) c))
      (r : ℕ) (n : Node) (e : node_at m r ≡ Ok n) (xs : List Met) (k : Closed xs) where
    abbrev under : List Event
    under = in_slots (events_at Whole m d) m n n.model.l 0

    node_released : Undamaged under → ((x : Met) → In x xs → r ≡ x.at → ⊥) → Released xs (Enter r n ∷ under) (release (suc fuel) (zeroed xs m) r)
    unfolding nodes_met zeroed
    node_released u fresh =
        let a = slots_released (events_at Whole m d) (release fuel) (λ ys z. below_theirs ys z d) releases n n.model.l 0 xs k u in
        record {
          is = release-good fuel (zeroed xs m) r n (record_kept xs m r fresh ∙ e) ∙ ap (λ (o : Mem). drop_node o r n) a.is;
          closed = record {
            reads = λ x h. ⊎_elim (λ i. rw i e) (λ i. a.closed.reads x i) h;
            children = λ x h j c l f.
                ⊎_elim
                (λ i. has_in {q = c} (λ y g. inr (in_left y (nodes_met under) xs g))
                (slots-meet (events_at Whole m d) (release fuel) (λ ys z. below_theirs ys z d) releases (λ b w. met-first d b (node_at m b) refl w) n n.model.l 0 j c (omega arith) (let q : j < n.model.l = rw i at l in omega arith) (rw i at f) u))
                (λ i. has_in {q = c} (λ y g. inr g) (a.closed.children x i j c l f))
                h;
          };
        }

    record_released : Undamaged (events_at Whole m (suc d) r) → Released xs (events_at Whole m (suc d) r) (release (suc fuel) (zeroed xs m) r)
    record_released u =
        let f = good_events m d r n e in
        ⊎_elim
        (λ h.
        let g : node_at (zeroed xs m) r ≡ Err UnusedRecord = rw (← h.at) (record_gone h.one xs m h.among (rw h.at (good-node m r n e).inside)) in
        rw (release-broken fuel (zeroed xs m) r UnusedRecord g) (passed xs k (events_at Whole m (suc d) r) (below_theirs xs k (suc d) r h)))
        (λ fresh. rw f (node_released (subst Undamaged f u) fresh))
        (has_or_not r xs)

  releases_at : (d fuel : ℕ) → d ≤ fuel → (xs : List Met) → Closed xs → (r : ℕ) → Undamaged (events_at Whole m d r) → Released xs (events_at Whole m d r) (release fuel (zeroed xs m) r)
  releases_at zero fuel le xs k r u = absurd (undamaged_deep m r (node_at m r) refl u)
  releases_at (suc d) zero le xs k r u = absurd (omega arith)
  releases_at (suc d) (suc fuel) le xs k r u = by_record (releases_at d fuel (omega arith)) (node_at m r) refl
    where
      by_record : ((ys : List Met) → Closed ys → (c : ℕ) → Undamaged (events_at Whole m d c) → Released ys (events_at Whole m d c) (release fuel (zeroed ys m) c))
          → (x : Result Node Rule) → node_at m r ≡ x → Released xs (events_at Whole m (suc d) r) (release (suc fuel) (zeroed xs m) r)
      by_record releases (Ok n) e = record_released d fuel releases r n e xs k u
      by_record releases (Err c) e = absurd (undamaged_good m d r (Err c) e u c refl)

-- A release of the subtree at record top, whose path has `above` nodes before it, zeroes the nodes that its reading met.
pub release_zeroes : (above top : ℕ) (m : Mem) → Undamaged (events_of Whole m above top) → release longest_path m top ≡ zeroed (nodes_below above top m) m
unfolding nodes_below events_of zeroed
release_zeroes above top m u =
    (releases_at m (longest_path - above) longest_path (omega arith) [] (record { reads = λ x h. absurd h; children = λ x h j c l e. absurd h }) top u).is

-- A release of one level zeroes the node of its record, whatever stands below it.
no_level : (m : Mem) (s : Result Slot Rule) → release_slot (release 0) m s ≡ m
unfolding release_slot release
no_level m (Ok Null) = refl
no_level m (Ok (Data k)) = refl
no_level m (Ok (Child c)) = refl
no_level m (Err c) = refl

one_level : (n : Node) (count j : ℕ) (m : Mem) → release_slots (release 0) n count j m ≡ m
unfolding release_slots
one_level n zero j m = refl
one_level n (suc count) j m = ap (λ (o : Mem). release_slots (release 0) n count (j + 1) o) (no_level m (slot_at m.slots n j)) ∙ one_level n count (j + 1) m

pub release_alone : (r : ℕ) (m : Mem) → release 1 m r ≡ zeroed (node_alone r (node_at m r)) m
unfolding release release_record node_alone zeroed
release_alone r m = of_record (node_at m r)
  where
    of_record : (x : Result Node Rule) → release_record (release 0) m r x ≡ zeroed (node_alone r x) m
    of_record (Ok n) = ap (λ (o : Mem). drop_node o r n) (one_level n n.model.l 0 m)
    of_record (Err c) = refl
