-- One step of a reading: what is left where a cursor stands, slot by slot, down to a child and up again, and for each way out of the
-- code the step that it makes of what was left. Assumes nothing.
use Rattle.std.specs.Prelude.{Err, Ok, Result}
use mathlib.Core.List.{List, [], ◌∷◌, ◌++◌, append-nil, append_assoc}
use mathlib.Core.Path.{◌≡◌, refl, sym, ap, ◌∙◌}
use Prim.Native.Nat.{ℕ, zero, suc, ◌+◌, ◌-◌, ◌<◌, ◌≤◌}
use native.Mathlib.Numerals.{add-one}
use native.Mathlib.Omega.{arith}
use lib.ListN.{length, get_or, set}
use lib.Seq.{get_or-set_same, get_or-set_other}
use Rattle.model.proofs.Slots.{slot_under}
use Rattle.model.specs.Slots.{slot_of, InRange}
use Rattle.model.specs.declared.Model.{Model}
use Rattle.pool.proofs.Nodes.{good-node}
use Rattle.pool.proofs.Slots.{null-reads, null_word, data-word}
use Rattle.pool.specs.Memory.{Mem, kind_word, kind_unit, slots_in}
use Rattle.pool.specs.Reading.{slot_at, node_at}
use Rattle.pool.specs.declared.Node.{Node}
use Rattle.pool.specs.declared.Slot.{Slot}
use Rattle.pool.specs.declared.Slot.TheVariants.{Null, Data, Child}
use Rattle.walk.specs.Cursors.{frame_rest, above as above_of, remains, told}
use Rattle.walk.specs.Events.{first_in, last_in, count_in, in_slot, in_slots, in_record, too_long, events_at, events_of}
use Rattle.walk.specs.Moves.{below, Standing, Moves, Skipped}
use Rattle.walk.specs.Walks.{longest_path}
use Rattle.walk.specs.declared.Cursor.{Cursor}
use Rattle.walk.specs.declared.Event.{Event}
use Rattle.walk.specs.declared.Event.TheVariants.{Enter, Element, Damage, End}
use Rattle.walk.specs.declared.Moved.{Moved}
use Rattle.walk.specs.declared.Span.{Span}
use Rattle.walk.specs.declared.Span.TheVariants.{Between, Whole}
use Rattle.pool.specs.declared.Rule.{Rule}
use Rattle.pool.specs.declared.Rule.TheVariants.{PathTooLong}

-- the first and the last slot that a span takes
pub first_between : (u v : ℕ) (m : Model) (s : Span) → Between u v ≡ s → slot_of m u ≡ first_in s m
unfolding first_in
first_between u v m s e = rw (← e)

pub first-whole : (m : Model) (s : Span) → Whole ≡ s → 0 ≡ first_in s m
unfolding first_in
first-whole m s e = rw (← e)

pub last_between : (u v : ℕ) (m : Model) (s : Span) → Between u v ≡ s → slot_of m v + 1 ≡ last_in s m + 1
unfolding last_in
last_between u v m s e = rw (← e)

pub last_whole : (m : Model) (s : Span) → InRange m → Whole ≡ s → m.l ≡ last_in s m + 1
unfolding last_in
last_whole m s r e = rw (← e) (omega arith)

pub last_within : (m : Model) (s : Span) → InRange m → last_in s m < m.l
unfolding last_in
last_within m (Between u v) r = slot_under m r v
last_within m Whole r = omega arith

-- slots of one node, from `at` to `end`
module _ (deeper : ℕ → List Event) (m : Mem) (n : Node) (at end : ℕ) where
  pub first_slot : at < end → in_slots deeper m n (end - at) at ≡ in_slot deeper (n.start + at) (slot_at m.slots n at) ++ in_slots deeper m n (end - (at + 1)) (at + 1)
  unfolding in_slots
  first_slot h = let e : end - at ≡ suc (end - (at + 1)) = omega arith in rw e

  pub no_slots : end ≤ at → in_slots deeper m n (end - at) at ≡ []
  unfolding in_slots
  no_slots h = let e : end - at ≡ 0 = omega arith in rw e

  pub null_adds_nothing : at < end → get_or m.slots (kind_word (n.start + at)) 0 < kind_unit → in_slots deeper m n (end - at) at ≡ in_slots deeper m n (end - (at + 1)) (at + 1)
  unfolding in_slot
  null_adds_nothing h w = first_slot h ∙ rw (null-reads m.slots n at (omega arith))

-- a slot whose kind is not NULL is none
pub not_null : (ss : List ℕ) (n : Node) (at : ℕ) → kind_unit ≤ get_or ss (kind_word (n.start + at)) 0 → slot_at ss n at ≡ Ok Null → ⊥
not_null ss n at h e = omega (arith, null_word ss n at e)

-- skipping NULL slots, from `at` on, as the loop goes: `same` holds up to j
module _ (ss : List ℕ) (start at end j : ℕ) where
  abbrev pub SameTo : Type 0
  SameTo = (deeper : ℕ → List Event) (m : Mem) (n : Node) → m.slots ≡ ss → n.start ≡ start → in_slots deeper m n (end - at) at ≡ in_slots deeper m n (end - j) j

  pub skip_one : SameTo → j < end → get_or ss (kind_word (start + j)) 0 < kind_unit → (deeper : ℕ → List Event) (m : Mem) (n : Node) → m.slots ≡ ss → n.start ≡ start → in_slots deeper m n (end - at) at ≡ in_slots deeper m n (end - (j + 1)) (j + 1)
  skip_one same h w deeper m n p q = same deeper m n p q ∙ null_adds_nothing deeper m n j end h (rw (p, q) w)

abbrev moved : Event → Cursor → Moved
moved e c = record { event = e; cursor = c }

abbrev stand : ℕ → Node → ℕ → ℕ → ℕ → Cursor
stand r n at end depth = record { «record» = r; node = n; at = at; end = end; depth = depth }

-- the cursor past its slot
abbrev past : Cursor → Cursor
past c = stand c.record c.node (c.at + 1) c.end c.depth

-- a step of what is left here is a step of what was left before
pub moves_from : {s : Span} {m : Mem} {over : ℕ} {es es' : List Event} {to : Moved} {rs js : List ℕ} → es ≡ es' → Moves s m over es to rs js → Moves s m over es' to rs js
moves_from e h = record { tells = h.tells ∙ e; stands = h.stands }

-- a store at a place leaves what lies above the nodes before it
module _ (s : Span) (m : Mem) (rs js : List ℕ) (i r j : ℕ) where
  pub above_kept : (n d : ℕ) → n ≤ i → above_of s m (set rs i r) (set js i j) n d ≡ above_of s m rs js n d
  unfolding above_of
  above_kept zero d h = refl
  above_kept (suc n) d h =
      rw (get_or-set_other rs i n r 0 (λ e. omega arith), get_or-set_other js i n j 0 (λ e. omega arith), above_kept n (d + 1) (omega arith))

  -- the nearest node above, its record and next slot just stored
  pub above_stored : (d : ℕ) → i < length rs → i < length js → above_of s m (set rs i r) (set js i j) (i + 1) d ≡ frame_rest s m d (node_at m r) j ++ above_of s m rs js i (d + 1)
  unfolding above_of
  above_stored d hr hj = rw (add-one i, get_or-set_same rs i r 0 hr, get_or-set_same js i j 0 hj, above_kept i (d + 1) (omega arith))

-- what a record met gives
module _ (s : Span) (m : Mem) (r : ℕ) where
  broken_events : (d : ℕ) (b : Rule) → node_at m r ≡ Err b → events_at s m d r ≡ Damage b ∷ []
  unfolding events_at in_record too_long
  broken_events zero b e = rw e
  broken_events (suc d) b e = rw e

  good_events : (d d' : ℕ) (n : Node) → d ≡ suc d' → node_at m r ≡ Ok n
      → events_at s m d r ≡ Enter r n ∷ in_slots (events_at s m d') m n (last_in s n.model + 1 - first_in s n.model) (first_in s n.model)
  unfolding events_at in_record count_in
  good_events d d' n f e = rw (f, e)

  deep_events : (d : ℕ) (n : Node) → d ≡ 0 → node_at m r ≡ Ok n → events_at s m d r ≡ Damage PathTooLong ∷ []
  unfolding events_at too_long
  deep_events d n f e = rw (f, e)

-- a cursor's slots are slots of the pool
module _ (s : Span) (m : Mem) (over : ℕ) (c : Cursor) (st : Standing s m over c) where
  pub slots-inside : c.node.start + c.end ≤ slots_in m.slots
  slots-inside =
      let g = good-node m c.record c.node st.reads in
      omega (arith, g.fits, st.ends, last_within c.node.model s g.range)

  pub slot-inside : c.at < c.end → c.node.start + c.at < slots_in m.slots
  slot-inside h = omega (arith, slots-inside)

-- where a cursor stands
module _ (s : Span) (m : Mem) (over : ℕ) (c : Cursor) (rs js : List ℕ) where
  -- NULL slots passed
  pub skipped : (at : ℕ) → Skipped m.slots c.node.start c.at c.end at
      → remains s m (below over (stand c.record c.node at c.end c.depth)) (stand c.record c.node at c.end c.depth) rs js ≡ remains s m (below over c) c rs js
  unfolding remains
  skipped at k = rw (k.same (events_at s m (below over c)) m c.node refl refl)

  -- its slot in front
  at_slot : c.at < c.end → (x : Result Slot Rule) → slot_at m.slots c.node c.at ≡ x
      → in_slot (events_at s m (below over c)) (c.node.start + c.at) x ++ remains s m (below over c) (past c) rs js ≡ remains s m (below over c) c rs js
  unfolding remains
  at_slot h x e =
      rw (first_slot (events_at s m (below over c)) m c.node c.at c.end h, e, append_assoc)

  past-stands : Standing s m over c → Standing s m over (past c)
  past-stands st = record { reads = st.reads; ends = st.ends; deep = st.deep }

  module _ (st : Standing s m over c) (h : c.at < c.end) where
    pub meets_element : (k : ℕ) → slot_at m.slots c.node c.at ≡ Ok (Data k)
        → Moves s m over (remains s m (below over c) c rs js) (moved (Element (c.node.start + c.at) k) (past c)) rs js
    unfolding told in_slot
    meets_element k e =
        record {
          tells = at_slot h (Ok (Data k)) e;
          stands = (past-stands st, record { slot = slot-inside s m over c st h; key = (data-word m.slots c.node c.at k e).small });
        }

    pub meets_broken-slot : (b : Rule) → slot_at m.slots c.node c.at ≡ Err b
        → Moves s m over (remains s m (below over c) c rs js) (moved (Damage b) (past c)) rs js
    unfolding told in_slot
    meets_broken-slot b e = record { tells = at_slot h (Err b) e; stands = tt }

    -- a NODE slot: the child's record first, then the path's length
    module _ (r : ℕ) (e : slot_at m.slots c.node c.at ≡ Ok (Child r)) where
      at_child : (es : List Event) → events_at s m (below over c) r ≡ es → es ++ remains s m (below over c) (past c) rs js ≡ remains s m (below over c) c rs js
      unfolding in_slot
      at_child es f = rw (← f) (at_slot h (Ok (Child r)) e)

      pub meets_broken-child : (b : Rule) → node_at m r ≡ Err b → Moves s m over (remains s m (below over c) c rs js) (moved (Damage b) (past c)) rs js
      unfolding told
      meets_broken-child b f = record { tells = at_child (Damage b ∷ []) (broken_events s m r (below over c) b f); stands = tt }

      pub meets_deep-child : (n : Node) → node_at m r ≡ Ok n → longest_path ≤ over + c.depth + 1
          → Moves s m over (remains s m (below over c) c rs js) (moved (Damage PathTooLong) (past c)) rs js
      unfolding told
      meets_deep-child n f le =
          record { tells = at_child (Damage PathTooLong ∷ []) (deep_events s m r (below over c) n (omega arith) f); stands = tt }

      -- down to the child: the node above it is where the cursor stood, past the slot
      module _ (n : Node) (f : node_at m r ≡ Ok n) (lt : over + c.depth + 1 < longest_path) (rl : c.depth < length rs) (jl : c.depth < length js) where
        one_deeper : below over c ≡ longest_path - (over + (c.depth + 1) + 1) + 1
        one_deeper = omega arith

        left-above : remains s m (below over c) (past c) rs js ≡ above_of s m (set rs c.depth c.record) (set js c.depth (c.at + 1)) (c.depth + 1) (below over c)
        unfolding remains frame_rest
        left-above = rw (above_stored s m rs js c.depth c.record (c.at + 1) (below over c) rl jl, st.reads, st.ends)

        pub meets_child : (at end : ℕ) → at ≡ first_in s n.model → end ≡ last_in s n.model + 1
            → Moves s m over (remains s m (below over c) c rs js) (moved (Enter r n) (stand r n at end (c.depth + 1))) (set rs c.depth c.record) (set js c.depth (c.at + 1))
        unfolding told remains
        meets_child at end p q =
            record {
              tells =
                  rw (← one_deeper, ← left-above, p, q)
                  (at_child _ (good_events s m r (below over c) (longest_path - (over + (c.depth + 1) + 1)) n (one_deeper ∙ add-one _) f));
              stands = (record { reads = f; ends = q; deep = omega arith }, refl);
            }

  -- no slot is left
  module _ (over-end : c.end ≤ c.at) where
    pub meets_end : c.depth < 1 → (to : Cursor) → Moves s m over (remains s m (below over c) c rs js) (moved End to) rs js
    unfolding told remains above_of
    meets_end h to =
        let z : c.depth ≡ 0 = omega arith in
        record { tells = rw (no_slots (events_at s m (below over c)) m c.node c.at c.end over-end, z); stands = tt }

    -- up to the nearest node above
    module _ (deep : over + c.depth + 1 ≤ longest_path) (has : 1 ≤ c.depth) (r : ℕ) (er : r ≡ get_or rs (c.depth - 1) 0) where
      one_higher : longest_path - (over + (c.depth - 1) + 1) ≡ below over c + 1
      one_higher = omega arith

      up : (x : Result Node Rule) → node_at m r ≡ x → remains s m (below over c) c rs js
          ≡ frame_rest s m (below over c + 1) x (get_or js (c.depth - 1) 0) ++ above_of s m rs js (c.depth - 1) (below over c + 1 + 1)
      unfolding remains above_of
      up x e =
          let z : c.depth ≡ suc (c.depth - 1) = omega arith in
          rw (no_slots (events_at s m (below over c)) m c.node c.at c.end over-end)
          (ap (λ (k : ℕ). above_of s m rs js k (below over c + 1)) z ∙ rw (← er, e))

      pub goes_up : (n : Node) (end : ℕ) → node_at m r ≡ Ok n → end ≡ last_in s n.model + 1
          → remains s m (below over (stand r n (get_or js (c.depth - 1) 0) end (c.depth - 1))) (stand r n (get_or js (c.depth - 1) 0) end (c.depth - 1)) rs js ≡ remains s m (below over c) c rs js
      unfolding remains frame_rest
      goes_up n end e q = rw (one_higher, q) (sym (up (Ok n) e))

      pub meets_broken-above : (b : Rule) (n : Node) → node_at m r ≡ Err b
          → Moves s m over (remains s m (below over c) c rs js) (moved (Damage b) (stand r n 0 0 (c.depth - 1))) rs js
      unfolding told remains frame_rest in_slots
      meets_broken-above b n e = record { tells = rw one_higher (sym (up (Err b) e)); stands = tt }

-- the first event of a reading
module _ (s : Span) (m : Mem) (over r : ℕ) (rs js : List ℕ) (lt : over < longest_path) where
  pub starts_good : (n : Node) (at end : ℕ) → node_at m r ≡ Ok n → at ≡ first_in s n.model → end ≡ last_in s n.model + 1
      → Moves s m over (events_of s m over r) (moved (Enter r n) (stand r n at end 0)) rs js
  unfolding told events_of remains above_of
  starts_good n at end e p q =
      let z : longest_path - over ≡ suc (longest_path - (over + 0 + 1)) = omega arith in
      record {
        tells = rw (append-nil _, p, q) (sym (good_events s m r (longest_path - over) (longest_path - (over + 0 + 1)) n z e));
        stands = (record { reads = e; ends = q; deep = omega arith }, refl);
      }

  pub starts_broken : (b : Rule) (n : Node) → node_at m r ≡ Err b → Moves s m over (events_of s m over r) (moved (Damage b) (stand r n 0 0 0)) rs js
  unfolding told events_of remains above_of in_slots
  starts_broken b n e = record { tells = sym (broken_events s m r (longest_path - over) b e); stands = tt }
