-- Counting a build's needs, turn by turn: a node's slots one by one come to the runs of keys that share a slot one by one, and at
-- each run what is left to count is the whole count. Assumes nothing.
use mathlib.Core.List.{List, [], ◌∷◌, ◌++◌, append-nil}
use mathlib.Core.Logic.{⊎_elim}
use mathlib.Core.Path.{◌≡◌, refl, sym, ap, ◌∙◌}
use Prim.Native.Nat.{ℕ, zero, suc, ◌+◌, ◌-◌, ◌*◌, ◌<◌, ◌≤◌, max}
use native.Mathlib.Nat.{zero-max}
use native.Mathlib.Numerals.{add-one}
use native.Mathlib.Omega.{arith}
use borrow.Author.Tests.{eqb-true, eqb-false, eq-eqb, ne_eqb}
use lib.Dec.{eqb}
use lib.ListN.{length, get_or, take, drop, set, length-append, length-drop, take-append-drop, drop_of_length-le}
use lib.Seq.{sets, length-sets, get_or-drop, drop-drop}
use Rattle.laws.proofs.Sets.{sets_append}
use Rattle.laws.proofs.Parts.{length_part, get_or-part}
use Rattle.laws.proofs.Risings.{rising_part}
use Rattle.laws.proofs.Tests.{both, le_or_lt}
use Rattle.laws.specs.Keys.{Rising}
use Rattle.model.proofs.Groups.{group_counted, slots_rise}
use Rattle.model.proofs.Heights.{height-within}
use Rattle.model.proofs.Least.{chosen-in_range}
use Rattle.model.proofs.Parting.{group_fewer}
use Rattle.model.proofs.Slots.{slot_under}
use Rattle.model.specs.Choice.{most_keys, model_of, choice_of}
use Rattle.model.specs.Groups.{keys_to}
use Rattle.model.specs.Slots.{most_slots, value_of, slot_of, InRange}
use Rattle.model.specs.declared.Choice.{Choice}
use Rattle.model.specs.declared.Model.{Model}
use Rattle.build.specs.Counting.{needs_of, Counts}
use Rattle.build.specs.Runs.{RunEnd}
use Rattle.build.specs.Sizes.{of_group, sizes_under, sizes_of, depth_under, depth_of, total}
use Rattle.build.specs.declared.sizes.Needs.{Needs}
use Rattle.build.proofs.Heights.{depth-height}
use Rattle.build.proofs.NodeSizes.{of_several, of_few, sizes-fewer, sizes-within, sizes-total, total-append}

-- the keys of a slot, of a list put together of two, of one that all go there, and of one none of which goes there
module _ (m : Model) (q : ℕ) where
  keys-append : (xs ys : List ℕ) → keys_to m q (xs ++ ys) ≡ keys_to m q xs ++ keys_to m q ys
  unfolding keys_to
  keys-append [] ys = refl
  keys-append (x ∷ xs) ys = both (eqb (slot_of m (value_of x)) q) (λ e. rw (e, keys-append xs ys)) (λ e. rw (e, keys-append xs ys))

  keys-all : (xs : List ℕ) → ((i : ℕ) → i < length xs → slot_of m (value_of (get_or xs i 0)) ≡ q) → keys_to m q xs ≡ xs
  unfolding keys_to
  keys-all [] h = refl
  keys-all (x ∷ xs) h = rw (eq-eqb (slot_of m (value_of x)) q (h 0 (omega arith)), keys-all xs (λ i lt. h (suc i) (omega arith)))

  keys_none : (xs : List ℕ) → ((i : ℕ) → i < length xs → slot_of m (value_of (get_or xs i 0)) ≡ q → ⊥) → keys_to m q xs ≡ []
  unfolding keys_to
  keys_none [] h = refl
  keys_none (x ∷ xs) h = rw (ne_eqb (slot_of m (value_of x)) q (h 0 (omega arith))) (keys_none xs (λ i lt. h (suc i) (omega arith)))

-- what the groups of n slots from s on give, joined
abbrev over : {A : Type 0} → (A → A → A) → A → (List ℕ → A) → Model → ℕ → ℕ → List ℕ → A
over join none G m zero s ks = none
over join none G m (suc n) s ks = join (G (keys_to m s ks)) (over join none G m n (s + 1) ks)

sizes_over : (S : List ℕ → List ℕ) (m : Model) (n s : ℕ) (ks : List ℕ) → sizes_under S m n s ks ≡ over ◌++◌ [] (of_group [] S) m n s ks
unfolding sizes_under
sizes_over S m zero s ks = refl
sizes_over S m (suc n) s ks = rw (sizes_over S m n (s + 1) ks)

depth_over : (D : List ℕ → ℕ) (m : Model) (n s : ℕ) (ks : List ℕ) → depth_under D m n s ks ≡ over max 0 (of_group 0 D) m n s ks
unfolding depth_under
depth_over D m zero s ks = refl
depth_over D m (suc n) s ks = rw (depth_over D m n (s + 1) ks)

-- The keys of slot t, and then those of later slots: what the slots give is what the first keys give, joined to what the others give.
module _ {A : Type 0} (join : A → A → A) (none : A) (unit : (x : A) → join none x ≡ x) (G : List ℕ → A) (empty : G [] ≡ none)
    (m : Model) (xs ys : List ℕ) (t : ℕ)
    (here : (i : ℕ) → i < length xs → slot_of m (value_of (get_or xs i 0)) ≡ t)
    (later : (i : ℕ) → i < length ys → t < slot_of m (value_of (get_or ys i 0))) where
  over_past : (n q : ℕ) → t < q → over join none G m n q (xs ++ ys) ≡ over join none G m n q ys
  over_past zero q h = refl
  over_past (suc n) q h =
      rw (keys-append m q xs ys, keys_none m q xs (λ i lt e. omega (arith, here i lt)), over_past n (q + 1) (omega arith))

  over_first : (n q : ℕ) → q ≤ t → t < q + n → over join none G m n q (xs ++ ys) ≡ join (G xs) (over join none G m n q ys)
  over_first zero q h lt = absurd (omega arith)
  over_first (suc n) q h lt =
      let z : keys_to m q ys ≡ [] = keys_none m q ys (λ i b e. omega (arith, later i b)) in
      both (eqb q t)
      (λ e.
      let d : q ≡ t = eqb-true q t e in
      let g : keys_to m q xs ≡ xs = keys-all m q xs (λ i b. here i b ∙ sym d) in
      rw (keys-append m q xs ys, g, z, append-nil, empty, unit, over_past n (q + 1) (omega arith)))
      (λ e.
      let d : q ≡ t → ⊥ = eqb-false q t e in
      let g : keys_to m q xs ≡ [] = keys_none m q xs (λ i b e. omega (arith, here i b)) in
      simp (keys-append m q xs ys, g, z, empty, unit) (over_first n (q + 1) (omega (arith, d)) (omega arith)))

-- the search for a run's end: the keys from a up to b share a slot
abbrev pub Shared : Model → List ℕ → ℕ → ℕ → Type 0
Shared m ks a b = (i : ℕ) → a ≤ i → i < b → slot_of m (value_of (get_or ks i 0)) ≡ slot_of m (value_of (get_or ks a 0))

-- One run: the keys from a up to b, which share a slot, and those from b on, which go to later ones.
module _ {m : Model} {ks : List ℕ} {a b : ℕ} (range : InRange m) (r : Rising ks) (run : RunEnd m ks a b) where
  run_and_rest : drop a ks ≡ take (b - a) (drop a ks) ++ drop b ks
  run_and_rest =
      let e : a + (b - a) ≡ b = omega arith in
      sym (take-append-drop (b - a) (drop a ks)) ∙ ap (λ (l : List ℕ). take (b - a) (drop a ks) ++ l) (rw (drop-drop (b - a) a ks, e))

  run_here : (i : ℕ) → i < length (take (b - a) (drop a ks)) → slot_of m (value_of (get_or (take (b - a) (drop a ks)) i 0)) ≡ slot_of m (value_of (get_or ks a 0))
  run_here i lt =
      let n : length (take (b - a) (drop a ks)) ≡ b - a = length_part ks a b run.within in
      rw (get_or-part ks a b i (omega arith)) (run.shared (a + i) (omega arith) (omega arith))

  run_later : (i : ℕ) → i < length (drop b ks) → slot_of m (value_of (get_or ks a 0)) < slot_of m (value_of (get_or (drop b ks) i 0))
  run_later i lt =
      let n : length (drop b ks) ≡ length ks - b = length-drop b ks in
      let ne : slot_of m (value_of (get_or ks b 0)) ≡ slot_of m (value_of (get_or ks a 0)) → ⊥ = run.parts (omega arith) in
      let up : slot_of m (value_of (get_or ks a 0)) ≤ slot_of m (value_of (get_or ks b 0)) = slots_rise m range ks r a b (omega arith) (omega arith) in
      rw (get_or-drop b ks i 0) (omega (arith, ne, slots_rise m range ks r b (b + i) (omega arith) (omega arith)))

  over_turn : {A : Type 0} (join : A → A → A) (none : A) → ((x : A) → join none x ≡ x) → (G : List ℕ → A) → G [] ≡ none
      → over join none G m m.l 0 (drop a ks) ≡ join (G (take (b - a) (drop a ks))) (over join none G m m.l 0 (drop b ks))
  over_turn join none unit G empty =
      ap (over join none G m m.l 0) run_and_rest
      ∙ over_first join none unit G empty m (take (b - a) (drop a ks)) (drop b ks) _ run_here run_later m.l 0 (omega arith)
      (omega (arith, slot_under m range (value_of (get_or ks a 0))))

  sizes_turn : (S : List ℕ → List ℕ)
      → sizes_under S m m.l 0 (drop a ks) ≡ of_group [] S (take (b - a) (drop a ks)) ++ sizes_under S m m.l 0 (drop b ks)
  sizes_turn S =
      rw (sizes_over S m m.l 0 (drop a ks), sizes_over S m m.l 0 (drop b ks)) (over_turn ◌++◌ [] (λ x. refl) (of_group [] S) refl)

  depth_turn : (D : List ℕ → ℕ)
      → depth_under D m m.l 0 (drop a ks) ≡ max (of_group 0 D (take (b - a) (drop a ks))) (depth_under D m m.l 0 (drop b ks))
  depth_turn D =
      rw (depth_over D m m.l 0 (drop a ks), depth_over D m m.l 0 (drop b ks)) (over_turn max 0 zero-max (of_group 0 D) refl)

-- no run takes all of several keys
run-fewer-chosen : (ks : List ℕ) → Rising ks → (a b : ℕ) → RunEnd (model_of ks) ks a b → 2 ≤ length ks → b - a < length ks
run-fewer-chosen ks r a b run two =
    ⊎_elim
    (λ all.
    let z : a ≡ 0 = omega arith in
    let s = slot_of (model_of ks) (value_of (get_or ks a 0)) in
    let g : keys_to (model_of ks) s ks ≡ ks = keys-all (model_of ks) s ks (λ i lt. run.shared i (omega arith) (omega arith)) in
    absurd (omega (arith, ap length g, group_counted (model_of ks) s ks, group_fewer ks r two s)))
    (λ fewer. fewer)
    (le_or_lt (length ks) (b - a))

pub run-fewer : {m : Model} {ks : List ℕ} {a b : ℕ} → m ≡ model_of ks → Rising ks → RunEnd m ks a b → 2 ≤ b - a → b - a < length ks
run-fewer {m} {ks} {a} {b} e r run two = run-fewer-chosen ks r a b (rw e at run) (omega arith)

-- of the children, of at most d levels, of a node over ks: their sizes, and the highest
abbrev child_sizes : ℕ → Model → List ℕ → List ℕ
child_sizes d m ks = sizes_under (sizes_of d) m m.l 0 ks

abbrev child_depth : ℕ → Model → List ℕ → ℕ
child_depth d m ks = depth_under (depth_of d) m m.l 0 ks

-- The loop over the runs of a node's keys, at key a: so many nodes and slots are counted, the node's own among them, so deep are the
-- children met, and what is left is the whole. `first` is the list with the node's own L.
pub record Left (d : ℕ) (m : Model) (ks : List ℕ) (at : ℕ) (first list : List ℕ) (nodes slots below a : ℕ) : Type 0 where
  pub within : a ≤ length ks
  pub few : nodes ≤ max 1 a
  pub same : length list ≡ length first
  pub nodes-left : nodes + length (child_sizes d m (drop a ks)) ≡ 1 + length (child_sizes d m ks)
  pub slots-left : slots + total (child_sizes d m (drop a ks)) ≡ m.l + total (child_sizes d m ks)
  pub depth-left : max below (child_depth d m (drop a ks)) ≡ child_depth d m ks
  pub list_left : sets list (at + nodes) (child_sizes d m (drop a ks)) ≡ sets first (at + 1) (child_sizes d m ks)

pub left-start : (d : ℕ) (m : Model) (ks : List ℕ) (at : ℕ) (first : List ℕ) → Left d m ks at first first 1 m.l 0 0
left-start d m ks at first = record {
  within = omega arith;
  few = omega arith;
  same = refl;
  nodes-left = refl;
  slots-left = refl;
  depth-left = zero-max _;
  list_left = refl;
}

-- one turn, from a up to b
module _ {d : ℕ} {m : Model} {ks : List ℕ} {at : ℕ} {first list : List ℕ} {nodes slots below a b : ℕ} (range : InRange m) (r : Rising ks)
    (run : RunEnd m ks a b) (left : Left d m ks at first list nodes slots below a) where
  -- a key alone has no node
  pub left_alone : b - a ≤ 1 → Left d m ks at first list nodes slots below b
  left_alone one =
      let part = take (b - a) (drop a ks) in
      let n : length part ≡ b - a = length_part ks a b run.within in
      let s : child_sizes d m (drop a ks) ≡ child_sizes d m (drop b ks) =
      sizes_turn range r run (sizes_of d) ∙ rw (of_few [] (sizes_of d) part (omega arith))
      in
      let t : child_depth d m (drop a ks) ≡ child_depth d m (drop b ks) =
      depth_turn range r run (depth_of d) ∙ rw (of_few 0 (depth_of d) part (omega arith), zero-max)
      in
      record {
        within = run.within;
        few = omega arith;
        same = left.same;
        nodes-left = rw s at left.nodes-left;
        slots-left = rw s at left.slots-left;
        depth-left = rw t at left.depth-left;
        list_left = rw s at left.list_left;
      }

  -- several are a child, with its needs and its list
  pub left-child : {c : Needs} {list' : List ℕ} {below' : ℕ} → 2 ≤ b - a → Counts d (take (b - a) (drop a ks)) (at + nodes) list list' c
      → below' ≡ max below c.depth
      → Left d m ks at first list' (nodes + c.nodes) (slots + c.slots) below' b
  unfolding needs_of
  left-child {c} {list'} {below'} two counts e =
      let part = take (b - a) (drop a ks) in
      let rest = child_sizes d m (drop b ks) in
      let n : length part ≡ b - a = length_part ks a b run.within in
      let fewer : length (sizes_of d part) < length part = sizes-fewer d part (rising_part ks a b run.within r) (omega arith) in
      let cn : c.nodes ≡ length (sizes_of d part) = ap (λ (x : Needs). x.nodes) counts.needs in
      let cs : c.slots ≡ total (sizes_of d part) = ap (λ (x : Needs). x.slots) counts.needs in
      let cd : c.depth ≡ depth_of d part = ap (λ (x : Needs). x.depth) counts.needs in
      let s : child_sizes d m (drop a ks) ≡ sizes_of d part ++ rest =
      sizes_turn range r run (sizes_of d) ∙ rw (of_several [] (sizes_of d) part (omega arith))
      in
      let t : child_depth d m (drop a ks) ≡ max (depth_of d part) (child_depth d m (drop b ks)) =
      depth_turn range r run (depth_of d) ∙ rw (of_several 0 (depth_of d) part (omega arith))
      in
      let place : at + (nodes + c.nodes) ≡ at + nodes + length (sizes_of d part) = omega arith in
      record {
        within = run.within;
        few = omega arith;
        same = rw counts.list (length-sets list (at + nodes) (sizes_of d part) ∙ left.same);
        nodes-left = omega (arith, ap length s, length-append (sizes_of d part) rest);
        slots-left = omega (arith, ap total s, total-append (sizes_of d part) rest);
        depth-left = omega arith;
        list_left = rw (place, counts.list) (sets_append list (at + nodes) (sizes_of d part) rest ∙ rw s at left.list_left);
      }

-- no keys, no children
sizes-empty : (S : List ℕ → List ℕ) (m : Model) (n s : ℕ) → sizes_under S m n s [] ≡ []
unfolding sizes_under keys_to
sizes-empty S m zero s = refl
sizes-empty S m (suc n) s = sizes-empty S m n (s + 1)

depth-empty : (D : List ℕ → ℕ) (m : Model) (n s : ℕ) → depth_under D m n s [] ≡ 0
unfolding depth_under keys_to
depth-empty D m zero s = refl
depth-empty D m (suc n) s = rw (depth-empty D m n (s + 1))

total-none : {ls : List ℕ} → ls ≡ [] → total ls ≡ 0
unfolding total
total-none e = rw e

-- how large the needs get, whatever the fuel
module _ (d : ℕ) (ks : List ℕ) (r : Rising ks) (most : length ks ≤ most_keys) where
  pub needs-nodes_small : (needs_of d ks).nodes ≤ most_keys
  unfolding needs_of
  needs-nodes_small = sizes-within d most_keys ks r most (omega arith)

  pub needs-slots_small : (needs_of d ks).slots ≤ most_slots * most_keys
  unfolding needs_of
  needs-slots_small = omega (arith, sizes-total d ks r, sizes-within d most_keys ks r most (omega arith))

  pub needs-depth_small : (needs_of d ks).depth ≤ 9
  unfolding needs_of
  needs-depth_small = omega (arith, depth-height d ks r, height-within (length ks) most)

module _ {d : ℕ} {ks : List ℕ} {at : ℕ} {before after : List ℕ} {n : Needs} (r : Rising ks) (most : length ks ≤ most_keys)
    (c : Counts d ks at before after n) where
  pub counts_nodes_small : n.nodes ≤ most_keys
  counts_nodes_small = rw c.needs (needs-nodes_small d ks r most)

  pub counts_slots_small : n.slots ≤ most_slots * most_keys
  counts_slots_small = rw c.needs (needs-slots_small d ks r most)

  pub counts_depth_small : n.depth ≤ 9
  counts_depth_small = rw c.needs (needs-depth_small d ks r most)

pub chosen_model : {c : Choice} (ks : List ℕ) → c ≡ choice_of ks → c.model ≡ model_of ks
unfolding choice_of
chosen_model ks e = rw e

pub chosen-range : {c : Choice} (ks : List ℕ) → Rising ks → c ≡ choice_of ks → InRange c.model
chosen-range ks r e = rw (chosen_model ks e) (chosen-in_range ks r)

-- no fuel, no node
pub counts_none : (fuel : ℕ) (ks : List ℕ) (at : ℕ) (list : List ℕ) → fuel < 1 → Counts fuel ks at list list (record { nodes = 0; slots = 0; depth = 0 })
unfolding needs_of sizes_of depth_of total
counts_none zero ks at list h = record { needs = refl; list = refl }
counts_none (suc d) ks at list h = absurd (omega arith)

-- One node of at most `fuel` levels, whose children have d: what its sums come to on the way, and what the loop's end gives.
module _ {fuel d : ℕ} {m : Model} {ks : List ℕ} {at : ℕ} {first list : List ℕ} {nodes slots below a : ℕ} (more : fuel ≡ suc d) (is : m ≡ model_of ks)
    (left : Left d m ks at first list nodes slots below a) where
  whole-nodes : (needs_of fuel ks).nodes ≡ 1 + length (child_sizes d m ks)
  unfolding needs_of sizes_of
  whole-nodes = rw (more, is) (omega arith)

  whole-slots : (needs_of fuel ks).slots ≡ m.l + total (child_sizes d m ks)
  unfolding needs_of sizes_of total
  whole-slots = rw (more, is)

  whole-depth : (needs_of fuel ks).depth ≡ 1 + child_depth d m ks
  unfolding needs_of depth_of
  whole-depth = rw (more, is)

  module _ (r : Rising ks) (most : length ks ≤ most_keys) where
    pub left-slots_small : slots ≤ most_slots * most_keys
    left-slots_small = omega (arith, whole-slots, needs-slots_small fuel ks r most)

    pub left-depth_small : below < 9
    left-depth_small = omega (arith, whole-depth, needs-depth_small fuel ks r most)

  pub left-done : {entry : List ℕ} → first ≡ set entry at m.l → length ks ≤ a
      → Counts fuel ks at entry list (record { nodes = nodes; slots = slots; depth = below + 1 })
  unfolding sizes_of
  left-done stored end =
      let z : drop a ks ≡ [] = drop_of_length-le ks end in
      let u : child_sizes d m (drop a ks) ≡ [] = rw z (sizes-empty (sizes_of d) m m.l 0) in
      let v : child_depth d m (drop a ks) ≡ 0 = rw z (depth-empty (depth_of d) m m.l 0) in
      let n : nodes ≡ (needs_of fuel ks).nodes = omega (arith, whole-nodes, ap length u) in
      let s : slots ≡ (needs_of fuel ks).slots = omega (arith, whole-slots, total-none u) in
      let t : below + 1 ≡ (needs_of fuel ks).depth = omega (arith, whole-depth) in
      record {
        needs = rw (n, s, t);
        list = (rw u at left.list_left) ∙ rw (stored, add-one at, more, is);
      }
