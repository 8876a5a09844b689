-- No store that goes wrong in one of document 01's ways meets the demands. Each is led on by P1's store, where the demands say the answer
-- and every word, or by what demand 3 says of any sequence. Assumes nothing.
use mathlib.Core.Bool.{true, false}
use mathlib.Core.List.{List, [], ◌∷◌, ◌++◌}
use mathlib.Core.Path.{◌≡◌, refl, sym, subst, ap, ◌∙◌}
use native.Mathlib.Omega.{arith}
use Prim.Native.Nat.{ℕ, ◌<◌}
use lib.Dec.{ltb, eqb}
use lib.ListN.{length, replicate}
use borrow.Author.Tests.{eq-eqb, ne_eqb, ltb-true}
use Rattle.build.specs.Building.{payloads_to}
use Rattle.counters.specs.Counters.{one_more, raised_if, is_due}
use Rattle.insert.specs.Inserting.{scratch_fits, not_due}
use Rattle.laws.proofs.Tests.{both, true_not_false}
use Rattle.laws.specs.Answers.{Answer}
use Rattle.laws.specs.Keys.{key_bound}
use Rattle.marks.specs.Used.{used_at, mark_at, mark_run, first_from, first_unused, free_run, lowest_from, lowest_run}
use Rattle.model.specs.Choice.{slots_for, count_at, spread_below, spread, model_at, least_from, t_of, empty_model, model_of, choice_of}
use Rattle.model.specs.Groups.{keys_to}
use Rattle.model.specs.Slots.{slot_of}
use Rattle.pool.specs.Memory.{Mem}
use Rattle.rebuild.specs.Rebuilding.{Scratch, scratch}
use Rattle.store.specs.Handles.{new_handle, limits_hold, pools_are}
use Rattle.store.specs.Loading.{load_fits}
use Rattle.store.specs.declared.Handle.{Handle}
use Rattle.demands.specs.Demand2.{visits, found_as, LoadLeaves, InsertLeaves, Demand2}
use Rattle.demands.specs.Demand3.{Ask, inserts, State, after, after_all, when_done, Accepted, loaded_state, Tree, Demand3}
use Rattle.demands.specs.Examples.{head, gap, pair, p1_keys, p1_payloads, p1_old, p1_handle, p1_root, p1_slots, p7_handle, p7_root, p7_slots, p8_handle, p8_root, p8_slots}
use Rattle.demands.specs.Growing.{is as grown, grow_slot, grow_slots, grow_on, grow_with, grow}
use Rattle.demands.specs.Map.{Map, Found, is, nil as none, member, lookup, insert}
use Rattle.demands.specs.Paths.{path_b, path_f, below_b, below_f, graft_b, graft_f}
use Rattle.demands.specs.Placed.{Head, leaf, sub, Forest, nil, cons, flat_f, bit, at, view, Good}
use Rattle.demands.specs.Settling.{settles, due_b, due_f, insert_t}
use Rattle.demands.specs.ShutOut.{RefusesLoads, RefusesLookups, RefusesBands, RefusesInserts, RefusesReplaces, RefusesDeletes, SixAlways, StoresNothing, NotFoundAfter, Calls, comes_to, PretendsLater, PretendsOnce, said, MakesUpVisits, VisitsUnread, ShutOut}
use Rattle.demands.specs.Soundings.{old_scratch, p1_pools, p7_pools, p8_pools}
use Rattle.demands.specs.Stores.{Store}
use Rattle.demands.proofs.Examples.{p1_rises, p1_tree, p1_good, p7_good, p8_tree, p8_good, scratch-fits}
use Rattle.demands.proofs.Fitting.{good_kept}
use Rattle.demands.proofs.Holding.{one_image}
use Rattle.demands.proofs.SameKeys.{same_keys}

number_of : (a b : Answer ℕ) → a ≡ b → a.number ≡ b.number
number_of a b e = ap (λ (c : Answer ℕ). c.number) e

-- P1's pools do not hold P8's tree: record 1 is not used
not_p8 : Good p8_handle p1_pools p8_root p8_slots → ⊥
unfolding view at
not_p8 g = let e : ◌≡◌ {A = ℕ} 0 1 = g.image 1 bit in omega arith

module _ (x : Store) (d : Demand2 x) where
  inserted : InsertLeaves p1_handle p1_pools p1_slots 5 9 (x.insert p1_handle 5 9 p1_pools old_scratch) (settles 1 not_due (sub p8_root p8_slots))
  inserted = subst (InsertLeaves p1_handle p1_pools p1_slots 5 9 (x.insert p1_handle 5 9 p1_pools old_scratch)) p8_tree (d.insert p1_handle p1_pools p1_root p1_slots p1_good 5 9 (omega arith) old_scratch scratch-fits)

  -- "a store that refuses each call": each lookup
  refuses_lookups : RefusesLookups x → ⊥
  refuses_lookups r = r p1_handle 10 p1_pools (number_of _ _ (d.lookup p1_handle p1_pools p1_root p1_slots p1_good 10 (omega arith)))

  -- "a store that refuses each call": each band
  refuses_bands : RefusesBands x → ⊥
  refuses_bands r = r p1_handle 0 0 p1_pools [] [] (ap (λ b. b.answer.number) (d.band p1_handle p1_pools p1_root p1_slots p1_good 0 0 (omega arith) (omega arith) [] [] refl))

  -- "a store that refuses each call": each insert
  refuses_inserts : RefusesInserts x → ⊥
  refuses_inserts r = r p1_handle 5 9 p1_pools old_scratch (number_of _ _ inserted.0)

  -- "a store that refuses each call": each replace
  refuses_replaces : RefusesReplaces x → ⊥
  refuses_replaces r = r p1_handle 10 7 p1_pools (number_of _ _ ((d.replace p1_handle p1_pools p1_root p1_slots p1_good 10 7 (omega arith)).answers refl))

  -- "a store that refuses each call": each delete
  refuses_deletes : RefusesDeletes x → ⊥
  refuses_deletes r = r p1_handle 10 p1_pools (number_of _ _ ((d.delete p1_handle p1_pools p1_root p1_slots p1_good 10 (omega arith)).answers refl))

  -- "one that answers 6 to every lookup"
  six_always : SixAlways x → ⊥
  six_always r =
      let a = number_of _ _ (d.lookup p1_handle p1_pools p1_root p1_slots p1_good 10 (omega arith)) in
      let e : ◌≡◌ {A = ℕ} 0 6 = sym a ∙ r p1_handle 10 p1_pools in
      omega arith

  -- "one whose insert reports 0 and stores nothing"
  stores_nothing : StoresNothing x → ⊥
  stores_nothing r =
      not_p8 (subst (λ (m : Mem). Good p8_handle m p8_root p8_slots) (r p1_handle 5 9 p1_pools old_scratch (number_of _ _ inserted.0))
      (subst (λ (h : Handle). Good h (x.insert p1_handle 5 9 p1_pools old_scratch).memory p8_root p8_slots) inserted.1 inserted.2))

  -- the same, by a lookup
  not_found_after : NotFoundAfter x → ⊥
  not_found_after r =
      let a = number_of _ _ (d.lookup _ _ p8_root p8_slots inserted.2 5 (omega arith)) in
      let e : ◌≡◌ {A = ℕ} 0 6 = sym a ∙ r p1_handle 5 9 p1_pools old_scratch (number_of _ _ inserted.0) in
      omega arith

-- P1's list with a capacity of 6: what the load, the insert of 25 and then that of 5 leave, and no word else.
abbrev six : ℕ → Handle
six n = new_handle 0 n 6 2 12

abbrev six_scratch : Scratch
six_scratch = scratch (replicate 6 7) (replicate 6 8) (replicate 6 9)

abbrev both_root : Head
both_root = head 0 20 11 0 6 4 1

abbrev both_slots : Forest
both_slots = cons (sub (head 1 5 6 8 2 2 0) (pair 5 9 10 1)) (cons (leaf 20 2) (gap 1 (cons (leaf 25 9) (gap 2 (cons (leaf 30 3) (cons (leaf 40 4) nil))))))

six_fits : load_fits 6 p1_keys p1_payloads p1_old ≡ true
unfolding limits_hold pools_are load_fits
six_fits = refl

six-scratch : scratch_fits 6 six_scratch ≡ true
unfolding scratch_fits
six-scratch = refl

six_first : insert_t (six 4) (sub p1_root p1_slots) p1_pools.used 25 9 ≡ settles 0 not_due (sub p7_root p7_slots)
unfolding slot_of path_b path_f below_b below_f graft_b graft_f due_b due_f one_more raised_if is_due
six_first = refl

six_second : insert_t (six 5) (sub p7_root p7_slots) p7_pools.used 5 9 ≡ settles 1 not_due (sub both_root both_slots)
unfolding slots_for count_at spread_below spread model_at least_from t_of empty_model model_of choice_of slot_of keys_to used_at mark_at mark_run first_from first_unused free_run lowest_from lowest_run payloads_to grow_slot grow_slots grow_on grow_with grow path_b path_f below_b below_f graft_b graft_f due_b due_f one_more raised_if is_due
six_second = refl

-- P7's pools do not hold the tree with both
not_both : Good (six 6) p7_pools both_root both_slots → ⊥
unfolding view at
not_both g = let e : ◌≡◌ {A = ℕ} 0 1 = g.image 1 bit in omega arith

module _ (x : Store) (d : Demand2 x) where
  loaded : LoadLeaves 6 p1_keys p1_payloads p1_old (x.load 6 p1_keys p1_payloads p1_old) (grown (sub p1_root p1_slots) p1_pools.used)
  loaded = subst (LoadLeaves 6 p1_keys p1_payloads p1_old (x.load 6 p1_keys p1_payloads p1_old)) p1_tree (d.load 6 p1_keys p1_payloads p1_old six_fits (omega arith) p1_rises)

  accepted : Accepted x 6 p1_keys p1_payloads p1_old
  accepted = number_of _ _ loaded.0

  -- "a store that refuses each call": each load
  refuses_loads : RefusesLoads x → ⊥
  refuses_loads r = r 6 p1_keys p1_payloads p1_old accepted

  good0 : Good (six 4) (x.load 6 p1_keys p1_payloads p1_old).memory p1_root p1_slots
  good0 = subst (λ (h : Handle). Good h (x.load 6 p1_keys p1_payloads p1_old).memory p1_root p1_slots) loaded.1 loaded.2

  memory0 : (x.load 6 p1_keys p1_payloads p1_old).memory ≡ p1_pools
  memory0 = one_image 2 12 _ p1_pools (sub p1_root p1_slots) (good_kept (six 4) _ p1_root p1_slots good0) (good_kept p1_handle p1_pools p1_root p1_slots p1_good)

  first : InsertLeaves (six 4) p1_pools p1_slots 25 9 (x.insert (six 4) 25 9 p1_pools six_scratch) (settles 0 not_due (sub p7_root p7_slots))
  first =
      subst (InsertLeaves (six 4) p1_pools p1_slots 25 9 (x.insert (six 4) 25 9 p1_pools six_scratch)) six_first
      (d.insert (six 4) p1_pools p1_root p1_slots (subst (λ (m : Mem). Good (six 4) m p1_root p1_slots) memory0 good0) 25 9 (omega arith) six_scratch six-scratch)

  good1 : Good (six 5) (x.insert (six 4) 25 9 p1_pools six_scratch).memory p7_root p7_slots
  good1 = subst (λ (h : Handle). Good h (x.insert (six 4) 25 9 p1_pools six_scratch).memory p7_root p7_slots) first.1 first.2

  memory1 : (x.insert (six 4) 25 9 p1_pools six_scratch).memory ≡ p7_pools
  memory1 = one_image 2 12 _ p7_pools (sub p7_root p7_slots) (good_kept (six 5) _ p7_root p7_slots good1) (good_kept p7_handle p7_pools p7_root p7_slots p7_good)

  second : InsertLeaves (six 5) p7_pools p7_slots 5 9 (x.insert (six 5) 5 9 p7_pools six_scratch) (settles 1 not_due (sub both_root both_slots))
  second =
      subst (InsertLeaves (six 5) p7_pools p7_slots 5 9 (x.insert (six 5) 5 9 p7_pools six_scratch)) six_second
      (d.insert (six 5) p7_pools p7_root p7_slots (subst (λ (m : Mem). Good (six 5) m p7_root p7_slots) memory1 good1) 5 9 (omega arith) six_scratch six-scratch)

  -- a store that pretends on the memory it was given
  abbrev PretendsOn : Handle → Mem → Type 0
  PretendsOn h m = (x.insert h 5 9 m six_scratch).answer.number ≡ 0 → (x.insert h 5 9 m six_scratch).memory ≡ m

  -- "one that stores only in the first call and pretends later"
  pretends_later : PretendsLater x → ⊥
  unfolding after
  pretends_later r =
      let one : PretendsOn (x.insert (six 4) 25 9 p1_pools six_scratch).handle (x.insert (six 4) 25 9 p1_pools six_scratch).memory =
      subst (λ (m : Mem). PretendsOn (x.insert (six 4) 25 9 m six_scratch).handle (x.insert (six 4) 25 9 m six_scratch).memory) memory0
      (subst (λ (h : Handle). PretendsOn (x.insert h 25 9 (x.load 6 p1_keys p1_payloads p1_old).memory six_scratch).handle (x.insert h 25 9 (x.load 6 p1_keys p1_payloads p1_old).memory six_scratch).memory) loaded.1
      (r 6 p1_keys p1_payloads p1_old accepted 25 9 six_scratch 5 9 six_scratch)) in
      let two : PretendsOn (six 5) p7_pools = subst (λ (m : Mem). PretendsOn (six 5) m) memory1 (subst (λ (h : Handle). PretendsOn h (x.insert (six 4) 25 9 p1_pools six_scratch).memory) first.1 one) in
      not_both (subst (λ (m : Mem). Good (six 6) m both_root both_slots) (two (number_of _ _ second.0))
      (subst (λ (h : Handle). Good h (x.insert (six 5) 5 9 p7_pools six_scratch).memory both_root both_slots) second.1 second.2))

-- what a lookup's answer says
said-found : (v : ℕ) (f : Found) → said (found_as v f) ≡ v
said-found v (is p) = refl
said-found v none = refl

one-node : visits 10 p7_root p7_slots ≡ 1
unfolding slot_of path_b path_f
one-node = refl

two-nodes : visits 10 p8_root p8_slots ≡ 2
unfolding slot_of path_b path_f
two-nodes = refl

-- the same where the number is taken from handle and key: with other pools it is another
visits_unread : (x : Store) → Demand2 x → VisitsUnread x → ⊥
visits_unread x d r =
    let a : said (x.look p7_handle 10 p7_pools) ≡ 1 = ap said (d.lookup p7_handle p7_pools p7_root p7_slots p7_good 10 (omega arith)) ∙ one-node in
    let b : said (x.look p7_handle 10 p8_pools) ≡ 2 = ap said (d.lookup p8_handle p8_pools p8_root p8_slots p8_good 10 (omega arith)) ∙ two-nodes in
    let e : ◌≡◌ {A = ℕ} 1 2 = sym a ∙ r.says p7_handle 10 p7_pools ∙ sym (r.says p7_handle 10 p8_pools) ∙ b in
    omega arith

-- the map: a key that was inserted is found
look-inserted : (k p : ℕ) (l : Map) → lookup k (insert k p l) ≡ is p
look-inserted k p [] = rw (eq-eqb k k refl)
look-inserted k p (y ∷ l) =
    both (ltb y.0 k)
    (λ t. let u = ltb-true y.0 k t in rw (t, ne_eqb y.0 k (λ e. omega arith)) (look-inserted k p l))
    (λ f. both (eqb y.0 k) (λ t. rw (f, t, eq-eqb k k refl)) (λ n. rw (f, n, eq-eqb k k refl)))

-- one call more
after_more : (x : Store) (s : State) (asks : List Ask) (a : Ask) → after_all x s (asks ++ a ∷ []) ≡ after x (after_all x s asks) a
unfolding after_all
after_more x s [] a = refl
after_more x s (b ∷ asks) a = after_more x (after x s b) asks a

module _ (x : Store) (d : Demand3 x) (q : Calls x) (k : ℕ) (small : k < key_bound) where
  tree : Tree x (comes_to x q)
  tree = d.stands q.capacity q.keys q.payloads q.pools q.accepted q.asks

  -- "one that makes up the visit count"
  makes_up_visits : MakesUpVisits x (comes_to x q) k → ⊥
  makes_up_visits r = r (ap said (tree.stands.visits k small) ∙ said-found _ (lookup k (comes_to x q).map) ∙ sym (ap length (tree.stands.follows k)))

  module _ (p : ℕ) (z : Scratch) where
    tree' : Tree x (after x (comes_to x q) (inserts k p z))
    tree' =
        subst (Tree x) (after_more x (loaded_state x q.capacity q.keys q.payloads q.pools) q.asks (inserts k p z))
        (d.stands q.capacity q.keys q.payloads q.pools q.accepted (q.asks ++ inserts k p z ∷ []))

    -- the same, at any place of any sequence
    pretends_once : member k (comes_to x q).map ≡ false → PretendsOnce x (comes_to x q) k p z → ⊥
    unfolding after tree tree'
    pretends_once absent r =
        let map : when_done (x.insert (comes_to x q).handle k p (comes_to x q).memory z).answer (insert k p (comes_to x q).map) (comes_to x q).map ≡ insert k p (comes_to x q).map = rw (eq-eqb _ 0 r.reports) in
        let found : lookup k (flat_f tree'.slots) ≡ is p = ap (lookup k) (tree'.stands.reads ∙ map) ∙ look-inserted k p (comes_to x q).map in
        let good : Good (x.insert (comes_to x q).handle k p (comes_to x q).memory z).handle (comes_to x q).memory tree'.head tree'.slots =
        subst (λ (m : Mem). Good (x.insert (comes_to x q).handle k p (comes_to x q).memory z).handle m tree'.head tree'.slots) r.memory tree'.stands.good in
        let there : member k (flat_f tree.slots) ≡ true =
        same_keys (comes_to x q).handle _ (comes_to x q).memory tree.head tree.slots tree'.head tree'.slots tree.stands.good good k p small found in
        true_not_false (sym there ∙ ap (member k) tree.stands.reads ∙ absent)

pub shut_out : (x : Store) → ShutOut x
shut_out x = record {
  refuses_loads = refuses_loads x;
  refuses_lookups = refuses_lookups x;
  refuses_bands = refuses_bands x;
  refuses_inserts = refuses_inserts x;
  refuses_replaces = refuses_replaces x;
  refuses_deletes = refuses_deletes x;
  six_always = six_always x;
  stores_nothing = stores_nothing x;
  not_found_after = not_found_after x;
  pretends_later = pretends_later x;
  pretends_once = λ d q k p z small. pretends_once x d q k small p z;
  makes_up_visits = makes_up_visits x;
  visits_unread = visits_unread x;
}
