-- Laws of following one key: what one node's slot says, and the two loops over nodes, one that counts them and one that keeps
-- them. Each loop's own definition is stated here and joined to the walk of specs/Walks. Assumes nothing.
use Rattle.std.specs.Prelude.{Err, Ok, Result}
use mathlib.Core.List.{List, [], ◌∷◌, ◌++◌}
use mathlib.Core.Path.{◌≡◌, refl, sym, ap, subst, ◌∙◌}
use Prim.Native.Nat.{ℕ, zero, suc, ◌+◌, ◌-◌, ◌*◌, ◌<◌, ◌≤◌}
use native.Mathlib.Nat.{add-zero}
use native.Mathlib.Omega.{arith}
use lib.ListN.{length, get_or, set, replicate, length-append}
use lib.Seq.{sets}
use Rattle.laws.specs.Keys.{key_bound}
use Rattle.model.specs.Slots.{slot_of}
use Rattle.model.proofs.Slots.{slot_under}
use Rattle.pool.proofs.Nodes.{good-node}
use Rattle.pool.proofs.Slots.{DataSlot, data_reads, data-word}
use Rattle.pool.specs.Memory.{Mem, kind_word, data_kind, kind_unit, slots_in}
use Rattle.pool.specs.Reading.{slot_at, node_at}
use Rattle.pool.specs.declared.Node.{Node}
use Rattle.pool.specs.declared.Slot.{Slot}
use Rattle.pool.specs.declared.Slot.TheVariants.{Null, Data, Child}
use Rattle.walk.specs.Walks.{longest_path, step_in, key_slot, step_good, step_at, step_of, Walk, after, path_of, walk_from, walk_of, follow_of, trace_of}
use Rattle.walk.specs.declared.End.{End}
use Rattle.walk.specs.declared.End.TheVariants.{Empty, Key, Damage}
use Rattle.walk.specs.declared.Followed.{Followed}
use Rattle.walk.specs.declared.Path.{Path}
use Rattle.walk.specs.declared.Step.{Step}
use Rattle.walk.specs.declared.Step.TheVariants.{Down, Stop}
use Rattle.walk.specs.declared.Traced.{Traced}
use Rattle.pool.specs.declared.Rule.{Rule}
use Rattle.pool.specs.declared.Rule.TheVariants.{PathTooLong}

-- one good node, its slot j of the key and that slot's number q at hand
module _ (ss : List ℕ) (n : Node) (k j q : ℕ) (ej : j ≡ slot_of n.model k) (eq : q ≡ n.start + j) where
  -- the slot says what it says
  pub step-says : (s : Result Slot Rule) → s ≡ slot_at ss n j → step_in q s ≡ step_good ss n k
  unfolding step_good key_slot
  step-says s e = rw (e, eq, ej)

  -- the key sought stands there: it belongs
  pub step-found : k < kind_unit → get_or ss (kind_word q) 0 ≡ kind_unit + k → Stop (Key q k) ≡ step_good ss n k
  unfolding step_in
  step-found small w =
      let d : DataSlot ss n j k = record { word = rw (← eq) (w ∙ rw (one_unit k)); small = small; belongs = sym ej } in
      step-says (Ok (Data k)) (sym (data_reads ss n j k d))
    where
      one_unit : (x : ℕ) → kind_unit + x ≡ data_kind * kind_unit + x
      one_unit x = omega arith

-- one record
module _ (m : Mem) (r k : ℕ) where
  pub step-good : (n : Node) (s : Step) → node_at m r ≡ Ok n → s ≡ step_good m.slots n k → s ≡ step_of m r k
  unfolding step_of step_at
  step-good n s e f = rw (e, f)

  pub step-broken : (c : Rule) → node_at m r ≡ Err c → Stop (Damage c) ≡ step_of m r k
  unfolding step_of step_at
  step-broken c e = rw e

-- The loop that counts.
unfoldable pub count_on : Step → ℕ → (ℕ → Followed) → Followed
count_on (Down c) v go = go c
count_on (Stop e) v go = record { end = e; visits = v }

unfoldable pub follow_from : Mem → ℕ → ℕ → ℕ → ℕ → Followed
follow_from m k zero r v = record { end = Damage PathTooLong; visits = v }
follow_from m k (suc f) r v = count_on (step_of m r k) (v + 1) (λ c. follow_from m k f c (v + 1))

abbrev counted : Walk → Followed
counted w = record { end = w.end; visits = length w.path }

module _ (m : Mem) (k : ℕ) where
  longer : (p : List ℕ) (r : ℕ) → length (p ++ (r ∷ [])) ≡ length p + 1
  longer p r = length-append p (r ∷ [])

  count-on : (s : Step) (p : List ℕ) (r : ℕ) (f : ℕ → Followed) (g : ℕ → Walk) → ((c : ℕ) → f c ≡ counted (g c)) → count_on s (length p + 1) f ≡ counted (after s (p ++ (r ∷ [])) g)
  unfolding count_on after
  count-on (Down c) p r f g h = h c
  count-on (Stop e) p r f g h = rw (longer p r)

  follow_counts : (f r : ℕ) (p : List ℕ) → follow_from m k f r (length p) ≡ counted (walk_from m k f r p)
  unfolding follow_from walk_from
  follow_counts zero r p = refl
  follow_counts (suc f) r p =
      count-on (step_of m r k) p r (λ c. follow_from m k f c (length p + 1)) (λ c. walk_from m k f c (p ++ (r ∷ [])))
      (λ c. ap (follow_from m k f c) (sym (longer p r)) ∙ follow_counts f c (p ++ (r ∷ [])))

  pub follow-start : (root : ℕ) → follow_from m k (longest_path - 0) root 0 ≡ follow_of m root k
  unfolding follow_of walk_of
  follow-start root = follow_counts longest_path root []

  -- from here on, as the loop goes: `whole` is what the loop is to give
  module _ (r v : ℕ) (whole : Followed) (inv : follow_from m k (longest_path - v) r v ≡ whole) where
    one-node : v < longest_path → count_on (step_of m r k) (v + 1) (λ c. follow_from m k (longest_path - (v + 1)) c (v + 1)) ≡ whole
    unfolding follow_from
    one-node h =
        let e : longest_path - v ≡ suc (longest_path - (v + 1)) = omega arith in
        rw e at inv

    pub follow_down : (c : ℕ) → v < longest_path → Down c ≡ step_of m r k → follow_from m k (longest_path - (v + 1)) c (v + 1) ≡ whole
    unfolding count_on
    follow_down c h e = rw (← e) at (one-node h)

    pub follow_stop : (x : End) → v < longest_path → Stop x ≡ step_of m r k → record { end = x; visits = v + 1 } ≡ whole
    unfolding count_on
    follow_stop x h e = rw (← e) at (one-node h)

    pub follow_spent : longest_path ≤ v → record { end = Damage PathTooLong; visits = v } ≡ whole
    unfolding follow_from
    follow_spent h =
        let e : longest_path - v ≡ 0 = omega arith in
        rw e at inv

-- The loop that keeps the nodes.
unfoldable pub push : Path → ℕ → Path
push p r = record { nodes = set p.nodes p.len r; len = p.len + 1 }

unfoldable pub keep_on : Step → Path → (ℕ → Traced) → Traced
keep_on (Down c) p go = go c
keep_on (Stop e) p go = record { end = e; path = p }

unfoldable pub trace_from : Mem → ℕ → ℕ → ℕ → Path → Traced
trace_from m k zero r p = record { end = Damage PathTooLong; path = p }
trace_from m k (suc f) r p = keep_on (step_of m r k) (push p r) (λ c. trace_from m k f c (push p r))

abbrev kept : Walk → Traced
kept w = record { end = w.end; path = path_of w.path }

sets_one_more : (l : List ℕ) (i : ℕ) (p : List ℕ) (r : ℕ) → sets l i (p ++ (r ∷ [])) ≡ set (sets l i p) (i + length p) r
sets_one_more l i [] r = rw add-zero
sets_one_more l i (x ∷ p) r =
    let e : suc i + length p ≡ i + suc (length p) = omega arith in
    sets_one_more (set l i x) (suc i) p r ∙ rw e

push_path : (p : List ℕ) (r : ℕ) → push (path_of p) r ≡ path_of (p ++ (r ∷ []))
unfolding push path_of
push_path p r =
    let a : set (sets (replicate longest_path 0) 0 p) (length p) r ≡ sets (replicate longest_path 0) 0 (p ++ (r ∷ [])) =
    ap (λ (i : ℕ). set (sets (replicate longest_path 0) 0 p) i r) (sym (zero_plus (length p))) ∙ sym (sets_one_more (replicate longest_path 0) 0 p r)
    in
    let b : length p + 1 ≡ length (p ++ (r ∷ [])) = sym (length-append p (r ∷ [])) in
    λ i. record { nodes = a i; len = b i }
  where
    zero_plus : (x : ℕ) → 0 + x ≡ x
    zero_plus x = omega arith

from_none : (x : ℕ) → x - (path_of []).len ≡ x
unfolding path_of
from_none x = omega arith

module _ (m : Mem) (k : ℕ) where
  keep-on : (s : Step) (p : List ℕ) (r : ℕ) (f : ℕ → Traced) (g : ℕ → Walk) → ((c : ℕ) → f c ≡ kept (g c)) → keep_on s (push (path_of p) r) f ≡ kept (after s (p ++ (r ∷ [])) g)
  unfolding keep_on after
  keep-on (Down c) p r f g h = h c
  keep-on (Stop e) p r f g h = rw (push_path p r)

  trace-keeps : (f r : ℕ) (p : List ℕ) → trace_from m k f r (path_of p) ≡ kept (walk_from m k f r p)
  unfolding trace_from walk_from
  trace-keeps zero r p = refl
  trace-keeps (suc f) r p =
      keep-on (step_of m r k) p r (λ c. trace_from m k f c (push (path_of p) r)) (λ c. walk_from m k f c (p ++ (r ∷ [])))
      (λ c. ap (trace_from m k f c) (push_path p r) ∙ trace-keeps f c (p ++ (r ∷ [])))

  pub trace-start : (root : ℕ) (p : Path) → p ≡ path_of [] → trace_from m k (longest_path - p.len) root p ≡ trace_of m root k
  unfolding trace_of walk_of
  trace-start root p e =
      ap (λ (x : Path). trace_from m k (longest_path - x.len) root x) e ∙ ap (λ (f : ℕ). trace_from m k f root (path_of [])) (from_none longest_path) ∙ trace-keeps longest_path root []

  module _ (r : ℕ) (p : Path) (whole : Traced) (inv : trace_from m k (longest_path - p.len) r p ≡ whole) where
    one_kept : p.len < longest_path → keep_on (step_of m r k) (push p r) (λ c. trace_from m k (longest_path - (p.len + 1)) c (push p r)) ≡ whole
    unfolding trace_from
    one_kept h =
        let e : longest_path - p.len ≡ suc (longest_path - (p.len + 1)) = omega arith in
        rw e at inv

    pub trace_down : (c : ℕ) → p.len < longest_path → Down c ≡ step_of m r k → trace_from m k (longest_path - (p.len + 1)) c (push p r) ≡ whole
    unfolding keep_on
    trace_down c h e = rw (← e) at (one_kept h)

    pub trace_stop : (x : End) → p.len < longest_path → Stop x ≡ step_of m r k → record { end = x; path = push p r } ≡ whole
    unfolding keep_on
    trace_stop x h e = rw (← e) at (one_kept h)

    pub trace_spent : longest_path ≤ p.len → record { end = Damage PathTooLong; path = p } ≡ whole
    unfolding trace_from
    trace_spent h =
        let e : longest_path - p.len ≡ 0 = omega arith in
        rw e at inv

pub empty-len : (p : Path) → p ≡ path_of [] → p.len ≡ 0
unfolding path_of
empty-len p e = ap (λ (x : Path). x.len) e

pub empty-nodes : (p : Path) → p ≡ path_of [] → length p.nodes ≡ longest_path
unfolding path_of
empty-nodes p e = ap (λ (x : Path). length x.nodes) e

-- the slot that a walk ends at is one of the pool's, and a key there is one
abbrev StepIn : ℕ → Step → Type 0
StepIn n (Down c) = Unit
StepIn n (Stop (Empty q)) = q < n
StepIn n (Stop (Key q k)) = (q < n) × (k < key_bound)
StepIn n (Stop (Damage c)) = Unit

abbrev EndIn : ℕ → End → Type 0
EndIn n (Empty q) = q < n
EndIn n (Key q k) = (q < n) × (k < key_bound)
EndIn n (Damage c) = Unit

module _ (m : Mem) (k : ℕ) where
  slot-in : (n : Node) (j q : ℕ) (s : Result Slot Rule) → slot_at m.slots n j ≡ s → q < slots_in m.slots → StepIn (slots_in m.slots) (step_in q s)
  unfolding step_in
  slot-in n j q (Ok Null) e h = h
  slot-in n j q (Ok (Data x)) e h = (h, (data-word m.slots n j x e).small)
  slot-in n j q (Ok (Child c)) e h = tt
  slot-in n j q (Err c) e h = tt

  record_in : (r : ℕ) (x : Result Node Rule) → node_at m r ≡ x → StepIn (slots_in m.slots) (step_at m k x)
  unfolding step_at step_good key_slot
  record_in r (Ok n) e =
      let g = good-node m r n e in
      slot-in n (slot_of n.model k) (n.start + slot_of n.model k) (slot_at m.slots n (slot_of n.model k)) refl (omega (arith, g.fits, slot_under n.model g.range k))
  record_in r (Err c) e = tt

  after_in : (n : ℕ) (s : Step) (p : List ℕ) (go : ℕ → Walk) → StepIn n s → ((c : ℕ) → EndIn n (go c).end) → EndIn n (after s p go).end
  unfolding after
  after_in n (Down c) p go h f = f c
  after_in n (Stop (Empty q)) p go h f = h
  after_in n (Stop (Key q j)) p go h f = h
  after_in n (Stop (Damage c)) p go h f = tt

  walk_in : (f r : ℕ) (p : List ℕ) → EndIn (slots_in m.slots) (walk_from m k f r p).end
  unfolding walk_from step_of
  walk_in zero r p = tt
  walk_in (suc f) r p = after_in _ (step_of m r k) (p ++ (r ∷ [])) (λ c. walk_from m k f c (p ++ (r ∷ []))) (record_in r (node_at m r) refl) (λ c. walk_in f c (p ++ (r ∷ [])))

  pub walk-key-within : (root q j : ℕ) → (walk_of m root k).end ≡ Key q j → q < slots_in m.slots
  unfolding walk_of
  walk-key-within root q j e = (subst (EndIn (slots_in m.slots)) e (walk_in longest_path root [])).0

  pub walk-key_small : (root q j : ℕ) → (walk_of m root k).end ≡ Key q j → j < key_bound
  unfolding walk_of
  walk-key_small root q j e = (subst (EndIn (slots_in m.slots)) e (walk_in longest_path root [])).1

  pub walk-empty-within : (root q : ℕ) → (walk_of m root k).end ≡ Empty q → q < slots_in m.slots
  unfolding walk_of
  walk-empty-within root q e = subst (EndIn (slots_in m.slots)) e (walk_in longest_path root [])
