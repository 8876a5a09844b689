-- The rules of a whole reading, on what a tree gives: none is broken where nodes and keys are few enough, keys rise and the new key
-- is not among them. Assumes nothing.
use mathlib.Core.Bool.{Bool, true, false, ◌&&◌, not}
use mathlib.Core.List.{List, [], ◌∷◌, ◌++◌, append_assoc}
use mathlib.Core.Path.{◌≡◌, refl, sym, subst⁻¹, ap, ◌∙◌}
use native.Mathlib.Omega.{arith}
use Prim.Native.Nat.{ℕ, zero, suc, ◌+◌, ◌<◌, ◌≤◌}
use lib.Dec.{eqb, leb}
use borrow.Author.Tests.{ne_eqb, le-leb}
use Rattle.laws.proofs.Tests.{and_true}
use Rattle.laws.specs.Pick.{pick}
use Rattle.marks.proofs.Runs.{full_run_is}
use Rattle.marks.specs.Used.{full_run}
use Rattle.pool.specs.Memory.{Mem, slot_place}
use Rattle.pool.specs.declared.Node.{Node}
use Rattle.walk.specs.Events.{first_in, count_in}
use Rattle.walk.specs.Items.{may_enter, may_hold, entered, holding, items}
use Rattle.walk.specs.declared.Event.{Event}
use Rattle.walk.specs.declared.Event.TheVariants.{Enter, Element}
use Rattle.walk.specs.declared.Item.{Item}
use Rattle.walk.specs.declared.Item.TheVariants.{Held}
use Rattle.walk.specs.declared.Rules.{Rules}
use Rattle.walk.specs.declared.Span.{Span}
use Rattle.demands.specs.Map.{Map, EachKey, Rises, size}
use Rattle.demands.specs.Placed.{Head, Branch, null, leaf, sub, Forest, nil, cons, len, flat_b, flat_f, bit, cell_w, view, model_in}
use Rattle.demands.proofs.Around.{size-app}
use Rattle.demands.proofs.Holding.{HoldsF, run_holds, branch-holds, rest-holds}
use Rattle.demands.proofs.Plugs.{all_left, all_right}
use Rattle.demands.proofs.Reading.{Holds, bit_small}
use Rattle.demands.proofs.Removing.{run-parts, cells_inside}
use Rattle.demands.proofs.Spans.{span_b, span_f}
use Rattle.demands.proofs.Walking.{Sized, node_of, view-bit, records-are}

-- how many nodes a tree has
abbrev mutual
  pub nodes_b : Branch → ℕ
  nodes_b null = 0
  nodes_b (leaf k p) = 0
  nodes_b (sub h g) = suc (nodes_f g)

  pub nodes_f : Forest → ℕ
  nodes_f nil = 0
  nodes_f (cons b f) = nodes_b b + nodes_f f

-- the elements that a span takes, with their slots
unfoldable mutual
  pub held_b : Span → ℕ → Branch → List Item
  held_b s q null = []
  held_b s q (leaf k p) = Held q k ∷ []
  held_b s q (sub h g) = held_f s h.start g (first_in s (model_in h.lo h.w (len g))) (count_in s (model_in h.lo h.w (len g)))

  pub held_f : Span → ℕ → Forest → ℕ → ℕ → List Item
  held_f s q nil skip n = []
  held_f s q (cons b f) (suc skip) n = held_f s (q + 1) f skip n
  held_f s q (cons b f) zero zero = []
  held_f s q (cons b f) zero (suc n) = held_b s q b ++ held_f s (q + 1) f zero n

-- the rules allow c nodes and the elements l
pub record Allowed (ru : Rules) (c : ℕ) (l : Map) : Type 0 where
  pub nodes : c ≤ ru.nodes
  pub keys : ru.rebuild ≡ true → size l ≤ ru.keys
  pub fresh : ru.rebuild ≡ true → EachKey (λ k. k ≡ ru.fresh → ⊥) l
  pub least : EachKey (λ k. ru.least ≤ k) l

-- what is left of them after at most c nodes and elements among l
pub record After (ru : Rules) (c : ℕ) (l : Map) (to : Rules) : Type 0 where
  pub rebuild : to.rebuild ≡ ru.rebuild
  pub fresh : to.fresh ≡ ru.fresh
  pub nodes : ru.nodes ≤ to.nodes + c
  pub keys : ru.keys ≤ to.keys + size l
  pub least : (k : ℕ) → ru.least ≤ k → EachKey (λ x. x < k) l → to.least ≤ k

-- events pass the rules and are these items
pub record Passes (m : Mem) (ru : Rules) (es : List Event) (is : List Item) (c : ℕ) (l : Map) : Type 0 where
  pub to : Rules
  pub after : After ru c l to
  pub passes : (rest : List Event) → items m ru (es ++ rest) ≡ is ++ items m to rest

pub after_none : (ru : Rules) (c : ℕ) (l : Map) → After ru c l ru
after_none ru c l = record { rebuild = refl; fresh = refl; nodes = omega arith; keys = omega arith; least = λ k h e. h }

passes_none : (m : Mem) (ru : Rules) (c : ℕ) (l : Map) → Passes m ru [] [] c l
passes_none m ru c l = record { to = ru; after = after_none ru c l; passes = λ rest. refl }

-- one after the other
passes_both : (m : Mem) (ru : Rules) (es fs : List Event) (is js : List Item) (c d : ℕ) (l k : Map) (p : Passes m ru es is c l) → Passes m p.to fs js d k → Passes m ru (es ++ fs) (is ++ js) (c + d) (l ++ k)
passes_both m ru es fs is js c d l k p q =
    let a = p.after in
    let b = q.after in
    record {
      to = q.to;
      after = record {
        rebuild = b.rebuild ∙ a.rebuild;
        fresh = b.fresh ∙ a.fresh;
        nodes = omega (arith, a.nodes, b.nodes);
        keys = omega (arith, a.keys, b.keys, size-app l k);
        least = λ x h e. b.least x (a.least x h (all_left (λ y. y < x) l k e)) (all_right (λ y. y < x) l k e);
      };
      passes = λ rest.
          ap (items m ru) (append_assoc es fs rest) ∙ p.passes (fs ++ rest) ∙ ap (λ (y : List Item). is ++ y) (q.passes rest) ∙ sym (append_assoc is js (items m q.to rest));
    }

-- the rules still allow what comes after
allowed_rest : (ru : Rules) (c d : ℕ) (l k : Map) (to : Rules) → Allowed ru (c + d) (l ++ k) → EachKey (λ y. EachKey (λ x. x < y) l) k → After ru c l to → Allowed to d k
allowed_rest ru c d l k to a h t = record {
  nodes = omega (arith, a.nodes, t.nodes);
  keys = λ e. omega (arith, a.keys (sym t.rebuild ∙ e), t.keys, size-app l k);
  fresh = λ e. subst⁻¹ (λ (x : ℕ). EachKey (λ y. y ≡ x → ⊥) k) t.fresh (all_right (λ y. y ≡ ru.fresh → ⊥) l k (a.fresh (sym t.rebuild ∙ e)));
  least = both_all k (all_right (λ y. ru.least ≤ y) l k a.least) h;
}
  where
    both_all : (k : Map) → EachKey (λ y. ru.least ≤ y) k → EachKey (λ y. EachKey (λ x. x < y) l) k → EachKey (λ y. to.least ≤ y) k
    both_all [] p q = tt
    both_all (x ∷ k) p q = (t.least x.0 p.0 q.0, both_all k p.1 q.1)

allowed_first : (ru : Rules) (c d : ℕ) (l k : Map) → Allowed ru (c + d) (l ++ k) → Allowed ru c l
allowed_first ru c d l k a = record {
  nodes = omega (arith, a.nodes);
  keys = λ e. omega (arith, a.keys e, size-app l k);
  fresh = λ e. all_left (λ y. y ≡ ru.fresh → ⊥) l k (a.fresh e);
  least = all_left (λ y. ru.least ≤ y) l k a.least;
}

allowed_last : (ru : Rules) (c d : ℕ) (l k : Map) → Allowed ru (c + d) (l ++ k) → Allowed ru d k
allowed_last ru c d l k a = record {
  nodes = omega (arith, a.nodes);
  keys = λ e. omega (arith, a.keys e, size-app l k);
  fresh = λ e. all_right (λ y. y ≡ ru.fresh → ⊥) l k (a.fresh e);
  least = all_right (λ y. ru.least ≤ y) l k a.least;
}

-- less was read than might have been
passes_less : (m : Mem) (ru : Rules) (es : List Event) (is : List Item) (c d : ℕ) (l k : Map) → Passes m ru es is d k → Passes m ru es is (c + d) (l ++ k)
passes_less m ru es is c d l k p = record {
  to = p.to;
  after = record {
    rebuild = p.after.rebuild;
    fresh = p.after.fresh;
    nodes = omega (arith, p.after.nodes);
    keys = omega (arith, p.after.keys, size-app l k);
    least = λ x h e. p.after.least x h (all_right (λ y. y < x) l k e);
  };
  passes = p.passes;
}

-- a map that rises, parted
pub rises-left : (l k : Map) → Rises (l ++ k) → Rises l
rises-left [] k r = tt
rises-left (x ∷ l) k r = (all_left (λ y. x.0 < y) l k r.0, rises-left l k r.1)

pub rises-right : (l k : Map) → Rises (l ++ k) → Rises k
rises-right [] k r = r
rises-right (x ∷ l) k r = rises-right l k r.1

none_less : (k : Map) → EachKey (λ y. EachKey (λ x. x < y) []) k
none_less [] = tt
none_less (x ∷ k) = (tt, none_less k)

add_less : (x : ℕ × ℕ) (l k : Map) → EachKey (λ y. x.0 < y) k → EachKey (λ y. EachKey (λ z. z < y) l) k → EachKey (λ y. EachKey (λ z. z < y) (x ∷ l)) k
add_less x l [] p q = tt
add_less x l (y ∷ k) p q = ((p.0, q.0), add_less x l k p.1 q.1)

pub rises_across : (l k : Map) → Rises (l ++ k) → EachKey (λ y. EachKey (λ x. x < y) l) k
rises_across [] k r = none_less k
rises_across (x ∷ l) k r = add_less x l k (all_right (λ y. x.0 < y) l k r.0) (rises_across l k r.1)

-- one element
hold_allowed : (ru : Rules) (c k p : ℕ) → Allowed ru c ((k, p) ∷ []) → may_hold ru k ≡ true
unfolding may_hold
hold_allowed ru c k p a = and_true (le-leb ru.least k a.least.0) (by ru.rebuild (λ e. a.keys e) (λ e. a.fresh e))
  where
    by : (b : Bool) → (b ≡ true → 1 ≤ ru.keys) → (b ≡ true → EachKey (λ y. y ≡ ru.fresh → ⊥) ((k, p) ∷ [])) → pick b (leb 1 ru.keys && not (eqb k ru.fresh)) true ≡ true
    by false h g = refl
    by true h g = and_true (le-leb 1 ru.keys (h refl)) (ap not (ne_eqb k ru.fresh (g refl).0))

items_element : (m : Mem) (ru : Rules) (q k : ℕ) (rest : List Event) → may_hold ru k ≡ true → items m ru (Element q k ∷ rest) ≡ Held q k ∷ items m (holding ru k) rest
unfolding items
items_element m ru q k rest e = rw e

items_enter : (m : Mem) (ru : Rules) (r : ℕ) (n : Node) (rest : List Event) → may_enter m ru n ≡ true → items m ru (Enter r n ∷ rest) ≡ items m (entered ru) rest
unfolding items
items_enter m ru r n rest e = rw e

pass_element : (m : Mem) (ru : Rules) (c q k p : ℕ) → Allowed ru c ((k, p) ∷ []) → Passes m ru (Element q k ∷ []) (Held q k ∷ []) c ((k, p) ∷ [])
pass_element m ru c q k p a = record {
  to = holding ru k;
  after = record { rebuild = refl; fresh = refl; nodes = omega arith; keys = omega arith; least = λ x h e. omega (arith, e.0) };
  passes = λ rest. items_element m ru q k rest (hold_allowed ru c k p a);
}

-- a node is entered
module _ (R S : ℕ) (m : Mem) (sized : Sized R S m) where
  run_marked : (h : Head) (g : Forest) → Holds R m (sub h g) → full_run m.used (slot_place m.nodes h.start) (len g) ≡ true
  run_marked h g k = rw (records-are R S m sized) (full_run_is m.used (R + h.start) (len g) (λ x a b. view-bit R m x (one x a b)))
    where
      one : (x : ℕ) → R + h.start ≤ x → x < R + h.start + len g → view R m x bit ≡ 1
      one x a b =
          let p = run-parts R (cell_w bit) x (R + h.start) g in
          let c = cells_inside x g (R + h.start) a b in
          omega (arith, k x (omega arith) bit, bit_small R m x)

  enter_allowed : (ru : Rules) (h : Head) (g : Forest) → Holds R m (sub h g) → 1 ≤ ru.nodes → may_enter m ru (node_of h (len g)) ≡ true
  unfolding may_enter
  enter_allowed ru h g k a = and_true (le-leb 1 ru.nodes a) (by ru.rebuild)
    where
      by : (b : Bool) → pick b (full_run m.used (slot_place m.nodes h.start) (len g)) true ≡ true
      by false = refl
      by true = run_marked h g k

  -- a node, and then its slots
  pass_node : (s : Span) (q : ℕ) (h : Head) (g : Forest) (ru : Rules) → Holds R m (sub h g) → 1 ≤ ru.nodes
      → Passes m (entered ru) (span_f s h.start g (first_in s (model_in h.lo h.w (len g))) (count_in s (model_in h.lo h.w (len g)))) (held_f s h.start g (first_in s (model_in h.lo h.w (len g))) (count_in s (model_in h.lo h.w (len g)))) (nodes_f g) (flat_f g)
      → Passes m ru (span_b s q (sub h g)) (held_b s q (sub h g)) (nodes_b (sub h g)) (flat_b (sub h g))
  unfolding span_b held_b
  pass_node s q h g ru k a p = record {
    to = p.to;
    after = record { rebuild = p.after.rebuild; fresh = p.after.fresh; nodes = omega (arith, p.after.nodes); keys = p.after.keys; least = p.after.least };
    passes = λ rest. items_enter m ru h.at (node_of h (len g)) _ (enter_allowed ru h g k a) ∙ p.passes rest;
  }

  allowed_below : (ru : Rules) (c : ℕ) (l : Map) → Allowed ru (suc c) l → Allowed (entered ru) c l
  allowed_below ru c l a = record { nodes = omega (arith, a.nodes); keys = a.keys; fresh = a.fresh; least = a.least }

  no_branch : (s : Span) (q : ℕ) (ru : Rules) → Passes m ru (span_b s q null) (held_b s q null) 0 []
  unfolding span_b held_b
  no_branch s q ru = passes_none m ru 0 []

  a_leaf : (s : Span) (q : ℕ) (ru : Rules) (j p : ℕ) → Allowed ru 0 ((j, p) ∷ []) → Passes m ru (span_b s q (leaf j p)) (held_b s q (leaf j p)) 0 ((j, p) ∷ [])
  unfolding span_b held_b
  a_leaf s q ru j p a = pass_element m ru 0 q j p a

  no_slots : (s : Span) (q skip n : ℕ) (ru : Rules) → Passes m ru (span_f s q nil skip n) (held_f s q nil skip n) 0 []
  unfolding span_f held_f
  no_slots s q skip n ru = passes_none m ru 0 []

  skip_slot : (s : Span) (q : ℕ) (b : Branch) (f : Forest) (skip n : ℕ) (ru : Rules) → Passes m ru (span_f s (q + 1) f skip n) (held_f s (q + 1) f skip n) (nodes_f f) (flat_f f)
      → Passes m ru (span_f s q (cons b f) (suc skip) n) (held_f s q (cons b f) (suc skip) n) (nodes_f (cons b f)) (flat_f (cons b f))
  unfolding span_f held_f
  skip_slot s q b f skip n ru p = passes_less m ru _ _ (nodes_b b) (nodes_f f) (flat_b b) (flat_f f) p

  no_more : (s : Span) (q : ℕ) (b : Branch) (f : Forest) (ru : Rules) → Passes m ru (span_f s q (cons b f) zero zero) (held_f s q (cons b f) zero zero) (nodes_f (cons b f)) (flat_f (cons b f))
  unfolding span_f held_f
  no_more s q b f ru = passes_none m ru _ _

  take-slot : (s : Span) (q : ℕ) (b : Branch) (f : Forest) (n : ℕ) (ru : Rules) (p : Passes m ru (span_b s q b) (held_b s q b) (nodes_b b) (flat_b b)) → Passes m p.to (span_f s (q + 1) f zero n) (held_f s (q + 1) f zero n) (nodes_f f) (flat_f f)
      → Passes m ru (span_f s q (cons b f) zero (suc n)) (held_f s q (cons b f) zero (suc n)) (nodes_f (cons b f)) (flat_f (cons b f))
  unfolding span_f held_f
  take-slot s q b f n ru p t = passes_both m ru _ _ _ _ (nodes_b b) (nodes_f f) (flat_b b) (flat_f f) p t

  mutual
    pub pass_b : (b : Branch) (s : Span) (q : ℕ) (ru : Rules) → Holds R m b → Rises (flat_b b) → Allowed ru (nodes_b b) (flat_b b) → Passes m ru (span_b s q b) (held_b s q b) (nodes_b b) (flat_b b)
    pass_b null s q ru k r a = no_branch s q ru
    pass_b (leaf j p) s q ru k r a = a_leaf s q ru j p a
    pass_b (sub h g) s q ru k r a =
        pass_node s q h g ru k (omega (arith, a.nodes)) (pass_f g s h.start (R + h.start) _ _ (entered ru) (run_holds R m h g k) r (allowed_below ru (nodes_f g) (flat_f g) a))

    pub pass_f : (f : Forest) (s : Span) (q a skip n : ℕ) (ru : Rules) → HoldsF R m a f → Rises (flat_f f) → Allowed ru (nodes_f f) (flat_f f) → Passes m ru (span_f s q f skip n) (held_f s q f skip n) (nodes_f f) (flat_f f)
    pass_f nil s q a skip n ru k r w = no_slots s q skip n ru
    pass_f (cons b f) s q a (suc skip) n ru k r w =
        skip_slot s q b f skip n ru (pass_f f s (q + 1) (a + 1) skip n ru (rest-holds R m a b f k) (rises-right (flat_b b) (flat_f f) r) (allowed_last ru (nodes_b b) (nodes_f f) (flat_b b) (flat_f f) w))
    pass_f (cons b f) s q a zero zero ru k r w = no_more s q b f ru
    pass_f (cons b f) s q a zero (suc n) ru k r w =
        let p = pass_b b s q ru (branch-holds R m a b f k) (rises-left (flat_b b) (flat_f f) r) (allowed_first ru (nodes_b b) (nodes_f f) (flat_b b) (flat_f f) w) in
        take-slot s q b f n ru p
        (pass_f f s (q + 1) (a + 1) zero n p.to (rest-holds R m a b f k) (rises-right (flat_b b) (flat_f f) r) (allowed_rest ru (nodes_b b) (nodes_f f) (flat_b b) (flat_f f) p.to w (rises_across (flat_b b) (flat_f f) r) p.after))
