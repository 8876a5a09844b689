-- The search that lookup, replace and delete begin with: a law for each way out, that the slot found is one of the pool's, and
-- lookup and replace as what they make of the search. Assumes nothing.
use mathlib.Core.Bool.{true, false}
use mathlib.Core.List.{[], ◌∷◌}
use mathlib.Core.Path.{◌≡◌, refl, ap, subst}
use Prim.Native.Nat.{ℕ, ◌<◌, ◌≤◌}
use native.Mathlib.Omega.{arith}
use borrow.Author.Tests.{eq-eqb, ne_eqb, lt-ltb, le-ltb}
use lib.Dec.{ltb, eqb}
use lib.ListN.{length, get_or, set}
use Rattle.laws.proofs.Tests.{both}
use Rattle.laws.specs.Answers.{done}
use Rattle.laws.specs.Keys.{key_bound}
use Rattle.pool.specs.Memory.{Mem, mem, payload_word, slots_in}
use Rattle.store.specs.Calls.{call, search_end, search_of, answer_by, lookup_of, replace_of}
use Rattle.store.specs.Handles.{handle_fits}
use Rattle.std.specs.Prelude.{Result, Ok, Err}
use Rattle.laws.specs.declared.Refusal.{Refusal}
use Rattle.laws.specs.declared.Refusal.TheVariants.{WrongSizes, OutOfRange, NotHeld}
use Rattle.store.specs.declared.Handle.{Handle}
use Rattle.store.specs.declared.Held.{Held}
use Rattle.walk.proofs.Walks.{walk-key-within}
use Rattle.walk.specs.Walks.{walk_of, follow_of}
use Rattle.walk.specs.declared.End.{End}
use Rattle.walk.specs.declared.End.TheVariants.{Empty, Key, Damage as EndDamage}
use Rattle.walk.specs.declared.Followed.{Followed}

pub search_same : (k v q j : ℕ) → j ≡ k → Ok (record { slot = q; visits = v }) ≡ search_end k v (Key q j)
unfolding search_end
search_same k v q j e = rw (eq-eqb j k e)

pub search_other : (k v q j : ℕ) → (j ≡ k → ⊥) → Err (NotHeld v) ≡ search_end k v (Key q j)
unfolding search_end
search_other k v q j e = rw (ne_eqb j k e)

module _ (h : Handle) (k : ℕ) (m : Mem) where
  pub search_sizes : handle_fits h m ≡ false → Err WrongSizes ≡ search_of h k m
  unfolding search_of
  search_sizes e = rw e

  pub search_range : handle_fits h m ≡ true → key_bound ≤ k → Err OutOfRange ≡ search_of h k m
  unfolding search_of
  search_range e le = rw (e, le-ltb k key_bound le)

  -- the walk's end decides
  pub search_ends : handle_fits h m ≡ true → k < key_bound → (f : Followed) → f ≡ follow_of m h.root k → (e : End) → f.end ≡ e → (s : Result Held Refusal) → s ≡ search_end k f.visits e → s ≡ search_of h k m
  unfolding search_of follow_of
  search_ends p lt f q e r s u = rw (p, lt-ltb k key_bound lt, u, ← r, q)

  -- the slot found is one of the pool's
  end-within : (x : End) → (walk_of m h.root k).end ≡ x → (v : ℕ) (f : Held) → search_end k v x ≡ Ok f → f.slot < slots_in m.slots
  unfolding search_end
  end-within (Empty q) e v f a = absurd (let z : ◌≡◌ {A = ℕ} 0 1 = cc in omega arith)
  end-within (Key q j) e v f a =
      both (eqb j k)
      (λ t.
      let s : Ok (record { slot = q; visits = v }) ≡ Ok f = rw t at a in
      let o : record { slot = q; visits = v } ≡ f = cc in
      let z : q ≡ f.slot = ap (λ (x : Held). x.slot) o in
      subst (λ (y : ℕ). y < slots_in m.slots) z (walk-key-within m k h.root q j e))
      (λ t. let s : Err (NotHeld v) ≡ Ok f = rw t at a in absurd (let z : ◌≡◌ {A = ℕ} 0 1 = cc in omega arith))
  end-within (EndDamage c) e v f a = absurd (let z : ◌≡◌ {A = ℕ} 0 1 = cc in omega arith)

  pub search_within : (f : Held) → search_of h k m ≡ Ok f → f.slot < slots_in m.slots
  unfolding search_of
  search_within f e =
      both (handle_fits h m)
      (λ p.
      both (ltb k key_bound)
      (λ g. end-within (walk_of m h.root k).end refl (length (walk_of m h.root k).path) f (rw (p, g) at e))
      (λ g. let s : Err OutOfRange ≡ Ok f = rw (p, g) at e in absurd (let z : ◌≡◌ {A = ℕ} 0 1 = cc in omega arith)))
      (λ p. let s : Err WrongSizes ≡ Ok f = rw p at e in absurd (let z : ◌≡◌ {A = ℕ} 0 1 = cc in omega arith))

  -- each call is what it makes of the search
  module _ (s : Result Held Refusal) (e : s ≡ search_of h k m) where
    pub lookup_by : answer_by (λ a. a) (λ q v. done (get_or m.slots (payload_word q) 0 ∷ v ∷ [])) s ≡ lookup_of h k m
    unfolding lookup_of
    lookup_by = rw e

    pub replace_by : (p : ℕ) → answer_by (λ a. call a h m) (λ q v. call (done []) h (mem m.nodes (set m.slots (payload_word q) p) m.used)) s ≡ replace_of h k p m
    unfolding replace_of
    replace_by p = rw e
