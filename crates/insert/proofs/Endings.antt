-- Insert's ways out, in the order of its refusals, and what holds at the end of a path that met no damage: the slot is one of the pool's,
-- and the key there is one. Assumes nothing.
use mathlib.Core.Bool.{true, false}
use mathlib.Core.List.{List}
use mathlib.Core.Path.{◌≡◌, sym, ap, subst, ◌∙◌}
use Prim.Native.Nat.{ℕ, ◌<◌, ◌≤◌}
use native.Mathlib.Omega.{arith}
use borrow.Author.Tests.{eq-eqb, ne_eqb, lt-ltb, le-ltb}
use lib.ListN.{length, take}
use Rattle.counters.proofs.Traces.{traced_on_path}
use Rattle.insert.proofs.Leaves.{scratch_given}
use Rattle.insert.proofs.Standings.{leaves}
use Rattle.insert.specs.Inserting.{Insert, scratch_fits, fresh, settle_of, whole_of, unless_full, insert_end, insert_of, inserted}
use Rattle.insert.specs.Steps.{Ready, Sized, GoodPath, Ends}
use Rattle.std.specs.Prelude.{Err}
use Rattle.insert.specs.declared.Inserted.{Inserted}
use Rattle.laws.specs.declared.Refusal.TheVariants.{WrongSizes, OutOfRange, Held, Full, Damage}
use Rattle.pool.specs.declared.Rule.{Rule}
use Rattle.store.specs.declared.Changing.{Changing}
use Rattle.laws.specs.Keys.{key_bound}
use Rattle.pool.specs.Memory.{Mem}
use Rattle.rebuild.specs.Rebuilding.{Scratch, scratch}
use Rattle.store.proofs.Fitting.{fits_given, records_of, slots_of}
use Rattle.store.specs.Handles.{handle_fits}
use Rattle.store.specs.declared.Handle.{Handle}
use Rattle.walk.proofs.Paths.{Undamaged, path-short, path-good, path-sized, traced_end, traced_len, traced_whole, traced_at}
use Rattle.walk.proofs.Walks.{walk-key-within, walk-key_small, walk-empty-within}
use Rattle.walk.specs.Walks.{longest_path, walk_of, trace_of}
use Rattle.walk.specs.declared.End.TheVariants.{Empty, Key, Damage as EndDamage}
use Rattle.walk.specs.declared.Traced.{Traced}

-- what is known once the sizes and the key passed and there is space for one more
pub ready : (h : Handle) (k : ℕ) (m : Mem) (ks ps qs : List ℕ) → handle_fits h m ≡ true → scratch_fits h.capacity (scratch ks ps qs) ≡ true → k < key_bound → h.count < h.capacity
    → Ready h k m (scratch ks ps qs)
ready h k m ks ps qs f g lt space =
    let e = fits_given h m f in
    let r = records_of h m e in
    let s = slots_of h m e in
    let c = scratch_given h.capacity ks ps qs g in
    record {
      least = e.limits.capacity-least;
      most = e.limits.capacity-most;
      space = space;
      pools =
          record {
            mapped = omega (arith, r, s, e.pools.map_is);
            records = omega (arith, r, e.limits.records-most);
            slots = omega (arith, s, e.limits.slots-most);
          };
      keys = c.0;
      payloads = c.1;
      places = c.2;
      is_key = lt;
    }

-- the array of a traced path is as long as its type says
trace-array : (m : Mem) (root k : ℕ) → length (trace_of m root k).path.nodes ≡ longest_path
unfolding trace_of
trace-array m root k = path-sized (walk_of m root k).path

-- the end of the path
module _ (m : Mem) (root k : ℕ) (t : Traced) (is : t ≡ trace_of m root k) where
  traced_sized : Sized t.path
  traced_sized =
      let n : length t.path.nodes ≡ length (trace_of m root k).path.nodes = ap (λ (x : Traced). length x.path.nodes) is in
      let l = traced_len m root k t is in
      record { array = n ∙ trace-array m root k; short = rw l (path-short m k root) }

  traced_good : Undamaged t.end → GoodPath m t.path
  traced_good u i h =
      let e = traced_end m root k t is in
      let a = traced_at m root k t is i h in
      rw a (path-good m k root (subst Undamaged e u) i (rw (traced_len m root k t is) at h))

  pub empty-ends : (q : ℕ) → t.end ≡ Empty q → Ends k q false 0 t.path m
  empty-ends q e =
      let u : Undamaged t.end = subst Undamaged (sym e) tt in
      record {
        slot = walk-empty-within m k root q (sym (traced_end m root k t is) ∙ e);
        pair = record { first = λ z. absurd (no z); second = λ z. absurd (no z); apart = λ z. absurd (no z) };
        sized = traced_sized;
        on = traced_on_path m root k t is u;
        good = traced_good u;
      }
    where
      no : false ≡ true → ⊥
      no z = let y : ◌≡◌ {A = ℕ} 0 1 = cc in omega arith

  pub key-ends : (q j : ℕ) → t.end ≡ Key q j → k < key_bound → (j ≡ k → ⊥) → Ends k q true j t.path m
  key-ends q j e lt n =
      let u : Undamaged t.end = subst Undamaged (sym e) tt in
      let w = sym (traced_end m root k t is) ∙ e in
      record {
        slot = walk-key-within m k root q j w;
        pair = record { first = λ z. lt; second = λ z. walk-key_small m k root q j w; apart = λ z f. n (sym f) };
        sized = traced_sized;
        on = traced_on_path m root k t is u;
        good = traced_good u;
      }

-- the ways out
module _ (h : Handle) (k p : ℕ) (m : Mem) (s : Scratch) where
  pub insert-sizes : (r : Changing Inserted) → r ≡ record { answer = Err WrongSizes; handle = h } → handle_fits h m ≡ false → leaves r m s ≡ insert_of h k p m s
  unfolding insert_of inserted
  insert-sizes r e f = rw (e, f)

  module _ (fits : handle_fits h m ≡ true) where
    pub insert-scratch : (r : Changing Inserted) → r ≡ record { answer = Err WrongSizes; handle = h } → scratch_fits h.capacity s ≡ false → leaves r m s ≡ insert_of h k p m s
    unfolding insert_of inserted
    insert-scratch r e f = rw (e, fits, f)

    module _ (long : scratch_fits h.capacity s ≡ true) where
      pub insert-range : (r : Changing Inserted) → r ≡ record { answer = Err OutOfRange; handle = h } → key_bound ≤ k → leaves r m s ≡ insert_of h k p m s
      unfolding insert_of inserted
      insert-range r e f = rw (e, fits, long, le-ltb k key_bound f)

      module _ (low : k < key_bound) (t : Traced) (is : t ≡ trace_of m h.root k) where
        -- the walk's end decides
        at_end : insert_end h k p m s (take t.path.len t.path.nodes) t.end ≡ insert_of h k p m s
        unfolding insert_of
        at_end = rw (fits, long, lt-ltb k key_bound low, traced_whole m h.root k t is, traced_end m h.root k t is)

        pub insert-damage : (r : Changing Inserted) (c : Rule) → r ≡ record { answer = Err Damage; handle = h } → t.end ≡ EndDamage c → leaves r m s ≡ insert_of h k p m s
        unfolding insert_end inserted
        insert-damage r c e f = rw e (rw f at at_end)

        module _ (q : ℕ) (f : t.end ≡ Empty q) where
          pub insert-null-full : (r : Changing Inserted) → r ≡ record { answer = Err Full; handle = h } → h.capacity ≤ h.count → leaves r m s ≡ insert_of h k p m s
          unfolding insert_end unless_full inserted
          insert-null-full r e g = rw e (rw (f, le-ltb h.count h.capacity g) at at_end)

          pub insert-null : (x : Insert) → h.count < h.capacity → x ≡ settle_of h (fresh k p q false 0 (take t.path.len t.path.nodes)) m s → x ≡ insert_of h k p m s
          unfolding insert_end unless_full
          insert-null x g e = e ∙ rw (f, lt-ltb h.count h.capacity g) at at_end

        module _ (q j : ℕ) (f : t.end ≡ Key q j) where
          pub insert-held : (r : Changing Inserted) → r ≡ record { answer = Err Held; handle = h } → j ≡ k → leaves r m s ≡ insert_of h k p m s
          unfolding insert_end inserted
          insert-held r e g = rw e (rw (f, eq-eqb j k g) at at_end)

          module _ (other : j ≡ k → ⊥) where
            pub insert-full : (r : Changing Inserted) → r ≡ record { answer = Err Full; handle = h } → h.capacity ≤ h.count → leaves r m s ≡ insert_of h k p m s
            unfolding insert_end unless_full inserted
            insert-full r e g = rw e (rw (f, ne_eqb j k other, le-ltb h.count h.capacity g) at at_end)

            module _ (space : h.count < h.capacity) where
              length_is : length (take t.path.len t.path.nodes) ≡ t.path.len
              length_is = ap length (traced_whole m h.root k t is) ∙ sym (traced_len m h.root k t is)

              pub insert-whole : (x : Insert) → longest_path ≤ t.path.len → x ≡ whole_of h k p m s → x ≡ insert_of h k p m s
              unfolding insert_end unless_full
              insert-whole x g e = e ∙ rw (f, ne_eqb j k other, lt-ltb h.count h.capacity space, le-ltb (length (take t.path.len t.path.nodes)) longest_path (omega (arith, length_is))) at at_end

              pub insert-conflict : (x : Insert) → t.path.len < longest_path → x ≡ settle_of h (fresh k p q true j (take t.path.len t.path.nodes)) m s → x ≡ insert_of h k p m s
              unfolding insert_end unless_full
              insert-conflict x g e = e ∙ rw (f, ne_eqb j k other, lt-ltb h.count h.capacity space, lt-ltb (length (take t.path.len t.path.nodes)) longest_path (omega (arith, length_is))) at at_end
