-- Each operation's step put together: from what its call leaves and what was printed, the whole state and text. Assumes nothing.
use mathlib.Core.List.{List}
use mathlib.Core.Path.{◌≡◌}
use Prim.Native.Nat.{ℕ}
use Rattle.delete.specs.Deleting.{delete_of}
use Rattle.insert.specs.Inserting.{insert_of}
use Rattle.lines.specs.Lines.{Text, write}
use Rattle.lines.specs.declared.Operation.{Operation}
use Rattle.lines.specs.declared.Operation.TheVariants.{Insert as Inserts, Delete, Lookup, Band as Lists, Replace}
use Rattle.pool.specs.Memory.{Mem}
use Rattle.rebuild.specs.Rebuilding.{Scratch}
use Rattle.store.specs.Bands.{band_of}
use Rattle.store.specs.Calls.{lookup_of, replace_of}
use Rattle.store.specs.declared.Handle.{Handle}
use Rattle.operations.specs.Printing.{answer_line, band_lines}
use Rattle.operations.specs.Stepping.{State, state, first_key, second_key, payload, step_of, stepped, write_step}

module _ (o : Operation) (body : List ℕ) (s : State) (t u : Text) (k : ℕ) (key : k ≡ first_key body) where
  pub insert_steps : (p : ℕ) → p ≡ payload body → o ≡ Inserts → (h : Handle) (m : Mem) (c : Scratch)
      → h ≡ (insert_of s.handle k p s.memory s.scratch).handle
      → m ≡ (insert_of s.handle k p s.memory s.scratch).memory
      → c ≡ (insert_of s.handle k p s.memory s.scratch).scratch
      → u ≡ write t (answer_line 1 (insert_of s.handle k p s.memory s.scratch).answer)
      → stepped (state h m c s.keys s.payloads) u ≡ write_step (step_of o body s) t
  unfolding step_of
  insert_steps p pay e h m c eh em ec eu = rw (eh, em, ec, eu, e, key, pay)

  pub delete_steps : o ≡ Delete → (h : Handle) (m : Mem)
      → h ≡ (delete_of s.handle k s.memory).handle
      → m ≡ (delete_of s.handle k s.memory).memory
      → u ≡ write t (answer_line 2 (delete_of s.handle k s.memory).answer)
      → stepped (state h m s.scratch s.keys s.payloads) u ≡ write_step (step_of o body s) t
  unfolding step_of
  delete_steps e h m eh em eu = rw (eh, em, eu, e, key)

  pub replace_steps : (p : ℕ) → p ≡ payload body → o ≡ Replace → (h : Handle) (m : Mem)
      → h ≡ (replace_of s.handle k p s.memory).handle
      → m ≡ (replace_of s.handle k p s.memory).memory
      → u ≡ write t (answer_line 5 (replace_of s.handle k p s.memory).answer)
      → stepped (state h m s.scratch s.keys s.payloads) u ≡ write_step (step_of o body s) t
  unfolding step_of
  replace_steps p pay e h m eh em eu = rw (eh, em, eu, e, key, pay)

  pub lookup_steps : o ≡ Lookup → u ≡ write t (answer_line 3 (lookup_of s.handle k s.memory)) → stepped s u ≡ write_step (step_of o body s) t
  unfolding step_of
  lookup_steps e eu = rw (eu, e, key)

  pub band_steps : (v : ℕ) → v ≡ second_key body → o ≡ Lists → (ks ps : List ℕ)
      → ks ≡ (band_of s.handle k v s.memory s.keys s.payloads).keys
      → ps ≡ (band_of s.handle k v s.memory s.keys s.payloads).payloads
      → u ≡ write t (band_lines (band_of s.handle k v s.memory s.keys s.payloads))
      → stepped (state s.handle s.memory s.scratch ks ps) u ≡ write_step (step_of o body s) t
  unfolding step_of
  band_steps v second e ks ps ek ep eu = rw (ek, ep, eu, e, key, second)
