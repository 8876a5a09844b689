-- Demand 1 holds. The orders are those of Refusals and Inserts; here is what a refused load, replace, delete or band leaves, by the picks
-- of each definition, and the theorem. Assumes nothing.
use Rattle.std.specs.Prelude.{Result, Ok, Err}
use Rattle.std.specs.Prelude.{None, Option, Some}
use mathlib.Core.Bool.{◌&&◌}
use mathlib.Core.List.{List, map}
use mathlib.Core.Path.{◌≡◌, refl, ◌∙◌}
use Prim.Native.Nat.{ℕ, ◌+◌, ◌≤◌}
use native.Mathlib.Omega.{arith}
use borrow.Author.Tests.{eqb-true}
use lib.Dec.{ltb, leb, eqb}
use lib.ListN.{length, get_or, drop, length-map}
use lib.Seq.{sets, sets-eq, drop_at}
use Rattle.demands.proofs.Inserts.{insert-order, insert-keeps, insert-rebuilt, insert-untouched}
use Rattle.demands.proofs.Refusals.{answers, pack-order, unpack-order, slot-order, model_order, load-order, lookup-order, replace-order, delete-order, band-order}
use Rattle.demands.specs.Demand1.{Refuses, Keeps, KeepsOutput, KeepsPast, PassesOn, Demand1}
use Rattle.delete.specs.Deleting.{delete_of}
use Rattle.desk.specs.Passing.{pass_sounding, pass_load, pass_looked, pass_change, pass_band, pass_insert}
use Rattle.desk.specs.declared.LookedAnswer.{LookedAnswer}
use Rattle.edge.specs.Passing.{pass_key, pass_slot, pass_model}
use Rattle.edge.specs.declared.ModelAnswer.{ModelAnswer}
use Rattle.laws.proofs.Tests.{both, pick_in, and_both}
use Rattle.laws.specs.Answers.{Answer, not_held, not_rising}
use Rattle.laws.specs.Keys.{key_bound}
use Rattle.listing.proofs.Keys.{listing_ruled}
use Rattle.listing.proofs.Listings.{listing-fits}
use Rattle.listing.specs.Listing.{Listing, listing}
use Rattle.pool.specs.Memory.{Mem, records_in, payload_word}
use Rattle.store.specs.Bands.{band_rules, band_items, band_out, band_of}
use Rattle.store.specs.Calls.{Call, call, search_of, answer_by, replace_of}
use Rattle.store.specs.Handles.{handle_fits, no_handle}
use Rattle.store.specs.Loading.{first_fault, load_fits, load_built, load_tree, load_list, load_of}
use Rattle.store.specs.declared.Fault.{Fault}
use Rattle.store.specs.declared.Fault.TheVariants.{OutOfRange as FaultRange, NotRising}
use Rattle.store.specs.declared.Handle.{Handle}
use Rattle.laws.specs.declared.Refusal.{Refusal}
use Rattle.store.specs.declared.Held.{Held}
use Rattle.walk.specs.declared.Span.TheVariants.{Between}

-- load
module _ (c : ℕ) (ks ps : List ℕ) (m : Mem) where
  built-keeps : (b : Option ℕ) (after : Mem) → Keeps no_handle m (load_built c (length ks) m b after)
  unfolding load_built
  built-keeps (Some r) after = λ n. absurd (n refl)
  built-keeps None after = λ n. (refl, refl)

  list-keeps : (f : Option Fault) → Keeps no_handle m (load_list c ks ps m f)
  unfolding load_list load_tree
  list-keeps None = built-keeps _ _
  list-keeps (Some FaultRange) = λ n. (refl, refl)
  list-keeps (Some (NotRising p)) = λ n. (refl, refl)

  load-keeps : Keeps no_handle m (load_of c ks ps m)
  unfolding load_of
  load-keeps =
      pick_in (Keeps no_handle m) (load_fits c ks ps m) _ _
      (pick_in (Keeps no_handle m) (leb (length ks) c) _ _ (list-keeps (first_fault ks)) (λ n. (refl, refl)))
      (λ n. (refl, refl))

-- replace and delete: what is made of a search keeps all unless the key was found
module _ (h : Handle) (m : Mem) where
  search_keeps : (found : ℕ → ℕ → Call) → ((q v : ℕ) → Keeps h m (found q v)) → (s : Result Held Refusal) → Keeps h m (answer_by (λ a. call a h m) found s)
  search_keeps found f (Ok x) = f x.slot x.visits
  search_keeps found f (Err e) = λ n. (refl, refl)

  replace-keeps : (k p : ℕ) → Keeps h m (replace_of h k p m)
  unfolding replace_of
  replace-keeps k p = search_keeps _ (λ q v n. absurd (n refl)) (search_of h k m)

  delete-keeps : (k : ℕ) → Keeps h m (delete_of h k m)
  unfolding delete_of
  delete-keeps k = search_keeps _ (λ q v. pick_in (Keeps h m) (leb 1 h.count) _ _ (λ n. absurd (n refl)) (λ n. (refl, refl))) (search_of h k m)

-- band
module _ (h : Handle) (u v : ℕ) (m : Mem) (ks ps : List ℕ) where
  out-keeps : (l : Listing) → KeepsOutput ks ps (band_out m l ks ps)
  unfolding band_out
  out-keeps l = pick_in (KeepsOutput ks ps) l.sound _ _ (λ n. absurd (n refl)) (λ n. (refl, refl))

  band-keeps : KeepsOutput ks ps (band_of h u v m ks ps)
  unfolding band_of
  band-keeps =
      pick_in (KeepsOutput ks ps) (handle_fits h m && eqb (length ks) (length ps)) _ _
      (pick_in (KeepsOutput ks ps) (ltb u key_bound && ltb v key_bound) _ _
      (pick_in (KeepsOutput ks ps) (leb u v) _ _ (out-keeps (listing u v (length ks) (band_items h u v m))) (λ n. (refl, refl)))
      (λ n. (refl, refl)))
      (λ n. (refl, refl))

  -- what is written from the front leaves the rest
  past_written : (n : ℕ) (l vs : List ℕ) → length vs ≡ n → n ≤ length l → drop n (sets l 0 vs) ≡ drop n l
  past_written n l vs e f =
      let z : 0 + length vs ≡ n = omega arith in
      rw (sets-eq vs l 0 (omega arith), z) (drop_at vs (drop n l) n e)

  band_paired : length (listing u v (length ks) (band_items h u v m)).places ≡ length (listing u v (length ks) (band_items h u v m)).keys
  unfolding band_items
  band_paired = (listing_ruled m u v (length ks) (band_rules (records_in m.nodes)) (Between u v) 0 h.root).paired

  out-past : length ks ≡ length ps → KeepsPast ks ps (band_out m (listing u v (length ks) (band_items h u v m)) ks ps)
  unfolding band_out
  out-past e =
      let l = listing u v (length ks) (band_items h u v m) in
      let f : length l.keys ≤ length ks = listing-fits u v (band_items h u v m) (length ks) in
      pick_in (KeepsPast ks ps) l.sound _ _ (
        past_written (length l.keys) ks l.keys refl f,
        past_written (length l.keys) ps (map (λ (q : ℕ). get_or m.slots (payload_word q) 0) l.places) (length-map l.places (λ (q : ℕ). get_or m.slots (payload_word q) 0) ∙ band_paired) (omega arith),
      )
      (refl, refl)

  band-past : KeepsPast ks ps (band_of h u v m ks ps)
  unfolding band_of
  band-past =
      both (handle_fits h m && eqb (length ks) (length ps))
      (λ e.
      let s : length ks ≡ length ps = eqb-true (length ks) (length ps) (and_both (handle_fits h m) (eqb (length ks) (length ps)) e).1 in
      rw e
      (pick_in (KeepsPast ks ps) (ltb u key_bound && ltb v key_bound) _ _
      (pick_in (KeepsPast ks ps) (leb u v) _ _ (out-past s) (refl, refl))
      (refl, refl)))
      (λ e. rw e (refl, refl))

-- the C libraries
model_passes : (a : Answer ℕ) → (pass_model a).number ≡ a.number
unfolding pass_model
model_passes a = pick_in (λ (x : ModelAnswer). x.number ≡ a.number) (eqb a.number not_rising) _ _ refl refl

looked_passes : (a : Answer ℕ) → (pass_looked a).number ≡ a.number
unfolding pass_looked
looked_passes a = pick_in (λ (x : LookedAnswer). x.number ≡ a.number) (eqb a.number not_held) _ _ refl refl

passes_on : PassesOn
unfolding pass_key pass_slot pass_sounding pass_load pass_change pass_band pass_insert
passes_on = record {
  pack = λ a. refl;
  slot-choice = λ a. refl;
  model-choice = model_passes;
  unpack = λ a. refl;
  lookup = looked_passes;
  load = λ x. (refl, refl, refl);
  change = λ x. (refl, refl, refl);
  band = λ x. (refl, refl, refl);
  insert = λ x. (refl, refl, refl, refl);
}

-- an order tells the numbers too
refuses : Refuses
refuses = record {
  pack = λ depth number. answers refl (pack-order depth number);
  unpack = λ key. answers refl (unpack-order key);
  slot-choice = λ key m. answers refl (slot-order key m);
  model-choice = λ bytes. answers refl (model_order bytes);
  load = λ c ks ps m. answers refl (load-order c ks ps m);
  lookup = λ h k m. answers refl (lookup-order h k m);
  replace = λ h k p m. answers refl (replace-order h k p m);
  delete = λ h k m. answers refl (delete-order h k m);
  band = λ h u v m ks ps. answers refl (band-order h u v m ks ps);
  insert = λ h k p m s. answers refl (insert-order h k p m s);
}

pub demand_1 : Demand1
demand_1 = record {
  refuses = refuses;
  changes_nothing =
      record {
        load = load-keeps;
        replace = λ h k p m. replace-keeps h m k p;
        delete = λ h k m. delete-keeps h m k;
        band = band-keeps;
        past = band-past;
        insert = λ h k p m s. insert-keeps h m s k p;
      };
  scratch_as_said = record { rebuilt = insert-rebuilt; untouched = λ h k p m s. insert-untouched h s m k p };
  passes_on = passes_on;
}
