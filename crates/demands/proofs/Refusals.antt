-- Every call's answer goes by its causes, in their order: cause by cause, what the definition answers where this one holds and none before
-- it did. Assumes nothing.
use Rattle.std.specs.Prelude.{None, Option, Some, Result, Ok, Err}
use mathlib.Core.Bool.{Bool, true, false, ◌&&◌, not}
use mathlib.Core.List.{List, [], ◌∷◌, ◌++◌}
use mathlib.Core.Logic.{inl, inr}
use mathlib.Core.Path.{◌≡◌, refl, sym, ap, subst, ◌∙◌}
use Prim.Native.Nat.{ℕ, zero, suc, ◌/◌, ◌%◌, ◌≤◌}
use native.Mathlib.Omega.{arith}
use borrow.Author.Tests.{leb-true, leb-false, ltb-true, ltb-false, eqb-true, eqb-false, le-leb, lt-leb, lt-ltb, le-ltb}
use lib.Dec.{ltb, leb, eqb}
use lib.IntN.{ℤ}
use lib.ListN.{length, get_or, set}
use Rattle.build.specs.Building.{build}
use Rattle.demands.specs.Demand1.{Answers}
use Rattle.demands.specs.Refusals.{Cause, refuse, refuse_with, first_cause, GoesBy, OneOf, pack_causes, unpack_causes, slot_causes, model_causes, is_range, is_fall, place_of, is_roomless, load_causes, is_damage, holds_key, path_to, search_causes, delete_causes, band_causes}
use Rattle.delete.specs.Deleting.{one_less, delete_of}
use Rattle.laws.proofs.Tests.{both, pick_and, true_not_false}
use Rattle.laws.specs.Answers.{Answer, done, refused, refused_with, wrong_sizes, out_of_range, not_rising, not_held, no_room, damage}
use Rattle.laws.specs.Bytes.{key_bytes}
use Rattle.laws.specs.Keys.{key_bound}
use Rattle.laws.specs.Pick.{pick}
use Rattle.listing.specs.Listing.{listing}
use Rattle.model.specs.Choice.{most_keys, choice_over, model_choice}
use Rattle.model.specs.Slots.{in_range, slot_choice}
use Rattle.model.specs.declared.Model.{Model}
use Rattle.pool.specs.Memory.{Mem, mem, payload_word}
use Rattle.pool.specs.Writing.{put_null}
use Rattle.sounding.specs.Studio.{depth_in_range, number_in_range, pack_of, unpack_of}
use Rattle.store.specs.Bands.{band_items, band_out, band_of}
use Rattle.store.specs.Calls.{call, search_end, search_of, answer_by, lookup_of, replace_of}
use Rattle.store.specs.Handles.{handle_fits}
use Rattle.store.specs.Loading.{emptied, first_fault, load_fits, load_built, load_tree, load_list, load_of}
use Rattle.store.specs.declared.Fault.{Fault}
use Rattle.store.specs.declared.Fault.TheVariants.{OutOfRange as FaultRange, NotRising as FaultFall}
use Rattle.store.specs.declared.Handle.{Handle}
use Rattle.laws.specs.declared.Refusal.{Refusal}
use Rattle.laws.specs.declared.Refusal.TheVariants.{OutOfRange, WrongSizes, NotHeld, Damage}
use Rattle.store.specs.declared.Held.{Held}
use Rattle.walk.specs.Walks.{longest_path}
use Rattle.walk.specs.declared.End.{End}
use Rattle.walk.specs.declared.End.TheVariants.{Empty, Key, Damage as EndDamage}

-- a cause and those after it
pub in_turn : {A : Type 0} (n : ℕ) (vs : List A) (b : Bool) (cs : List (Cause A)) (a : Answer A)
    → (b ≡ true → a ≡ refused_with n vs) → (b ≡ false → GoesBy cs a) → GoesBy (refuse_with n vs b ∷ cs) a
unfolding first_cause
in_turn n vs true cs a f g = f refl
in_turn n vs false cs a f g = g refl

-- a cause that is a test that fails
pub unless : {A : Type 0} (n : ℕ) (vs : List A) (b : Bool) (cs : List (Cause A)) (a : Answer A)
    → (b ≡ false → a ≡ refused_with n vs) → (b ≡ true → GoesBy cs a) → GoesBy (refuse_with n vs (not b) ∷ cs) a
unfolding first_cause
unless n vs true cs a f g = g refl
unless n vs false cs a f g = f refl

pub none-holds : {A : Type 0} (a : Answer A) → a.number ≡ 0 → GoesBy [] a
unfolding first_cause
none-holds a e = λ i. record { number = e i; values = a.values }

-- a cause that holds, or does not, by computation
pub at_once : {A : Type 0} (n : ℕ) (vs : List A) (cs : List (Cause A)) → GoesBy (refuse_with n vs true ∷ cs) (refused_with n vs)
unfolding first_cause
at_once n vs cs = refl

pub skip : {A : Type 0} (n : ℕ) (vs : List A) (cs : List (Cause A)) (a : Answer A) → GoesBy cs a → GoesBy (refuse_with n vs false ∷ cs) a
unfolding first_cause
skip n vs cs a e = e

-- the number of an answer that goes by its causes is 0 or one of theirs
abbrev pub is_in : ℕ → List ℕ → Bool
is_in x [] = false
is_in x (n ∷ ns) = pick (eqb x n) true (is_in x ns)

is_one_of : (x : ℕ) (ns : List ℕ) → is_in x ns ≡ true → OneOf x ns
is_one_of x [] e = let z : ◌≡◌ {A = ℕ} 0 1 = cc in omega arith
is_one_of x (n ∷ ns) e = both (eqb x n) (λ t. inl (eqb-true x n t)) (λ t. inr (is_one_of x ns (rw t at e)))

-- 0 and the numbers of the causes are among these
abbrev pub numbers_in : {A : Type 0} → List ℕ → List (Cause A) → Bool
numbers_in ns [] = is_in 0 ns
numbers_in ns (c ∷ cs) = pick (is_in c.number ns) (numbers_in ns cs) false

first-in : {A : Type 0} (ns : List ℕ) (cs : List (Cause A)) (vs : List A) → numbers_in ns cs ≡ true → OneOf (first_cause cs vs).number ns
unfolding first_cause
first-in ns [] vs h = is_one_of 0 ns h
first-in ns (c ∷ cs) vs h =
    let a = pick_and (is_in c.number ns) (numbers_in ns cs) h in
    both c.holds (λ t. rw t (is_one_of c.number ns a.0)) (λ t. rw t (first-in ns cs vs a.1))

pub answers : {A : Type 0} {ns : List ℕ} {cs : List (Cause A)} {a : Answer A} → numbers_in ns cs ≡ true → GoesBy cs a → Answers ns cs a
answers {A} {ns} {cs} {a} h e = record { number = rw e (first-in ns cs a.values h); order = e }

-- What an order means, for its reader. The number is the first cause's exactly where that holds, if no later cause has it; where it does
-- not hold, the rest decide; and the number is 0 exactly where no cause holds.
abbrev pub AllRefuse : {A : Type 0} → List (Cause A) → Type 0
AllRefuse [] = Unit
AllRefuse (c ∷ cs) = (c.number ≡ 0 → ⊥) × AllRefuse cs

abbrev pub NoneHolds : {A : Type 0} → List (Cause A) → Type 0
NoneHolds [] = Unit
NoneHolds (c ∷ cs) = (c.holds ≡ false) × NoneHolds cs

module _ {A : Type 0} (n : ℕ) (vs : List A) (b : Bool) (cs : List (Cause A)) (a : Answer A) (by : GoesBy (refuse_with n vs b ∷ cs) a) where
  pub the_rest_decide : b ≡ false → GoesBy cs a
  unfolding first_cause
  the_rest_decide f = rw f at by

  pub first_holds : b ≡ true → a ≡ refused_with n vs
  unfolding first_cause
  first_holds t = rw t at by

  pub first-exactly : (ns : List ℕ) → numbers_in ns cs ≡ true → (OneOf n ns → ⊥) → a.number ≡ n → b ≡ true
  first-exactly ns h out e =
      both b (λ t. t)
      (λ f.
      let g = the_rest_decide f in
      absurd (out (subst (λ (x : ℕ). OneOf x ns) (sym (ap (λ (y : Answer A). y.number) g) ∙ e) (first-in ns cs a.values h))))

pub done-exactly : {A : Type 0} (cs : List (Cause A)) (a : Answer A) → GoesBy cs a → AllRefuse cs → a.number ≡ 0 → NoneHolds cs
done-exactly [] a by r e = tt
done-exactly (c ∷ cs) a by r e =
    both c.holds
    (λ t. absurd (r.0 (sym (ap (λ (y : Answer _). y.number) (first_holds _ _ _ _ _ by t)) ∙ e)))
    (λ f. (f, done-exactly cs a (the_rest_decide _ _ _ _ _ by f) r.1 e))

-- the same test the other way round
pub not_below : (a b : ℕ) → leb b a ≡ true → ltb a b ≡ false
not_below a b e = le-ltb a b (leb-true b a e)

pub below : (a b : ℕ) → leb b a ≡ false → ltb a b ≡ true
below a b e = lt-ltb a b (leb-false b a e)

over : (a b : ℕ) → ltb b a ≡ true → leb a b ≡ false
over a b e = lt-leb a b (ltb-true b a e)

not_over : (a b : ℕ) → ltb b a ≡ false → leb a b ≡ true
not_over a b e = le-leb a b (ltb-false b a e)

positive : (n : ℕ) → (n ≡ 0 → ⊥) → 1 ≤ n
positive zero h = absurd (h refl)
positive (suc n) h = omega arith

-- the leaves
pub pack-order : (depth : ℤ) (number : ℕ) → GoesBy (pack_causes depth number) (pack_of depth number)
unfolding pack_of
pack-order depth number = unless _ _ (depth_in_range depth && number_in_range number) _ _ (λ e. rw e) (λ e. none-holds _ (rw e))

pub unpack-order : (key : ℕ) → GoesBy (unpack_causes key) (unpack_of key)
unfolding unpack_of
unpack-order key = in_turn _ _ _ _ _ (λ e. rw (not_below key key_bound e)) (λ e. none-holds _ (rw (below key key_bound e)))

pub slot-order : (key : ℕ) (m : Model) → GoesBy (slot_causes key m) (slot_choice key m)
unfolding slot_choice
slot-order key m =
    in_turn _ _ _ _ _ (λ e. rw (not_below key key_bound e))
    (λ e. unless _ _ (in_range m) _ _ (λ f. rw (below key key_bound e, f)) (λ f. none-holds _ (rw (below key key_bound e, f))))

pub model_order : (bytes : List ℕ) → GoesBy (model_causes bytes) (model_choice bytes)
unfolding model_choice choice_over
model_order bytes =
    unless _ _ (eqb (length bytes % key_bytes) 0) _ _ (λ e. rw e)
    (λ e.
    in_turn _ _ _ _ _ (λ f. rw (e, over (length bytes / key_bytes) most_keys f))
    (λ f.
    in_turn _ _ _ _ _ (λ g. rw (e, not_over (length bytes / key_bytes) most_keys f, g))
    (λ g. none-holds _ (rw (e, not_over (length bytes / key_bytes) most_keys f, g)))))

-- load
module _ (c : ℕ) (ks ps : List ℕ) (m : Mem) where
  built-order : (b : Option ℕ) (after : Mem) → GoesBy (refuse no_room (is_roomless b) ∷ []) (load_built c (length ks) m b after).answer
  unfolding load_built
  built-order (Some r) after = skip _ _ _ _ (none-holds _ refl)
  built-order None after = at_once _ _ _

  list-order : (f : Option Fault)
      → GoesBy (refuse out_of_range (is_range f) ∷ refuse_with not_rising (place_of f) (is_fall f) ∷ refuse no_room (is_roomless (build longest_path ks ps (emptied m)).built) ∷ []) (load_list c ks ps m f).answer
  unfolding load_list load_tree
  list-order None = skip _ _ _ _ (skip _ _ _ _ (built-order (build longest_path ks ps (emptied m)).built (build longest_path ks ps (emptied m)).memory))
  list-order (Some FaultRange) = at_once _ _ _
  list-order (Some (FaultFall p)) = skip _ _ _ _ (at_once _ _ _)

  pub load-order : GoesBy (load_causes c ks ps m) (load_of c ks ps m).answer
  unfolding load_of
  load-order =
      unless _ _ (load_fits c ks ps m) _ _ (λ e. rw e)
      (λ e.
      in_turn _ _ _ _ _ (λ f. rw (e, over (length ks) c f))
      (λ f. rw (e, not_over (length ks) c f) (list-order (first_fault ks))))

-- lookup, replace and delete begin with the same search
module _ (k v : ℕ) where
  ends_damaged : (x : End) → is_damage x ≡ true → search_end k v x ≡ Err Damage
  unfolding search_end
  ends_damaged (Empty q) e = absurd (true_not_false (sym e))
  ends_damaged (Key q j) e = absurd (true_not_false (sym e))
  ends_damaged (EndDamage c) e = refl

  ends-absent : (x : End) → is_damage x ≡ false → holds_key k x ≡ false → search_end k v x ≡ Err (NotHeld v)
  unfolding search_end
  ends-absent (Empty q) d e = refl
  ends-absent (Key q j) d e = rw e
  ends-absent (EndDamage c) d e = absurd (true_not_false d)

  ends_held : (x : End) → holds_key k x ≡ true → (q : ℕ) × (search_end k v x ≡ Ok (record { slot = q; visits = v }))
  unfolding search_end
  ends_held (Empty q) e = absurd (true_not_false (sym e))
  ends_held (Key q j) e = (q, rw e)
  ends_held (EndDamage c) e = absurd (true_not_false (sym e))

-- what is made of a search, F, with the causes that only a key held can meet
module _ (h : Handle) (k : ℕ) (m : Mem) (F : Result Held Refusal → Answer ℕ) (sizes : F (Err WrongSizes) ≡ refused wrong_sizes) (range : F (Err OutOfRange) ≡ refused out_of_range)
    (broken : F (Err Damage) ≡ refused damage) (absent : (v : ℕ) → F (Err (NotHeld v)) ≡ refused_with not_held (v ∷ [])) (rest : List (Cause ℕ))
    (found : (q v : ℕ) → GoesBy rest (F (Ok (record { slot = q; visits = v })))) where
  search_order : GoesBy (search_causes h k m ++ rest) (F (search_of h k m))
  unfolding search_of
  search_order =
      unless _ _ (handle_fits h m) _ _ (λ e. rw e sizes)
      (λ e.
      in_turn _ _ _ _ _ (λ f. rw (e, not_below k key_bound f) range)
      (λ f.
      in_turn _ _ _ _ _ (λ g. rw (e, below k key_bound f, ends_damaged k (length (path_to h k m).path) _ g) broken)
      (λ g.
      unless _ _ (holds_key k (path_to h k m).end) _ _ (λ i. rw (e, below k key_bound f, ends-absent k (length (path_to h k m).path) _ g i) (absent _))
      (λ i. let q = ends_held k (length (path_to h k m).path) (path_to h k m).end i in rw (e, below k key_bound f, q.1) (found q.0 _)))))

pub lookup-order : (h : Handle) (k : ℕ) (m : Mem) → GoesBy (search_causes h k m) (lookup_of h k m)
unfolding lookup_of
lookup-order h k m = search_order h k m (answer_by (λ a. a) (λ q v. done (get_or m.slots (payload_word q) 0 ∷ v ∷ []))) refl refl refl (λ v. refl) [] (λ q v. none-holds _ refl)

pub replace-order : (h : Handle) (k p : ℕ) (m : Mem) → GoesBy (search_causes h k m) (replace_of h k p m).answer
unfolding replace_of
replace-order h k p m =
    search_order h k m (λ s. (answer_by (λ a. call a h m) (λ q v. call (done []) h (mem m.nodes (set m.slots (payload_word q) p) m.used)) s).answer)
    refl refl refl (λ v. refl) [] (λ q v. none-holds _ refl)

pub delete-order : (h : Handle) (k : ℕ) (m : Mem) → GoesBy (delete_causes h k m) (delete_of h k m).answer
unfolding delete_of
delete-order h k m =
    search_order h k m
    (λ s.
    (answer_by (λ a. call a h m)
    (λ q v. pick (leb 1 h.count) (call (done []) (one_less h) (mem m.nodes (put_null m.slots q) m.used)) (call (refused damage) h m)) s).answer)
    refl refl refl (λ v. refl) (refuse damage (eqb h.count 0) ∷ [])
    (λ q v.
    in_turn _ _ _ _ _
    (λ e. rw (lt-leb 1 h.count (omega (arith, eqb-true h.count 0 e))))
    (λ e. none-holds _ (rw (le-leb 1 h.count (positive h.count (eqb-false h.count 0 e))))))

-- band
pub band-order : (h : Handle) (u v : ℕ) (m : Mem) (ks ps : List ℕ) → GoesBy (band_causes h u v m ks ps) (band_of h u v m ks ps).answer
unfolding band_of band_out
band-order h u v m ks ps =
    unless _ _ (handle_fits h m && eqb (length ks) (length ps)) _ _ (λ e. rw e)
    (λ e.
    unless _ _ (ltb u key_bound && ltb v key_bound) _ _ (λ f. rw (e, f))
    (λ f.
    in_turn _ _ _ _ _ (λ g. rw (e, f, over u v g))
    (λ g.
    unless _ _ (listing u v (length ks) (band_items h u v m)).sound _ _
    (λ i. rw (e, f, not_over u v g, i))
    (λ i. none-holds _ (rw (e, f, not_over u v g, i))))))
