-- Which refusals of a call tell something besides: a lookup's 6 alone; no refusal of a band or of an insert. Assumes nothing.
use Rattle.std.proofs.Common.{arith, ◌≡◌, ℕ, ◌&&◌, Bool, true, false, List, [], ◌∷◌, ltb, leb, eqb, length, get_or, refl, Option, Some, None, Result, Ok, Err}
use Rattle.desk.specs.Passing.{pass_looked}
use Rattle.insert.specs.Inserting.{Insert, insertion as inserting, scratch_fits, Fresh, fresh, standing, replaced, tidy_ends, tidy_of, pair_ends, settle_at, settle_of, whole_ends, whole_of, unless_full, insert_end, insert_of}
use Rattle.laws.specs.Answers.{Answer, done, refused, refused_with, not_held}
use Rattle.laws.specs.Keys.{key_bound}
use Rattle.laws.specs.Pick.{pick}
use Rattle.laws.specs.Refusals.{number_of, refusal, told_by}
use Rattle.laws.specs.declared.Refusal.{Refusal}
use Rattle.laws.specs.declared.Refusal.TheVariants.{WrongSizes, OutOfRange, Reversed, NotRising, Held, NotHeld, Full, NoRoom, Damage}
use Rattle.listing.specs.Listing.{listing as list}
use Rattle.pool.specs.Memory.{Mem, payload_word}
use Rattle.rebuild.specs.Rebuilding.{Scratch, sound_below}
use Rattle.store.specs.Bands.{Band, band, band_items, band_out, band_of}
use Rattle.store.specs.Calls.{search_end, search_of, answer_by, lookup_of}
use Rattle.store.specs.Handles.{handle_fits}
use Rattle.store.specs.declared.Handle.{Handle}
use Rattle.store.specs.declared.Held.{Held as Place}
use Rattle.walk.specs.Walks.{longest_path}
use Rattle.walk.specs.declared.End.{End}
use Rattle.walk.specs.declared.End.TheVariants.{Empty, Key, Damage as EndDamage}

-- refused with nothing besides, but for the number n
abbrev pub Bare : ℕ → Answer ℕ → Type 0
Bare n a = (a.number ≡ 0 → ⊥) → (a.number ≡ n → ⊥) → a.values ≡ []

done-bare : (n : ℕ) (vs : List ℕ) → Bare n (done vs)
done-bare n vs = λ z _. absurd (z refl)

refused-bare : (n x : ℕ) → Bare n (refused x)
refused-bare n x = λ _ _. refl

pick-bare : {X : Type 0} (n : ℕ) (f : X → Answer ℕ) (b : Bool) (x y : X) → Bare n (f x) → Bare n (f y) → Bare n (f (pick b x y))
pick-bare n f true x y p q = p
pick-bare n f false x y p q = q

-- lookup
module _ (h : Handle) (k : ℕ) (m : Mem) where
  found : Result Place Refusal → Answer ℕ
  found s = answer_by (λ a. a) (λ q v. done (get_or m.slots (payload_word q) 0 ∷ v ∷ [])) s

  end-bare : (v : ℕ) (e : End) → Bare not_held (found (search_end k v e))
  unfolding search_end found
  end-bare v (Empty q) = λ z n. absurd (n refl)
  end-bare v (Key q j) = pick-bare not_held found (eqb j k) (Ok (record { slot = q; visits = v })) (Err (NotHeld v)) (done-bare not_held _) (λ z n. absurd (n refl))
  end-bare v (EndDamage c) = refused-bare not_held _

  pub lookup-bare : Bare not_held (lookup_of h k m)
  unfolding lookup_of search_of found
  lookup-bare =
      pick-bare not_held found (handle_fits h m) _ (Err WrongSizes)
      (pick-bare not_held found (ltb k key_bound) _ (Err OutOfRange) (end-bare _ _) (refused-bare not_held _))
      (refused-bare not_held _)

-- band
band-answer : Band → Answer ℕ
band-answer b = b.answer

pub band-bare : (h : Handle) (u v : ℕ) (m : Mem) (ks ps : List ℕ) → Bare 0 (band_of h u v m ks ps).answer
unfolding band_of band_out band-answer
band-bare h u v m ks ps =
    pick-bare 0 band-answer (handle_fits h m && eqb (length ks) (length ps)) _ (band (refused 1) ks ps)
    (pick-bare 0 band-answer (ltb u key_bound && ltb v key_bound) _ (band (refused 2) ks ps)
    (pick-bare 0 band-answer (leb u v) _ (band (refused 3) ks ps)
    (pick-bare 0 band-answer (list u v (length ks) (band_items h u v m)).sound _ (band (refused 9) ks ps) (done-bare 0 _) (refused-bare 0 _))
    (refused-bare 0 _))
    (refused-bare 0 _))
    (refused-bare 0 _)

-- insert
insert-answer : Insert → Answer ℕ
insert-answer i = i.answer

module _ (h : Handle) (m : Mem) (s : Scratch) where
  tidy-bare : (f : Fresh) (i q c : ℕ) (b : Option ℕ) (n : Mem) (t : Scratch) → Bare 0 (tidy_ends h f i q c b n t).answer
  unfolding tidy_ends replaced standing
  tidy-bare f i q c (Some r) n t = done-bare 0 _
  tidy-bare f i q c None n t = done-bare 0 _

  pair-bare : (f : Fresh) (i q : ℕ) (b : Option ℕ) (n : Mem) → Bare 0 (pair_ends h f i q m s b n).answer
  unfolding pair_ends tidy_of standing insert-answer
  pair-bare f i q (Some c) n = pick-bare 0 insert-answer (ltb i (length f.path)) _ _ (tidy-bare f i q c _ _ _) (done-bare 0 _)
  pair-bare f i q None n = refused-bare 0 _

  settle-bare : (f : Fresh) → Bare 0 (settle_of h f m s).answer
  unfolding settle_of settle_at insert-answer
  settle-bare f = pick-bare 0 insert-answer _ _ (inserting (refused 9) h m s) (pair-bare f _ _ _ _) (refused-bare 0 _)

  whole_ends-bare : (b : Option ℕ) (n : Mem) (t : Scratch) → Bare 0 (whole_ends h m b n t).answer
  unfolding whole_ends
  whole_ends-bare (Some r) n t = done-bare 0 _
  whole_ends-bare None n t = refused-bare 0 _

  whole-bare : (k p : ℕ) → Bare 0 (whole_of h k p m s).answer
  unfolding whole_of insert-answer
  whole-bare k p = pick-bare 0 insert-answer (sound_below h.capacity k 0 h.root m) _ (inserting (refused 9) h m s) (whole_ends-bare _ _ _) (refused-bare 0 _)

  full-bare : (x : Insert) → Bare 0 x.answer → Bare 0 (unless_full h m s x).answer
  unfolding unless_full insert-answer
  full-bare x b = pick-bare 0 insert-answer (ltb h.count h.capacity) x (inserting (refused 7) h m s) b (refused-bare 0 _)

  insert_end-bare : (k p : ℕ) (path : List ℕ) (e : End) → Bare 0 (insert_end h k p m s path e).answer
  unfolding insert_end insert-answer
  insert_end-bare k p path (Empty q) = full-bare (settle_of h (fresh k p q false 0 path) m s) (settle-bare _)
  insert_end-bare k p path (Key q j) =
      pick-bare 0 insert-answer (eqb j k) (inserting (refused 5) h m s) _ (refused-bare 0 _)
      (full-bare _ (pick-bare 0 insert-answer (ltb (length path) longest_path) _ _ (settle-bare _) (whole-bare k p)))
  insert_end-bare k p path (EndDamage c) = refused-bare 0 _

  pub insert-bare : (k p : ℕ) → Bare 0 (insert_of h k p m s).answer
  unfolding insert_of insert-answer
  insert-bare k p =
      pick-bare 0 insert-answer (handle_fits h m && scratch_fits h.capacity s) _ (inserting (refused 1) h m s)
      (pick-bare 0 insert-answer (ltb k key_bound) _ (inserting (refused 2) h m s) (insert_end-bare k p _ _) (refused-bare 0 _))
      (refused-bare 0 _)

-- A refusal that is bare passes with nothing but its number, and a lookup's with what it tells.
tells-one : {A : Type 0} (n x : ℕ) → (n ≡ 0 → ⊥) → Bare 0 (refused_with n (x ∷ [])) → A
tells-one n x z b = let e : x ∷ [] ≡ [] = b z z in absurd (let y : ◌≡◌ {A = ℕ} 0 1 = cc in omega arith)

pub bare-values : (e : Refusal) → Bare 0 (refusal e) → (refusal e).values ≡ []
bare-values WrongSizes b = refl
bare-values OutOfRange b = refl
bare-values Reversed b = refl
bare-values (NotRising p) b = tells-one 4 p (λ z. omega arith) b
bare-values Held b = refl
bare-values (NotHeld v) b = tells-one 6 v (λ z. omega arith) b
bare-values Full b = refl
bare-values NoRoom b = refl
bare-values Damage b = refl

pub looked-refused : (e : Refusal) → Bare not_held (refusal e) → record { number = number_of e; payload = 0; visits = told_by e } ≡ pass_looked (refusal e)
unfolding pass_looked
looked-refused WrongSizes b = refl
looked-refused OutOfRange b = refl
looked-refused Reversed b = refl
looked-refused (NotRising p) b = let e : p ∷ [] ≡ [] = b (λ z. omega arith) (λ z. omega arith) in absurd (let y : ◌≡◌ {A = ℕ} 0 1 = cc in omega arith)
looked-refused Held b = refl
looked-refused (NotHeld v) b = refl
looked-refused Full b = refl
looked-refused NoRoom b = refl
looked-refused Damage b = refl
