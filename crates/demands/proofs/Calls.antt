-- Lookup, replace and delete on good memory: they answer as the map does. Assumes nothing.
use mathlib.Core.Bool.{Bool, true, false}
use mathlib.Core.List.{List, [], ◌∷◌, ◌++◌}
use mathlib.Core.Path.{◌≡◌, refl, sym, subst, subst⁻¹, ap, ◌∙◌}
use native.Mathlib.Nat.{add-zero}
use native.Mathlib.Omega.{arith}
use Prim.Native.Nat.{ℕ, suc, ◌+◌, ◌*◌, ◌-◌, ◌<◌, ◌≤◌, ◌^◌}
use lib.Dec.{eqb}
use lib.ListN.{length, get_or, set}
use lib.Seq.{set-get_or}
use borrow.Author.Tests.{eq-eqb, eqb-true, lt-ltb, le-leb}
use Rattle.delete.specs.Deleting.{one_less, delete_of}
use Rattle.laws.proofs.Tests.{both, true_not_false}
use Rattle.laws.specs.Answers.{Answer, done, refused_with, not_held}
use Rattle.laws.specs.Keys.{key_bound}
use Rattle.laws.specs.Pick.{pick}
use Rattle.pool.specs.Memory.{Mem, mem}
use Rattle.pool.specs.Writing.{put_null}
use Rattle.store.proofs.Fitting.{Limits, fits_given}
use Rattle.store.specs.Calls.{Call, call, search_end, search_of, answer_by, lookup_of, replace_of}
use Rattle.store.specs.declared.Handle.{Handle}
use Rattle.std.specs.Prelude.{Result, Ok, Err}
use Rattle.laws.specs.declared.Refusal.{Refusal}
use Rattle.laws.specs.declared.Refusal.TheVariants.{NotHeld}
use Rattle.store.specs.declared.Held.{Held}
use Rattle.walk.specs.Walks.{walk, walk_of}
use Rattle.demands.specs.Demand2.{visits, found_as, LookupAnswers, same, Changes, ReplaceAnswers, DeleteAnswers, root_of}
use Rattle.demands.specs.Map.{Map, EachKey, is, nil as none, member, lookup, insert, delete, update, size}
use Rattle.demands.specs.Paths.{path_b, graft_b, graft_end}
use Rattle.demands.specs.Placed.{Head, Branch, null, leaf, sub, Forest, flat_b, flat_f, in_slot, cell_w, cell_of, Frame, plug, Follows, pre_c, post_c, Good, Holds}
use Rattle.demands.specs.Stores.{ours}
use Rattle.demands.proofs.Around.{look_around, member_around, delete_around, insert_around, size-app}
use Rattle.demands.proofs.Changing.{still, up_still, put-good}
use Rattle.demands.proofs.Fitting.{good_kept, kept_good}
use Rattle.demands.proofs.Plugs.{End, flat_plug, pre_less, post_more}
use Rattle.demands.proofs.Walking.{Kept, place_of, records_on, records-length, end_to, walk-good, end-slot, holds-all}
use Rattle.demands.proofs.Ways.{Way, way, path-plug, graft_plug}

-- what the calls find on a key's way
abbrev pub search_as : ℕ → ℕ → ℕ → Branch → Result Held Refusal
search_as k v q null = Err (NotHeld v)
search_as k v q (leaf j p) = pick (eqb j k) (Ok (record { slot = q; visits = v })) (Err (NotHeld v))
search_as k v q (sub h g) = Err (NotHeld v)

search-end : (k v q : ℕ) (b : Branch) (e : End b) → search_end k v (end_to q b e) ≡ search_as k v q b
unfolding search_end
search-end k v q null e = refl
search-end k v q (leaf j p) e = refl
search-end k v q (sub h g) e = absurd e

module _ (h : Handle) (m : Mem) (t : Head) (g : Forest) (d : Good h m t g) (k : ℕ) (key : k < key_bound) where
  abbrev pub R : ℕ
  R = h.records

  abbrev pub S : ℕ
  S = h.slots

  pub on : Way R S m k t g
  on = way R S m k t g (good_kept h m t g d)

  pub path_is : path_b k (sub t g) ≡ records_on (on.first ∷ on.rest)
  path_is = ap (path_b k) on.eq ∙ path-plug k (on.first ∷ on.rest) on.end on.follows on.is_end

  pub walk_is : walk_of m h.root k ≡ walk (end_to (place_of on.first on.rest) on.end on.is_end) (path_b k (sub t g))
  walk_is =
      ap (λ (r : ℕ). walk_of m r k) (d.root ∙ on.root)
      ∙ walk-good R S m k on.first on.rest on.end on.is_end on.follows on.kept
      ∙ ap (walk (end_to (place_of on.first on.rest) on.end on.is_end)) (sym path_is)

  pub search_is : search_of h k m ≡ search_as k (visits k t g) (place_of on.first on.rest) on.end
  unfolding search_of
  search_is = rw (d.fits, lt-ltb k key_bound key, walk_is) (search-end k (visits k t g) (place_of on.first on.rest) on.end on.is_end)

  pub flat_is : flat_f g ≡ pre_c (on.first ∷ on.rest) ++ (flat_b on.end ++ post_c (on.first ∷ on.rest))
  flat_is = ap flat_b on.eq ∙ flat_plug (on.first ∷ on.rest) on.end

  pub lower : EachKey (λ x. x < k) (pre_c (on.first ∷ on.rest))
  lower = pre_less R S k (on.first ∷ on.rest) on.end on.kept.okay on.follows

  pub upper : EachKey (λ x. k < x) (post_c (on.first ∷ on.rest))
  upper = post_more R S k (on.first ∷ on.rest) on.end on.kept.okay on.follows

  pub lookup_is : lookup k (flat_f g) ≡ lookup k (flat_b on.end)
  lookup_is = ap (lookup k) flat_is ∙ look_around k (pre_c (on.first ∷ on.rest)) (flat_b on.end) (post_c (on.first ∷ on.rest)) lower upper

  pub member_is : member k (flat_f g) ≡ member k (flat_b on.end)
  member_is = ap (member k) flat_is ∙ member_around k (pre_c (on.first ∷ on.rest)) (flat_b on.end) (post_c (on.first ∷ on.rest)) lower upper

  pub end-payload : get_or m.slots (place_of on.first on.rest * 2 + 1) 0 ≡ cell_w (in_slot 1) (cell_of on.end)
  end-payload = end-slot R S m on.end on.rest on.first (holds-all R S m _ on.kept) 1 (omega arith)

found_at : (ss : List ℕ) (k v q : ℕ) (b : Branch) → End b → get_or ss (q * 2 + 1) 0 ≡ cell_w (in_slot 1) (cell_of b)
    → answer_by {A = Answer ℕ} (λ a. a) (λ q v. done (get_or ss (q * 2 + 1) 0 ∷ v ∷ [])) (search_as k v q b) ≡ found_as v (lookup k (flat_b b))
found_at ss k v q null e p = refl
found_at ss k v q (leaf j x) e p = go (eqb j k)
  where
    go : (b : Bool) → answer_by {A = Answer ℕ} (λ a. a) (λ q v. done (get_or ss (q * 2 + 1) 0 ∷ v ∷ [])) (pick b (Ok (record { slot = q; visits = v })) (Err (NotHeld v))) ≡ found_as v (pick b (is x) none)
    go true = ap (λ (y : ℕ). done (y ∷ v ∷ [])) p
    go false = refl
found_at ss k v q (sub h g) e p = absurd e

pub lookup_answers : LookupAnswers ours
unfolding lookup_of
lookup_answers h m t g d k key =
    rw (search_is h m t g d k key, lookup_is h m t g d k key)
    (found_at m.slots k (visits k t g) (place_of (on h m t g d k key).first (on h m t g d k key).rest) (on h m t g d k key).end (on h m t g d k key).is_end (end-payload h m t g d k key))

-- a change of a key that is not held, and of one that is
changes_not : (h : Handle) (m : Mem) (t : Head) (g : Forest) (k : ℕ) (c : Call) (after : Handle) (n : Branch) (l : Map)
    → member k (flat_f g) ≡ false → c ≡ call (refused_with not_held (visits k t g ∷ [])) h m → Changes h m t g k c after n l
changes_not h m t g k c after n l e q = record {
  absent = λ x. q;
  answers = λ x. absurd (true_not_false (sym x ∙ e));
  handles = λ x. absurd (true_not_false (sym x ∙ e));
  holds = λ x. absurd (true_not_false (sym x ∙ e));
  lists = λ x. absurd (true_not_false (sym x ∙ e));
}

changes_held : (h : Handle) (m : Mem) (t : Head) (g : Forest) (k : ℕ) (c : Call) (after : Handle) (n : Branch) (l : Map) (o : Mem)
    → member k (flat_f g) ≡ true → c ≡ call (done []) after o → Holds after o (graft_end same (sub t g) k n) → flat_b (graft_end same (sub t g) k n) ≡ l → Changes h m t g k c after n l
changes_held h m t g k c after n l o e q z y = record {
  absent = λ x. absurd (true_not_false (sym e ∙ x));
  answers = λ x. ap (λ (r : Call). r.answer) q;
  handles = λ x. ap (λ (r : Call). r.handle) q;
  holds = λ x. subst⁻¹ (λ (r : Call). Holds after r.memory (graft_end same (sub t g) k n)) q z;
  lists = λ x. y;
}

-- a tree with frames is a node, so that Kept makes it Good
pub holds-plug : (h : Handle) (m : Mem) (f : Frame) (c : List Frame) (b : Branch) → Limits h.capacity h.records h.slots → h.count ≤ h.capacity → h.root ≡ f.head.at
    → h.count ≡ size (flat_b (plug (f ∷ c) b)) → Kept h.records h.slots m (plug (f ∷ c) b) → Holds h m (plug (f ∷ c) b)
holds-plug h m f c b l o r s k = kept_good h m _ _ l o r s k

-- the way of k ends at the key
module _ (h : Handle) (m : Mem) (t : Head) (g : Forest) (d : Good h m t g) (k : ℕ) (key : k < key_bound) (f : Frame) (c : List Frame) (q : ℕ)
    (eq : sub t g ≡ plug (f ∷ c) (leaf k q)) (w : Follows k (f ∷ c)) (kept : Kept h.records h.slots m (plug (f ∷ c) (leaf k q))) where
  abbrev place : ℕ
  place = place_of f c

  graft_is : (n : Branch) → graft_end same (sub t g) k n ≡ plug (f ∷ c) n
  graft_is n =
      subst⁻¹ (λ (x : Branch). graft_end same x k n ≡ plug (f ∷ c) n) eq
      (ap (λ (i : ℕ). graft_b same (plug (f ∷ c) (leaf k q)) i k n) (ap length (path-plug k (f ∷ c) (leaf k q) w tt) ∙ records-length (f ∷ c))
      ∙ graft_plug still k (f ∷ c) (leaf k q) n w ∙ ap (λ (e : List Frame). plug e n) (up_still (f ∷ c)))

  flat_was : flat_f g ≡ pre_c (f ∷ c) ++ ((k, q) ∷ post_c (f ∷ c))
  flat_was = ap flat_b eq ∙ flat_plug (f ∷ c) (leaf k q)

  low : EachKey (λ x. x < k) (pre_c (f ∷ c))
  low = pre_less h.records h.slots k (f ∷ c) (leaf k q) kept.okay w

  high : EachKey (λ x. k < x) (post_c (f ∷ c))
  high = post_more h.records h.slots k (f ∷ c) (leaf k q) kept.okay w

  root_is : h.root ≡ f.head.at
  root_is = d.root ∙ ap root_of eq

  count_is : h.count ≡ size (pre_c (f ∷ c)) + suc (size (post_c (f ∷ c)))
  count_is = d.count ∙ ap size flat_was ∙ size-app (pre_c (f ∷ c)) ((k, q) ∷ post_c (f ∷ c))

  limits : Limits h.capacity h.records h.slots
  limits = (fits_given h m d.fits).limits

  few : h.count ≤ h.capacity
  few = (fits_given h m d.fits).count

  -- replace: another payload
  put_payload : (p : ℕ) → Kept h.records h.slots (mem m.nodes (set m.slots (place * 2 + 1) p) m.used) (plug (f ∷ c) (leaf k p))
  put_payload p =
      let e : get_or m.slots (place * 2) 0 ≡ 1 * 2 ^ 48 + k = rw add-zero at (end-slot h.records h.slots m (leaf k q) c f (holds-all h.records h.slots m _ kept) 0 (omega arith)) in
      let s : set m.slots (place * 2) (1 * 2 ^ 48 + k) ≡ m.slots = subst (λ (x : ℕ). set m.slots (place * 2) x ≡ m.slots) e (set-get_or m.slots (place * 2) 0) in
      subst (λ (l : List ℕ). Kept h.records h.slots (mem m.nodes (set l (place * 2 + 1) p) m.used) (plug (f ∷ c) (leaf k p))) s
      (put-good h.records h.slots m f c (leaf k q) (leaf k p) kept tt tt key (w, tt) (1 * 2 ^ 48 + k) p refl refl)

  flat_replaced : (p : ℕ) → flat_b (plug (f ∷ c) (leaf k p)) ≡ update k p (flat_f g)
  flat_replaced p =
      flat_plug (f ∷ c) (leaf k p)
      ∙ sym (ap (update k p) flat_was ∙ ap (insert k p) (delete_around k (pre_c (f ∷ c)) ((k, q) ∷ []) (post_c (f ∷ c)) low high ∙ gone) ∙ insert_around k (pre_c (f ∷ c)) [] (post_c (f ∷ c)) low high p)
    where
      gone : pre_c (f ∷ c) ++ (delete k ((k, q) ∷ []) ++ post_c (f ∷ c)) ≡ pre_c (f ∷ c) ++ ([] ++ post_c (f ∷ c))
      gone = rw (eq-eqb k k refl)

  replace-holds : (p : ℕ) → Holds h (mem m.nodes (set m.slots (place * 2 + 1) p) m.used) (plug (f ∷ c) (leaf k p))
  replace-holds p =
      holds-plug h _ f c (leaf k p) limits few root_is (count_is ∙ sym (ap size (flat_plug (f ∷ c) (leaf k p)) ∙ size-app (pre_c (f ∷ c)) ((k, p) ∷ post_c (f ∷ c)))) (put_payload p)

  -- delete: the slot is NULL
  put-nothing : Kept h.records h.slots (mem m.nodes (put_null m.slots place) m.used) (plug (f ∷ c) null)
  unfolding put_null
  put-nothing = put-good h.records h.slots m f c (leaf k q) null kept tt tt tt tt 0 0 refl refl

  flat_deleted : flat_b (plug (f ∷ c) null) ≡ delete k (flat_f g)
  flat_deleted =
      flat_plug (f ∷ c) null ∙ sym (ap (delete k) flat_was ∙ delete_around k (pre_c (f ∷ c)) ((k, q) ∷ []) (post_c (f ∷ c)) low high ∙ gone)
    where
      gone : pre_c (f ∷ c) ++ (delete k ((k, q) ∷ []) ++ post_c (f ∷ c)) ≡ pre_c (f ∷ c) ++ ([] ++ post_c (f ∷ c))
      gone = rw (eq-eqb k k refl)

  delete-holds : Holds (one_less h) (mem m.nodes (put_null m.slots place) m.used) (plug (f ∷ c) null)
  delete-holds =
      holds-plug (one_less h) _ f c null limits (omega (arith, few)) root_is (less ∙ sym (ap size (flat_plug (f ∷ c) null) ∙ size-app (pre_c (f ∷ c)) (post_c (f ∷ c)))) put-nothing
    where
      less : h.count - 1 ≡ size (pre_c (f ∷ c)) + size (post_c (f ∷ c))
      less = omega (arith, count_is)

  module _ (found : search_of h k m ≡ Ok (record { slot = place; visits = visits k t g })) (mem_is : member k (flat_f g) ≡ true) where
    replace-held : (p : ℕ) → Changes h m t g k (replace_of h k p m) h (leaf k p) (update k p (flat_f g))
    unfolding replace_of
    replace-held p =
        changes_held h m t g k _ h (leaf k p) _ (mem m.nodes (set m.slots (place * 2 + 1) p) m.used) mem_is (rw found)
        (subst⁻¹ (Holds h (mem m.nodes (set m.slots (place * 2 + 1) p) m.used)) (graft_is (leaf k p)) (replace-holds p)) (ap flat_b (graft_is (leaf k p)) ∙ flat_replaced p)

    delete-held : Changes h m t g k (delete_of h k m) (one_less h) null (delete k (flat_f g))
    unfolding delete_of
    delete-held =
        let some : 1 ≤ h.count = omega (arith, count_is) in
        changes_held h m t g k _ (one_less h) null _ (mem m.nodes (put_null m.slots place) m.used) mem_is (rw (found, le-leb 1 h.count some))
        (subst⁻¹ (Holds (one_less h) (mem m.nodes (put_null m.slots place) m.used)) (graft_is null) delete-holds) (ap flat_b (graft_is null) ∙ flat_deleted)

-- the way of k ends elsewhere
module _ (h : Handle) (m : Mem) (t : Head) (g : Forest) (k : ℕ) (found : search_of h k m ≡ Err (NotHeld (visits k t g))) (mem_is : member k (flat_f g) ≡ false) where
  replace_not : (p : ℕ) → Changes h m t g k (replace_of h k p m) h (leaf k p) (update k p (flat_f g))
  unfolding replace_of
  replace_not p = changes_not h m t g k _ h (leaf k p) _ mem_is (rw found)

  delete_not : Changes h m t g k (delete_of h k m) (one_less h) null (delete k (flat_f g))
  unfolding delete_of
  delete_not = changes_not h m t g k _ (one_less h) null _ mem_is (rw found)

-- either
module _ (h : Handle) (m : Mem) (t : Head) (g : Forest) (d : Good h m t g) (k : ℕ) (key : k < key_bound) where
  Ends : Branch → Type 0
  Ends b = (f : Frame) (c : List Frame) → sub t g ≡ plug (f ∷ c) b → Follows k (f ∷ c) → Kept h.records h.slots m (plug (f ∷ c) b)
      → search_of h k m ≡ search_as k (visits k t g) (place_of f c) b → member k (flat_f g) ≡ member k (flat_b b)
      → ((p : ℕ) → Changes h m t g k (replace_of h k p m) h (leaf k p) (update k p (flat_f g))) × Changes h m t g k (delete_of h k m) (one_less h) null (delete k (flat_f g))

  at_end : (b : Branch) → End b → Ends b
  unfolding Ends
  at_end null e f c eq w kept s y = (replace_not h m t g k s y, delete_not h m t g k s y)
  at_end (sub r q) e f c eq w kept s y = absurd e
  at_end (leaf j q) e f c eq w kept s y = both (eqb j k)
      (λ x. let i : j ≡ k = eqb-true j k x in
      held i (s ∙ rw x) (y ∙ rw x))
      (λ x. (replace_not h m t g k (s ∙ rw x) (y ∙ rw x), delete_not h m t g k (s ∙ rw x) (y ∙ rw x)))
    where
      held : j ≡ k → search_of h k m ≡ Ok (record { slot = place_of f c; visits = visits k t g }) → member k (flat_f g) ≡ true
          → ((p : ℕ) → Changes h m t g k (replace_of h k p m) h (leaf k p) (update k p (flat_f g))) × Changes h m t g k (delete_of h k m) (one_less h) null (delete k (flat_f g))
      held i s1 y1 =
          let eq1 = subst (λ (x : ℕ). sub t g ≡ plug (f ∷ c) (leaf x q)) i eq in
          let kept1 = subst (λ (x : ℕ). Kept h.records h.slots m (plug (f ∷ c) (leaf x q))) i kept in
          (replace-held h m t g d k key f c q eq1 w kept1 s1 y1, delete-held h m t g d k key f c q eq1 w kept1 s1 y1)

  pub changes : ((p : ℕ) → Changes h m t g k (replace_of h k p m) h (leaf k p) (update k p (flat_f g))) × Changes h m t g k (delete_of h k m) (one_less h) null (delete k (flat_f g))
  unfolding Ends
  changes =
      let z = on h m t g d k key in
      at_end z.end z.is_end z.first z.rest z.eq z.follows z.kept (search_is h m t g d k key) (member_is h m t g d k key)

pub replace_answers : ReplaceAnswers ours
replace_answers h m t g d k p key = (changes h m t g d k key).0 p

pub delete_answers : DeleteAnswers ours
delete_answers h m t g d k key = (changes h m t g d k key).1
