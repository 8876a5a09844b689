-- Counters raised along a way: each record on it has one element more and, after a conflict, one conflict more; memory changes by
-- just that. Assumes nothing.
use mathlib.Core.Bool.{Bool, true, false}
use mathlib.Core.List.{List, [], ◌∷◌, map}
use mathlib.Core.Path.{◌≡◌, refl, sym, ap, ◌∙◌}
use native.Mathlib.Omega.{arith}
use Prim.Native.Nat.{ℕ, zero, suc, ◌+◌, ◌*◌, ◌<◌, ◌≤◌}
use lib.Dec.{eqb, ltb}
use lib.ListN.{length, get_or, set, length-set}
use lib.Seq.{get_or-set_same, get_or-set_other}
use borrow.Author.Tests.{eqb-true, eqb-false, lt-ltb, ltb-true}
use Rattle.counters.specs.Counters.{one_more, raised_if, raise_elements, raise_conflicts, raise_node, raise}
use Rattle.laws.proofs.Tests.{both}
use Rattle.pool.specs.Memory.{Mem}
use Rattle.demands.specs.Placed.{Head, Branch, node, Word, bit, in_node, in_slot, head_words, cell_w, at, view, OkB, Frame, plug, width}
use Rattle.demands.proofs.Changing.{Count, up, heads}
use Rattle.demands.proofs.Plugs.{at_same, at_other, frame_of}
use Rattle.demands.proofs.Reading.{Holds, holds-below, read_head}
use Rattle.demands.proofs.Walking.{view-node, records_on}

abbrev pub with_nodes : Mem → List ℕ → Mem
with_nodes m n = record { nodes = n; slots = m.slots; used = m.used }

abbrev pub put_word : Mem → ℕ → ℕ → ℕ → Mem
put_word m r i v = with_nodes m (set m.nodes (r * 8 + i) v)

module _ (R : ℕ) (m : Mem) (r i v : ℕ) (ri : r < R) (i8 : i < 8) (size : length m.nodes ≡ R * 8) where
  pub word-other : (x : ℕ) (w : Word) → (x ≡ r → ⊥) → view R (put_word m r i v) x w ≡ view R m x w
  unfolding view
  word-other x bit n = refl
  word-other x (in_slot j) n = refl
  word-other x (in_node j) n = both (ltb j 8) (λ e. rw e (both (ltb x R) (λ t. rw t (far (ltb-true j 8 e))) (λ t. rw t))) (λ e. rw e)
    where
      far : j < 8 → get_or (set m.nodes (r * 8 + i) v) (x * 8 + j) 0 ≡ get_or m.nodes (x * 8 + j) 0
      far h = get_or-set_other m.nodes (r * 8 + i) (x * 8 + j) v 0 (omega arith)

  word_beside : (j : ℕ) → (j ≡ i → ⊥) → view R (put_word m r i v) r (in_node j) ≡ view R m r (in_node j)
  unfolding view
  word_beside j n = both (ltb j 8) (λ e. rw (e, lt-ltb r R ri) (get_or-set_other m.nodes (r * 8 + i) (r * 8 + j) v 0 (omega arith))) (λ e. rw e)

  word_here : view R (put_word m r i v) r (in_node i) ≡ v
  word_here = view-node R (put_word m r i v) r i ri i8 ∙ get_or-set_same m.nodes (r * 8 + i) v 0 (omega arith)

  -- a word of a record stored: the record's head is another
  module _ (h o : Head) (l : ℕ) (reads : (w : Word) → view R m r w ≡ cell_w w (node h l)) (new : v ≡ get_or (head_words o l) i 0)
      (old : (j : ℕ) → (j ≡ i → ⊥) → get_or (head_words h l) j 0 ≡ get_or (head_words o l) j 0) where
    pub word-reads : (w : Word) → view R (put_word m r i v) r w ≡ cell_w w (node o l)
    unfolding view
    word-reads bit = reads bit
    word-reads (in_slot j) = reads (in_slot j)
    word-reads (in_node j) =
        both (eqb j i) (λ e. let d : j ≡ i = eqb-true j i e in rw d (word_here ∙ new)) (λ e. word_beside j (eqb-false j i e) ∙ reads (in_node j) ∙ old j (eqb-false j i e))

    pub word_delta : (x : ℕ) (w : Word) → view R (put_word m r i v) x w + at r (cell_w w (node h l)) x ≡ view R m x w + at r (cell_w w (node o l)) x
    word_delta x w = both (eqb x r) (λ e. here (eqb-true x r e)) (λ e. there (eqb-false x r e))
      where
        here : x ≡ r → view R (put_word m r i v) x w + at r (cell_w w (node h l)) x ≡ view R m x w + at r (cell_w w (node o l)) x
        here e = rw (e, at_same r (cell_w w (node h l)), at_same r (cell_w w (node o l)), word-reads w, reads w) (omega arith)

        there : (x ≡ r → ⊥) → view R (put_word m r i v) x w + at r (cell_w w (node h l)) x ≡ view R m x w + at r (cell_w w (node o l)) x
        there n = omega (arith, word-other x w n, at_other r (cell_w w (node h l)) x n, at_other r (cell_w w (node o l)) x n)

-- "elements + 1 and, after a conflict, conflicts + 1"
abbrev pub more : Bool → Count
more c = record { elements = one_more; conflicts = raised_if c }

abbrev pub elements_up : Head → Head
elements_up h = record { at = h.at; lo = h.lo; w = h.w; start = h.start; elements = one_more h.elements; built = h.built; conflicts = h.conflicts }

abbrev pub conflicts_up : Head → Head
conflicts_up h = record { at = h.at; lo = h.lo; w = h.w; start = h.start; elements = h.elements; built = h.built; conflicts = one_more h.conflicts }

abbrev pub head_up : Bool → Head → Head
head_up c h = record { at = h.at; lo = h.lo; w = h.w; start = h.start; elements = one_more h.elements; built = h.built; conflicts = raised_if c h.conflicts }

beside_four : (h : Head) (l j : ℕ) → (j ≡ 4 → ⊥) → get_or (head_words h l) j 0 ≡ get_or (head_words (elements_up h) l) j 0
beside_four h l zero n = refl
beside_four h l (suc zero) n = refl
beside_four h l (suc (suc zero)) n = refl
beside_four h l (suc (suc (suc zero))) n = refl
beside_four h l (suc (suc (suc (suc zero)))) n = absurd (n refl)
beside_four h l (suc (suc (suc (suc (suc j))))) n = refl

beside_six : (h : Head) (l j : ℕ) → (j ≡ 6 → ⊥) → get_or (head_words h l) j 0 ≡ get_or (head_words (conflicts_up h) l) j 0
beside_six h l zero n = refl
beside_six h l (suc zero) n = refl
beside_six h l (suc (suc zero)) n = refl
beside_six h l (suc (suc (suc zero))) n = refl
beside_six h l (suc (suc (suc (suc zero)))) n = refl
beside_six h l (suc (suc (suc (suc (suc zero))))) n = refl
beside_six h l (suc (suc (suc (suc (suc (suc zero)))))) n = absurd (n refl)
beside_six h l (suc (suc (suc (suc (suc (suc (suc j))))))) n = refl

pub raise_node-length : (ns : List ℕ) (c : Bool) (r : ℕ) → length (raise_node ns c r) ≡ length ns
unfolding raise_node raise_elements raise_conflicts
raise_node-length ns true r = simp length-set
raise_node-length ns false r = simp length-set

pub raise-length : (p : List ℕ) (ns : List ℕ) (c : Bool) → length (raise ns c p) ≡ length ns
unfolding raise
raise-length [] ns c = refl
raise-length (r ∷ p) ns c = raise-length p (raise_node ns c r) c ∙ raise_node-length ns c r

-- what one record's raising changes
pub record Raises (R : ℕ) (m o : Mem) (c : Bool) (h : Head) (l : ℕ) : Type 0 where
  pub elsewhere : (x : ℕ) (w : Word) → (x ≡ h.at → ⊥) → view R o x w ≡ view R m x w
  pub delta : (x : ℕ) (w : Word) → view R o x w + at h.at (cell_w w (node h l)) x ≡ view R m x w + at h.at (cell_w w (node (head_up c h) l)) x

module _ (R : ℕ) (m : Mem) (h : Head) (l : ℕ) (ri : h.at < R) (size : length m.nodes ≡ R * 8) (reads : (w : Word) → view R m h.at w ≡ cell_w w (node h l)) where
  word-four : get_or m.nodes (h.at * 8 + 4) 0 ≡ h.elements
  word-four = sym (view-node R m h.at 4 ri (omega arith)) ∙ reads (in_node 4)

  once : Mem
  once = put_word m h.at 4 (one_more (get_or m.nodes (h.at * 8 + 4) 0))

  once_reads : (w : Word) → view R once h.at w ≡ cell_w w (node (elements_up h) l)
  unfolding once
  once_reads = word-reads R m h.at 4 _ ri (omega arith) size h (elements_up h) l reads (ap one_more word-four) (beside_four h l)

  once_delta : (x : ℕ) (w : Word) → view R once x w + at h.at (cell_w w (node h l)) x ≡ view R m x w + at h.at (cell_w w (node (elements_up h) l)) x
  unfolding once
  once_delta = word_delta R m h.at 4 _ ri (omega arith) size h (elements_up h) l reads (ap one_more word-four) (beside_four h l)

  once_other : (x : ℕ) (w : Word) → (x ≡ h.at → ⊥) → view R once x w ≡ view R m x w
  unfolding once
  once_other = word-other R m h.at 4 _ ri (omega arith) size

  pub raise-one : (c : Bool) → Raises R m (with_nodes m (raise_node m.nodes c h.at)) c h l
  unfolding raise_node raise_elements raise_conflicts raised_if once
  raise-one false = record { elsewhere = once_other; delta = once_delta }
  raise-one true = record {
    elsewhere = λ x w n. word-other R once h.at 6 v ri (omega arith) long x w n ∙ once_other x w n;
    delta = λ x w. omega (arith, once_delta x w, word_delta R once h.at 6 v ri (omega arith) long (elements_up h) (conflicts_up (elements_up h)) l once_reads (ap one_more six) (beside_six (elements_up h) l) x w);
  }
    where
      v : ℕ
      v = one_more (get_or once.nodes (h.at * 8 + 6) 0)

      long : length once.nodes ≡ R * 8
      long = simp length-set size

      six : get_or once.nodes (h.at * 8 + 6) 0 ≡ h.conflicts
      six = sym (view-node R once h.at 6 ri (omega arith)) ∙ once_reads (in_node 6)

-- memory holds the heads of a way
abbrev pub HeadsIn : ℕ → Mem → List Frame → Type 0
HeadsIn R m [] = Unit
HeadsIn R m (f ∷ c) = (f.head.at < R) × ((w : Word) → view R m f.head.at w ≡ cell_w w (node f.head (width f))) × HeadsIn R m c

-- a change elsewhere leaves them
pub heads_keep : (R : ℕ) (m o : Mem) (r : ℕ) → ((x : ℕ) (w : Word) → (x ≡ r → ⊥) → view R o x w ≡ view R m x w) → (c : List Frame) → heads (cell_w bit) r c ≡ 0 → HeadsIn R m c → HeadsIn R o c
heads_keep R m o r same [] z h = tt
heads_keep R m o r same (f ∷ c) z h =
    let n : f.head.at ≡ r → ⊥ = apart f.head.at r (omega arith) in
    (h.0, λ w. same f.head.at w n ∙ h.1 w, heads_keep R m o r same c (omega arith) h.2)
  where
    apart : (x r : ℕ) → at x 1 r ≡ 0 → x ≡ r → ⊥
    apart x r z e = omega (arith, at_same r 1, rw e at z)

pub heads_in : (R S : ℕ) (m : Mem) (f : Frame) (c : List Frame) (b : Branch) → Holds R m (plug (f ∷ c) b) → OkB R S (plug (f ∷ c) b) → HeadsIn R m (f ∷ c)
heads_in R S m f [] b h o = ((frame_of R S f b o).head_ok.inside, read_head R m f b h, tt)
heads_in R S m f (g ∷ c) b h o =
    let q = frame_of R S f (plug (g ∷ c) b) o in
    (q.head_ok.inside, read_head R m f (plug (g ∷ c) b) h, heads_in R S m g c b (holds-below R m f (plug (g ∷ c) b) h) q.below)

module _ (R : ℕ) (k : Bool) where
  pub raise_delta : (c : List Frame) (m : Mem) → length m.nodes ≡ R * 8 → ((x : ℕ) → heads (cell_w bit) x c ≤ 1) → HeadsIn R m c
      → (x : ℕ) (w : Word) → view R (with_nodes m (raise m.nodes k (records_on c))) x w + heads (cell_w w) x c ≡ view R m x w + heads (cell_w w) x (map (up (more k)) c)
  unfolding raise
  raise_delta [] m s d h x w = refl
  raise_delta (f ∷ c) m s d h x w =
      let r = f.head.at in
      let m1 = with_nodes m (raise_node m.nodes k r) in
      let z : heads (cell_w bit) r c ≡ 0 = omega (arith, d r, at_same r 1) in
      let q = raise-one R m f.head (width f) h.0 s h.1 k in
      let t = raise_delta c m1 (raise_node-length m.nodes k r ∙ s) (λ y. omega (arith, d y)) (heads_keep R m m1 r q.elsewhere c z h.2) x w in
      omega (arith, t, q.delta x w)
