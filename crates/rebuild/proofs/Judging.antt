-- Building in place: the sizes counted into a list are judged there, and what is then built, or not, is the definition's. Assumes
-- nothing.
use Rattle.std.specs.Prelude.{None, Option, Some}
use mathlib.Core.Bool.{Bool, true, false}
use mathlib.Core.List.{List}
use mathlib.Core.Path.{◌≡◌, refl, sym, ap, subst, ◌∙◌}
use Prim.Native.Nat.{ℕ, ◌+◌, ◌<◌, ◌≤◌}
use native.Mathlib.Omega.{arith}
use borrow.Author.Tests.{le-leb, lt-leb}
use lib.Dec.{leb}
use lib.ListN.{length, get_or, take, drop, replicate}
use lib.Seq.{sets, sets-eq, length-sets, take-append_seam}
use Rattle.build.proofs.Counting.{counts_depth_small}
use Rattle.build.proofs.Kept.{build_grows, build-nodes-length, build-slots-length, build-used-length}
use Rattle.build.proofs.NodeSizes.{sizes-few, sizes-slots}
use Rattle.build.proofs.Rooms.{placing, fits_builds, lacks-refuses}
use Rattle.build.proofs.Undoing.{wiped-same}
use Rattle.build.specs.Building.{Out, out, build}
use Rattle.build.specs.Counting.{needs_of, Counts}
use Rattle.build.specs.Hints.{Sized, Hinted}
use Rattle.build.specs.Releasing.{release}
use Rattle.build.specs.Room.{place_all}
use Rattle.build.specs.Sizes.{sizes_of, depth_of}
use Rattle.build.specs.Undoing.{Asked, Judged}
use Rattle.build.specs.declared.sizes.Needs.{Needs}
use Rattle.laws.proofs.Tests.{both}
use Rattle.model.proofs.Heights.{height-within}
use Rattle.model.specs.Height.{height}
use Rattle.pool.proofs.Growth.{Grows}
use Rattle.pool.proofs.Sets.{sets_within, sets_past}
use Rattle.pool.specs.Memory.{Mem, mem, records_in, slots_in}
use Rattle.rebuild.specs.Judging.{Pooled, Judgeable, Sound, Judges}
use Rattle.rebuild.specs.Rebuilding.{afresh, swapped, swap, in_place}
use Rattle.rebuild.specs.Zeroing.{Met, nodes_below, zeroed}
use Rattle.rebuild.proofs.Soundness.{grown-release}
use Rattle.walk.specs.Walks.{longest_path}

-- values at the front of a list are its first
pub front_is : (l vs : List ℕ) → length vs ≤ length l → take (length vs) (sets l 0 vs) ≡ vs
front_is l vs h = rw (sets-eq vs l 0 (omega arith)) (take-append_seam vs (drop (0 + length vs) l))

pub pooled_sized : (m : Mem) → Pooled m → Sized m
pooled_sized m p = record { mapped = p.mapped; records = omega (arith, p.records); slots = omega (arith, p.slots) }

-- nothing is known of the map yet
pub hinted_first : (m : Mem) → Hinted m (record { «record» = 0; slot = 0 })
hinted_first m = record { record-within = omega arith; slot-within = omega arith; records-used = λ r h. absurd (omega arith); slots-used = λ q h. absurd (omega arith) }

-- a build that has no room stores nothing
swap-none : (old : List Met) (m : Mem) (o : Out) → o.built ≡ None → swap old m o ≡ out None m
unfolding swapped
swap-none old m o e = rw e

-- once it has, the old nodes go
swap-built : (old : List Met) (m : Mem) (o : Out) (x : ℕ) → o.built ≡ Some x → swap old m o ≡ out o.built (zeroed old o.memory)
unfolding swapped
swap-built old m o x e = rw e

module _ (above top : ℕ) (ks ps : List ℕ) (m : Mem) (places : List ℕ) (j : Judgeable ks ps m places) where
  enough : height (length ks) ≤ longest_path
  enough = omega (arith, height-within (length ks) j.few)

  nodes-few : length (sizes_of longest_path ks) ≤ length places
  nodes-few = omega (arith, sizes-few longest_path ks j.rising j.some, j.room)

  module _ (list : List ℕ) (n : Needs) (c : Counts longest_path ks 0 places list n) where
    nodes-are : n.nodes ≡ length (sizes_of longest_path ks)
    unfolding needs_of
    nodes-are = ap (λ (x : Needs). x.nodes) c.needs

    depth_is : n.depth ≡ depth_of longest_path ks
    unfolding needs_of
    depth_is = ap (λ (x : Needs). x.depth) c.needs

    pub depth_small : n.depth ≤ 9
    depth_small = counts_depth_small j.rising j.few c

    same_size : length list ≡ length places
    same_size = rw c.list (length-sets places 0 (sizes_of longest_path ks))

    -- the counted sizes may be judged
    pub asked : Asked (records_in m.nodes) (slots_in m.slots) n.nodes list m.used
    asked = record {
      map = record { mapped = j.pools.mapped; few-records = j.pools.records; few-slots = j.pools.slots };
      within = omega (arith, nodes-are, nodes-few, same_size);
      sizes = λ i h.
          let z : 0 + i ≡ i = omega arith in
          let e : get_or list i 0 ≡ get_or (sizes_of longest_path ks) i 0 = rw c.list (rw z at (sets_within places 0 (sizes_of longest_path ks) i (omega (arith, nodes-are)) (omega (arith, nodes-are, nodes-few)))) in
          let s = sizes-slots longest_path ks j.rising i (omega (arith, nodes-are)) in
          (omega (arith, e, s.0), omega (arith, e, s.1));
    }

    module _ (list₂ used₂ : List ℕ) (b : Bool) (q : Judged (records_in m.nodes) (slots_in m.slots) n.nodes list m.used list₂ used₂ b) where
      fits_is : b ≡ (placing longest_path ks m).fits
      fits_is =
          let e : take n.nodes list ≡ sizes_of longest_path ks = rw (nodes-are, c.list) (front_is places (sizes_of longest_path ks) nodes-few) in
          q.fits ∙ ap (λ (ls : List ℕ). (place_all (records_in m.nodes) (slots_in m.slots) ls m.used).fits) e

      wiped : list₂ ≡ sets places 0 (replicate (length (sizes_of longest_path ks)) 0)
      wiped =
          q.list ∙ ap (λ (x : ℕ). sets list 0 (replicate x 0)) nodes-are
          ∙ wiped-same list places (length (sizes_of longest_path ks)) same_size nodes-few
          (λ i h. rw c.list (sets_past places 0 (sizes_of longest_path ks) i (omega arith)))

      abbrev left : Mem
      left = mem m.nodes m.slots used₂

      left-same : left ≡ m
      left-same = rw q.used

      roomless : b ≡ false → in_place above (nodes_below above top m) ks ps m ≡ out None m
      unfolding in_place afresh
      roomless f =
          both (leb (above + depth_of longest_path ks) longest_path)
          (λ e. rw e (swap-none (nodes_below above top m) m (build longest_path ks ps m) (lacks-refuses longest_path ks j.rising enough ps m (sym fits_is ∙ f))))
          (λ e. rw e (swap-none (nodes_below above top m) m (out None m) refl))

      too-deep : longest_path < above + n.depth → in_place above (nodes_below above top m) ks ps m ≡ out None m
      unfolding in_place afresh
      too-deep h = rw (lt-leb (above + depth_of longest_path ks) longest_path (omega (arith, depth_is))) (swap-none (nodes_below above top m) m (out None m) refl)

      -- no room for the sizes
      pub judges_no_room : b ≡ false → Judges above top ks ps m places left list₂ None
      judges_no_room f = record { is = rw left-same (sym (roomless f)); list = wiped }

      -- too long a path
      pub judges_too_deep : longest_path < above + n.depth → Judges above top ks ps m places left list₂ None
      judges_too_deep h = record { is = rw left-same (sym (too-deep h)); list = wiped }

      -- built, and the old nodes released
      module _ (sound : Sound above top m) (f : b ≡ true) (h : above + n.depth ≤ longest_path) (built : Option ℕ) (m₁ m₂ : Mem) (e : out built m₁ ≡ build longest_path ks ps left) (r : m₂ ≡ release longest_path m₁ top) where
        here : build longest_path ks ps m ≡ out built m₁
        here = ap (build longest_path ks ps) (sym left-same) ∙ sym e

        has_place : (x : ℕ) × ((build longest_path ks ps m).built ≡ Some x)
        has_place = fits_builds longest_path ks j.rising enough ps m (sym fits_is ∙ f)

        placed_at : built ≡ Some has_place.0
        placed_at = sym (ap (λ (x : Out). x.built) here) ∙ has_place.1

        releases : release longest_path m₁ top ≡ zeroed (nodes_below above top m) m₁
        releases =
            let g : Grows m m₁ = subst (Grows m) (ap (λ (x : Out). x.memory) here) (build_grows longest_path ks ps m) in
            grown-release sound.capacity sound.key above top m sound.sound m₁ g

        swapped_in : in_place above (nodes_below above top m) ks ps m ≡ out built m₂
        unfolding in_place afresh
        swapped_in =
            rw (le-leb (above + depth_of longest_path ks) longest_path (omega (arith, depth_is)))
            (ap (swap (nodes_below above top m) m) here ∙ swap-built (nodes_below above top m) m (out built m₁) has_place.0 placed_at ∙ ap (out built) (sym (r ∙ releases)))

        pub judges_built : Judges above top ks ps m places m₂ list₂ built
        judges_built = record { is = sym swapped_in; list = wiped }

    pub left-sized : (used₂ : List ℕ) → used₂ ≡ m.used → Sized (mem m.nodes m.slots used₂)
    left-sized used₂ e = rw e (pooled_sized m j.pools)

  pub built-sized : (m₀ m₁ : Mem) (b : Option ℕ) → Sized m₀ → out b m₁ ≡ build longest_path ks ps m₀ → Sized m₁
  built-sized m₀ m₁ b s e =
      let f : m₁ ≡ (build longest_path ks ps m₀).memory = ap (λ (o : Out). o.memory) e in
      let x : length m₁.nodes ≡ length m₀.nodes = ap (λ (n : Mem). length n.nodes) f ∙ build-nodes-length longest_path ks ps m₀ in
      let y : length m₁.slots ≡ length m₀.slots = ap (λ (n : Mem). length n.slots) f ∙ build-slots-length longest_path ks ps m₀ in
      let z : length m₁.used ≡ length m₀.used = ap (λ (n : Mem). length n.used) f ∙ build-used-length longest_path ks ps m₀ in
      record { mapped = rw (x, y, z) s.mapped; records = rw x s.records; slots = rw y s.slots }
