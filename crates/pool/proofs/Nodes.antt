-- Reading a record: which answer each way through the rules gives, and that a record reads as a good node just when it lies in
-- its table, is marked, and its run and its model are within their limits. Assumes nothing.
use Rattle.std.specs.Prelude.{Err, Ok, Result}
use mathlib.Core.Bool.{Bool, true, false}
use mathlib.Core.Path.{◌≡◌, refl}
use Prim.Native.Nat.{ℕ, ◌+◌, ◌<◌, ◌≤◌}
use native.Mathlib.Omega.{arith}
use borrow.Author.Tests.{lt-ltb, le-ltb, le-leb, lt-leb, ltb-true, leb-true}
use lib.Dec.{ltb, leb}
use Rattle.laws.specs.Pick.{pick}
use Rattle.marks.specs.Used.{used_at}
use Rattle.model.proofs.Slots.{passes_range, range_passes}
use Rattle.model.specs.Slots.{InRange, in_range}
use Rattle.pool.specs.Memory.{Mem, records_in, slots_in}
use Rattle.pool.specs.Reading.{node_in, node_fits, node_at}
use Rattle.pool.specs.declared.Node.{Node}
use Rattle.pool.specs.declared.Rule.{Rule}
use Rattle.pool.specs.declared.Rule.TheVariants.{UnusedRecord, RunOutside, ModelOutOfRange}

-- a record that reads as the node n
pub record GoodNode (m : Mem) (r : ℕ) (n : Node) : Type 0 where
  pub inside : r < records_in m.nodes
  pub marked : used_at m.used r ≡ true
  pub is : n ≡ node_in m.nodes r
  pub fits : n.start + n.model.l ≤ slots_in m.slots
  pub range : InRange n.model

-- the ways through the rules, in their order
module _ (m : Mem) (r : ℕ) where
  pub reads_outside : records_in m.nodes ≤ r → node_at m r ≡ Err UnusedRecord
  unfolding node_at
  reads_outside h = rw (le-ltb r (records_in m.nodes) h)

  module _ (inside : r < records_in m.nodes) where
    pub reads_unmarked : used_at m.used r ≡ false → node_at m r ≡ Err UnusedRecord
    unfolding node_at
    reads_unmarked e = rw (lt-ltb r (records_in m.nodes) inside, e)

    module _ (marked : used_at m.used r ≡ true) where
      pub reads-run_outside : slots_in m.slots < (node_in m.nodes r).start + (node_in m.nodes r).model.l → node_at m r ≡ Err RunOutside
      unfolding node_at node_fits
      reads-run_outside h = rw (lt-ltb r (records_in m.nodes) inside, marked, lt-leb _ (slots_in m.slots) h)

      module _ (fits : (node_in m.nodes r).start + (node_in m.nodes r).model.l ≤ slots_in m.slots) where
        pub reads_unfit : in_range (node_in m.nodes r).model ≡ false → node_at m r ≡ Err ModelOutOfRange
        unfolding node_at node_fits
        reads_unfit e = rw (lt-ltb r (records_in m.nodes) inside, marked, le-leb _ (slots_in m.slots) fits, e)

        pub reads-good : InRange (node_in m.nodes r).model → node_at m r ≡ Ok (node_in m.nodes r)
        unfolding node_at node_fits
        reads-good range =
            rw (lt-ltb r (records_in m.nodes) inside, marked, le-leb _ (slots_in m.slots) fits, range_passes _ range)

pub good-reads : (m : Mem) (r : ℕ) (n : Node) → GoodNode m r n → node_at m r ≡ Ok n
good-reads m r n g = rw g.is (reads-good m r g.inside g.marked (rw g.is at g.fits) (rw g.is at g.range))

-- a test whose other way is a broken rule was passed
passed : (b : Bool) (x : Result Node Rule) (rule : Rule) (n : Node) → pick b x (Err rule) ≡ Ok n → (b ≡ true) × (x ≡ Ok n)
passed true x rule n e = (refl, e)
passed false x rule n e = let z : ◌≡◌ {A = ℕ} 0 1 = cc in absurd (omega arith)

pub good-node : (m : Mem) (r : ℕ) (n : Node) → node_at m r ≡ Ok n → GoodNode m r n
unfolding node_at node_fits
good-node m r n e =
    let t = node_in m.nodes r in
    let a = passed (ltb r (records_in m.nodes)) _ _ n e in
    let b = passed (used_at m.used r) _ _ n a.1 in
    let c = passed (leb (t.start + t.model.l) (slots_in m.slots)) _ _ n b.1 in
    let d = passed (in_range t.model) _ _ n c.1 in
    let q : n ≡ t = cc d.1 in
    record {
      inside = ltb-true _ _ a.0;
      marked = b.0;
      is = q;
      fits = rw q (leb-true _ _ c.0);
      range = rw q (passes_range _ d.0);
    }
