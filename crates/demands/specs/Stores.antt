-- A store, as the demands speak of one: its six calls, each with all that it leaves. Any store may be put in the demands' place; ours is
-- the one whose definitions the public calls are proved to meet. Definitions only.
use Rattle.std.specs.Prelude.{List, ℕ}
use Rattle.delete.specs.Deleting.{delete_of}
use Rattle.insert.specs.Inserting.{Insert, insert_of}
use Rattle.laws.specs.Answers.{Answer}
use Rattle.pool.specs.Memory.{Mem}
use Rattle.rebuild.specs.Rebuilding.{Scratch}
use Rattle.store.specs.Bands.{Band, band_of}
use Rattle.store.specs.Calls.{Call, lookup_of, replace_of}
use Rattle.store.specs.Loading.{load_of}
use Rattle.store.specs.declared.Handle.{Handle}

pub record Store : Type 0 where
  pub load : (capacity : ℕ) → (keys payloads : List ℕ) → Mem → Call
  pub look : Handle → (key : ℕ) → Mem → Answer ℕ
  pub list : Handle → (u v : ℕ) → Mem → (keys payloads : List ℕ) → Band
  pub insert : Handle → (key payload : ℕ) → Mem → Scratch → Insert
  pub replace : Handle → (key payload : ℕ) → Mem → Call
  pub delete : Handle → (key : ℕ) → Mem → Call

abbrev pub ours : Store
ours = record { load = load_of; look = lookup_of; list = band_of; insert = insert_of; replace = replace_of; delete = delete_of }
