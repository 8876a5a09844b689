-- What the rebuilding code asks of the keys and the memory, and what it leaves: the definition's answer and memory, and the list of
-- places with zeros where the sizes were judged. Definitions only.
use Rattle.std.specs.Prelude.{true, List, ◌≡◌, ℕ, ◌+◌, ◌*◌, ◌^◌, ◌<◌, ◌≤◌, length, replicate, Option}
use Rattle.std.proofs.lemmas.List.Edits.{sets}
use Rattle.build.specs.Building.{out}
use Rattle.build.specs.Sizes.{sizes_of}
use Rattle.laws.specs.Keys.{key_bound, Rising}
use Rattle.model.specs.Choice.{most_keys}
use Rattle.pool.specs.Memory.{Mem, records_in, slots_in}
use Rattle.rebuild.specs.Rebuilding.{sound_below, in_place, keys_with, payloads_with, Scratch}
use Rattle.rebuild.specs.Zeroing.{nodes_below}
use Rattle.walk.specs.Walks.{longest_path}

-- the map has a bit for every place, and numbers of places are small
pub record Pooled (m : Mem) : Type 0 where
  pub mapped : records_in m.nodes + slots_in m.slots ≤ length m.used * 64
  pub records : records_in m.nodes ≤ 2 ^ 20
  pub slots : slots_in m.slots ≤ 2 ^ 20

-- keys to build over, at least one, with a place of scratch for each
pub record Judgeable (ks ps : List ℕ) (m : Mem) (places : List ℕ) : Type 0 where
  pub rising : Rising ks
  pub same : length ps ≡ length ks
  pub some : 1 ≤ length ks
  pub few : length ks ≤ most_keys
  pub pools : Pooled m
  pub room : length ks ≤ length places

-- no rule of a rebuild is broken in the subtree at record top: for some capacity and some new key
pub record Sound (above top : ℕ) (m : Mem) : Type 0 where
  pub capacity : ℕ
  pub key : ℕ
  pub sound : sound_below capacity key above top m ≡ true

pub record Judges (above top : ℕ) (ks ps : List ℕ) (m : Mem) (places : List ℕ) (m' : Mem) (places' : List ℕ) (b : Option ℕ) : Type 0 where
  pub is : out b m' ≡ in_place above (nodes_below above top m) ks ps m
  pub list : places' ≡ sets places 0 (replicate (length (sizes_of longest_path ks)) 0)

-- what gathering asks of scratch, and leaves in it: so many keys and payloads from the front
pub record Gatherable (capacity key above : ℕ) (keys payloads : List ℕ) : Type 0 where
  pub least : 1 ≤ capacity
  pub most : capacity ≤ most_keys
  pub room : capacity ≤ length keys
  pub same : length payloads ≡ length keys
  pub is_key : key < key_bound
  pub high : above < longest_path

pub record Gathers (capacity key payload above top : ℕ) (m : Mem) (keys payloads keys' payloads' : List ℕ) (n : ℕ) : Type 0 where
  pub count : n ≡ length (keys_with capacity key above top m)
  pub keys-are : keys' ≡ sets keys 0 (keys_with capacity key above top m)
  pub payloads-are : payloads' ≡ sets payloads 0 (payloads_with capacity key payload above top m)

-- what a rebuild asks: among it that the subtree was judged
pub record Rebuildable (capacity key above top : ℕ) (m : Mem) (s : Scratch) : Type 0 where
  pub gather : Gatherable capacity key above s.keys s.payloads
  pub pools : Pooled m
  pub places : length s.places ≡ length s.keys
  pub sound : sound_below capacity key above top m ≡ true
