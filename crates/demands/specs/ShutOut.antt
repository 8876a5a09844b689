-- "What the statements have to shut out" (document 01): ways in which a store may go wrong, each said of any store, and said so that it asks
-- little of the store. `ShutOut` says that a store with one of them does not meet the demands. Statements only; the proofs are
-- proofs/ShutOut.
use Rattle.std.specs.Prelude.{false, List, ◌≡◌, ℕ, ◌<◌, eqb, length, get_or}
use Rattle.laws.specs.Answers.{Answer, not_held}
use Rattle.laws.specs.Keys.{key_bound}
use Rattle.laws.specs.Pick.{pick}
use Rattle.pool.specs.Memory.{Mem}
use Rattle.rebuild.specs.Rebuilding.{Scratch}
use Rattle.store.specs.declared.Handle.{Handle}
use Rattle.walk.specs.Walks.{walk_of}
use Rattle.demands.specs.Demand2.{Demand2}
use Rattle.demands.specs.Demand3.{Ask, inserts, State, after, after_all, Accepted, loaded_state, Demand3}
use Rattle.demands.specs.Map.{member}
use Rattle.demands.specs.Stores.{Store}

-- "a store that refuses each call": it is enough that all calls of one kind are refused, with whatever number
abbrev pub Refused : Answer ℕ → Type 0
Refused a = a.number ≡ 0 → ⊥

abbrev pub RefusesLoads : Store → Type 0
RefusesLoads x = (c : ℕ) (ks ps : List ℕ) (m : Mem) → Refused (x.load c ks ps m).answer

abbrev pub RefusesLookups : Store → Type 0
RefusesLookups x = (h : Handle) (k : ℕ) (m : Mem) → Refused (x.look h k m)

abbrev pub RefusesBands : Store → Type 0
RefusesBands x = (h : Handle) (u v : ℕ) (m : Mem) (ks ps : List ℕ) → Refused (x.list h u v m ks ps).answer

abbrev pub RefusesInserts : Store → Type 0
RefusesInserts x = (h : Handle) (k p : ℕ) (m : Mem) (z : Scratch) → Refused (x.insert h k p m z).answer

abbrev pub RefusesReplaces : Store → Type 0
RefusesReplaces x = (h : Handle) (k p : ℕ) (m : Mem) → Refused (x.replace h k p m).answer

abbrev pub RefusesDeletes : Store → Type 0
RefusesDeletes x = (h : Handle) (k : ℕ) (m : Mem) → Refused (x.delete h k m).answer

-- "one that answers 6 to every lookup"
abbrev pub SixAlways : Store → Type 0
SixAlways x = (h : Handle) (k : ℕ) (m : Mem) → (x.look h k m).number ≡ not_held

-- "one whose insert reports 0 and stores nothing": where it reports 0 the pools are as they were, whatever the handle says
abbrev pub StoresNothing : Store → Type 0
StoresNothing x = (h : Handle) (k p : ℕ) (m : Mem) (z : Scratch) → (x.insert h k p m z).answer.number ≡ 0 → (x.insert h k p m z).memory ≡ m

-- the same by what can be seen of it: the key is not found afterwards
abbrev pub NotFoundAfter : Store → Type 0
NotFoundAfter x =
    (h : Handle) (k p : ℕ) (m : Mem) (z : Scratch) → (x.insert h k p m z).answer.number ≡ 0
    → (x.look (x.insert h k p m z).handle k (x.insert h k p m z).memory).number ≡ not_held

-- A sequence of calls after an accepted load, and what it has come to.
pub record Calls (x : Store) : Type 0 where
  pub capacity : ℕ
  pub keys : List ℕ
  pub payloads : List ℕ
  pub pools : Mem
  pub accepted : Accepted x capacity keys payloads pools
  pub asks : List Ask

abbrev pub comes_to : (x : Store) → Calls x → State
comes_to x q = after_all x (loaded_state x q.capacity q.keys q.payloads q.pools) q.asks

-- "one that stores only in the first call and pretends later": after a load and one insert, an insert that reports 0 leaves the pools as
-- they were, whatever the handle says
abbrev pub Pretends : Store → State → Type 0
Pretends x s = (k p : ℕ) (z : Scratch) → (x.insert s.handle k p s.memory z).answer.number ≡ 0 → (x.insert s.handle k p s.memory z).memory ≡ s.memory

abbrev pub PretendsLater : Store → Type 0
PretendsLater x =
    (c : ℕ) (ks ps : List ℕ) (m : Mem) → Accepted x c ks ps m → (k p : ℕ) (z : Scratch) → Pretends x (after x (loaded_state x c ks ps m) (inserts k p z))

-- the same of a single insert anywhere
pub record PretendsOnce (x : Store) (s : State) (k p : ℕ) (z : Scratch) : Type 0 where
  pub reports : (x.insert s.handle k p s.memory z).answer.number ≡ 0
  pub memory : (x.insert s.handle k p s.memory z).memory ≡ s.memory

-- the visits that a lookup's answer says: after the payload, or alone with 6
abbrev pub said : Answer ℕ → ℕ
said a = pick (eqb a.number 0) (get_or a.values 1 0) (get_or a.values 0 0)

-- "one that makes up the visit count": it says another number than there are nodes on the key's path in the pools
abbrev pub MakesUpVisits : Store → State → ℕ → Type 0
MakesUpVisits x s k = said (x.look s.handle k s.memory) ≡ length (walk_of s.memory s.handle.root k).path → ⊥

-- the same of a store that takes the number from anything but the pools, a fixed number included
pub record VisitsUnread (x : Store) : Type 0 where
  pub number : Handle → ℕ → ℕ
  pub says : (h : Handle) (k : ℕ) (m : Mem) → said (x.look h k m) ≡ number h k

-- none of these goes with the demands
pub record ShutOut (x : Store) : Type 0 where
  -- "a store that refuses each call"
  pub refuses_loads : Demand2 x → RefusesLoads x → ⊥
  pub refuses_lookups : Demand2 x → RefusesLookups x → ⊥
  pub refuses_bands : Demand2 x → RefusesBands x → ⊥
  pub refuses_inserts : Demand2 x → RefusesInserts x → ⊥
  pub refuses_replaces : Demand2 x → RefusesReplaces x → ⊥
  pub refuses_deletes : Demand2 x → RefusesDeletes x → ⊥
  -- "one that answers 6 to every lookup"
  pub six_always : Demand2 x → SixAlways x → ⊥
  -- "one whose insert reports 0 and stores nothing"
  pub stores_nothing : Demand2 x → StoresNothing x → ⊥
  pub not_found_after : Demand2 x → NotFoundAfter x → ⊥
  -- "one that stores only in the first call and pretends later"
  pub pretends_later : Demand2 x → PretendsLater x → ⊥
  pub pretends_once : Demand3 x → (q : Calls x) (k p : ℕ) (z : Scratch) → k < key_bound → member k (comes_to x q).map ≡ false → PretendsOnce x (comes_to x q) k p z → ⊥
  -- "one that makes up the visit count"
  pub makes_up_visits : Demand3 x → (q : Calls x) (k : ℕ) → k < key_bound → MakesUpVisits x (comes_to x q) k → ⊥
  pub visits_unread : Demand2 x → VisitsUnread x → ⊥
