-- How the answers of the calls pass to a C or Rust host: the number, and what is returned besides in fields of their own; a
-- field that the answer does not return is 0, but a handle is always there. Definitions only.
use Rattle.std.specs.Prelude.{List, ℕ, eqb, pos, get_or}
use Rattle.laws.specs.Answers.{Answer, not_held}
use Rattle.laws.specs.Pick.{pick}
use Rattle.pool.specs.Memory.{Mem}
use Rattle.sounding.specs.declared.Sounding.{Sounding}
use Rattle.store.specs.Bands.{Band}
use Rattle.desk.specs.declared.InsertedAnswer.{InsertedAnswer}
use Rattle.insert.specs.Inserting.{Insert}
use Rattle.rebuild.specs.Rebuilding.{Scratch}
use Rattle.store.specs.Calls.{Call, changed}
use Rattle.store.specs.declared.Changing.{Changing}
use Rattle.desk.specs.declared.ChangedAnswer.{ChangedAnswer}
use Rattle.desk.specs.declared.ListedAnswer.{ListedAnswer}
use Rattle.desk.specs.declared.LoadedAnswer.{LoadedAnswer}
use Rattle.desk.specs.declared.LookedAnswer.{LookedAnswer}
use Rattle.desk.specs.declared.SoundingAnswer.{SoundingAnswer}

-- 0 returns the sounding
unfoldable pub pass_sounding : Answer Sounding → SoundingAnswer
pass_sounding a = record {
  number = a.number;
  depth = (get_or a.values 0 (record { depth = pos 0; number = 0 })).depth;
  sounding = (get_or a.values 0 (record { depth = pos 0; number = 0 })).number;
}

-- 0 returns the payload and the nodes visited, 6 the nodes visited
unfoldable pub pass_looked : Answer ℕ → LookedAnswer
pass_looked a =
    pick (eqb a.number not_held)
    (record { number = a.number; payload = 0; visits = get_or a.values 0 0 })
    (record { number = a.number; payload = get_or a.values 0 0; visits = get_or a.values 1 0 })

-- what a changing call leaves, answer and memory
pub record Change : Type 0 where
  pub answer : ChangedAnswer
  pub memory : Mem

abbrev pub change : ChangedAnswer → Mem → Change
change a m = record { answer = a; memory = m }

-- 6 returns the nodes visited; the handle is the next one
unfoldable pub pass_change : Call → Change
pass_change c = change (record { number = c.answer.number; visits = get_or c.answer.values 0 0; handle = c.handle }) c.memory

-- the same of the code's answer
unfoldable pub pass_changing : Changing (Unit {0}) → ChangedAnswer
pass_changing c = record { number = (changed c.answer).number; visits = get_or (changed c.answer).values 0 0; handle = c.handle }

-- what a load leaves, answer and memory
pub record Load : Type 0 where
  pub answer : LoadedAnswer
  pub memory : Mem

abbrev pub load : LoadedAnswer → Mem → Load
load a m = record { answer = a; memory = m }

-- 4 returns the place; the handle is zeros when refused
unfoldable pub pass_load : Call → Load
pass_load c = load (record { number = c.answer.number; place = get_or c.answer.values 0 0; handle = c.handle }) c.memory

-- what a band leaves, answer and output
pub record Listing : Type 0 where
  pub answer : ListedAnswer
  pub keys : List ℕ
  pub payloads : List ℕ

abbrev pub listing : ListedAnswer → List ℕ → List ℕ → Listing
listing a ks ps = record { answer = a; keys = ks; payloads = ps }

-- 0 returns how many were listed and whether more remain
unfoldable pub pass_band : Band → Listing
pass_band b =
    listing (record { number = b.answer.number; count = get_or b.answer.values 0 0; more = get_or b.answer.values 1 0 }) b.keys b.payloads

-- what an insert leaves: answer, memory and scratch
pub record Insertion : Type 0 where
  pub answer : InsertedAnswer
  pub memory : Mem
  pub scratch : Scratch

abbrev pub insertion : InsertedAnswer → Mem → Scratch → Insertion
insertion a m s = record { answer = a; memory = m; scratch = s }

-- 0 returns conflict and tidying; the handle is the next one
unfoldable pub pass_insert : Insert → Insertion
pass_insert i =
    insertion (record { number = i.answer.number; conflict = get_or i.answer.values 0 0; tidying = get_or i.answer.values 1 0; handle = i.handle }) i.memory i.scratch
