-- Lookup and replace (document 01, "The calls" and "Numbers of the answers"), on every input: the answer, the next handle and every
-- lent word; and what delete shares with them. Refusals come in the order 1, 2, 9, 6. Definitions only.
use Rattle.std.specs.Prelude.{[], ◌∷◌, ℕ, ltb, eqb, length, get_or, set, Result, Ok, Err}
use Rattle.laws.specs.Answers.{Answer, done}
use Rattle.laws.specs.Keys.{key_bound}
use Rattle.laws.specs.Pick.{pick}
use Rattle.pool.specs.Memory.{Mem, mem, payload_word}
use Rattle.store.specs.Handles.{handle_fits}
use Rattle.laws.specs.Refusals.{refusal}
use Rattle.laws.specs.declared.Refusal.{Refusal}
use Rattle.laws.specs.declared.Refusal.TheVariants.{WrongSizes, OutOfRange, NotHeld, Damage}
use Rattle.store.specs.declared.Handle.{Handle}
use Rattle.store.specs.declared.Held.{Held}
use Rattle.store.specs.declared.Looked.{Looked}
use Rattle.walk.specs.Walks.{walk_of}
use Rattle.walk.specs.declared.End.{End}
use Rattle.walk.specs.declared.End.TheVariants.{Empty, Key, Damage as EndDamage}

-- what a call leaves: its answer, the next handle, the memory
pub record Call : Type 0 where
  pub answer : Answer ℕ
  pub handle : Handle
  pub memory : Mem

abbrev pub call : Answer ℕ → Handle → Mem → Call
call a h m = record { answer = a; handle = h; memory = m }

-- what stands at the end of a key's path: damage, a slot that holds the key, or none; v nodes were visited
unfoldable pub search_end : ℕ → ℕ → End → Result Held Refusal
search_end k v (Empty q) = Err (NotHeld v)
search_end k v (Key q j) = pick (eqb j k) (Ok (record { slot = q; visits = v })) (Err (NotHeld v))
search_end k v (EndDamage c) = Err Damage

-- the refusals that lookup, replace and delete have in common, in their order: 1, 2, 9, 6
unfoldable pub search_of : Handle → ℕ → Mem → Result Held Refusal
search_of h k m =
    pick (handle_fits h m)
    (pick (ltb k key_bound) (search_end k (length (walk_of m h.root k).path) (walk_of m h.root k).end) (Err OutOfRange))
    (Err WrongSizes)

-- the answer of a search: where the key is held, what is done with its slot q after v visits
abbrev pub answer_by : {A : Type 0} → (Answer ℕ → A) → (ℕ → ℕ → A) → Result Held Refusal → A
answer_by refuse found (Ok f) = found f.slot f.visits
answer_by refuse found (Err e) = refuse (refusal e)

-- "returns the payload with the count of nodes visited"
unfoldable pub lookup_of : Handle → ℕ → Mem → Answer ℕ
lookup_of h k m = answer_by (λ a. a) (λ q v. done (get_or m.slots (payload_word q) 0 ∷ v ∷ [])) (search_of h k m)

-- "overwrites a payload"
unfoldable pub replace_of : Handle → ℕ → ℕ → Mem → Call
replace_of h k p m =
    answer_by (λ a. call a h m) (λ q v. call (done []) h (mem m.nodes (set m.slots (payload_word q) p) m.used)) (search_of h k m)

-- what each case of the code's answers is in document 01
unfoldable pub looked : Result Looked Refusal → Answer ℕ
looked (Ok l) = done (l.payload ∷ l.visits ∷ [])
looked (Err e) = refusal e

unfoldable pub changed : Result (Unit {0}) Refusal → Answer ℕ
changed (Ok u) = done []
changed (Err e) = refusal e
