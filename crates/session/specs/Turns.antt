-- Between two blocks of a session: what the reading of more input keeps, where the session is over, and what holds from block to
-- block. Definitions only.
use Rattle.std.specs.Prelude.{Bool, true, false, IsTrue, Option, IsNone, IfSome, ◌↔◌, List, [], ◌++◌, ◌≡◌, ℕ, ◌≤◌, length, take}
use Rattle.operations.specs.Sessions.{session, start}
use Rattle.operations.specs.Stepping.{State}
use Rattle.operations.specs.declared.blocks.Pause.{Pause}
use Rattle.operations.specs.declared.blocks.Pause.TheVariants.{Input, Output, Ended}
use Rattle.session.specs.declared.Stage.{Stage}

-- over at the session's end, and where a block is used up and no more input comes
abbrev pub over_after : Pause → Bool → Bool
over_after Input last = last
over_after Output last = false
over_after Ended last = true

-- from a stage to the next, with what was read behind the bytes held: they are as many or more, and nothing else changes; where
-- nothing was read no more comes
pub record Follows (s t : Stage) (before : List ℕ) : Type 0 where
  pub handle : t.handle ≡ s.handle
  pub offset : t.offset ≡ s.offset
  pub more : s.held ≤ t.held
  pub room : t.held ≤ length before
  pub none : t.last ≡ true → t.held ≡ s.held
  pub ended : s.last ≡ true → (t.held ≡ s.held) × (t.last ≡ true)

-- after a turn: no next stage just where the session is over, the bytes held stay in front, and the next stage follows
pub record Refilled (pause : Pause) (s : Stage) (next : Option Stage) (before after : List ℕ) : Type 0 where
  pub over : IsNone next ↔ IsTrue (over_after pause s.last)
  pub held : take s.held after ≡ take s.held before
  pub follows : IfSome next (λ t. Follows s t before)

-- a session begun at the start stands here: for some bytes got and some printed, and any to come, the session of got and to come is
-- what was printed, and then what is left to print from offset o and state t on, with the bytes held. Which bytes moved is not said:
-- the kit's read and write do not say it
pub record SoFar (last : Bool) (o : ℕ) (held : List ℕ) (t : State) : Type 0 where
  pub got : List ℕ
  pub printed : List ℕ
  pub whole : (come : List ℕ) → (last ≡ true → come ≡ []) → session 0 (got ++ come) start ≡ printed ++ session o (held ++ come) t
