-- A session read in blocks, one after another: bytes are read behind those held, a block is run, and what is left of it is held for
-- the next, until the session ends. Definitions only.
use Rattle.std.specs.Prelude.{Bool, true, false, List, [], ◌++◌, ◌≡◌, ℕ}
use Rattle.operations.specs.Blocks.{left_after}
use Rattle.operations.specs.Sessions.{session}
use Rattle.operations.specs.Stepping.{State}
use Rattle.operations.specs.declared.blocks.Pause.{Pause}
use Rattle.operations.specs.declared.blocks.Pause.TheVariants.{Input, Output, Ended}

-- what the run of a block promises of the bytes held, whatever follows them: the session is what was printed, and then what is left
abbrev pub RunsTo : Bool → ℕ → List ℕ → State → List ℕ → Pause → ℕ → List ℕ → State → Type 0
RunsTo last o held s printed p q rest t =
    (more : List ℕ) → (last ≡ true → more ≡ []) → session o (held ++ more) s ≡ printed ++ left_after p q (rest ++ more) t

abbrev pub goes_on : Pause → Bool
goes_on Input = true
goes_on Output = true
goes_on Ended = false

-- from offset o and state s, with some bytes held and others to come, all that is printed
pub data Runs : ℕ → State → List ℕ → List ℕ → List ℕ → Type 0 where
  -- all was read and done
  stops : (o : ℕ) (s : State) → Runs o s [] [] []
  -- more is read, behind the bytes held
  reads : (o : ℕ) (s : State) (held got come printed : List ℕ) → Runs o s (held ++ got) come printed → Runs o s held (got ++ come) printed
  -- a block is run, and what is left of it is held
  goes : (o : ℕ) (s : State) (held come out printed : List ℕ) (last : Bool) (p : Pause) (q : ℕ) (rest : List ℕ) (t : State)
      → (last ≡ true → come ≡ []) → RunsTo last o held s out p q rest t → goes_on p ≡ true → Runs q t rest come printed → Runs o s held come (out ++ printed)
  -- a block is run in which the session ends
  ends : (o : ℕ) (s : State) (held come out : List ℕ) (last : Bool) (q : ℕ) (rest : List ℕ) (t : State)
      → (last ≡ true → come ≡ []) → RunsTo last o held s out Ended q rest t → Runs o s held come out
