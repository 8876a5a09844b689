-- A session read in blocks: what is left to print after one, and how much of it stays for the next. Definitions only.
use Rattle.std.specs.Prelude.{Bool, true, List, [], ◌≡◌, ℕ, ◌+◌, ◌≤◌}
use Rattle.lines.specs.Kinds.{longest_body}
use Rattle.operations.specs.Sessions.{session}
use Rattle.operations.specs.Stepping.{State}
use Rattle.operations.specs.declared.blocks.Pause.{Pause}
use Rattle.operations.specs.declared.blocks.Pause.TheVariants.{Input, Output, Ended}

-- what is left to print of the bytes that follow, once a block was left: nothing after the session's end
abbrev pub left_after : Pause → ℕ → List ℕ → State → List ℕ
left_after Input o bs s = session o bs s
left_after Output o bs s = session o bs s
left_after Ended o bs s = []

-- of a block that is used up less than an operation stays, and of the last block nothing
abbrev pub Rests : Pause → Bool → ℕ → ℕ → Type 0
Rests Input last taken all = (all ≤ taken + longest_body) × (last ≡ true → taken ≡ all)
Rests Output last taken all = Unit
Rests Ended last taken all = Unit
