-- The invariant: what is written already, with the numbers that are left and the line's end after it, is the whole line.
use Rattle.std.proofs.Common.{◌≡◌, ◌+◌, ◌*◌, ◌≤◌, drop}
use Rattle.lines.specs.Lines.{line, longest_number, numbers, text, write}
use Rattle.lines.proofs.line.Given as goal

abbrev pub invariant-loop-n : goal.invariant-loop-n
invariant-loop-n l =
    (write (text l.out l.end) (numbers (drop l.n-index l.numbers)) ≡ write (text l.fn.out l.at) (line l.head l.numbers))
    × (l.end ≤ l.at + 1 + longest_number * l.n-index)
