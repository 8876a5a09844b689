-- The invariant: with the elements from here on, the text is whole.
use Rattle.std.proofs.Common.{◌≡◌, ◌+◌, ◌*◌, ◌-◌, ◌≤◌, length}
use Rattle.lines.specs.Lines.{longest_line, text, write}
use Rattle.operations.specs.Printing.{element_lines}
use Rattle.operations.proofs.list_elements.Given as goal

abbrev pub invariant-loop-key : goal.invariant-loop-key
invariant-loop-key l =
    let i = length l.yielded in
    (write (text l.out l.end) (element_lines l.keys l.payloads i (l.n - i)) ≡ write (text l.fn.out l.at) (element_lines l.keys l.payloads 0 l.n))
    × (l.end ≤ l.at + longest_line * i)
