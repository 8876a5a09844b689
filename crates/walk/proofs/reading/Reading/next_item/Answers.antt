-- `walk::reading::Reading::next_item` meets its contract: one step, and from its event on (proofs/Siftings). Assumes nothing.
use native.Mathlib.Omega.{arith}
use Rattle.walk.proofs.Siftings.{finds_of}
use Rattle.walk.proofs.reading.Reading.next_item.Goals as goal

pub find_item-requires : goal.find_item-requires
find_item-requires c =
    let p = c.requires in
    let n = c.next-first in
    record { span_fits = p.span_fits; stands = n.ensures.stands; longest_path_in_bounds = (omega (arith, n.auto.records, p.longest_path_in_bounds), omega (arith, n.auto.places, p.longest_path_in_bounds)) }

pub returns : goal.returns
returns c = finds_of c.next-first.ensures.tells c.find_item.ensures
