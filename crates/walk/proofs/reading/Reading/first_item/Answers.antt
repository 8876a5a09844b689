-- `walk::reading::Reading::first_item` meets its contract: the first event, and from it on (proofs/Siftings). Assumes nothing.
use mathlib.Core.List.{[]}
use Rattle.walk.proofs.Siftings.{finds_of}
use Rattle.walk.proofs.reading.Reading.first_item.Goals as goal

pub find_item-requires : goal.find_item-requires
find_item-requires c = record { span_fits = c.requires.span_fits; stands = (c.start-first.ensures [] []).stands; longest_path_in_bounds = c.requires.longest_path_in_bounds }

pub returns : goal.returns
returns c = finds_of (c.start-first.ensures _ _).tells c.find_item.ensures
