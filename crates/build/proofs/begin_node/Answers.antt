-- `build::begin_node` meets its contract: the model is the choice over the keys, and the node takes the places found for it.
-- Assumes nothing.
use Rattle.pool.specs.Memory.{mem}
use Rattle.build.proofs.Places.{chosen_is_in_range, begins_nowhere, found_within, begins_here}
use Rattle.build.proofs.begin_node.Goals as goal

pub find_place-requires-clause-in_range : goal.find_place-requires-clause-in_range
find_place-requires-clause-in_range c = chosen_is_in_range c.args.keys.now c.requires.rising _ c.model_of-c.ensures

pub returns-in_err-place : goal.returns-in_err-place
returns-in_err-place c =
    let e = c.from_residual.ensures in
    rw e (begins_nowhere (mem c.args.nodes.now c.args.slots.now c.args.used.now) c.args.keys.now _ c.model_of-c.ensures c.in_err-place.ensures)

pub place_node-requires : goal.place_node-requires
place_node-requires c =
    let within = found_within (mem c.args.nodes.now c.args.slots.now c.args.used.now) c.args.keys.now _ c.model_of-c.ensures _ c.in_ok-place.ensures in
    record { sized = c.requires.sized; r_bound = within.0; l_bound = within.1 }

pub returns : goal.returns
returns c = begins_here (mem c.args.nodes.now c.args.slots.now c.args.used.now) c.args.keys.now _ c.model_of-c.ensures _ c.in_ok-place.ensures _ c.place_node.ensures
