-- `counters::due_at` meets its contract: each record of the path is the pool's, and what `position` finds is the first due node.
-- Assumes nothing.
use Rattle.std.proofs.Common.{◌∙◌, ◌≤◌, rules, tests, take, length, length-take-le}
use Rattle.std.proofs.lemmas.Iterator.{YieldsList-from_slice}
use Rattle.std.proofs.lemmas.Iterator.Adapters.{serves_from_places}
use Rattle.std.proofs.lemmas.Iterator.Search.{position_from_yields_List}
use Rattle.counters.specs.Counters.{due_node}
use Rattle.counters.proofs.Dues.{due_found, due_inside}
use Rattle.counters.proofs.due_at.Goals as goal

pub position-requires-clause-callable : goal.position-requires-clause-callable
position-requires-clause-callable c =
    serves_from_places (YieldsList-from_slice (take c.args.path.len c.args.path.nodes) c.iter.ensures.rest) (λ x q k. search rules) (λ x k h e.
    let inside = due_inside c.args.nodes.now c.args.path c.requires k x.now h e in
    search rules)

pub returns : goal.returns
returns c =
    let fits : c.args.path.len ≤ length c.args.path.nodes = search rules in
    let found =
    position_from_yields_List (due_node c.args.nodes.now c.args.conflict) _ _ c.position.result c.position.ensures.ran
    (YieldsList-from_slice (take c.args.path.len c.args.path.nodes) c.iter.ensures.rest)
    (λ x b q k. search (rules, tests))
    in
    c.unwrap_or.ensures ∙ due_found _ _ _ _ _ (length-take-le _ _ fits) found
