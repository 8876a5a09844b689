-- `main` begins with document 01's first state, which is what `talk` requires (proofs/Turning).
use Rattle.std.proofs.Common.{refl}
use Rattle.pool.specs.Memory.{mem}
use Rattle.session.proofs.Turning.{begun}
use Rattle.session.proofs.main.Goals as goal

pub talk-requires-clause-listed_payloads_value : goal.talk-requires-clause-listed_payloads_value
talk-requires-clause-listed_payloads_value c =
    begun c.zeros-nodes.result c.zeros-slots.result c.zeros-used.result (mem c.load-loaded.new.nodes c.load-loaded.new.slots c.load-loaded.new.used) _ c.in-Ok.h
    c.zeros-keys.result c.zeros-payloads.result c.zeros-places.result c.zeros-listed_keys.result c.zeros-listed_payloads.result
    refl c.in-Ok.ensures c.zeros-nodes.ensures c.zeros-slots.ensures c.zeros-used.ensures
    c.zeros-keys.ensures c.zeros-payloads.ensures c.zeros-places.ensures c.zeros-listed_keys.ensures c.zeros-listed_payloads.ensures
